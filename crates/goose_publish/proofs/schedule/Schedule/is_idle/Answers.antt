use Rattle.std.proofs.Common.{◌≡◌, ◌<◌, ◌∙◌, subst, ap, ap₂, sym, refl, leb, false, List, ◌∷◌, ◌||◌}
use Rattle.std.specs.Prelude.{not, if◌then◌else◌}
use Rattle.std.specs.Option.{ForSome, is_some}
use Rattle.std.proofs.lemmas.Bool.{not-true, not-false, leb-false, both_ways}
use Rattle.relay_settings.specs.declared.types.Common.{Common}
use Rattle.relay_settings.specs.Times.{samples}
use Rattle.goose_publish.specs.declared.points.Points.{Points}
use Rattle.goose_publish.specs.Publishing.{PointsTake, take_of, RisesTo, changes_now, is_due, next_count}
use Rattle.goose_publish.specs.Schedules.{HasTaken, points_now}
use Rattle.goose_publish.proofs.ScheduleLemmas.{stays, was_passed, due_now, same_next}
use Rattle.goose_publish.proofs.schedule.Schedule.is_idle.Goals as goal

module _ (c : goal.After-is_within) (common : Common) (takes : List PointsTake) (points : Points)
    (stands : HasTaken common takes c.args.self.now) (rises : RisesTo (take_of c.args.number points) takes)
    (same : ForSome (points_now takes) (λ last. last ≡ points)) where
  abbrev t : PointsTake
  t = take_of c.args.number points

  unchanged : changes_now (t ∷ takes) ≡ false
  unchanged = stays t takes same
      (λ none. both_ways _ c.if-is_none.false (not-false _ (sym c.is_none.ensures ∙ ap is_some (stands.last ∙ none))))

  due : c.is_within.result ≡ is_due common (t ∷ takes)
  due = c.is_within.ensures ∙ ap₂ (λ rate ms. leb (samples rate ms) c.saturating_sub.result) stands.pace.at.rate stands.pace.at.next
      ∙ sym (due_now common takes c.args.self.now stands t rises c.saturating_sub.result c.saturating_sub.ensures unchanged)

pub returns-clause-idle : goal.returns-clause-idle
returns-clause-idle c common takes points stands rises same =
    let t = take_of c.args.number points in
    ap not (due c common takes points stands rises same
    ∙ sym (ap (λ b. b || is_due common (t ∷ takes)) (unchanged c common takes points stands rises same)))

pub returns-clause-after : goal.returns-clause-after
returns-clause-after c common takes points stands rises same idle =
    let t = take_of c.args.number points in
    let ahead = not-true _ idle in
    let no_frame = sym (due c common takes points stands rises same) ∙ ahead in
    same_next common takes c.args.self.now stands t rises c.saturating_sub.result c.saturating_sub.ensures
    (unchanged c common takes points stands rises same) c.args.self.now refl refl refl
    (sym (ap (λ b. if b then next_count c.args.self.now.sequence else c.args.self.now.sequence) no_frame))
    (record {
      k = stands.pace.k;
      at = stands.pace.at;
      passed = was_passed common takes c.args.self.now stands t rises c.saturating_sub.result c.saturating_sub.ensures
          (unchanged c common takes points stands rises same);
      ahead = subst (λ ms. c.saturating_sub.result < samples common.rate ms) stands.pace.at.next
          (subst (λ rate. c.saturating_sub.result < samples rate c.args.self.now.pace.next_ms) stands.pace.at.rate
          (leb-false _ _ (sym c.is_within.ensures ∙ ahead)));
    })
