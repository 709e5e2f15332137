use Rattle.std.proofs.Common.{◌≡◌, ◌∙◌, ℕ, ◌+◌, ◌-◌, ◌≤◌, List, length, refl, sym, ap, arith}
use Rattle.std.specs.Prelude.{Ok, Err, Some, slice_get}
use Rattle.std.proofs.lemmas.Result.{err_from_is_err_and}
use Rattle.room_io.specs.declared.room.Slot.TheVariants.{Config}
use Rattle.comtrade_write.specs.Recordings.{config_of}
use Rattle.relay_tool.specs.Files.{is_written}
use Rattle.relay_tool.specs.Output.{config_item}
use Rattle.relay_tool.proofs.Writing.{OnlyUses-refl, OnlyUses-trans, OnlyUses-at, Makes-nothing, put-made}
use Rattle.relay_tool.proofs.Hearing.{events-done}
use Rattle.relay_tool.proofs.Pairing.{config_of-length, line-made, line-stopped}
use Rattle.relay_tool.proofs.pair.put_config.Goals as goal

pub loop-done-init : goal.loop-done-init
loop-done-init g c = record {
  within = omega arith;
  long = λ common settings k past stands some. absurd (omega arith);
  ready = c.requires.config;
  only = OnlyUses-refl is_written _;
  made = λ common settings k past stands. Makes-nothing _;
}

pub loop-done-preserved : goal.loop-done-preserved
loop-done-preserved g c =
    let i = c.loop-done.invariant in
    record {
      within = omega (arith, c.loop-done-test.true);
      long = λ common settings k past stands _. config_of-length common settings k past _ _ (c.config_line.ensures common settings k past stands);
      ready = (refl, c.in_ok-put.ensures.stays.ready ∙ i.ready.1);
      only = OnlyUses-trans i.only (OnlyUses-at is_written Config refl c.in_ok-put.ensures.only c.in_ok-put.ensures.stays c.in_ok-put.ensures.later);
      made = λ common settings k past stands.
          let place : c.loop-done.done ≡ c.loop-done.done + 1 - 1 = omega arith in
          line-made (config_item settings.name) (config_of common settings k past) c.loop-done.done c.as_slice.result.now
          (ap (λ n. slice_get (config_of common settings k past) n) place ∙ (c.config_line.ensures common settings k past stands ∙ ap (λ (xs : List ℕ). Some xs) (sym c.as_slice.ensures.value)))
          (i.made common settings k past stands) (put-made Config (Some settings.name) (Ok tt) refl c.in_ok-put.ensures);
    }

pub returns-in_err-put-clause-only : goal.returns-in_err-put-clause-only
returns-in_err-put-clause-only g c =
    OnlyUses-trans c.loop-done.invariant.only (OnlyUses-at is_written Config refl c.in_err-put.ensures.only c.in_err-put.ensures.stays c.in_err-put.ensures.later)

pub returns-in_err-put-clause-made : goal.returns-in_err-put-clause-made
returns-in_err-put-clause-made g c common settings k past stands =
    let p = err_from_is_err_and c.from_residual.result c.from_residual.ensures.1 in
    let place : c.loop-done.done ≡ c.loop-done.done + 1 - 1 = omega arith in
    rw (p.1, p.2)
    (line-stopped (config_item settings.name) (config_of common settings k past) c.loop-done.done c.as_slice.result.now
    (ap (λ n. slice_get (config_of common settings k past) n) place ∙ (c.config_line.ensures common settings k past stands ∙ ap (λ (xs : List ℕ). Some xs) (sym c.as_slice.ensures.value)))
    (c.loop-done.invariant.made common settings k past stands) (put-made Config (Some settings.name) (Err c.in_err-put.field-0.0) refl c.in_err-put.ensures))

pub returns-clause-made : goal.returns-clause-made
returns-clause-made g c common settings k past stands =
    let all : length (config_of common settings k past) ≤ c.loop-done.done = let l = c.loop-done.invariant.long common settings k past stands (omega (arith, c.loop-done-test.false)) in omega (arith, c.loop-done-test.false) in
    events-done (config_item settings.name) (config_of common settings k past) c.loop-done.done all (c.loop-done.invariant.made common settings k past stands)
