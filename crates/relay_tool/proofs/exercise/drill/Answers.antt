use Rattle.std.proofs.Common.{◌≡◌, ◌∙◌, ℕ, List, [], length, refl, sym, subst, ap, arith}
use Rattle.std.specs.List.{All}
use Rattle.std.proofs.lemmas.Result.{err_from_is_err_and}
use Rattle.relay_settings.specs.Settings.{PlainSettings}
use Rattle.station.specs.KeptStation.{StandsFor}
use Rattle.drill.specs.PlanLeft.{frames_left}
use Rattle.drill.proofs.CountLemmas.{how_many, how_long}
use Rattle.drill.specs.DrillSettings.{drill_settings}
use Rattle.relay_tool.specs.Words.{drill}
use Rattle.relay_tool.proofs.Replaying.{memory-end}
use Rattle.relay_tool.proofs.Checking.{answered, answer-done, answer-fault}
use Rattle.relay_tool.proofs.Drilling.{drill-read, drill-started, drill-text}
use Rattle.relay_tool.proofs.exercise.drill.Goals as goal

pub run_plan-counted-requires-clause-few : goal.run_plan-counted-requires-clause-few
run_plan-counted-requires-clause-few g c =
    let e = ap length c.of-plan.ensures in
    let n = how_many c.args.seed c.args.seconds in
    let s = c.requires.seconds.1 in omega arith

pub run_plan-counted-requires-clause-short : goal.run_plan-counted-requires-clause-short
run_plan-counted-requires-clause-short g c =
    subst (λ (xs : List (List ℕ)). All (λ f. length f ≡ 205) xs) (sym c.of-plan.ensures) (how_long c.args.seed c.args.seconds)

pub returns-in_err-settings : goal.returns-in_err-settings
returns-in_err-settings g c =
    let p = err_from_is_err_and c.from_residual.result c.from_residual.ensures.1 in
    rw (p.1, p.2) (memory-end (drill c.args.seed c.args.seconds) (drill-read c.args.seed c.args.seconds c.requires.unused (record { unopened = g.met.R.Room.unopened c.args.room.now })))

pub returns-in_err-station : goal.returns-in_err-station
returns-in_err-station g c =
    let p = err_from_is_err_and c.from_residual-in_err-station.result c.from_residual-in_err-station.ensures.1 in
    rw (p.1, p.2) (memory-end (drill c.args.seed c.args.seconds) (drill-read c.args.seed c.args.seconds c.requires.unused (record { unopened = g.met.R.Room.unopened c.args.room.now })))

pub returns-in_err-put : goal.returns-in_err-put
returns-in_err-put g c =
    let p = err_from_is_err_and c.from_residual-in_err-put.result c.from_residual-in_err-put.ensures.1 in
    let stands = subst (λ (s : PlainSettings). StandsFor s [] c.in_ok-station.station) c.in_ok-settings.ensures.value c.in_ok-station.ensures.0 in
    let text = drill-text c.args.seed c.args.seconds c.run_plan-counted.result.0 c.run_plan-counted.result.1 (frames_left c.of-plan.result) c.as_slice.result.now
    c.of-plan.ensures c.run_plan-counted.ensures.frames (c.run_plan-counted.ensures.counts drill_settings stands) (c.as_slice.ensures.value ∙ c.summary_of-answer.ensures) in
    rw (p.1, p.2) (answer-fault (drill c.args.seed c.args.seconds) (λ e. e) _ c.as_slice.result.now (drill-read c.args.seed c.args.seconds c.requires.unused (record { unopened = g.met.R.Room.unopened c.args.room.now }))
    (λ told. ap answered (sym text)) c.in_err-put.field-0.0 refl c.in_err-put.ensures)

pub returns : goal.returns
returns g c =
    let stands = subst (λ (s : PlainSettings). StandsFor s [] c.in_ok-station.station) c.in_ok-settings.ensures.value c.in_ok-station.ensures.0 in
    let text = drill-text c.args.seed c.args.seconds c.run_plan-counted.result.0 c.run_plan-counted.result.1 (frames_left c.of-plan.result) c.as_slice.result.now
    c.of-plan.ensures c.run_plan-counted.ensures.frames (c.run_plan-counted.ensures.counts drill_settings stands) (c.as_slice.ensures.value ∙ c.summary_of-answer.ensures) in
    answer-done (drill c.args.seed c.args.seconds) (λ e. e) _ c.as_slice.result.now (drill-read c.args.seed c.args.seconds c.requires.unused (record { unopened = g.met.R.Room.unopened c.args.room.now }))
    (λ told. ap answered (sym text)) (drill-started c.args.seed c.args.seconds c.requires.unused) c.in_ok-put.ensures
