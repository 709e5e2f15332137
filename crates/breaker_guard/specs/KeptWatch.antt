-- What a guard holds of the trips: where the newest of them stands, and the newest reclosing.
use Rattle.std.specs.Prelude.{ℕ, ◌≡◌, ◌-◌, Bool, true, false, not, ◌&&◌, ◌||◌, nat_le, if◌then◌else◌, List, [], ◌∷◌, Option, Some, None, is_some, slice_get}
use Rattle.breaker_guard.specs.declared.waits.Waits.{Waits}
use Rattle.breaker_guard.specs.declared.event.GuardWhat.{GuardWhat}
use Rattle.breaker_guard.specs.declared.event.GuardWhat.TheVariants.{Final, Fail, Reclose}
use Rattle.breaker_guard.specs.declared.watch.Stage.{Stage}
use Rattle.breaker_guard.specs.declared.watch.Stage.TheVariants.{Idle, Standing, Waiting}
use Rattle.breaker_guard.specs.declared.watch.Watch.{Watch}
use Rattle.breaker_guard.specs.GuardTakes.{GuardTake}
use Rattle.breaker_guard.specs.TripSpans.{TripSpan, reset_of, trips_of}
use Rattle.breaker_guard.specs.Guarding.{fails_at, dead_until, reclosings, is_final}

-- where a trip stands that rose at this number, by whether it failed, is final, resets and is past its dead time
abbrev pub stage_by : ℕ → Bool → Bool → Option ℕ → Bool → Stage
stage_by rise failed final' None past_dead = Standing rise failed final'
stage_by rise failed final' (Some reset) past_dead = if failed || final' || past_dead then Idle else Waiting reset

-- the newest trip decides
abbrev pub stage_of : Waits → List TripSpan → Stage
stage_of waits [] = Idle
stage_of waits (trip ∷ older) = stage_by trip.rise (is_some (fails_at waits trip)) (is_final waits trip older) (reset_of trip) (is_some (dead_until waits trip))

-- the number of the newest reclosing
abbrev pub closed_of : Waits → List TripSpan → Option ℕ
closed_of waits trips = slice_get (reclosings waits trips) 0

pub record StandsFor (waits : Waits) (takes : List GuardTake) (watch : Watch) : Type 0 where
  pub same_waits : watch.waits ≡ waits
  pub stage : watch.stage ≡ stage_of waits (trips_of takes)
  pub closed : watch.closed ≡ closed_of waits (trips_of takes)

-- what a watch holds after a sample, and what it tells
pub record WatchStep : Type 0 where
  pub stage : Stage
  pub closed : Option ℕ
  pub told : Option GuardWhat

-- whether the reclaim time of the newest reclosing still runs
abbrev pub reclaims : ℕ → ℕ → Option ℕ → Bool
reclaims reclaim number None = false
reclaims reclaim number (Some closed) = nat_le (number - closed) reclaim

abbrev pub rise_step : Waits → ℕ → Option ℕ → WatchStep
rise_step waits number closed = record {
  stage = Standing number false (reclaims waits.reclaim number closed);
  closed = closed;
  told = if reclaims waits.reclaim number closed then Some Final else None;
}

-- without a trip
abbrev pub idle_step : Option ℕ → WatchStep
idle_step closed = record { stage = Idle; closed = closed; told = None }

abbrev pub end_step : ℕ → Bool → Bool → Option ℕ → WatchStep
end_step number failed final' closed = record { stage = if failed || final' then Idle else Waiting number; closed = closed; told = None }

-- whether the dead time is over by now
abbrev pub wait_step : Bool → ℕ → ℕ → Option ℕ → WatchStep
wait_step true number reset closed = record { stage = Idle; closed = Some number; told = Some Reclose }
wait_step false number reset closed = record { stage = Waiting reset; closed = closed; told = None }

-- whether the trip, which still stands, fails now
abbrev pub stand_step : Bool → ℕ → Bool → Bool → Option ℕ → WatchStep
stand_step true rise failed final' closed = record { stage = Standing rise true final'; closed = closed; told = Some Fail }
stand_step false rise failed final' closed = record { stage = Standing rise failed final'; closed = closed; told = None }

abbrev pub is_failing : Waits → GuardTake → ℕ → Bool → Bool
is_failing waits t rise failed = not failed && (t.flowing && nat_le waits.fail (t.number - rise))

abbrev pub step_of : Waits → GuardTake → Stage → Option ℕ → WatchStep
step_of waits t Idle closed = if t.trip then rise_step waits t.number closed else idle_step closed
step_of waits t (Standing rise failed final') closed =
    if t.trip then stand_step (is_failing waits t rise failed) rise failed final' closed else end_step t.number failed final' closed
step_of waits t (Waiting reset) closed =
    if t.trip then rise_step waits t.number closed else wait_step (nat_le waits.dead (t.number - reset)) t.number reset closed
