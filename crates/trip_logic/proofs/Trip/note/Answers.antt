use Rattle.std.proofs.Common.{rules}
use Rattle.trip_logic.specs.Takes.{take_of}
use Rattle.trip_logic.proofs.KeptTripLemmas.{operated_next, none_next, idle_next}
use Rattle.trip_logic.proofs.Trip.note.Goals as goal

pub returns-then-operated : goal.returns-then-operated
returns-then-operated c least open_run takes stands follows =
    operated_next least open_run takes c.args.self.now stands (take_of c.args.number c.args.operated c.args.dead) c.run_after-self.result follows
    c.run_after-self.ensures c.if-operated.true

pub returns-in-Some : goal.returns-in-Some
returns-in-Some c least open_run takes stands follows =
    idle_next least open_run takes c.args.self.now stands (take_of c.args.number c.args.operated c.args.dead) c.run_after-self.result follows
    c.run_after-self.ensures c.in-Some.last _ c.if-operated.false c.in-Some.is (cc)

pub returns-in_default : goal.returns-in_default
returns-in_default c least open_run takes stands follows =
    none_next least open_run takes c.args.self.now stands (take_of c.args.number c.args.operated c.args.dead) c.run_after-self.result follows
    c.run_after-self.ensures c.if-operated.false (search rules)
