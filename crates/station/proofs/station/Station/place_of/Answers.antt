use Rattle.station.proofs.station.Station.place_of.Goals as goal

pub returns-then-owns_at-clause-mine : goal.returns-then-owns_at-clause-mine
returns-then-owns_at-clause-mine c settings past stands = c.owns_at.ensures.mine settings past stands c.if-owns_at.true
