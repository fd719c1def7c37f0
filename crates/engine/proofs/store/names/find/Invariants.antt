use Rattle.std.proofs.Common.{◌≡◌, ◌-◌}
use Rattle.engine.specs.Stores.{find_in}
use Rattle.engine.proofs.store.names.find.Given as goal

-- the way that is left leads to the same binding
abbrev pub invariant-loop : goal.invariant-loop
invariant-loop l = find_in l.cells l.at (l.name - l.counter) ≡ find_in l.cells l.env l.name
