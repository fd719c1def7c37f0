-- A stack as a list, and its room.
use Rattle.std.specs.Prelude.{ℕ, List, length}
use Rattle.rows.specs.Entries.{entries}
use Rattle.rows.specs.declared.stack.Stack.{Stack}

abbrev pub view : {X : Type 0} → Stack X → List X
view s = entries s.slots.now s.height

abbrev pub room : {X : Type 0} → Stack X → ℕ
room s = length s.slots.now
