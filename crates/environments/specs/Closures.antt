-- Closures. An environment is a number: 0 where it is empty, and k + 1 where cell k is its nearest binding.
use Rattle.std.specs.Prelude.{ℕ}

-- What a name can be bound to: a number, or the place of a node that is no name, with the environment of its names.
pub data Closed : Type 0 where
  Number : ℕ → Closed
  Row : ℕ → ℕ → Closed
