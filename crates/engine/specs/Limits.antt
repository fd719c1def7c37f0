-- Which limits are too much, and the numbers by which they are refused.
use Rattle.std.specs.Prelude.{ℕ, cond, Some, None, Option, nat_lt}
use Rattle.engine.specs.declared.limits.making.LimitFault.{LimitFault}
use Rattle.engine.specs.declared.limits.making.LimitFault.TheVariants.{Fuel, Frames, Cells}

abbrev pub limit_number : LimitFault → ℕ
limit_number Fuel = 41
limit_number Frames = 42
limit_number Cells = 43

-- the first limit that is above the most
abbrev pub limit_fault : ℕ → ℕ → ℕ → Option LimitFault
limit_fault fuel frames cells =
    cond (nat_lt 1000000000 fuel) (Some Fuel) (cond (nat_lt 512 frames) (Some Frames) (cond (nat_lt 2048 cells) (Some Cells) None))
