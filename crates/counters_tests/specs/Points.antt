-- Points for money.
use Rattle.std.specs.Prelude.{ℕ, ◌/◌}
use Rattle.std.proofs.Common.{arith}
use Rattle.rows.specs.Limits.{top}
use Rattle.counters.specs.Tables.{Lawful}
use Rattle.counters_tests.specs.UpTo.{up_to, up_to_lawful}

-- A point for each full hundred.
abbrev pub points : ℕ → ℕ
points money = money / 100

pub points_lawful : Lawful (up_to top points)
points_lawful = up_to_lawful top points (omega arith) (λ q h. omega arith)
