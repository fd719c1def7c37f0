-- A contradiction between constructors.
use Rattle.std.proofs.Common.{◌≡◌, ℕ, arith}

pub clash : {P : Type 0} → ◌≡◌ {A = ℕ} 0 1 → P
clash e = absurd (omega arith)
