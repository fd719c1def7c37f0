-- Tables that are computed from the question.
use Rattle.std.specs.Prelude.{◌≡◌, ℕ, ◌≤◌, cond, Some, None, nat_le}
use Rattle.std.proofs.Common.{arith}
use Rattle.std.proofs.lemmas.Bool.{cond_both, cond-false, leb-true, lt-leb}
use Rattle.rows.specs.Limits.{top}
use Rattle.counters.specs.Tables.{Table, Lawful}

-- What f gives of each question up to the last one; nothing above.
abbrev pub up_to : ℕ → (ℕ → ℕ) → Table
up_to last f question = cond (nat_le question last) (Some (f question)) None

-- Such a table is lawful where the last question is one, and what f gives up to it are amounts.
pub up_to_lawful : (last : ℕ) (f : ℕ → ℕ) → last ≤ top → ((question : ℕ) → question ≤ last → f question ≤ top) → Lawful (up_to last f)
up_to_lawful last f short small = record {
  amounts = λ q n. cond_both (nat_le q last) (Some (f q)) None (λ o. o ≡ Some n → n ≤ top)
      (λ t e. let s : f q ≡ n = cc in omega (arith, small q (leb-true q last t)))
      (λ _ e. let z : ◌≡◌ {A = ℕ} 0 1 = cc in omega arith);
  above = λ q big. cond-false (nat_le q last) _ _ (lt-leb q last (omega arith));
}
