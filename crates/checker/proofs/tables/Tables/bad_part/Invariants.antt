use Rattle.std.proofs.Common.{◌≡◌, ℕ, ◌+◌, length, get_or, take}
use Rattle.theory.specs.Laws.{times, uses}
use Rattle.checker.proofs.tables.Tables.bad_part.Given as goal

abbrev pub invariant-loop-part : goal.invariant-loop-part
invariant-loop-part l = (length l.counts ≡ 2048) × ((j : ℕ) → get_or l.counts j 0 ≡ uses j (take l.r-index l.self.terms.now) + times j (take l.part-index l.part-items))

abbrev pub invariant-loop-r : goal.invariant-loop-r
invariant-loop-r l = (length l.counts ≡ 2048) × ((j : ℕ) → get_or l.counts j 0 ≡ uses j (take l.r-index l.self.terms.now))
