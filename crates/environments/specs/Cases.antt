-- Tables run by the environment machine: the term that each holds, and the halt and the cells that it comes to.
-- Above each case stands how its numbers come of the machine's rules, counted by hand.
use Rattle.std.specs.Prelude.{◌≡◌, ℕ, true, cond, List, [], ◌∷◌, Some, None, ◌==◌}
use Rattle.rows.specs.Meanings.{Meaning}
use Rattle.rows.specs.declared.tables.TypeRow.{TypeRow}
use Rattle.rows.specs.declared.tables.TermRow.{TermRow}
use Rattle.rows.specs.Rows.{type_row, nat_row}
use Rattle.theory.specs.Syntax.{nat, to, both, succ, fst, get, add, sub, mul, pair, calc, Term, num, name, one, two}
use Rattle.theory.specs.Syntax.{ifz, lam, app, fix, fail, catch}
use Rattle.theory.specs.Emit.{Tables}
use Rattle.theory.specs.Stands.{rule_of}
use Rattle.runs.specs.Standings.{Limits, Status, number, failed, spent, tall, full}
use Rattle.environments.specs.Nodes.{nodes_of}
use Rattle.environments.specs.NodeTerms.{nodes_lawful}
use Rattle.environments.specs.Closures as D
use Rattle.environments.specs.Values as V
use Rattle.environments.specs.Cells.{Cell}
use Rattle.environments.specs.Cells as C
use Rattle.environments.specs.Runs.{Standing, status, opening, advanced}

-- ---- counters and limits

-- The counter that answers a to the question q, and nothing to any other.
abbrev pub only : ℕ → ℕ → Meaning
only q a x = cond (x == q) (Some a) None

-- The counter that answers nothing.
abbrev pub nothing : Meaning
nothing x = None

-- Limits of fuel, frames and cells.
abbrev pub limits : ℕ → ℕ → ℕ → Limits
limits f k c = record { fuel = f; frames = k; cells = c }

-- The limits where none are named.
abbrev pub wide : Limits
wide = limits 1000 64 256

-- ---- tables

-- A row: kind, type, number, and three parts.
abbrev pub row : ℕ → ℕ → ℕ → ℕ → ℕ → ℕ → TermRow
row k t n a b c = record { kind = k; ty = t; number = n; a = a; b = b; c = c }

-- A number, a name, and a form without a type.
abbrev pub digits : ℕ → TermRow
digits n = row 0 0 n 0 0 0

abbrev pub hash : ℕ → TermRow
hash d = row 1 0 d 0 0 0

abbrev pub form : ℕ → ℕ → ℕ → ℕ → TermRow
form k a b c = row k 0 0 a b c

-- nat, (to nat nat) and (both nat nat)
abbrev pub types : List TypeRow
types = nat_row ∷ type_row 1 0 0 ∷ type_row 2 0 0 ∷ []

-- (ifz (sub 12 (get 7)) (mul (get 7) 35) (mul (get 7) 40))
abbrev pub rolls : Tables
rolls = (
  types,
  digits 12 ∷ digits 7 ∷ form 13 1 0 0 ∷ form 11 0 2 0 ∷ digits 7 ∷ form 13 4 0 0 ∷ digits 35 ∷ form 12 5 6 0
      ∷ digits 7 ∷ form 13 8 0 0 ∷ digits 40 ∷ form 12 9 10 0 ∷ form 3 3 7 11 ∷ [],
)

-- (ap (lam (to nat nat) (ap (lam (to nat nat) (add #0 #1)) #0)) 3)
abbrev pub doubled : Tables
doubled = (
  types,
  hash 0 ∷ hash 1 ∷ form 10 0 1 0 ∷ row 4 1 0 2 0 0 ∷ hash 0 ∷ form 5 3 4 0 ∷ row 4 1 0 5 0 0 ∷ digits 3 ∷ form 5
      6 7 0 ∷ [],
)

-- (ifz 2 0 (s #0))
abbrev pub counted : Tables
counted = (types, digits 2 ∷ digits 0 ∷ hash 0 ∷ form 2 2 0 0 ∷ form 3 0 1 3 ∷ [])

-- (fst (pair (both nat nat) 1 2))
abbrev pub half : Tables
half = (types, digits 1 ∷ digits 2 ∷ row 7 2 0 0 1 0 ∷ form 8 2 0 0 ∷ [])

-- (catch (catch (fail nat) (fail nat)) 3)
abbrev pub caught : Tables
caught = (types, form 14 0 0 0 ∷ form 14 0 0 0 ∷ form 15 0 1 0 ∷ digits 3 ∷ form 15 2 3 0 ∷ [])

-- (fix nat #0)
abbrev pub endless : Tables
endless = (types, hash 0 ∷ form 6 0 0 0 ∷ [])

-- ---- cases

-- The tables hold the term e as their rule, and their nodes are lawful.
abbrev pub Holds : Tables → Term → Type 0
Holds s e = (rule_of s ≡ e) × (nodes_lawful (nodes_of s) ≡ true)

-- The status, the steps and the moves, with the cells that were made.
abbrev pub Halt : Type 0
Halt = Status × ℕ × ℕ × List Cell

abbrev pub halt : Tables → Limits → Standing → Halt
halt s L r = (status (nodes_of s) L r, r.steps, r.moves, r.state.cells)

-- An advance by 100 of the tables' rule halts so.
abbrev pub Ends : Meaning → Limits → Tables → Halt → Type 0
Ends M L s h = halt s L (advanced (nodes_of s) M L 100 (opening (nodes_of s))) ≡ h

pub record Cases : Type 0 where
  pub rolls_held :
      Holds rolls
      (ifz (two (calc sub) (num 12) (one get (num 7))) (two (calc mul) (one get (num 7)) (num 35))
      (two (calc mul) (one get (num 7)) (num 40)))
  -- Up to the answer of get 7: ifz opens, sub opens, 12, on to sub's second part, get opens, 7, the answer (a
  -- move). Then 12 - 12 = 0 (a move), ifz takes its first branch (a move), mul opens, get opens, 7, the answer (a
  -- move), on to the second part, 35, and 12 * 35 (a move): 7 + 9 steps, 1 + 4 moves.
  pub dozen : Ends (only 7 12) wide rolls (number 420, 16, 5, [])
  -- No answer: the failure drops sub and ifz, a move each. 7 + 2 steps, 1 + 2 moves.
  pub no_line : Ends nothing wide rolls (failed, 9, 3, [])
  -- 12 - 0 = 12, so ifz takes its second branch and binds 11 outside of every name: one cell.
  pub line_of_0 : Ends (only 7 0) wide rolls (number 0, 16, 5, C.Bound (D.Number 11) 0 ∷ [])
  pub doubled_held : Holds doubled (app (lam (to nat nat)
      (app (lam (to nat nat) (two (calc add) (name 0) (name 1))) (name 0))) (num 3))
  -- ap opens, lam, the body is entered with row 7 for its name (a move and cell 0); ap opens, lam, the body is
  -- entered with what #0 is bound to, again row 7, inside cell 0 (a move and cell 1); add opens, 3, on to the
  -- second part, 3, the sum (a move).
  pub name_of_name : Ends nothing wide doubled (number 6, 11, 3, C.Bound (D.Row 7 0) 0 ∷ C.Bound (D.Row 7 0) 1 ∷ [])
  pub counted_held : Holds counted (ifz (num 2) (num 0) (one succ (name 0)))
  -- ifz opens, 2, the second branch with 1 for its name (a move and a cell), s opens, 1, one more (a move).
  pub number_bound : Ends nothing wide counted (number 2, 6, 2, C.Bound (D.Number 1) 0 ∷ [])
  pub half_held : Holds half (one fst (two (pair (both nat nat)) (num 1) (num 2)))
  -- fst opens, pair opens, 1, on to the second part, 2, the pair (a cell, no move), its first half (a move).
  pub half_taken : Ends nothing wide half (number 1, 7, 1, C.Pair (both nat nat) (V.Number 1) (V.Number 2) ∷ [])
  pub caught_held : Holds caught (catch (catch (fail nat) (fail nat)) (num 3))
  -- Both catches open, fail, the inner catch goes to its second part (a move), fail, the outer one too (a move), 3.
  pub caught_twice : Ends nothing wide caught (number 3, 7, 2, [])
  pub endless_held : Holds endless (fix nat (name 0))
  -- Each step binds the fix, row 1 in no environment, once more: what #0 is bound to is found, and no cell is bound
  -- inside another. The third cell is the last that is allowed.
  pub few_cells : Ends nothing (limits 1000 64 3) endless
      (full, 3, 3, C.Bound (D.Row 1 0) 0 ∷ C.Bound (D.Row 1 0) 0 ∷ C.Bound (D.Row 1 0) 0 ∷ [])
  -- The first step would add a frame.
  pub no_frames : Ends nothing (limits 1000 0 256) half (tall, 0, 0, [])
  -- No step is allowed.
  pub no_fuel : Ends nothing (limits 0 64 256) half (spent, 0, 0, [])
