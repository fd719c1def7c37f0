-- What a step does to a store, and where it leads.
use Rattle.std.specs.Prelude.{ℕ, ◌+◌, ◌-◌, List, [], length, Some, None, Option, nat_lt, ◌==◌, slice_index_or, if◌then◌else◌}
use Rattle.rows.specs.declared.tables.TermRow.{TermRow}
use Rattle.rows.specs.declared.forms.Form.TheVariants as R
use Rattle.rows.specs.declared.forms.Head.{Head}
use Rattle.rows.specs.declared.forms.Head.TheVariants as H
use Rattle.rows.specs.Forms.{head_at}
use Rattle.rows.specs.Meanings.{Meaning}
use Rattle.checker.specs.Sheets.{tables}
use Rattle.machine.specs.Steps.{result}
use Rattle.engine.specs.declared.state.Op.TheVariants as O
use Rattle.engine.specs.declared.state.Value.{Value}
use Rattle.engine.specs.declared.state.Value.TheVariants as V
use Rattle.engine.specs.declared.state.Frame.{Frame}
use Rattle.engine.specs.declared.state.Frame.TheVariants as F
use Rattle.engine.specs.declared.state.Cell.{Cell}
use Rattle.engine.specs.declared.state.Cell.TheVariants as C
use Rattle.engine.specs.declared.state.Mode.{Mode}
use Rattle.engine.specs.declared.state.Mode.TheVariants as M
use Rattle.engine.specs.declared.state.Next.{Next}
use Rattle.engine.specs.declared.state.Next.TheVariants as N
use Rattle.engine.specs.declared.control.Machine.{Machine}
use Rattle.engine.specs.declared.control.Program.{Program}
use Rattle.engine.specs.Contents.{Contents}
use Rattle.engine.specs.View.{row_at, op_of}
use Rattle.engine.specs.Values.{limited_to, answered_by, closure_mode, halves_of, bound_to}
use Rattle.engine.specs.Stores.{no_cell, top_of, pushed, popped, seconded, allocated, entered}

-- a store afterwards, and where the step leads, or nothing where none is made
abbrev pub Choice : Type 0
Choice = Contents × Option Next

-- where a machine with these cells stands at a row in an environment
abbrev pub stands_at : Program → List Cell → ℕ → ℕ → Mode
stands_at p cs r e = closure_mode (entered (tables p.sheet).1 cs r e)

-- a machine with nothing in its store, at a row in the empty environment
abbrev pub begun : List TermRow → ℕ → Machine
begun rows r = record { store = record { frames = []; cells = [] }; mode = closure_mode (entered rows [] r 0); moves = 0 }

-- the top frame is done with: a move
abbrev pub gave : Mode → Contents → Choice
gave x k = (popped k, Some (N.Move x))

abbrev pub resumed : Program → ℕ → ℕ → Contents → Choice
resumed p r e k = gave (stands_at p k.cells r e) k

-- a form is opened, if there is room for a frame
abbrev pub opened : Program → Frame → ℕ → ℕ → Contents → Choice
opened p f r e k = if nat_lt (length k.frames) p.limits.frames then (pushed f k, Some (N.At (stands_at p k.cells r e))) else (k, None)

-- a cell is made, if there is room for it
abbrev pub made : Program → Cell → Next → (Contents → Contents) → Contents → Choice
made p x next besides k = if nat_lt (length k.cells) p.limits.cells then (besides (allocated x k), Some next) else (k, None)

-- a name is bound: a move
abbrev pub bound : (Contents → Contents) → Program → Cell → ℕ → Contents → Choice
bound besides p x r k = made p x (N.Move (stands_at p (allocated x k).cells r (length k.cells + 1))) besides k

-- a pair is finished
abbrev pub paired : Program → ℕ → Value → Value → Contents → Choice
paired p pair v w k = made p (C.Pair pair v w) (N.At (M.Return (V.Pair (length k.cells)))) popped k

-- the second part of the top frame's form is entered
abbrev pub second : Program → Value → ℕ → ℕ → Contents → Choice
second p v r e k = (seconded v k, Some (N.At (stands_at p k.cells r e)))

-- ---- a row

-- what is done at row r, by what it begins with
abbrev pub evaluated_by : Head → Program → TermRow → ℕ → ℕ → Contents → Choice
evaluated_by H.Number p t r e k = (k, Some (N.At (M.Return (V.Number t.number))))
evaluated_by H.Name p t r e k = (k, Some (N.At (M.Eval r e)))
evaluated_by (H.Form R.Lam) p t r e k = (k, Some (N.At (M.Return (V.Lam r e))))
evaluated_by (H.Form R.Fail) p t r e k = (k, Some (N.At M.Fail))
evaluated_by (H.Form R.Fix) p t r e k = bound (λ l. l) p (C.Bound r e e) t.a k
evaluated_by (H.Form R.Succ) p t r e k = opened p F.Succ t.a e k
evaluated_by (H.Form R.Fst) p t r e k = opened p F.Fst t.a e k
evaluated_by (H.Form R.Snd) p t r e k = opened p F.Snd t.a e k
evaluated_by (H.Form R.Get) p t r e k = opened p F.Get t.a e k
evaluated_by (H.Form R.Ifz) p t r e k = opened p (F.Ifz r e) t.a e k
evaluated_by (H.Form R.Ap) p t r e k = opened p (F.Apply t.b e) t.a e k
evaluated_by (H.Form R.Catch) p t r e k = opened p (F.Catch t.b e) t.a e k
evaluated_by (H.Form R.Pair) p t r e k = opened p (F.PairFirst r e) t.a e k
evaluated_by (H.Form R.Add) p t r e k = opened p (F.CalcFirst O.Add t.b e) t.a e k
evaluated_by (H.Form R.Sub) p t r e k = opened p (F.CalcFirst O.Sub t.b e) t.a e k
evaluated_by (H.Form R.Mul) p t r e k = opened p (F.CalcFirst O.Mul t.b e) t.a e k

abbrev pub evaluated : Program → ℕ → ℕ → Contents → Choice
evaluated p r e k = evaluated_by (head_at (row_at (tables p.sheet) r).kind) p (row_at (tables p.sheet) r) r e k

-- ---- a value at a frame

-- a number at an ifz
abbrev pub branched : Program → ℕ → ℕ → ℕ → Contents → Choice
branched p n r e k =
    if n == 0 then resumed p (row_at (tables p.sheet) r).b e k else bound popped p (C.Number (n - 1) e) (row_at (tables p.sheet) r).c k

-- a function with the environment x at an argument
abbrev pub applied : Program → ℕ → ℕ → ℕ → ℕ → Contents → Choice
applied p lam x r e k = bound popped p (bound_to (entered (tables p.sheet).1 k.cells r e) x) (row_at (tables p.sheet) lam).a k

-- the values of the pair in a cell
abbrev pub halves_at : ℕ → Contents → Value × Value
halves_at i k = halves_of (slice_index_or k.cells i no_cell)

-- at a frame that takes values of its kind alone; another value stays, which no well typed state has
abbrev pub taken : Program → Meaning → Value → Frame → Contents → Choice
taken p t (V.Number n) F.Succ k = gave (limited_to (n + 1)) k
taken p t (V.Number n) F.Get k = gave (answered_by (t n)) k
taken p t (V.Number n) (F.Ifz r e) k = branched p n r e k
taken p t (V.Number n) (F.CalcFirst o r e) k = second p (V.Number n) r e k
taken p t (V.Number n) (F.CalcSecond o j) k = gave (limited_to (result (op_of o) j n)) k
taken p t (V.Lam lam x) (F.Apply r e) k = applied p lam x r e k
taken p t (V.Pair i) F.Fst k = gave (M.Return (halves_at i k).0) k
taken p t (V.Pair i) F.Snd k = gave (M.Return (halves_at i k).1) k
taken p t v f k = (k, Some (N.At (M.Return v)))

abbrev pub returned : Program → Meaning → Value → Frame → Contents → Choice
returned p t v (F.Catch r e) k = gave (M.Return v) k
returned p t v (F.PairFirst q e) k = second p v (row_at (tables p.sheet) q).b e k
returned p t v (F.PairSecond q u) k = paired p q u v k
returned p t v f k = taken p t v f k

-- ---- the step

abbrev pub chosen_at : Mode → Option Frame → Program → Meaning → Contents → Choice
chosen_at (M.Eval r e) f p t k = evaluated p r e k
chosen_at (M.Numeral n) f p t k = (k, Some (N.At (M.Return (V.Number n))))
chosen_at (M.Return v) (Some f) p t k = returned p t v f k
chosen_at (M.Return (V.Number n)) None p t k = (k, None)
chosen_at (M.Return v) None p t k = (k, Some (N.At (M.Return v)))
chosen_at M.Fail None p t k = (k, None)
chosen_at M.Fail (Some (F.Catch r e)) p t k = resumed p r e k
chosen_at M.Fail (Some f) p t k = gave M.Fail k

-- by the mode and the top frame together, over the counter t
abbrev pub chosen : Program → Meaning → Mode → Contents → Choice
chosen p t m k = chosen_at m (top_of k.frames) p t k
