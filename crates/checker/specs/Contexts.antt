-- The names that a row is under, by the binders above it.
use Rattle.std.specs.Prelude.{◌≡◌, ℕ, ◌-◌, ◌<◌, List, [], ◌∷◌, ◌++◌, length, Some, None, Option, slice_index, slice_index_or}
use Rattle.rows.specs.declared.tables.TermRow.{TermRow}
use Rattle.rows.specs.declared.forms.Form.{Form}
use Rattle.rows.specs.declared.forms.Form.TheVariants.{Succ, Ifz, Lam, Ap, Fix, Pair, Fst, Snd, Add, Sub, Mul, Get, Fail, Catch}
use Rattle.rows.specs.Forms.{form_at}
use Rattle.theory.specs.Syntax.{Ty, nat, to, both, Term}
use Rattle.theory.specs.Emit.{Tables}
use Rattle.theory.specs.Stands.{types_from}
use Rattle.theory.specs.Laws.{parts_of}
use Rattle.theory.specs.Typing.{◌⊢◌∶◌}
use Rattle.checker.specs.RowTests.{no_row}

-- the types of the names in sight, the nearest first; a name of a lam whose type is no function type has none
abbrev pub Context : Type 0
Context = List (Option Ty)

-- what a function of a type takes
abbrev pub domain : Ty → Option Ty
domain nat = None
domain (to σ τ) = Some σ
domain (both σ τ) = None

-- the names that a form with the type T puts its parts under; the parts past the list are under none
abbrev pub names : Form → Ty → List Context
names Succ T = []
names Ifz T = [] ∷ [] ∷ (Some nat ∷ []) ∷ []
names Lam T = (domain T ∷ []) ∷ []
names Ap T = []
names Fix T = (Some T ∷ []) ∷ []
names Pair T = []
names Fst T = []
names Snd T = []
names Add T = []
names Sub T = []
names Mul T = []
names Get T = []
names Fail T = []
names Catch T = []

-- the term row at a place
abbrev pub row_at : Tables → ℕ → TermRow
row_at s p = slice_index_or s.1 p no_row

-- the names of part i of a row
abbrev pub names_of : Tables → TermRow → ℕ → Context
names_of s r i = slice_index_or (names (form_at r.kind) (slice_index_or (types_from [] s.0) r.ty nat)) i []

-- row p stands under the names of Γ: the last row under none, and a part under its form's names and those of the form
pub data Under (s : Tables) : ℕ → Context → Type 0 where
  rule : Under s (length s.1 - 1) []
  part : {p : ℕ} {Γ : Context} (i : ℕ) → Under s p Γ → i < length (parts_of (row_at s p)) → Under s (slice_index (parts_of (row_at s p)) i) (names_of s (row_at s p) i ++ Γ)

-- types for all names of a context, any for those that have none
abbrev pub Fills : Context → List Ty → Type 0
Fills [] [] = Unit {0}
Fills [] (τ ∷ Θ) = ⊥
Fills (o ∷ Γ) [] = ⊥
Fills (None ∷ Γ) (τ ∷ Θ) = Fills Γ Θ
Fills (Some σ ∷ Γ) (τ ∷ Θ) = (σ ≡ τ) × Fills Γ Θ

-- a term has a type in a context where it has it whatever the names without a type are
abbrev pub HasType : Context → Term → Ty → Type 0
HasType Γ e τ = (Θ : List Ty) → Fills Γ Θ → Θ ⊢ e ∶ τ

-- a row stands under one context, and no other
pub record Placed (s : Tables) (p : ℕ) : Type 0 where
  pub context : Context
  pub under : Under s p context
  pub only : (Γ : Context) → Under s p Γ → Γ ≡ context
