-- What the verdict means.
use Rattle.std.specs.Prelude.{◌≡◌, ℕ, ◌-◌, ◌<◌, ◌≤◌, ◌⊎◌, [], length, Ok, Err, Result}
use Rattle.theory.specs.Syntax.{Ty, nat}
use Rattle.theory.specs.Emit.{Tables}
use Rattle.theory.specs.Stands.{term_at, rule_of}
use Rattle.theory.specs.Laws.{Lawful}
use Rattle.theory.specs.Typing.{◌⊢◌∶◌}
use Rattle.checker.specs.declared.refusal.Fault.{Fault}
use Rattle.checker.specs.declared.refusal.Fault.TheVariants.{TableSize, BadType, BadTerm, PartUse, TooDeep, Untyped, NotNat}
use Rattle.checker.specs.declared.refusal.Refusal.{Refusal}
use Rattle.checker.specs.Contexts.{Context, Under, HasType, Placed}
use Rattle.checker.specs.Verdicts.{refusal, verdict, answer}

-- the tables keep their laws, and their rule is closed and of type nat
pub record Rule (s : Tables) : Type 0 where
  pub lawful : Lawful s
  pub typed : [] ⊢ rule_of s ∶ nat

-- no row is under more binders than there are sight rows
abbrev pub Shallow : Tables → ℕ → Type 0
Shallow s sight = (p : ℕ) (Γ : Context) → Under s p Γ → length Γ ≤ sight

-- row p is the lowest that is under more binders than there are sight rows
pub record LowestDeep (s : Tables) (sight p : ℕ) : Type 0 where
  pub lawful : Lawful s
  pub context : Context
  pub under : Under s p context
  pub deep : sight < length context
  pub lower : (q : ℕ) (Γ : Context) → q < p → Under s q Γ → length Γ ≤ sight

-- row p has no type in its context, while every lower row has one
pub record LowestUntyped (s : Tables) (sight p : ℕ) : Type 0 where
  pub lawful : Lawful s
  pub shallow : Shallow s sight
  pub context : Context
  pub under : Under s p context
  pub untyped : (τ : Ty) → HasType context (term_at s p) τ → ⊥
  pub lower : (q : ℕ) (Γ : Context) → q < p → Under s q Γ → (τ : Ty) × HasType Γ (term_at s q) τ

-- the rule, at the last row p, has a type that is not nat
pub record OtherType (s : Tables) (sight p : ℕ) : Type 0 where
  pub lawful : Lawful s
  pub shallow : Shallow s sight
  pub last : p ≡ length s.1 - 1
  pub type : Ty
  pub typed : [] ⊢ rule_of s ∶ type
  pub other : type ≡ nat → ⊥

-- what a fault at row p says of two tables
abbrev pub Says : Tables → ℕ → Fault → ℕ → Type 0
Says s sight TableSize p = Lawful s → ⊥
Says s sight BadType p = Lawful s → ⊥
Says s sight BadTerm p = Lawful s → ⊥
Says s sight PartUse p = Lawful s → ⊥
Says s sight TooDeep p = LowestDeep s sight p
Says s sight Untyped p = LowestUntyped s sight p
Says s sight NotNat p = OtherType s sight p

-- two tables pass exactly where they are a rule and no row is under more binders than there are sight rows
abbrev pub Means : Tables → ℕ → Result (Unit {0}) Refusal → Type 0
Means s sight (Ok x) = Rule s × Shallow s sight
Means s sight (Err f) = (Rule s → Shallow s sight → ⊥) × Says s sight f.fault f.row

-- a refusal for want of sight rows
abbrev pub Deep : Result (Unit {0}) Refusal → Type 0
Deep r = (p : ℕ) × (r ≡ Err (refusal TooDeep p))

-- more sight rows change no other answer; and where they are as many as the term rows, no answer is such a refusal, since
-- no row of lawful tables is under more binders
pub record Lasts (s : Tables) (sight : ℕ) (r : Result (Unit {0}) Refusal) : Type 0 where
  pub more : Deep r ⊎ ((many : ℕ) → sight ≤ many → answer (verdict s many) ≡ r)
  pub enough : length s.1 ≤ sight → Deep r → ⊥
  pub shallow : length s.1 ≤ sight → Lawful s → Shallow s sight

abbrev pub VerdictMeans : Type 0
VerdictMeans = (s : Tables) (sight : ℕ) → Means s sight (answer (verdict s sight)) × Lasts s sight (answer (verdict s sight))

-- every row of lawful tables has a context, so that what is said above of the rows under some context is said of all rows
abbrev pub RowsPlaced : Type 0
RowsPlaced = (s : Tables) → Lawful s → (p : ℕ) → p < length s.1 → Placed s p
