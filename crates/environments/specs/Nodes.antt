-- The nodes of a sheet: its rows by what they hold, with types in place of the rows of types.
use Rattle.std.specs.Prelude.{ℕ, cond, List, [], map, ◌==◌, slice_index_or}
use Rattle.rows.specs.declared.forms.Form.{Form}
use Rattle.rows.specs.declared.forms.Form.TheVariants as R
use Rattle.rows.specs.declared.tables.TermRow.{TermRow}
use Rattle.rows.specs.Forms.{form_at}
use Rattle.theory.specs.Syntax.{Ty, nat, One, succ, fst, snd, get, add, sub, mul, Two, pair, calc}
use Rattle.theory.specs.Emit.{Tables}
use Rattle.theory.specs.Stands.{types_from}

-- A number, a name by its distance, or a form whose parts are places of nodes.
pub data Node : Type 0 where
  Number : ℕ → Node
  Name : ℕ → Node
  Unary : One → ℕ → Node
  Binary : Two → ℕ → ℕ → Node
  Ifz : ℕ → ℕ → ℕ → Node
  Lam : Ty → ℕ → Node
  Apply : ℕ → ℕ → Node
  Fix : Ty → ℕ → Node
  Fail : Ty → Node
  Catch : ℕ → ℕ → Node

-- the node of a form with its type and the places of its parts
abbrev pub form_node : Form → Ty → ℕ → ℕ → ℕ → Node
form_node R.Succ T a b c = Unary succ a
form_node R.Ifz T a b c = Ifz a b c
form_node R.Lam T a b c = Lam T a
form_node R.Ap T a b c = Apply a b
form_node R.Fix T a b c = Fix T a
form_node R.Pair T a b c = Binary (pair T) a b
form_node R.Fst T a b c = Unary fst a
form_node R.Snd T a b c = Unary snd a
form_node R.Add T a b c = Binary (calc add) a b
form_node R.Sub T a b c = Binary (calc sub) a b
form_node R.Mul T a b c = Binary (calc mul) a b
form_node R.Get T a b c = Unary get a
form_node R.Fail T a b c = Fail T
form_node R.Catch T a b c = Catch a b

-- the node of a row, where the type rows stand for Ts
unfoldable pub node_of : List Ty → TermRow → Node
node_of Ts r =
    cond (r.kind == 0) (Number r.number)
    (cond (r.kind == 1) (Name r.number)
    (form_node (form_at r.kind) (slice_index_or Ts r.ty nat) r.a r.b r.c))

-- a place beyond all nodes holds the number 0
abbrev pub blank_node : Node
blank_node = Number 0

-- the node at a place
abbrev pub node_in : List Node → ℕ → Node
node_in nodes i = slice_index_or nodes i blank_node

-- the nodes of two tables, one for each term row
abbrev pub nodes_of : Tables → List Node
nodes_of s = map (node_of (types_from [] s.0)) s.1
