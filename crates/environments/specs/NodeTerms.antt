-- The terms that nodes stand for, each by the nodes before it.
use Rattle.std.specs.Prelude.{ℕ, Bool, true, ◌&&◌, List, nat_le, nat_lt, slice_index_or}
use Rattle.theory.specs.Syntax.{Term, num, name, one, two, ifz, lam, app, fix, fail, catch}
use Rattle.rows.specs.Limits.{top}
use Rattle.environments.specs.Nodes.{Node}
use Rattle.environments.specs.Nodes as G
use Rattle.environments.specs.Folds.{built, lawful}

-- the term at a place; beyond all terms it is 0
abbrev pub node_term_at : List Term → ℕ → Term
node_term_at ts i = slice_index_or ts i (num 0)

-- the term of a node, where the terms ts stand at the places
abbrev pub term_of : List Term → Node → Term
term_of ts (G.Number n) = num n
term_of ts (G.Name d) = name d
term_of ts (G.Unary g a) = one g (node_term_at ts a)
term_of ts (G.Binary g a b) = two g (node_term_at ts a) (node_term_at ts b)
term_of ts (G.Ifz a b c) = ifz (node_term_at ts a) (node_term_at ts b) (node_term_at ts c)
term_of ts (G.Lam T a) = lam T (node_term_at ts a)
term_of ts (G.Apply a b) = app (node_term_at ts a) (node_term_at ts b)
term_of ts (G.Fix T a) = fix T (node_term_at ts a)
term_of ts (G.Fail T) = fail T
term_of ts (G.Catch a b) = catch (node_term_at ts a) (node_term_at ts b)

-- the parts of a node are places before n, and its number is no larger than an amount may be
abbrev pub node_is_fit : ℕ → Node → Bool
node_is_fit n (G.Number x) = nat_le x top
node_is_fit n (G.Name d) = true
node_is_fit n (G.Unary g a) = nat_lt a n
node_is_fit n (G.Binary g a b) = nat_lt a n && nat_lt b n
node_is_fit n (G.Ifz a b c) = nat_lt a n && (nat_lt b n && nat_lt c n)
node_is_fit n (G.Lam T a) = nat_lt a n
node_is_fit n (G.Apply a b) = nat_lt a n && nat_lt b n
node_is_fit n (G.Fix T a) = nat_lt a n
node_is_fit n (G.Fail T) = true
node_is_fit n (G.Catch a b) = nat_lt a n && nat_lt b n

-- the terms of all nodes
abbrev pub terms_of : List Node → List Term
terms_of nodes = built term_of nodes

-- every node's parts are nodes before it
abbrev pub nodes_lawful : List Node → Bool
nodes_lawful nodes = lawful node_is_fit 0 nodes
