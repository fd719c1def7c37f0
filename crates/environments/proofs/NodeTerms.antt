-- The terms of lawful nodes unfold one level by the node.
use Rattle.std.proofs.Common.{◌≡◌, ℕ, ◌+◌, ◌<◌, true, ◌&&◌, ltb, List, ◌++◌, length, get_or, refl, subst, arith, ltb-true}
use lib.ListN.{get_or-append}
use Rattle.std.proofs.lemmas.Bool.{and_parts}
use Rattle.theory.specs.Syntax.{Term, num, one, two, ifz, lam, app, fix, catch}
use Rattle.environments.specs.Nodes.{Node, blank_node, node_in}
use Rattle.environments.specs.Nodes as G
use Rattle.environments.specs.NodeTerms.{node_term_at, term_of, node_is_fit, terms_of, nodes_lawful}
use Rattle.environments.proofs.Folds.{built_entry, lawful_at}

pub at_local : {X : Type 0} (xs ys : List X) (x₀ : X) (i : ℕ) → ltb i (length xs) ≡ true
    → get_or (xs ++ ys) i x₀ ≡ get_or xs i x₀
at_local xs ys x₀ i h = get_or-append xs ys x₀ i (ltb-true i (length xs) h)

term_local : (xs ys : List Term) (g : Node) → node_is_fit (length xs) g ≡ true → term_of (xs ++ ys) g ≡ term_of xs g
term_local xs ys (G.Number n) h = refl
term_local xs ys (G.Name d) h = refl
term_local xs ys (G.Unary g a) h = λ i. one g (at_local xs ys (num 0) a h i)
term_local xs ys (G.Binary g a b) h =
    let hs = and_parts (ltb a (length xs)) (ltb b (length xs)) h in
    λ i. two g (at_local xs ys (num 0) a hs.0 i) (at_local xs ys (num 0) b hs.1 i)
term_local xs ys (G.Ifz a b c) h =
    let hs = and_parts (ltb a (length xs)) (ltb b (length xs) && ltb c (length xs)) h in
    let h' = and_parts (ltb b (length xs)) (ltb c (length xs)) hs.1 in
    λ i. ifz (at_local xs ys (num 0) a hs.0 i) (at_local xs ys (num 0) b h'.0 i)
    (at_local xs ys (num 0) c h'.1 i)
term_local xs ys (G.Lam T a) h = λ i. lam T (at_local xs ys (num 0) a h i)
term_local xs ys (G.Apply a b) h =
    let hs = and_parts (ltb a (length xs)) (ltb b (length xs)) h in
    λ i. app (at_local xs ys (num 0) a hs.0 i) (at_local xs ys (num 0) b hs.1 i)
term_local xs ys (G.Fix T a) h = λ i. fix T (at_local xs ys (num 0) a h i)
term_local xs ys (G.Fail T) h = refl
term_local xs ys (G.Catch a b) h =
    let hs = and_parts (ltb a (length xs)) (ltb b (length xs)) h in
    λ i. catch (at_local xs ys (num 0) a hs.0 i) (at_local xs ys (num 0) b hs.1 i)

-- The term at a place is that of its node, over the terms of all nodes.
pub term_entry : (nodes : List Node) (i : ℕ) → nodes_lawful nodes ≡ true
    → node_term_at (terms_of nodes) i ≡ term_of (terms_of nodes) (node_in nodes i)
term_entry nodes i h = built_entry term_of node_is_fit (num 0) blank_node term_local (λ xs. refl) nodes i h

-- The parts of a node are nodes before it.
pub node_fits : (nodes : List Node) (i : ℕ) → nodes_lawful nodes ≡ true → i < length nodes
    → node_is_fit i (node_in nodes i) ≡ true
node_fits nodes i h l =
    let q : 0 + i ≡ i = omega arith in
    subst (λ (k : ℕ). node_is_fit k (node_in nodes i) ≡ true) q (lawful_at node_is_fit 0 nodes i blank_node h l)
