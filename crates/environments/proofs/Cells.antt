-- What cells, values and frames stand for does not change when a cell is added.
use Rattle.std.proofs.Common.{◌≡◌, ℕ, zero, suc, ◌<◌, ◌≤◌, true, not, ◌&&◌, ltb, leb, List, [], ◌∷◌, ◌++◌, length, refl, ap, arith, ltb-true, lt-ltb, le-leb, leb-true}
use lib.ListN.{get_or-append}
use Rattle.std.proofs.lemmas.Bool.{and_parts, and_from}
use Rattle.theory.specs.Syntax.{Term, num, name, one, two, ifz, lam, app, fix, fail, catch}
use Rattle.machine.specs.Substitution.{close, Below, AllClosed}
use Rattle.machine.specs.Values.{function}
use Rattle.machine.specs.States.{in_first, in_second, in_ifz, in_app, in_catch}
use Rattle.environments.specs.Closures.{Closed}
use Rattle.environments.specs.Closures as D
use Rattle.environments.specs.Values.{Value as Value'}
use Rattle.environments.specs.Values as V
use Rattle.environments.specs.Cells.{Cell}
use Rattle.environments.specs.Cells as C
use Rattle.environments.specs.Frames.{Frame as Frame'}
use Rattle.environments.specs.Frames as F
use Rattle.environments.specs.Folds.{lawful}
use Rattle.environments.specs.NodeTerms.{node_term_at}
use Rattle.environments.specs.Nodes.{Node, node_in}
use Rattle.environments.specs.States.{blank_cell, cell_at}
use Rattle.environments.specs.Stands.{Meant, names, pair_of, names_in, pair_in, blank_meant, meant_at, env_of, closed_of}
use Rattle.environments.specs.Stands.{value_of, cell_of, cells_of, frame_of, stack_of}
use Rattle.environments.specs.Fits.{is_name, place_fits, closed_fits, value_fits, cell_fits, frame_fits, stack_fits, below}
use Rattle.environments.specs.Fits.{all_closed, meant_is_closed, meants_closed}
use Rattle.environments.proofs.Folds.{built_entry, built_push, built_length, lawful_push}

-- ---- more entries

pub env_local : (ms ys : List Meant) (e : ℕ) → e ≤ length ms → env_of (ms ++ ys) e ≡ env_of ms e
env_local ms ys zero h = refl
env_local ms ys (suc i) h = ap names_in (get_or-append ms ys blank_meant i h)

pub place_env : (n k r e : ℕ) → place_fits n k r e ≡ true → e ≤ k
place_env n k r e h = leb-true e k (and_parts (ltb r n) (leb e k) h).1

pub place_row : (n k r e : ℕ) → place_fits n k r e ≡ true → r < n
place_row n k r e h = ltb-true r n (and_parts (ltb r n) (leb e k) h).0

module _ (ts : List Term) (nodes : List Node) (ms ys : List Meant) where
  pub closed_local : (c : Closed) → closed_fits nodes (length ms) c ≡ true → closed_of ts (ms ++ ys) c ≡ closed_of ts ms c
  closed_local (D.Number n) h = refl
  closed_local (D.Row r e) h =
      let p = (and_parts (not (is_name (node_in nodes r))) (place_fits (length nodes) (length ms) r e) h).1 in
      ap (λ ρ. close 0 ρ (node_term_at ts r)) (env_local ms ys e (place_env (length nodes) (length ms) r e p))

  pub value_local : (n : ℕ) (v : Value') → value_fits n (length ms) v ≡ true → value_of ts (ms ++ ys) v ≡ value_of ts ms v
  value_local n (V.Number x) h = refl
  value_local n (V.Lam T a e) h =
      ap (λ ρ. function T (close 1 ρ (node_term_at ts a))) (env_local ms ys e (place_env n (length ms) a e h))
  value_local n (V.Pair i) h = ap pair_in (get_or-append ms ys blank_meant i (ltb-true i (length ms) h))

  pub cell_local : (c : Cell) → cell_fits nodes (length ms) c ≡ true → cell_of ts (ms ++ ys) c ≡ cell_of ts ms c
  cell_local (C.Bound c x) h =
      let hs = and_parts (closed_fits nodes (length ms) c) (leb x (length ms)) h in
      let a = closed_local c hs.0 in
      let b = env_local ms ys x (leb-true x (length ms) hs.1) in
      λ i. names (a i ∷ b i)
  cell_local (C.Pair T v w) h =
      let hs = and_parts (value_fits (length nodes) (length ms) v) (value_fits (length nodes) (length ms) w) h in
      let a = value_local (length nodes) v hs.0 in
      let b = value_local (length nodes) w hs.1 in
      λ i. pair_of T (a i) (b i)

  pub frame_local : (n : ℕ) (f : Frame') → frame_fits n (length ms) f ≡ true → frame_of ts (ms ++ ys) f ≡ frame_of ts ms f
  frame_local n (F.Unary g) h = refl
  frame_local n (F.First g r e) h =
      ap (λ ρ. in_first g (close 0 ρ (node_term_at ts r))) (env_local ms ys e (place_env n (length ms) r e h))
  frame_local n (F.Second g v) h = ap (in_second g) (value_local n v h)
  frame_local n (F.Ifz z m e) h =
      let p = (and_parts (place_fits n (length ms) z e) (ltb m n) h).0 in
      ap (λ ρ. in_ifz (close 0 ρ (node_term_at ts z)) (close 1 ρ (node_term_at ts m)))
      (env_local ms ys e (place_env n (length ms) z e p))
  frame_local n (F.Apply r e) h =
      ap (λ ρ. in_app (close 0 ρ (node_term_at ts r))) (env_local ms ys e (place_env n (length ms) r e h))
  frame_local n (F.Catch r e) h =
      ap (λ ρ. in_catch (close 0 ρ (node_term_at ts r))) (env_local ms ys e (place_env n (length ms) r e h))

  pub stack_local : (n : ℕ) (k : List Frame') → stack_fits n (length ms) k ≡ true
      → stack_of ts (ms ++ ys) k ≡ stack_of ts ms k
  stack_local n [] h = refl
  stack_local n (f ∷ k) h =
      let hs = and_parts (frame_fits n (length ms) f) (stack_fits n (length ms) k) h in
      let a = frame_local n f hs.0 in
      let b = stack_local n k hs.1 in
      λ i. a i ∷ b i

-- ---- cells

pub cells_length : (ts : List Term) (cs : List Cell) → length (cells_of ts cs) ≡ length cs
cells_length ts cs = built_length (cell_of ts) cs

-- A cell more is an entry more; the earlier cells stand for what they stood for.
pub cells_push : (ts : List Term) (cs : List Cell) (c : Cell)
    → cells_of ts (cs ++ (c ∷ [])) ≡ cells_of ts cs ++ (cell_of ts (cells_of ts cs) c ∷ [])
cells_push ts cs c = built_push (cell_of ts) cs c

-- What a cell stands for unfolds by one level.
pub cell_entry : (ts : List Term) (nodes : List Node) (cs : List Cell) (i : ℕ) → lawful (cell_fits nodes) 0 cs ≡ true →
    meant_at (cells_of ts cs) i ≡ cell_of ts (cells_of ts cs) (cell_at cs i)
cell_entry ts nodes cs i h =
    built_entry (cell_of ts) (cell_fits nodes) blank_meant blank_cell (λ ms ys c. cell_local ts nodes ms ys c)
    (λ ms. refl) cs i h

-- A cell that fits after the others leaves all of them fitting.
pub law_push : (nodes : List Node) (cs : List Cell) (x : Cell) → lawful (cell_fits nodes) 0 cs ≡ true
    → cell_fits nodes (length cs) x ≡ true →
    lawful (cell_fits nodes) 0 (cs ++ (x ∷ [])) ≡ true
law_push nodes cs x h f = lawful_push (cell_fits nodes) 0 (length cs) cs x (omega arith) h f

pub law_bind : (nodes : List Node) (cs : List Cell) (c : Closed) (x : ℕ) → lawful (cell_fits nodes) 0 cs ≡ true
    → closed_fits nodes (length cs) c ≡ true → x ≤ length cs →
    lawful (cell_fits nodes) 0 (cs ++ (C.Bound c x ∷ [])) ≡ true
law_bind nodes cs c x h f l =
    law_push nodes cs (C.Bound c x) h (and_from (closed_fits nodes (length cs) c) (leb x (length cs)) f
    (le-leb x (length cs) l))

-- ---- closed terms

pub below_from_test : (d : ℕ) (t : Term) → below d t ≡ true → Below d t
below_from_test d (num n) h = tt
below_from_test d (name i) h = ltb-true i d h
below_from_test d (one g A) h = below_from_test d A h
below_from_test d (two g A B) h =
    let hs = and_parts (below d A) (below d B) h in
    (below_from_test d A hs.0, below_from_test d B hs.1)
below_from_test d (ifz A B C) h =
    let hs = and_parts (below d A) (below d B && below (suc d) C) h in
    let h' = and_parts (below d B) (below (suc d) C) hs.1 in
    (below_from_test d A hs.0, below_from_test d B h'.0, below_from_test (suc d) C h'.1)
below_from_test d (lam T A) h = below_from_test (suc d) A h
below_from_test d (app A B) h =
    let hs = and_parts (below d A) (below d B) h in
    (below_from_test d A hs.0, below_from_test d B hs.1)
below_from_test d (fix T A) h = below_from_test (suc d) A h
below_from_test d (fail T) h = tt
below_from_test d (catch A B) h =
    let hs = and_parts (below d A) (below d B) h in
    (below_from_test d A hs.0, below_from_test d B hs.1)

pub test_from_below : (d : ℕ) (t : Term) → Below d t → below d t ≡ true
test_from_below d (num n) h = refl
test_from_below d (name i) h = lt-ltb i d h
test_from_below d (one g A) h = test_from_below d A h
test_from_below d (two g A B) h = and_from (below d A) (below d B) (test_from_below d A h.0) (test_from_below d B h.1)
test_from_below d (ifz A B C) h =
    and_from (below d A) (below d B && below (suc d) C) (test_from_below d A h.0)
    (and_from (below d B) (below (suc d) C) (test_from_below d B h.1) (test_from_below (suc d) C h.2))
test_from_below d (lam T A) h = test_from_below (suc d) A h
test_from_below d (app A B) h = and_from (below d A) (below d B) (test_from_below d A h.0) (test_from_below d B h.1)
test_from_below d (fix T A) h = test_from_below (suc d) A h
test_from_below d (fail T) h = refl
test_from_below d (catch A B) h = and_from (below d A) (below d B) (test_from_below d A h.0) (test_from_below d B h.1)

pub all_out : (ρ : List Term) → all_closed ρ ≡ true → AllClosed ρ
all_out [] h = tt
all_out (e ∷ ρ) h = let hs = and_parts (below 0 e) (all_closed ρ) h in (below_from_test 0 e hs.0, all_out ρ hs.1)

meant_closed : (ms : List Meant) (i : ℕ) → meants_closed ms ≡ true → meant_is_closed (meant_at ms i) ≡ true
meant_closed [] i h = refl
meant_closed (m ∷ ms) zero h = (and_parts (meant_is_closed m) (meants_closed ms) h).0
meant_closed (m ∷ ms) (suc i) h = meant_closed ms i (and_parts (meant_is_closed m) (meants_closed ms) h).1

names_closed : (m : Meant) → meant_is_closed m ≡ true → all_closed (names_in m) ≡ true
names_closed (names ρ) h = h
names_closed (pair_of T v w) h = refl

pub env_closed : (ms : List Meant) (e : ℕ) → meants_closed ms ≡ true → all_closed (env_of ms e) ≡ true
env_closed ms zero h = refl
env_closed ms (suc i) h = names_closed (meant_at ms i) (meant_closed ms i h)

pub meants_push : (ms : List Meant) (m : Meant) → meants_closed ms ≡ true → meant_is_closed m ≡ true
    → meants_closed (ms ++ (m ∷ [])) ≡ true
meants_push [] m h g = and_from (meant_is_closed m) true g refl
meants_push (x ∷ ms) m h g =
    let hs = and_parts (meant_is_closed x) (meants_closed ms) h in
    and_from (meant_is_closed x) (meants_closed (ms ++ (m ∷ []))) hs.0 (meants_push ms m hs.1 g)
