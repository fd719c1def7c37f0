-- The step of the machine with environments is the step of the state that it stands for.
use Rattle.std.proofs.Common.{◌≡◌, ℕ, zero, suc, ◌+◌, ◌≤◌, true, cond, not, ltb, leb, List, [], ◌∷◌, ◌++◌, length, Some, None, Option, sym, refl, ap, ◌∙◌, subst, arith, le-leb}
use mathlib.Core.Logic.{ite}
use native.Mathlib.Decide.{dec_le}
use borrow.Author.Tests.{lt-leb}
use Rattle.std.proofs.lemmas.Bool.{and_parts}
use Rattle.std.proofs.lemmas.List.{get_or_push}
use Rattle.rows.specs.Limits.{top}
use Rattle.rows.specs.Meanings.{Meaning}
use Rattle.theory.specs.Syntax.{Ty, succ, fst, snd, get, Op, pair, calc, Term, fix}
use Rattle.machine.specs.Substitution.{close, inst, Below}
use Rattle.machine.specs.Values.{Value, amount, couple, term}
use Rattle.machine.specs.States.{Frame, in_one, in_first, in_second, in_ifz, in_app, in_catch, Stack, State, ◌▷◌, ◌◁◌}
use Rattle.machine.specs.States.{◌◂}
use Rattle.machine.specs.Steps.{result}
use Rattle.machine.specs.Next.{Taken, limited, answered, returned, failed, next}
use Rattle.machine.specs.Laws.{Laws}
use Rattle.environments.specs.Nodes.{Node, node_in}
use Rattle.environments.specs.Nodes as G
use Rattle.environments.specs.Closures.{Closed}
use Rattle.environments.specs.Closures as D
use Rattle.environments.specs.Values.{Value as Value'}
use Rattle.environments.specs.Values as V
use Rattle.environments.specs.Cells.{Cell}
use Rattle.environments.specs.Cells as C
use Rattle.environments.specs.Frames.{Frame as Frame'}
use Rattle.environments.specs.Frames as F
use Rattle.environments.specs.Modes.{Mode}
use Rattle.environments.specs.Modes as M
use Rattle.environments.specs.Folds.{lawful}
use Rattle.environments.specs.NodeTerms.{node_term_at, term_of}
use Rattle.environments.specs.States.{cell_at, left_in, right_in, enter, limited as limited', answered as answered'}
use Rattle.environments.specs.States.{binding, evaluated, begun, returned as returned', failed as failed', stepped}
use Rattle.environments.specs.Stands.{Meant, names, pair_of, names_in, pair_in, blank_meant, meant_at, env_of, closed_of}
use Rattle.environments.specs.Stands.{value_of, cell_of, cells_of, frame_of, stack_of, mode_of, stands, stands_taken}
use Rattle.environments.specs.Fits.{is_name, place_fits, closed_fits, value_fits, cell_fits, frame_fits, stack_fits}
use Rattle.environments.specs.Fits.{mode_fits, meants_closed}
use Rattle.environments.proofs.Cells.{law_bind, stack_local, cells_length, cells_push, cell_entry, env_closed}
use Rattle.environments.proofs.Cells.{all_out, place_env}
use Rattle.environments.proofs.Names.{enter_stands, enter_fits}

-- ---- closed states

abbrev pub ShutFrame : Frame → Type 0
ShutFrame (in_one g) = Unit {0}
ShutFrame (in_first g B) = Below 0 B
ShutFrame (in_second g v) = Unit {0}
ShutFrame (in_ifz B C) = Below 0 B × Below 1 C
ShutFrame (in_app B) = Below 0 B
ShutFrame (in_catch B) = Below 0 B

-- The expression, the value and the top frame are closed.
abbrev pub Shut : State → Type 0
Shut (k ▷ e) = Below 0 e
Shut ([] ◁ v) = Unit {0}
Shut ((f ∷ k) ◁ v) = ShutFrame f × Below 0 (term v)
Shut ([] ◂) = Unit {0}
Shut ((f ∷ k) ◂) = ShutFrame f

-- ---- agreeing

pub clash : {P : Type 0} → ◌≡◌ {A = ℕ} 0 1 → P
clash e = absurd (omega arith)

-- Where there is a step o, it is u.
abbrev pub Agrees : Option Taken → Taken → Type 0
Agrees o u = (t : Taken) → o ≡ Some t → t ≡ u

agree : {m c : ℕ} {p q : State} → p ≡ q → Agrees (Some (m, c, p)) (m, c, q)
agree {m} {c} {p} {q} h t e = let z : ◌≡◌ {A = Taken} (m, c, p) t = cc in sym z ∙ (λ i. (m, c, h i))

agree_whole : {x u : Taken} → x ≡ u → Agrees (Some x) u
agree_whole {x} {u} h t e = let z : x ≡ t = cc in sym z ∙ h

none : {u : Taken} → Agrees None u
none t e = clash (cc)

-- ---- results

module _ (ts : List Term) (ms : List Meant) (k : Stack) where
  limits_agree : (n : ℕ) → limited k n ≡ mode_of ts ms k (limited' n)
  limits_agree n = go (dec_le n top)
    where
      go : (d : Dec (n ≤ top))
          → ite d (k ◁ amount n) (k ◂) ≡ mode_of ts ms k (cond (leb n top) (M.Return (V.Number n)) M.Fail)
      go (yes h) = ap (λ b. mode_of ts ms k (cond b (M.Return (V.Number n)) M.Fail)) (sym (le-leb n top h))
      go (no h) = ap (λ b. mode_of ts ms k (cond b (M.Return (V.Number n)) M.Fail)) (sym (lt-leb n top (omega arith)))

  answers_agree : (o : Option ℕ) → answered k o ≡ mode_of ts ms k (answered' o)
  answers_agree (Some a) = refl
  answers_agree None = refl

-- ---- one step

module _ (laws : Laws) (ts : List Term) (nodes : List Node) (entry : (i : ℕ) → node_term_at ts i ≡ term_of ts (node_in nodes i))
    (cs : List Cell) (law : lawful (cell_fits nodes) 0 cs ≡ true) (shut : meants_closed (cells_of ts cs) ≡ true)
    (k : List Frame') (fit : stack_fits (length nodes) (length cs) k ≡ true) where
  -- how many nodes and cells there are, what the cells stand for, and the stack for which k stands
  abbrev N : ℕ
  N = length nodes

  abbrev J : ℕ
  J = length cs

  abbrev ms : List Meant
  ms = cells_of ts cs

  abbrev K : Stack
  K = stack_of ts ms k

  more : (c : Cell) → stack_of ts (cells_of ts (cs ++ (c ∷ []))) k ≡ K
  more c =
      ap (λ w. stack_of ts w k) (cells_push ts cs c)
      ∙ stack_local ts nodes ms (cell_of ts ms c ∷ []) N k
      (subst (λ (n : ℕ). stack_fits N n k ≡ true) (sym (cells_length ts cs)) fit)

  pub bind_stands : (c : Closed) (x a : ℕ) → closed_fits nodes J c ≡ true → x ≤ length cs → Below 0 (closed_of ts ms c) →
      Below 1 (close 1 (env_of ms x) (node_term_at ts a)) →
      ◌≡◌ {A = State} (K ▷ inst (close 1 (env_of ms x) (node_term_at ts a)) (closed_of ts ms c))
      (stands ts (binding nodes cs c x a k).2)
  bind_stands c x a cf hx bc ba =
      let ρ = env_of ms x in
      let E = closed_of ts ms c in
      let A = node_term_at ts a in
      let cs' = cs ++ (C.Bound c x ∷ []) in
      let ms' = cells_of ts cs' in
      let new = names (E ∷ ρ) in
      let law' : lawful (cell_fits nodes) 0 cs' ≡ true = law_bind nodes cs c x law cf hx in
      let env : env_of ms' (suc J) ≡ E ∷ ρ =
      ap (λ w. env_of w (suc J)) (cells_push ts cs (C.Bound c x))
      ∙ ap names_in (get_or_push ms new blank_meant J (cells_length ts cs)) in
      let cl : inst (close 1 ρ A) E ≡ close 0 (E ∷ ρ) A = laws.put_at_once E ρ A (all_out ρ (env_closed ms x shut)) in
      let whole : close 0 (env_of ms' (suc J)) A ≡ inst (close 1 ρ A) E = ap (λ r. close 0 r A) env ∙ sym cl in
      let b : Below 0 (inst (close 1 ρ A) E) = laws.put_closes (E ∷ []) (close 1 ρ A) (bc, tt) ba in
      let entered : closed_of ts ms' (enter nodes cs' a (suc J)) ≡ inst (close 1 ρ A) E =
      enter_stands laws ts nodes entry cs' law' a (suc J) (subst (Below 0) (sym whole) b) ∙ whole in
      let st = more (C.Bound c x) in
      λ i. sym st i ▷ sym entered i

  pub pair_stands : (T : Ty) (u v : Value') →
      ◌≡◌ {A = State} (K ◁ couple T (value_of ts ms u) (value_of ts ms v))
      (stands ts (record { mode = M.Return (V.Pair J); stack = k; cells = cs ++ (C.Pair T u v ∷ []) }))
  pair_stands T u v =
      let new = pair_of T (value_of ts ms u) (value_of ts ms v) in
      let val : pair_in (meant_at (cells_of ts (cs ++ (C.Pair T u v ∷ []))) J) ≡ pair_in new =
      ap (λ w. pair_in (meant_at w J)) (cells_push ts cs (C.Pair T u v))
      ∙ ap pair_in (get_or_push ms new blank_meant J (cells_length ts cs)) in
      let st = more (C.Pair T u v) in
      λ i. sym st i ◁ sym val i

  entered : (r e : ℕ) → Below 0 (close 0 (env_of ms e) (node_term_at ts r))
      → close 0 (env_of ms e) (node_term_at ts r) ≡ closed_of ts ms (enter nodes cs r e)
  entered r e b = sym (enter_stands laws ts nodes entry cs law r e b)

  eval_agrees : (M : Meaning) (r e : ℕ) → closed_fits nodes J (D.Row r e) ≡ true → (g : Node) → node_in nodes r ≡ g
      → Below 0 (close 0 (env_of ms e) (term_of ts g)) →
      Agrees (next M (K ▷ close 0 (env_of ms e) (term_of ts g))) (stands_taken ts (evaluated nodes k cs r e g))
  eval_agrees M r e h (G.Number n) q b = agree refl
  eval_agrees M r e h (G.Name d) q b =
      let z : not (is_name (G.Name d)) ≡ true =
      ap (λ (x : Node). not (is_name x)) (sym q)
      ∙ (and_parts (not (is_name (node_in nodes r))) (place_fits N J r e) h).0 in
      clash (cc)
  eval_agrees M r e h (G.Unary g a) q b = let p = entered a e b in agree (λ i. (in_one g ∷ K) ▷ p i)
  eval_agrees M r e h (G.Binary g a c) q b =
      let p = entered a e b.0 in
      agree (λ i. stack_of ts ms (F.First g c e ∷ k) ▷ p i)
  eval_agrees M r e h (G.Ifz a c d) q b =
      let p = entered a e b.0 in
      agree (λ i. stack_of ts ms (F.Ifz c d e ∷ k) ▷ p i)
  eval_agrees M r e h (G.Lam T a) q b = agree refl
  eval_agrees M r e h (G.Apply a c) q b =
      let p = entered a e b.0 in
      agree (λ i. stack_of ts ms (F.Apply c e ∷ k) ▷ p i)
  eval_agrees M r e h (G.Fix T a) q b =
      let ρ = env_of ms e in
      let t : closed_of ts ms (D.Row r e) ≡ fix T (close 1 ρ (node_term_at ts a)) =
      ap (close 0 ρ) (entry r ∙ ap (term_of ts) q) in
      let le = place_env N J r e (and_parts (not (is_name (node_in nodes r))) (place_fits N J r e) h).1 in
      let bound = bind_stands (D.Row r e) e a h le (subst (Below 0) (sym t) b) b in
      agree ((λ i. K ▷ inst (close 1 ρ (node_term_at ts a)) (sym t i)) ∙ bound)
  eval_agrees M r e h (G.Fail T) q b = agree refl
  eval_agrees M r e h (G.Catch a c) q b =
      let p = entered a e b.0 in
      agree (λ i. stack_of ts ms (F.Catch c e ∷ k) ▷ p i)

  begun_agrees : (M : Meaning) (c : Closed) → closed_fits nodes J c ≡ true → Below 0 (closed_of ts ms c) →
      Agrees (next M (K ▷ closed_of ts ms c)) (stands_taken ts (begun nodes k cs c))
  begun_agrees M (D.Number n) h b = agree refl
  begun_agrees M (D.Row r e) h b =
      let P : Term → Type 0 = λ x. Below 0 (close 0 (env_of ms e) x) →
      Agrees (next M (K ▷ close 0 (env_of ms e) x)) (stands_taken ts (evaluated nodes k cs r e (node_in nodes r))) in
      subst P (sym (entry r)) (eval_agrees M r e h (node_in nodes r) refl) b

  -- A pair is no amount and no function.
  no_pair_succ : (M : Meaning) {u : Taken} (m : Meant) → Agrees (returned M (in_one succ) K (pair_in m)) u
  no_pair_succ M (names ρ) = none
  no_pair_succ M (pair_of T v w) = none

  no_pair_get : (M : Meaning) {u : Taken} (m : Meant) → Agrees (returned M (in_one get) K (pair_in m)) u
  no_pair_get M (names ρ) = none
  no_pair_get M (pair_of T v w) = none

  no_pair_ifz : (M : Meaning) (B C : Term) {u : Taken} (m : Meant) → Agrees (returned M (in_ifz B C) K (pair_in m)) u
  no_pair_ifz M B C (names ρ) = none
  no_pair_ifz M B C (pair_of T v w) = none

  no_pair_app : (M : Meaning) (B : Term) {u : Taken} (m : Meant) → Agrees (returned M (in_app B) K (pair_in m)) u
  no_pair_app M B (names ρ) = none
  no_pair_app M B (pair_of T v w) = none

  no_pair_right : (M : Meaning) (o : Op) (n : ℕ) {u : Taken} (m : Meant)
      → Agrees (returned M (in_second (calc o) (amount n)) K (pair_in m)) u
  no_pair_right M o n (names ρ) = none
  no_pair_right M o n (pair_of T v w) = none

  no_pair_left : (M : Meaning) (o : Op) (w : Value) {u : Taken} (m : Meant)
      → Agrees (returned M (in_second (calc o) (pair_in m)) K w) u
  no_pair_left M o w (names ρ) = none
  no_pair_left M o w (pair_of T v v') = none

  fst_cell : (M : Meaning) (c : Cell)
      → Agrees (returned M (in_one fst) K (pair_in (cell_of ts ms c))) (1, 0, K ◁ value_of ts ms (left_in c))
  fst_cell M (C.Bound c x) = agree refl
  fst_cell M (C.Pair T v w) = agree refl

  snd_cell : (M : Meaning) (c : Cell)
      → Agrees (returned M (in_one snd) K (pair_in (cell_of ts ms c))) (1, 0, K ◁ value_of ts ms (right_in c))
  snd_cell M (C.Bound c x) = agree refl
  snd_cell M (C.Pair T v w) = agree refl

  returned_agrees : (M : Meaning) (f : Frame') (v : Value') → frame_fits N J f ≡ true → value_fits N J v ≡ true →
      ShutFrame (frame_of ts ms f) → Below 0 (term (value_of ts ms v)) →
      Agrees (returned M (frame_of ts ms f) K (value_of ts ms v)) (stands_taken ts (returned' nodes M f k cs v))
  returned_agrees M (F.Unary succ) (V.Number n) hf hv sf sv = agree (limits_agree ts ms K (n + 1))
  returned_agrees M (F.Unary succ) (V.Lam T a e) hf hv sf sv = none
  returned_agrees M (F.Unary succ) (V.Pair i) hf hv sf sv = no_pair_succ M (meant_at ms i)
  returned_agrees M (F.Unary fst) (V.Number n) hf hv sf sv = none
  returned_agrees M (F.Unary fst) (V.Lam T a e) hf hv sf sv = none
  returned_agrees M (F.Unary fst) (V.Pair i) hf hv sf sv =
      let P : Meant → Type 0 =
      λ m. Agrees (returned M (in_one fst) K (pair_in m)) (1, 0, K ◁ value_of ts ms (left_in (cell_at cs i))) in
      subst P (sym (cell_entry ts nodes cs i law)) (fst_cell M (cell_at cs i))
  returned_agrees M (F.Unary snd) (V.Number n) hf hv sf sv = none
  returned_agrees M (F.Unary snd) (V.Lam T a e) hf hv sf sv = none
  returned_agrees M (F.Unary snd) (V.Pair i) hf hv sf sv =
      let P : Meant → Type 0 =
      λ m. Agrees (returned M (in_one snd) K (pair_in m)) (1, 0, K ◁ value_of ts ms (right_in (cell_at cs i))) in
      subst P (sym (cell_entry ts nodes cs i law)) (snd_cell M (cell_at cs i))
  returned_agrees M (F.Unary get) (V.Number n) hf hv sf sv = agree (answers_agree ts ms K (M n))
  returned_agrees M (F.Unary get) (V.Lam T a e) hf hv sf sv = none
  returned_agrees M (F.Unary get) (V.Pair i) hf hv sf sv = no_pair_get M (meant_at ms i)
  returned_agrees M (F.First g r e) v hf hv sf sv =
      let p = entered r e sf in
      agree (λ i. stack_of ts ms (F.Second g v ∷ k) ▷ p i)
  returned_agrees M (F.Second (pair T) u) v hf hv sf sv = agree (pair_stands T u v)
  returned_agrees M (F.Second (calc o) (V.Number n)) (V.Number m) hf hv sf sv =
      agree (limits_agree ts ms K (result o n m))
  returned_agrees M (F.Second (calc o) (V.Number n)) (V.Lam T a e) hf hv sf sv = none
  returned_agrees M (F.Second (calc o) (V.Number n)) (V.Pair i) hf hv sf sv = no_pair_right M o n (meant_at ms i)
  returned_agrees M (F.Second (calc o) (V.Lam T a e)) v hf hv sf sv = none
  returned_agrees M (F.Second (calc o) (V.Pair i)) v hf hv sf sv = no_pair_left M o (value_of ts ms v) (meant_at ms i)
  returned_agrees M (F.Ifz z m e) (V.Number zero) hf hv sf sv = let p = entered z e sf.0 in agree (λ i. K ▷ p i)
  returned_agrees M (F.Ifz z m e) (V.Number (suc n)) hf hv sf sv =
      agree (bind_stands (D.Number n) e m refl (place_env N J z e (and_parts (place_fits N J z e) (ltb m N) hf).0) tt
      sf.1)
  returned_agrees M (F.Ifz z m e) (V.Lam T a x) hf hv sf sv = none
  returned_agrees M (F.Ifz z m e) (V.Pair i) hf hv sf sv =
      no_pair_ifz M (close 0 (env_of ms e) (node_term_at ts z)) (close 1 (env_of ms e) (node_term_at ts m)) (meant_at ms i)
  returned_agrees M (F.Apply r e) (V.Number n) hf hv sf sv = none
  returned_agrees M (F.Apply r e) (V.Lam T a x) hf hv sf sv =
      let p = entered r e sf in
      let bound =
      bind_stands (enter nodes cs r e) x a (enter_fits nodes cs law r e hf) (place_env N J a x hv)
      (subst (Below 0) p sf) sv in
      agree ((λ i. K ▷ inst (close 1 (env_of ms x) (node_term_at ts a)) (p i)) ∙ bound)
  returned_agrees M (F.Apply r e) (V.Pair i) hf hv sf sv =
      no_pair_app M (close 0 (env_of ms e) (node_term_at ts r)) (meant_at ms i)
  returned_agrees M (F.Catch r e) v hf hv sf sv = agree refl

  failed_agrees : (f : Frame') → ShutFrame (frame_of ts ms f)
      → failed (frame_of ts ms f) K ≡ stands_taken ts (failed' nodes f k cs)
  failed_agrees (F.Unary g) sf = refl
  failed_agrees (F.First g r e) sf = refl
  failed_agrees (F.Second g v) sf = refl
  failed_agrees (F.Ifz z m e) sf = refl
  failed_agrees (F.Apply r e) sf = refl
  failed_agrees (F.Catch r e) sf = let p = entered r e sf in λ i. (1, 0, K ▷ p i)

module _ (laws : Laws) (ts : List Term) (nodes : List Node) (entry : (i : ℕ) → node_term_at ts i ≡ term_of ts (node_in nodes i))
    (cs : List Cell) (law : lawful (cell_fits nodes) 0 cs ≡ true) (shut : meants_closed (cells_of ts cs) ≡ true) where
  pub stepped_agrees : (M : Meaning) (x : Mode) (k : List Frame') → mode_fits nodes (length cs) x ≡ true
      → stack_fits (length nodes) (length cs) k ≡ true →
      Shut (mode_of ts (cells_of ts cs) (stack_of ts (cells_of ts cs) k) x) →
      Agrees (next M (mode_of ts (cells_of ts cs) (stack_of ts (cells_of ts cs) k) x))
      (stands_taken ts (stepped nodes M x k cs))
  stepped_agrees ans (M.Eval c) k hm hk s = begun_agrees laws ts nodes entry cs law shut k hk ans c hm s
  stepped_agrees ans (M.Return v) [] hm hk s = none
  stepped_agrees ans (M.Return v) (f ∷ k) hm hk s =
      let hs = and_parts (frame_fits (length nodes) (length cs) f) (stack_fits (length nodes) (length cs) k) hk in
      returned_agrees laws ts nodes entry cs law shut k hs.1 ans f v hs.0 hm s.0 s.1
  stepped_agrees ans M.Fail [] hm hk s = none
  stepped_agrees ans M.Fail (f ∷ k) hm hk s =
      let hs = and_parts (frame_fits (length nodes) (length cs) f) (stack_fits (length nodes) (length cs) k) hk in
      agree_whole (failed_agrees laws ts nodes entry cs law shut k hs.1 f s)
