-- Putting closed terms for names: what is closed stays, one put after the others is all put at once, and types are kept.
use Rattle.std.proofs.Common.{◌≡◌, ℕ, zero, suc, ◌+◌, ◌-◌, ◌<◌, ◌≤◌, List, [], ◌∷◌, ◌++◌, length, Some, None, Option, sym, refl, ap, ◌∙◌, arith}
use mathlib.Core.Logic.{ite}
use native.Mathlib.Decide.{dec_lt}
use Rattle.theory.specs.Syntax.{Ty, nat, Term, num, name, one, two, ifz, lam, app, fix, fail, catch}
use Rattle.std.specs.List.{slice_get}
use Rattle.machine.specs.Substitution.{or_else, named, close, inst, Below, AllClosed}
use Rattle.theory.specs.Typing.{◌⊢◌∶◌, ⊢num, ⊢name, ⊢one, ⊢two, ⊢ifz, ⊢lam, ⊢app, ⊢fix, ⊢fail, ⊢catch}
use Rattle.machine.proofs.Lists.{clash, nth_below, nth_above, nth_inside, nth_append, nth_missing, nth_found}

pub typed_below : {Γ : List Ty} {e : Term} {τ : Ty} → Γ ⊢ e ∶ τ → Below (length Γ) e
typed_below (⊢num h) = tt
typed_below (⊢name {Γ = Γ} {d = d} {τ = τ} e) = nth_inside Γ d τ e
typed_below (⊢one g a) = typed_below a
typed_below (⊢two g a b) = (typed_below a, typed_below b)
typed_below (⊢ifz a b c) = (typed_below a, typed_below b, typed_below c)
typed_below (⊢lam a) = typed_below a
typed_below (⊢app a b) = (typed_below a, typed_below b)
typed_below (⊢fix a) = typed_below a
typed_below ⊢fail = tt
typed_below (⊢catch a b) = (typed_below a, typed_below b)

pub named_near : (d : ℕ) (ρ : List Term) (i : ℕ) → i < d → named d ρ i ≡ name i
named_near d ρ i h = go (dec_lt i d)
  where
    go : (q : Dec (i < d)) → ite q (name i) (or_else (slice_get ρ (i - d)) (name (i - length ρ))) ≡ name i
    go (yes p) = refl
    go (no p) = absurd (p h)

named_far : (d : ℕ) (ρ : List Term) (i : ℕ) → d ≤ i → named d ρ i ≡ or_else (slice_get ρ (i - d)) (name (i - length ρ))
named_far d ρ i h = go (dec_lt i d)
  where
    go : (q : Dec (i < d)) → ite q (name i) (or_else (slice_get ρ (i - d)) (name (i - length ρ))) ≡ or_else (slice_get ρ (i - d)) (name (i - length ρ))
    go (yes p) = absurd (omega arith)
    go (no p) = refl

pub close_stays : (c d : ℕ) (ρ : List Term) (t : Term) → c ≤ d → Below c t → close d ρ t ≡ t
close_stays c d ρ (num n) h b = refl
close_stays c d ρ (name i) h b = named_near d ρ i (omega arith)
close_stays c d ρ (one g A) h b = λ i. one g (close_stays c d ρ A h b i)
close_stays c d ρ (two g A B) h b = λ i. two g (close_stays c d ρ A h b.0 i) (close_stays c d ρ B h b.1 i)
close_stays c d ρ (ifz A B C) h b = λ i. ifz (close_stays c d ρ A h b.0 i) (close_stays c d ρ B h b.1 i) (close_stays (suc c) (suc d) ρ C (omega arith) b.2 i)
close_stays c d ρ (lam T A) h b = λ i. lam T (close_stays (suc c) (suc d) ρ A (omega arith) b i)
close_stays c d ρ (app A B) h b = λ i. app (close_stays c d ρ A h b.0 i) (close_stays c d ρ B h b.1 i)
close_stays c d ρ (fix T A) h b = λ i. fix T (close_stays (suc c) (suc d) ρ A (omega arith) b i)
close_stays c d ρ (fail T) h b = refl
close_stays c d ρ (catch A B) h b = λ i. catch (close_stays c d ρ A h b.0 i) (close_stays c d ρ B h b.1 i)

pub entry_closed : (ρ : List Term) (i : ℕ) (e : Term) → AllClosed ρ → slice_get ρ i ≡ Some e → Below 0 e
entry_closed [] i e c h = clash (cc)
entry_closed (t ∷ ρ) zero e c h = let p : t ≡ e = cc in rw p at c.0
entry_closed (t ∷ ρ) (suc i) e c h = entry_closed ρ i e c.1 h

-- What name d + j becomes under d binders.
pub named_at : (d : ℕ) (ρ : List Term) (i j : ℕ) → i ≡ d + j → named d ρ i ≡ or_else (slice_get ρ j) (name (i - length ρ))
named_at d ρ i j e = named_far d ρ i (omega arith) ∙ ap (λ x. or_else (slice_get ρ x) (name (i - length ρ))) (omega arith)

name_then : (d : ℕ) (e : Term) (ρ : List Term) (i : ℕ) → AllClosed ρ → close d (e ∷ []) (named (suc d) ρ i) ≡ named d (e ∷ ρ) i
name_then d e ρ i c = go (dec_lt i d)
  where
    inner : (j : ℕ) → i ≡ suc d + j → (o : Option Term) → slice_get ρ j ≡ o → close d (e ∷ []) (or_else o (name (i - length ρ))) ≡ or_else o (name (i - suc (length ρ)))
    inner j p (Some t) q = close_stays 0 d (e ∷ []) t (omega arith) (entry_closed ρ j t c q)
    inner j p None q =
        let h = nth_missing ρ j q in
        named_at d (e ∷ []) (i - length ρ) (suc (j - length ρ)) (omega arith) ∙ ap name (omega arith)

    outer : (k : ℕ) → i ≡ d + k → close d (e ∷ []) (named (suc d) ρ i) ≡ named d (e ∷ ρ) i
    outer zero p = ap (close d (e ∷ [])) (named_near (suc d) ρ i (omega arith)) ∙ named_at d (e ∷ []) i 0 p ∙ sym (named_at d (e ∷ ρ) i 0 p)
    outer (suc j) p = ap (close d (e ∷ [])) (named_at (suc d) ρ i j (omega arith)) ∙ inner j (omega arith) (slice_get ρ j) refl ∙ sym (named_at d (e ∷ ρ) i (suc j) p)

    go : Dec (i < d) → close d (e ∷ []) (named (suc d) ρ i) ≡ named d (e ∷ ρ) i
    go (yes p) = ap (close d (e ∷ [])) (named_near (suc d) ρ i (omega arith)) ∙ named_near d (e ∷ []) i p ∙ sym (named_near d (e ∷ ρ) i p)
    go (no p) = outer (i - d) (omega arith)

-- One more term put for the nearest name, after the others were put for the names outside, is all of them put at once.
pub close_close : (d : ℕ) (e : Term) (ρ : List Term) (t : Term) → AllClosed ρ → close d (e ∷ []) (close (suc d) ρ t) ≡ close d (e ∷ ρ) t
close_close d e ρ (num n) c = refl
close_close d e ρ (name i) c = name_then d e ρ i c
close_close d e ρ (one g A) c = λ i. one g (close_close d e ρ A c i)
close_close d e ρ (two g A B) c = λ i. two g (close_close d e ρ A c i) (close_close d e ρ B c i)
close_close d e ρ (ifz A B C) c = λ i. ifz (close_close d e ρ A c i) (close_close d e ρ B c i) (close_close (suc d) e ρ C c i)
close_close d e ρ (lam T A) c = λ i. lam T (close_close (suc d) e ρ A c i)
close_close d e ρ (app A B) c = λ i. app (close_close d e ρ A c i) (close_close d e ρ B c i)
close_close d e ρ (fix T A) c = λ i. fix T (close_close (suc d) e ρ A c i)
close_close d e ρ (fail T) c = refl
close_close d e ρ (catch A B) c = λ i. catch (close_close d e ρ A c i) (close_close d e ρ B c i)

below_more : (c d : ℕ) (t : Term) → c ≤ d → Below c t → Below d t
below_more c d (num n) h b = tt
below_more c d (name i) h b = omega arith
below_more c d (one g A) h b = below_more c d A h b
below_more c d (two g A B) h b = (below_more c d A h b.0, below_more c d B h b.1)
below_more c d (ifz A B C) h b = (below_more c d A h b.0, below_more c d B h b.1, below_more (suc c) (suc d) C (omega arith) b.2)
below_more c d (lam T A) h b = below_more (suc c) (suc d) A (omega arith) b
below_more c d (app A B) h b = (below_more c d A h b.0, below_more c d B h b.1)
below_more c d (fix T A) h b = below_more (suc c) (suc d) A (omega arith) b
below_more c d (fail T) h b = tt
below_more c d (catch A B) h b = (below_more c d A h b.0, below_more c d B h b.1)

name_closed : (d : ℕ) (ρ : List Term) (i : ℕ) → AllClosed ρ → i < d + length ρ → Dec (i < d) → Below d (named d ρ i)
name_closed d ρ i c h (yes p) = rw (named_near d ρ i p) p
name_closed d ρ i c h (no p) =
    let (e, f) = nth_found ρ (i - d) (omega arith) in
    let q = named_at d ρ i (i - d) (omega arith) ∙ ap (λ o. or_else o (name (i - length ρ))) f in
    rw q (below_more 0 d e (omega arith) (entry_closed ρ (i - d) e c f))

-- Closed terms put for all names outside leave the d nearest.
pub close_closed : (d n : ℕ) (ρ : List Term) (t : Term) → n ≡ d + length ρ → AllClosed ρ → Below n t → Below d (close d ρ t)
close_closed d n ρ (num m) e c b = tt
close_closed d n ρ (name i) e c b = name_closed d ρ i c (omega arith) (dec_lt i d)
close_closed d n ρ (one g A) e c b = close_closed d n ρ A e c b
close_closed d n ρ (two g A B) e c b = (close_closed d n ρ A e c b.0, close_closed d n ρ B e c b.1)
close_closed d n ρ (ifz A B C) e c b = (close_closed d n ρ A e c b.0, close_closed d n ρ B e c b.1, close_closed (suc d) (suc n) ρ C (omega arith) c b.2)
close_closed d n ρ (lam T A) e c b = close_closed (suc d) (suc n) ρ A (omega arith) c b
close_closed d n ρ (app A B) e c b = (close_closed d n ρ A e c b.0, close_closed d n ρ B e c b.1)
close_closed d n ρ (fix T A) e c b = close_closed (suc d) (suc n) ρ A (omega arith) c b
close_closed d n ρ (fail T) e c b = tt
close_closed d n ρ (catch A B) e c b = (close_closed d n ρ A e c b.0, close_closed d n ρ B e c b.1)

-- More types in sight beyond those of a term change nothing.
pub weaken : {Γ : List Ty} {e : Term} {τ : Ty} (Δ : List Ty) → Γ ⊢ e ∶ τ → (Γ ++ Δ) ⊢ e ∶ τ
weaken Δ (⊢num h) = ⊢num h
weaken Δ (⊢name {Γ = Γ} {d = d} {τ = τ} e) = ⊢name (nth_append Γ Δ d τ e)
weaken Δ (⊢one g a) = ⊢one g (weaken Δ a)
weaken Δ (⊢two g a b) = ⊢two g (weaken Δ a) (weaken Δ b)
weaken Δ (⊢ifz a b c) = ⊢ifz (weaken Δ a) (weaken Δ b) (weaken Δ c)
weaken Δ (⊢lam a) = ⊢lam (weaken Δ a)
weaken Δ (⊢app a b) = ⊢app (weaken Δ a) (weaken Δ b)
weaken Δ (⊢fix a) = ⊢fix (weaken Δ a)
weaken Δ ⊢fail = ⊢fail
weaken Δ (⊢catch a b) = ⊢catch (weaken Δ a) (weaken Δ b)

-- Closed terms ρ of the types Γ.
pub data AllTyped : List Term → List Ty → Type 0 where
  no_terms : AllTyped [] []
  and_term : {e : Term} {τ : Ty} {ρ : List Term} {Γ : List Ty} → [] ⊢ e ∶ τ → AllTyped ρ Γ → AllTyped (e ∷ ρ) (τ ∷ Γ)

pub entry_typed : {ρ : List Term} {Γ : List Ty} → AllTyped ρ Γ → (i : ℕ) (τ : Ty) → slice_get Γ i ≡ Some τ → (e : Term) × (slice_get ρ i ≡ Some e) × ([] ⊢ e ∶ τ)
entry_typed no_terms i τ h = clash (cc)
entry_typed (and_term {e = e} {τ = σ} a rs) zero τ h = let p : σ ≡ τ = cc in (e, refl, rw p at a)
entry_typed (and_term a rs) (suc i) τ h = entry_typed rs i τ h

name_typed : (Δ Γ : List Ty) (ρ : List Term) → AllTyped ρ Γ → (i : ℕ) (τ : Ty) → slice_get (Δ ++ Γ) i ≡ Some τ → Δ ⊢ named (length Δ) ρ i ∶ τ
name_typed Δ Γ ρ rs i τ e = go (dec_lt i (length Δ))
  where
    go : (q : Dec (i < length Δ)) → Δ ⊢ ite q (name i) (or_else (slice_get ρ (i - length Δ)) (name (i - length ρ))) ∶ τ
    go (yes p) = ⊢name (sym (nth_below Δ Γ i p) ∙ e)
    go (no p) =
        let found = entry_typed rs (i - length Δ) τ (sym (nth_above Δ Γ i (omega arith)) ∙ e) in
        rw found.1 (weaken Δ found.2)

-- (The types in sight are a variable, with an equation, since antt recurses only so.)
close_typed' : {Γ Θ : List Ty} {ρ : List Term} {t : Term} {τ : Ty} (Δ : List Ty) → AllTyped ρ Γ → Θ ⊢ t ∶ τ → Θ ≡ Δ ++ Γ → Δ ⊢ close (length Δ) ρ t ∶ τ
close_typed' Δ rs (⊢num h) q = ⊢num h
close_typed' {Γ = Γ} {ρ = ρ} Δ rs (⊢name {d = d} {τ = τ} e) q = name_typed Δ Γ ρ rs d τ (ap (λ x. slice_get x d) (sym q) ∙ e)
close_typed' Δ rs (⊢one g a) q = ⊢one g (close_typed' Δ rs a q)
close_typed' Δ rs (⊢two g a b) q = ⊢two g (close_typed' Δ rs a q) (close_typed' Δ rs b q)
close_typed' Δ rs (⊢ifz a b c) q = ⊢ifz (close_typed' Δ rs a q) (close_typed' Δ rs b q) (close_typed' (nat ∷ Δ) rs c (λ i. nat ∷ q i))
close_typed' Δ rs (⊢lam {σ = σ} a) q = ⊢lam (close_typed' (σ ∷ Δ) rs a (λ i. σ ∷ q i))
close_typed' Δ rs (⊢app a b) q = ⊢app (close_typed' Δ rs a q) (close_typed' Δ rs b q)
close_typed' Δ rs (⊢fix {τ = τ} a) q = ⊢fix (close_typed' (τ ∷ Δ) rs a (λ i. τ ∷ q i))
close_typed' Δ rs ⊢fail q = ⊢fail
close_typed' Δ rs (⊢catch a b) q = ⊢catch (close_typed' Δ rs a q) (close_typed' Δ rs b q)

pub close_typed : {Γ : List Ty} {ρ : List Term} {t : Term} {τ : Ty} (Δ : List Ty) → AllTyped ρ Γ → (Δ ++ Γ) ⊢ t ∶ τ → Δ ⊢ close (length Δ) ρ t ∶ τ
close_typed Δ rs a = close_typed' Δ rs a refl

-- A term with a closed term of the right type for its name keeps its type.
pub inst_typed : {A e : Term} {σ τ : Ty} → (σ ∷ []) ⊢ A ∶ τ → [] ⊢ e ∶ σ → [] ⊢ inst A e ∶ τ
inst_typed a e = close_typed [] (and_term e no_terms) a
