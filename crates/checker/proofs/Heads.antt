-- The kind of a row by what it begins with.
use Rattle.std.proofs.Common.{◌≡◌, ℕ, ◌-◌, ◌<◌, ◌≤◌, cond, eqb, sym, ap, ◌∙◌, ⊎_elim, arith}
use Rattle.std.proofs.lemmas.List.{get_or_past}
use Rattle.std.proofs.lemmas.Bool.{cases_lt, le-ltb}
use Rattle.rows.specs.declared.forms.Form.{Form}
use Rattle.rows.specs.declared.forms.Form.TheVariants.{Lam, Fix, Catch}
use Rattle.rows.specs.declared.forms.Head.TheVariants.{Number, Name, Form as Bracketed}
use Rattle.rows.specs.Forms.{kind, forms, form_at, head_at}
use Rattle.checker.proofs.ByKind.{kinds}

bracketed : {f g : Form} → Bracketed f ≡ Bracketed g → f ≡ g
bracketed e = cc

last_form : (k : ℕ) → 16 ≤ k → head_at k ≡ Bracketed Catch
last_form k h = ap (λ b. cond b (cond (eqb k 0) Number Name) (Bracketed (form_at k))) (le-ltb k 2 (omega arith)) ∙ ap Bracketed (get_or_past forms (k - 2) Catch (omega arith))

-- a form but the last is of one kind alone
kind_of : (k : ℕ) (f : Form) → Bracketed f ≡ head_at k → (f ≡ Catch → ⊥) → k ≡ kind f
kind_of k f e n =
    ⊎_elim
    (λ (low : k < 16). kinds (λ k. Bracketed f ≡ head_at k → k ≡ kind f) (λ e. cc) (λ e. cc)
    (λ e. sym (ap kind (bracketed e))) (λ e. sym (ap kind (bracketed e))) (λ e. sym (ap kind (bracketed e))) (λ e. sym (ap kind (bracketed e)))
    (λ e. sym (ap kind (bracketed e))) (λ e. sym (ap kind (bracketed e))) (λ e. sym (ap kind (bracketed e))) (λ e. sym (ap kind (bracketed e)))
    (λ e. sym (ap kind (bracketed e))) (λ e. sym (ap kind (bracketed e))) (λ e. sym (ap kind (bracketed e))) (λ e. sym (ap kind (bracketed e)))
    (λ e. sym (ap kind (bracketed e))) (λ e. sym (ap kind (bracketed e)))
    k (omega arith) e)
    (λ (high : 16 ≤ k). absurd (n (bracketed (e ∙ last_form k high))))
    (cases_lt k 16)

pub lam_kind : (k : ℕ) → head_at k ≡ Bracketed Lam → k ≡ 4
lam_kind k e = kind_of k Lam (sym e) (λ z. cc)

pub fix_kind : (k : ℕ) → head_at k ≡ Bracketed Fix → k ≡ 6
fix_kind k e = kind_of k Fix (sym e) (λ z. cc)
