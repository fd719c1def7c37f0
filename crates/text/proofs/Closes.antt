-- A form that is whole, as a row.
use Rattle.std.proofs.Common.{◌≡◌, ℕ, ◌≤◌, List, [], ◌∷◌, map, get_or, drop, Some, sym, ap, ◌∙◌, ⊎_elim, arith}
use Rattle.std.proofs.str.Laws.{order}
use Rattle.std.proofs.lemmas.List.{get_or-take}
use Rattle.std.proofs.lemmas.Grind.{common_steps}
use Rattle.std.specs.List.{slice_get}
use Rattle.rows.specs.declared.forms.Form.{Form}
use Rattle.rows.specs.declared.tables.TermRow.{TermRow}
use Rattle.rows.specs.declared.tables.TypeRow.{TypeRow}
use Rattle.rows.specs.declared.forms.Shape.{Shape}
use Rattle.rows.specs.Forms.{kind, shape_kind}
use Rattle.rows.specs.Rows.{type_row, form_row}
use Rattle.theory.specs.Emit.{Tables}
use Rattle.grammar.specs.Reader as m
use Rattle.grammar.specs.TableMaker.{into_tables, row_made, type_made}
use Rattle.text.specs.declared.opens.Parts.{Parts}
use Rattle.text.specs.declared.opens.OpenForm.{OpenForm}
use Rattle.text.specs.declared.opens.OpenForm.TheVariants as o
use Rattle.text.specs.Brackets.{listed, bracket}
use Rattle.text.proofs.Tops.{head_some}

-- a row that is not there yet is 0
module _ (p : Parts) where
  entry : (i : ℕ) → (p.count ≤ i → get_or p.rows i 0 ≡ 0) → get_or (listed p) i 0 ≡ get_or p.rows i 0
  entry i clean = ⊎_elim (λ h. get_or-take p.count p.rows i 0 h) (λ h. let z = clean h in grind (arith, common_steps)) (order i p.count)

  first : get_or (listed p) 0 0 ≡ get_or p.rows 0 0
  first = entry 0 (λ h. p.clean.0 (omega arith))

  second : get_or (listed p) 1 0 ≡ get_or p.rows 1 0
  second = entry 1 (λ h. p.clean.1 (omega arith))

  third : get_or (listed p) 2 0 ≡ get_or p.rows 2 0
  third = entry 2 (λ h. p.clean.2 (omega arith))

pub closed_term : (os os' : List OpenForm) (f : Form) (p q : Parts) (r : TermRow) (s : Tables) (tn en room : ℕ) → Some (o.Term f p q) ≡ slice_get os 0 → os' ≡ drop 1 os → r ≡ form_row f (get_or p.rows 0 0 ∷ []) q.rows
    → m.made (row_made en r s) (map bracket os') ≡ m.closed (into_tables tn en) room s (map bracket os)
closed_term os os' f p q r s tn en room top rest is =
    let row : ◌≡◌ {A = TermRow} (form_row f (get_or p.rows 0 0 ∷ []) q.rows) (form_row f (listed p) (listed q)) = λ i. record { kind = kind f; ty = sym (first p) i; number = 0; a = sym (first q) i; b = sym (second q) i; c = sym (third q) i } in
    (λ i. m.made (row_made en ((is ∙ row) i) s) (map bracket (rest i))) ∙ sym (ap (λ l. m.closed (into_tables tn en) room s (map bracket l)) (head_some os (o.Term f p q) top))

pub closed_type : (os os' : List OpenForm) (k : Shape) (p : Parts) (r : TypeRow) (s : Tables) (tn en room : ℕ) → Some (o.Type k p) ≡ slice_get os 0 → os' ≡ drop 1 os → r ≡ type_row (shape_kind k) (get_or p.rows 0 0) (get_or p.rows 1 0)
    → m.made_type (type_made tn r s) (map bracket os') ≡ m.closed (into_tables tn en) room s (map bracket os)
closed_type os os' k p r s tn en room top rest is =
    let row : ◌≡◌ {A = TypeRow} (type_row (shape_kind k) (get_or p.rows 0 0) (get_or p.rows 1 0)) (type_row (shape_kind k) (get_or (listed p) 0 0) (get_or (listed p) 1 0)) = λ i. type_row (shape_kind k) (sym (first p) i) (sym (second p) i) in
    (λ i. m.made_type (type_made tn ((is ∙ row) i) s) (map bracket (rest i)))
    ∙ sym (ap (λ l. m.closed (into_tables tn en) room s (map bracket l)) (head_some os (o.Type k p) top))
