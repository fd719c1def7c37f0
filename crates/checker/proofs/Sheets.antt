-- What tables give that keep the laws of rows.
use Rattle.std.proofs.Common.{◌≡◌, ℕ, suc, ◌-◌, ◌<◌, ◌≤◌, true, false, ◌&&◌, eqb, ltb, leb, List, length, get_or, Some, None, Option, refl, arith}
use Rattle.std.proofs.lemmas.Bool.{and_parts, or_parts, ltb-false, eqb-false}
use Rattle.rows.specs.Limits.{top, most_types, most_terms}
use Rattle.rows.specs.declared.tables.TermRow.{TermRow}
use Rattle.theory.specs.Emit.{Tables}
use Rattle.checker.specs.declared.refusal.Fault.{Fault}
use Rattle.checker.specs.declared.refusal.Fault.TheVariants.{TableSize, BadType, BadTerm, PartUse}
use Rattle.checker.specs.Lowest.{first_of, lowest}
use Rattle.checker.specs.RowTests.{no_row, placed, typed, parts_placed, PartsPlaced, good_type, good_term, used_once}
use Rattle.checker.specs.Verdicts.{refusal, at_row, misfit, sizes, rows_verdict}
use Rattle.checker.proofs.Lows.{lowest_good}
use Rattle.checker.proofs.Shallows.{first_none, some_none, own_none}

pub no_fault : (f : Fault) (o : Option ℕ) → at_row f o ≡ None → o ≡ None
no_fault f None e = refl
no_fault f (Some p) e = absurd (some_none _ e)

-- what a good row keeps, taken apart
pub record Good (n p : ℕ) (r : TermRow) : Type 0 where
  pub kind : leb r.kind 15 ≡ true
  pub number : placed (ltb r.kind 2) r.number (suc top) ≡ true
  pub type : placed (typed r.kind) r.ty n ≡ true
  pub parts : parts_placed p r ≡ true

pub good : (n : ℕ) (es : List TermRow) (p : ℕ) → good_term n es p ≡ true → Good n p (get_or es p no_row)
good n es p g =
    let r = get_or es p no_row in
    let a = and_parts (leb r.kind 15) (placed (ltb r.kind 2) r.number (suc top) && (placed (typed r.kind) r.ty n && parts_placed p r)) g in
    let b = and_parts (placed (ltb r.kind 2) r.number (suc top)) (placed (typed r.kind) r.ty n && parts_placed p r) a.1 in
    let c = and_parts (placed (typed r.kind) r.ty n) (parts_placed p r) b.1 in
    record { kind = a.0; number = b.0; type = c.0; parts = c.1 }

-- a pass that finds no bad row shows that parts are earlier rows
pub placed_from_pass : (n : ℕ) (es : List TermRow) → lowest (good_term n es) (length es) ≡ None → PartsPlaced es
placed_from_pass n es h p lt = (good n es p (lowest_good (good_term n es) (length es) h p lt)).parts

pub record Kept (s : Tables) : Type 0 where
  pub some_types : 0 < length s.0
  pub few_types : length s.0 ≤ 1024
  pub some_terms : 0 < length s.1
  pub few_terms : length s.1 ≤ 2048
  pub types : lowest (good_type s.0) (length s.0) ≡ None
  pub terms : lowest (good_term (length s.0) s.1) (length s.1) ≡ None
  pub parts : lowest (used_once s.1) (length s.1 - 1) ≡ None

fits : (most n : ℕ) → misfit most n ≡ false → (0 < n) × (n ≤ most)
fits most n e =
    let t = or_parts (eqb n 0) (ltb most n) e in
    let z = eqb-false n 0 t.0 in
    (omega (arith, z), ltb-false most n t.1)

pub sizes_fit : (s : Tables) → sizes s ≡ None → (0 < length s.0) × (length s.0 ≤ 1024) × (0 < length s.1) × (length s.1 ≤ 2048)
sizes_fit s e =
    let o = or_parts (misfit most_types (length s.0)) (misfit most_terms (length s.1)) (own_none _ (refusal TableSize 0) e) in
    let t = fits most_types (length s.0) o.0 in
    let u = fits most_terms (length s.1) o.1 in
    (t.0, t.1, u.0, u.1)

pub kept : (s : Tables) → rows_verdict s ≡ None → Kept s
kept s e =
    let types_low = at_row BadType (lowest (good_type s.0) (length s.0)) in
    let terms_low = at_row BadTerm (lowest (good_term (length s.0) s.1) (length s.1)) in
    let parts_low = at_row PartUse (lowest (used_once s.1) (length s.1 - 1)) in
    let a = first_none (sizes s) (first_of types_low (first_of terms_low parts_low)) e in
    let b = first_none types_low (first_of terms_low parts_low) a.1 in
    let c = first_none terms_low parts_low b.1 in
    let f = sizes_fit s a.0 in
    record {
      some_types = f.0;
      few_types = f.1;
      some_terms = f.2;
      few_terms = f.3;
      types = no_fault BadType _ b.0;
      terms = no_fault BadTerm _ c.0;
      parts = no_fault PartUse _ c.1;
    }

pub kept_placed : (s : Tables) → Kept s → PartsPlaced s.1
kept_placed s k = placed_from_pass (length s.0) s.1 k.terms
