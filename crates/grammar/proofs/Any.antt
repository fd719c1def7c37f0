-- A reading by any maker finds a term that the text renders, and makes it; and it finds every one for which there is room.
use Rattle.std.proofs.Common.{◌≡◌, ℕ, suc, ◌≤◌, List, [], length, Some, ◌∙◌, subst, arith}
use Rattle.theory.specs.Syntax.{Term}
use Rattle.grammar.specs.Reader.{Maker, accepted, read}
use Rattle.grammar.specs.Renders.{Renders}
use Rattle.grammar.specs.TermTokens.{depth}
use Rattle.grammar.proofs.Grow.{grow}
use Rattle.grammar.proofs.Driven.{driven}
use Rattle.grammar.proofs.Found.{finds}
use Rattle.grammar.proofs.Spelt.{Spells, written, spells, tokens, passes}

module _ {S X Y : Type 0} (m : Maker S X Y) (room long : ℕ) where
  pub record Made (bs : List ℕ) (s : S) (r : S × Y) : Type 0 where
    pub term : Term
    pub renders : Renders bs term
    pub fits : depth term ≤ room
    pub grown : grow m term s ≡ Some r

  pub read_found : (bs : List ℕ) (s : S) (r : S × Y) → read m room long bs s ≡ accepted r.0 r.1 → Made bs s r
  read_found bs s r h =
      let a = tokens m room long (suc (length bs)) bs s [] r h in
      let d = finds m room a.0 s r a.2 in
      record { term = d.term; renders = written (subst (Spells bs) d.split a.1); fits = d.fits; grown = d.grown }

  pub read_made : (bs : List ℕ) (s : S) (r : S × Y) (e : Term) → Renders bs e → depth e ≤ room → grow m e s ≡ Some r → read m room long bs s ≡ accepted r.0 r.1
  read_made bs s r e w d g = passes m room long (suc (length bs)) s [] r (spells w) (omega arith) (driven m room e s d ∙ g)
