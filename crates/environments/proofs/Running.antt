-- Runs of the environment machine stand for runs of the control-stack machine.
use Rattle.std.proofs.Common.{◌≡◌, ℕ, zero, suc, ◌+◌, ◌-◌, ◌<◌, true, ◌⊎◌, List, [], length, sym, refl, ap, ◌∙◌, subst, inl, inr, arith}
use Rattle.rows.specs.Meanings.{Meaning, Lawful}
use Rattle.theory.specs.Syntax.{nat, Term}
use Rattle.theory.specs.Typing.{◌⊢◌∶◌}
use Rattle.machine.specs.States.{State}
use Rattle.machine.specs.Steps.{Final, number_end, failed_end}
use Rattle.machine.specs.StateTyping.{WellTyped}
use Rattle.machine.specs.Next.{Taken, next}
use Rattle.machine.specs.Laws.{Laws}
use Rattle.runs.specs.Standings.{Limits, Status, number, failed, spent, tall, full, going, Standing as Standing'}
use Rattle.runs.specs.Standings.{held as held', ended_or as ended_or', status as status', opening as opening'}
use Rattle.runs.specs.Standings.{onto as onto'}
use Rattle.runs.specs.Advances.{stepped as stepped', if-going as if-going', once as once', advanced as advanced'}
use Rattle.environments.specs.Nodes.{Node, nodes_of}
use Rattle.environments.specs.Folds.{grown}
use Rattle.environments.specs.NodeTerms.{node_term_at, terms_of, nodes_lawful}
use Rattle.environments.specs.States.{step}
use Rattle.environments.specs.Stands.{stands}
use Rattle.environments.specs.Fits.{fits}
use Rattle.environments.specs.Runs.{Standing, standing, status, opening, onto, if-going, once, advanced}
use Rattle.environments.specs.Laws.{Follows, StandsFor, SheetsOpen, SheetsRun}
use Rattle.environments.proofs.Refining.{refines, opens as starts}
use Rattle.environments.proofs.Rows.{nodes_stand}
use Rattle.environments.proofs.Judging.{judges}

-- An end is not going.
ended_not_going : {p : State} (t : Status) → Final p → ended_or' p t ≡ going → ⊥
ended_not_going t number_end e = let z : ◌≡◌ {A = ℕ} 0 1 = cc in omega arith
ended_not_going t failed_end e = let z : ◌≡◌ {A = ℕ} 0 1 = cc in omega arith

module _ (laws : Laws) (nodes : List Node) (table : nodes_lawful nodes ≡ true) where
  -- the terms of the nodes
  abbrev ts : List Term
  ts = terms_of nodes

  pub runs_open : 0 < length nodes → [] ⊢ node_term_at ts (length nodes - 1) ∶ nat
      → StandsFor nodes (opening nodes) (opening' (node_term_at ts (length nodes - 1)))
  unfolding grown
  runs_open l a =
      let o = starts laws nodes table l a in
      let e = o.at_rule in
      record {
        agrees = λ i. record { steps = 0; moves = 0; cells = 0; state = e i };
        holds = o.holds;
        typed = o.typed;
      }

  module _ (ans : Meaning) (ok : Lawful ans) (L : Limits) where
    module _ (r : Standing) (h : fits ts nodes r.state ≡ true) (w : WellTyped (stands ts r.state)) where
      same : (t : Status) → status' L (standing ts r) ≡ t → status nodes L r ≡ t
      same t e = judges nodes table L r h ∙ e

      rests : (t : Status) → status' L (standing ts r) ≡ t → ((q : Standing) → if-going t r q ≡ r)
          → ((p q : Standing') → if-going' t p q ≡ p)
          → StandsFor nodes (once nodes ans L r) (once' ans L (standing ts r))
      rests t e f g =
          let n : Standing = onto r (step nodes ans r.state) in
          let here : once nodes ans L r ≡ r = ap (λ x. if-going x r n) (same t e) ∙ f n in
          let p = standing ts r in
          let n' : Standing' = stepped' p (next ans p.state) in
          let there : once' ans L p ≡ p = ap (λ x. if-going' x p n') e ∙ g p n' in
          record {
            agrees = ap (standing ts) here ∙ sym there;
            holds = ap (λ (q : Standing). fits ts nodes q.state) here ∙ h;
            typed = subst (λ (q : Standing). WellTyped (stands ts q.state)) (sym here) w;
          }

      moves_on : status' L (standing ts r) ≡ going → Follows ans nodes r.state (step nodes ans r.state)
          → StandsFor nodes (once nodes ans L r) (once' ans L (standing ts r))
      moves_on e f =
          let t = step nodes ans r.state in
          let here : once nodes ans L r ≡ onto r t = ap (λ x. if-going x r (onto r t)) (same going e) in
          let p = standing ts r in
          let u : Taken = (t.0, t.1, stands ts t.2) in
          let there : once' ans L p ≡ onto' p u =
          ap (λ x. if-going' x p (stepped' p (next ans p.state))) e
          ∙ ap (stepped' p) ((laws.step_computed ans t.0 t.1 p.state u.2).0 f.goes) in
          let c = f.cells_count in
          let onward : standing ts (onto r t) ≡ onto' p u =
          λ i. record { steps = r.steps + 1; moves = r.moves + t.0; cells = c i; state = stands ts t.2 } in
          record {
            agrees = ap (standing ts) here ∙ onward ∙ sym there;
            holds = ap (λ (q : Standing). fits ts nodes q.state) here ∙ f.holds;
            typed = subst (λ (q : Standing). WellTyped (stands ts q.state)) (sym here) f.typed;
          }

      goes_on : status' L (standing ts r) ≡ going
          → Final (stands ts r.state) ⊎ Follows ans nodes r.state (step nodes ans r.state)
          → StandsFor nodes (once nodes ans L r) (once' ans L (standing ts r))
      goes_on e (inl f) = absurd (ended_not_going (held' L (standing ts r)) f e)
      goes_on e (inr f) = moves_on e f

      by_status : (t : Status) → status' L (standing ts r) ≡ t
          → StandsFor nodes (once nodes ans L r) (once' ans L (standing ts r))
      by_status (number n) e = rests (number n) e (λ q. refl) (λ p q. refl)
      by_status failed e = rests failed e (λ q. refl) (λ p q. refl)
      by_status spent e = rests spent e (λ q. refl) (λ p q. refl)
      by_status tall e = rests tall e (λ q. refl) (λ p q. refl)
      by_status full e = rests full e (λ q. refl) (λ p q. refl)
      by_status going e = goes_on e (refines laws nodes table ans ok r.state h w)

    pub once_agrees : (r : Standing) → fits ts nodes r.state ≡ true → WellTyped (stands ts r.state)
        → StandsFor nodes (once nodes ans L r) (once' ans L (standing ts r))
    once_agrees r h w = by_status r h w (status' L (standing ts r)) refl

    pub runs_agree : (n : ℕ) (r : Standing) → fits ts nodes r.state ≡ true → WellTyped (stands ts r.state)
        → StandsFor nodes (advanced nodes ans L n r) (advanced' ans L n (standing ts r))
    unfolding advanced
    runs_agree zero r h w = record { agrees = refl; holds = h; typed = w }
    runs_agree (suc n) r h w =
        let a = runs_agree n r h w in
        let o = once_agrees (advanced nodes ans L n r) a.holds a.typed in
        record { agrees = o.agrees ∙ ap (once' ans L) a.agrees; holds = o.holds; typed = o.typed }

-- ---- sheets

module _ (laws : Laws) where
  pub sheets_open : SheetsOpen
  sheets_open s law typed =
      let n = nodes_stand s law in
      let some : 0 < length (nodes_of s) = omega (arith, n.count, law.term_count.0) in
      let rule = subst (λ e. [] ⊢ e ∶ nat) (sym n.rule) typed in
      subst (λ e. StandsFor (nodes_of s) (opening (nodes_of s)) (opening' e)) n.rule
      (runs_open laws (nodes_of s) n.lawful some rule)

  pub sheets_run : SheetsRun
  sheets_run s law typed M ok L n =
      let o = sheets_open s law typed in
      let a =
      runs_agree laws (nodes_of s) (nodes_stand s law).lawful M ok L n (opening (nodes_of s)) o.holds
      o.typed in
      subst (λ q. StandsFor (nodes_of s) (advanced (nodes_of s) M L n (opening (nodes_of s))) (advanced' M L n q))
      o.agrees a
