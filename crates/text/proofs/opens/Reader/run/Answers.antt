use Rattle.std.proofs.Common.{◌≡◌, length, Some, Ok, sym, ap, ◌∙◌, arith, rules, tests}
use Rattle.grammar.specs.Tokens.{token, took, trimmed}
use Rattle.grammar.specs.Runs.{shorter}
use Rattle.text.specs.Tokens.{tok, step}
use Rattle.text.specs.Brackets.{met, turn_in}
use Rattle.text.proofs.Loops.{went, still, same_on}
use Rattle.text.proofs.opens.Reader.run.Goals as goal

pub loop-token-preserved : goal.loop-token-preserved
loop-token-preserved c =
    let some : c.token.result ≡ Ok (Some (c.in-Some.token, c.in-Some.after)) = search (rules, tests) in
    let row : c.turn.result ≡ Ok c.in_ok-row.row = search (rules, tests) in
    let rest = c.loop-token.rest.now in
    let taken : token (trimmed rest) ≡ took (tok c.in-Some.token) c.in-Some.after.now = sym (sym (ap step some) ∙ c.token.ensures ∙ ap token c.trim-start.ensures) in
    let less = shorter rest c.in-Some.after.now _ taken in
    let turned : met (Ok c.in_ok-row.row) c.turn.new.self ≡ turn_in (tok c.in-Some.token) c.loop-token.self = sym (ap (λ a. met a c.turn.new.self) row) ∙ c.turn.ensures.turned in
    record {
      within = omega (arith, c.loop-token.invariant.within);
      same = same_on _ _ _ c.loop-token.invariant.same c.turn.ensures.same;
      going = went (length c.args.text.now) rest c.in-Some.after.now c.in_ok-row.row _ c.loop-token.self c.turn.new.self taken turned c.turn.ensures.same ∙ sym (still (length c.args.text.now) rest c.loop-token.row c.loop-token.self (search rules)) ∙ c.loop-token.invariant.going;
    }
