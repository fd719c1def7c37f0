use Rattle.std.proofs.Common.{rules, tests, ◌∙◌}
use denote.Enum.Bare.{sameb}
use Rattle.std.proofs.lemmas.Iterator.{YieldsList-from_slice}
use Rattle.std.proofs.lemmas.Iterator.Consumers.{count_from_yields_List}
use Rattle.std.proofs.lemmas.Iterator.Search.{YieldsList-from_take_while}
use Rattle.std.proofs.lemmas.List.Folds.{length-prefix_len}
use Rattle.grammar.specs.contracts.bytes.Class.{the_type}
use Rattle.grammar.specs.Bytes.{class}
use Rattle.text.proofs.Lexes.{run_is}
use Rattle.text.proofs.lexer.run.Goals as goal

pub returns-clause-value : goal.returns-clause-value
returns-clause-value c =
    count_from_yields_List c.take_while.result _ c.count.ensures.ran
    (YieldsList-from_take_while _ (λ b. sameb the_type (class b) c.args.k) (YieldsList-from_slice c.args.text.now (cc)) c.take_while.ensures.closure c.take_while.ensures.done (λ x b q k. search (rules, tests)))
    ∙ length-prefix_len (λ b. sameb the_type (class b) c.args.k) c.args.text.now ∙ run_is c.args.k c.args.text.now
