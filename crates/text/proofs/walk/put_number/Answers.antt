use Rattle.std.proofs.Common.{sym, subst}
use Rattle.std.proofs.lemmas.Fmt.{decimal_digit}
use Rattle.text.specs.Sinks.{Puts}
use Rattle.text.proofs.walk.put_number.Goals as goal

pub returns-then-n-lt10 : goal.returns-then-n-lt10
returns-then-n-lt10 g c =
    subst (λ l. Puts g.S.Sink.takes g.S.Sink.lacks c.args.out.now l c.put.result c.put.new.self) (sym (decimal_digit c.args.n c.if-n-lt10.true)) c.put.ensures
