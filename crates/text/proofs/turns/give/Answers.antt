use Rattle.rows.specs.Views.{view}
use Rattle.text.proofs.Tops.{given_more, given_full}
use Rattle.text.proofs.turns.give.Goals as goal

pub returns-in-Some-clause-turned : goal.returns-in-Some-clause-turned
returns-in-Some-clause-turned c = λ s. given_more (view c.args.opens.now) c.args.part s (view c.replace_top.new.self) c.in-Some-default.top c.in-Some.more c.in-Some-default.ensures c.in-Some.ensures c.replace_top.ensures.after

pub returns-in-None-clause-turned : goal.returns-in-None-clause-turned
returns-in-None-clause-turned c = λ s. given_full (view c.args.opens.now) c.args.part s c.in-Some-default.top c.in-Some-default.ensures c.in-None.ensures
