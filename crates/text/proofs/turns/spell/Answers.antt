use Rattle.std.proofs.Common.{sym, ◌∙◌}
use Rattle.rows.specs.Views.{view}
use Rattle.text.proofs.Tops.{spelt}
use Rattle.text.proofs.turns.spell.Goals as goal

pub returns-clause-turned : goal.returns-clause-turned
returns-clause-turned c = λ s. spelt (view c.args.opens.now) (view c.replace_top.new.self) _ c.args.o s (sym c.in_ok-ok_or.ensures.ok_part ∙ c.top.ensures) c.replace_top.ensures.after
