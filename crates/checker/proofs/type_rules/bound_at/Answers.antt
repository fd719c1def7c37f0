use Rattle.std.proofs.Common.{arith}
use Rattle.std.proofs.lemmas.Grind.{common_steps}
use Rattle.checker.proofs.Heads.{lam_kind, fix_kind}
use Rattle.checker.proofs.type_rules.bound_at.Goals as goal

pub returns-in-0-Form-Lam : goal.returns-in-0-Form-Lam
returns-in-0-Form-Lam c = grind (arith, common_steps, lam_kind)

pub returns-in-0-Form-Fix : goal.returns-in-0-Form-Fix
returns-in-0-Form-Fix c = grind (arith, common_steps, fix_kind)
