use Rattle.std.proofs.Common.{Some, None, subst}
use Rattle.engine.specs.declared.state.Next.{Next}
use Rattle.engine.proofs.Stepping.{Settles, settles}
use Rattle.engine.proofs.control.Machine.step.Goals as goal

pub returns-in_default-clause-stepped : goal.returns-in_default-clause-stepped
returns-in_default-clause-stepped g c =
    let p = c.args.program.now in
    let t = g.C.Counter.table c.args.counter.now in
    let m = c.args.self.now in
    let n = c.choose.new.self in
    let e = c.in_default.ensures in
    settles p t m n c.requires.ready c.requires.suited e.stays None e.does

pub returns-in-At-clause-stepped : goal.returns-in-At-clause-stepped
returns-in-At-clause-stepped g c =
    let p = c.args.program.now in
    let t = g.C.Counter.table c.args.counter.now in
    let m = c.args.self.now in
    let n = c.choose.new.self in
    let e = c.in-Some.ensures in
    subst (λ (x : Next). Settles p t m n (Some x)) c.in-At.is (settles p t m n c.requires.ready c.requires.suited e.stays (Some c.in-Some.next) e.does)

pub returns-in-Move-clause-stepped : goal.returns-in-Move-clause-stepped
returns-in-Move-clause-stepped g c =
    let p = c.args.program.now in
    let t = g.C.Counter.table c.args.counter.now in
    let m = c.args.self.now in
    let n = c.choose.new.self in
    let e = c.in-Some.ensures in
    subst (λ (x : Next). Settles p t m n (Some x)) c.in-Move.is (settles p t m n c.requires.ready c.requires.suited e.stays (Some c.in-Some.next) e.does)
