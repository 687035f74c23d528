use Rattle.std.proofs.Common.{subst, sym}
use Rattle.vsm_explain.specs.Answers.{IsAnswered, IsNamed}
use Rattle.vsm_explain.specs.Status.{status}
use Rattle.vsm_explain.proofs.answers.answer.Goals as goal

pub returns-in-Who : goal.returns-in-Who
returns-in-Who g c =
    subst (λ q. IsAnswered c.args.asking.now.settings c.args.script.now c.args.name.now c.args.asking.now.form q (g.W.Write.contents c.args.out.now)
    (g.W.Write.contents c.named.new.out) (status c.named.result)) (sym c.in-Who.is)
    (subst (λ o. IsNamed c.args.asking.now.settings c.args.script.now c.args.asking.now.form c.in-Who.about o (g.W.Write.contents c.args.out.now)
    (g.W.Write.contents c.named.new.out) (status c.named.result)) c.change_order-order.ensures c.named.ensures)
