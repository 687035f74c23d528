use Rattle.std.proofs.Common.{ℕ, ◌==◌, sym, ap}
use Rattle.std.proofs.lemmas.Bool.{cond-false, eqb-true, false_from_ne_true}
use Rattle.explain_reasons.specs.Tasks.{parent_text}
use Rattle.explain_text.proofs.Alike.{alike}
use Rattle.explain_reasons.proofs.tasks.put_its_parent.Goals as goal

pub returns-then-parent-eq0 : goal.returns-then-parent-eq0
returns-then-parent-eq0 g c =
    alike _ _ _ _ _ _ (ap (λ (p : ℕ). parent_text c.args.task p c.args.current) (sym c.if-parent-eq0.true)) c.put_text.ensures.text

pub returns-else-parent-eq0 : goal.returns-else-parent-eq0
returns-else-parent-eq0 g c =
    let other = false_from_ne_true (c.args.parent == 0) (λ e. c.if-parent-eq0.false (eqb-true c.args.parent 0 e)) in
    alike _ _ _ _ _ _ (sym (cond-false _ _ _ other)) c.put_line.ensures.text
