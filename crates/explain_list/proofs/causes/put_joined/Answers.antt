use Rattle.std.proofs.Common.{◌+◌, ◌++◌, ◌∙◌, [], append_assoc, drop, get_or, refl, sym, ap, subst}
use Rattle.std.proofs.lemmas.List.{append-nil, at_drop_all, at_drop_more}
use Rattle.text_output.proofs.Gathering.{puts_both, puts_none}
use Rattle.text_output.specs.Writing.{Puts}
use Rattle.explain_list.specs.Causes.{joined, joint_after, joint_text}
use Rattle.explain_list.specs.declared.causes.Joint.{Joint}
use Rattle.explain_list.proofs.causes.put_joined.Goals as goal

pub loop-at-init : goal.loop-at-init
loop-at-init g c = ([], refl, puts_none _ _)

pub loop-at-preserved : goal.loop-at-preserved
loop-at-preserved g c =
    let l = c.loop-at in
    let text = c.args.text.now in
    let e = l.invariant in
    let byte = get_or text l.at 0 in
    let its = joint_text l.joint byte in (
      e.0 ++ its,
      ap (λ (j : Joint). (e.0 ++ its) ++ joined j (drop (l.at + 1) text)) c.joint_after-joint.ensures
          ∙ append_assoc e.0 its (joined (joint_after l.joint byte) (drop (l.at + 1) text))
          ∙ ap (λ t. e.0 ++ t) (sym (at_drop_more (joined l.joint) text l.at 0 c.loop-at-test.true)) ∙ e.1,
      puts_both _ _ _ _ _ _ e.0 its e.2 c.put_joint.ensures,
    )

pub returns : goal.returns
returns g c =
    let l = c.loop-at in
    let text = c.args.text.now in
    let e = l.invariant in
    subst (Puts (g.W.Write.contents c.args.writer.now) (g.W.Write.contents l.writer) c.args.gathered.now l.gathered)
    (sym (append-nil e.0) ∙ ap (λ t. e.0 ++ t) (sym (at_drop_all (joined l.joint) text l.at c.loop-at-test.false)) ∙ e.1) e.2
