use Rattle.std.proofs.Common.{[], sym, ◌∙◌}
use Rattle.std.proofs.lemmas.Bool.{cond-false, cond-true}
use Rattle.storage_core.specs.Meaning.{state_of}
use Rattle.text_output.proofs.Gathering.{puts_none}
use Rattle.explain_reasons.specs.Tasks.{is_turn, number_text}
use Rattle.explain_text.proofs.Alike.{alike}
use Rattle.explain_reasons.proofs.lists.put_in_turn.Goals as goal

pub returns-then-is_turn : goal.returns-then-is_turn
returns-then-is_turn g c =
    let text = number_text (state_of c.args.storage.now) c.args.named.now.word.now c.args.named.now.number c.args.named.now.wrong.now c.args.named.now.note.now in
    alike _ _ _ _ _ _ (sym (cond-true (is_turn c.args.named.now.wrong.now c.args.named.now.note.now c.args.first) text [] (sym c.is_turn.ensures ∙ c.if-is_turn.true)))
    c.put_number.ensures

pub returns-else-is_turn : goal.returns-else-is_turn
returns-else-is_turn g c =
    let text = number_text (state_of c.args.storage.now) c.args.named.now.word.now c.args.named.now.number c.args.named.now.wrong.now c.args.named.now.note.now in
    alike _ _ _ _ _ _ (sym (cond-false (is_turn c.args.named.now.wrong.now c.args.named.now.note.now c.args.first) text [] (sym c.is_turn.ensures ∙ c.if-is_turn.false)))
    (puts_none (g.W.Write.contents c.args.writer.now) c.args.gathered.now)
