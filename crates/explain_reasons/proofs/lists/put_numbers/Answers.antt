use Rattle.std.proofs.Common.{get_or, ap, ◌∙◌}
use Rattle.std.proofs.lemmas.List.{take_all}
use Rattle.storage_core.specs.Meaning.{state_of}
use Rattle.text_output.proofs.Gathering.{puts_none}
use Rattle.explain_text.proofs.Alike.{alike}
use Rattle.explain_reasons.specs.Tasks.{numbers_text, turn_text, wrong_text}
use Rattle.explain_reasons.proofs.ListLemmas.{next_number}
use Rattle.explain_reasons.proofs.lists.put_numbers.Goals as goal

pub loop-k-init : goal.loop-k-init
loop-k-init g c = puts_none (g.W.Write.contents c.args.writer.now) c.args.gathered.now

pub loop-k-preserved : goal.loop-k-preserved
loop-k-preserved g c =
    let s = state_of c.args.storage.now in
    let word = c.args.list.now.word.now in
    let number = get_or c.args.list.now.numbers.now c.loop-k.k 0 in
    next_number s word c.args.list.now.by_owner c.args.first (g.W.Write.contents c.args.writer.now) (g.W.Write.contents c.loop-k.writer) (g.W.Write.contents c.put_in_turn.new.writer)
    c.args.gathered.now c.loop-k.gathered c.put_in_turn.new.gathered c.args.list.now.before.now c.args.list.now.numbers.now c.loop-k.k c.loop-k-test.true c.loop-k.invariant
    (alike _ _ _ _ _ _ (λ i. turn_text s word number ((c.wrong_text.ensures ∙ ap (wrong_text number) c.is_again.ensures) i) (c.giver_note.ensures i) c.args.first)
    c.put_in_turn.ensures)

pub returns : goal.returns
returns g c =
    alike _ _ _ _ _ _
    (ap (numbers_text (state_of c.args.storage.now) c.args.list.now.word.now c.args.list.now.by_owner c.args.first c.args.list.now.before.now) (take_all c.loop-k.k c.args.list.now.numbers.now c.loop-k-test.false))
    c.loop-k.invariant
