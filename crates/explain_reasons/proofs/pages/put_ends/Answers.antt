use Rattle.std.proofs.Common.{◌++◌, sym, ◌∙◌}
use Rattle.std.proofs.lemmas.Bool.{cond-false, cond-true}
use Rattle.storage_core.specs.Meaning.{state_of}
use Rattle.text_output.proofs.Gathering.{puts_both}
use Rattle.explain_reasons.specs.Pages.{byte_text, last_decides, last_text}
use Rattle.explain_text.proofs.Alike.{alike}
use Rattle.explain_reasons.proofs.pages.put_ends.Goals as goal

pub returns-then-last_decides : goal.returns-then-last_decides
returns-then-last_decides g c =
    let s = state_of c.args.storage.now in
    let first = byte_text s c.args.first in
    let last = last_text s c.args.first c.args.last in
    alike _ _ _ _ _ _
    (sym (cond-true (last_decides s c.args.first c.args.last) (last ++ first) (first ++ last) (sym c.last_decides.ensures ∙ c.if-last_decides.true)))
    (puts_both (g.W.Write.contents c.args.writer.now) (g.W.Write.contents c.put_last.new.writer) (g.W.Write.contents c.put_byte.new.writer)
    c.args.gathered.now c.put_last.new.gathered c.put_byte.new.gathered last first c.put_last.ensures c.put_byte.ensures)

pub returns-else-last_decides : goal.returns-else-last_decides
returns-else-last_decides g c =
    let s = state_of c.args.storage.now in
    let first = byte_text s c.args.first in
    let last = last_text s c.args.first c.args.last in
    alike _ _ _ _ _ _
    (sym (cond-false (last_decides s c.args.first c.args.last) (last ++ first) (first ++ last) (sym c.last_decides.ensures ∙ c.if-last_decides.false)))
    (puts_both (g.W.Write.contents c.args.writer.now) (g.W.Write.contents c.put_byte-else-last_decides.new.writer) (g.W.Write.contents c.put_last-else-last_decides.new.writer)
    c.args.gathered.now c.put_byte-else-last_decides.new.gathered c.put_last-else-last_decides.new.gathered first last c.put_byte-else-last_decides.ensures c.put_last-else-last_decides.ensures)
