use Rattle.std.proofs.Common.{sym, ap, ◌∙◌}
use Rattle.storage_core.specs.Meaning.{settings_of, state_of}
use Rattle.text_output.proofs.Gathering.{puts_both}
use Rattle.explain_reasons.specs.Pages.{byte_text}
use Rattle.explain_reasons.specs.Releases.{foreign_at, foreign_text, outside_text}
use Rattle.explain_reasons.specs.SightTexts.{unseen_text}
use Rattle.explain_text.proofs.Alike.{alike}
use Rattle.explain_reasons.proofs.releases.put_outside.Goals as goal

pub returns-in-Some : goal.returns-in-Some
returns-in-Some g c =
    let s = c.args.storage.now in
    alike _ _ _ _ _ _
    ((λ i. foreign_text (c.address_of.ensures i) (c.subpool_of_page-other.ensures i)) ∙ ap (foreign_at (state_of s)) c.foreign_in-doubleword.ensures
    ∙ ap (outside_text (settings_of s) (state_of s) c.args.r) (sym c.in-Some.is)) c.put_foreign.ensures

pub returns-in-None : goal.returns-in-None
returns-in-None g c =
    let s = c.args.storage.now in
    alike _ _ _ _ _ _ (ap (outside_text (settings_of s) (state_of s) c.args.r) (sym c.in-None.is))
    (puts_both (g.W.Write.contents c.args.writer.now) (g.W.Write.contents c.put_unseen.new.writer) (g.W.Write.contents c.put_byte.new.writer)
    c.args.gathered.now c.put_unseen.new.gathered c.put_byte.new.gathered (unseen_text (state_of s).current c.args.r.number) (byte_text (state_of s) c.args.r.address)
    c.put_unseen.ensures c.put_byte.ensures)
