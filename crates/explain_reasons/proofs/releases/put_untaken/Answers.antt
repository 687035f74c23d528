use Rattle.std.proofs.Common.{sym, ap, ◌∙◌}
use Rattle.storage_core.specs.Meaning.{state_of}
use Rattle.text_output.proofs.Gathering.{puts_none}
use Rattle.explain_reasons.specs.Releases.{free_at, free_text, untaken_text}
use Rattle.explain_text.proofs.Alike.{alike}
use Rattle.explain_reasons.proofs.releases.put_untaken.Goals as goal

pub returns-in-Some : goal.returns-in-Some
returns-in-Some g c =
    let s = state_of c.args.storage.now in
    alike _ _ _ _ _ _
    ((λ i. free_text (c.address_of.ensures i) (c.subpool_of_page-other.ensures i)) ∙ ap (free_at s) c.untaken_in-doubleword.ensures
    ∙ ap (untaken_text s c.args.r) (sym c.in-Some.is)) c.put_free.ensures

pub returns-in-None : goal.returns-in-None
returns-in-None g c =
    alike _ _ _ _ _ _ (ap (untaken_text (state_of c.args.storage.now) c.args.r) (sym c.in-None.is)) (puts_none (g.W.Write.contents c.args.writer.now) c.args.gathered.now)
