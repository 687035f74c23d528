use Rattle.std.proofs.Common.{◌≡◌, refl}
use Rattle.storage_core.specs.Meaning.{state_of}
use Rattle.explain_reasons.specs.Pages.{pages_text}
use Rattle.explain_why.proofs.FirstCause.{among}
use Rattle.explain_why.proofs.causes.put_bytes.Goals as goal

pub returns : goal.returns
returns g c =
    let its = pages_text (state_of c.args.storage.now) c.args.address c.args.count in
    among (λ text. text ≡ its) its (g.W.Write.contents c.args.writer.now) (g.W.Write.contents c.put_bytes_heading.new.writer)
    (g.W.Write.contents c.put_pages.new.writer) (g.W.Write.contents c.put_free_bytes.new.writer)
    c.args.gathered.now c.put_bytes_heading.new.gathered c.put_pages.new.gathered c.put_free_bytes.new.gathered
    refl c.put_bytes_heading.ensures c.put_pages.ensures c.put_free_bytes.ensures
