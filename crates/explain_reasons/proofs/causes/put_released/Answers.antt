use Rattle.std.specs.Prelude.{codes, ◌∷◌, []}
use Rattle.storage_core.specs.Meaning.{state_of}
use Rattle.text_output.proofs.Gathering.{puts_both}
use Rattle.explain_text.specs.Pieces.{line}
use Rattle.explain_reasons.specs.SightTexts.{seen_text}
use Rattle.explain_reasons.proofs.causes.put_released.Goals as goal

pub returns : goal.returns
returns g c =
    puts_both (g.W.Write.contents c.args.writer.now) (g.W.Write.contents c.put_seen.new.writer) (g.W.Write.contents c.put_text.new.writer)
    c.args.gathered.now c.put_seen.new.gathered c.put_text.new.gathered (seen_text (state_of c.args.storage.now) c.args.number [])
    (line (codes "each doubleword of the area is taken, and no cell pool's" ∷ [])) c.put_seen.ensures c.put_text.ensures.text
