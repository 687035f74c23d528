use Rattle.std.proofs.Common.{ap}
use Rattle.std.specs.Prelude.{ℕ, []}
use Rattle.storage_core.specs.Meaning.{state_of}
use Rattle.text_output.proofs.Gathering.{puts_both}
use Rattle.explain_reasons.specs.Cells.{pool_line}
use Rattle.explain_reasons.specs.SightTexts.{seen_text}
use Rattle.explain_text.proofs.Alike.{alike}
use Rattle.explain_reasons.proofs.pools.put_place_of_pool.Goals as goal

pub returns : goal.returns
returns g c =
    let s = state_of c.args.storage.now in
    let p = c.args.subpool in
    puts_both (g.W.Write.contents c.args.writer.now) (g.W.Write.contents c.put_seen.new.writer) (g.W.Write.contents c.put_line.new.writer)
    c.args.gathered.now c.put_seen.new.gathered c.put_line.new.gathered (seen_text s p.number []) (pool_line c.args.name.now p)
    (alike _ _ _ _ _ _ (ap (λ (n : ℕ). seen_text s n []) c.from-number.ensures) c.put_seen.ensures)
    (alike _ _ _ _ _ _ (λ i. pool_line c.args.name.now (record { number = c.from-number.ensures i; owner = c.from.ensures i })) c.put_line.ensures.text)
