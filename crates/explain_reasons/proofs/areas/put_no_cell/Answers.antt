use Rattle.std.proofs.Common.{Bool, ◌++◌, refl, sym, subst}
use Rattle.storage_core.specs.Meaning.{state_of}
use Rattle.text_output.proofs.Gathering.{puts_both}
use Rattle.vsm_model.specs.CellPools.{cell_pool_in}
use Rattle.explain_reasons.specs.Texts.{no_cell_text, no_extent_text}
use Rattle.explain_reasons.specs.Told.{IsNoCell}
use Rattle.explain_reasons.proofs.areas.put_no_cell.Goals as goal

pub returns-then-conditional : goal.returns-then-conditional
returns-then-conditional g c =
    let s = state_of c.args.storage.now in
    let pool = cell_pool_in s.cell_pools c.args.name.now in
    let text = no_cell_text ++ no_extent_text in (
      text,
      subst (λ (b : Bool). IsNoCell s pool b text) (sym c.if-conditional.true) refl,
      puts_both (g.W.Write.contents c.args.writer.now) (g.W.Write.contents c.put_none_free.new.writer) (g.W.Write.contents c.put_text.new.writer)
          c.args.gathered.now c.put_none_free.new.gathered c.put_text.new.gathered no_cell_text no_extent_text c.put_none_free.ensures c.put_text.ensures.text,
    )

pub returns-else-conditional : goal.returns-else-conditional
returns-else-conditional g c =
    let s = state_of c.args.storage.now in
    let pool = cell_pool_in s.cell_pools c.args.name.now in
    let (text, says, h) = c.put_extent_of.ensures in
    (text, subst (λ (b : Bool). IsNoCell s pool b text) (sym c.if-conditional.false) says, h)
