use Rattle.std.proofs.Common.{◌≡◌, ◌∷◌, List, length, ap, ◌∙◌, arith}
use Rattle.raw_region.specs.Frames.{PageFrame}
use Rattle.raw_region.proofs.PageSteps.{tables_behind}
use Rattle.raw_region.proofs.ParkedLemmas.{restored_more, enters_less}
use Rattle.raw_region.proofs.region.Region.restore.Goals as goal

pub loop-held-preserved : goal.loop-held-preserved
loop-held-preserved c =
    let h = c.in-Some.held in
    let taken : c.loop-held.rest ≡ c.in-Some.held ∷ c.pop.new.self = c.pop.ensures.some c.in-Some.held c.in-Some.is in
    let apart = c.pop.ensures.distinct c.in-Some.held c.in-Some.is in
    let shorter = ap (λ (fs : List PageFrame). length fs) taken in
    record {
      pages = λ p. restored_more c.loop-held.rest c.pop.new.self h taken apart c.loop-held.self c.enter.new.self c.page-page.result c.page-page.ensures c.enter.ensures.updates p ∙ c.loop-held.invariant.pages p;
      enters = enters_less c.loop-held.rest c.pop.new.self h taken apart c.loop-held.self c.enter.new.self c.page-page.result c.page-page.ensures c.enter.ensures.updates c.enter.ensures.tables c.loop-held.invariant.enters;
      tables = tables_behind c.args.self.now c.loop-held.self c.enter.new.self c.loop-held.invariant.tables c.enter.ensures.tables;
      enough = omega (arith, shorter, c.loop-held.invariant.enough, c.enter.ensures.out);
      spare = c.enter.ensures.spares ∙ c.loop-held.invariant.spare;
      out = omega (arith, shorter, c.loop-held.invariant.out, c.enter.ensures.out);
      made = c.enter.ensures.made ∙ c.loop-held.invariant.made;
    }
