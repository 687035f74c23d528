use Rattle.std.proofs.Common.{◌≡◌, ◌∷◌, ◌∙◌}
use Rattle.raw_region.proofs.ParkedLemmas.{joined_pages, joined_apart, joined_count}
use Rattle.raw_region.proofs.parked.Parked.join.Goals as goal

pub loop-held-preserved : goal.loop-held-preserved
loop-held-preserved c =
    let taken : c.loop-held.from ≡ c.in-Some.held ∷ c.pop.new.self = c.pop.ensures.some c.in-Some.held c.in-Some.is in
    let apart = c.pop.ensures.distinct c.in-Some.held c.in-Some.is in
    record {
      pages = λ p. joined_pages c.loop-held.from c.pop.new.self _ c.push.new.self c.in-Some.held taken apart c.push.ensures p ∙ c.loop-held.invariant.pages p;
      apart = joined_apart c.loop-held.from c.pop.new.self _ c.push.new.self c.in-Some.held taken apart c.push.ensures c.loop-held.invariant.apart;
      count = joined_count c.loop-held.from c.pop.new.self _ c.push.new.self c.in-Some.held taken apart c.push.ensures ∙ c.loop-held.invariant.count;
    }
