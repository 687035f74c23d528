use Rattle.std.proofs.Common.{arith, rules}
use Rattle.vsm_elements.specs.Store.{live_count}
use Rattle.storage_core.proofs.Counted.{few_records, makes_within, uses_within}
use Rattle.storage_core.proofs.Holding.{reserved_is_held}
use Rattle.storage_core.proofs.Staying.{failed_stays}
use Rattle.storage_core.proofs.storage.Storage.reserve_store.Goals as goal

pub invariant_of-self : goal.invariant_of-self
invariant_of-self c =
    let s = c.args.self.now in
    record {
      held = reserved_is_held s.settings s.parts c.reserve.new.storage _ s.held c.reserve.result
          c.reserve.ensures.ok c.reserve.ensures.grown;
    }

pub returns : goal.returns
returns c = record {
  ok = search rules;
  frames = search rules;
  few = (let s = c.args.self.now in
      few_records s.parts c.reserve.new.storage c.as_slice.result.now c.reserve.result c.reserve.ensures.ok c.as_slice.ensures.fits);
  uses = (let s = c.args.self.now in
      uses_within s.parts.elements.spare c.reserve.new.storage.elements.spare _ 17 (omega (arith, c.as_slice.ensures.fits)) c.reserve.result c.reserve.ensures.uses);
  live = (let s = c.args.self.now in
      uses_within (live_count c.reserve.new.storage.elements) (live_count s.parts.elements) _ 17 (omega (arith, c.as_slice.ensures.fits)) c.reserve.result c.reserve.ensures.live);
  made = (let s = c.args.self.now in
      makes_within s.parts.elements c.reserve.new.storage.elements _ 17 (omega (arith, c.as_slice.ensures.fits)) c.reserve.ensures.made);
  made_for_pages = c.reserve.ensures.made_for_pages;
  err = (let s = c.args.self.now in
      failed_stays s.parts c.reserve.new.storage s.held.stands c.reserve.result c.reserve.ensures.grown);
  needless = search rules;
  settings = search rules;
}
