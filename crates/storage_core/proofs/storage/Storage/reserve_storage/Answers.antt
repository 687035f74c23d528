use Rattle.std.proofs.Common.{rules, arith}
use Rattle.vsm_elements.specs.Store.{live_count}
use Rattle.storage_core.specs.Meaning.{state_in_place}
use Rattle.storage_core.proofs.Counted.{few_answered, makes_within, needed_for, uses_within}
use Rattle.storage_core.proofs.Holding.{reserved_is_held, unassigned_in_region}
use Rattle.storage_core.proofs.Staying.{failed_stays}
use Rattle.storage_core.proofs.storage.Storage.reserve_storage.Goals as goal

pub reserve-requires-clause-segments : goal.reserve-requires-clause-segments
reserve-requires-clause-segments c =
    let s = c.args.self.now in
    λ page its. s.held.segments page (unassigned_in_region s.settings s.parts s.held page (c.requires.unassigned page its))

pub invariant_of-self : goal.invariant_of-self
invariant_of-self c =
    let s = c.args.self.now in
    record {
      held = reserved_is_held s.settings s.parts c.reserve.new.storage _ s.held c.reserve.result
          c.reserve.ensures.ok c.reserve.ensures.grown;
    }

pub returns : goal.returns
returns c = record {
  ok = search rules;
  frames = c.reserve.ensures.frames;
  few = (let s = c.args.self.now in
      let plan = c.args.plan in
      few_answered s.parts c.reserve.new.storage (state_in_place s).subpools plan.emptied c.as_slice.result.now plan.blanks plan.fresh
      c.reserve.result c.reserve.ensures.ok c.as_slice.ensures.fits);
  uses = (let s = c.args.self.now in
      let plan = c.args.plan in
      uses_within s.parts.elements.spare c.reserve.new.storage.elements.spare _ _
      (needed_for (state_in_place s).subpools plan.emptied _ plan.blanks c.as_slice.ensures.fits) c.reserve.result c.reserve.ensures.uses);
  live = (let s = c.args.self.now in
      let plan = c.args.plan in
      uses_within (live_count c.reserve.new.storage.elements) (live_count s.parts.elements) _ _
      (needed_for (state_in_place s).subpools plan.emptied _ plan.blanks c.as_slice.ensures.fits) c.reserve.result c.reserve.ensures.live);
  made = (let s = c.args.self.now in
      let plan = c.args.plan in
      makes_within s.parts.elements c.reserve.new.storage.elements _ _ (needed_for (state_in_place s).subpools plan.emptied _ plan.blanks c.as_slice.ensures.fits) c.reserve.ensures.made);
  made_for_pages = c.reserve.ensures.made_for_pages;
  err = (let s = c.args.self.now in
      failed_stays s.parts c.reserve.new.storage s.held.stands c.reserve.result c.reserve.ensures.grown);
  needless = (λ spare.
      let s = c.args.self.now in
      let plan = c.args.plan in
      let few = needed_for (state_in_place s).subpools plan.emptied _ plan.blanks c.as_slice.ensures.fits in
      c.reserve.ensures.needless (omega (arith, few, spare.elements)) spare.frames spare.tables);
  settings = search rules;
}
