use Rattle.std.proofs.Common.{arith, rules}
use Rattle.vsm_elements.specs.Store.{live_count}
use Rattle.cell_plans.proofs.DeleteCounts.{delete-short}
use Rattle.storage_changes.specs.Changes.{no_pages}
use Rattle.storage_swap.proofs.GrowthLemmas.{pages-stay}
use Rattle.storage_core.specs.Meaning.{state_in_place}
use Rattle.storage_core.proofs.Holding.{reserved_is_held}
use Rattle.storage_core.proofs.Staying.{failed_stays}
use Rattle.storage_core.proofs.Counted.{uses_within, makes_within}
use Rattle.storage_core.proofs.CellPoolCounts.{delete_few}
use Rattle.storage_core.proofs.storage.Storage.reserve_delete.Goals as goal

pub invariant_of-self : goal.invariant_of-self
invariant_of-self c =
    let s = c.args.self.now in
    record {
      held = reserved_is_held s.settings s.parts c.reserve.new.storage _ s.held c.reserve.result
          c.reserve.ensures.ok c.reserve.ensures.grown;
    }

pub returns : goal.returns
returns c = record {
  ok = c.reserve.ensures.ok;
  frames = c.reserve.ensures.frames;
  few = (let s = c.args.self.now in
      delete_few s.parts c.reserve.new.storage (state_in_place s) c.args.plan c.reserve.result c.reserve.ensures.ok);
  uses = (let s = c.args.self.now in
      let m = state_in_place s in
      uses_within s.parts.elements.spare c.reserve.new.storage.elements.spare _ _ (omega (arith, delete-short m (m.subpools.cells c.args.plan.pool))) c.reserve.result c.reserve.ensures.uses);
  live = (let s = c.args.self.now in
      let m = state_in_place s in
      uses_within (live_count c.reserve.new.storage.elements) (live_count s.parts.elements) _ _ (omega (arith, delete-short m (m.subpools.cells c.args.plan.pool))) c.reserve.result c.reserve.ensures.live);
  made = (let s = c.args.self.now in
      makes_within s.parts.elements c.reserve.new.storage.elements _ _ (omega (arith, delete-short (state_in_place s) ((state_in_place s).subpools.cells c.args.plan.pool))) c.reserve.ensures.made);
  made_for_pages = pages-stay c.args.self.now.parts.region c.reserve.new.storage.region no_pages c.reserve.ensures.same_frames;
  err = (let s = c.args.self.now in
      failed_stays s.parts c.reserve.new.storage s.held.stands c.reserve.result c.reserve.ensures.grown);
  needless = (λ spare.
      let m = state_in_place c.args.self.now in
      c.reserve.ensures.needless (omega (arith, spare, delete-short m (m.subpools.cells c.args.plan.pool))));
  settings = search rules;
}
