use Rattle.storage_core.proofs.Holding.{answered_is_held, unassigned_in_region}
use Rattle.storage_core.proofs.Staying.{left_as_it_was}
use Rattle.storage_core.proofs.storage.Storage.reserve_building.Goals as goal

pub reserve_building-requires-clause-segments : goal.reserve_building-requires-clause-segments
reserve_building-requires-clause-segments c =
    let s = c.args.self.now in
    λ page its. s.held.segments page (unassigned_in_region s.settings s.parts s.held page (c.requires.unassigned page its))

pub invariant_of-self : goal.invariant_of-self
invariant_of-self c =
    let s = c.args.self.now in
    record {
      held = answered_is_held s.settings s.parts c.reserve_building.new.storage s.held c.reserve_building.result
          (λ r. r.0) _ c.reserve_building.ensures.ok c.reserve_building.ensures.grown;
    }

pub returns-in_err-change-clause-err : goal.returns-in_err-change-clause-err
returns-in_err-change-clause-err c =
    let s = c.args.self.now in
    left_as_it_was s.parts c.reserve_building.new.storage s.held.stands c.from_residual.result c.in_err-change.ensures.grown
