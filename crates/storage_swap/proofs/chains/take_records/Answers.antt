use Rattle.std.proofs.Common.{◌++◌, List, [], length, ap, ◌∙◌, arith}
use Rattle.vsm_elements.specs.Chain.{owned}
use Rattle.vsm_elements.proofs.OwnerLemmas.{calls_follow}
use Rattle.run_set.specs.Runs.{Run}
use Rattle.descriptor_queue.specs.Extents.{extents, owned as owned_extents}
use Rattle.storage_changes.specs.Changes.{unassigned_records}
use Rattle.storage_swap.specs.Beside.{records_of}
use Rattle.storage_swap.proofs.AppendLemmas.{beside, beside-apart, none-apart, emptying-length, all-records}
use Rattle.storage_swap.proofs.chains.take_records.Goals as goal

pub append_extents-last-requires-clause-extents : goal.append_extents-last-requires-clause-extents
append_extents-last-requires-clause-extents c = (beside c.args.elements.now c.append_emptying-last.new.elements [] (owned c.append_emptying-last.new.elements c.append_emptying-last.new.chain) c.args.emptied_extents c.append_emptying-last.ensures.owned c.requires.extents (none-apart (owned_extents c.args.elements.now c.args.emptied_extents))).0

pub append_extents-last-requires-clause-apart : goal.append_extents-last-requires-clause-apart
append_extents-last-requires-clause-apart c = beside-apart c.args.elements.now c.append_emptying-last.new.elements [] (owned c.append_emptying-last.new.elements c.append_emptying-last.new.chain) c.args.emptied_extents c.append_emptying-last.ensures.owned c.requires.extents (none-apart (owned_extents c.args.elements.now c.args.emptied_extents))

pub append_extents-last-requires-clause-room : goal.append_extents-last-requires-clause-room
append_extents-last-requires-clause-room c =
    omega (arith, c.requires.room, c.append_emptying-last.ensures.spare, emptying-length c.args.emptied (extents c.args.elements.now c.args.emptied_extents), ap (λ (rs : List Run). length rs) (beside c.args.elements.now c.append_emptying-last.new.elements [] (owned c.append_emptying-last.new.elements c.append_emptying-last.new.chain) c.args.emptied_extents c.append_emptying-last.ensures.owned c.requires.extents (none-apart (owned_extents c.args.elements.now c.args.emptied_extents))).1)

pub append_records-requires-clause-room : goal.append_records-requires-clause-room
append_records-requires-clause-room c =
    omega (arith, c.requires.room, c.append_emptying-last.ensures.spare, c.append_extents-last.ensures.spare, emptying-length c.args.emptied (extents c.args.elements.now c.args.emptied_extents), ap (λ (rs : List Run). length rs) (beside c.args.elements.now c.append_emptying-last.new.elements [] (owned c.append_emptying-last.new.elements c.append_emptying-last.new.chain) c.args.emptied_extents c.append_emptying-last.ensures.owned c.requires.extents (none-apart (owned_extents c.args.elements.now c.args.emptied_extents))).1)

pub returns-clause-spare : goal.returns-clause-spare
returns-clause-spare c =
    omega (arith, c.append_emptying-last.ensures.spare, c.append_extents-last.ensures.spare, c.append_records.ensures.spare, emptying-length c.args.emptied (extents c.args.elements.now c.args.emptied_extents), ap (λ (rs : List Run). length rs) (beside c.args.elements.now c.append_emptying-last.new.elements [] (owned c.append_emptying-last.new.elements c.append_emptying-last.new.chain) c.args.emptied_extents c.append_emptying-last.ensures.owned c.requires.extents (none-apart (owned_extents c.args.elements.now c.args.emptied_extents))).1)

pub returns-clause-records : goal.returns-clause-records
returns-clause-records c =
    all-records c.args.emptied (records_of c.append_emptying-last.new.elements c.append_emptying-last.new.chain) (records_of c.append_extents-last.new.elements c.append_extents-last.new.chain) (records_of c.append_records.new.elements c.append_records.new.chain) (extents c.args.elements.now c.args.emptied_extents) c.args.records.now
    c.append_emptying-last.ensures.records
    (c.append_extents-last.ensures.records ∙ ap (λ (rs : List Run). records_of c.append_emptying-last.new.elements c.append_emptying-last.new.chain ++ unassigned_records rs) (beside c.args.elements.now c.append_emptying-last.new.elements [] (owned c.append_emptying-last.new.elements c.append_emptying-last.new.chain) c.args.emptied_extents c.append_emptying-last.ensures.owned c.requires.extents (none-apart (owned_extents c.args.elements.now c.args.emptied_extents))).1)
    c.append_records.ensures.records

pub returns-clause-owned : goal.returns-clause-owned
returns-clause-owned c =
    calls_follow c.args.elements.now c.append_emptying-last.new.elements c.append_records.new.elements [] (owned c.append_emptying-last.new.elements c.append_emptying-last.new.chain) (owned c.append_records.new.elements c.append_records.new.chain) c.append_emptying-last.ensures.owned
    (calls_follow c.append_emptying-last.new.elements c.append_extents-last.new.elements c.append_records.new.elements (owned c.append_emptying-last.new.elements c.append_emptying-last.new.chain) (owned c.append_extents-last.new.elements c.append_extents-last.new.chain) (owned c.append_records.new.elements c.append_records.new.chain) c.append_extents-last.ensures.owned c.append_records.ensures.owned)
