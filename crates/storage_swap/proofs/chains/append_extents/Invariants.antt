use Rattle.std.proofs.Common.{◌≡◌, ◌+◌, ◌-◌, ◌≤◌, ◌++◌, length, take}
use Rattle.vsm_elements.specs.Chain.{last_or, links, owned, IsChain}
use Rattle.vsm_elements.specs.Ownership.{Leaves}
use Rattle.run_set.specs.RunSet.{place_index}
use Rattle.descriptor_queue.specs.Extents.{extents, IsPlace}
use Rattle.storage_changes.specs.Changes.{unassigned_records}
use Rattle.storage_swap.specs.Beside.{records_of}
use Rattle.storage_swap.proofs.chains.append_extents.Given as goal

abbrev pub invariant-loop-run : goal.invariant-loop-run
invariant-loop-run l = record {
  chain : IsChain l.elements l.chain;
  last : l.before ≡ last_or 0 (links l.elements l.chain);
  within : place_index l.place ≤ length (extents l.initial.elements l.emptied_extents);
  place : IsPlace l.elements l.emptied_extents l.place;
  records : records_of l.elements l.chain ≡ records_of l.initial.elements l.initial.chain ++ unassigned_records (take (place_index l.place) (extents l.initial.elements l.emptied_extents));
  owned : Leaves l.initial.elements l.elements (owned l.initial.elements l.initial.chain) (owned l.elements l.chain);
  spare : l.elements.spare + place_index l.place ≡ l.initial.elements.spare;
}

abbrev pub decreases-loop-run : goal.decreases-loop-run
decreases-loop-run l = length (extents l.initial.elements l.emptied_extents) - place_index l.place
