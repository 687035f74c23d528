use Rattle.std.proofs.Common.{◌≡◌, ◌+◌, ◌++◌, take}
use Rattle.vsm_elements.specs.Chain.{last_or, links, owned, IsChain}
use Rattle.vsm_elements.specs.Ownership.{Leaves}
use Rattle.storage_swap.specs.Beside.{records_of}
use Rattle.storage_swap.proofs.chains.append_records.Given as goal

abbrev pub invariant-loop-k : goal.invariant-loop-k
invariant-loop-k l = record {
  chain : IsChain l.elements l.chain;
  last : l.before ≡ last_or 0 (links l.elements l.chain);
  records : records_of l.elements l.chain ≡ records_of l.initial.elements l.initial.chain ++ take l.k l.records;
  owned : Leaves l.initial.elements l.elements (owned l.initial.elements l.initial.chain) (owned l.elements l.chain);
  spare : l.elements.spare + l.k ≡ l.initial.elements.spare;
}
