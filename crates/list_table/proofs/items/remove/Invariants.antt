use Rattle.std.proofs.Common.{◌≡◌, ◌≤◌, ◌+◌, ◌-◌, take, drop}
use Rattle.vsm_elements.specs.Chain.{links, owned, IsChain}
use Rattle.vsm_elements.specs.Ownership.{Leaves}
use Rattle.list_table.proofs.items.remove.Given as goal

abbrev pub invariant-loop-left : goal.invariant-loop-left
invariant-loop-left l = record {
  chain : IsChain l.elements l.list;
  within : l.left ≤ l.count;
  front : take l.k (links l.elements l.list) ≡ take l.k (links l.initial.elements l.initial.list);
  behind : drop l.k (links l.elements l.list) ≡ drop (l.k + (l.count - l.left)) (links l.initial.elements l.initial.list);
  reach : l.list.count + (l.count - l.left) ≡ l.initial.list.count;
  owned : Leaves l.initial.elements l.elements (owned l.initial.elements l.initial.list) (owned l.elements l.list);
  spares : l.elements.spare ≡ l.initial.elements.spare + (l.count - l.left);
}

abbrev pub decreases-loop-left : goal.decreases-loop-left
decreases-loop-left l = l.left
