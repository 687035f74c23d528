use Rattle.std.proofs.Common.{◌≡◌, ◌≤◌, take}
use Rattle.vsm_elements.specs.Chain.{links, last_or}
use Rattle.list_table.proofs.items.before.Given as goal

abbrev pub invariant-loop-i : goal.invariant-loop-i
invariant-loop-i l = record {
  place : l.id ≡ last_or 0 (take l.i (links l.elements l.list));
  within : l.i ≤ l.k;
}
