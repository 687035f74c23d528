use Rattle.std.proofs.Common.{◌≡◌, ◌≤◌, ◌-◌, List}
use Rattle.explain_areas.specs.Keeps.{TakenPage, held, turned, with_doublewords}
use Rattle.explain_areas.proofs.keeps.add_area.Given as goal

abbrev pub invariant-loop-at : goal.invariant-loop-at
invariant-loop-at l = record {
  from : l.area.start ≤ l.at;
  within : l.at ≤ l.end;
  pages : (others : List TakenPage) → turned l.fn.pages.items ≡ held others
      → turned l.pages.items ≡ held (with_doublewords l.area.line l.area.start (l.at - l.area.start) others);
}

abbrev pub decreases-loop-at : goal.decreases-loop-at
decreases-loop-at l = l.end - l.at
