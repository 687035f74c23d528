use Rattle.std.proofs.Common.{◌≤◌, ◌-◌, ℕ, List, length, Option}
use Rattle.vsm_model.specs.declared.limits.Settings.{Settings}
use Rattle.explain_list.specs.Listing.{Lists}
use Rattle.explain_list.proofs.listing.list_lines.Given as goal

abbrev pub invariant-loop-at : goal.invariant-loop-at
invariant-loop-at g l = (l.at ≤ length l.script)
    × ((settings : Settings) (first : Option (List ℕ)) → Lists l.layout settings l.script first (g.W.Write.contents l.fn.writer) l.fn.gathered l.fn.page 0 l.fn.session
    → Lists l.layout settings l.script first (g.W.Write.contents l.writer) l.gathered l.page l.at l.session)

abbrev pub decreases-loop-at : goal.decreases-loop-at
decreases-loop-at g l = length l.script - l.at
