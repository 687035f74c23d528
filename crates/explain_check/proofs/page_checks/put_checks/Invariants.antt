use Rattle.std.proofs.Common.{◌≤◌, ◌++◌, List, length, take}
use Rattle.macro_statements.specs.Requests.{asked_in}
use Rattle.bench_core.specs.Stands.{bench_of, settings_in}
use Rattle.explain_list.specs.Pages.{marks_in}
use Rattle.explain_check.specs.Findings.{found_to, left_to}
use Rattle.explain_check.specs.Lines.{PutsChecks, Said, manner_of, refusal_told}
use Rattle.explain_check.specs.Reasons.{IsSaidOf}
use Rattle.explain_check.proofs.SaidFound.{if_before}
use Rattle.explain_check.proofs.page_checks.put_checks.Given as goal

abbrev pub invariant-loop-index : goal.invariant-loop-index
invariant-loop-index g l =
    (l.index ≤ length l.lines)
    × (said : List Said)
    × IsSaidOf (settings_in l.answered.bench.now) (bench_of l.answered.bench.now).present (asked_in l.answered.request.now) (refusal_told l.answered.told.now) said
    × PutsChecks (manner_of l.manner) (marks_in (take l.index l.lines) l.page.fault) said (left_to l.answered ++ if_before l.shown.place.line l.index (found_to l.answered)) (g.W.Write.contents l.fn.writer) (g.W.Write.contents l.writer) l.fn.gathered l.gathered
