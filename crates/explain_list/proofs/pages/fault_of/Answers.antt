use Rattle.std.proofs.Common.{◌∙◌, Some, ap, sym, subst}
use Rattle.explain_list.specs.Pages.{fault_in}
use Rattle.explain_list.specs.Rows.{LacksMark}
use Rattle.explain_list.proofs.Marked.{if_some}
use Rattle.explain_list.proofs.pages.fault_of.Goals as goal

pub returns-in-Fault-clause-own : goal.returns-in-Fault-clause-own
returns-in-Fault-clause-own c = if_some _ _ c.place_of.result (λ f h. (ap fault_in c.in-Fault.is ∙ ap (λ k. Some k) h.0, h.1)) c.place_of.ensures.own

pub returns-in-Fault-clause-lacks : goal.returns-in-Fault-clause-lacks
returns-in-Fault-clause-lacks c = λ none.
    subst (LacksMark c.args.script.now c.args.lines.now.lines.items) (sym (ap fault_in c.in-Fault.is)) (c.place_of.ensures.lacks none)
