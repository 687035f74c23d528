-- A name that the table then holds it held, or it is the one that the plan defines.
use Rattle.std.proofs.Common.{inl, ◌∙◌, Some, ap, rules, subst, sym}
use Rattle.vsm_machine.specs.NameChanges.{step_by, Gives}
use Rattle.vsm_machine.specs.NameSteps.{GivesBy}
use Rattle.vsm_machine.specs.NameTable.{rows_of}
use Rattle.vsm_machine.specs.Planned.{defined_by, plan_step}
use Rattle.vsm_machine.proofs.TableRows.{defined-known, gets-next, knows-same}
use Rattle.vsm_machine.proofs.TableSteps.{given-says}
use Rattle.vsm_machine.proofs.plans.make_ready.Goals as goal

pub returns-in_default-clause-gets : goal.returns-in_default-clause-gets
returns-in_default-clause-gets c = λ name h. inl (defined-known c.args.names.now name (sym (c.forget_undone.ensures.others name) ∙ h))

pub returns-in_err-make_next-in-Define-clause-gets : goal.returns-in_err-make_next-in-Define-clause-gets
returns-in_err-make_next-in-Define-clause-gets c = λ name h.
    inl (sym (knows-same c.args.names.now c.make_next.new.self c.in_err-make_next-in-Define.ensures.err name) ∙ h)

pub returns-in_ok-make_next-in-Define-clause-step : goal.returns-in_ok-make_next-in-Define-clause-step
returns-in_ok-make_next-in-Define-clause-step c =
    let p = c.in-Some.planned in
    let name = p.name.now.bytes in
    let gives = subst (GivesBy (rows_of c.args.names.now)) (ap plan_step c.in-Some.is) c.requires in
    ap Some (given-says c.make_next.new.self name p.change
    (subst (λ l. Gives l (step_by (λ place. name) p.change)) (sym c.in_ok-make_next-in-Define.ensures.rows) gives)
    (λ none. c.in_ok-make_next-in-Define.ensures.next))
    ∙ ap plan_step (sym c.in-Some.is)

pub returns-in_ok-make_next-in-Define-clause-gets : goal.returns-in_ok-make_next-in-Define-clause-gets
returns-in_ok-make_next-in-Define-clause-gets c = λ name h.
    let p = c.in-Some.planned in
    let own = p.name.now.bytes in
    let is = ap (λ x. defined_by (plan_step x)) c.in-Some.is ∙ ap (λ change. defined_by (Some (step_by (λ place. own) change))) c.in-Define.is in
    gets-next c.args.names.now own name (defined_by (plan_step c.args.plan)) is (sym (c.in_ok-make_next-in-Define.ensures.others name) ∙ h)

pub returns-in-Undefine : goal.returns-in-Undefine
returns-in-Undefine c = record {
  rows = c.forget_undone-in-Undefine.ensures.rows;
  step = search rules;
  fits = search rules;
  err = tt;
  gets = λ name h. inl (defined-known c.args.names.now name (sym (c.forget_undone-in-Undefine.ensures.others name) ∙ h));
  needless = search rules;
}
