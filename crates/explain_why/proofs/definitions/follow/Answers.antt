use Rattle.std.proofs.Common.{ℕ, List, [], ◌++◌, Option, Some, Ok, arith, subst, take}
use Rattle.std.proofs.lemmas.List.{take_all}
use Rattle.script_steps.specs.Steps.{BringsStep, StepsOver}
use Rattle.script_steps.specs.declared.steps.Step.{Step}
use Rattle.script_steps.specs.Taken.{Unended}
use Rattle.explain_why.proofs.Turns.{at_first, unended}
use Rattle.explain_why.proofs.definitions.follow.Goals as goal

pub loop-at-init : goal.loop-at-init
loop-at-init g c = (omega arith, λ settings took. ([], took, at_first settings c.args.name.now.bytes))

pub loop-at-preserved : goal.loop-at-preserved
loop-at-preserved g c =
    let lines = c.args.lines.now in
    let step = c.in-Some.step in
    let name = c.args.name.now.bytes in
    let over : StepsOver lines c.loop-at.at (Ok (Some step)) =
    subst (λ (x : Option Step). StepsOver lines c.loop-at.at (Ok x)) c.in-Some.is c.in_ok-step.ensures.place in (
      over.1.within,
      λ settings took.
          let h = c.loop-at.invariant.1 settings took in
          let more : BringsStep settings lines h.0 c.take_line.new.self (Ok (Some step)) =
          subst (λ (x : Option Step). BringsStep settings lines h.0 c.take_line.new.self (Ok x)) c.in-Some.is (c.in_ok-step.ensures.brings settings h.0 h.1) in (
            h.0 ++ more.0,
            more.2,
            c.after-definition.ensures settings name h.0 more.0 more.1
                (c.is_defined-was_defined.ensures settings (take c.loop-at.at lines) h.0 h.1)
                (c.is_defined.ensures settings (take step.next lines) (h.0 ++ more.0) more.2) h.2,
          ),
    )

pub returns : goal.returns
returns g c = λ settings took.
    let lines = c.args.lines.now in
    let h = c.loop-at.invariant.1 settings took in
    (h.0, subst (λ (xs : List ℕ). Unended settings xs h.0) (take_all c.loop-at.at lines c.loop-at-test.false) (unended settings (take c.loop-at.at lines) h.0 c.loop-at.session h.1), h.2)
