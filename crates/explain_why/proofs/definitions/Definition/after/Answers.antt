use Rattle.std.proofs.Common.{true, false, ◌∙◌, ◌++◌, subst, sym}
use Rattle.script_steps.specs.Taken.{Brings}
use Rattle.explain_why.proofs.Turns.{definition_more, lines_more, turned_by}
use Rattle.explain_why.proofs.definitions.Definition.after.Goals as goal

pub returns-in-false-true : goal.returns-in-false-true
returns-in-false-true c = λ settings name answers more brings was is h.
    let k = c.in-Some in
    let arm = c.in-false-true in
    c.made.ensures settings name (answers ++ more)
    (turned_by settings name answers more _ _ true (subst (Brings settings answers more) k.is brings) (was ∙ arm.is-0) (is ∙ arm.is-1), is ∙ arm.is-1)
    (lines_more settings name answers more c.args.self h.lines)

pub returns-in-true-false : goal.returns-in-true-false
returns-in-true-false c = λ settings name answers more brings was is h.
    let k = c.in-Some in
    let arm = c.in-true-false in
    c.undone.ensures settings name (answers ++ more)
    (turned_by settings name answers more _ _ false (subst (Brings settings answers more) k.is brings) (was ∙ arm.is-0) (is ∙ arm.is-1), is ∙ arm.is-1)
    (sym h.now ∙ was ∙ arm.is-0) (lines_more settings name answers more c.args.self h.lines)

pub returns-in-true-true : goal.returns-in-true-true
returns-in-true-true c = λ settings name answers more brings was is h.
    let arm = c.in-true-true in
    c.left.ensures settings name (answers ++ more)
    (definition_more settings name answers more c.args.told.now c.args.self brings (was ∙ arm.is-0 ∙ sym (is ∙ arm.is-1)) h)

pub returns-in-false-false : goal.returns-in-false-false
returns-in-false-false c = λ settings name answers more brings was is h.
    let arm = c.in-false-false in
    c.left-in-false-false.ensures settings name (answers ++ more)
    (definition_more settings name answers more c.args.told.now c.args.self brings (was ∙ arm.is-0 ∙ sym (is ∙ arm.is-1)) h)
