use Rattle.std.proofs.Common.{[], sym, ◌∙◌}
use Rattle.explain_report.proofs.Existing.{exists_first, made_there}
use Rattle.explain_report.proofs.tasks.search_on.Goals as goal

pub returns-then-is_first : goal.returns-then-is_first
returns-then-is_first g c = λ settings new.
    let there = exists_first settings c.args.task c.args.bench new ∙ sym c.has_task-is_first.ensures ∙ c.if-is_first.true in
    made_there settings c.args.task c.args.script.now 0 [] c.new-session.result (c.new-session.ensures settings new) there

pub returns-in-Ok-None : goal.returns-in-Ok-None
returns-in-Ok-None g c = λ settings new.
    let absent = exists_first settings c.args.task c.args.bench new ∙ sym c.has_task-is_first.ensures ∙ c.if-is_first.false in
    (rw c.in-Ok-None.field-0-is at c.in-Ok-None.ensures.found) settings ([], c.new-session.ensures settings new, absent)

pub returns-in-Ok-Some : goal.returns-in-Ok-Some
returns-in-Ok-Some g c = λ settings new.
    let absent = exists_first settings c.args.task c.args.bench new ∙ sym c.has_task-is_first.ensures ∙ c.if-is_first.false in
    c.search_rest.ensures settings ((rw c.in-Ok-Some.field-0-is at c.in-Ok-Some.ensures.found) settings ([], c.new-session.ensures settings new, absent))

pub returns-in-Err : goal.returns-in-Err
returns-in-Err g c = λ settings new.
    let absent = exists_first settings c.args.task c.args.bench new ∙ sym c.has_task-is_first.ensures ∙ c.if-is_first.false in
    c.in-Err.ensures.found settings ([], c.new-session.ensures settings new, absent)
