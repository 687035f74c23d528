use Rattle.std.proofs.Common.{◌++◌, inr, refl, take, subst, sym, ◌∙◌}
use Rattle.script_steps.specs.Script.{NoFeed}
use Rattle.script_steps.specs.Taken.{Took}
use Rattle.explain_report.proofs.Following.{script_past, whole_script}
use Rattle.explain_report.proofs.Existing.{exists_then, never_more}
use Rattle.explain_report.proofs.tasks.search_rest.Goals as goal

pub take_bytes-requires : goal.take_bytes-requires
take_bytes-requires c = record { plain = subst NoFeed (sym c.rest_from.ensures) c.requires.plain }

pub returns-then-is_made : goal.returns-then-is_made
returns-then-is_made c = λ settings h.
    let script = c.args.script.now in
    let taken = c.in-Ok.ensures settings (take c.args.at script) h.0 h.1 in
    let took = subst (λ x. Took settings x h.0 c.take_bytes.new.self) (whole_script script c.args.at _ c.rest_from.ensures) taken in
    let e = c.end-ending.ensures.brings settings script h.0 took in
    let all = (h.0 ++ e.more) ++ e.also in
    (all, inr e.ended, exists_then settings c.args.task all _ _ e.led_on c.has_task-is_made.ensures ∙ c.if-is_made.true)

pub returns-else-is_made : goal.returns-else-is_made
returns-else-is_made c = λ settings h.
    let script = c.args.script.now in
    let task = c.args.task in
    let taken = c.in-Ok.ensures settings (take c.args.at script) h.0 h.1 in
    let took = subst (λ x. Took settings x h.0 c.take_bytes.new.self) (whole_script script c.args.at _ c.rest_from.ensures) taken in
    let ending = c.end-ending.result in
    let e = c.end-ending.ensures.brings settings script h.0 took in
    let first = h.0 ++ e.more in
    let all = first ++ e.also in
    let one = never_more settings task h.0 e.more ending.last e.last h.2 (exists_then settings task first _ _ e.led c.has_task-is_made.ensures ∙ c.if-is_made.false) in
    (refl, (all, e.ended, never_more settings task first e.also ending.open_statement e.unended one (exists_then settings task all _ _ e.led_on c.has_task-is_made.ensures ∙ c.if-is_made.false)))

pub returns-in-Err : goal.returns-in-Err
returns-in-Err c = λ settings h.
    let script = c.args.script.now in
    let past = c.in-Err.ensures settings (take c.args.at script) h.0 h.1 in
    (h.0, script_past settings script c.args.at _ h.0 c.rest_from.ensures past, h.2)
