use Rattle.std.proofs.Common.{take, subst, sym}
use Rattle.script_steps.specs.Script.{NoFeed}
use Rattle.script_steps.specs.Taken.{Took}
use Rattle.explain_report.proofs.Following.{whole_script, script_past}
use Rattle.explain_report.proofs.changes.put_rest.Goals as goal

pub take_bytes-requires : goal.take_bytes-requires
take_bytes-requires g c = record { plain = subst NoFeed (sym c.rest_from-rest.ensures) c.requires.plain }

pub returns-in-Ok : goal.returns-in-Ok
returns-in-Ok g c = λ settings seen first h.
    let script = c.args.script.now in
    let taken = c.in-Ok.ensures settings (take c.args.at script) h.answers h.took in
    let took = subst (λ x. Took settings x h.answers c.take_bytes.new.self) (whole_script script c.args.at _ c.rest_from-rest.ensures) taken in
    c.put_end.ensures settings seen first script (record { answers = h.answers; took = took; put = h.put })

pub returns-in-Err : goal.returns-in-Err
returns-in-Err g c = λ settings seen first h.
    let script = c.args.script.now in
    let past = c.in-Err.ensures settings (take c.args.at script) h.answers h.took in
    (h.answers, h.put.text, script_past settings script c.args.at _ h.answers c.rest_from-rest.ensures past, h.put.over, h.put.held)
