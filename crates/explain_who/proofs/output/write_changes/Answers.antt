use Rattle.std.proofs.Common.{None, map, ap, sym, ◌∙◌}
use Rattle.explain_who.specs.Code.{difference_in}
use Rattle.explain_who.specs.Forms.{in_order}
use Rattle.explain_who.specs.Told.{lacking}
use Rattle.explain_who.specs.Who.{differences_of}
use Rattle.explain_who.proofs.Told.{lacking_told, shown_told}
use Rattle.text_output.proofs.Known.{appends_nothing}
use Rattle.explain_who.proofs.output.write_changes.Goals as goal

pub returns-in-Err : goal.returns-in-Err
returns-in-Err g c = appends_nothing (g.W.Write.contents c.args.out.now)

pub returns-in-Some : goal.returns-in-Some
returns-in-Some g c =
    let t = c.args.traced.now in
    let found = differences_of None t.first t.entries.items in
    let is = ap (map difference_in) c.as_slice.ensures.value ∙ c.in-Ok.ensures.along in
    lacking_told c.args.settings c.args.script.now c.args.form c.args.order t c.args.asked.now found (g.W.Write.contents c.args.out.now) c.in-Some.fault
    (sym (ap (lacking c.args.asked.now t.first) is) ∙ sym c.in-Some.ensures)

pub returns : goal.returns
returns g c =
    let t = c.args.traced.now in
    let found = differences_of None t.first t.entries.items in
    let is = ap (map difference_in) c.as_slice.ensures.value ∙ c.in-Ok.ensures.along in
    let shown = ap (map difference_in) c.as_slice-2.ensures.value ∙ c.put_in_order.ensures ∙ ap (in_order c.args.order) c.in-Ok.ensures.along in
    shown_told c.args.settings c.args.script.now c.args.form c.args.order t c.args.asked.now found (g.W.Write.contents c.args.out.now)
    (map difference_in c.as_slice-2.result.now) (g.W.Write.contents c.write_shown-outcome.new.out) c.write_shown-outcome.result
    (sym (ap (lacking c.args.asked.now t.first) is) ∙ sym c.in-None.ensures) shown c.write_shown-outcome.ensures
