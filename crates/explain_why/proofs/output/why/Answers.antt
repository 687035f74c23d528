use Rattle.std.proofs.Common.{List, ℕ, subst}
use Rattle.std.specs.Io.KnownBytes.{Appends}
use Rattle.text_output.specs.Writing.{AppendsFront}
use Rattle.explain_why.proofs.Written.{all_written, none_written, some_written}
use Rattle.explain_why.proofs.output.why.Goals as goal

pub returns-in-Ok-write_text : goal.returns-in-Ok-write_text
returns-in-Ok-write_text g c =
    let old = g.W.Write.contents c.args.out.now in
    let new = g.W.Write.contents c.write_text.new.out in
    all_written c.args.settings c.args.script.now c.args.line old new c.new-text.result.items c.why_text.new.out.items c.in-Ok.refused c.new-text.ensures.items c.in-Ok.ensures.explained
    (subst (λ (t : List ℕ). Appends old new t) c.as_slice.ensures.value c.in-Ok-write_text.ensures)

pub returns-in-Ok : goal.returns-in-Ok
returns-in-Ok g c =
    let old = g.W.Write.contents c.args.out.now in
    let new = g.W.Write.contents c.write_text.new.out in
    some_written c.args.settings c.args.script.now c.args.line old new c.new-text.result.items c.why_text.new.out.items c.in-Ok.refused c.new-text.ensures.items c.in-Ok.ensures.explained
    (subst (λ (t : List ℕ). AppendsFront old new t) c.as_slice.ensures.value c.in-Err-write_text.ensures)

pub returns : goal.returns
returns g c =
    none_written c.args.settings c.args.script.now c.args.line (g.W.Write.contents c.args.out.now) (g.W.Write.contents c.args.out.now) c.gathering_fault.result
    c.gathering_fault.ensures.other (c.gathering_fault.ensures.same c.args.script.now c.args.line c.in-Err.ensures.fault)
