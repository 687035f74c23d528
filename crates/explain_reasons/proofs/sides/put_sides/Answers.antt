use Rattle.std.proofs.Common.{sym, ◌∙◌, ap, subst}
use Rattle.storage_plans.specs.Reasons.{side_place}
use Rattle.explain_reasons.specs.ToldPlaces.{found_text, option_place, PutsEnding}
use Rattle.explain_reasons.proofs.Endings.{ending_both, some_of_ending, told_first, told_second, whole_place}
use Rattle.explain_reasons.proofs.sides.put_sides.Goals as goal

pub returns-then-put_side : goal.returns-then-put_side
returns-then-put_side g c =
    let r = c.args.sides.now in
    let first = side_place r.first in
    let other = option_place r.second in
    subst (PutsEnding (g.W.Write.contents c.args.writer.now) (g.W.Write.contents c.put_side.new.writer) c.args.gathered.now c.put_side.new.gathered)
    (told_first first other (sym c.put_side.ensures.found ∙ c.if-put_side.true) ∙ ap found_text (sym (whole_place r.first r.second)))
    c.put_side.ensures.place

pub returns : goal.returns
returns g c =
    let r = c.args.sides.now in
    let first = side_place r.first in
    let other = option_place r.second in
    let old = g.W.Write.contents c.args.writer.now in
    let now = g.W.Write.contents c.put_side.new.writer in
    let new = g.W.Write.contents c.put_second.new.writer in
    let a = c.args.gathered.now in
    let b = c.put_side.new.gathered in
    subst (PutsEnding old new a c.put_second.new.gathered)
    (told_second first other (sym c.put_side.ensures.found ∙ c.if-put_side.false) ∙ ap found_text (sym (whole_place r.first r.second)))
    (ending_both old now new a b c.put_second.new.gathered (found_text other) (some_of_ending old now a b (found_text first) c.put_side.ensures.place) c.put_second.ensures)
