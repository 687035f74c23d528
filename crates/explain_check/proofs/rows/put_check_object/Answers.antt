use Rattle.std.proofs.Common.{◌++◌, codes, subst}
use Rattle.text_output.specs.Writing.{Puts}
use Rattle.text_output.proofs.Gathering.{puts_both}
use Rattle.explain_text.specs.Json.{object_end, object_start, string_field, truth_field}
use Rattle.explain_check.specs.Lines.{lines_fields, note_of, place_fields, text_field}
use Rattle.explain_check.proofs.rows.put_check_object.Goals as goal

pub returns : goal.returns
returns g c =
    let old = g.W.Write.contents c.args.writer.now in
    let new = g.W.Write.contents c.put_object_end.new.writer in
    let note = note_of c.args.note.now in
    let start = object_start (codes "finding") in
    let place = place_fields c.args.place.number c.args.place.column c.args.place.end in
    let word = string_field (codes "word") c.word.result.now in
    let text = text_field note in
    let counts = truth_field (codes "counts") c.counts.result in
    let lines = lines_fields note in
    subst (Puts old new c.args.gathered.now c.put_object_end.new.gathered)
    (λ i. start ++ (string_field (codes "word") (c.word.ensures i) ++ (place ++ (text ++ (truth_field (codes "counts") (c.counts.ensures i) ++ (lines ++ object_end))))))
    (puts_both _ _ _ _ _ _ start (word ++ (place ++ (text ++ (counts ++ (lines ++ object_end))))) c.put_object_start.ensures
    (puts_both _ _ _ _ _ _ word (place ++ (text ++ (counts ++ (lines ++ object_end)))) c.put_string_field.ensures
    (puts_both _ _ _ _ _ _ place (text ++ (counts ++ (lines ++ object_end))) c.put_place_fields.ensures
    (puts_both _ _ _ _ _ _ text (counts ++ (lines ++ object_end)) c.put_text_field.ensures
    (puts_both _ _ _ _ _ _ counts (lines ++ object_end) c.put_truth_field.ensures
    (puts_both _ _ _ _ _ _ lines object_end c.put_lines_fields.ensures c.put_object_end.ensures))))))
