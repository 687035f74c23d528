use Rattle.std.proofs.Common.{◌++◌, ◌∙◌, codes, subst}
use Rattle.explain_text.specs.Json.{object_end, object_start, string_field}
use Rattle.text_output.specs.Writing.{Puts}
use Rattle.text_output.proofs.Gathering.{puts_both}
use Rattle.explain_list.specs.Rows.{hint_field, place_fields, words_field}
use Rattle.explain_list.proofs.objects.put_fault_object.Goals as goal

pub returns : goal.returns
returns g c =
    let number = c.args.number in
    let column = c.args.caret.now.place.column in
    let word = c.as_bytes.ensures.value ∙ c.fault_word.ensures in
    let words = words_field c.args.hinted.now.words.now c.args.hinted.now.hint.now in
    let hint = hint_field c.args.hinted.now.hint.now in
    let place = place_fields number column c.width.result in
    let fault = string_field (codes "fault") c.as_bytes.result.now in
    let rest = words ++ (hint ++ object_end) in
    subst (Puts (g.W.Write.contents c.args.writer.now) (g.W.Write.contents c.put_object_end.new.writer) c.args.gathered.now c.put_object_end.new.gathered)
    (λ i. object_start (codes "fault") ++ (place_fields number column (c.width.ensures i) ++ (string_field (codes "fault") (word i) ++ rest)))
    (puts_both _ _ _ _ _ _ (object_start (codes "fault")) (place ++ (fault ++ rest)) c.put_object_start.ensures
    (puts_both _ _ _ _ _ _ place (fault ++ rest) c.put_place.ensures
    (puts_both _ _ _ _ _ _ fault rest c.put_string_field.ensures
    (puts_both _ _ _ _ _ _ words (hint ++ object_end) c.put_words.ensures
    (puts_both _ _ _ _ _ _ hint object_end c.put_hint.ensures c.put_object_end.ensures)))))
