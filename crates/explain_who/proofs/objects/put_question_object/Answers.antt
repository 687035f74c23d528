use Rattle.std.proofs.Common.{◌++◌, codes}
use Rattle.text_output.proofs.Gathering.{puts_both}
use Rattle.explain_text.specs.Json.{object_end, object_start}
use Rattle.explain_who.specs.Objects.{text_field}
use Rattle.explain_who.specs.Texts.{asked_text, outside_text}
use Rattle.explain_who.proofs.objects.put_question_object.Goals as goal

pub returns : goal.returns
returns g c =
    let start = object_start (codes "question") in
    let text = text_field (codes "text") (asked_text c.args.asked.now ++ outside_text c.args.settings c.args.asked.now) in
    puts_both _ _ _ _ _ _ (start ++ text) object_end (puts_both _ _ _ _ _ _ start text c.put_object_start.ensures c.put_asked_field.ensures) c.put_object_end.ensures
