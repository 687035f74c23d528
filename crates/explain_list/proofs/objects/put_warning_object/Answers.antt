use Rattle.std.proofs.Common.{[], ◌++◌, codes}
use Rattle.explain_text.specs.Json.{object_end, object_start}
use Rattle.text_output.proofs.Gathering.{puts_both}
use Rattle.explain_list.specs.Rows.{place_fields, words_field}
use Rattle.explain_list.proofs.objects.put_warning_object.Goals as goal

pub returns : goal.returns
returns g c =
    let place = place_fields c.args.number c.args.place c.args.width in
    let words = words_field c.args.words.now [] in
    puts_both _ _ _ _ _ _ (object_start (codes "warning")) (place ++ (words ++ object_end)) c.put_object_start.ensures
    (puts_both _ _ _ _ _ _ place (words ++ object_end) c.put_place.ensures
    (puts_both _ _ _ _ _ _ words object_end c.put_words.ensures c.put_object_end.ensures))
