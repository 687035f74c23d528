use Rattle.std.proofs.Common.{◌++◌, codes, length}
use Rattle.explain_text.specs.Json.{json_name, object_end, object_start}
use Rattle.explain_text.specs.declared.json.Form.TheVariants as form
use Rattle.text_output.proofs.Gathering.{puts_both}
use Rattle.explain_list.specs.Rows.{loss_in, place_fields}
use Rattle.explain_list.proofs.objects.put_dropped_object.Goals as goal

pub returns : goal.returns
returns g c =
    let number = c.args.number in
    let place = place_fields number 1 (length c.args.line.now) in
    let name = json_name (codes "text") in
    let quote = codes "\"" in
    let loss = loss_in form.Json number c.args.before.now in
    let last = quote ++ object_end in
    puts_both _ _ _ _ _ _ (object_start (codes "dropped")) (place ++ (name ++ (quote ++ (loss ++ last)))) c.put_object_start.ensures
    (puts_both _ _ _ _ _ _ place (name ++ (quote ++ (loss ++ last))) c.put_place.ensures
    (puts_both _ _ _ _ _ _ name (quote ++ (loss ++ last)) c.put_name.ensures
    (puts_both _ _ _ _ _ _ quote (loss ++ last) c.put.ensures.puts
    (puts_both _ _ _ _ _ _ loss last c.put_loss.ensures
    (puts_both _ _ _ _ _ _ quote object_end c.put-2.ensures.puts c.put_object_end.ensures)))))
