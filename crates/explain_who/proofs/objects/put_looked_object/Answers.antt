use Rattle.std.proofs.Common.{◌++◌, codes}
use Rattle.text_output.proofs.Gathering.{puts_both}
use Rattle.explain_text.specs.Json.{number_field, object_end, object_start}
use Rattle.explain_who.proofs.objects.put_looked_object.Goals as goal

pub returns : goal.returns
returns g c =
    let start = object_start (codes "sum") in
    let changes = number_field (codes "changes") c.args.changes in
    let standing = number_field (codes "standing") c.args.standing in
    puts_both _ _ _ _ _ _ (start ++ changes ++ standing) object_end (puts_both _ _ _ _ _ _ (start ++ changes) standing (puts_both _ _ _ _ _ _ start changes c.put_object_start.ensures c.put_number_field.ensures) c.put_number_field-2.ensures) c.put_object_end.ensures
