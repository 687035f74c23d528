use Rattle.std.proofs.Common.{map, sym}
use Rattle.macro_statements.specs.Slots.{form_in}
use Rattle.macro_statements.proofs.FormRows.{found_row}
use Rattle.macro_statements.proofs.forms.form_in_field.Goals as goal

pub returns-in-Some-clause-row : goal.returns-in-Some-clause-row
returns-in-Some-clause-row c =
    found_row (map form_in c.args.storage_macro.now.forms.now) c.split.result.0.now (form_in c.in-Some.form.now) c.requires (sym c.in-Some.ensures)
