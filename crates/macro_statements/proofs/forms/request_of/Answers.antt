use Rattle.macro_operands.specs.Slots.{row_in}
use Rattle.macro_statements.proofs.FormRows.{row_slots}
use Rattle.macro_statements.proofs.forms.request_of.Goals as goal

pub read-requires-clause-empty : goal.read-requires-clause-empty
read-requires-clause-empty c = row_slots (row_in c.in_ok-form.form.now.row.now) c.in_ok-form.ensures.row
