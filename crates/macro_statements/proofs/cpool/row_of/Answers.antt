use Rattle.std.proofs.Common.{sym, ap}
use Rattle.macro_statements.specs.Cpool.{pool_form_row}
use Rattle.macro_statements.proofs.cpool.row_of.Goals as goal

pub returns-in-Delete : goal.returns-in-Delete
returns-in-Delete c = sym (ap pool_form_row c.in-Delete.is)
