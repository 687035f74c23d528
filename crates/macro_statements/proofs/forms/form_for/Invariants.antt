use Rattle.std.proofs.Common.{◌≡◌, map, drop}
use Rattle.macro_statements.specs.Forms.{form_for}
use Rattle.macro_statements.specs.Slots.{form_in}
use Rattle.macro_statements.proofs.forms.form_for.Given as goal

abbrev pub invariant-loop-form : goal.invariant-loop-form
invariant-loop-form l = form_for (map form_in (drop l.form-index l.forms)) l.word ≡ form_for (map form_in l.forms) l.word
