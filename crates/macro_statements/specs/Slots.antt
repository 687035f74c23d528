-- Tables of forms as the code keeps them, and what each statement that has no form asks for by what was read.
use Rattle.std.specs.Prelude.{ℕ, map, Result}
use Rattle.macro_operands.specs.Slots.{Slots, slot, row_in, as_value, as_condition, as_content}
use Rattle.macro_operands.specs.Slots.{as_size, as_count}
use Rattle.macro_operands.specs.declared.faults.FaultKind.{FaultKind}
use Rattle.macro_statements.specs.Forms as forms
use Rattle.macro_statements.specs.Poke.{poke_with}
use Rattle.macro_statements.specs.Peek.{peek_with}
use Rattle.macro_statements.specs.Steps.{count_with}
use Rattle.macro_statements.specs.Attach.{attach_with}
use Rattle.macro_statements.specs.Detach.{detach_with}
use Rattle.macro_statements.specs.Run.{run_with}
use Rattle.macro_operands.specs.Requests.{Asked}
use Rattle.macro_statements.specs.declared.forms.StorageForm.{StorageForm}
use Rattle.macro_statements.specs.declared.forms.StorageMacro.{StorageMacro}

abbrev pub form_in : StorageForm → forms.StorageForm
form_in f = record { word = f.word.now; obtains = f.obtains; row = row_in f.row.now; form = f.form }

abbrev pub macro_in : StorageMacro → forms.StorageMacro
macro_in m = record { forms = map form_in m.forms.now; left_out = map (λ w. w.now) m.left_out.now }

abbrev pub poke_by : Slots → Result Asked FaultKind
poke_by slots = poke_with (as_value (slot slots 0)) (as_content (slot slots 1))

abbrev pub peek_by : Slots → Result Asked FaultKind
peek_by slots = peek_with (as_value (slot slots 0)) (as_size (slot slots 1))

abbrev pub count_by : Slots → Result ℕ FaultKind
count_by slots = count_with (as_count (slot slots 0))

abbrev pub attach_by : Slots → Asked
attach_by slots =
    attach_with (as_value (slot slots 1)) (as_value (slot slots 2)) (as_value (slot slots 3)) (as_value (slot slots 4))
    (as_condition (slot slots 5))

abbrev pub detach_by : Slots → Result Asked FaultKind
detach_by slots = detach_with (as_value (slot slots 0))

abbrev pub run_by : Slots → Result Asked FaultKind
run_by slots = run_with (as_value (slot slots 0))
