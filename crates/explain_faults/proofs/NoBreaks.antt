-- No statement has the fault CONTINUATION by what it says: only its lines can have it.
use Rattle.std.proofs.Common.{codes, ◌≡◌, ℕ, ◌+◌, Bool, true, false, if◌then◌else◌, List, [], ◌∷◌, Option, Some, None, Result, Ok, Err, option_and_then, refl, is_some}
use Rattle.std.specs.List.{list_any}
use Rattle.operand_texts.specs.Words.{is_word, word}
use Rattle.operand_texts.specs.Written.{Written, Target, Stored}
use Rattle.operand_texts.specs.Values.{content_of, size_of, number_of}
use Rattle.operand_texts.specs.Field.{outside, operands, is_balanced}
use Rattle.macro_operands.specs.Rows.{Key, position, is_among, Entry, Row}
use Rattle.macro_operands.specs.Keywords.{Operand, operand_at}
use Rattle.macro_operands.specs.Operands.{is_left_out, unknown_fault, is_excluded, entry_for, entry_fault, operand_fault, earlier, with_key, fault_from, first_fault, unless_fault, text_at, value_at}
use Rattle.macro_operands.specs.Said.{said_of, is_unsupported, wrong_fault, unsaid_fault, value_fault}
use Rattle.macro_operands.specs.Slots.{Slots, slot, readings, as_value, as_place, as_condition, as_boundary, as_location, as_name, as_header}
use Rattle.macro_operands.specs.declared.faults.FaultKind.{FaultKind}
use Rattle.macro_operands.specs.declared.faults.FaultKind.TheVariants as fault
use Rattle.macro_operands.specs.declared.rows.Kind.{Kind}
use Rattle.macro_operands.specs.declared.rows.Kind.TheVariants as kind
use Rattle.macro_statements.specs.Requests.{Asked, back, forward}
use Rattle.macro_statements.specs.Forms.{StorageForm, StorageMacro, has_whole, lacks_place, obtain_with, release_with, obtain_by, release_by, asked_by, form_for, left_out_keywords, no_form_fault, with_form, macro_of, as_length, subpool_by, boundary_by, location_by, form_by}
use Rattle.macro_statements.specs.Storage.{storage_macro}
use Rattle.macro_statements.specs.Getmain.{getmain_macro}
use Rattle.macro_statements.specs.Freemain.{freemain_macro}
use Rattle.macro_statements.specs.Cpool.{pool_form_of, pool_form_row, build_with, get_with, free_with, delete_with, pool_by, with_pool_form, cpool_of}
use Rattle.macro_statements.specs.Poke.{poke_row, poke_with}
use Rattle.macro_statements.specs.Peek.{peek_row, peek_with}
use Rattle.macro_statements.specs.Attach.{attach_row}
use Rattle.macro_statements.specs.Detach.{detach_row, detach_with}
use Rattle.macro_statements.specs.Run.{run_row, run_with}
use Rattle.macro_statements.specs.Steps.{steps_row, count_with, count_in, step_with}
use Rattle.macro_statements.specs.Statements.{operation_of, asked_of, of_operation, from_operation, is_misplaced, statement_with}
use Rattle.macro_statements.specs.declared.cpool.PoolForm.{PoolForm}
use Rattle.macro_statements.specs.declared.cpool.PoolForm.TheVariants as form
use Rattle.macro_statements.specs.declared.statements.Operation.{Operation}
use Rattle.macro_statements.specs.declared.statements.Operation.TheVariants as operation

-- whether a fault is CONTINUATION,
abbrev pub breaks : FaultKind → Bool
breaks fault.Column = false
breaks fault.Continuation = true
breaks fault.Operation = false
breaks fault.Operand = false
breaks fault.Repeated = false
breaks fault.Missing = false
breaks fault.Value = false
breaks fault.LeftOut = false

abbrev some_breaks : Option FaultKind → Bool
some_breaks None = false
some_breaks (Some f) = breaks f

abbrev pub is_break : {A : Type 0} → Result A FaultKind → Bool
is_break (Ok a) = false
is_break (Err f) = breaks f

-- and what has two cases
fault_by : (b : Bool) (x y : FaultKind) → breaks x ≡ false → breaks y ≡ false → breaks (if b then x else y) ≡ false
fault_by true x y h k = h
fault_by false x y h k = k

some_by : (b : Bool) (x y : Option FaultKind) → some_breaks x ≡ false → some_breaks y ≡ false → some_breaks (if b then x else y) ≡ false
some_by true x y h k = h
some_by false x y h k = k

told_by : (b : Bool) (x y : Result Asked FaultKind) → is_break x ≡ false → is_break y ≡ false → is_break (if b then x else y) ≡ false
told_by true x y h k = h
told_by false x y h k = k

-- one operand
unknown_no : (left_out : List (List ℕ)) (o : Option Operand) → breaks (unknown_fault left_out o) ≡ false
unknown_no left_out None = refl
unknown_no left_out (Some o) = fault_by (is_left_out left_out o.key) fault.LeftOut fault.Operand refl refl

wrong_no : (k : Kind) → breaks (wrong_fault k) ≡ false
wrong_no kind.Value = refl
wrong_no kind.Length = refl
wrong_no kind.Pair = refl
wrong_no kind.RegisterLength = refl
wrong_no kind.NamedValue = refl
wrong_no kind.Place = refl
wrong_no kind.Name = refl
wrong_no kind.Condition = refl
wrong_no kind.ConditionWord = refl
wrong_no kind.Content = refl
wrong_no kind.Size = refl
wrong_no kind.Count = refl
wrong_no kind.Boundary = refl
wrong_no kind.Location = refl
wrong_no kind.Header = refl
wrong_no kind.Any = refl
wrong_no kind.OtherForm = refl

value_no : (k : Kind) (text : List ℕ) → some_breaks (value_fault k text) ≡ false
value_no k text =
    some_by (is_some (said_of k text)) None (Some (unsaid_fault k text)) refl
    (fault_by (is_unsupported k text) fault.LeftOut (wrong_fault k) refl (wrong_no k))

entry_no : (left_out : List (List ℕ)) (before : List Key) (o : Operand) (e : Option Entry) → some_breaks (entry_fault left_out before o e) ≡ false
entry_no left_out before o None = unknown_no left_out (Some o)
entry_no left_out before o (Some e) =
    some_by (is_excluded before e.excluded) (Some fault.Operand) (if is_among before o.key then Some fault.Repeated else value_fault e.kind o.text) refl
    (some_by (is_among before o.key) (Some fault.Repeated) (value_fault e.kind o.text) refl (value_no e.kind o.text))

operand_no : (row : Row) (before : List Key) (o : Option Operand) → some_breaks (operand_fault row before o) ≡ false
operand_no row before None = refl
operand_no row before (Some o) = entry_no row.left_out before o (entry_for row.entries o.key)

earlier_no : (f g : Option FaultKind) → some_breaks f ≡ false → some_breaks g ≡ false → some_breaks (earlier f g) ≡ false
earlier_no None g h k = k
earlier_no (Some f) g h k = h

fault_no : (row : Row) (before : List Key) (place : ℕ) (texts : List (List ℕ)) → some_breaks (fault_from row before place texts) ≡ false
fault_no row before place [] = refl
fault_no row before place (text ∷ texts) =
    earlier_no (operand_fault row before (operand_at place text)) (fault_from row (with_key before (operand_at place text)) (place + 1) texts)
    (operand_no row before (operand_at place text)) (fault_no row (with_key before (operand_at place text)) (place + 1) texts)

unless_no : {A : Type 0} (f : Option FaultKind) (r : Result A FaultKind) → some_breaks f ≡ false → is_break r ≡ false → is_break (unless_fault f r) ≡ false
unless_no None r h k = k
unless_no (Some f) r h k = h

-- operands by a row, and then what they ask for
row_no : {A : Type 0} (row : Row) (texts : List (List ℕ)) (r : Result A FaultKind) → is_break r ≡ false → is_break (unless_fault (first_fault row texts) r) ≡ false
row_no row texts r k = unless_no (first_fault row texts) r (fault_no row [] 0 texts) k

-- STORAGE, GETMAIN and FREEMAIN
obtain_no : (f : StorageForm) (slots : Slots) → is_break (obtain_by f.form slots) ≡ false
obtain_no f slots =
    told_by (lacks_place f.form.family (as_place (slot slots 2))) (Err fault.Missing)
    (obtain_with (as_length (slot slots 0)) (subpool_by (as_value (slot slots 1))) (as_place (slot slots 2)) (boundary_by (as_boundary (slot slots 3)))
    (location_by f.form.family (as_location (slot slots 4))) (form_by f.form (as_condition (slot slots 5)))) refl
    (elim (as_length (slot slots 0)) as (λ l. is_break (obtain_with l (subpool_by (as_value (slot slots 1))) (as_place (slot slots 2)) (boundary_by (as_boundary (slot slots 3)))
    (location_by f.form.family (as_location (slot slots 4))) (form_by f.form (as_condition (slot slots 5)))) ≡ false) [
      | None ↦ refl
      | Some l ↦ refl
    ])

released_no : (f : StorageForm) (slots : Slots) (l a s : Option Written) → is_break (release_with l a s (form_by f.form (as_condition (slot slots 5)))) ≡ false
released_no f slots (Some l) (Some a) s = refl
released_no f slots (Some l) None s = refl
released_no f slots None (Some a) s = refl
released_no f slots None None None = refl
released_no f slots None None (Some s) = told_by (has_whole f.form.family) _ _ refl refl

asked_no : (f : StorageForm) (slots : Slots) → is_break (asked_by f slots) ≡ false
asked_no f slots =
    told_by f.obtains (obtain_by f.form slots) (release_by f.form slots) (obtain_no f slots)
    (released_no f slots (as_value (slot slots 0)) (as_value (slot slots 2)) (as_value (slot slots 1)))

no_form_no : (left_out : List (List ℕ)) (word : List ℕ) → breaks (no_form_fault left_out word) ≡ false
no_form_no left_out word =
    fault_by (list_any (λ w. is_word word w) left_out) fault.LeftOut (unknown_fault left_out_keywords (operand_at 0 word)) refl
    (unknown_no left_out_keywords (operand_at 0 word))

with_form_no : (m : StorageMacro) (word : List ℕ) (texts : List (List ℕ)) (f : Option StorageForm) → is_break (with_form m word texts f) ≡ false
with_form_no m word texts None = no_form_no m.left_out word
with_form_no m word texts (Some f) = row_no f.row texts (asked_by f (readings f.row.entries texts)) (asked_no f (readings f.row.entries texts))

macro_no : (m : StorageMacro) (os : List (List ℕ)) → is_break (macro_of m os) ≡ false
macro_no m [] = refl
macro_no m (word ∷ texts) = with_form_no m word texts (form_for m.forms word)

-- CPOOL
build_no : (slots : Slots) (n : Option (List ℕ)) (p z : Option Written)
    → is_break (build_with n (as_header (slot slots 6)) p (as_value (slot slots 2)) z (as_value (slot slots 4)) (as_location (slot slots 5))) ≡ false
build_no slots None p z = refl
build_no slots (Some n) None z = refl
build_no slots (Some n) (Some p) None = refl
build_no slots (Some n) (Some p) (Some z) = refl

get_no : (n : Option (List ℕ)) (t : Option Target) (c : Option Bool) → is_break (get_with n t c) ≡ false
get_no None t c = refl
get_no (Some n) t c = refl

free_no : (n : Option (List ℕ)) (c : Option Written) → is_break (free_with n c) ≡ false
free_no None c = refl
free_no (Some n) None = refl
free_no (Some n) (Some c) = refl

delete_no : (n : Option (List ℕ)) → is_break (delete_with n) ≡ false
delete_no None = refl
delete_no (Some n) = refl

pool_no : (f : PoolForm) (slots : Slots) → is_break (pool_by f slots) ≡ false
pool_no form.Build slots = build_no slots (as_name (slot slots 0)) (as_value (slot slots 1)) (as_value (slot slots 3))
pool_no form.Get slots = get_no (as_name (slot slots 0)) (as_place (slot slots 8)) (as_condition (slot slots 7))
pool_no form.Free slots = free_no (as_name (slot slots 0)) (as_value (slot slots 8))
pool_no form.Delete slots = delete_no (as_name (slot slots 0))

pool_form_no : (word : List ℕ) (texts : List (List ℕ)) (f : Option PoolForm) → is_break (with_pool_form word texts f) ≡ false
pool_form_no word texts None = no_form_no (codes "LIST" ∷ []) word
pool_form_no word texts (Some f) =
    row_no (pool_form_row f) texts (pool_by f (readings (pool_form_row f).entries texts)) (pool_no f (readings (pool_form_row f).entries texts))

cpool_no : (os : List (List ℕ)) → is_break (cpool_of os) ≡ false
cpool_no [] = refl
cpool_no (word ∷ texts) = pool_form_no word texts (pool_form_of word)

-- the others
detach_no : (t : Option Written) → is_break (detach_with t) ≡ false
detach_no None = refl
detach_no (Some t) = refl

run_no : (t : Option Written) → is_break (run_with t) ≡ false
run_no None = refl
run_no (Some t) = refl

poke_no : (a : Option Written) (c : Option Stored) → is_break (poke_with a c) ≡ false
poke_no None c = refl
poke_no (Some a) None = refl
poke_no (Some a) (Some c) = refl

peek_no : (a : Option Written) (n : Option ℕ) → is_break (peek_with a n) ≡ false
peek_no None n = refl
peek_no (Some a) None = refl
peek_no (Some a) (Some n) = refl

count_no : (n : Option ℕ) → is_break (count_with n) ≡ false
count_no None = refl
count_no (Some n) = refl

step_no : (step : ℕ → Asked) (r : Result ℕ FaultKind) → is_break r ≡ false → is_break (step_with step r) ≡ false
step_no step (Ok n) h = refl
step_no step (Err e) h = h

steps_no : (step : ℕ → Asked) (os : List (List ℕ)) → is_break (step_with step (count_in os)) ≡ false
steps_no step os =
    step_no step (count_in os)
    (row_no steps_row os (count_with (option_and_then number_of (text_at (position 0) os))) (count_no (option_and_then number_of (text_at (position 0) os))))

asked_of_no : (o : Operation) (os : List (List ℕ)) → is_break (asked_of o os) ≡ false
asked_of_no operation.Storage os = macro_no storage_macro os
asked_of_no operation.Getmain os = macro_no getmain_macro os
asked_of_no operation.Freemain os = macro_no freemain_macro os
asked_of_no operation.Cpool os = cpool_no os
asked_of_no operation.Attach os = row_no attach_row os _ refl
asked_of_no operation.Detach os = row_no detach_row os _ (detach_no (value_at (position 0) os))
asked_of_no operation.Run os = row_no run_row os _ (run_no (value_at (position 0) os))
asked_of_no operation.EndTask os = refl
asked_of_no operation.Poke os = row_no poke_row os _ (poke_no (value_at (position 0) os) (option_and_then content_of (text_at (position 1) os)))
asked_of_no operation.Peek os = row_no peek_row os _ (peek_no (value_at (position 0) os) (option_and_then size_of (text_at (position 1) os)))
asked_of_no operation.Map os = refl
asked_of_no operation.Back os = steps_no back os
asked_of_no operation.Forward os = steps_no forward os

operation_no : (o : Option Operation) (text : List ℕ) → is_break (of_operation o text) ≡ false
operation_no None text = refl
operation_no (Some o) text = told_by (is_balanced outside text) (asked_of o (operands text)) (Err fault.Operand) (asked_of_no o (operands text)) refl

pub no_break : (card text : List ℕ) → is_break (statement_with card text) ≡ false
no_break card text =
    told_by (is_misplaced card) (Err fault.Column) (of_operation (operation_of (word (from_operation card))) text) refl
    (operation_no (operation_of (word (from_operation card))) text)
