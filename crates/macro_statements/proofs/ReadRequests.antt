-- What each statement asks for by what was read is what its operands ask for.
use Rattle.std.proofs.Common.{◌≡◌, ℕ, Bool, List, Option, Some, None, is_some, Result, Ok, Err, codes, if◌then◌else◌, option_and_then, refl, ap, ◌∙◌, sym}
use Rattle.std.specs.Option.{option_map}
use Rattle.operand_texts.specs.Written.{Written, Stored}
use Rattle.operand_texts.specs.Values.{number_of, value_of, content_of, size_of}
use Rattle.macro_operands.specs.Rows.{position, keyword}
use Rattle.macro_operands.specs.Operands.{first_fault, text_at, value_at, unless_fault}
use Rattle.macro_operands.proofs.ReadValues.{value_kept}
use Rattle.macro_statements.specs.Poke.{poke_row, poke_of, poke_with}
use Rattle.macro_statements.specs.Peek.{peek_row, peek_of, peek_with}
use Rattle.macro_statements.specs.Steps.{steps_row, count_in, count_with}
use Rattle.macro_statements.specs.Attach.{attach_row, attach_of, attach_with}
use Rattle.macro_statements.specs.Detach.{detach_row, detach_of, detach_with}
use Rattle.macro_statements.specs.Run.{run_row, run_of, run_with}
use Rattle.macro_operands.specs.Requests.{Asked}
use Rattle.macro_operands.specs.Said.{condition, content, size, count, said_of, condition_of}
use Rattle.macro_operands.specs.Slots.{as_value, as_condition, as_content, as_size, as_count, readings}
use Rattle.macro_statements.specs.Slots.{poke_by, peek_by, count_by, attach_by, detach_by, run_by}
use Rattle.macro_operands.specs.declared.faults.FaultKind.{FaultKind}
use Rattle.macro_operands.specs.declared.rows.Kind.TheVariants as kind

value_read : (t : Option (List ℕ)) → as_value (option_and_then (said_of kind.Value) t) ≡ option_and_then value_of t
value_read None = refl
value_read (Some t) = value_kept t

content_back : (t : List ℕ) (c : Option Stored) → content_of t ≡ c → as_content (if is_some c then Some (content t) else None) ≡ c
content_back t None h = refl
content_back t (Some c) h = h

content_said : (t : Option (List ℕ)) → as_content (option_and_then (said_of kind.Content) t) ≡ option_and_then content_of t
content_said None = refl
content_said (Some t) = content_back t (content_of t) refl

size_back : (n : Option ℕ) → as_size (option_map size n) ≡ n
size_back None = refl
size_back (Some n) = refl

size_said : (t : Option (List ℕ)) → as_size (option_and_then (said_of kind.Size) t) ≡ option_and_then size_of t
size_said None = refl
size_said (Some t) = size_back (size_of t)

count_back : (n : Option ℕ) → as_count (option_map count n) ≡ n
count_back None = refl
count_back (Some n) = refl

count_said : (t : Option (List ℕ)) → as_count (option_and_then (said_of kind.Count) t) ≡ option_and_then number_of t
count_said None = refl
count_said (Some t) = count_back (number_of t)

no_fault : {A : Type 0} (f : Option FaultKind) (r : Result A FaultKind) → f ≡ None → r ≡ unless_fault f r
no_fault f r h = ap (λ g. unless_fault g r) (sym h)

condition_back : (c : Option Bool) → as_condition (option_map condition c) ≡ c
condition_back None = refl
condition_back (Some c) = refl

condition_said : (t : Option (List ℕ)) → as_condition (option_and_then (said_of kind.Condition) t) ≡ option_and_then condition_of t
condition_said None = refl
condition_said (Some t) = condition_back (condition_of t)

same_attach : (n l m k n' l' m' k' : Option Written) (z z' : Option Bool) → n ≡ n' → l ≡ l' → m ≡ m' → k ≡ k' → z ≡ z' → ◌≡◌ {A = Result Asked FaultKind} (Ok (attach_with n l m k z)) (Ok (attach_with n' l' m' k' z'))
same_attach n l m k n' l' m' k' z z' a b c d e = rw (a, b, c, d, e) refl

pub attach_read : (texts : List (List ℕ)) → first_fault attach_row texts ≡ None → ◌≡◌ {A = Result Asked FaultKind} (Ok (attach_by (readings attach_row.entries texts))) (attach_of texts)
attach_read texts h =
    same_attach _ _ _ _ _ _ _ _ _ _ (value_read (text_at (keyword (codes "GSPV")) texts)) (value_read (text_at (keyword (codes "GSPL")) texts))
    (value_read (text_at (keyword (codes "SHSPV")) texts)) (value_read (text_at (keyword (codes "SHSPL")) texts)) (condition_said (text_at (keyword (codes "SZERO")) texts))
    ∙ no_fault (first_fault attach_row texts) _ h

pub detach_read : (texts : List (List ℕ)) → first_fault detach_row texts ≡ None → detach_by (readings detach_row.entries texts) ≡ detach_of texts
detach_read texts h = ap detach_with (value_read (text_at (position 0) texts)) ∙ no_fault (first_fault detach_row texts) _ h

pub run_read : (texts : List (List ℕ)) → first_fault run_row texts ≡ None → run_by (readings run_row.entries texts) ≡ run_of texts
run_read texts h = ap run_with (value_read (text_at (position 0) texts)) ∙ no_fault (first_fault run_row texts) _ h

pub poke_read : (texts : List (List ℕ)) → first_fault poke_row texts ≡ None → poke_by (readings poke_row.entries texts) ≡ poke_of texts
poke_read texts h =
    ap (λ x. poke_with x (as_content (option_and_then (said_of kind.Content) (text_at (position 1) texts)))) (value_read (text_at (position 0) texts))
    ∙ ap (λ x. poke_with (value_at (position 0) texts) x) (content_said (text_at (position 1) texts))
    ∙ no_fault (first_fault poke_row texts) _ h

pub peek_read : (texts : List (List ℕ)) → first_fault peek_row texts ≡ None → peek_by (readings peek_row.entries texts) ≡ peek_of texts
peek_read texts h =
    ap (λ x. peek_with x (as_size (option_and_then (said_of kind.Size) (text_at (position 1) texts)))) (value_read (text_at (position 0) texts))
    ∙ ap (λ x. peek_with (value_at (position 0) texts) x) (size_said (text_at (position 1) texts))
    ∙ no_fault (first_fault peek_row texts) _ h

pub count_read : (texts : List (List ℕ)) → first_fault steps_row texts ≡ None → count_by (readings steps_row.entries texts) ≡ count_in texts
count_read texts h =
    ap count_with (count_said (text_at (position 0) texts)) ∙ no_fault (first_fault steps_row texts) _ h

-- the first fault of what was read is the statement's
wrong_fault : {A : Type 0} (f : Option FaultKind) (wrong : FaultKind) (r : Result A FaultKind) → f ≡ Some wrong → ◌≡◌ {A = Result A FaultKind} (Err wrong) (unless_fault f r)
wrong_fault f wrong r h = ap (λ g. unless_fault g r) (sym h)

pub attach_wrong : (texts : List (List ℕ)) (wrong : FaultKind) → first_fault attach_row texts ≡ Some wrong → ◌≡◌ {A = Result Asked FaultKind} (Err wrong) (attach_of texts)
attach_wrong texts wrong h = wrong_fault (first_fault attach_row texts) wrong _ h
