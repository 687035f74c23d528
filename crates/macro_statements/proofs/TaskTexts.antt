-- Operands for each valid request on tasks.
use Rattle.std.proofs.Common.{◌≡◌, ℕ, ◌≤◌, Bool, true, false, not, List, [], ◌∷◌, length, Option, Some, None, is_some, Ok, codes, option_and_then, if◌then◌else◌, arith, refl, ap, ◌∙◌}
use Rattle.std.specs.Option.{IfSome, unwrap_or}
use Rattle.std.proofs.lemmas.List.{length-append}
use Rattle.operand_texts.specs.Written.{Written, IsValue}
use Rattle.operand_texts.specs.Values.{value_of}
use Rattle.operand_texts.proofs.OperandTexts.{IsOperand}
use Rattle.operand_texts.proofs.ValueTexts.{value_text_of}
use Rattle.macro_operands.specs.Rows.{Key, position, keyword, entry, excluding, Row}
use Rattle.macro_operands.specs.Operands.{entry_for, first_fault, text_at, value_at}
use Rattle.macro_operands.specs.Said.{said_of, condition_of}
use Rattle.macro_operands.specs.declared.rows.Behind.TheVariants as behind
use Rattle.macro_operands.specs.declared.rows.Kind.TheVariants as kind
use Rattle.macro_operands.proofs.WrittenOperands.{Item, item, operand_text, Fits, lookup, stand, long}
use Rattle.macro_operands.proofs.WrittenOperands as operands
use Rattle.macro_operands.specs.Requests.{WrittenSubpools, nothing, one, listed, IsSubpools, attach, detach, run, Asked, act}
use Rattle.macro_statements.specs.Attach.{attach_row, subpools_by, attach_of}
use Rattle.macro_statements.specs.Detach.{detach_row, detach_of}
use Rattle.macro_statements.specs.Run.{run_row, run_of}
use Rattle.macro_statements.specs.Statements.{asked_of, behind_of}
use Rattle.macro_statements.specs.declared.statements.Operation.{Operation}
use Rattle.macro_statements.specs.declared.statements.Operation.TheVariants as operation
use Rattle.macro_statements.proofs.FormTexts.{name_stands, with_keyword, keyed_few}
use Rattle.macro_statements.proofs.SpelledOperands.{Good, no_fault, text, in_position, Operands, value_says}

-- a task as the only operand
task_operands : (o : Operation) (row : Row) (t : Written) (asked : Asked) → behind_of (Some o) ≡ behind.Operands
    → entry_for row.entries (position 0) ≡ Some (entry (position 0) kind.Value)
    → ((os : List (List ℕ)) → first_fault row os ≡ None → value_at (position 0) os ≡ Some t → asked_of o os ≡ Ok asked) → IsValue t → Operands asked
task_operands o row t asked has there asks h =
    let x = value_text_of t h in
    let items : List Item = item (position 0) (Some x.text) ∷ [] in
    let fit : Good row items = (
      in_position row [] 0 (entry (position 0) kind.Value) x.text there refl refl (value_says x.text t x.spells) x.neat.some x.neat.no_equals (x.neat.goes 0),
      tt,
    ) in
    record {
      operation = o;
      has = has;
      first = x.text;
      rest = [];
      some = x.neat.some;
      stands = x.neat.goes 0;
      stand = tt;
      reads = asks (operands.written items) (no_fault row items fit)
          (ap (λ t. option_and_then value_of t) (text row (position 0) items fit) ∙ x.spells);
      fits = λ r. (let few = x.neat.few in omega (arith, few));
    }

detach_is : (t : Written) (os : List (List ℕ)) → first_fault detach_row os ≡ None → value_at (position 0) os ≡ Some t → detach_of os ≡ Ok (act (detach t))
detach_is t os f e = rw (f, e) refl

run_is : (t : Written) (os : List (List ℕ)) → first_fault run_row os ≡ None → value_at (position 0) os ≡ Some t → run_of os ≡ Ok (act (run t))
run_is t os f e = rw (f, e) refl

pub detach_operands : (t : Written) → IsValue t → Operands (act (detach t))
detach_operands t h = task_operands operation.Detach detach_row t (act (detach t)) refl refl (detach_is t) h

pub run_operands : (t : Written) → IsValue t → Operands (act (run t))
run_operands t h = task_operands operation.Run run_row t (act (run t)) refl refl (run_is t) h

-- a text under one of two keywords
abbrev only : Bool → Option (List ℕ) → Option (List ℕ)
only b text = if b then text else None

-- subpools as they are written, under the keyword for a list or under that for a number
record SpelledSubpools (s : WrittenSubpools) : Type 0 where
  list : Bool
  text : Option (List ℕ)
  stands : IfSome text (λ t. (is_some (said_of kind.Value t) ≡ true) × IsOperand t)
  few : IfSome text (λ t. length t ≤ 63)
  is : subpools_by (option_and_then value_of (only (not list) text)) (option_and_then value_of (only list text)) ≡ s

subpools_spelled : (s : WrittenSubpools) → IsSubpools s → SpelledSubpools s
subpools_spelled nothing h = record { list = false; text = None; stands = tt; few = tt; is = refl }
subpools_spelled (one v) h =
    let t = value_text_of v h in
    record {
      list = false;
      text = Some t.text;
      stands = (value_says t.text v t.spells, t.neat.goes 0);
      few = t.neat.few;
      is = ap (λ x. subpools_by x None) t.spells;
    }
subpools_spelled (listed v) h =
    let t = value_text_of v h in
    record {
      list = true;
      text = Some t.text;
      stands = (value_says t.text v t.spells, t.neat.goes 0);
      few = t.neat.few;
      is = ap (λ x. subpools_by None x) t.spells;
    }

-- the operands of ATTACH
abbrev given_word : Bool → List ℕ
given_word true = codes "GSPL"
given_word false = codes "GSPV"

abbrev shared_word : Bool → List ℕ
shared_word true = codes "SHSPL"
shared_word false = codes "SHSPV"

abbrev zero_text : Bool → List ℕ
zero_text true = codes "YES"
zero_text false = codes "NO"

abbrev other_items : Bool → Bool → Option (List ℕ) → Option (List ℕ) → List Item
other_items gl sl g s = item (keyword (given_word gl)) g ∷ item (keyword (shared_word sl)) s ∷ []

abbrev attach_items : Bool → Bool → Bool → Option (List ℕ) → Option (List ℕ) → List Item
attach_items z gl sl g s = item (keyword (codes "SZERO")) (Some (zero_text z)) ∷ other_items gl sl g s

zero_is : (z : Bool) → condition_of (zero_text z) ≡ Some z
zero_is true = refl
zero_is false = refl

zero_fits : (z : Bool) → Fits attach_row [] 0 (keyword (codes "SZERO")) (Some (zero_text z))
zero_fits true =
    with_keyword attach_row [] 0 (codes "SZERO") (entry (keyword (codes "SZERO")) kind.Condition) (Some (codes "YES")) refl refl refl refl refl
    (refl, name_stands (codes "YES") refl)
zero_fits false =
    with_keyword attach_row [] 0 (codes "SZERO") (entry (keyword (codes "SZERO")) kind.Condition) (Some (codes "NO")) refl refl refl refl refl
    (refl, name_stands (codes "NO") refl)

abbrev Stands : Option (List ℕ) → Type 0
Stands t = IfSome t (λ t. (is_some (said_of kind.Value t) ≡ true) × IsOperand t)

given_fits : (l : Bool) (t : Option (List ℕ)) → Stands t → Fits attach_row (keyword (codes "SZERO") ∷ []) 1 (keyword (given_word l)) t
given_fits true t h =
    with_keyword attach_row _ 1 (codes "GSPL") (excluding (keyword (codes "GSPL")) kind.Value (keyword (codes "GSPV"))) t refl refl refl refl refl h
given_fits false t h =
    with_keyword attach_row _ 1 (codes "GSPV") (excluding (keyword (codes "GSPV")) kind.Value (keyword (codes "GSPL"))) t refl refl refl refl refl h

shared_fits : (gl l : Bool) (i : ℕ) (t : Option (List ℕ)) → Stands t
    → Fits attach_row (keyword (given_word gl) ∷ keyword (codes "SZERO") ∷ []) i (keyword (shared_word l)) t
shared_fits true true i t h =
    with_keyword attach_row _ i (codes "SHSPL") (excluding (keyword (codes "SHSPL")) kind.Value (keyword (codes "SHSPV"))) t refl refl refl refl refl h
shared_fits true false i t h =
    with_keyword attach_row _ i (codes "SHSPV") (excluding (keyword (codes "SHSPV")) kind.Value (keyword (codes "SHSPL"))) t refl refl refl refl refl h
shared_fits false true i t h =
    with_keyword attach_row _ i (codes "SHSPL") (excluding (keyword (codes "SHSPL")) kind.Value (keyword (codes "SHSPV"))) t refl refl refl refl refl h
shared_fits false false i t h =
    with_keyword attach_row _ i (codes "SHSPV") (excluding (keyword (codes "SHSPV")) kind.Value (keyword (codes "SHSPL"))) t refl refl refl refl refl h

-- what is found under each keyword
record Found (items : List Item) (z gl sl : Bool) (g s : Option (List ℕ)) : Type 0 where
  zero : lookup (keyword (codes "SZERO")) items ≡ Some (zero_text z)
  given : lookup (keyword (codes "GSPV")) items ≡ only (not gl) g
  given_list : lookup (keyword (codes "GSPL")) items ≡ only gl g
  shared : lookup (keyword (codes "SHSPV")) items ≡ only (not sl) s
  shared_list : lookup (keyword (codes "SHSPL")) items ≡ only sl s

all_found : (z gl sl : Bool) (g s : Option (List ℕ)) → Found (attach_items z gl sl g s) z gl sl g s
all_found z true true g s = record { zero = refl; given = refl; given_list = refl; shared = refl; shared_list = refl }
all_found z true false g s = record { zero = refl; given = refl; given_list = refl; shared = refl; shared_list = refl }
all_found z false true g s = record { zero = refl; given = refl; given_list = refl; shared = refl; shared_list = refl }
all_found z false false g s = record { zero = refl; given = refl; given_list = refl; shared = refl; shared_list = refl }

subpools_read : (number list : Key) (os : List (List ℕ)) (n l : Option (List ℕ)) (s : WrittenSubpools) → text_at number os ≡ n → text_at list os ≡ l
    → subpools_by (option_and_then value_of n) (option_and_then value_of l) ≡ s → subpools_by (value_at number os) (value_at list os) ≡ s
subpools_read number list os n l s h k e = rw (h, k) e

attach_is : (os : List (List ℕ)) (g s : WrittenSubpools) (z : Bool) → first_fault attach_row os ≡ None
    → subpools_by (value_at (keyword (codes "GSPV")) os) (value_at (keyword (codes "GSPL")) os) ≡ g
    → subpools_by (value_at (keyword (codes "SHSPV")) os) (value_at (keyword (codes "SHSPL")) os) ≡ s
    → unwrap_or (option_and_then condition_of (text_at (keyword (codes "SZERO")) os)) true ≡ z → attach_of os ≡ Ok (act (attach g s z))
attach_is os g s z f a b c = rw (f, a, b, c) refl

-- how long they are
zero_few : (z : Bool) → length (zero_text z) ≤ 3
zero_few true = omega arith
zero_few false = omega arith

given_few : (l : Bool) (t : Option (List ℕ)) → IfSome t (λ t. length t ≤ 63) → IfSome t (λ t. length (operand_text (keyword (given_word l)) t) ≤ 71)
given_few true t h = keyed_few (codes "GSPL") 63 71 t (omega arith) h
given_few false t h = keyed_few (codes "GSPV") 63 71 t (omega arith) h

shared_few : (l : Bool) (t : Option (List ℕ)) → IfSome t (λ t. length t ≤ 63) → IfSome t (λ t. length (operand_text (keyword (shared_word l)) t) ≤ 71)
shared_few true t h = keyed_few (codes "SHSPL") 63 71 t (omega arith) h
shared_few false t h = keyed_few (codes "SHSPV") 63 71 t (omega arith) h

pub attach_operands : (g s : WrittenSubpools) (z : Bool) → IsSubpools g → IsSubpools s → Operands (act (attach g s z))
attach_operands g s z h k =
    let x = subpools_spelled g h in
    let y = subpools_spelled s k in
    let items : List Item = attach_items z x.list y.list x.text y.text in
    let fit : Good attach_row items = (zero_fits z, (given_fits x.list x.text x.stands, (shared_fits x.list y.list _ y.text y.stands, tt))) in
    let found = all_found z x.list y.list x.text y.text in
    let all = stand attach_row [] 0 items fit in
    let first : List ℕ = operand_text (keyword (codes "SZERO")) (zero_text z) in
    let size = length-append (codes "SZERO") (61 ∷ zero_text z) in
    record {
      operation = operation.Attach;
      has = refl;
      first = first;
      rest = operands.written (other_items x.list y.list x.text y.text);
      some = omega (arith, size);
      stands = all.0;
      stand = all.1;
      reads = attach_is (operands.written items) g s z (no_fault attach_row items fit)
          (subpools_read (keyword (codes "GSPV")) (keyword (codes "GSPL")) (operands.written items) _ _ g (text attach_row (keyword (codes "GSPV")) items fit ∙ found.given)
          (text attach_row (keyword (codes "GSPL")) items fit ∙ found.given_list) x.is)
          (subpools_read (keyword (codes "SHSPV")) (keyword (codes "SHSPL")) (operands.written items) _ _ s (text attach_row (keyword (codes "SHSPV")) items fit ∙ found.shared)
          (text attach_row (keyword (codes "SHSPL")) items fit ∙ found.shared_list) y.is)
          (ap (λ t. unwrap_or (option_and_then condition_of t) true) (text attach_row (keyword (codes "SZERO")) items fit ∙ found.zero)
          ∙ ap (λ o. unwrap_or o true) (zero_is z));
      fits = λ r. (let word = zero_few z in
          let rest = long first (other_items x.list y.list x.text y.text) (given_few x.list x.text x.few, (shared_few y.list y.text y.few, tt)) in
          omega (arith, size, word, rest));
    }
