-- Operands in a statement's row, as they are written, and what an operation asks for with them or with none.
use Rattle.std.proofs.Common.{◌≡◌, ℕ, suc, ◌≤◌, ◌==◌, true, false, List, [], ◌∷◌, length, Some, None, Ok, is_some, ◌∙◌, ◌+◌}
use Rattle.std.specs.List.{AllByRecursion}
use Rattle.operand_texts.specs.Written.{Written}
use Rattle.operand_texts.specs.Values.{value_of}
use Rattle.macro_operands.specs.Rows.{Key, position, is_among, Entry, Row}
use Rattle.macro_operands.specs.Operands.{entry_for, is_excluded, first_fault, text_at}
use Rattle.macro_operands.specs.Said.{said_of, value_said}
use Rattle.macro_operands.specs.declared.rows.Behind.TheVariants as behind
use Rattle.macro_operands.specs.declared.rows.Kind.TheVariants as kind
use Rattle.macro_operands.specs.Requests.{Asked, HasRoom}
use Rattle.macro_statements.specs.Statements.{asked_of, behind_of}
use Rattle.macro_statements.specs.declared.statements.Operation.{Operation}
use Rattle.macro_statements.specs.declared.statements.Operation.TheVariants as operation
use Rattle.operand_texts.proofs.OperandTexts.{IsOperand, joined}
use Rattle.macro_operands.proofs.WrittenOperands.{placed, Item, item, Fits, AllFit, no_fault_from, lookup, finds}
use Rattle.macro_operands.proofs.WrittenOperands as operands
use Rattle.macro_operands.proofs.ReadValues.{value_kept, some_kept}

-- operands in a row, each once and of its kind
abbrev pub Good : Row → List Item → Type 0
Good row items = AllFit row [] 0 items

pub no_fault : (row : Row) (items : List Item) → Good row items → first_fault row (operands.written items) ≡ None
no_fault row items h = no_fault_from row [] [] (λ k e. e) 0 items h

pub text : (row : Row) (key : Key) (items : List Item) → Good row items → text_at key (operands.written items) ≡ lookup key items
text row key items h = finds row [] key 0 items h

pub in_position : (row : Row) (before : List Key) (i : ℕ) (e : Entry) (t : List ℕ)
    → entry_for row.entries (position i) ≡ Some e → is_excluded before e.excluded ≡ false → is_among before (position i) ≡ false
    → is_some (said_of e.kind t) ≡ true → 1 ≤ length t → AllByRecursion (λ c. (c == 61) ≡ false) t → IsOperand t
    → Fits row before i (position i) (Some t)
in_position row before i e t has free once says some no_equals stands =
    record { entry = e; has = has; free = free; once = once; says = (says, placed i t some no_equals stands) }

-- the room for operands after the operation on a first line, in bytes: less one, and in full
abbrev pub less : Operation → ℕ
less operation.Storage = 61
less operation.Getmain = 61
less operation.Freemain = 60
less operation.Cpool = 63
less operation.Attach = 62
less operation.Detach = 62
less operation.Run = 65
less operation.EndTask = 61
less operation.Poke = 64
less operation.Peek = 64
less operation.Map = 65
less operation.Back = 64
less operation.Forward = 61

abbrev pub room : Operation → ℕ
room o = suc (less o)

-- an operation and operands that ask for this
pub record Operands (asked : Asked) : Type 0 where
  pub operation : Operation
  pub has : behind_of (Some operation) ≡ behind.Operands
  pub first : List ℕ
  pub rest : List (List ℕ)
  pub some : 1 ≤ length first
  pub stands : IsOperand first
  pub stand : AllByRecursion IsOperand rest
  pub reads : asked_of operation (first ∷ rest) ≡ Ok asked
  pub fits : HasRoom asked → length (joined first rest) ≤ room operation + 504

-- an operation with only remarks that asks for this
pub record Remarks (asked : Asked) : Type 0 where
  pub operation : Operation
  pub has : behind_of (Some operation) ≡ behind.Remarks
  pub asks : asked_of operation [] ≡ Ok asked

pub value_says : (t : List ℕ) (v : Written) → value_of t ≡ Some v → is_some (said_of kind.Value t) ≡ true
value_says t v e = some_kept (value_said t) v (value_kept t ∙ e)
