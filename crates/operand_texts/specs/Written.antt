-- Values, places and contents, as operands write them.
use Rattle.std.specs.Prelude.{◌≡◌, ℕ, ◌^◌, ◌<◌, ◌≤◌, Bool, true, ◌&&◌, List, length, ⊤}
use Rattle.std.specs.List.{AllByRecursion}
use Rattle.operand_texts.specs.Words.{is_name, is_word}
use Rattle.operand_texts.specs.declared.values.Value.{Value}
use Rattle.operand_texts.specs.declared.values.Value.TheVariants as code_value
use Rattle.operand_texts.specs.declared.values.Place.{Place}
use Rattle.operand_texts.specs.declared.values.Place.TheVariants as code_place
use Rattle.operand_texts.specs.declared.contents.Content.{Content}
use Rattle.operand_texts.specs.declared.contents.Content.TheVariants as code_content

-- A value as a statement spells it: a number, a name in upper case, or a register's number.
pub data Written : Type 0 where
  number : ℕ → Written
  named : List ℕ → Written
  register : ℕ → Written

-- Where an address is stored in addition to register 1: in the word of a name, or in a register.
pub data Target : Type 0 where
  in_name : List ℕ → Target
  in_register : ℕ → Target

-- What POKE stores: these bytes, or a value as a fullword, its most significant byte first.
pub data Stored : Type 0 where
  spelled : List ℕ → Stored
  word : Written → Stored

-- What the code's value says.
abbrev pub written_in : Value → Written
written_in (code_value.Number n) = number n
written_in (code_value.Named name) = named name.bytes
written_in (code_value.Register n) = register n

-- What the code's place says.
abbrev pub target_in : Place → Target
target_in (code_place.Named name) = in_name name.bytes
target_in (code_place.Register n) = in_register n

-- What the code's content says.
abbrev pub stored_in : Content → Stored
stored_in (code_content.Spelled bytes) = spelled bytes.items
stored_in (code_content.Word value) = word (written_in value)

-- A name as values and places have it: in upper case.
abbrev pub is_upper_name : List ℕ → Bool
is_upper_name name = is_name name && is_word name name

-- A value that can be written: a number of 32 bits, a name in upper case, or one of sixteen registers.
abbrev pub IsValue : Written → Type 0
IsValue (number n) = n < 2 ^ 32
IsValue (named name) = is_upper_name name ≡ true
IsValue (register n) = n < 16

-- A place that can be written: a name in upper case, or a register from 1 to 12.
abbrev pub IsTarget : Target → Type 0
IsTarget (in_name name) = is_upper_name name ≡ true
IsTarget (in_register n) = (1 ≤ n) × (n ≤ 12)

-- Bytes that can be written: 1 to 256 of them, or a value that can be written.
abbrev pub IsStored : Stored → Type 0
IsStored (spelled bytes) = (1 ≤ length bytes) × (length bytes ≤ 256)
IsStored (word value) = IsValue value

-- The elements of what is stored are bytes.
abbrev pub HasBytes : Stored → Type 0
HasBytes (spelled bytes) = AllByRecursion (λ b. b < 2 ^ 8) bytes
HasBytes (word value) = ⊤
