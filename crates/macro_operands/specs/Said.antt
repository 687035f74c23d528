-- What an operand says, by the kind of its value.
use Rattle.std.specs.Prelude.{ℕ, Bool, true, false, ◌&&◌, ◌||◌, ◌==◌, nat_le, if◌then◌else◌, List, length}
use Rattle.std.specs.Prelude.{Option, Some, None, is_some, codes}
use Rattle.std.specs.Option.{option_map}
use Rattle.operand_texts.specs.Words.{is_name, is_word}
use Rattle.operand_texts.specs.Values.{number_of, register_of, content_of, size_of}
use Rattle.macro_operands.specs.Locations.{boundary_of, location_of, is_explicit}
use Rattle.macro_operands.specs.Lengths.{pair_of, spells_register_0}
use Rattle.macro_operands.specs.Headers.{header_of}
use Rattle.macro_operands.specs.declared.faults.FaultKind.{FaultKind}
use Rattle.macro_operands.specs.declared.faults.FaultKind.TheVariants as fault
use Rattle.macro_operands.specs.declared.rows.Kind.{Kind}
use Rattle.macro_operands.specs.declared.rows.Kind.TheVariants as kind
use Rattle.vsm_model.specs.declared.services.Boundary.{Boundary}
use Rattle.vsm_model.specs.declared.services.Location.{Location}

-- For a name, a pair, what is stored, and a header, that is the text that spells it.
pub data Said : Type 0 where
  number : ℕ → Said
  register : ℕ → Said
  name : List ℕ → Said
  pair : List ℕ → Said
  condition : Bool → Said
  content : List ℕ → Said
  size : ℕ → Said
  count : ℕ → Said
  boundary : Boundary → Said
  location : Location → Said
  header : List ℕ → Said
  anything : Said

-- A condition is YES or NO, in either case.
abbrev pub condition_of : List ℕ → Option Bool
condition_of text =
    if is_word text (codes "YES") then Some true
    else if is_word text (codes "NO") then Some false
    else None

-- A condition in a position is a word of its own, in either case.
abbrev pub condition_word_of : List ℕ → Option Bool
condition_word_of text =
    if is_word text (codes "COND") || is_word text (codes "C") then Some true
    else if is_word text (codes "UNCOND") || is_word text (codes "U") then Some false
    else None

-- A name.
abbrev pub name_said : List ℕ → Option Said
name_said text = if is_name text then Some (name text) else None

-- A number, or else a name or a register.
abbrev pub other_said : Option ℕ → List ℕ → Option Said
other_said (Some n) text = Some (number n)
other_said None text = if is_name text then Some (name text) else option_map register (register_of text)

-- A value.
abbrev pub value_said : List ℕ → Option Said
value_said text = other_said (number_of text) text

-- A register in which something may be stored goes from 1 to 12.
abbrev pub place_register_said : Option ℕ → Option Said
place_register_said None = None
place_register_said (Some n) = if nat_le 1 n && nat_le n 12 then Some (register n) else None

-- A place.
abbrev pub place_said : List ℕ → Option Said
place_said text = if is_name text then Some (name text) else place_register_said (register_of text)

-- A pair.
abbrev pub pair_said : List ℕ → Option Said
pair_said text = if is_some (pair_of text) then Some (pair text) else None

-- A value, or else a pair.
abbrev pub value_or_pair : Option Said → List ℕ → Option Said
value_or_pair None text = pair_said text
value_or_pair (Some said) text = Some said

-- A value that isn't the one in register 0.
abbrev pub unless_register_0 : Option Said → Option Said
unless_register_0 (Some (register n)) = if n == 0 then None else Some (register n)
unless_register_0 said = said

-- What a text says as a value of this kind, if it's a supported one.
abbrev pub said_of : Kind → List ℕ → Option Said
said_of kind.Value text = value_said text
said_of kind.Length text = value_or_pair (value_said text) text
said_of kind.Pair text = pair_said text
said_of kind.RegisterLength text = unless_register_0 (value_said text)
said_of kind.NamedValue text = name_said text
said_of kind.Place text = place_said text
said_of kind.Name text = name_said text
said_of kind.Condition text = option_map condition (condition_of text)
said_of kind.ConditionWord text = option_map condition (condition_word_of text)
said_of kind.Content text = if is_some (content_of text) then Some (content text) else None
said_of kind.Size text = option_map size (size_of text)
said_of kind.Count text = option_map count (number_of text)
said_of kind.Boundary text = option_map boundary (boundary_of text)
said_of kind.Location text = option_map location (location_of text)
said_of kind.Header text = if is_some (header_of text) then Some (header text) else None
said_of kind.Any text = if length text == 0 then None else Some anything
said_of kind.OtherForm text = None

-- A text is a value of this kind that isn't supported: for lengths of the form R the one in register 0, for locations
-- EXPLICIT. All values of any other kind are.
abbrev pub is_unsupported : Kind → List ℕ → Bool
is_unsupported kind.RegisterLength text = spells_register_0 text
is_unsupported kind.Location text = is_explicit text
is_unsupported _ text = false

-- What is wrong with a text that is no value of this kind: it's a bad value, whatever the kind. But if words are
-- operands by themselves, any other word is no operand of the statement, nor is what other forms have.
abbrev pub wrong_fault : Kind → FaultKind
wrong_fault kind.ConditionWord = fault.Operand
wrong_fault kind.OtherForm = fault.Operand
wrong_fault _ = fault.Value

-- What is wrong with a text that says nothing of this kind.
abbrev pub unsaid_fault : Kind → List ℕ → FaultKind
unsaid_fault k text = if is_unsupported k text then fault.LeftOut else wrong_fault k

-- What is wrong with a value of this kind.
abbrev pub value_fault : Kind → List ℕ → Option FaultKind
value_fault k text = if is_some (said_of k text) then None else Some (unsaid_fault k text)
