-- Lengths and names as some operands have them: pairs of values, values not in register 0, and plain names.
use Rattle.std.specs.Prelude.{ℕ, Bool, true, false, ◌==◌, if◌then◌else◌, List, map, Option, Some, None}
use Rattle.std.specs.Char.{to_ascii_uppercase}
use Rattle.std.specs.Option.{option_and_then, option_map_or}
use Rattle.operand_texts.specs.Words.{is_name}
use Rattle.operand_texts.specs.Written.{Written, named, register}
use Rattle.operand_texts.specs.Values.{value_of, parts_of}

-- Both of two values.
abbrev pub both_of : Option Written → Option Written → Option (Written × Written)
both_of (Some a) (Some b) = Some (a, b)
both_of _ _ = None

-- A pair is two values in parentheses with a comma between them, a maximum and a minimum (Assembler Services Reference,
-- "GETMAIN - Allocate virtual storage", LV).
abbrev pub pair_of : List ℕ → Option (Written × Written)
pair_of text = option_and_then (λ parts. both_of (value_of parts.0) (value_of parts.1)) (parts_of text)

-- A value is the one in register 0.
abbrev pub is_register_0 : Written → Bool
is_register_0 (register n) = n == 0
is_register_0 _ = false

-- A value is the word of a name.
abbrev pub is_named : Written → Bool
is_named (named name) = true
is_named _ = false

-- A text spells the value in register 0.
abbrev pub spells_register_0 : List ℕ → Bool
spells_register_0 text = option_map_or is_register_0 (value_of text) false

-- A name, in upper case.
abbrev pub name_of : List ℕ → Option (List ℕ)
name_of text = if is_name text then Some (map to_ascii_uppercase text) else None
