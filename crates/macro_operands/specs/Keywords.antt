-- The keywords of operands.
use Rattle.std.specs.Prelude.{ℕ, Bool, ◌&&◌, ◌==◌, nat_lt, if◌then◌else◌, List, length, map, Option, Some, None}
use Rattle.std.specs.List.{position_or_len, before_first, after_first}
use Rattle.std.specs.Char.{to_ascii_uppercase}
use Rattle.operand_texts.specs.Words.{is_name}
use Rattle.macro_operands.specs.Rows.{Key, position, keyword}

-- An operand has an equals sign.
abbrev pub has_equals : List ℕ → Bool
has_equals text = nat_lt (position_or_len (λ c. c == 61) text) (length text)

-- What precedes the first equals sign.
abbrev pub key_text : List ℕ → List ℕ
key_text text = before_first (λ c. c == 61) text

-- What follows the first equals sign.
abbrev pub value_text : List ℕ → List ℕ
value_text text = after_first (λ c. c == 61) text

-- A keyword operand is a name followed by an equals sign, whether any statement has that keyword or not (High Level
-- Assembler Language Reference, "Keyword operands").
abbrev pub is_keyword_operand : List ℕ → Bool
is_keyword_operand text = has_equals text && is_name (key_text text)

-- How long the keyword of a keyword operand is.
abbrev pub keyword_len : List ℕ → Option ℕ
keyword_len text = if is_keyword_operand text then Some (position_or_len (λ c. c == 61) text) else None

-- An operand's key, and the text of its value.
pub record Operand : Type 0 where
  pub key : Key
  pub text : List ℕ

-- The operand that a text at this place among the operands is: one with a keyword, which counts in upper case, or one
-- in its position. An empty text is none.
abbrev pub operand_at : ℕ → List ℕ → Option Operand
operand_at place text =
    if is_keyword_operand text then
    Some (record { key = keyword (map to_ascii_uppercase (key_text text)); text = value_text text })
    else if length text == 0 then None
    else Some (record { key = position place; text = text })
