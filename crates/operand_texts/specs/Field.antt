-- The operand field of a statement: apostrophes and parentheses in it, where it ends, and its operands.
use Rattle.std.specs.Prelude.{ℕ, ◌+◌, ◌-◌, Bool, false, not, ◌&&◌, ◌||◌, ◌==◌, if◌then◌else◌, List, [], ◌∷◌, length}
use Rattle.std.specs.Prelude.{Option, None, Some}
use Rattle.operand_texts.specs.declared.nesting.Nesting.{Nesting}

-- The start of a field is outside apostrophes and parentheses.
abbrev pub outside : Nesting
outside = record { quoted = false; depth = 0; overclosed = false }

-- A byte of the field opens or closes an apostrophe, or outside apostrophes a parenthesis (High Level Assembler
-- Language Reference, "Operand entries"). A parenthesis that isn't open is closed too often.
abbrev pub past : Nesting → ℕ → Nesting
past n c =
    if c == 39 then record { quoted = not n.quoted; depth = n.depth; overclosed = n.overclosed }
    else if n.quoted then n
    else if c == 40 then record { quoted = n.quoted; depth = n.depth + 1; overclosed = n.overclosed }
    else if c == 41 then
    record { quoted = n.quoted; depth = n.depth - 1; overclosed = n.overclosed || (n.depth == 0) }
    else n

-- Where the byte after a text is.
abbrev pub nesting_after : Nesting → List ℕ → Nesting
nesting_after n [] = n
nesting_after n (c ∷ cs) = nesting_after (past n c) cs

-- The field goes up to the first blank outside apostrophes; what follows is remarks (High Level Assembler Language
-- Reference, "Remarks entries").
abbrev pub field_len : Nesting → List ℕ → ℕ
field_len n [] = 0
field_len n (c ∷ cs) = if c == 32 && not n.quoted then 0 else 1 + field_len (past n c) cs

-- Before this byte each apostrophe and each parenthesis is closed, and none was closed too often,
abbrev pub is_closed : Nesting → Bool
is_closed n = not n.quoted && (n.depth == 0) && not n.overclosed

-- and so it is after a text.
abbrev pub is_balanced : Nesting → List ℕ → Bool
is_balanced n text = is_closed (nesting_after n text)

-- A comma outside apostrophes and parentheses separates two operands.
abbrev pub separates : Nesting → ℕ → Bool
separates n c = c == 44 && not n.quoted && (n.depth == 0)

-- The first operand goes up to the first comma that separates.
abbrev pub operand_len : Nesting → List ℕ → ℕ
operand_len n [] = 0
operand_len n (c ∷ cs) = if separates n c then 0 else 1 + operand_len (past n c) cs

-- A byte is put before the first operand.
abbrev pub onto : ℕ → List (List ℕ) → List (List ℕ)
onto c [] = (c ∷ []) ∷ []
onto c (o ∷ os) = (c ∷ o) ∷ os

-- A text is split into operands at the commas that separate.
abbrev pub operands_from : Nesting → List ℕ → List (List ℕ)
operands_from n [] = [] ∷ []
operands_from n (c ∷ cs) = if separates n c then [] ∷ operands_from outside cs else onto c (operands_from (past n c) cs)

-- The operands of a field; an empty field has none.
abbrev pub operands : List ℕ → List (List ℕ)
operands text = if length text == 0 then [] else operands_from outside text

-- The operands after one that is followed by a comma and this text, or by nothing.
abbrev pub operands_behind : Option (List ℕ) → List (List ℕ)
operands_behind None = []
operands_behind (Some text) = operands_from outside text
