-- The texts of pieces, and of lines.
use Rattle.std.specs.Prelude.{ℕ, ◌==◌, List, [], ◌∷◌, ◌++◌, Option, codes, if◌then◌else◌}
use Rattle.std.specs.List.{flat_map}
use Rattle.std.specs.Fmt.{decimal}
use Rattle.vsm_model.specs.Texts.{hexadecimal}
use Rattle.text_output.specs.Writing.{Puts}
use Rattle.text_output.specs.declared.writing.Gathered.{Gathered}
use Rattle.explain_text.specs.declared.pieces.Piece.{Piece}
use Rattle.explain_text.specs.declared.pieces.Piece.TheVariants.{Text, Number, Long, Address, Digits}

abbrev pub piece_text : Piece → List ℕ
piece_text (Text text) = text.now
piece_text (Number n) = decimal n
piece_text (Long n) = decimal n
piece_text (Address address) = hexadecimal 8 address
piece_text (Digits n) = hexadecimal 1 n

-- the texts of pieces, one after the other
abbrev pub pieces_text : List Piece → List ℕ
pieces_text pieces = flat_map piece_text pieces

-- a line of them, after two blanks
abbrev pub line_text : List Piece → List ℕ
line_text pieces = codes "  " ++ (pieces_text pieces ++ codes "\n")

-- texts, one after the other
abbrev pub joined : List (List ℕ) → List ℕ
joined [] = []
joined (text ∷ texts) = text ++ joined texts

-- a line of texts, after two blanks
abbrev pub line : List (List ℕ) → List ℕ
line texts = codes "  " ++ (joined texts ++ codes "\n")

-- the word for a number of bytes
abbrev pub bytes_word : ℕ → List ℕ
bytes_word count = if count == 1 then codes " byte" else codes " bytes"

-- Some text follows all text before it.
abbrev pub PutsSome : Option (List ℕ) → Option (List ℕ) → Gathered → Gathered → Type 0
PutsSome old new before after = (text : List ℕ) × Puts old new before after text
