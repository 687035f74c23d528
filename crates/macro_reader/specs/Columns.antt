-- The columns of a line (High Level Assembler Language Reference, "Assembler language coding conventions").
use Rattle.std.specs.Prelude.{ℕ, Bool, not, ◌==◌, ◌||◌, List, ◌++◌, take, replicate, slice_index, slice_index_or}
use Rattle.std.specs.List.{list_all}

-- A line is a list of bytes.
abbrev pub Line : Type 0
Line = List ℕ

-- Columns 1 to 71 of a line, which a shorter line fills with blanks.
abbrev pub used : Line → List ℕ
used line = take 71 (line ++ replicate 71 32)

-- A line says that the next one continues it if its column 72 isn't blank (High Level Assembler Language Reference,
-- "Continuation lines").
abbrev pub is_continued : Line → Bool
is_continued line = not (slice_index_or line 71 32 == 32)

-- Columns that hold nothing but blanks, which are only X'20'.
abbrev pub is_blank : List ℕ → Bool
is_blank card = list_all (λ c. c == 32) card

-- A comment has an asterisk in column 1 (there, "Comment statement format").
abbrev pub is_comment : List ℕ → Bool
is_comment card = slice_index card 0 == 42

-- A comment or an empty line is no statement; its column 72 isn't read, a rule of this reader's own (there,
-- "Blank lines").
abbrev pub is_skipped : Line → Bool
is_skipped line = is_blank (used line) || is_comment (used line)
