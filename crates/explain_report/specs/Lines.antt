-- The lines of a script, counted by its bytes.
use Rattle.std.specs.Prelude.{ℕ, ◌+◌, ◌==◌, Bool, false, not, if◌then◌else◌, List, [], ◌∷◌}

-- how many line feeds there are, and whether bytes follow the last
abbrev pub feeds : List ℕ → ℕ
feeds [] = 0
feeds (c ∷ cs) = (if c == 10 then 1 else 0) + feeds cs

abbrev pub is_open : Bool → List ℕ → Bool
is_open before [] = before
is_open before (c ∷ cs) = is_open (not (c == 10)) cs

-- The lines of a script: what follows the last line feed is one if there is anything.
abbrev pub line_count : List ℕ → ℕ
line_count script = feeds script + (if is_open false script then 1 else 0)

-- bytes after the last line feed are a line, if there are any
abbrev pub some_line : List ℕ → ℕ
some_line [] = 0
some_line (x ∷ xs) = 1
