-- Lines of a script's bytes by their numbers.
use Rattle.std.specs.Prelude.{◌≡◌, ℕ, zero, suc, ◌==◌, if◌then◌else◌, List, [], ◌∷◌, drop}

-- what follows the first line feed
abbrev pub after_feed : List ℕ → List ℕ
after_feed [] = []
after_feed (c ∷ cs) = if c == 10 then cs else after_feed cs

-- what follows that many line feeds
abbrev pub lines_on : ℕ → List ℕ → List ℕ
lines_on zero bytes = bytes
lines_on (suc n) bytes = lines_on n (after_feed bytes)

-- the script from the line of this number on, counted from 1; nothing if no such line exists
abbrev pub from_line : List ℕ → ℕ → List ℕ
from_line script zero = []
from_line script (suc n) = lines_on n script

-- Lines begin at these places of the script, in turn: `begins` is what follows the first of them, and `left` what
-- follows the last line.
abbrev pub LinesBegin : List ℕ → List ℕ → List ℕ → List ℕ → Type 0
LinesBegin script begins [] left = begins ≡ left
LinesBegin script begins (at ∷ places) left =
    (drop at script ≡ begins) × LinesBegin script (after_feed begins) places left
