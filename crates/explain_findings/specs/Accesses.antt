-- Bytes that are stored or read outside of the area or the cell in which the first of them is.
use Rattle.std.specs.Prelude.{ℕ, zero, suc, ◌+◌, ◌*◌, ◌/◌, ◌%◌, max, if◌then◌else◌, Option, Some, None, option_map}
use Rattle.explain_findings.specs.Homes.{same_home}
use Rattle.explain_findings.specs.declared.findings.Outside.{Outside}
use Rattle.explain_findings.specs.declared.homes.Home.{Home}

-- how many fullwords have one of these bytes
abbrev pub words_of : ℕ → ℕ → ℕ
words_of address count = (address % 4 + count + 3) / 4

-- the first of a number of fullwords that isn't in this area or cell; areas are made of doublewords, and cells of
-- fullwords
abbrev pub first_outside : (ℕ → Home) → Home → ℕ → ℕ → Option ℕ
first_outside homes first zero word = None
first_outside homes first (suc count) word =
    if same_home first (homes word) then first_outside homes first count (suc word) else Some word

-- The first of the bytes at an address that isn't in the area or the cell of the first one, and where it is; the first
-- one itself, if it's in none.
abbrev pub outside_at : (ℕ → Home) → ℕ → ℕ → Option Outside
outside_at homes address count =
    option_map (λ word. record { address = max address (4 * word); home = homes word })
    (first_outside homes (homes (address / 4)) (words_of address count) (address / 4))
