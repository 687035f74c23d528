-- The areas of a subpool: the longest runs of its doublewords that the statement of one line took.
use Rattle.std.specs.Prelude.{ℕ, zero, suc, ◌+◌, ◌*◌, ◌^◌, min, Bool, ◌&&◌, ◌==◌, if◌then◌else◌, Option, Some, None}
use Rattle.std.specs.Prelude.{List, [], ◌∷◌, reverse}
use Rattle.vsm_model.specs.declared.Subpool.{Subpool}
use Rattle.explain_areas.specs.declared.parts.LineArea.{LineArea}

-- the address of an area
abbrev pub shown_address : LineArea → ℕ
shown_address a = min (8 * a.start) 4294967295

-- an area begins at the end of another one of its subpool and line
abbrev pub goes_on : LineArea → LineArea → Bool
goes_on last next =
    (last.subpool.number == next.subpool.number) && (last.subpool.owner == next.subpool.owner)
    && (last.line == next.line) && (last.start + last.count == next.start)

-- another area after others, which are listed backwards: it's joined to the last if it goes on there
abbrev pub joined : LineArea → List LineArea → List LineArea
joined next [] = next ∷ []
joined next (last ∷ others) =
    if goes_on last next then record last { count = last.count + next.count } ∷ others else next ∷ last ∷ others

-- another doubleword, if the statement of a line took it
abbrev pub with_doubleword : Subpool → ℕ → Option ℕ → List LineArea → List LineArea
with_doubleword p d None others = others
with_doubleword p d (Some line) others =
    joined (record { subpool = p; start = d; count = 1; line = line }) others

-- The areas of a subpool's doublewords below a number, of each of which it's said whether the statement of a line took
-- it, and of which; after other areas. They are listed backwards.
abbrev pub areas_to : Subpool → (ℕ → Option ℕ) → ℕ → List LineArea → List LineArea
areas_to p line_of zero others = others
areas_to p line_of (suc d) others = with_doubleword p d (line_of d) (areas_to p line_of d others)

-- All areas of a subpool, ascending. Closed, since they may be many; a doubleword is below 2^29.
unfoldable pub areas_of : Subpool → (ℕ → Option ℕ) → List LineArea
areas_of p line_of = reverse (areas_to p line_of (2 ^ 29) [])
