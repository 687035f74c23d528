-- Where an area may begin and lie: the values of BNDRY and LOC (Assembler Services Reference, "STORAGE - Obtain and
-- release storage", BNDRY and LOC).
use Rattle.std.specs.Prelude.{ℕ, Bool, ◌||◌, if◌then◌else◌, List, Option, Some, None, codes}
use Rattle.operand_texts.specs.Words.{is_word}
use Rattle.operand_texts.specs.Values.{parts_of}
use Rattle.vsm_model.specs.declared.services.Boundary.{Boundary}
use Rattle.vsm_model.specs.declared.services.Boundary.TheVariants.{Doubleword, Page}
use Rattle.vsm_model.specs.declared.services.Location.{Location}
use Rattle.vsm_model.specs.declared.services.Location.TheVariants.{Low, Either, Caller}

-- A boundary is DBLWD or PAGE, in either case.
abbrev pub boundary_of : List ℕ → Option Boundary
boundary_of text =
    if is_word text (codes "DBLWD") then Some Doubleword
    else if is_word text (codes "PAGE") then Some Page
    else None

-- A word for a location: below the 16 MB line, on either side of it, or as the caller resides.
abbrev pub location_word_of : List ℕ → Option Location
location_word_of text =
    if is_word text (codes "BELOW") || is_word text (codes "24") then Some Low
    else if is_word text (codes "ANY") || is_word text (codes "31") then Some Either
    else if is_word text (codes "RES") then Some Caller
    else None

-- A word for where real storage may lie.
abbrev pub is_real_location : List ℕ → Bool
is_real_location text =
    is_word text (codes "BELOW") || is_word text (codes "24") || is_word text (codes "ANY")
    || is_word text (codes "31") || is_word text (codes "64")

-- Of a pair the first part says the location, and the second, where real storage may lie, has no effect.
abbrev pub location_in : Option (List ℕ × List ℕ) → List ℕ → Option Location
location_in None text = location_word_of text
location_in (Some parts) text = if is_real_location parts.1 then location_word_of parts.0 else None

-- A location is a word, or a pair that begins with one.
abbrev pub location_of : List ℕ → Option Location
location_of text = location_in (parts_of text) text

-- EXPLICIT, or the first of a pair, whatever the second is.
abbrev pub explicit_in : Option (List ℕ × List ℕ) → List ℕ → Bool
explicit_in None text = is_word text (codes "EXPLICIT")
explicit_in (Some parts) text = is_word parts.0 (codes "EXPLICIT")

-- A text asks for storage at an address of the caller's own, which isn't supported.
abbrev pub is_explicit : List ℕ → Bool
is_explicit text = explicit_in (parts_of text) text
