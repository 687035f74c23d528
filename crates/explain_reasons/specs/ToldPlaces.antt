-- What is said of the place of an area: first, if there is none, how much room each side has; then lines of text that
-- end in the place, if there is one.
use Rattle.std.specs.Prelude.{◌≡◌, ◌↔◌, ℕ, ◌*◌, ◌-◌, ◌^◌, min, Bool, true, not, List, [], ◌∷◌, ◌++◌}
use Rattle.std.specs.Prelude.{Option, Some, None, codes, if◌then◌else◌, unwrap_or}
use Rattle.std.specs.Fmt.{decimal}
use Rattle.vsm_model.specs.declared.limits.Residence.{Residence}
use Rattle.vsm_model.specs.declared.limits.Residence.TheVariants.{Above, Below}
use Rattle.vsm_model.specs.declared.services.Boundary.{Boundary}
use Rattle.vsm_model.specs.declared.services.Boundary.TheVariants.{Doubleword, Page}
use Rattle.vsm_model.specs.declared.services.Obtain.{Obtain}
use Rattle.vsm_model.specs.Areas.{Place, Inside, Fresh, Nowhere, is_nowhere}
use Rattle.vsm_model.specs.Obtaining.{longest, place_for}
use Rattle.vsm_model.specs.Regions.{doublewords}
use Rattle.vsm_model.specs.Services.{minimum}
use Rattle.vsm_model.specs.State.{State}
use Rattle.vsm_model.specs.Texts.{hexadecimal}
use Rattle.cell_pool.specs.declared.settings.CellSettings.{CellSettings}
use Rattle.storage_plans.specs.Reasons.{side_place}
use Rattle.storage_plans.specs.declared.reasons.SideReason.{SideReason}
use Rattle.storage_core.specs.Meaning.{settings_of, state_of}
use Rattle.storage_core.specs.declared.storage.Storage.{Storage}
use Rattle.text_output.specs.Writing.{Puts}
use Rattle.text_output.specs.declared.writing.Gathered.{Gathered}
use Rattle.explain_text.specs.Pieces.{line}
use Rattle.explain_reasons.specs.Places.{asks_for_place, sides_place}
use Rattle.explain_reasons.specs.SightTexts.{seen_text}
use Rattle.explain_reasons.specs.Texts.{further_text, no_cell_text}
use Rattle.explain_reasons.specs.declared.places.LengthSides.{LengthSides}

-- an address in eight digits, up to the last of a fullword
abbrev pub address_text : ℕ → List ℕ
address_text address = hexadecimal 8 (min address (2 ^ 32 - 1))

-- the text of a place, if there is one
abbrev pub found_text : Place → List ℕ
found_text (Inside d) = codes "fits: the lowest place is " ++ address_text (8 * d) ++ codes "\n"
found_text (Fresh page) =
    codes "the lowest run of enough unassigned pages begins at " ++ address_text (4096 * page) ++ codes "\n"
found_text Nowhere = []

abbrev pub found_in : Option LengthSides → List ℕ
found_in None = []
found_in (Some sides) = found_text (sides_place sides)

-- the place on a side, if that is searched
abbrev pub option_place : Option SideReason → Place
option_place None = Nowhere
option_place (Some r) = side_place r

-- ---- no room

abbrev pub side_word : Residence → List ℕ
side_word Below = codes "below: "
side_word Above = codes "above: "

abbrev pub largest_word : Boundary → List ℕ
largest_word Doubleword = codes "the largest free area has "
largest_word Page = codes "from the first byte of a page on, the largest free area has "

-- how much room a side has, with the bytes of its largest free area
abbrev pub no_room_on : Boundary → SideReason → List ℕ
no_room_on boundary r =
    line
    (codes "no room " ∷ side_word r.side ∷ largest_word boundary ∷ decimal (8 * r.longest_inside)
    ∷ codes " bytes, and the longest run of unassigned pages has " ∷ decimal r.longest_run ∷ [])

abbrev pub no_second_room : Boundary → Option SideReason → List ℕ
no_second_room boundary None = []
no_second_room boundary (Some r) = no_room_on boundary r

-- a line for each side
abbrev pub no_room_text : LengthSides → List ℕ
no_room_text sides = no_room_on sides.boundary sides.first ++ no_second_room sides.boundary sides.second

-- if none has a place
abbrev pub room_text : Option LengthSides → List ℕ
room_text None = []
room_text (Some sides) = if is_nowhere (sides_place sides) then no_room_text sides else []

-- ---- the text on an area

-- a cell pool for which it's a further extent has no free cell, and how many bytes the extent has
abbrev pub further_extent : Option CellSettings → List ℕ
further_extent None = []
further_extent (Some built) = no_cell_text ++ further_text built.secondary built.size

-- What decides comes first, if that is lack of room; then of a further extent what was said; then which subpool the
-- current task sees at the number, and what the sides have.
abbrev pub area_text : State → ℕ → Option LengthSides → Option CellSettings → List ℕ → List ℕ
area_text s number sides extent searched =
    room_text sides ++ (further_extent extent ++ (seen_text s number [] ++ searched))

-- ---- what is put

-- Some text that ends in this one follows all text before it.
abbrev pub PutsEnding : Option (List ℕ) → Option (List ℕ) → Gathered → Gathered → List ℕ → Type 0
PutsEnding old new before after last = (front : List ℕ) × Puts old new before after (front ++ last)

-- What is put of a side ends in the place that it has, if it has one; and whether it has one is answered.
pub record TellsSide (old new : Option (List ℕ)) (before after : Gathered) (its : Place) (answer : Bool) : Type 0 where
  pub place : PutsEnding old new before after (found_text its)
  pub found : answer ≡ not (is_nowhere its)

-- What is put of an area that is looked for, or isn't, is such a text.
abbrev pub TellsArea : Storage → ℕ → Option CellSettings → Option (List ℕ) → Option (List ℕ) → Gathered → Gathered
    → Type 0
TellsArea s number extent old new before after =
    (sides : Option LengthSides) × (searched : List ℕ)
    × Puts old new before after (area_text (state_of s) number sides extent searched)

-- If a request gets to look for a place, what is put ends in the place that the plain machine gives to the number of
-- doublewords that it gives the request: the greatest number that has a place, or its fewest if none has; or it begins
-- with that there is no room, exactly if the request has no such number.
abbrev pub TellsPlace : Storage → Obtain → Option CellSettings → Option (List ℕ) → Option (List ℕ) → Gathered
    → Gathered → Type 0
TellsPlace s o extent old new before after =
    asks_for_place o ≡ true
    → (sides : LengthSides) × (searched : List ℕ)
    × (sides_place sides ≡ place_for (settings_of s) (state_of s) o sides.count)
    × (sides.count ≡ unwrap_or (longest (settings_of s) (state_of s) o) (doublewords (minimum o.lengths)))
    × ((is_nowhere (sides_place sides) ≡ true) ↔ (longest (settings_of s) (state_of s) o ≡ None))
    × Puts old new before after
    (area_text (state_of s) o.number (Some sides) extent searched ++ found_text (sides_place sides))
