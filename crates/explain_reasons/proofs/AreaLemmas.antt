-- The text on an area: how much room there is, if none has a place, and what the sides have.
use Rattle.std.proofs.Common.{◌≡◌, ◌↔◌, ℕ, Bool, true, false, List, [], ◌++◌, Option, Some, None, is_some, sym, ap, subst, ◌∙◌, append_assoc, inr, true≢false}
use Rattle.std.specs.Prelude.{IfSome, unwrap_or}
use Rattle.std.proofs.lemmas.Bool.{cond-true}
use Rattle.std.proofs.lemmas.List.{append-nil}
use Rattle.cell_pool.specs.declared.settings.CellSettings.{CellSettings}
use Rattle.vsm_model.specs.declared.causes.Cause.TheVariants.{NoStorage}
use Rattle.vsm_model.specs.declared.services.Obtain.{Obtain}
use Rattle.vsm_model.specs.Areas.{Place, Inside, Fresh, Nowhere, is_nowhere}
use Rattle.vsm_model.specs.Causes.{first_cause}
use Rattle.vsm_model.specs.Obtaining.{longest, obtain_causes, place_for}
use Rattle.vsm_model.specs.Regions.{doublewords}
use Rattle.vsm_model.specs.Services.{minimum}
use Rattle.text_output.specs.Writing.{Puts}
use Rattle.text_output.specs.declared.writing.Gathered.{Gathered}
use Rattle.text_output.proofs.Gathering.{puts_both}
use Rattle.storage_core.specs.Meaning.{settings_of, state_of}
use Rattle.storage_core.specs.declared.storage.Storage.{Storage}
use Rattle.explain_reasons.specs.Places.{asks_for_place, sides_place}
use Rattle.explain_reasons.specs.SightTexts.{seen_text}
use Rattle.explain_reasons.specs.Told.{IsNoRoom, PutsOne}
use Rattle.explain_reasons.specs.ToldPlaces.{PutsEnding, TellsArea, TellsPlace, area_text, found_in, found_text, further_extent, no_room_text, room_text}
use Rattle.explain_text.specs.Pieces.{PutsSome}
use Rattle.explain_reasons.specs.declared.places.LengthSides.{LengthSides}
use Rattle.explain_reasons.proofs.NoPlace.{no_place_is_want_of_storage}

pub some_of_area : (s : Storage) (number : ℕ) (extent : Option CellSettings) (old new : Option (List ℕ)) (a b : Gathered) → TellsArea s number extent old new a b → PutsSome old new a b
some_of_area s number extent old new a b (sides, searched, h) = (area_text (state_of s) number sides extent searched, h)

pub some_of_one : (is : List ℕ → Type 0) (old new : Option (List ℕ)) (a b : Gathered) → PutsOne is old new a b → PutsSome old new a b
some_of_one is old new a b (text, says, h) = (text, h)

module _ (s : Storage) (o : Obtain) (extent : Option CellSettings) where
  abbrev seen : List ℕ
  seen = seen_text (state_of s) o.number []

  -- the texts in their order
  pub area_put : (sides : Option LengthSides) (old one two three new : Option (List ℕ)) (a b c d e : Gathered) → Puts old one a b (room_text sides)
      → Puts one two b c (further_extent extent) → Puts two three c d seen → PutsEnding three new d e (found_in sides)
      → (searched : List ℕ) × Puts old new a e (area_text (state_of s) o.number sides extent (searched ++ found_in sides))
  area_put sides old one two three new a b c d e room further sight (searched, ending) =
      let last = searched ++ found_in sides in (
        searched,
        puts_both old one new a b e (room_text sides) (further_extent extent ++ (seen ++ last)) room
            (puts_both one two new b c e (further_extent extent) (seen ++ last) further (puts_both two three new c d e seen last sight ending)),
      )

  pub area_told : (sides : Option LengthSides) (old new : Option (List ℕ)) (a b : Gathered)
      → (searched : List ℕ) × Puts old new a b (area_text (state_of s) o.number sides extent (searched ++ found_in sides)) → TellsArea s o.number extent old new a b
  area_told sides old new a b (searched, h) = (sides, searched ++ found_in sides, h)

  -- the place at its end
  ends : (sides : Option LengthSides) (searched last : List ℕ)
      → area_text (state_of s) o.number sides extent searched ++ last ≡ area_text (state_of s) o.number sides extent (searched ++ last)
  ends sides searched last =
      let room = room_text sides in
      let further = further_extent extent in
      append_assoc room (further ++ (seen ++ searched)) last
      ∙ ap (λ (z : List ℕ). room ++ z)
      (append_assoc further (seen ++ searched) last ∙ ap (λ (z : List ℕ). further ++ z) (append_assoc seen searched last))

  pub place_told : (sides : Option LengthSides) (old new : Option (List ℕ)) (a b : Gathered) → is_some sides ≡ asks_for_place o
      → IfSome sides (λ r. r.count ≡ unwrap_or (longest (settings_of s) (state_of s) o) (doublewords (minimum o.lengths)))
      → IfSome sides (λ r. sides_place r ≡ place_for (settings_of s) (state_of s) o r.count)
      → IfSome sides (λ r. (is_nowhere (sides_place r) ≡ true) ↔ (longest (settings_of s) (state_of s) o ≡ None))
      → (searched : List ℕ) × Puts old new a b (area_text (state_of s) o.number sides extent (searched ++ found_in sides)) → TellsPlace s o extent old new a b
  place_told None old new a b asked count place none told asks = absurd (true≢false (sym asks ∙ sym asked))
  place_told (Some r) old new a b asked count place none (searched, h) asks =
      (r, searched, place, count, none, subst (Puts old new a b) (sym (ends (Some r) searched (found_text (sides_place r)))) h)

-- that there is no room, if lack of storage is the first cause
nothing_found : (p : Place) → is_nowhere p ≡ true → found_text p ≡ []
nothing_found (Inside d) e = absurd (let f : false ≡ true = e in cc)
nothing_found (Fresh page) e = absurd (let f : false ≡ true = e in cc)
nothing_found Nowhere e = λ i. []

from_iff : {A B : Type 0} → (A ↔ B) → B → A
from_iff (to, from) b = from b

pub no_room_put : (s : Storage) (o : Obtain) (full : Bool) (old new : Option (List ℕ)) (a b : Gathered) → first_cause (obtain_causes (settings_of s) full (state_of s) o) ≡ Some NoStorage
    → TellsPlace s o None old new a b → PutsOne (IsNoRoom (state_of s) o.number) old new a b
no_room_put s o full old new a b first told =
    let (asks, want) = no_place_is_want_of_storage (settings_of s) full (state_of s) o (inr first) in
    let (r, searched, place, count, none, h) = told asks in
    let nowhere = from_iff none (from_iff want first) in
    let rest = seen_text (state_of s) o.number [] ++ searched in
    let room = no_room_text r in
    let last = found_text (sides_place r) in
    let same : (room_text (Some r) ++ rest) ++ last ≡ room ++ rest =
    ap (λ (z : List ℕ). (z ++ rest) ++ last) (cond-true (is_nowhere (sides_place r)) room [] nowhere)
    ∙ ap (λ (z : List ℕ). (room ++ rest) ++ z) (nothing_found (sides_place r) nowhere) ∙ append-nil (room ++ rest) in
    (room ++ rest, (r, searched, λ i. room ++ rest), subst (Puts old new a b) same h)
