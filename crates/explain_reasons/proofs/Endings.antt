-- Texts of which the end is known, one after the other.
use Rattle.std.proofs.Common.{◌≡◌, ℕ, true, false, not, ◌&&◌, ◌||◌, List, [], ◌++◌, Option, Some, None, is_some, refl, sym, subst, append_assoc, true≢false}
use Rattle.std.specs.Prelude.{IfSome}
use Rattle.std.proofs.lemmas.List.{append-nil}
use Rattle.text_output.specs.Writing.{Puts}
use Rattle.text_output.specs.declared.writing.Gathered.{Gathered}
use Rattle.text_output.proofs.Gathering.{puts_both, puts_none}
use Rattle.storage_plans.specs.Reasons.{side_place, reasons_place}
use Rattle.storage_plans.specs.declared.reasons.SideReason.{SideReason}
use Rattle.vsm_model.specs.Areas.{Place, Inside, Fresh, Nowhere, is_nowhere, or_fresh, or_place}
use Rattle.explain_reasons.specs.ToldPlaces.{found_text, option_place, PutsEnding}
use Rattle.explain_text.specs.Pieces.{PutsSome}

-- some text and then another
pub some_both : (old now new : Option (List ℕ)) (a b c : Gathered) → PutsSome old now a b → PutsSome now new b c → PutsSome old new a c
some_both old now new a b c (x, h) (y, k) = (x ++ y, puts_both old now new a b c x y h k)

-- no text
pub some_none : (now : Option (List ℕ)) (g : Gathered) → PutsSome now now g g
some_none now g = ([], puts_none now g)

-- a text that is known
pub some_of : (old new : Option (List ℕ)) (a b : Gathered) (x : List ℕ) → Puts old new a b x → PutsSome old new a b
some_of old new a b x h = (x, h)

pub some_of_ending : (old new : Option (List ℕ)) (a b : Gathered) (x : List ℕ) → PutsEnding old new a b x → PutsSome old new a b
some_of_ending old new a b x (front, h) = (front ++ x, h)

-- after some text
pub ending_behind : (old now new : Option (List ℕ)) (a b c : Gathered) (x : List ℕ) → PutsSome old now a b → Puts now new b c x → PutsEnding old new a c x
ending_behind old now new a b c x (front, h) k = (front, puts_both old now new a b c front x h k)

pub ending_both : (old now new : Option (List ℕ)) (a b c : Gathered) (x : List ℕ) → PutsSome old now a b → PutsEnding now new b c x → PutsEnding old new a c x
ending_both old now new a b c x (front, h) (more, k) =
    (front ++ more, subst (Puts old new a c) (sym (append_assoc front more x)) (puts_both old now new a b c front (more ++ x) h k))

-- what ends in no text
pub ending_none : (old new : Option (List ℕ)) (a b : Gathered) → PutsSome old new a b → PutsEnding old new a b []
ending_none old new a b (x, h) = (x, subst (Puts old new a b) (sym (append-nil x)) h)

-- a side on which nothing fits inside
pub fresh_told : (old new : Option (List ℕ)) (a b : Gathered) (fresh : Option ℕ) → PutsSome old new a b →
    IfSome fresh (λ page. PutsEnding old new a b (found_text (Fresh page))) → PutsEnding old new a b (found_text (or_fresh None fresh))
fresh_told old new a b None some place = ending_none old new a b some
fresh_told old new a b (Some page) some place = place

pub side_told : (old now new : Option (List ℕ)) (a b c : Gathered) (inside fresh : Option ℕ) → is_some inside ≡ false → PutsSome old now a b → PutsSome now new b c →
    IfSome fresh (λ page. PutsEnding now new b c (found_text (Fresh page))) → PutsEnding old new a c (found_text (or_fresh inside fresh))
side_told old now new a b c None fresh e before some place =
    ending_both old now new a b c (found_text (or_fresh None fresh)) before (fresh_told now new b c fresh some place)
side_told old now new a b c (Some d) fresh e before some place = absurd (true≢false e)

-- the place of both sides
or_nowhere : (p : Place) → or_place p Nowhere ≡ p
or_nowhere (Inside d) = refl
or_nowhere (Fresh page) = refl
or_nowhere Nowhere = refl

pub whole_place : (first : SideReason) (second : Option SideReason) → reasons_place (first, second) ≡ or_place (side_place first) (option_place second)
whole_place first None = sym (or_nowhere (side_place first))
whole_place first (Some r) = refl

-- and its text, by the side that it's on
pub told_first : (first other : Place) → not (is_nowhere first) ≡ true → found_text first ≡ found_text (or_place first other)
told_first (Inside d) other e = refl
told_first (Fresh page) other e = refl
told_first Nowhere other e = absurd (true≢false (sym e))

pub told_second : (first other : Place) → not (is_nowhere first) ≡ false → found_text other ≡ found_text (or_place first other)
told_second (Inside d) other e = absurd (true≢false e)
told_second (Fresh page) other e = absurd (true≢false e)
told_second Nowhere other e = refl

-- whether there is one
pub is_found : (inside fresh : Option ℕ) → is_some inside || is_some fresh ≡ not (is_nowhere (or_fresh inside fresh))
is_found None None = refl
is_found None (Some page) = refl
is_found (Some d) fresh = refl

pub are_nowhere : (first other : Place) → not (not (is_nowhere first)) && not (not (is_nowhere other)) ≡ is_nowhere (or_place first other)
are_nowhere (Inside d) other = refl
are_nowhere (Fresh page) other = refl
are_nowhere Nowhere (Inside d) = refl
are_nowhere Nowhere (Fresh page) = refl
are_nowhere Nowhere Nowhere = refl
