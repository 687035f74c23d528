-- The causes of a request, and how long an area it gets.
use Rattle.std.proofs.Common.{◌≡◌, ◌⊎◌, ◌↔◌, ℕ, suc, ◌-◌, ◌<◌, ◌≤◌, max, min, unwrap_or, Bool, true, false, not, ◌||◌, nat_le, nat_lt, ◌==◌, Option, Some, None, is_some, is_none, inl, inr, true≢false, [], ◌∷◌, ◌++◌, arith, refl, sym, ap, ◌∙◌}
use Rattle.std.proofs.lemmas.Bool.{cases_lt, cond-false, cond-true, false_from_ne_true, le-leb, leb-true}
use Rattle.std.proofs.lemmas.Bool.Decides.{nat_tests}
use Rattle.vsm_model.specs.declared.Subpool.{Subpool}
use Rattle.vsm_model.specs.declared.causes.Cause.{Cause}
use Rattle.vsm_model.specs.declared.causes.Cause.TheVariants.{UnsupportedSubpool, SubpoolNotAllowed, BadLength, TooManyNames, NoStorage}
use Rattle.vsm_model.specs.declared.limits.Residence.{Residence}
use Rattle.vsm_model.specs.declared.limits.Settings.{Settings}
use Rattle.vsm_model.specs.declared.services.Obtain.{Obtain}
use Rattle.vsm_model.specs.Search.{greatest}
use Rattle.vsm_model.specs.Regions.{regions_for, side, doublewords}
use Rattle.vsm_model.specs.State.{State}
use Rattle.vsm_model.specs.Subpools.{seen_or_own}
use Rattle.vsm_model.specs.Areas.{Place, place, is_nowhere, spacing}
use Rattle.vsm_model.specs.Services.{minimum, maximum}
use Rattle.vsm_model.specs.Causes.{Causes, first_cause, number_causes}
use Rattle.vsm_model.specs.Obtaining.{place_for, longest, obtain_causes}
use Rattle.vsm_model.proofs.Least.{greatest_by}
use Rattle.storage_plans.specs.declared.places.AreaPlace.{AreaPlace}
use Rattle.storage_plans.specs.declared.places.AreaPlace.TheVariants as areas
use Rattle.storage_plans.specs.Places.{IsUpTo, place_of}

pub skip : (b : Bool) (cause : Cause) (rows : Causes) → b ≡ false → first_cause ((b, cause) ∷ rows) ≡ first_cause rows
skip b cause rows e = cond-false b (Some cause) (first_cause rows) e

pub stop : (b : Bool) (cause : Cause) (rows : Causes) → b ≡ true → first_cause ((b, cause) ∷ rows) ≡ Some cause
stop b cause rows e = cond-true b (Some cause) (first_cause rows) e

not_131 : (n : ℕ) → n ≤ 127 → ((n == 131) || (n == 132)) ≡ false
not_131 n h = grind (arith, nat_tests)

not_above : (n : ℕ) → n ≤ 127 → nat_lt 127 n ≡ false
not_above n h = grind (arith, nat_tests)

pub number_allowed : (n : ℕ) (rows : Causes) → n ≤ 127 → first_cause (number_causes n ++ rows) ≡ first_cause rows
number_allowed n rows h =
    skip ((n == 131) || (n == 132)) UnsupportedSubpool ((nat_lt 127 n, SubpoolNotAllowed) ∷ rows) (not_131 n h)
    ∙ skip (nat_lt 127 n) SubpoolNotAllowed rows (not_above n h)

-- The greatest count that passes, if exactly those up to a bound do, and the most doesn't.
module _ (f : ℕ → Bool) (least most top : ℕ) (some : 0 < least) (ordered : least ≤ most) (up_to : IsUpTo f top) (not_most : f most ≡ false) where
  less : top < most
  less =
      elim (cases_lt top most) [
        | inl below ↦ below
        | inr from ↦ absurd (true≢false (sym (up_to most (omega (arith, some, ordered)) ∙ le-leb most top from) ∙ not_most))
      ]

  too_long : (k : ℕ) → top < k → f k ≡ false
  too_long k h = up_to k (omega (arith, h)) ∙ false_from_ne_true (nat_le k top) (λ e. let low = leb-true k top e in omega (arith, h, low))

  greatest_up_to : least ≤ top → greatest f least (suc most - least) ≡ Some top
  greatest_up_to enough =
      sym (greatest_by f least (suc most - least) (Some top) (
        up_to top (omega (arith, some, enough)) ∙ le-leb top top (omega arith),
        enough,
        omega (arith, less, enough),
        λ k above below. too_long k above,
      ))

  greatest_none : top < least → greatest f least (suc most - least) ≡ None
  greatest_none few = sym (greatest_by f least (suc most - least) None (λ k from below. too_long k (omega (arith, few, from))))

-- The most is the greatest if it passes.
greatest_is_most : (f : ℕ → Bool) (least most : ℕ) → least ≤ most → f most ≡ true → greatest f least (suc most - least) ≡ Some most
greatest_is_most f least most ordered e =
    sym (greatest_by f least (suc most - least) (Some most) (e, ordered, omega (arith, ordered), λ k above below. absurd (omega (arith, above, below, ordered))))

pub is_somewhere : (x : AreaPlace) → is_nowhere (place_of (Some x)) ≡ false
is_somewhere (areas.Inside d) = refl
is_somewhere (areas.Fresh page) = refl

is_found : (x : Option AreaPlace) → not (is_nowhere (place_of x)) ≡ is_some x
is_found None = refl
is_found (Some x) = ap not (is_somewhere x)

module _ (settings : Settings) (s : State) (o : Obtain) where
  pub place_is : (sd : Residence) (p : Subpool) (sp : ℕ) → sd ≡ side settings o.location → p ≡ seen_or_own s o.number → sp ≡ spacing o.boundary →
      (count : ℕ) → place s (regions_for settings sd) p count sp ≡ place_for settings s o count
  place_is sd p sp is_side is_subpool is_spacing count =
      ap (λ (z : Residence). place s (regions_for settings z) p count sp) is_side
      ∙ ap (λ (z : Subpool). place s (regions_for settings (side settings o.location)) z count sp) is_subpool
      ∙ ap (λ (z : ℕ). place s (regions_for settings (side settings o.location)) (seen_or_own s o.number) count z) is_spacing

  -- what is known of places on the requested side, and so on, is known of the request's
  pub up_to_for : (sd : Residence) (p : Subpool) (sp top : ℕ) → sd ≡ side settings o.location → p ≡ seen_or_own s o.number → sp ≡ spacing o.boundary →
      IsUpTo (λ n. not (is_nowhere (place s (regions_for settings sd) p n sp))) top → IsUpTo (λ n. not (is_nowhere (place_for settings s o n))) top
  up_to_for sd p sp top is_side is_subpool is_spacing h n some =
      ap (λ (z : Place). not (is_nowhere z)) (sym (place_is sd p sp is_side is_subpool is_spacing n)) ∙ h n some

  -- whether this many doublewords have a place
  pub has_place : (sd : Residence) (p : Subpool) (sp : ℕ) → sd ≡ side settings o.location → p ≡ seen_or_own s o.number → sp ≡ spacing o.boundary →
      (count : ℕ) (found : Option AreaPlace) → place_of found ≡ place s (regions_for settings sd) p count sp → not (is_nowhere (place_for settings s o count)) ≡ is_some found
  has_place sd p sp is_side is_subpool is_spacing count found e =
      ap (λ (z : Place). not (is_nowhere z)) (sym (e ∙ place_is sd p sp is_side is_subpool is_spacing count)) ∙ is_found found

  -- The length is the most requested if that has a place, and otherwise the bound of those that have one.
  module _ (most : ℕ) (is_most : most ≡ doublewords (maximum o.lengths)) (ordered : minimum o.lengths ≤ maximum o.lengths) where
    abbrev passes : ℕ → Bool
    passes n = not (is_nowhere (place_for settings s o n))

    abbrev fewest : ℕ
    fewest = doublewords (minimum o.lengths)

    in_order : fewest ≤ doublewords (maximum o.lengths)
    in_order = omega (arith, ordered)

    pub longest_is_most : not (is_nowhere (place_for settings s o most)) ≡ true → longest settings s o ≡ Some most
    longest_is_most e = greatest_is_most passes fewest (doublewords (maximum o.lengths)) in_order (ap passes (sym is_most) ∙ e) ∙ ap Some (sym is_most)

    module _ (top : ℕ) (some : 0 < minimum o.lengths) (up_to : IsUpTo (λ n. not (is_nowhere (place_for settings s o n))) top)
        (none : not (is_nowhere (place_for settings s o most)) ≡ false) where
      pub longest_is : doublewords (minimum o.lengths) ≤ top → longest settings s o ≡ Some top
      longest_is enough =
          greatest_up_to passes fewest (doublewords (maximum o.lengths)) top (omega (arith, some)) in_order up_to (ap passes (sym is_most) ∙ none) enough

      pub longest_none : top < doublewords (minimum o.lengths) → longest settings s o ≡ None
      longest_none few =
          greatest_none passes fewest (doublewords (maximum o.lengths)) top (omega (arith, some)) in_order up_to (ap passes (sym is_most) ∙ none) few

  bad : minimum o.lengths ≤ maximum o.lengths → 0 < minimum o.lengths → ((minimum o.lengths == 0) || nat_lt (maximum o.lengths) (minimum o.lengths)) ≡ false
  bad ordered some = grind (arith, nat_tests)

  rest : (names_full : Bool) → o.number ≤ 127 → 0 < minimum o.lengths → minimum o.lengths ≤ maximum o.lengths → names_full ≡ false →
      first_cause (obtain_causes settings names_full s o) ≡ first_cause ((is_none (longest settings s o), NoStorage) ∷ [])
  rest names_full allowed some ordered room =
      let last : Causes = (is_none (longest settings s o), NoStorage) ∷ [] in
      number_allowed o.number (((minimum o.lengths == 0) || nat_lt (maximum o.lengths) (minimum o.lengths), BadLength) ∷ (names_full, TooManyNames) ∷ last) allowed
      ∙ skip ((minimum o.lengths == 0) || nat_lt (maximum o.lengths) (minimum o.lengths)) BadLength ((names_full, TooManyNames) ∷ last) (bad ordered some)
      ∙ skip names_full TooManyNames last room

  pub no_cause : (names_full : Bool) → o.number ≤ 127 → 0 < minimum o.lengths → minimum o.lengths ≤ maximum o.lengths → names_full ≡ false → (count : ℕ) →
      longest settings s o ≡ Some count → first_cause (obtain_causes settings names_full s o) ≡ None
  no_cause names_full allowed some ordered room count e =
      rest names_full allowed some ordered room ∙ skip (is_none (longest settings s o)) NoStorage [] (ap is_none e)

  pub no_storage : (names_full : Bool) → o.number ≤ 127 → 0 < minimum o.lengths → minimum o.lengths ≤ maximum o.lengths → names_full ≡ false → longest settings s o ≡ None →
      first_cause (obtain_causes settings names_full s o) ≡ Some NoStorage
  no_storage names_full allowed some ordered room e =
      rest names_full allowed some ordered room ∙ stop (is_none (longest settings s o)) NoStorage [] (ap is_none e)

  from_not : (b : Bool) → not b ≡ false → b ≡ true
  from_not true e = refl
  from_not false e = absurd (true≢false e)

  -- What is given: none if not even the fewest have a place, otherwise as many as have one, at most the most.
  module _ (top : ℕ) (some : 0 < minimum o.lengths) (ordered : minimum o.lengths ≤ maximum o.lengths)
      (up_to : IsUpTo (λ n. not (is_nowhere (place_for settings s o n))) top) where
    abbrev bottom : ℕ
    bottom = doublewords (minimum o.lengths)

    abbrev ceiling : ℕ
    ceiling = doublewords (maximum o.lengths)

    rises : bottom ≤ ceiling
    rises = omega (arith, ordered)

    starts : 0 < bottom
    starts = omega (arith, some)

    passes_not : top < ceiling → not (is_nowhere (place_for settings s o ceiling)) ≡ false
    passes_not below =
        up_to ceiling (omega (arith, rises, starts))
        ∙ false_from_ne_true (nat_le ceiling top) (λ e. let low = leb-true ceiling top e in omega (arith, below, low))

    none_given : top < bottom → longest settings s o ≡ None
    none_given few = longest_none ceiling refl ordered top some up_to (passes_not (omega (arith, few, rises))) few

    some_given : bottom ≤ top → (top < ceiling) ⊎ (ceiling ≤ top) → longest settings s o ≡ Some (min top ceiling)
    some_given enough (inl below) =
        longest_is ceiling refl ordered top some up_to (passes_not below) enough ∙ ap Some (let is : top ≡ min top ceiling = omega (arith, below) in is)
    some_given enough (inr from) =
        longest_is_most ceiling refl ordered (up_to ceiling (omega (arith, rises, starts)) ∙ le-leb ceiling top from)
        ∙ ap Some (let is : ceiling ≡ min top ceiling = omega (arith, from) in is)

    pub count_given : max (min top ceiling) bottom ≡ unwrap_or (longest settings s o) bottom
    count_given =
        elim (cases_lt top bottom) [
          | inl few ↦
              (let is : max (min top ceiling) bottom ≡ bottom = omega (arith, few) in is)
              ∙ sym (ap (λ (x : Option ℕ). unwrap_or x bottom) (none_given few))
          | inr enough ↦
              (let is : max (min top ceiling) bottom ≡ min top ceiling = omega (arith, enough, rises) in is)
              ∙ sym (ap (λ (x : Option ℕ). unwrap_or x bottom) (some_given enough (cases_lt top ceiling)))
        ]

    pub none_just_where : (x : Place) → x ≡ place_for settings s o (max (min top ceiling) bottom) → (is_nowhere x ≡ true) ↔ (longest settings s o ≡ None)
    none_just_where x e =
        elim (cases_lt top bottom) [
          | inl few ↦
              let here : x ≡ place_for settings s o bottom =
              e ∙ ap (place_for settings s o) (let is : max (min top ceiling) bottom ≡ bottom = omega (arith, few) in is) in (
                λ h. none_given few,
                λ h. ap is_nowhere here ∙ from_not (is_nowhere (place_for settings s o bottom))
                    (up_to bottom starts ∙ false_from_ne_true (nat_le bottom top) (λ b. let low = leb-true bottom top b in omega (arith, few, low))),
              )
          | inr enough ↦
              let given = some_given enough (cases_lt top ceiling) in
              let here : x ≡ place_for settings s o (min top ceiling) =
              e ∙ ap (place_for settings s o) (let is : max (min top ceiling) bottom ≡ min top ceiling = omega (arith, enough, rises) in is) in
              let there : not (is_nowhere x) ≡ true =
              ap (λ (z : Place). not (is_nowhere z)) here ∙ up_to (min top ceiling) (omega (arith, starts, enough, rises))
              ∙ le-leb (min top ceiling) top (omega arith) in
              (λ h. absurd (true≢false (sym there ∙ ap not h)), λ h. absurd (let f : ◌≡◌ {A = Option ℕ} None (Some (min top ceiling)) = sym h ∙ given in cc))
        ]
