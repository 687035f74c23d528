-- What a map has at a place, as the map changes.
use Rattle.std.proofs.Common.{◌≡◌, ◌≤◌, ◌<◌, ◌+◌, ◌-◌, ◌*◌, ◌/◌, ◌%◌, ◌^◌, nat_le, nat_lt, ℕ, zero, suc, Bool, true, false, ◌&&◌, ◌==◌, if◌then◌else◌, Option, Some, List, [], ◌∷◌, length, get_or, slice_get, slice_set, refl, sym, ap, ◌∙◌, arith, inl, inr}
use Rattle.std.proofs.lemmas.Bool.{both_ways, cases_eq, eq-eqb, eqb-true, false_from_ne_true}
use Rattle.vsm_model.proofs.Least.{all_pass_at, all_pass_from}
use Rattle.vsm_model.specs.Search.{all_pass}
use Rattle.explain_standing.specs.Carried.{IsPutAt}
use Rattle.explain_standing.specs.NumberMaps.{in_page, on_page, same_number}
use Rattle.explain_standing.specs.declared.number_map.PageNumbers.{PageNumbers}

apart : (k n : ℕ) → (k ≡ n → ⊥) → (k == n) ≡ false
apart k n ne = false_from_ne_true (k == n) (λ e. ne (eqb-true k n e))

same_suc : (k n : ℕ) → (suc k == suc n) ≡ (k == n)
same_suc k n = elim (cases_eq k n) [
  | inl is ↦ eq-eqb (suc k) (suc n) (ap suc is) ∙ sym (eq-eqb k n is)
  | inr ne ↦ apart (suc k) (suc n) (λ e. ne (omega (arith, e))) ∙ sym (apart k n ne)
]

-- a page in which places that pass a test get a number, among pages
pub page_set : (pages : List PageNumbers) (page : ℕ) (p q : PageNumbers) (test : ℕ → Bool) (number : ℕ)
    → page < length pages → q ≡ get_or pages page q → (d : ℕ)
    → on_page p d ≡ (if test d then Some number else on_page q d) → (k : ℕ)
    → in_page (slice_get (slice_set pages page p) k) d ≡ (if (k == page) && test d then Some number else in_page (slice_get pages k) d)
page_set [] page p q test number h is d this k = absurd (omega arith)
page_set (x ∷ pages) zero p q test number h is d this zero =
    this ∙ ap (λ z. if test d then Some number else on_page z d) is
page_set (x ∷ pages) zero p q test number h is d this (suc k) =
    sym (ap (λ b. if b && test d then Some number else in_page (slice_get pages k) d) (apart (suc k) 0 (λ e. absurd (omega (arith, e)))))
page_set (x ∷ pages) (suc page) p q test number h is d this zero =
    sym (ap (λ b. if b && test d then Some number else on_page x d) (apart 0 (suc page) (λ e. absurd (omega (arith, e)))))
page_set (x ∷ pages) (suc page) p q test number h is d this (suc k) =
    page_set pages page p q test number (omega arith) is d this k
    ∙ sym (ap (λ b. if b && test d then Some number else in_page (slice_get pages k) d) (same_suc k page))

-- ---- places with one number, by pages

-- all of a page that has one number
pub one_passes : (b : Bool) (from count : ℕ) → 0 < count → b ≡ all_pass (λ d. b) from count
one_passes true from count some = sym (all_pass_from (λ d. true) from count (λ k above below. refl))
one_passes false from (suc count) some = refl
one_passes false from zero some = absurd (omega arith)

module _ (numbers : ℕ → ℕ → Option ℕ) (number : Option ℕ) where
  abbrev is_on : ℕ → ℕ → Bool
  is_on k d = same_number number (numbers k d)

  abbrev anywhere : ℕ → Bool
  anywhere d = same_number number (numbers (d / 512) (d % 512))

  on_its_page : (k d : ℕ) → 512 * k ≤ d → d < 512 * k + 512 → anywhere d ≡ is_on k (d - 512 * k)
  on_its_page k d from to =
      let page : d / 512 ≡ k = omega arith in
      let place : d % 512 ≡ d - 512 * k = omega arith in
      ap (λ n. is_on n (d % 512)) page ∙ ap (is_on k) place

  pub page_passes : (k from count : ℕ) → from + count ≤ 512 → all_pass (is_on k) from count ≡ true
      → (d : ℕ) → 512 * k + from ≤ d → d < 512 * k + (from + count) → anywhere d ≡ true
  page_passes k from count within all d above below =
      on_its_page k d (omega arith) (omega arith) ∙ all_pass_at (is_on k) from count (d - 512 * k) all (omega arith) (omega arith)

  pub page_fails : (k from count first all : ℕ) → from + count ≤ 512 → all_pass (is_on k) from count ≡ false
      → first ≤ 512 * k + from → 512 * k + (from + count) ≤ first + all → all_pass anywhere first all ≡ false
  page_fails k from count first all within fails above below =
      false_from_ne_true (all_pass anywhere first all) (λ passes.
      both_ways (all_pass (is_on k) from count) fails
      (all_pass_from (is_on k) from count (λ d low high.
      let place : 512 * k + d - 512 * k ≡ d = omega arith in
      sym (ap (is_on k) place) ∙ sym (on_its_page k (512 * k + d) (omega arith) (omega arith))
      ∙ all_pass_at anywhere first all (512 * k + d) passes (omega arith) (omega arith))))

-- ---- one place

one : (k d : ℕ) → (nat_le k d && nat_lt d (k + 1)) ≡ (d == k)
one k d = grind arith

-- A number that is put at one place, and no further.
pub put_at : (place number : ℕ) (old new : ℕ → Option ℕ)
    → ((d : ℕ) → d < 2 ^ 32 → new d ≡ (if nat_le place d && nat_lt d (place + 1) then Some number else old d)) → IsPutAt place number old new
put_at place number old new put n low = put n low ∙ ap (λ b. if b then Some number else old n) (one place n)
