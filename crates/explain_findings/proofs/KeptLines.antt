-- Which line took a doubleword, as it's kept, and where fullwords are at home by that.
use Rattle.std.proofs.Common.{◌≡◌, ℕ, zero, suc, ◌+◌, ◌*◌, ◌/◌, ◌<◌, ◌≤◌, Bool, true, false, true≢false, not, ◌&&◌, if◌then◌else◌, Option, Some, None, refl, sym, ap, ◌∙◌, arith}
use Rattle.std.specs.Prelude.{unwrap_or}
use Rattle.vsm_model.specs.declared.Subpool.{Subpool}
use Rattle.vsm_model.specs.Areas.{is_free}
use Rattle.vsm_model.specs.Regions.{among}
use Rattle.vsm_model.specs.Search.{all_pass, holds}
use Rattle.vsm_model.specs.State.{State}
use Rattle.vsm_model.specs.Subpools.{same_subpool}
use Rattle.service_laws.proofs.Cases.{belongs_from, in_among}
use Rattle.explain_who.specs.Taken.{cell_at, taken_by}
use Rattle.explain_findings.specs.Homes.{home_at, home_by, home_on}
use Rattle.explain_standing.specs.NumberMaps.{is_of_one, same_number}
use Rattle.explain_findings.specs.Parts.{goes_on, part_at}
use Rattle.explain_findings.specs.declared.findings.Part.TheVariants as part
use Rattle.explain_findings.specs.declared.homes.Home.{Home}
use Rattle.explain_findings.specs.declared.homes.Home.TheVariants as home

is_taken : (b : Bool) → (true && not b) ≡ false → b ≡ true
is_taken true e = refl
is_taken false e = absurd (true≢false e)

all_same : (f g : ℕ → Bool) (first count : ℕ) → ((d : ℕ) → first ≤ d → d < first + count → f d ≡ g d) → all_pass f first count ≡ all_pass g first count
all_same f g first zero same = refl
all_same f g first (suc count) same =
    λ i. same first (omega arith) (omega arith) i && all_same f g (suc first) count (λ d from to. same d (omega (arith, from)) (omega (arith, to))) i

-- ---- lines that agree where storage is taken

module _ (s : State) (f g : ℕ → Option ℕ) (same : (d : ℕ) → s.taken d ≡ true → f d ≡ g d) where
  taken_there : (p : Subpool) (word : ℕ) → s.pages (word / 1024) ≡ Some p → is_free s p (word / 2) ≡ false → s.taken (word / 2) ≡ true
  taken_there p word at free =
      let page : (word / 2) / 512 ≡ word / 1024 = omega arith in
      let its : holds (same_subpool p) (s.pages ((word / 2) / 512)) ≡ true = belongs_from p (s.pages ((word / 2) / 512)) (ap s.pages page ∙ at) in
      is_taken (s.taken (word / 2)) (ap (λ b. b && not (s.taken (word / 2))) (sym its) ∙ free)

  abbrev home_in : (ℕ → Option ℕ) → Subpool → ℕ → Bool → Home
  home_in lines p word free =
      if free then home.Free p else home_by p (lines (word / 2)) (cell_at (4 * word) s.cell_pools) (taken_by p (4 * word) s.cell_pools)

  in_page : (p : Subpool) (word : ℕ) → s.pages (word / 1024) ≡ Some p → (free : Bool) → is_free s p (word / 2) ≡ free → home_in f p word free ≡ home_in g p word free
  in_page p word at true is = refl
  in_page p word at false is =
      ap (λ line. home_by p line (cell_at (4 * word) s.cell_pools) (taken_by p (4 * word) s.cell_pools)) (same (word / 2) (taken_there p word at is))

  on_page : (word : ℕ) (o : Option Subpool) → s.pages (word / 1024) ≡ o → home_on s f word o ≡ home_on s g word o
  on_page word None at = refl
  on_page word (Some p) at = in_page p word at (is_free s p (word / 2)) refl

  -- Fullwords are at home in the same places,
  pub same_homes : home_at s f ≡ home_at s g
  same_homes = λ i word. on_page word (s.pages (word / 1024)) refl i

  -- and a release of taken doublewords is of the same part.
  module _ (first count : ℕ) (some : 0 < count) (taken : (d : ℕ) → among first count d ≡ true → s.taken d ≡ true) where
    at_first : f first ≡ g first
    at_first = same first (taken first (in_among first count first (omega arith) (omega (arith, some))))

    of_one : is_of_one f first count ≡ is_of_one g first count
    of_one =
        all_same (λ d. same_number (f first) (f d)) (λ d. same_number (g first) (g d)) first count
        (λ d from to i. same_number (at_first i) (same d (taken d (in_among first count d from to)) i))

    pub same_part : part_at (home_at s f) f first count ≡ part_at (home_at s g) g first count
    same_part = λ i. if not (of_one i) then Some part.OfSeveral else if goes_on (same_homes i) first count then Some (part.OfArea (unwrap_or (at_first i) 0)) else None
