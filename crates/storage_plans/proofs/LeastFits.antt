-- A least fit in a set is the answer of the plain machine's search, and the longest fit bounds what it finds.
use Rattle.std.proofs.Common.{◌≡◌, ℕ, ◌+◌, ◌*◌, ◌/◌, ◌%◌, ◌<◌, ◌≤◌, Bool, true, false, ◌&&◌, not, is_some, nat_le, nat_lt, ◌==◌, zero, suc, Option, Some, None, IfSome, IfNone, sym, ◌∙◌, ap, refl, arith}
use Rattle.std.proofs.lemmas.Bool.{and_parts, and_from, leb-true, ltb-true, le-leb, lt-ltb, eqb-true, eq-eqb, both_ways, false_from_ne_true}
use Rattle.std.proofs.Math.Bool.{Bool-set}
use Rattle.std.proofs.Math.Logic.{∥∥₁_elim}
use Rattle.run_set.specs.Runs.{Run, inside}
use Rattle.run_set.specs.Fits.{Fits, IsLeastFit, IsLongest}
use Rattle.run_set.proofs.FitLemmas.{shorter_fit}
use Rattle.vsm_model.specs.declared.Subpool.{Subpool}
use Rattle.vsm_model.specs.declared.limits.Settings.{Settings}
use Rattle.vsm_model.specs.Search.{least, all_pass, IsLeastAmong}
use Rattle.vsm_model.specs.Regions.{Region, within, in_a_region}
use Rattle.vsm_model.specs.Areas.{is_free, least_fit, least_run}
use Rattle.vsm_model.proofs.Least.{all_pass_at, all_pass_from, least_among, least_by}
use Rattle.storage_changes.specs.State.{StorageState}
use Rattle.storage_changes.specs.Meaning.{model_of, IsSound}
use Rattle.storage_changes.proofs.MeaningLemmas.{free_storage_is_free, unassigned_pages_are_nobodys}
use Rattle.storage_plans.specs.Places.{IsUpTo}

in_run : (n : ℕ) (r : Run) → inside n r ≡ true → (r.start ≤ n) × (n < r.start + r.len)
in_run n r e = let parts = and_parts (nat_le r.start n) (nat_lt n (r.start + r.len)) e in (leb-true r.start n parts.0, ltb-true n (r.start + r.len) parts.1)

-- a number of the run that is in the set
abbrev pub is_held : (ℕ → Bool) → Run → ℕ → Bool
is_held set region k = inside k region && set k

-- this many of them begin there, on the boundary
abbrev pub is_place : (ℕ → Bool) → Run → ℕ → ℕ → ℕ → Bool
is_place set region len boundary d = ((d % boundary) == 0) && all_pass (is_held set region) d len

module _ (set : ℕ → Bool) (region : Run) (len boundary : ℕ) where
  place_from : (d : ℕ) → Fits set region d len boundary → is_place set region len boundary d ≡ true
  place_from d f =
      and_from ((d % boundary) == 0) (all_pass (is_held set region) d len) (eq-eqb (d % boundary) 0 f.aligned)
      (all_pass_from (is_held set region) d len (λ k low high. and_from (inside k region) (set k) (f.within k low high) (f.held k low high)))

  fits_from : (d : ℕ) → is_place set region len boundary d ≡ true → Fits set region d len boundary
  fits_from d e =
      let parts = and_parts ((d % boundary) == 0) (all_pass (is_held set region) d len) e in
      record {
        aligned = eqb-true (d % boundary) 0 parts.0;
        held = λ n low high. (and_parts (inside n region) (set n) (all_pass_at (is_held set region) d len n parts.1 low high)).1;
        within = λ n low high. (and_parts (inside n region) (set n) (all_pass_at (is_held set region) d len n parts.1 low high)).0;
      }

  least_found : 0 < len → (answer : Option ℕ) → IfNone answer ((a : ℕ) → ¬ Fits set region a len boundary)
      → IfSome answer (λ a. IsLeastFit set region a len boundary) → answer ≡ least (is_place set region len boundary) region.start region.len
  least_found some None none fit =
      least_by (is_place set region len boundary) region.start region.len None
      (λ k low high. false_from_ne_true (is_place set region len boundary k) (λ e. none k (fits_from k e)))
  least_found some (Some a) none fit =
      let first = in_run a region (fit.fits.within a (omega arith) (omega (arith, some))) in
      least_by (is_place set region len boundary) region.start region.len (Some a) (
        place_from a fit.fits,
        first.0,
        first.1,
        λ k low below. false_from_ne_true (is_place set region len boundary k) (λ e. fit.least k below (fits_from k e)),
      )

  -- one is found exactly if this many are not more than the longest
  found_up_to : 0 < len → (most : ℕ) → IsLongest set region most boundary → is_some (least (is_place set region len boundary) region.start region.len) ≡ nat_le len most
  found_up_to some most longest =
      let f : ℕ → Bool = is_place set region len boundary in
      elim (least f region.start region.len) as (λ o. IsLeastAmong f region.start region.len o → is_some o ≡ nat_le len most) [
        | Some d ↦ λ h. sym (le-leb len most (longest.greatest d len (fits_from d h.0)))
        | None ↦ λ h. sym (false_from_ne_true (nat_le len most) (λ e.
            let (a, fit) = (shorter_fit set region most boundary len longest some).0 (leb-true len most e) in
            let at = in_run a region (fit.within a (omega arith) (omega (arith, some))) in
            both_ways (f a) (h a at.0 at.1) (place_from a fit)))
      ] (least_among f region.start region.len)

-- no fit is longer than the region
pub longest_in_region : (set : ℕ → Bool) (region : Run) (boundary most : ℕ) → IsLongest set region most boundary → most ≤ region.len
longest_in_region set region boundary zero longest = omega arith
longest_in_region set region boundary (suc n) longest =
    let (a, fit) = longest.reached (omega arith) in
    let first = in_run a region (fit.within a (omega arith) (omega arith)) in
    let last = in_run (a + n) region (fit.within (a + n) (omega arith) (omega arith)) in
    let low = first.0 in
    let high = last.1 in
    omega (arith, low, high)

pub same_tests : (x y : Bool) → (x ≡ true → y ≡ true) → (y ≡ true → x ≡ true) → x ≡ y
same_tests true true f g = refl
same_tests true false f g = sym (f refl)
same_tests false true f g = g refl
same_tests false false f g = refl

-- if the first tests agree, and the second ones as long as these hold, both together do
same_both : (a b c d : Bool) → a ≡ b → (b ≡ true → c ≡ d) → (a && c) ≡ (b && d)
same_both a true c d e h = ap (λ x. x && c) e ∙ h refl
same_both a false c d e h = ap (λ x. x && c) e

module _ (r : Region) (area : Run) (start : area.start ≡ r.first * 512) (len : area.len ≡ r.count * 512) where
  to_page : (k : ℕ) → inside k area ≡ true → within r (k / 512) ≡ true
  to_page k e =
      let (low, high) = in_run k area e in
      and_from (nat_le r.first (k / 512)) (nat_lt (k / 512) (r.first + r.count)) (le-leb r.first (k / 512) (omega (arith, start, low)))
      (lt-ltb (k / 512) (r.first + r.count) (omega (arith, start, len, high)))

  from_page : (k : ℕ) → within r (k / 512) ≡ true → inside k area ≡ true
  from_page k e =
      let parts = and_parts (nat_le r.first (k / 512)) (nat_lt (k / 512) (r.first + r.count)) e in
      let low = leb-true r.first (k / 512) parts.0 in
      let high = ltb-true (k / 512) (r.first + r.count) parts.1 in
      and_from (nat_le area.start k) (nat_lt k (area.start + area.len)) (le-leb area.start k (omega (arith, start, low)))
      (lt-ltb k (area.start + area.len) (omega (arith, start, len, high)))

  same_page : (k : ℕ) → inside k area ≡ within r (k / 512)
  same_page k = same_tests (inside k area) (within r (k / 512)) (to_page k) (from_page k)

-- What is an equation of tests also holds if it's only stated that the storage is sound.

pub free_in : (settings : Settings) (m : StorageState) → ∥ IsSound settings m ∥₁ → (p : Subpool) (d : ℕ) → is_free (model_of m) p d ≡ m.subpools.free p d
free_in settings m sound p d = ∥∥₁_elim sound (Bool-set _ _) (λ h. free_storage_is_free settings m h p d)

pub unassigned_in : (settings : Settings) (m : StorageState) → ∥ IsSound settings m ∥₁ → (page : ℕ) → in_a_region settings page ≡ true →
    m.unassigned page ≡ not (is_some ((model_of m).pages page))
unassigned_in settings m sound page its = ∥∥₁_elim sound (Bool-set _ _) (λ h. unassigned_pages_are_nobodys settings m h page its)

-- The plain machine's search of an area is one for a fit in the free storage of the subpool.
area_search : (settings : Settings) (m : StorageState) → ∥ IsSound settings m ∥₁ → (r : Region) (area : Run) → area.start ≡ r.first * 512 → area.len ≡ r.count * 512 →
    (p : Subpool) (count boundary : ℕ) → least (is_place (m.subpools.free p) area count boundary) area.start area.len ≡ least_fit (model_of m) r p count boundary
area_search settings m sound r area start len p count boundary =
    let here : ℕ → Bool = λ k. within r (k / 512) && is_free (model_of m) p k in
    let same : (k : ℕ) → is_held (m.subpools.free p) area k ≡ here k =
    λ k. same_both (inside k area) (within r (k / 512)) (m.subpools.free p k) (is_free (model_of m) p k) (same_page r area start len k) (λ e. sym (free_in settings m sound p k)) in
    ap (λ (f : ℕ → Bool). least (λ d. ((d % boundary) == 0) && all_pass f d count) area.start area.len) (λ i k. same k i)
    ∙ ap (λ (x : ℕ). least (λ d. ((d % boundary) == 0) && all_pass here d count) x area.len) start
    ∙ ap (λ (x : ℕ). least (λ d. ((d % boundary) == 0) && all_pass here d count) (r.first * 512) x) len

-- So the least fit is the area that it finds,
pub area_found : (settings : Settings) (m : StorageState) → ∥ IsSound settings m ∥₁ → (r : Region) (area : Run) → area.start ≡ r.first * 512 → area.len ≡ r.count * 512 →
    (p : Subpool) (count boundary : ℕ) → 0 < count → (answer : Option ℕ) → IfNone answer ((a : ℕ) → ¬ Fits (m.subpools.free p) area a count boundary) →
    IfSome answer (λ a. IsLeastFit (m.subpools.free p) area a count boundary) → answer ≡ least_fit (model_of m) r p count boundary
area_found settings m sound r area start len p count boundary some answer none fit =
    least_found (m.subpools.free p) area count boundary some answer none fit ∙ area_search settings m sound r area start len p count boundary

-- and the longest one bounds the areas that it finds.
pub area_up_to : (settings : Settings) (m : StorageState) → ∥ IsSound settings m ∥₁ → (r : Region) (area : Run) → area.start ≡ r.first * 512 → area.len ≡ r.count * 512 →
    (p : Subpool) (boundary most : ℕ) → IsLongest (m.subpools.free p) area most boundary → IsUpTo (λ count. is_some (least_fit (model_of m) r p count boundary)) most
area_up_to settings m sound r area start len p boundary most longest count some =
    ap is_some (sym (area_search settings m sound r area start len p count boundary)) ∙ found_up_to (m.subpools.free p) area count boundary some most longest

on_one : (d : ℕ) → ((d % 1) == 0) ≡ true
on_one d = eq-eqb (d % 1) 0 (omega arith)

-- Its search of pages is one for a fit in the unassigned pages.
pages_search : (settings : Settings) (m : StorageState) → ∥ IsSound settings m ∥₁ → (r : Region) (run : Run) → run.start ≡ r.first → run.len ≡ r.count →
    ((page : ℕ) → within r page ≡ true → in_a_region settings page ≡ true) → (count : ℕ) →
    least (is_place m.unassigned run count 1) run.start run.len ≡ least_run (model_of m) r count
pages_search settings m sound r run start len its count =
    let here : ℕ → Bool = λ k. within r k && not (is_some ((model_of m).pages k)) in
    let region : (k : ℕ) → inside k run ≡ within r k =
    λ k. ap (λ (x : ℕ). nat_le x k && nat_lt k (x + run.len)) start ∙ ap (λ (x : ℕ). nat_le r.first k && nat_lt k (r.first + x)) len in
    let same : (k : ℕ) → is_held m.unassigned run k ≡ here k =
    λ k. same_both (inside k run) (within r k) (m.unassigned k) (not (is_some ((model_of m).pages k))) (region k) (λ e. unassigned_in settings m sound k (its k e)) in
    ap (λ (f : ℕ → Bool). least (λ d. ((d % 1) == 0) && all_pass f d count) run.start run.len) (λ i k. same k i)
    ∙ ap (λ (f : ℕ → Bool). least f run.start run.len) (λ i d. ap (λ b. b && all_pass here d count) (on_one d) i)
    ∙ ap (λ (x : ℕ). least (λ d. all_pass here d count) x run.len) start
    ∙ ap (λ (x : ℕ). least (λ d. all_pass here d count) r.first x) len

pub pages_found : (settings : Settings) (m : StorageState) → ∥ IsSound settings m ∥₁ → (r : Region) (run : Run) → run.start ≡ r.first → run.len ≡ r.count →
    ((page : ℕ) → within r page ≡ true → in_a_region settings page ≡ true) → (count : ℕ) → 0 < count → (answer : Option ℕ) →
    IfNone answer ((a : ℕ) → ¬ Fits m.unassigned run a count 1) → IfSome answer (λ a. IsLeastFit m.unassigned run a count 1) →
    answer ≡ least_run (model_of m) r count
pages_found settings m sound r run start len its count some answer none fit =
    least_found m.unassigned run count 1 some answer none fit ∙ pages_search settings m sound r run start len its count

pub pages_up_to : (settings : Settings) (m : StorageState) → ∥ IsSound settings m ∥₁ → (r : Region) (run : Run) → run.start ≡ r.first → run.len ≡ r.count →
    ((page : ℕ) → within r page ≡ true → in_a_region settings page ≡ true) → (most : ℕ) → IsLongest m.unassigned run most 1 →
    IsUpTo (λ count. is_some (least_run (model_of m) r count)) most
pages_up_to settings m sound r run start len its most longest count some =
    ap is_some (sym (pages_search settings m sound r run start len its count)) ∙ found_up_to m.unassigned run count 1 some most longest
