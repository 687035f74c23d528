-- An area at its place is taken, and what holds of pages and extents still does.
use Rattle.std.proofs.Common.{◌≡◌, ◌≤◌, ◌⊎◌, ℕ, ◌*◌, ◌/◌, Bool, true, false, not, ◌&&◌, ◌||◌, ◌==◌, if◌then◌else◌, Option, Some, None, is_some, List, [], ◌∷◌, refl, sym, ◌∙◌, ap, subst, arith, inl, inr, true≢false}
use Rattle.std.specs.Prelude.{All, Contains}
use Rattle.std.proofs.lemmas.Bool.{cases_Bool, and_parts, or_cases, or_left, or_right, eqb-true, not-true, both_ways, false_from_ne_true, cond-true, cond-false}
use Rattle.std.proofs.lemmas.List.Elements.{All-head, All-tail, All-cons, All-nil, All-contains}
use Rattle.vsm_model.specs.declared.Subpool.{Subpool}
use Rattle.vsm_model.specs.declared.limits.Residence.{Residence}
use Rattle.vsm_model.specs.declared.limits.Residence.TheVariants.{Below, Above}
use Rattle.vsm_model.specs.declared.limits.Settings.{Settings}
use Rattle.vsm_model.specs.Search.{all_pass, holds, IsLeastAmong}
use Rattle.vsm_model.specs.Regions.{Region, among, within, pages_for, low_region, high_region, regions_for, in_a_region}
use Rattle.vsm_model.specs.CellPools.{CellPool, CellExtent, extent_doublewords}
use Rattle.vsm_model.specs.State.{State}
use Rattle.vsm_model.specs.Subpools.{same_subpool}
use Rattle.vsm_model.specs.Areas.{is_free, fits, is_open_run, least_fit, least_run, Place, Inside, Fresh, Nowhere, or_fresh, or_place, place_in, place, is_nowhere, address_of}
use Rattle.vsm_model.specs.Obtaining.{with_taken, with_pages, with_area}
use Rattle.vsm_model.specs.WellFormed.{PagesAreSound, IsInSubpool}
use Rattle.vsm_model.proofs.Least.{all_pass_at, least_among}
use Rattle.service_laws.specs.Extents.{AreaIsTaken}
use Rattle.service_laws.proofs.Spans.{among-in, in-among}

pub same_some : {A : Type 0} (x y : A) → ◌≡◌ {A = Option A} (Some x) (Some y) → x ≡ y
same_some x y e = cc

pub none_some : {A : Type 0} (y : A) → ◌≡◌ {A = Option A} None (Some y) → ⊥
none_some y e = cc

pub none_or_some : {A : Type 0} (o : Option A) → (o ≡ None) ⊎ ((x : A) × (o ≡ Some x))
none_or_some None = inl refl
none_or_some (Some x) = inr (x, refl)

pub some_from : {A : Type 0} (o : Option A) → is_some o ≡ true → (x : A) × (o ≡ Some x)
some_from None e = absurd (true≢false (sym e))
some_from (Some x) e = (x, refl)

-- a test for a subpool holds only of that one
pub owned_by : (p : Subpool) (o : Option Subpool) → holds (same_subpool p) o ≡ true → o ≡ Some p
owned_by p None e = absurd (true≢false (sym e))
owned_by p (Some q) e =
    let parts = and_parts (p.number == q.number) (p.owner == q.owner) e in
    let number = eqb-true p.number q.number parts.0 in
    let owner = eqb-true p.owner q.owner parts.1 in
    λ i. Some (record { number = sym number i; owner = sym owner i })

-- what holds of a value that a test picks
pub picked : {A : Type 0} (b : Bool) (x y z : A) (P : Type 0) → (if b then x else y) ≡ z → (b ≡ true → x ≡ z → P) → (b ≡ false → y ≡ z → P) → P
picked true x y z P e f g = f refl e
picked false x y z P e f g = g refl e

-- The doublewords of the place are free in the subpool, or its pages aren't assigned; all of them lie in the region.
abbrev pub IsOpenIn : State → Subpool → ℕ → Region → Place → Type 0
IsOpenIn s p count r (Inside d) = all_pass (λ k. within r (k / 512) && is_free s p k) d count ≡ true
IsOpenIn s p count r (Fresh page) = is_open_run s r (pages_for count) page ≡ true
IsOpenIn s p count r Nowhere = ⊥

module _ (s : State) (p : Subpool) (count : ℕ) where
  open_from : (r : Region) (o f : Option ℕ) → IsLeastAmong (fits s r p count 1) (r.first * 512) (r.count * 512) o →
      IsLeastAmong (is_open_run s r (pages_for count)) r.first r.count f → is_nowhere (or_fresh o f) ≡ false → IsOpenIn s p count r (or_fresh o f)
  open_from r (Some d) f g h e = (and_parts _ _ g.0).1
  open_from r None (Some page) g h e = h.0
  open_from r None None g h e = absurd (true≢false e)

  either : (Q : Place → Type 0) (a b : Place) → (is_nowhere a ≡ false → Q a) → (is_nowhere b ≡ false → Q b) → is_nowhere (or_place a b) ≡ false → Q (or_place a b)
  either Q (Inside d) b f g e = f refl
  either Q (Fresh page) b f g e = f refl
  either Q Nowhere b f g e = g e

  -- an area that has a place lies in one of the regions
  pub place_from : (Good : Region → Type 0) (rs : List Region) → All Good rs → is_nowhere (place s rs p count 1) ≡ false →
      (r : Region) × Good r × IsOpenIn s p count r (place s rs p count 1)
  place_from Good [] good e = absurd (true≢false e)
  place_from Good (r ∷ rs) good e =
      either (λ goes. (r : Region) × Good r × IsOpenIn s p count r goes) (place_in s p count 1 r) (place s rs p count 1)
      (λ here. (
        r,
        All-head Good r rs good,
        open_from r (least_fit s r p count 1) (least_run s r (pages_for count))
            (least_among (fits s r p count 1) (r.first * 512) (r.count * 512)) (least_among (is_open_run s r (pages_for count)) r.first r.count) here,
      ))
      (λ later. place_from Good rs (All-tail Good r rs good) later) e

-- a page of one of the regions is in a region
pub in_regions : (settings : Settings) (side : Residence) (r : Region) → Contains (regions_for settings side) r → (k : ℕ) → within r k ≡ true → in_a_region settings k ≡ true
in_regions settings Below r one k e =
    All-contains (λ r. (k : ℕ) → within r k ≡ true → in_a_region settings k ≡ true) (regions_for settings Below) r
    (All-cons (λ r. (k : ℕ) → within r k ≡ true → in_a_region settings k ≡ true) (low_region settings) []
    (λ k e. or_right (within (high_region settings) k) (within (low_region settings) k || false) (or_left (within (low_region settings) k) false e))
    (All-nil (λ r. (k : ℕ) → within r k ≡ true → in_a_region settings k ≡ true))) one k e
in_regions settings Above r one k e =
    All-contains (λ r. (k : ℕ) → within r k ≡ true → in_a_region settings k ≡ true) (regions_for settings Above) r
    (All-cons (λ r. (k : ℕ) → within r k ≡ true → in_a_region settings k ≡ true) (high_region settings) (low_region settings ∷ [])
    (λ k e. or_left (within (high_region settings) k) (within (low_region settings) k || false) e)
    (All-cons (λ r. (k : ℕ) → within r k ≡ true → in_a_region settings k ≡ true) (low_region settings) []
    (λ k e. or_right (within (high_region settings) k) (within (low_region settings) k || false) (or_left (within (low_region settings) k) false e))
    (All-nil (λ r. (k : ℕ) → within r k ≡ true → in_a_region settings k ≡ true)))) one k e

module _ (s : State) (in_page : (d : ℕ) → s.taken d ≡ true → is_some (s.pages (d / 512)) ≡ true) (its : Subpool) (count : ℕ) (r : Region) where
  -- in free storage of the subpool
  inside : (d : ℕ) → all_pass (λ k. within r (k / 512) && is_free s its k) d count ≡ true → AreaIsTaken r s (with_taken s d count) its (8 * d) count
  inside d free =
      let at : (8 * d) / 8 ≡ d = omega arith in
      let same : (k : ℕ) → among ((8 * d) / 8) count k ≡ among d count k = λ k. ap (λ a. among a count k) at in
      let here : (k : ℕ) → among ((8 * d) / 8) count k ≡ true → (within r (k / 512) && is_free s its k) ≡ true =
      λ k e. let area = among-in d count k (sym (same k) ∙ e) in
      all_pass_at (λ k. within r (k / 512) && is_free s its k) d count k free area.0 area.1 in
      record {
        on_doubleword = omega arith;
        in_region = λ k e. (and_parts _ _ (here k e)).0;
        was_free = λ k e. not-true (s.taken k) (and_parts _ _ (and_parts _ _ (here k e)).1).1;
        taken = λ k. ap (λ b. b || s.taken k) (sym (same k));
        in_subpool = λ k e. owned_by its (s.pages (k / 512)) (and_parts _ _ (and_parts _ _ (here k e)).1).0;
        others = λ k p e. e;
        needed = λ k none there. absurd (true≢false (sym there ∙ ap (λ (o : Option Subpool). is_some o) none));
        zero_bytes = λ a none there. absurd (true≢false (sym there ∙ ap (λ (o : Option Subpool). is_some o) none));
        same_bytes = λ a _. refl;
      }

  -- in new pages
  fresh : (page : ℕ) → is_open_run s r (pages_for count) page ≡ true →
      AreaIsTaken r s (with_taken (with_pages s its page (pages_for count)) (512 * page) count) its (4096 * page) count
  fresh page open_run =
      let at : (4096 * page) / 8 ≡ 512 * page = omega arith in
      let same : (k : ℕ) → among ((4096 * page) / 8) count k ≡ among (512 * page) count k = λ k. ap (λ a. among a count k) at in
      let new : (k : ℕ) → among ((4096 * page) / 8) count k ≡ true → among page (pages_for count) (k / 512) ≡ true =
      λ k e. let area = among-in (512 * page) count k (sym (same k) ∙ e) in
      in-among page (pages_for count) (k / 512) (omega (arith, area.0)) (omega (arith, area.0, area.1)) in
      let open_at : (j : ℕ) → among page (pages_for count) j ≡ true → (within r j && not (is_some (s.pages j))) ≡ true =
      λ j e. let run = among-in page (pages_for count) j e in
      all_pass_at (λ j. within r j && not (is_some (s.pages j))) page (pages_for count) j open_run run.0 run.1 in
      let unassigned : (j : ℕ) → among page (pages_for count) j ≡ true → is_some (s.pages j) ≡ false =
      λ j e. not-true (is_some (s.pages j)) (and_parts (within r j) (not (is_some (s.pages j))) (open_at j e)).1 in
      record {
        on_doubleword = omega arith;
        in_region = λ k e. (and_parts _ _ (open_at (k / 512) (new k e))).0;
        was_free = λ k e. false_from_ne_true (s.taken k) (λ taken.
            both_ways (is_some (s.pages (k / 512))) (unassigned (k / 512) (new k e)) (in_page k taken));
        taken = λ k. ap (λ b. b || s.taken k) (sym (same k));
        in_subpool = λ k e. cond-true (among page (pages_for count) (k / 512)) (Some its) (s.pages (k / 512)) (new k e);
        others = λ k p e. elim (cases_Bool (among page (pages_for count) k)) [
          | inl own ↦ absurd (both_ways (is_some (s.pages k)) (unassigned k own) (ap (λ (o : Option Subpool). is_some o) e))
          | inr other ↦ cond-false (among page (pages_for count) k) (Some its) (s.pages k) other ∙ e
        ];
        needed = λ k none there. elim (cases_Bool (among page (pages_for count) k)) [
          | inl own ↦
              let run = among-in page (pages_for count) k own in
              (512 * k, omega arith, same (512 * k) ∙ in-among (512 * page) count (512 * k) (omega (arith, run.0)) (omega (arith, run.1)))
          | inr other ↦ absurd (true≢false (sym there ∙ ap (λ (o : Option Subpool). is_some o)
              (cond-false (among page (pages_for count) k) (Some its) (s.pages k) other ∙ none)))
        ];
        zero_bytes = λ a none there. elim (cases_Bool (among page (pages_for count) (a / 4096))) [
          | inl own ↦ cond-true (among page (pages_for count) (a / 4096)) (Some 0) (s.bytes a) own
          | inr other ↦ absurd (true≢false (sym there ∙ ap (λ (o : Option Subpool). is_some o)
              (cond-false (among page (pages_for count) (a / 4096)) (Some its) (s.pages (a / 4096)) other ∙ none)))
        ];
        same_bytes = λ a unmoved. elim (cases_Bool (among page (pages_for count) (a / 4096))) [
          | inl own ↦ absurd (both_ways (is_some (s.pages (a / 4096))) (unassigned (a / 4096) own)
              (ap (λ (o : Option Subpool). is_some o)
              (sym unmoved ∙ cond-true (among page (pages_for count) (a / 4096)) (Some its) (s.pages (a / 4096)) own)))
          | inr other ↦ cond-false (among page (pages_for count) (a / 4096)) (Some 0) (s.bytes a) other
        ];
      }

  pub area_taken : (goes : Place) → IsOpenIn s its count r goes → AreaIsTaken r s (with_area s its count goes) its (address_of goes) count
  area_taken (Inside d) h = inside d h
  area_taken (Fresh page) h = fresh page h
  area_taken Nowhere h = absurd h

-- Only pages, doublewords and bytes change.
pub area_table : (s : State) (p : Subpool) (count : ℕ) (goes : Place) → (with_area s p count goes).cell_pools ≡ s.cell_pools
area_table s p count (Inside d) = refl
area_table s p count (Fresh page) = refl
area_table s p count Nowhere = refl

pub area_alone : (s : State) (p : Subpool) (count : ℕ) (goes : Place) →
    with_area s p count goes ≡ record s {
      pages = (with_area s p count goes).pages;
      taken = (with_area s p count goes).taken;
      bytes = (with_area s p count goes).bytes;
      cell_pools = (with_area s p count goes).cell_pools;
    }
area_alone s p count (Inside d) = refl
area_alone s p count (Fresh page) = refl
area_alone s p count Nowhere = refl

module _ (s t : State) (r : Region) (its : Subpool) (address count : ℕ) (a : AreaIsTaken r s t its address count) where
  pub pages_taken : (settings : Settings) → ((k : ℕ) → within r k ≡ true → in_a_region settings k ≡ true) →
      ((n o : ℕ) → s.subpools n o ≡ true → t.subpools n o ≡ true) → t.subpools its.number its.owner ≡ true →
      PagesAreSound settings s → PagesAreSound settings t
  pages_taken settings region stay there w = record {
    in_region = λ k q e. elim (none_or_some (s.pages k)) [
      | inr old ↦ w.in_region k old.0 old.1
      | inl none ↦
          let new = a.needed k none (ap (λ (o : Option Subpool). is_some o) e) in
          region k (subst (λ k. within r k ≡ true) new.1 (a.in_region new.0 new.2))
    ];
    has_subpool = λ k q e. elim (none_or_some (s.pages k)) [
      | inr old ↦
          subst (λ (q : Subpool). t.subpools q.number q.owner ≡ true) (same_some old.0 q (sym (a.others k old.0 old.1) ∙ e))
          (stay old.0.number old.0.owner (w.has_subpool k old.0 old.1))
      | inl none ↦
          let new = a.needed k none (ap (λ (o : Option Subpool). is_some o) e) in
          let mine : t.pages k ≡ Some its = subst (λ k. t.pages k ≡ Some its) new.1 (a.in_subpool new.0 new.2) in
          subst (λ (q : Subpool). t.subpools q.number q.owner ≡ true) (same_some its q (sym mine ∙ e)) there
    ];
    has_taken = λ k q e. elim (none_or_some (s.pages k)) [
      | inr old ↦
          let kept = w.has_taken k old.0 old.1 in
          (kept.0, kept.1, a.taken kept.0 ∙ or_right (among (address / 8) count kept.0) (s.taken kept.0) kept.2)
      | inl none ↦
          let new = a.needed k none (ap (λ (o : Option Subpool). is_some o) e) in
          (new.0, new.1, a.taken new.0 ∙ or_left (among (address / 8) count new.0) (s.taken new.0) new.2)
    ];
    in_page = λ d e. elim (or_cases (among (address / 8) count d) (s.taken d) (sym (a.taken d) ∙ e)) [
      | inl own ↦ ap (λ (o : Option Subpool). is_some o) (a.in_subpool d own)
      | inr old ↦
          let there = some_from (s.pages (d / 512)) (w.in_page d old) in
          ap (λ (o : Option Subpool). is_some o) (a.others (d / 512) there.0 there.1)
    ];
    has_bytes = λ b. elim (none_or_some (s.pages (b / 4096))) [
      | inr old ↦ unmoved b (a.others (b / 4096) old.0 old.1 ∙ sym old.1)
      | inl none ↦ elim (none_or_some (t.pages (b / 4096))) [
        | inl still ↦ unmoved b (still ∙ sym none)
        | inr new ↦
            let there = ap (λ (o : Option Subpool). is_some o) new.1 in
            ap (λ (o : Option ℕ). is_some o) (a.zero_bytes b none there) ∙ sym there
      ]
    ];
    are_bytes = λ b byte e. elim (none_or_some (s.pages (b / 4096))) [
      | inr old ↦ w.are_bytes b byte (sym (a.same_bytes b (a.others (b / 4096) old.0 old.1 ∙ sym old.1)) ∙ e)
      | inl none ↦ elim (none_or_some (t.pages (b / 4096))) [
        | inl still ↦ w.are_bytes b byte (sym (a.same_bytes b (still ∙ sym none)) ∙ e)
        | inr new ↦
            let zero = same_some 0 byte (sym (a.zero_bytes b none (ap (λ (o : Option Subpool). is_some o) new.1)) ∙ e) in
            omega (arith, zero)
      ]
    ];
  } where
    unmoved : (b : ℕ) → t.pages (b / 4096) ≡ s.pages (b / 4096) → is_some (t.bytes b) ≡ is_some (t.pages (b / 4096))
    unmoved b same =
        ap (λ (o : Option ℕ). is_some o) (a.same_bytes b same) ∙ w.has_bytes b ∙ ap (λ (o : Option Subpool). is_some o) (sym same)

  -- an extent that was in its subpool still is
  pub extent_stays : (pool : CellPool) (x : CellExtent) → IsInSubpool s pool x → IsInSubpool t pool x
  extent_stays pool x h = record {
    has_cells = h.has_cells;
    on_doubleword = h.on_doubleword;
    is_taken = λ d own. a.taken d ∙ or_right (among (address / 8) count d) (s.taken d) (h.is_taken d own);
    in_pages = λ d own. a.others (d / 512) pool.subpool (h.in_pages d own);
  }

-- the area is an extent of a cell pool of its subpool
pub extent_taken : (s t : State) (r : Region) (pool : CellPool) (address cells : ℕ) → 1 ≤ cells →
    AreaIsTaken r s t pool.subpool address (extent_doublewords pool cells) → IsInSubpool t pool (record { address = address; cells = cells })
extent_taken s t r pool address cells some a = record {
  has_cells = some;
  on_doubleword = a.on_doubleword;
  is_taken = λ d own. a.taken d ∙ or_left (among (address / 8) (extent_doublewords pool cells) d) (s.taken d) own;
  in_pages = λ d own. a.in_subpool d own;
}
