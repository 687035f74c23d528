-- Whose the pages of an area are, and whether its doublewords are taken.
use Rattle.std.proofs.Common.{◌≡◌, ℕ, ◌+◌, ◌*◌, ◌/◌, ◌%◌, ◌<◌, ◌≤◌, ◌⊎◌, Bool, true, false, ◌&&◌, ◌||◌, not, is_some, nat_le, nat_lt, ◌==◌, Option, Some, None, sym, ◌∙◌, ap, refl, arith, inl, inr, true≢false}
use Rattle.std.proofs.lemmas.Bool.{and_parts, and_from, or_parts, leb-true, ltb-true, le-leb, lt-ltb, cases_lt, true_from_ne_false, not-true, not-false}
use Rattle.std.proofs.lemmas.Bool.Decides.{nat_tests}
use Rattle.std.proofs.Math.Bool.{Bool-set}
use Rattle.std.proofs.Math.Logic.{∥∥₁_elim}
use Rattle.run_set.specs.Runs.{Run, inside, NoneIn}
use Rattle.vsm_model.specs.declared.Subpool.{Subpool}
use Rattle.vsm_model.specs.declared.limits.Residence.{Residence}
use Rattle.vsm_model.specs.declared.limits.Residence.TheVariants.{Below, Above}
use Rattle.vsm_model.specs.declared.limits.Settings.{Settings}
use Rattle.vsm_model.specs.Search.{all_pass, some_pass, holds}
use Rattle.vsm_model.specs.Regions.{among, within, in_a_region, size_valid, settings_valid, pages_for}
use Rattle.vsm_model.specs.Releasing.{is_foreign, is_not_taken}
use Rattle.vsm_model.specs.State.{State}
use Rattle.vsm_model.specs.Subpools.{same_subpool}
use Rattle.vsm_model.proofs.Least.{all_pass_at, all_pass_from, all_pass_none}
use Rattle.raw_region.specs.Pages.{bytes_at}
use Rattle.raw_region.proofs.ForCallers.{byte_at-assigned}
use Rattle.storage_changes.specs.State.{StorageState}
use Rattle.storage_changes.specs.Meaning.{model_of, subpool_of, is_taken, IsSound}
use Rattle.storage_changes.proofs.Cases.{same-self, same-is, not-not}
use Rattle.storage_changes.proofs.MeaningLemmas.{named_pages_are_there}
use Rattle.storage_swap.specs.declared.storage.Parts.{Parts}
use Rattle.storage_swap.specs.Storage.{state_of, IsFrameless}
use Rattle.storage_plans.specs.Places.{region_on}
use Rattle.storage_plans.specs.Releases.{HasFree}
use Rattle.storage_plans.proofs.BytesRead.{byte_shown}
use Rattle.storage_plans.proofs.Regions.{of_a_region}

-- tests over runs of numbers

pub none_at : (f : ℕ → Bool) (first count : ℕ) → ((k : ℕ) → first ≤ k → k < first + count → f k ≡ false) → some_pass f first count ≡ false
none_at f first count h = ap not (all_pass_from (λ k. not (f k)) first count (λ k low high. ap not (h k low high)))

pub some_at : (f : ℕ → Bool) (first count k : ℕ) → first ≤ k → k < first + count → f k ≡ true → some_pass f first count ≡ true
some_at f first count k low high e = ap not (all_pass_none (λ j. not (f j)) first count k low high (ap not e))

pub not_one : (f : ℕ → Bool) (first count k : ℕ) → some_pass f first count ≡ false → first ≤ k → k < first + count → f k ≡ false
not_one f first count k e low high =
    not-true (f k) (all_pass_at (λ j. not (f j)) first count k (not-false (all_pass (λ j. not (f j)) first count) e) low high)

-- one of them passes if it's false that none does
some_from : (f : ℕ → Bool) (first count : ℕ) → (((k : ℕ) → first ≤ k → k < first + count → f k ≡ false) → ⊥) → some_pass f first count ≡ true
some_from f first count h = true_from_ne_false (some_pass f first count) (λ e. h (λ k low high. not_one f first count k e low high))

pub both_answers : (x y : Bool) → (x ≡ true → y ≡ true) → (y ≡ true → x ≡ true) → x ≡ y
both_answers true y f g = sym (f refl)
both_answers false true f g = g refl
both_answers false false f g = refl

-- the numbers of a run

pub inside_from : (start len k : ℕ) → start ≤ k → k < start + len → inside k (record { start = start; len = len }) ≡ true
inside_from start len k low high = and_from (nat_le start k) (nat_lt k (start + len)) (le-leb start k low) (lt-ltb k (start + len) high)

pub in_inside : (r : Run) (k : ℕ) → inside k r ≡ true → (r.start ≤ k) × (k < r.start + r.len)
in_inside r k e = let parts = and_parts (nat_le r.start k) (nat_lt k (r.start + r.len)) e in (leb-true r.start k parts.0, ltb-true k (r.start + r.len) parts.1)

-- runs of pages in the regions

module _ (settings : Settings) (run : Run) where
  pub run_within : (side : Residence) (region : Run) → region.start ≡ (region_on settings side).first → region.len ≡ (region_on settings side).count →
      (nat_le region.start run.start && nat_le (run.start + run.len) (region.start + region.len)) ≡ true → all_pass (in_a_region settings) run.start run.len ≡ true
  run_within side region first count e =
      let parts = and_parts (nat_le region.start run.start) (nat_le (run.start + run.len) (region.start + region.len)) e in
      let low = leb-true region.start run.start parts.0 in
      let high = leb-true (run.start + run.len) (region.start + region.len) parts.1 in
      all_pass_from (in_a_region settings) run.start run.len
      (λ k from below. of_a_region settings side k (and_from (nat_le (region_on settings side).first k) (nat_lt k ((region_on settings side).first + (region_on settings side).count))
      (le-leb (region_on settings side).first k (omega (arith, first, low, from)))
      (lt-ltb k ((region_on settings side).first + (region_on settings side).count) (omega (arith, first, count, high, below)))))

-- a region below the line ends before page 4096
low_pages : (settings : Settings) → settings_valid settings ≡ true → settings.low_k / 4 ≤ 4090
low_pages settings valid =
    let sizes = and_parts (size_valid 16360 settings.low_k && size_valid 1572864 settings.high_k) (nat_le 1 settings.history && nat_le settings.history 65536) valid in
    let low = and_parts (size_valid 16360 settings.low_k) (size_valid 1572864 settings.high_k) sizes.0 in
    let bounds = and_parts (nat_le 4 settings.low_k && nat_le settings.low_k 16360) ((settings.low_k % 4) == 0) low.0 in
    let most = leb-true settings.low_k 16360 (and_parts (nat_le 4 settings.low_k) (nat_le settings.low_k 16360) bounds.0).1 in
    omega (arith, most)

before_region : (first count k : ℕ) → k < first → among first count k ≡ false
before_region first count k h = grind (arith, nat_tests)

behind_region : (first count k : ℕ) → first + count ≤ k → among first count k ≡ false
behind_region first count k h = grind (arith, nat_tests)

begins_or_ends : (a s e b : ℕ) → (nat_le a s && nat_le e b) ≡ false → (s < a) ⊎ (b < e)
begins_or_ends a s e b h =
    elim (cases_lt s a) [
      | inl before ↦ inl before
      | inr from ↦ elim (cases_lt b e) [
        | inl past ↦ inr past
        | inr within ↦ absurd (true≢false (sym (and_from (nat_le a s) (nat_le e b) (le-leb a s from) (le-leb e b within)) ∙ h))
      ]
    ]

module _ (settings : Settings) (start len : ℕ) (some : 0 < len) where
  abbrev low : ℕ
  low = settings.low_k / 4

  abbrev high : ℕ
  high = settings.high_k / 4

  -- a page of the run that is in neither region
  away_at : (k : ℕ) → start ≤ k → k < start + len → among 32768 high k ≡ false → among 6 low k ≡ false → all_pass (in_a_region settings) start len ≡ false
  away_at k from below up down =
      all_pass_none (in_a_region settings) start len k from below (λ i. up i || (down i || false))

  past_low : low ≤ 4090 → 6 + low < start + len → start < 32768 → all_pass (in_a_region settings) start len ≡ false
  past_low few past under =
      elim (cases_lt start (6 + low)) [
        | inl before ↦ away_at (6 + low) (omega (arith, before)) past (before_region 32768 high (6 + low) (omega (arith, few))) (behind_region 6 low (6 + low) (omega arith))
        | inr behind ↦ away_at start (omega arith) (omega (arith, some)) (before_region 32768 high start under) (behind_region 6 low start behind)
      ]

  past_high : low ≤ 4090 → 32768 ≤ start → 32768 + high < start + len → all_pass (in_a_region settings) start len ≡ false
  past_high few over past =
      elim (cases_lt start (32768 + high)) [
        | inl before ↦ away_at (32768 + high) (omega (arith, before)) past (behind_region 32768 high (32768 + high) (omega arith)) (behind_region 6 low (32768 + high) (omega (arith, few)))
        | inr behind ↦ away_at start (omega arith) (omega (arith, some)) (behind_region 32768 high start behind) (behind_region 6 low start (omega (arith, few, over)))
      ]

  run_away : low ≤ 4090 → (start < 32768) ⊎ (32768 + high < start + len) → (start < 6) ⊎ (6 + low < start + len) → all_pass (in_a_region settings) start len ≡ false
  run_away few up (inl before) = away_at start (omega arith) (omega (arith, some)) (before_region 32768 high start (omega (arith, before))) (before_region 6 low start before)
  run_away few up (inr past) =
      elim (cases_lt start 32768) [
        | inl under ↦ past_low few past under
        | inr over ↦ elim up [
          | inl under ↦ absurd (omega (arith, over, under))
          | inr beyond ↦ past_high few over beyond
        ]
      ]

-- a run that lies in neither region has a page that is in neither
pub run_outside : (settings : Settings) (run up down : Run) → settings_valid settings ≡ true → 0 < run.len →
    up.start ≡ (region_on settings Above).first → up.len ≡ (region_on settings Above).count → down.start ≡ (region_on settings Below).first → down.len ≡ (region_on settings Below).count →
    (nat_le up.start run.start && nat_le (run.start + run.len) (up.start + up.len)) ≡ false →
    (nat_le down.start run.start && nat_le (run.start + run.len) (down.start + down.len)) ≡ false → all_pass (in_a_region settings) run.start run.len ≡ false
run_outside settings run up down valid some up_first up_count down_first down_count not_up not_down =
    let above : (nat_le 32768 run.start && nat_le (run.start + run.len) (32768 + settings.high_k / 4)) ≡ false =
    (λ i. nat_le (sym up_first i) run.start && nat_le (run.start + run.len) (sym up_first i + sym up_count i)) ∙ not_up in
    let below : (nat_le 6 run.start && nat_le (run.start + run.len) (6 + settings.low_k / 4)) ≡ false =
    (λ i. nat_le (sym down_first i) run.start && nat_le (run.start + run.len) (sym down_first i + sym down_count i)) ∙ not_down in
    run_away settings run.start run.len some (low_pages settings valid) (begins_or_ends 32768 run.start (run.start + run.len) (32768 + settings.high_k / 4) above)
    (begins_or_ends 6 run.start (run.start + run.len) (6 + settings.low_k / 4) below)

-- if it isn't in the one, a test of the other is a test of both
pub run_tested : (settings : Settings) (run up down : Run) → settings_valid settings ≡ true → 0 < run.len →
    up.start ≡ (region_on settings Above).first → up.len ≡ (region_on settings Above).count → down.start ≡ (region_on settings Below).first → down.len ≡ (region_on settings Below).count →
    (nat_le up.start run.start && nat_le (run.start + run.len) (up.start + up.len)) ≡ false →
    (nat_le down.start run.start && nat_le (run.start + run.len) (down.start + down.len)) ≡ all_pass (in_a_region settings) run.start run.len
run_tested settings run up down valid some up_first up_count down_first down_count not_up =
    go (nat_le down.start run.start && nat_le (run.start + run.len) (down.start + down.len)) refl where
      go : (b : Bool) → (nat_le down.start run.start && nat_le (run.start + run.len) (down.start + down.len)) ≡ b → b ≡ all_pass (in_a_region settings) run.start run.len
      go true e = sym (run_within settings run Below down down_first down_count e)
      go false e = sym (run_outside settings run up down valid some up_first up_count down_first down_count not_up e)

-- the pages of a sound storage

module _ (settings : Settings) (m : StorageState) (sound : IsSound settings m) where
  abbrev owner_of : ℕ → Option Subpool
  owner_of page = subpool_of m.subpools page

  is_this : (p : Subpool) (o : Option Subpool) → holds (same_subpool p) o ≡ true → o ≡ Some p
  is_this p None e = absurd (true≢false (sym e))
  is_this p (Some q) e = ap Some (sym (same-is p q e))

  -- a page is in the queue of the subpool that it is assigned to, and in no other's
  has_its : (p : Subpool) (page : ℕ) → m.subpools.pages p page ≡ holds (same_subpool p) (owner_of page)
  has_its p page =
      both_answers (m.subpools.pages p page) (holds (same_subpool p) (owner_of page))
      (λ has. ap (holds (same_subpool p)) (sound.named p page has) ∙ same-self p)
      (λ is. (named_pages_are_there m.subpools page).0 p (is_this p (owner_of page) is))

  -- it has a byte if it's assigned
  has_byte : (page : ℕ) → is_some (m.bytes (4096 * page)) ≡ is_some (owner_of page)
  has_byte page =
      let at : (4096 * page) / 4096 ≡ page = omega arith in
      sound.well_formed.pages.has_bytes (4096 * page) ∙ ap (λ k. is_some (owner_of k)) at

-- a page that has a frame and isn't the subpool's is another's
module _ (settings : Settings) (s : Parts) (frameless : IsFrameless s) (sound : ∥ IsSound settings (state_of s) ∥₁) (p : Subpool) (page : ℕ) where
  framed : IsSound settings (state_of s) → is_some (bytes_at s.region page) ≡ is_some (subpool_of (state_of s).subpools page)
  framed h =
      let at : (4096 * page) / 4096 ≡ page = omega arith in
      sym (byte_at-assigned s.region (4096 * page) ∙ ap (λ k. is_some (bytes_at s.region k)) at)
      ∙ ap is_some (sym (byte_shown s frameless (4096 * page))) ∙ has_byte settings (state_of s) h page

  others_of : (o : Option Subpool) → (is_some o && not (holds (same_subpool p) o)) ≡ holds (λ q. not (same_subpool p q)) o
  others_of None = refl
  others_of (Some q) = refl

  is_others_in : IsSound settings (state_of s)
      → (is_some (bytes_at s.region page) && not ((state_of s).subpools.pages p page)) ≡ holds (λ q. not (same_subpool p q)) (subpool_of (state_of s).subpools page)
  is_others_in h =
      (λ i. framed h i && not (has_its settings (state_of s) h p page i)) ∙ others_of (subpool_of (state_of s).subpools page)

  pub is_others : (is_some (bytes_at s.region page) && not ((state_of s).subpools.pages p page)) ≡ holds (λ q. not (same_subpool p q)) (subpool_of (state_of s).subpools page)
  is_others = ∥∥₁_elim sound (Bool-set _ _) (λ h. is_others_in h)

-- if the page has no frame, it's nobody's
pub not_others : (settings : Settings) (s : Parts) → IsFrameless s → ∥ IsSound settings (state_of s) ∥₁ → (p : Subpool) (page : ℕ) → is_some (bytes_at s.region page) ≡ false
    → false ≡ holds (λ q. not (same_subpool p q)) (subpool_of (state_of s).subpools page)
not_others settings s frameless sound p page e =
    ap (λ b. b && not ((state_of s).subpools.pages p page)) (sym e) ∙ is_others settings s frameless sound p page

-- an area and the pages that it touches

module _ (area pages : Run) (some : 0 < area.len) (start : pages.start ≡ area.start / 512) (end : pages.start + pages.len ≡ pages_for (area.start + area.len)) where
  page_in : (k : ℕ) → area.start ≤ k → k < area.start + area.len → (pages.start ≤ k / 512) × (k / 512 < pages.start + pages.len)
  page_in k low high = (omega (arith, start, low), omega (arith, end, high))

  doubleword_in : (page : ℕ) → pages.start ≤ page → page < pages.start + pages.len → (k : ℕ) × (area.start ≤ k) × (k < area.start + area.len) × (k / 512 ≡ page)
  doubleword_in page low high =
      elim (cases_lt (512 * page) area.start) [
        | inl before ↦ (area.start, omega arith, omega (arith, some), omega (arith, start, low, before))
        | inr from ↦ (512 * page, from, omega (arith, end, high), omega arith)
      ]

  module _ (settings : Settings) (m : StorageState) (p : Subpool) where
    abbrev s : State
    s = model_of m

    abbrev foreign : ℕ → Bool
    foreign k = is_foreign settings s p k

    abbrev not_taken : ℕ → Bool
    not_taken k = is_not_taken s p k

    abbrev others : ℕ → Bool
    others page = holds (λ q. not (same_subpool p q)) (s.pages page)

    -- a page that is in no region
    pub is_outside : all_pass (in_a_region settings) pages.start pages.len ≡ false → some_pass foreign area.start area.len ≡ true
    is_outside e =
        true_from_ne_false (some_pass foreign area.start area.len) (λ none.
        true≢false (sym (all_pass_from (in_a_region settings) pages.start pages.len (λ page low high.
        let (k, from, below, at) = doubleword_in page low high in
        let parts = or_parts (not (in_a_region settings (k / 512))) (others (k / 512)) (not_one foreign area.start area.len k none from below) in
        ap (in_a_region settings) (sym at) ∙ not-false (in_a_region settings (k / 512)) parts.0)) ∙ e))

    foreign_in : (k : ℕ) → in_a_region settings (k / 512) ≡ true → foreign k ≡ others (k / 512)
    foreign_in k e = ap (λ b. not b || others (k / 512)) e

    -- in the regions a doubleword is foreign if its page is another subpool's
    pub foreign_where : all_pass (in_a_region settings) pages.start pages.len ≡ true → some_pass others pages.start pages.len ≡ some_pass foreign area.start area.len
    foreign_where e =
        let at_page : (k : ℕ) → area.start ≤ k → k < area.start + area.len → foreign k ≡ others (k / 512) =
        λ k low high. (let its = page_in k low high in foreign_in k (all_pass_at (in_a_region settings) pages.start pages.len (k / 512) e its.0 its.1)) in
        both_answers (some_pass others pages.start pages.len) (some_pass foreign area.start area.len)
        (λ is. true_from_ne_false (some_pass foreign area.start area.len) (λ none.
        true≢false (sym is ∙ none_at others pages.start pages.len (λ page low high.
        let (k, from, below, at) = doubleword_in page low high in
        ap others (sym at) ∙ sym (at_page k from below) ∙ not_one foreign area.start area.len k none from below))))
        (λ is. true_from_ne_false (some_pass others pages.start pages.len) (λ none.
        true≢false (sym is ∙ none_at foreign area.start area.len (λ k low high.
        let its = page_in k low high in
        at_page k low high ∙ not_one others pages.start pages.len (k / 512) none its.0 its.1))))

    module _ (sound : IsSound settings m) where
      -- each page is the subpool's
      module _ (has : all_pass (m.subpools.pages p) pages.start pages.len ≡ true) where
        owned : (k : ℕ) → area.start ≤ k → k < area.start + area.len → subpool_of m.subpools (k / 512) ≡ Some p
        owned k low high =
            let its = page_in k low high in
            sound.named p (k / 512) (all_pass_at (m.subpools.pages p) pages.start pages.len (k / 512) has its.0 its.1)

        not_others_in : some_pass others pages.start pages.len ≡ false
        not_others_in = none_at others pages.start pages.len (λ page low high.
            ap (holds (λ q. not (same_subpool p q))) (sound.named p page (all_pass_at (m.subpools.pages p) pages.start pages.len page has low high))
            ∙ ap not (same-self p))

        is_free_there : (o : Option Subpool) (k : ℕ) → o ≡ Some p → not (holds (same_subpool p) o && is_taken m.subpools o k) ≡ m.subpools.free p k
        is_free_there o k e =
            ap (λ x. not (holds (same_subpool p) x && is_taken m.subpools x k)) e
            ∙ ap (λ b. not (b && not (m.subpools.free p k))) (same-self p) ∙ not-not (m.subpools.free p k)

        taken_in : ((k : ℕ) → area.start ≤ k → k < area.start + area.len → m.subpools.free p k ≡ false) → some_pass not_taken area.start area.len ≡ false
        taken_in none = none_at not_taken area.start area.len (λ k low high. is_free_there (subpool_of m.subpools (k / 512)) k (owned k low high) ∙ none k low high)

        free_in : (k : ℕ) → area.start ≤ k → k < area.start + area.len → m.subpools.free p k ≡ true → some_pass not_taken area.start area.len ≡ true
        free_in k low high e =
            some_at not_taken area.start area.len k low high (is_free_there (subpool_of m.subpools (k / 512)) k (owned k low high) ∙ e)

      -- a page isn't
      missing_in : all_pass (m.subpools.pages p) pages.start pages.len ≡ false → some_pass not_taken area.start area.len ≡ true
      missing_in e =
          true_from_ne_false (some_pass not_taken area.start area.len) (λ none.
          true≢false (sym (all_pass_from (m.subpools.pages p) pages.start pages.len (λ page low high.
          let (k, from, below, at) = doubleword_in page low high in
          let its = not-false (holds (same_subpool p) (s.pages (k / 512)) && s.taken k) (not_one not_taken area.start area.len k none from below) in
          ap (m.subpools.pages p) (sym at) ∙ has_its settings m sound p (k / 512) ∙ (and_parts (holds (same_subpool p) (s.pages (k / 512))) (s.taken k) its).0)) ∙ e))

    module _ (sound : ∥ IsSound settings m ∥₁) where
      pub has_no_others : all_pass (m.subpools.pages p) pages.start pages.len ≡ true → some_pass others pages.start pages.len ≡ false
      has_no_others has = ∥∥₁_elim sound (Bool-set _ _) (λ h. not_others_in h has)

      pub is_all_taken : all_pass (m.subpools.pages p) pages.start pages.len ≡ true → NoneIn (m.subpools.free p) area → some_pass not_taken area.start area.len ≡ false
      is_all_taken has taken =
          ∥∥₁_elim sound (Bool-set _ _) (λ h. taken_in h has (λ k low high. taken k (inside_from area.start area.len k low high)))

      pub is_free_in : all_pass (m.subpools.pages p) pages.start pages.len ≡ true → HasFree (m.subpools.free p) area → some_pass not_taken area.start area.len ≡ true
      is_free_in has its =
          let (k, within, is) = its in
          let at = in_inside area k within in
          ∥∥₁_elim sound (Bool-set _ _) (λ h. free_in h has k at.0 at.1 is)

      pub is_missing : all_pass (m.subpools.pages p) pages.start pages.len ≡ false → some_pass not_taken area.start area.len ≡ true
      is_missing e = ∥∥₁_elim sound (Bool-set _ _) (λ h. missing_in h e)
