-- An area that is taken at the first byte of unassigned pages.
use Rattle.std.proofs.Common.{◌≡◌, ℕ, ◌+◌, ◌-◌, ◌<◌, ◌≤◌, Bool, true, false, not, ◌&&◌, ◌||◌, if◌then◌else◌, ◌++◌, Option, Some, None, is_some, refl, sym, ◌∙◌, ap, arith, subst, true≢false}
use Rattle.std.specs.Prelude.{◌^◌, ◌/◌, ◌*◌}
use Rattle.std.proofs.lemmas.Bool.{cond-true, cond-false, and_right, and_parts, false_from_ne_true, not-true}
use Rattle.run_set.specs.Runs.{inside}
use Rattle.vsm_model.specs.declared.Subpool.{Subpool}
use Rattle.vsm_model.specs.declared.limits.Settings.{Settings}
use Rattle.vsm_model.specs.Regions.{pages_for, in_a_region}
use Rattle.vsm_model.specs.Subpools.{same_subpool}
use Rattle.vsm_model.specs.Obtaining.{with_taken, with_pages}
use Rattle.subpool_storage.specs.Subpools.{is_there}
use Rattle.storage_changes.specs.State.{StorageState}
use Rattle.storage_changes.specs.Fits.{FrameIs}
use Rattle.storage_changes.specs.Meaning.{model_of, subpool_of, is_taken, IsSound}
use Rattle.storage_changes.specs.Laws.{CanBe}
use Rattle.storage_changes.proofs.MeaningLemmas.{joined_pages_are_named}
use Rattle.storage_changes.specs.StorageActions.{run_of, own_records, area_records, assigned_records, take_fresh_records, register_records}
use Rattle.storage_changes.specs.Changes.{change_of}
use Rattle.storage_changes.specs.Leads.{with_new}
use Rattle.storage_changes.specs.StorageLaws.{TakingFreshLeads}
use Rattle.storage_changes.proofs.Cases.{same-is}
use Rattle.storage_changes.proofs.ActionCases.{at_self, inside_in, in_inside, not_inside, outside, or_none, none_from, none_some}
use Rattle.storage_changes.proofs.Goes.{at, Goes, goes_on}
use Rattle.storage_changes.proofs.Owned.{place_of, made_is_there, owned_leads, own_records_go}
use Rattle.storage_changes.proofs.Rows.{with_rows, Stands, rows_go, task_is_there, leads_with_rows}
use Rattle.storage_changes.proofs.Records.{freed, owned, paged, assigned, brought_then, given_then, area_goes, assigned_go}

module _ (settings : Settings) (m : StorageState) (p : Subpool) (is_new : Bool) (page count : ℕ) (sound : IsSound settings m) (more : 0 < count) (place : CanBe p)
    (rest : (k : ℕ) → inside k (run_of page (pages_for count)) ≡ true → m.unassigned k ≡ true) where
  abbrev pub n : ℕ
  n = pages_for count

  abbrev pub zeros : ℕ → Option ℕ
  zeros a = if inside (a / 4096) (run_of page n) then Some 0 else None

  -- with the subpool, the pages, and what is left of them
  abbrev pub made : StorageState
  made = owned m p is_new

  abbrev pub got : StorageState
  got = paged (assigned made zeros page n true) p page n true

  abbrev pub all : StorageState
  all = freed got p (512 * page + count) (512 * n - count) true

  enough : (count ≤ 512 * n) × (512 * n < count + 512)
  enough = (omega arith, omega arith)

  -- a page of the run belongs to nobody
  nobody : (k : ℕ) → inside k (run_of page n) ≡ true → subpool_of m.subpools k ≡ None
  nobody k own = none_from (subpool_of m.subpools k)
      (not-true (is_some (subpool_of m.subpools k)) (and_parts (in_a_region settings k) (not (is_some (subpool_of m.subpools k))) (sym (sound.rest k) ∙ rest k own)).1)

  not_had : (q : Subpool) (k : ℕ) → inside k (run_of page n) ≡ true → m.subpools.pages q k ≡ false
  not_had q k own = false_from_ne_true (m.subpools.pages q k) (λ e. none_some q (sym (nobody k own) ∙ sound.named q k e))

  not_free : (q : Subpool) (d : ℕ) → inside (d / 512) (run_of page n) ≡ true → m.subpools.free q d ≡ false
  not_free q d own = false_from_ne_true (m.subpools.free q d) (λ e. true≢false (sym (sound.free q d e) ∙ not_had q (d / 512) own))

  no_bytes : (a : ℕ) → inside (a / 4096) (run_of page n) ≡ true → m.bytes a ≡ None
  no_bytes a own = none_from (m.bytes a) (sound.well_formed.pages.has_bytes a ∙ ap is_some (nobody (a / 4096) own))

  -- the pages that each subpool has then
  pages_in : (k : ℕ) → inside k (run_of page n) ≡ true → all.subpools.pages p k ≡ true
  pages_in k own = cond-true (same_subpool p p && inside k (run_of page n)) true (m.subpools.pages p k) (at_self p (inside k (run_of page n)) own)

  pages_out : (q : Subpool) (k : ℕ) → inside k (run_of page n) ≡ false → all.subpools.pages q k ≡ m.subpools.pages q k
  pages_out q k other =
      cond-false (same_subpool q p && inside k (run_of page n)) true (m.subpools.pages q k) (and_right (same_subpool q p) (inside k (run_of page n)) other)

  only_it : (q : Subpool) (k : ℕ) → inside k (run_of page n) ≡ true → all.subpools.pages q k ≡ true → q ≡ p
  only_it q k own e = go (same_subpool q p) refl e where
    go : (b : Bool) → same_subpool q p ≡ b → (if b && inside k (run_of page n) then true else m.subpools.pages q k) ≡ true → q ≡ p
    go true same h = same-is q p same
    go false other h = absurd (true≢false (sym h ∙ not_had q k own))

  pages_lead : (k : ℕ) → subpool_of all.subpools k ≡ (if inside k (run_of page n) then Some p else subpool_of m.subpools k)
  pages_lead k = joined_pages_are_named m.subpools p (run_of page n) place not_had k

  named_in : (k : ℕ) → inside k (run_of page n) ≡ true → subpool_of all.subpools k ≡ Some p
  named_in k own = pages_lead k ∙ cond-true (inside k (run_of page n)) (Some p) (subpool_of m.subpools k) own

  named_out : (k : ℕ) → inside k (run_of page n) ≡ false → subpool_of all.subpools k ≡ subpool_of m.subpools k
  named_out k other = pages_lead k ∙ cond-false (inside k (run_of page n)) (Some p) (subpool_of m.subpools k) other

  bytes_lead : (a : ℕ) (b : Bool) → (if b then (if b then Some 0 else None) else m.bytes a) ≡ (if b then Some 0 else m.bytes a)
  bytes_lead a true = refl
  bytes_lead a false = refl

  -- what is left of the pages
  left_in : (d : ℕ) → inside d (run_of (512 * page + count) (512 * n - count)) ≡ true → inside (d / 512) (run_of page n) ≡ true
  left_in d own =
      let at = inside_in (512 * page + count) (512 * n - count) d own in
      in_inside page n (d / 512) (omega (arith, at.0)) (omega (arith, at.1, enough.0))

  left_is : (d : ℕ) → inside (d / 512) (run_of page n) ≡ true → inside d (run_of (512 * page) count) ≡ not (inside d (run_of (512 * page + count) (512 * n - count)))
  left_is d own = go (inside d (run_of (512 * page) count)) refl where
    go : (b : Bool) → inside d (run_of (512 * page) count) ≡ b → b ≡ not (inside d (run_of (512 * page + count) (512 * n - count)))
    go true e =
        let at = inside_in (512 * page) count d e in
        ap not (sym (not_inside (512 * page + count) (512 * n - count) d (λ low high. omega (arith, low, at.1))))
    go false e =
        let at = inside_in page n (d / 512) own in
        ap not (sym (in_inside (512 * page + count) (512 * n - count) d
        (omega (arith, at.0, outside (512 * page) count d e)) (omega (arith, at.1, enough.0))))

  area_in : (d : ℕ) → inside (d / 512) (run_of page n) ≡ false → inside d (run_of (512 * page) count) ≡ false
  area_in d other = not_inside (512 * page) count d
      (λ low high. true≢false (sym (in_inside page n (d / 512) (omega (arith, low)) (omega (arith, high, enough.0))) ∙ other))

  free_in : (d : ℕ) (b : Bool) → inside (d / 512) (run_of page n) ≡ true → inside d (run_of (512 * page + count) (512 * n - count)) ≡ b → all.subpools.free p d ≡ b
  free_in d true own e =
      cond-true (same_subpool p p && inside d (run_of (512 * page + count) (512 * n - count))) true (m.subpools.free p d)
      (at_self p (inside d (run_of (512 * page + count) (512 * n - count))) e)
  free_in d false own e =
      cond-false (same_subpool p p && inside d (run_of (512 * page + count) (512 * n - count))) true (m.subpools.free p d)
      (and_right (same_subpool p p) (inside d (run_of (512 * page + count) (512 * n - count))) e)
      ∙ not_free p d own

  free_out : (q : Subpool) (d : ℕ) → inside (d / 512) (run_of page n) ≡ false → all.subpools.free q d ≡ m.subpools.free q d
  free_out q d other =
      cond-false (same_subpool q p && inside d (run_of (512 * page + count) (512 * n - count))) true (m.subpools.free q d)
      (and_right (same_subpool q p) (inside d (run_of (512 * page + count) (512 * n - count)))
      (false_from_ne_true (inside d (run_of (512 * page + count) (512 * n - count))) (λ e. true≢false (sym (left_in d e) ∙ other))))

  taken_out : (d : ℕ) (o : Option Subpool) → inside (d / 512) (run_of page n) ≡ false → is_taken all.subpools o d ≡ is_taken m.subpools o d
  taken_out d None other = refl
  taken_out d (Some q) other = ap not (free_out q d other)

  taken_lead : (d : ℕ) (b : Bool) → inside (d / 512) (run_of page n) ≡ b
      → is_taken all.subpools (subpool_of all.subpools (d / 512)) d ≡ (inside d (run_of (512 * page) count) || is_taken m.subpools (subpool_of m.subpools (d / 512)) d)
  taken_lead d true own =
      ap (λ o. is_taken all.subpools o d) (named_in (d / 512) own)
      ∙ ap not (free_in d (inside d (run_of (512 * page + count) (512 * n - count))) own refl)
      ∙ sym (left_is d own)
      ∙ sym (or_none (inside d (run_of (512 * page) count)) (is_taken m.subpools (subpool_of m.subpools (d / 512)) d) (ap (λ o. is_taken m.subpools o d) (nobody (d / 512) own)))
  taken_lead d false other =
      ap (λ o. is_taken all.subpools o d) (named_out (d / 512) other)
      ∙ taken_out d (subpool_of m.subpools (d / 512)) other
      ∙ ap (λ b. b || is_taken m.subpools (subpool_of m.subpools (d / 512)) d) (sym (area_in d other))

  -- `Stands` holds
  apart_at : (q r : Subpool) (k : ℕ) (b : Bool) → inside k (run_of page n) ≡ b → all.subpools.pages q k ≡ true → all.subpools.pages r k ≡ true → q ≡ r
  apart_at q r k true own e f = only_it q k own e ∙ sym (only_it r k own f)
  apart_at q r k false other e f = sound.apart q r k (sym (pages_out q k other) ∙ e) (sym (pages_out r k other) ∙ f)

  named_at : (q : Subpool) (k : ℕ) (b : Bool) → inside k (run_of page n) ≡ b → all.subpools.pages q k ≡ true → subpool_of all.subpools k ≡ Some q
  named_at q k true own e = named_in k own ∙ ap Some (sym (only_it q k own e))
  named_at q k false other e = named_out k other ∙ sound.named q k (sym (pages_out q k other) ∙ e)

  rest_at : (k : ℕ) (b : Bool) → inside k (run_of page n) ≡ b → (if b then false else m.unassigned k) ≡ (in_a_region settings k && not (is_some (subpool_of all.subpools k)))
  rest_at k true own = sym (and_right (in_a_region settings k) (not (is_some (subpool_of all.subpools k))) (ap (λ o. not (is_some o)) (named_in k own)))
  rest_at k false other = sound.rest k ∙ ap (λ o. in_a_region settings k && not (is_some o)) (sym (named_out k other))

  freed_is : (q : Subpool) (d : ℕ) (b : Bool) → same_subpool q p ≡ b → inside (d / 512) (run_of page n) ≡ true
      → (if b && inside d (run_of (512 * page + count) (512 * n - count)) then true else m.subpools.free q d) ≡ true → q ≡ p
  freed_is q d true same own e = same-is q p same
  freed_is q d false other own e = absurd (true≢false (sym e ∙ not_free q d own))

  free_at : (q : Subpool) (d : ℕ) (b : Bool) → inside (d / 512) (run_of page n) ≡ b → all.subpools.free q d ≡ true → all.subpools.pages q (d / 512) ≡ true
  free_at q d true own e =
      let P : Subpool → Type 0 = λ r. all.subpools.pages r (d / 512) ≡ true in
      subst P (sym (freed_is q d (same_subpool q p) refl own e)) (pages_in (d / 512) own)
  free_at q d false other e = pages_out q (d / 512) other ∙ sound.free q d (sym (free_out q d other) ∙ e)

  pub stands : Stands settings all.subpools all.unassigned
  stands = record {
    apart = λ q r k. apart_at q r k (inside k (run_of page n)) refl;
    named = λ q k. named_at q k (inside k (run_of page n)) refl;
    rest = λ k. rest_at k (inside k (run_of page n)) refl;
    free = λ q d. free_at q d (inside (d / 512) (run_of page n)) refl;
  }

  -- the records lead there
  abbrev pub none : ℕ → Option ℕ
  none a = None

  module _ (there : is_there made.subpools p ≡ true) (high : page + n ≤ 2 ^ 20) where
    frame : (a : ℕ) → inside (a / 4096) (run_of page n) ≡ true → FrameIs true (zeros a) (made.bytes a) (none a)
    frame a own = record {
      there = ap is_some (cond-true (inside (a / 4096) (run_of page n)) (Some 0) None own);
      not_with_other = no_bytes a own;
      not_given = refl;
    }

    pub fresh_go : (s left : ℕ) → 1 ≤ left → left + 3 ≤ s
        → Goes (at made zeros none s) (take_fresh_records p page count) all (brought_then zeros page n) (given_then made none page n true) left
    fresh_go s left some enough_blanks =
        let c = brought_then zeros page n in
        let h = given_then made none page n true in
        goes_on (at made zeros none s) (assigned_records p page n) (area_records p (512 * page + count) (512 * n - count) true) got all c h c h (left + 1) left
        (assigned_go made zeros none s (left + 1) p page n there (omega (arith, more, enough.0)) high rest (λ k own. not_had p k own) frame (omega arith) (omega (arith, enough_blanks)))
        (λ t less. area_goes got c h t left p (512 * page + count) (512 * n - count) true there (omega (arith, high, enough.0))
        (λ d own. not_free p d (left_in d own)) some (omega (arith, less)))

    pub none_left : (a : ℕ) (b : Bool) → ◌≡◌ {A = Option ℕ} (if b then None else (if b then Some 0 else None)) None
    none_left a true = refl
    none_left a false = refl

module _ (settings : Settings) (m : StorageState) (p : Subpool) (page count : ℕ) (sound : IsSound settings m) (more : 0 < count) (place : CanBe p)
    (rest : (k : ℕ) → inside k (run_of page (pages_for count)) ≡ true → m.unassigned k ≡ true) where
  pub fresh_leads : (is_new : Bool) → model_of (all settings m p is_new page count sound more place rest)
      ≡ with_taken (with_pages (with_new (model_of m) p is_new) p page (pages_for count)) (512 * page) count
  fresh_leads true = λ i. record (owned_leads m p true i) {
    pages = λ k. pages_lead settings m p true page count sound more place rest k i;
    taken = λ d. taken_lead settings m p true page count sound more place rest d (inside (d / 512) (run_of page (pages_for count))) refl i;
    bytes = λ a. bytes_lead settings m p true page count sound more place rest a (inside (a / 4096) (run_of page (pages_for count))) i;
  }
  fresh_leads false = λ i. record (owned_leads m p false i) {
    pages = λ k. pages_lead settings m p false page count sound more place rest k i;
    taken = λ d. taken_lead settings m p false page count sound more place rest d (inside (d / 512) (run_of page (pages_for count))) refl i;
    bytes = λ a. bytes_lead settings m p false page count sound more place rest a (inside (a / 4096) (run_of page (pages_for count))) i;
  }

pub taking_fresh_leads : TakingFreshLeads
taking_fresh_leads settings m p is_new page count rows sound own are more high rest formed =
    let place = place_of settings m sound p is_new own in
    let there = made_is_there m p is_new own in
    let records = own_records p is_new ++ take_fresh_records p page count in
    let change = change_of (records ++ register_records m rows) 5 (run_of page (pages_for count)) in
    let none : ℕ → Option ℕ = λ a. None in
    let v = owned m p is_new in
    let n = all settings m p is_new page count sound more place rest in
    let c = brought_then change.frames page (pages_for count) in
    let h = given_then v none page (pages_for count) true in
    leads_with_rows settings m n (records ++ register_records m rows) 5 (run_of page (pages_for count)) c h 1 rows
    (with_taken (with_pages (with_new (model_of m) p is_new) p page (pages_for count)) (512 * page) count)
    (goes_on (at m change.frames none 5) records (register_records m rows) n (with_rows n rows) c h c h 1 1
    (goes_on (at m change.frames none 5) (own_records p is_new) (take_fresh_records p page count) v n change.frames none c h 4 1
    (own_records_go settings m sound change.frames none 5 4 p is_new own (omega arith) (omega arith))
    (λ s less. fresh_go settings m p is_new page count sound more place rest there high s 1 (omega arith) (omega (arith, less))))
    (λ s less. rows_go n c h s 1 rows (task_is_there settings m sound) are less))
    (λ a. none_left settings m p is_new page count sound more place rest there high a (inside (a / 4096) (run_of page (pages_for count))))
    rest (stands settings m p is_new page count sound more place rest) (fresh_leads settings m p page count sound more place rest is_new) formed
