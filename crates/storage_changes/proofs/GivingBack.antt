-- An area that is given back, with each page that it empties.
use Rattle.std.proofs.Common.{◌≡◌, ℕ, zero, suc, ◌+◌, ◌-◌, ◌<◌, ◌≤◌, min, Bool, true, false, not, ◌&&◌, ◌⊎◌, if◌then◌else◌, ◌++◌, Option, None, is_some, refl, sym, ◌∙◌, ap, arith, inl, inr, true≢false}
use Rattle.std.specs.Prelude.{◌^◌, ◌/◌, ◌*◌}
use Rattle.std.proofs.lemmas.Bool.{cases_lt, cond-false, and_right}
use Rattle.run_set.specs.Runs.{inside}
use Rattle.vsm_model.specs.declared.Subpool.{Subpool}
use Rattle.vsm_model.specs.declared.limits.Settings.{Settings}
use Rattle.vsm_model.specs.Regions.{in_a_region}
use Rattle.vsm_model.specs.Subpools.{same_subpool}
use Rattle.vsm_model.specs.Releasing.{without_area}
use Rattle.subpool_storage.specs.Subpools.{is_there}
use Rattle.storage_changes.specs.State.{StorageState}
use Rattle.storage_changes.specs.Fits.{FrameIs}
use Rattle.storage_changes.specs.Meaning.{model_of, subpool_of, IsSound}
use Rattle.storage_changes.specs.StorageActions.{run_of, area_records, returned_records, give_back_records, register_records, give_back_blanks}
use Rattle.storage_changes.specs.Changes.{change_of}
use Rattle.storage_changes.specs.Leads.{AreIdle}
use Rattle.storage_changes.specs.StorageLaws.{GivingBackLeads}
use Rattle.storage_changes.proofs.ActionCases.{inside_in, in_inside, not_inside, outside}
use Rattle.storage_changes.proofs.Goes.{at, Goes, goes_on, goes_to}
use Rattle.storage_changes.proofs.Emptied.{without_pages, its, had, free_beside, touched, back_leads, stands}
use Rattle.storage_changes.proofs.Owned.{has_pages}
use Rattle.storage_changes.proofs.Rows.{with_rows, rows_go, task_is_there, leads_with_rows, none_fresh, none_brought}
use Rattle.storage_changes.proofs.Records.{freed, freed_in, freed_out, freed_other, paged, brought_then, given_then, area_goes, returned_go}

module _ (settings : Settings) (m : StorageState) (p : Subpool) (d count page n : ℕ) (sound : IsSound settings m)
    (held : (k : ℕ) → inside k (run_of d count) ≡ true → (m.subpools.pages p (k / 512) ≡ true) × (m.subpools.free p k ≡ false))
    (idle : AreIdle (model_of m) p d count (run_of page (suc n))) (high : d + count ≤ 2 ^ 29) (most : page + suc n ≤ 2 ^ 20) where
  abbrev past : ℕ
  past = 512 * (page + suc n)

  -- what of the area lies before the pages, of the pages before the area, of the area after the pages, and of the pages
  -- after the area
  abbrev freed_before : StorageState
  freed_before = freed m p d (512 * page - d) true

  abbrev taken_before : StorageState
  taken_before = freed freed_before p (512 * page) (d - 512 * page) false

  abbrev freed_behind : StorageState
  freed_behind = freed taken_before p past (d + count - past) true

  abbrev taken_behind : StorageState
  taken_behind = freed freed_behind p (d + count) (past - (d + count)) false

  abbrev pub f : Subpool → ℕ → Bool
  f = taken_behind.subpools.free

  first : (d < 512 * page + 512) × (512 * page < d + count)
  first =
      let (k, own, at) = touched settings m p d count page (suc n) sound held idle page (in_inside page (suc n) page (omega arith) (omega arith)) in
      let within = inside_in d count k own in
      (omega (arith, within.0, at), omega (arith, within.1, at))

  final : (d < past) × (past < d + count + 512)
  final =
      let (k, own, at) = touched settings m p d count page (suc n) sound held idle (page + n) (in_inside page (suc n) (page + n) (omega arith) (omega arith)) in
      let within = inside_in d count k own in
      (omega (arith, within.0, at), omega (arith, within.1, at))

  in_run : (k : ℕ) → 512 * page ≤ k → k < past → inside (k / 512) (run_of page (suc n)) ≡ true
  in_run k low less = in_inside page (suc n) (k / 512) (omega (arith, low)) (omega (arith, less))

  pub others : (q : Subpool) (k : ℕ) → same_subpool q p ≡ false → f q k ≡ m.subpools.free q k
  others q k other =
      freed_other freed_behind p (d + count) (past - (d + count)) false q k other
      ∙ freed_other taken_before p past (d + count - past) true q k other
      ∙ freed_other freed_before p (512 * page) (d - 512 * page) false q k other
      ∙ freed_other m p d (512 * page - d) true q k other

  -- what none of the records touches
  before_pages : (k : ℕ) → (k < d) ⊎ (512 * page ≤ k) → freed_before.subpools.free p k ≡ m.subpools.free p k
  before_pages k away = freed_out m p d (512 * page - d) true p k (not_inside d (512 * page - d) k (λ low less. omega (arith, low, less, away)))

  before_area : (k : ℕ) → (k < 512 * page) ⊎ (d ≤ k) → taken_before.subpools.free p k ≡ freed_before.subpools.free p k
  before_area k away = freed_out freed_before p (512 * page) (d - 512 * page) false p k (not_inside (512 * page) (d - 512 * page) k (λ low less. omega (arith, low, less, away)))

  behind_pages : (k : ℕ) → (k < past) ⊎ (d + count ≤ k) → freed_behind.subpools.free p k ≡ taken_before.subpools.free p k
  behind_pages k away = freed_out taken_before p past (d + count - past) true p k (not_inside past (d + count - past) k (λ low less. omega (arith, low, less, away)))

  behind_area : (k : ℕ) → (k < d + count) ⊎ (past ≤ k) → taken_behind.subpools.free p k ≡ freed_behind.subpools.free p k
  behind_area k away = freed_out freed_behind p (d + count) (past - (d + count)) false p k (not_inside (d + count) (past - (d + count)) k (λ low less. omega (arith, low, less, away)))

  -- the free storage after the records
  pub given : (k : ℕ) → inside k (run_of d count) ≡ true → inside (k / 512) (run_of page (suc n)) ≡ false → f p k ≡ true
  given k own other =
      let at = inside_in d count k own in
      elim (cases_lt k (512 * page)) [
        | inl below ↦
            behind_area k (inl at.1) ∙ behind_pages k (inl (omega (arith, below))) ∙ before_area k (inl below)
            ∙ freed_in m p d (512 * page - d) true k (in_inside d (512 * page - d) k at.0 (omega (arith, below)))
        | inr low ↦
            let high : past ≤ k = (let over = outside page (suc n) (k / 512) other (omega (arith, low)) in omega (arith, over)) in
            behind_area k (inl at.1) ∙ freed_in taken_before p past (d + count - past) true k (in_inside past (d + count - past) k high (omega (arith, at.1)))
      ]

  pub gone : (k : ℕ) → inside (k / 512) (run_of page (suc n)) ≡ true → f p k ≡ false
  gone k own =
      let at = inside_in page (suc n) (k / 512) own in
      let low : 512 * page ≤ k = omega (arith, at.0) in
      let less : k < past = omega (arith, at.1) in
      elim (cases_lt k d) [
        | inl below ↦
            behind_area k (inl (omega (arith, below))) ∙ behind_pages k (inl less)
            ∙ freed_in freed_before p (512 * page) (d - 512 * page) false k (in_inside (512 * page) (d - 512 * page) k low (omega (arith, below)))
        | inr from ↦ elim (cases_lt k (d + count)) [
          | inl within ↦
              behind_area k (inl within) ∙ behind_pages k (inl less) ∙ before_area k (inr from) ∙ before_pages k (inr low)
              ∙ (held k (in_inside d count k from within)).1
          | inr above ↦ freed_in freed_behind p (d + count) (past - (d + count)) false k (in_inside (d + count) (past - (d + count)) k above (omega (arith, less)))
        ]
      ]

  pub kept : (k : ℕ) → inside k (run_of d count) ≡ false → inside (k / 512) (run_of page (suc n)) ≡ false → f p k ≡ m.subpools.free p k
  kept k beside other =
      elim (cases_lt k d) [
        | inl below ↦
            let less : k < 512 * page = elim (cases_lt k (512 * page)) [
              | inl is ↦ is
              | inr low ↦ absurd (true≢false (sym (in_run k low (omega (arith, below, final.0))) ∙ other))
            ] in
            behind_area k (inl (omega (arith, below))) ∙ behind_pages k (inl (omega (arith, below, final.0))) ∙ before_area k (inl less) ∙ before_pages k (inl below)
        | inr from ↦
            let above : d + count ≤ k = outside d count k beside from in
            let high : past ≤ k = elim (cases_lt k past) [
              | inl less ↦ absurd (true≢false (sym (in_run k (omega (arith, above, first.1)) less) ∙ other))
              | inr is ↦ is
            ] in
            behind_area k (inr high) ∙ behind_pages k (inr above) ∙ before_area k (inr from) ∙ before_pages k (inr (omega (arith, above, first.1)))
      ]

  -- each area fits
  there : is_there m.subpools p ≡ true
  there = has_pages settings m sound p page (had settings m p d count page (suc n) sound held idle page (in_inside page (suc n) page (omega arith) (omega arith)))

  was_free : (k : ℕ) → inside (k / 512) (run_of page (suc n)) ≡ true → inside k (run_of d count) ≡ false → m.subpools.free p k ≡ true
  was_free k own other = free_beside settings m p d count page (suc n) sound held idle k own other

  were_taken_before : (k : ℕ) → inside k (run_of d (512 * page - d)) ≡ true → m.subpools.free p k ≡ false
  were_taken_before k own =
      let at = inside_in d (512 * page - d) k own in
      (held k (in_inside d count k at.0 (omega (arith, at.0, at.1, first.1)))).1

  were_free_before : (k : ℕ) → inside k (run_of (512 * page) (d - 512 * page)) ≡ true → freed_before.subpools.free p k ≡ true
  were_free_before k own =
      let at = inside_in (512 * page) (d - 512 * page) k own in
      let less : k < d = omega (arith, at.0, at.1) in
      before_pages k (inl less) ∙ was_free k (in_run k at.0 (omega (arith, less, final.0))) (not_inside d count k (λ low high. omega (arith, low, less)))

  were_taken_behind : (k : ℕ) → inside k (run_of past (d + count - past)) ≡ true → taken_before.subpools.free p k ≡ false
  were_taken_behind k own =
      let at = inside_in past (d + count - past) k own in
      before_area k (inr (omega (arith, at.0, final.0))) ∙ before_pages k (inr (omega (arith, at.0)))
      ∙ (held k (in_inside d count k (omega (arith, at.0, final.0)) (omega (arith, at.0, at.1)))).1

  were_free_behind : (k : ℕ) → inside k (run_of (d + count) (past - (d + count))) ≡ true → freed_behind.subpools.free p k ≡ true
  were_free_behind k own =
      let at = inside_in (d + count) (past - (d + count)) k own in
      let less : k < past = omega (arith, at.0, at.1) in
      let low : 512 * page ≤ k = omega (arith, at.0, first.1) in
      behind_pages k (inl less) ∙ before_area k (inr (omega (arith, at.0))) ∙ before_pages k (inr low)
      ∙ was_free k (in_run k low less) (not_inside d count k (λ from high. omega (arith, at.0, high)))

  -- and so do the pages
  were_assigned : (k : ℕ) → inside k (run_of page (suc n)) ≡ true → m.unassigned k ≡ false
  were_assigned k own =
      sound.rest k
      ∙ and_right (in_a_region settings k) (not (is_some (subpool_of m.subpools k))) (ap (λ o. not (is_some o)) (its settings m p d count page (suc n) sound held idle k own))

  frame : (b : ℕ → Option ℕ) → ((a : ℕ) → b a ≡ None) → (a : ℕ) → inside (a / 4096) (run_of page (suc n)) ≡ true → FrameIs false (b a) (m.bytes a) None
  frame b none a own = record {
    there = sound.well_formed.pages.has_bytes a ∙ ap is_some (its settings m p d count page (suc n) sound held idle (a / 4096) own);
    not_with_other = none a;
    not_given = refl;
  }

  abbrev nothing : ℕ → Option ℕ
  nothing a = None

  -- of the areas on either side one has a doubleword at most
  areas_go :
      (b : ℕ → Option ℕ) → Goes (at m b nothing 5)
      (area_records p d (512 * page - d) true ++ area_records p (512 * page) (d - 512 * page) false ++ area_records p past (d + count - past) true
      ++ area_records p (d + count) (past - (d + count)) false) taken_behind b nothing 3
  areas_go b =
      let freeing_before = area_records p d (512 * page - d) true in
      let taking_before = area_records p (512 * page) (d - 512 * page) false in
      let freeing_behind = area_records p past (d + count - past) true in
      let taking_behind = area_records p (d + count) (past - (d + count)) false in
      let w = at m b nothing 5 in
      let before : ℕ = 5 - min 1 (512 * page - d) in
      let behind : ℕ = 4 - min 1 (d + count - past) in
      goes_on w (freeing_before ++ taking_before ++ freeing_behind) taking_behind freed_behind taken_behind b nothing b nothing behind 3
      (goes_on w (freeing_before ++ taking_before) freeing_behind taken_before freed_behind b nothing b nothing 4 behind
      (goes_on w freeing_before taking_before freed_before taken_before b nothing b nothing before 4
      (area_goes m b nothing 5 before p d (512 * page - d) true there (omega (arith, high, most)) were_taken_before (omega arith) (omega arith))
      (λ s less. area_goes freed_before b nothing s 4 p (512 * page) (d - 512 * page) false there (omega (arith, high, most)) were_free_before (omega arith) (omega (arith, less))))
      (λ s less. area_goes taken_before b nothing s behind p past (d + count - past) true there (omega (arith, high, most)) were_taken_behind (omega arith) (omega (arith, less))))
      (λ s less. area_goes freed_behind b nothing s 3 p (d + count) (past - (d + count)) false there (omega (arith, high, most)) were_free_behind (omega arith) (omega (arith, less)))

  pub emptying_goes :
      (b : ℕ → Option ℕ) → ((a : ℕ) → b a ≡ None) → Goes (at m b nothing 5) (give_back_records p d count page (suc n)) (without_pages m p (run_of page (suc n)) f)
      (brought_then b page (suc n)) (given_then (paged taken_behind p page (suc n) false) nothing page (suc n) false) 1
  emptying_goes b none =
      goes_on (at m b nothing 5)
      (area_records p d (512 * page - d) true ++ area_records p (512 * page) (d - 512 * page) false ++ area_records p past (d + count - past) true
      ++ area_records p (d + count) (past - (d + count)) false)
      (returned_records p page (suc n)) taken_behind (without_pages m p (run_of page (suc n)) f) b nothing (brought_then b page (suc n))
      (given_then (paged taken_behind p page (suc n) false) nothing page (suc n) false) 3 1 (areas_go b)
      (λ s less. returned_go taken_behind b nothing s 1 p page n there most were_assigned (had settings m p d count page (suc n) sound held idle) (frame b none) (omega arith) (omega (arith, less)))

  pub none_left : (b : ℕ → Option ℕ) → ((a : ℕ) → b a ≡ None) → (a : ℕ) → brought_then b page (suc n) a ≡ None
  none_left b none a = go (inside (a / 4096) (run_of page (suc n))) (b a) (none a) where
    go : (c : Bool) (o : Option ℕ) → o ≡ None → (if c then None else o) ≡ None
    go true o e = refl
    go false o e = e

-- no page leaves
module _ (settings : Settings) (m : StorageState) (p : Subpool) (d count page : ℕ) (sound : IsSound settings m) (more : 0 < count)
    (held : (k : ℕ) → inside k (run_of d count) ≡ true → (m.subpools.pages p (k / 512) ≡ true) × (m.subpools.free p k ≡ false)) where
  abbrev alone : Subpool → ℕ → Bool
  alone = (freed m p d count true).subpools.free

  no_page : (k : ℕ) → inside k (run_of page 0) ≡ false
  no_page k = not_inside page 0 k (λ low high. omega (arith, low, high))

  none_leaves : freed m p d count true ≡ without_pages m p (run_of page 0) alone
  none_leaves = λ i. record m {
    subpools = record (freed m p d count true).subpools {
      pages = λ q k. sym (cond-false (same_subpool q p && inside k (run_of page 0)) false (m.subpools.pages q k)
          (and_right (same_subpool q p) (inside k (run_of page 0)) (no_page k))) i;
    };
    unassigned = λ k. sym (cond-false (inside k (run_of page 0)) true (m.unassigned k) (no_page k)) i;
    bytes = λ a. sym (cond-false (inside (a / 4096) (run_of page 0)) None (m.bytes a) (no_page (a / 4096))) i;
  }

  alone_gone : (k : ℕ) → inside (k / 512) (run_of page 0) ≡ true → alone p k ≡ false
  alone_gone k own = absurd (true≢false (sym own ∙ no_page (k / 512)))

  alone_goes : (b g : ℕ → Option ℕ) → d + count ≤ 2 ^ 29 → Goes (at m b g 2) (area_records p d count true) (without_pages m p (run_of page 0) alone) b g 1
  alone_goes b g high =
      goes_to (at m b g 2) (area_records p d count true) (freed m p d count true) (without_pages m p (run_of page 0) alone) b g 1 none_leaves
      (area_goes m b g 2 1 p d count true (has_pages settings m sound p (d / 512) (held d (in_inside d count d (omega arith) (omega (arith, more)))).0) high
      (λ k own. (held k own).1) (omega arith) (omega arith))

-- a blank element or more, and five at most
pub blanks_few : (n : ℕ) → (1 ≤ give_back_blanks n) × (give_back_blanks n ≤ 5)
blanks_few zero = (omega arith, omega arith)
blanks_few (suc n) = (omega arith, omega arith)

pub giving_back_leads : GivingBackLeads
giving_back_leads settings m p d count page zero rows sound are more high most held idle formed =
    let records = give_back_records p d count page 0 in
    let change = change_of (records ++ register_records m rows) 2 (run_of 0 0) in
    let none : ℕ → Option ℕ = λ a. None in
    let f = (freed m p d count true).subpools.free in
    let n = without_pages m p (run_of page 0) f in
    let others = freed_other m p d count true in
    let given : (k : ℕ) → inside k (run_of d count) ≡ true → inside (k / 512) (run_of page 0) ≡ false → f p k ≡ true = λ k own other. freed_in m p d count true k own in
    let gone = alone_gone settings m p d count page sound more held in
    let kept : (k : ℕ) → inside k (run_of d count) ≡ false → inside (k / 512) (run_of page 0) ≡ false → f p k ≡ m.subpools.free p k = λ k beside other. freed_out m p d count true p k beside in
    leads_with_rows settings m n (records ++ register_records m rows) 2 (run_of 0 0) change.frames none 1 rows (without_area (model_of m) p d count)
    (goes_on (at m change.frames none 2) records (register_records m rows) n (with_rows n rows) change.frames none change.frames none 1 1
    (alone_goes settings m p d count page sound more held change.frames none high)
    (λ s less. rows_go n change.frames none s 1 rows (task_is_there settings m sound) are less))
    none_brought (none_fresh m)
    (stands settings m p d count page 0 sound held idle f others given gone kept)
    (back_leads settings m p d count page 0 sound held idle f others given gone kept) formed
giving_back_leads settings m p d count page (suc k) rows sound are more high most held idle formed =
    let records = give_back_records p d count page (suc k) in
    let change = change_of (records ++ register_records m rows) 5 (run_of 0 0) in
    let none : ℕ → Option ℕ = λ a. None in
    let free = f settings m p d count page k sound held idle high most in
    let n = without_pages m p (run_of page (suc k)) free in
    let c = brought_then change.frames page (suc k) in
    let h = given_then (paged (taken_behind settings m p d count page k sound held idle high most) p page (suc k) false) none page (suc k) false in
    leads_with_rows settings m n (records ++ register_records m rows) 5 (run_of 0 0) c h 1 rows (without_area (model_of m) p d count)
    (goes_on (at m change.frames none 5) records (register_records m rows) n (with_rows n rows) c h c h 1 1
    (emptying_goes settings m p d count page k sound held idle high most change.frames none_brought)
    (λ s less. rows_go n c h s 1 rows (task_is_there settings m sound) are less))
    (none_left settings m p d count page k sound held idle high most change.frames none_brought) (none_fresh m)
    (stands settings m p d count page (suc k) sound held idle free (others settings m p d count page k sound held idle high most)
    (given settings m p d count page k sound held idle high most) (gone settings m p d count page k sound held idle high most)
    (kept settings m p d count page k sound held idle high most))
    (back_leads settings m p d count page (suc k) sound held idle free (others settings m p d count page k sound held idle high most)
    (given settings m p d count page k sound held idle high most) (gone settings m p d count page k sound held idle high most)
    (kept settings m p d count page k sound held idle high most)) formed
