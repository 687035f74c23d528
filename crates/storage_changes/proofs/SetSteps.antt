-- An area of free storage and a run of pages, which join a subpool or leave it, and back.
use Rattle.std.proofs.Common.{◌≡◌, ℕ, ◌<◌, ◌≤◌, Bool, true, false, not, ◌&&◌, if◌then◌else◌, refl, sym, ap, ◌∙◌, arith, subst}
use Rattle.run_set.specs.Runs.{Run, inside}
use Rattle.run_set.specs.Counts.{joins}
use Rattle.run_set.proofs.CountLemmas.{neighbours_stay}
use Rattle.vsm_model.specs.declared.Subpool.{Subpool}
use Rattle.vsm_model.specs.Subpools.{same_subpool}
use Rattle.storage_changes.specs.declared.record.AreaRecord.{AreaRecord}
use Rattle.storage_changes.specs.declared.record.ExtentRecord.{ExtentRecord}
use Rattle.storage_changes.specs.Walk.{Walk, flip, spare_joined, spare_left}
use Rattle.storage_changes.specs.Steps.{area_spare, area_step, extent_spare, extent_step}
use Rattle.storage_changes.specs.Fits.{AreaFits, ExtentFits}
use Rattle.storage_changes.proofs.Cases.{cond-back, cond-in, cond-out, and-left, and-right, and-both, and-false, not-not, same-self, same-is, subpools-same, state-same, walk-same}

-- the blank elements once a run joined a set or left it
abbrev pub spare_after : Bool → ℕ → ℕ → ℕ
spare_after joined spare n = if joined then spare_joined spare n else spare_left spare n

pub spare-back : (b : Bool) (spare n k : ℕ) → k ≡ n → n ≤ 2 → 0 < spare → spare_after (not b) (spare_after b spare n) k ≡ spare
spare-back true spare n k e few room = omega (arith, e, few, room)
spare-back false spare n k e few room = omega (arith, e, few, room)

-- sets by subpool, one of which a run joined or left
abbrev put : (Subpool → ℕ → Bool) → Subpool → Run → Bool → Subpool → ℕ → Bool
put sets p run b q n = if same_subpool q p && inside n run then b else sets q n

module _ (sets : Subpool → ℕ → Bool) (p : Subpool) (run : Run) (b : Bool) (other : (n : ℕ) → inside n run ≡ true → sets p n ≡ not b) where
  outside-same : (n : ℕ) → inside n run ≡ false → put sets p run b p n ≡ sets p n
  outside-same n o = cond-out (same_subpool p p && inside n run) b (sets p n) (and-false (same_subpool p p) (inside n run) o)

  beside : 0 < run.len → (joins (put sets p run b p) run ≡ joins (sets p) run) × (joins (sets p) run ≤ 2)
  beside some = neighbours_stay (sets p) (put sets p run b p) run some outside-same

  put-back : (q : Subpool) (n : ℕ) → put (put sets p run b) p run (not b) q n ≡ sets q n
  put-back q n = cond-back (same_subpool q p && inside n run) (not b) b (sets q n)
      (λ c. sym (other n (and-right (same_subpool q p) (inside n run) c)) ∙ ap (λ x. sets x n) (sym (same-is q p (and-left (same_subpool q p) (inside n run) c))))

  put-other : (n : ℕ) → inside n run ≡ true → put sets p run b p n ≡ not (not b)
  put-other n i = cond-in (same_subpool p p && inside n run) b (sets p n) (and-both (same_subpool p p) (inside n run) (same-self p) i) ∙ sym (not-not b)

module _ (w : Walk) (r : AreaRecord) (h : AreaFits w r) where
  abbrev free-sets : Subpool → ℕ → Bool
  free-sets = w.state.subpools.free

  abbrev area-behind : Walk
  area-behind = flip (area_step w r)

  abbrev area-other : AreaRecord
  area-other = record r { free = not r.free }

  area-spare : area_spare area-behind area-other ≡ w.spare
  area-spare =
      let n = beside free-sets r.subpool r.area r.free h.other h.some in
      spare-back r.free w.spare (joins (free-sets r.subpool) r.area) (joins (put free-sets r.subpool r.area r.free r.subpool) r.area) n.0 n.1 h.room

  pub area-back : area_step area-behind area-other ≡ flip w
  area-back =
      let v = area_step area-behind area-other in
      walk-same v (flip w)
      (state-same v.state w.state refl
      (subpools-same v.state.subpools w.state.subpools (λ task number. refl) (λ p page. refl) (put-back free-sets r.subpool r.area r.free h.other) (λ id. refl))
      (λ page. refl) (λ a. refl))
      (λ a. refl) (λ a. refl) refl area-spare

  pub area-fits : AreaFits area-behind area-other
  area-fits = record {
    there = h.there;
    some = h.some;
    high = h.high;
    other = put-other free-sets r.subpool r.area r.free h.other;
    room = h.room_after;
    room_after = (let P : ℕ → Type 0 = λ n. 0 < n in subst P (sym area-spare) h.room);
  }

module _ (w : Walk) (r : ExtentRecord) (h : ExtentFits w r) where
  abbrev page-sets : Subpool → ℕ → Bool
  page-sets = w.state.subpools.pages

  abbrev extent-behind : Walk
  extent-behind = flip (extent_step w r)

  abbrev extent-other : ExtentRecord
  extent-other = record r { present = not r.present }

  extent-spare : extent_spare extent-behind extent-other ≡ w.spare
  extent-spare =
      let n = beside page-sets r.subpool r.run r.present h.other h.some in
      spare-back r.present w.spare (joins (page-sets r.subpool) r.run) (joins (put page-sets r.subpool r.run r.present r.subpool) r.run) n.0 n.1 h.room

  pub extent-back : extent_step extent-behind extent-other ≡ flip w
  extent-back =
      let v = extent_step extent-behind extent-other in
      walk-same v (flip w)
      (state-same v.state w.state refl
      (subpools-same v.state.subpools w.state.subpools (λ task number. refl) (put-back page-sets r.subpool r.run r.present h.other) (λ p d. refl) (λ id. refl))
      (λ page. refl) (λ a. refl))
      (λ a. refl) (λ a. refl) refl extent-spare

  pub extent-fits : ExtentFits extent-behind extent-other
  extent-fits = record {
    there = h.there;
    some = h.some;
    high = h.high;
    other = put-other page-sets r.subpool r.run r.present h.other;
    room = h.room_after;
    room_after = (let P : ℕ → Type 0 = λ n. 0 < n in subst P (sym extent-spare) h.room);
  }
