-- The free storage of a subpool once areas are given back, and the records by which they are.
use Rattle.std.proofs.Common.{◌≡◌, ℕ, zero, suc, ◌+◌, ◌*◌, ◌/◌, ◌^◌, ◌<◌, ◌≤◌, Bool, true, false, ◌&&◌, ◌||◌, if◌then◌else◌, List, [], ◌∷◌, ◌++◌, refl, sym, ap, ◌∙◌, subst, arith, append_assoc, inl, inr}
use Rattle.std.proofs.lemmas.Bool.{cases_lt, or_cases}
use Rattle.std.specs.Prelude.{All, Option, Some, None, IsSome, IfSome, option_map, slice_get}
use Rattle.std.proofs.lemmas.Option.{slice_get-map}
use Rattle.std.proofs.lemmas.List.{append-nil}
use Rattle.std.proofs.lemmas.List.Elements.{All-head, All-tail, All-cons, All-nil}
use Rattle.run_set.specs.Runs.{Run, inside, contains}
use Rattle.vsm_model.specs.declared.Subpool.{Subpool}
use Rattle.vsm_model.specs.Regions.{doublewords}
use Rattle.vsm_model.specs.Subpools.{same_subpool}
use Rattle.cell_pool.specs.declared.settings.Extent.{Extent}
use Rattle.cell_pool.specs.declared.settings.CellSettings.{CellSettings as PoolSettings}
use Rattle.cell_pool.specs.Pools.{Pool}
use Rattle.subpool_storage.specs.Subpools.{Subpools, with_free}
use Rattle.storage_changes.specs.declared.record.Record.{Record}
use Rattle.storage_changes.proofs.Cases.{same-self}
use Rattle.storage_changes.specs.StorageActions.{emptied_pages, give_back_records, run_of}
use Rattle.storage_changes.proofs.ActionCases.{same_answers}
use Rattle.storage_changes.specs.CellActions.{extents_given_back}
use Rattle.cell_plans.specs.Areas.{areas_of}
use Rattle.cell_plans.specs.Emptied.{area_of, freed}
use Rattle.cell_plans.proofs.FreeEnds.{inside_from, in_inside, or_here, or_there}

-- a doubleword is free if it was, or if an area has it
freed_or : (same own later was : Bool) → same ≡ true → (later || (if same && own then true else was)) ≡ ((own || later) || was)
freed_or true true true was e = refl
freed_or true true false was e = refl
freed_or true false true was e = refl
freed_or true false false was e = refl
freed_or false own later was e = cc

pub freed_at : (m : Subpools) (p : Subpool) (areas : List Run) (d : ℕ) → (freed m p areas).free p d ≡ (contains d areas || m.free p d)
freed_at m p [] d = refl
freed_at m p (area ∷ areas) d =
    freed_at (with_free m p area true) p areas d
    ∙ freed_or (same_subpool p p) (inside d area) (contains d areas) (m.free p d) (same-self p)

-- another area
pub freed_more : (m : Subpools) (p : Subpool) (areas : List Run) (area : Run) → freed m p (areas ++ area ∷ []) ≡ with_free (freed m p areas) p area true
freed_more m p [] area = refl
freed_more m p (one ∷ areas) area = freed_more (with_free m p one true) p areas area

pub all_and : (P : Run → Type 0) (areas : List Run) (area : Run) → All P areas → P area → All P (areas ++ area ∷ [])
all_and P [] area h its = All-cons P area [] its (All-nil P)
all_and P (one ∷ areas) area h its = All-cons P one (areas ++ area ∷ []) (All-head P one areas h) (all_and P areas area (All-tail P one areas h) its)

-- two areas, of which the second begins at the end of the first, have the doublewords of one
abbrev pub joined : Run → Run → Run
joined a b = run_of a.start (a.len + b.len)

pub inside_joined : (a b : Run) (d : ℕ) → a.start + a.len ≡ b.start → inside d (joined a b) ≡ (inside d a || inside d b)
inside_joined a b d e =
    same_answers (inside d (joined a b)) (inside d a || inside d b)
    (λ h. let at = in_inside (joined a b) d h in elim (cases_lt d b.start) [
      | inl less ↦ or_here (inside d a) (inside d b) (inside_from a d at.0 (omega (arith, less, e)))
      | inr more ↦ or_there (inside d a) (inside d b) (inside_from b d more (omega (arith, at.1, e)))
    ])
    (λ h. elim (or_cases (inside d a) (inside d b) h) [
      | inl own ↦ let at = in_inside a d own in inside_from (joined a b) d at.0 (omega (arith, at.1))
      | inr own ↦ let at = in_inside b d own in inside_from (joined a b) d (omega (arith, at.0, e)) (omega (arith, at.1, e))
    ])

free_in_both : (same one two was : Bool) → (if same && (one || two) then true else was) ≡ (if same && two then true else if same && one then true else was)
free_in_both true true true was = refl
free_in_both true true false was = refl
free_in_both true false true was = refl
free_in_both true false false was = refl
free_in_both false one two was = refl

freed_joined : (u : Subpools) (p : Subpool) (a b : Run) → a.start + a.len ≡ b.start → with_free u p (joined a b) true ≡ with_free (with_free u p a true) p b true
freed_joined u p a b e =
    λ i. record u {
      free = λ q d. (ap (λ c. if same_subpool q p && c then true else u.free q d) (inside_joined a b d e)
          ∙ free_in_both (same_subpool q p) (inside d a) (inside d b) (u.free q d)) i;
    }

-- another area, which may be joined to the last one
module _ (m : Subpools) (p : Subpool) (old front now : List Run) (last area : Run) (was : old ≡ front ++ last ∷ []) where
  pub freed_as_one : last.start + last.len ≡ area.start → now ≡ front ++ joined last area ∷ [] → freed m p now ≡ with_free (freed m p old) p area true
  freed_as_one e is =
      ap (freed m p) is ∙ freed_more m p front (joined last area) ∙ freed_joined (freed m p front) p last area e
      ∙ sym (ap (λ u. with_free u p area true) (ap (freed m p) was ∙ freed_more m p front last))

pub freed_apart : (m : Subpools) (p : Subpool) (old now : List Run) (area : Run) → now ≡ old ++ area ∷ [] → freed m p now ≡ with_free (freed m p old) p area true
freed_apart m p old now area is = ap (freed m p) is ∙ freed_more m p old area

-- an extent has a doubleword, and ends in storage
abbrev pub EndsLow : ℕ → Extent → Type 0
EndsLow size x =
    (0 < doublewords (x.count * size)) × (x.count * size < 2 ^ 32) × (x.start / 8 + doublewords (x.count * size) ≤ 2 ^ 29)

-- what holds of all holds of each
all_at : {A : Type 0} (P : A → Type 0) (xs : List A) (k : ℕ) (x : A) → All P xs → slice_get xs k ≡ Some x → P x
all_at P [] k x h e = absurd (no e) where
  no : None ≡ Some x → ⊥
  no e = cc
all_at P (y ∷ ys) zero x h e = let same : y ≡ x = cc in subst P same (All-head P y ys h)
all_at P (y ∷ ys) (suc k) x h e = all_at P ys k x (All-tail P y ys h) e

-- the extent of a number, by what the cell pool has, if it exists
module _ (o : Option Pool) (there : IsSome o) (settings : PoolSettings) (are : IfSome o (λ p. settings ≡ p.settings)) (x : Option Extent) (k : ℕ) (is : IfSome o (λ p. x ≡ slice_get p.extents k)) where
  pub area_there : slice_get (areas_of o) k ≡ option_map (area_of settings.size) x
  area_there = go o there are is where
    go : (o : Option Pool) → IsSome o → IfSome o (λ p. settings ≡ p.settings) → IfSome o (λ p. x ≡ slice_get p.extents k) → slice_get (areas_of o) k ≡ option_map (area_of settings.size) x
    go None h a i = cc
    go (Some p) h a i = slice_get-map (area_of p.settings.size) p.extents k ∙ ap (option_map (area_of p.settings.size)) (sym i) ∙ ap (λ (z : PoolSettings). option_map (area_of z.size) x) (sym a)

  pub ends_there : IfSome o (λ p. All (EndsLow p.settings.size) p.extents) → (y : Extent) → x ≡ Some y → EndsLow settings.size y
  ends_there low y e = go o there are is low where
    go : (o : Option Pool) → IsSome o → IfSome o (λ p. settings ≡ p.settings) → IfSome o (λ p. x ≡ slice_get p.extents k) → IfSome o (λ p. All (EndsLow p.settings.size) p.extents) → EndsLow settings.size y
    go None h a i l = cc
    go (Some p) h a i l = let P : PoolSettings → Type 0 = λ z. EndsLow z.size y in subst P (sym a) (all_at (EndsLow p.settings.size) p.extents k y l (sym i ∙ e))

-- The records of the next extent move over, and those of the others are left.
module _ (m : Subpools) (p : Subpool) (size : ℕ) (given : List Run) (x : Extent) (rest left : List Extent) (is : left ≡ x ∷ rest) where
  abbrev area : Run
  area = area_of size x

  abbrev pages : Run
  pages = emptied_pages (freed m p given) p area.start area.len

  abbrev its : List Record
  its = give_back_records p area.start area.len pages.start pages.len

  pub records_go_over :
      (records then_records whole : List Record) (now : List Run) → records ++ extents_given_back (freed m p given) p size left ≡ whole
      → then_records ≡ records ++ its → freed m p now ≡ with_free (freed m p given) p area true → then_records ++ extents_given_back (freed m p now) p size rest ≡ whole
  records_go_over records then_records whole now e at more =
      let behind : Subpools → List Record = λ u. extents_given_back u p size rest in
      ap (λ zs. zs ++ behind (freed m p now)) at
      ∙ append_assoc records its (behind (freed m p now))
      ∙ ap (λ u. records ++ (its ++ behind u)) more
      ∙ ap (λ xs. records ++ extents_given_back (freed m p given) p size xs) (sym is)
      ∙ e

-- and if no extent is left, no record is missing
pub records_are_over : (m : Subpools) (p : Subpool) (size : ℕ) (left : List Extent) (records whole : List Record) → left ≡ [] → records ++ extents_given_back m p size left ≡ whole → records ≡ whole
records_are_over m p size left records whole none e =
    sym (append-nil records) ∙ ap (λ xs. records ++ extents_given_back m p size xs) (sym none) ∙ e
