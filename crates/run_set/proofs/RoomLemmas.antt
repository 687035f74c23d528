-- The fits of a length, run by run: no number of a run with less room begins a fit.
use Rattle.std.proofs.Common.{◌≡◌, ℕ, zero, suc, ◌+◌, ◌-◌, ◌*◌, ◌/◌, ◌%◌, ◌<◌, ◌≤◌, max, Bool, true, false, ◌||◌, ◌⊎◌, inl, inr, List, [], ◌∷◌, length, Some, refl, sym, ap, ◌∙◌, arith, subst}
use Rattle.std.specs.Prelude.{slice_get}
use Rattle.std.proofs.lemmas.Option.{slice_get-get_or}
use Rattle.run_tree.specs.declared.run.Run.{Run}
use Rattle.run_set.specs.Runs.{inside, contains, Spaced}
use Rattle.run_set.specs.Fits.{Fits, IsLeastFit, IsLongest}
use Rattle.run_set.specs.Clipped.{IsClipped}
use Rattle.run_tree.specs.Shape.{room_of}
use Rattle.run_tree.specs.Searches.{none, run_at, SeeksTo, RoomsTo, IsMost}
use Rattle.run_set.specs.Best.{IsBest}
use Rattle.run_set.proofs.RunLemmas.{inside_true, true_inside, le_or_lt, not_both}
use Rattle.run_set.proofs.PartLemmas.{ends_in, inside_all}
use Rattle.run_set.proofs.FitLemmas.{lies_in, fits_in}

-- a number of the set is in one of the runs
pub held_at : (a : ℕ) (zs : List Run) → contains a zs ≡ true → (i : ℕ) × (i < length zs) × (inside a (run_at zs i) ≡ true)
held_at a [] h = absurd (not_both false h refl)
held_at a (z ∷ zs) h = go (inside a z) refl h (held_at a zs) where
  go : (b : Bool) → inside a z ≡ b → (b || contains a zs) ≡ true → (contains a zs ≡ true → (i : ℕ) × (i < length zs) × (inside a (run_at zs i) ≡ true))
      → (i : ℕ) × (i < suc (length zs)) × (inside a (run_at (z ∷ zs) i) ≡ true)
  go true e k rest = (0, omega arith, e)
  go false e k rest = let r : (i : ℕ) × (i < length zs) × (inside a (run_at zs i) ≡ true) = rest k in (suc r.0, omega (arith, r.1), r.2)

low_at : (low : ℕ) (zs : List Run) (i : ℕ) → Spaced low zs → i < length zs → low ≤ (run_at zs i).start
low_at low [] i h l = absurd (omega arith)
low_at low (z ∷ zs) zero h l = h.0
low_at low (z ∷ zs) (suc i) h l = omega (arith, h.0, low_at (z.start + z.len + 1) zs i h.3 (omega arith))

-- each run ends before the later ones begin
pub apart_at : (low : ℕ) (zs : List Run) (i j : ℕ) → Spaced low zs → i < j → j < length zs → (run_at zs i).start + (run_at zs i).len < (run_at zs j).start
apart_at low [] i j h l m = absurd (omega arith)
apart_at low (z ∷ zs) i zero h l m = absurd (omega arith)
apart_at low (z ∷ zs) zero (suc j) h l m = omega (arith, low_at (z.start + z.len + 1) zs j h.3 (omega arith))
apart_at low (z ∷ zs) (suc i) (suc j) h l m = apart_at (z.start + z.len + 1) zs i j h.3 (omega arith) (omega arith)

pub some_at : (low : ℕ) (zs : List Run) (i : ℕ) → Spaced low zs → i < length zs → 0 < (run_at zs i).len
some_at low [] i h l = absurd (omega arith)
some_at low (z ∷ zs) zero h l = h.1
some_at low (z ∷ zs) (suc i) h l = some_at (z.start + z.len + 1) zs i h.3 (omega arith)

module _ (zs : List Run) (sound : Spaced 0 zs) where
  abbrev set : ℕ → Bool
  set = λ n. contains n zs

  get : (i : ℕ) → i < length zs → slice_get zs i ≡ Some (run_at zs i)
  get i l = slice_get-get_or zs i none l

  apart : (i j : ℕ) → i < j → j < length zs → (run_at zs i).start + (run_at zs i).len < (run_at zs j).start
  apart i j l m = apart_at 0 zs i j sound l m

  -- what fits from a number of a run has room there
  pub room_fits : (on_page : Bool) (i a len boundary : ℕ) (region : Run) → i < length zs → inside a (run_at zs i) ≡ true → (on_page ≡ true → boundary ≡ 512) → Fits set region a len boundary → len ≤ room_of on_page (run_at zs i)
  room_fits false i a len boundary region l h b f =
      let e : a + len ≤ (run_at zs i).start + (run_at zs i).len = ends_in zs i (run_at zs i) sound (get i l) l a len h f.held in
      let p : ((run_at zs i).start ≤ a) × (a < (run_at zs i).start + (run_at zs i).len) = inside_true a (run_at zs i) h in
      omega arith
  room_fits true i a len boundary region l h b f =
      let e : a + len ≤ (run_at zs i).start + (run_at zs i).len = ends_in zs i (run_at zs i) sound (get i l) l a len h f.held in
      let p : ((run_at zs i).start ≤ a) × (a < (run_at zs i).start + (run_at zs i).len) = inside_true a (run_at zs i) h in
      let P : ℕ → Type 0 = λ d. a % d ≡ 0 in
      let on : a % 512 ≡ 0 = subst P (b refl) f.aligned in
      omega arith

  module _ (region : Run) (len boundary : ℕ) (some : 0 < len) where
    -- what a fit says of the region
    in_region : (a : ℕ) → Fits set region a len boundary → (region.start ≤ a) × (a < region.start + region.len)
    in_region a f = inside_true a region (f.within a (omega arith) (omega arith))

    -- no run that ends where the region begins
    pub none_low : (k : ℕ) → SeeksTo region.start zs k → (i : ℕ) → i < k → (a : ℕ) → inside a (run_at zs i) ≡ true → ¬ Fits set region a len boundary
    none_low k g i l a h f = go (le_or_lt (k - 1) i) where
      last : (run_at zs (k - 1)).start + (run_at zs (k - 1)).len ≤ region.start
      last = g.before (omega arith)

      here : (run_at zs i).start + (run_at zs i).len ≤ region.start → ⊥
      here e = absurd (omega (arith, e, inside_true a (run_at zs i) h, in_region a f))

      go : (k - 1 ≤ i) ⊎ (i < k - 1) → ⊥
      go (inl q) = here (let e : k - 1 ≡ i = omega arith in let P : ℕ → Type 0 = λ j. (run_at zs j).start + (run_at zs j).len ≤ region.start in subst P e last)
      go (inr q) = here (omega (arith, last, apart i (k - 1) q (omega (arith, g.within))))

    module _ (place : ℕ) (none_yet : (i : ℕ) → i < place → (a : ℕ) → inside a (run_at zs i) ≡ true → ¬ Fits set region a len boundary) where
      -- nor one that has less room
      pub none_skipped : (on_page : Bool) (k : ℕ) → (on_page ≡ true → boundary ≡ 512) → RoomsTo (room_of on_page) zs place len k → (i : ℕ) → i < k → (a : ℕ) → inside a (run_at zs i) ≡ true → ¬ Fits set region a len boundary
      none_skipped on_page k b g i l a h f = go (le_or_lt place i) where
        go : (place ≤ i) ⊎ (i < place) → ⊥
        go (inr q) = none_yet i q a h f
        go (inl q) = absurd (omega (arith, g.none_before i q l, room_fits on_page i a len boundary region (omega (arith, l, g.within)) h b f))

      -- nowhere, after every run was looked at
      pub none_fits : length zs ≤ place → (a : ℕ) → ¬ Fits set region a len boundary
      none_fits all a f =
          let r : (i : ℕ) × (i < length zs) × (inside a (run_at zs i) ≡ true) = held_at a zs (f.held a (omega arith) (omega arith)) in
          none_yet r.0 (omega (arith, r.1, all)) a r.2 f

      -- or if the next run begins after the region
      pub none_beyond : (y : Run) → place < length zs → slice_get zs place ≡ Some y → region.start + region.len ≤ y.start → (a : ℕ) → ¬ Fits set region a len boundary
      none_beyond y l e behind a f = go (le_or_lt place r.0) where
        r : (i : ℕ) × (i < length zs) × (inside a (run_at zs i) ≡ true)
        r = held_at a zs (f.held a (omega arith) (omega arith))

        at : run_at zs place ≡ y
        at = is_at e where
          is_at : slice_get zs place ≡ Some y → run_at zs place ≡ y
          is_at q = cc (get place l)

        begins : region.start + region.len ≤ (run_at zs place).start
        begins = let P : Run → Type 0 = λ z. region.start + region.len ≤ z.start in subst P (sym at) behind

        go : (place ≤ r.0) ⊎ (r.0 < place) → ⊥
        go (inr q) = none_yet r.0 q a r.2 f
        go (inl q) = go2 (le_or_lt r.0 place) where
          go2 : (r.0 ≤ place) ⊎ (place < r.0) → ⊥
          go2 (inl p) =
              let e2 : place ≡ r.0 = omega arith in
              let P : ℕ → Type 0 = λ j. region.start + region.len ≤ (run_at zs j).start in
              absurd (omega (arith, subst P e2 begins, inside_true a (run_at zs r.0) r.2, in_region a f))
          go2 (inr p) = absurd (omega (arith, begins, apart place r.0 p r.1, inside_true a (run_at zs r.0) r.2, in_region a f))

      module _ (y : Run) (l : place < length zs) (e : slice_get zs place ≡ Some y) (first end : ℕ) (clip : IsClipped y boundary region first end) where
        y-at : run_at zs place ≡ y
        y-at = cc (get place l)

        in_y : (i a : ℕ) → i ≡ place → inside a (run_at zs i) ≡ true → inside a y ≡ true
        in_y i a q h = ap (inside a) (sym (ap (run_at zs) q ∙ y-at)) ∙ h

        pub least_found : first + len ≤ end → IsLeastFit set region first len boundary
        least_found high = record { fits = fits_in zs place y sound e l boundary region first end clip len high; least = λ x less f. go x less f (held_at x zs (f.held x (omega arith) (omega arith))) } where
          go : (x : ℕ) → x < first → Fits set region x len boundary → (i : ℕ) × (i < length zs) × (inside x (run_at zs i) ≡ true) → ⊥
          go x less f r = at_or (le_or_lt place r.0) where
            at_or : (place ≤ r.0) ⊎ (r.0 < place) → ⊥
            at_or (inr q) = none_yet r.0 q x r.2 f
            at_or (inl q) = here_or (le_or_lt r.0 place) where
              here_or : (r.0 ≤ place) ⊎ (place < r.0) → ⊥
              here_or (inl p) = absurd (omega (arith, less, lies_in zs place y sound e l boundary region first end clip x len some (in_y r.0 x (omega arith) r.2) f))
              here_or (inr p) =
                  let P : Run → Type 0 = λ z. z.start + z.len < (run_at zs r.0).start in
                  let b : y.start + y.len < (run_at zs r.0).start = subst P y-at (apart place r.0 p r.1) in
                  absurd (omega (arith, less, high, clip.to_run, b, inside_true x (run_at zs r.0) r.2))

        pub none_here : end < first + len → (k : ℕ) → k ≡ place + 1 → (i : ℕ) → i < k → (a : ℕ) → inside a (run_at zs i) ≡ true → ¬ Fits set region a len boundary
        none_here short k next i below a h f = go (le_or_lt place i) where
          go : (place ≤ i) ⊎ (i < place) → ⊥
          go (inr q) = none_yet i q a h f
          go (inl q) = absurd (omega (arith, short, lies_in zs place y sound e l boundary region first end clip a len some (in_y i a (omega arith) h) f))

  -- the best

  module _ (region : Run) (boundary : ℕ) where
    pub best_none : (from to : ℕ) → ((i : ℕ) → from ≤ i → i < to → (a n : ℕ) → 0 < n → inside a (run_at zs i) ≡ true → ¬ Fits set region a n boundary) → IsBest zs region boundary from to 0
    best_none from to out = record { reached = λ some. absurd (omega arith); greatest = λ i p q a n h f. small i p q a n h f } where
      small : (i : ℕ) → from ≤ i → i < to → (a n : ℕ) → inside a (run_at zs i) ≡ true → Fits set region a n boundary → n ≤ 0
      small i p q a zero h f = omega arith
      small i p q a (suc n) h f = absurd (out i p q a (suc n) (omega arith) h f)

    pub best_join : (from mid to a b m : ℕ) → IsBest zs region boundary from mid a → IsBest zs region boundary mid to b → max a b ≡ m → IsBest zs region boundary from to m
    best_join from mid to a b m f g e = record { reached = λ some. go some (le_or_lt b a); greatest = λ i p q x n h k. one i p q x n h k (le_or_lt mid i) } where
      go : 0 < m → (b ≤ a) ⊎ (a < b) → (x : ℕ) × Fits set region x m boundary
      go some (inl p) =
          let same : a ≡ m = omega (arith, e, p) in
          let P : ℕ → Type 0 = λ n. Fits set region (f.reached (omega (arith, some, same))).0 n boundary in
          ((f.reached (omega (arith, some, same))).0, subst P same (f.reached (omega (arith, some, same))).1)
      go some (inr p) =
          let same : b ≡ m = omega (arith, e, p) in
          let P : ℕ → Type 0 = λ n. Fits set region (g.reached (omega (arith, some, same))).0 n boundary in
          ((g.reached (omega (arith, some, same))).0, subst P same (g.reached (omega (arith, some, same))).1)

      one : (i : ℕ) → from ≤ i → i < to → (x n : ℕ) → inside x (run_at zs i) ≡ true → Fits set region x n boundary → (mid ≤ i) ⊎ (i < mid) → n ≤ m
      one i p q x n h k (inl r) = omega (arith, e, g.greatest i r q x n h k)
      one i p q x n h k (inr r) = omega (arith, e, f.greatest i p r x n h k)

    pub best_longest : (m : ℕ) → IsBest zs region boundary 0 (length zs) m → IsLongest set region m boundary
    best_longest m f = record { reached = f.reached; greatest = λ a n k. go a n k } where
      go : (a n : ℕ) → Fits set region a n boundary → n ≤ m
      go a zero k = omega arith
      go a (suc n) k =
          let r : (i : ℕ) × (i < length zs) × (inside a (run_at zs i) ≡ true) = held_at a zs (k.held a (omega arith) (omega arith)) in
          f.greatest r.0 (omega arith) r.1 a (suc n) r.2 k

    -- one run
    pub best_one : (k j : ℕ) (y : Run) → k < length zs → j ≡ k + 1 → slice_get zs k ≡ Some y → (first end : ℕ) → IsClipped y boundary region first end → (m : ℕ) → m ≡ end - first → IsBest zs region boundary k j m
    best_one k j y l next e first end clip m size = record { reached = λ some. (first, fits_in zs k y sound e l boundary region first end clip m (omega (arith, size, some))); greatest = λ i p q a n h f. go i p q a n h f } where
      y-at : run_at zs k ≡ y
      y-at = cc (get k l)

      go : (i : ℕ) → k ≤ i → i < j → (a n : ℕ) → inside a (run_at zs i) ≡ true → Fits set region a n boundary → n ≤ m
      go i p q a zero h f = omega arith
      go i p q a (suc n) h f =
          let same : i ≡ k = omega (arith, p, q, next) in
          omega (arith, size, lies_in zs k y sound e l boundary region first end clip a (suc n) (omega arith) (ap (inside a) (sym (ap (run_at zs) same ∙ y-at)) ∙ h) f)

    -- runs that lie entirely in the region
    module _ (from to : ℕ) (within : to ≤ length zs) (whole : (i : ℕ) → from ≤ i → i < to → (region.start ≤ (run_at zs i).start) × ((run_at zs i).start + (run_at zs i).len ≤ region.start + region.len)) where
      fits_whole : (i a n : ℕ) → from ≤ i → i < to → a % boundary ≡ 0 → (run_at zs i).start ≤ a → a + n ≤ (run_at zs i).start + (run_at zs i).len → Fits set region a n boundary
      fits_whole i a n p q on low high = record {
        aligned = on;
        held = λ d x y. inside_all zs i (run_at zs i) sound (get i (omega (arith, q, within))) (omega (arith, q, within)) d (true_inside d (run_at zs i) (omega (arith, low, x)) (omega (arith, high, y)));
        within = λ d x y. true_inside d region (omega (arith, low, x, (whole i p q).0)) (omega (arith, high, y, (whole i p q).1));
      }

      pub best_between : (on_page : Bool) (m : ℕ) → (on_page ≡ true → boundary ≡ 512) → (on_page ≡ false → boundary ≡ 1) → IsMost (room_of on_page) zs from to m → IsBest zs region boundary from to m
      best_between on_page m yep nop g = record { reached = λ some. go on_page yep nop (g.reached some) some; greatest = λ i p q a n h f. omega (arith, g.greatest i p q, room_fits on_page i a n boundary region (omega (arith, q, within)) h yep f) } where
        go : (b : Bool) → (b ≡ true → boundary ≡ 512) → (b ≡ false → boundary ≡ 1) → (i : ℕ) × (from ≤ i) × (i < to) × (room_of b (run_at zs i) ≡ m) → 0 < m → (a : ℕ) × Fits set region a m boundary
        go false yep' nop' r some =
            let P : ℕ → Type 0 = λ d. (run_at zs r.0).start % d ≡ 0 in
            ((run_at zs r.0).start, fits_whole r.0 (run_at zs r.0).start m r.1 r.2 (subst P (sym (nop' refl)) (omega arith)) (omega arith) (omega (arith, r.3)))
        go true yep' nop' r some =
            let a : ℕ = ((run_at zs r.0).start + 511) / 512 * 512 in
            let P : ℕ → Type 0 = λ d. (((run_at zs r.0).start + 511) / 512 * 512) % d ≡ 0 in
            (((run_at zs r.0).start + 511) / 512 * 512, fits_whole r.0 (((run_at zs r.0).start + 511) / 512 * 512) m r.1 r.2 (subst P (sym (yep' refl)) (omega arith)) (omega arith) (omega (arith, r.3, some)))

    -- where the searches for the ends of the region lead

    pub best_low : (k : ℕ) → SeeksTo region.start zs k → IsBest zs region boundary 0 k 0
    best_low k g = best_none 0 k (λ i p q a n some h f. none_low region n boundary some k g i q a h f)

    pub best_high : (k : ℕ) → SeeksTo (region.start + region.len) zs k → (j : ℕ) → k < j → IsBest zs region boundary j (length zs) 0
    best_high k g j above = best_none j (length zs) (λ i p q a n some h f. absurd (omega (arith, g.behind (omega (arith, above, p, q)), apart k i (omega (arith, above, p)) q, inside_true a (run_at zs i) h, in_region region n boundary some a f)))

    pub whole_between : (low high : ℕ) → SeeksTo region.start zs low → SeeksTo (region.start + region.len) zs high → (i : ℕ) → low + 1 ≤ i → i < high
        → (region.start ≤ (run_at zs i).start) × ((run_at zs i).start + (run_at zs i).len ≤ region.start + region.len)
    whole_between low high f g i p q = (omega (arith, f.behind (omega (arith, p, q, g.within)), apart low i (omega (arith, p)) (omega (arith, q, g.within))), go (le_or_lt (high - 1) i)) where
      last : (run_at zs (high - 1)).start + (run_at zs (high - 1)).len ≤ region.start + region.len
      last = g.before (omega arith)

      go : (high - 1 ≤ i) ⊎ (i < high - 1) → (run_at zs i).start + (run_at zs i).len ≤ region.start + region.len
      go (inl r) = let e : high - 1 ≡ i = omega arith in let P : ℕ → Type 0 = λ j. (run_at zs j).start + (run_at zs j).len ≤ region.start + region.len in subst P e last
      go (inr r) = omega (arith, last, apart i (high - 1) r (omega (arith, g.within)))

    -- the longest of all, from that of the parts

    module _ (count : ℕ) (all : length zs ≡ count) (low : ℕ) (f : SeeksTo region.start zs low) where
      pub found_none : low ≡ count → IsBest zs region boundary 0 count 0
      found_none e = let P : ℕ → Type 0 = λ n. IsBest zs region boundary 0 n 0 in subst P e (best_low low f)

      to_count : (m : ℕ) → IsBest zs region boundary 0 (length zs) m → IsBest zs region boundary 0 count m
      to_count m g = let P : ℕ → Type 0 = λ n. IsBest zs region boundary 0 n m in subst P all g

      module _ (high : ℕ) (g : SeeksTo (region.start + region.len) zs high) (a : ℕ) (first : IsBest zs region boundary low (low + 1) a) where
        front : IsBest zs region boundary 0 (low + 1) a
        front = best_join 0 low (low + 1) 0 a a (best_low low f) first (omega arith)

        pub found_first : high ≤ low → IsBest zs region boundary 0 count a
        found_first h = to_count a (best_join 0 (low + 1) (length zs) a 0 a front (best_high high g (low + 1) (omega arith)) (omega arith))

        module _ (b : ℕ) (middle : IsBest zs region boundary (low + 1) high b) where
          pub found_middle : (m : ℕ) → high ≡ count → max a b ≡ m → IsBest zs region boundary 0 count m
          found_middle m e size = let P : ℕ → Type 0 = λ n. IsBest zs region boundary 0 n m in subst P e (best_join 0 (low + 1) high a b m front middle size)

          pub found_last : (d m : ℕ) → IsBest zs region boundary high (high + 1) d → max (max a b) d ≡ m → IsBest zs region boundary 0 count m
          found_last d m last size =
              let ab : IsBest zs region boundary 0 high (max a b) = best_join 0 (low + 1) high a b (max a b) front middle refl in
              let abd : IsBest zs region boundary 0 (high + 1) m = best_join 0 high (high + 1) (max a b) d m ab last size in
              to_count m (best_join 0 (high + 1) (length zs) m 0 m abd (best_high high g (high + 1) (omega arith)) (omega arith))
