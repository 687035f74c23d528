-- The extents of a subpool are the maximal runs of its pages, and its free areas those of its free doublewords.
use Rattle.std.proofs.Common.{◌≡◌, ℕ, zero, suc, ◌+◌, ◌-◌, ◌^◌, ◌<◌, ◌≤◌, ◌==◌, inl, inr, Bool, true, false, ◌||◌, if◌then◌else◌, List, [], ◌∷◌, length, map, Some, refl, sym, ap, ◌∙◌, arith, subst}
use Rattle.std.proofs.lemmas.List.{length-map}
use Rattle.std.proofs.lemmas.Bool.{cases_eq, both_ways, eqb-true, eq-eqb, false_from_ne_true}
use Rattle.run_set.specs.Runs.{Run, inside, contains, Spaced, AreRunsOf}
use Rattle.run_set.proofs.RunLemmas.{true_inside, Spaced-low, le_or_lt}
use Rattle.run_set.proofs.PartLemmas.{before, outside}
use Rattle.run_set.proofs.OneLemmas.{runs_one}
use Rattle.vsm_elements.specs.Store.{Store}
use Rattle.vsm_elements.specs.Owners.{times}
use Rattle.vsm_elements.proofs.TimesLemmas.{times-append}
use Rattle.descriptor_queue.specs.Extents
use Rattle.free_queue.specs.FreeQueue
use Rattle.subpool_set.specs.Pools.{Pool}
use Rattle.subpool_set.specs.SubpoolSet.{pool}
use Rattle.subpool_storage.specs.declared.storage.SubpoolStorage.{SubpoolStorage}
use Rattle.subpool_storage.specs.SubpoolStorage.{hold, Stands}
use Rattle.subpool_storage.proofs.PutLemmas.{part_of}
use Rattle.vsm_model.specs.Runs.{with_first, runs}
use Rattle.vsm_model.specs.declared.Subpool.{Subpool}
use Rattle.subpool_storage.specs.Subpools.{Subpools}
use Rattle.subpool_storage.specs.Extents.{run_in, extents, free_areas, ExtentsAreRuns, ExtentsAreFew, FreeAreasAreRuns}

-- another number before the runs: the first run begins right after it, or doesn't
data Fronted (k : ℕ) (xs ys : List (ℕ × ℕ)) : Type 0 where
  alone : ys ≡ (k, 1) ∷ xs → Spaced (k + 2) (map run_in xs) → Fronted k xs ys
  joined : (n : ℕ) (rest : List (ℕ × ℕ)) → xs ≡ (suc k, n) ∷ rest → ys ≡ (k, suc n) ∷ rest → Fronted k xs ys

fronted : (k : ℕ) (xs : List (ℕ × ℕ)) → Spaced (suc k) (map run_in xs) → Fronted k xs (with_first k xs)
fronted k [] h = alone refl tt
fronted k (x ∷ xs) h = elim (cases_eq x.0 (suc k)) [
  | inl e ↦ joined x.1 xs (λ i. (e i, x.1) ∷ xs) (ap (λ (b : Bool). if b then (k, suc x.1) ∷ xs else (k, 1) ∷ x ∷ xs) (eq-eqb x.0 (suc k) e))
  | inr ne ↦ alone (ap (λ (b : Bool). if b then (k, suc x.1) ∷ xs else (k, 1) ∷ x ∷ xs) (false_from_ne_true (x.0 == suc k) (λ e. ne (eqb-true x.0 (suc k) e))))
      (omega (arith, h.0, ne), h.1, h.2, h.3)
]

fronted_spaced : (k : ℕ) (xs ys : List (ℕ × ℕ)) → Fronted k xs ys → k + 1 ≤ 2 ^ 29 → Spaced (suc k) (map run_in xs) → Spaced k (map run_in ys)
fronted_spaced k xs ys (alone e far) high h =
    let P : List (ℕ × ℕ) → Type 0 = λ z. Spaced k (map run_in z) in
    let Q : ℕ → Type 0 = λ z. Spaced z (map run_in xs) in
    subst P (sym e) (omega arith, omega arith, high, subst Q (omega arith) far)
fronted_spaced k xs ys (joined n rest e f) high h =
    let P : List (ℕ × ℕ) → Type 0 = λ z. Spaced k (map run_in z) in
    let Q : ℕ → Type 0 = λ z. Spaced z (map run_in rest) in
    let R : List (ℕ × ℕ) → Type 0 = λ z. Spaced (suc k) (map run_in z) in
    let g : Spaced (suc k) (map run_in ((suc k, n) ∷ rest)) = subst R e h in
    let top : suc k + n ≤ 2 ^ 29 = g.2 in
    subst P (sym f) (omega arith, omega arith, omega (arith, top), subst Q (omega arith) g.3)

fronted_first : (k : ℕ) (xs ys : List (ℕ × ℕ)) → Fronted k xs ys → contains k (map run_in ys) ≡ true
fronted_first k xs ys (alone e far) = ap (λ (z : List (ℕ × ℕ)). contains k (map run_in z)) e ∙ ap (λ (b : Bool). b || contains k (map run_in xs)) (true_inside k (run_in (k, 1)) (omega arith) (omega arith))
fronted_first k xs ys (joined n rest e f) = ap (λ (z : List (ℕ × ℕ)). contains k (map run_in z)) f ∙ ap (λ (b : Bool). b || contains k (map run_in rest)) (true_inside k (run_in (k, suc n)) (omega arith) (omega arith))

-- after its first number a run is the one without it
one_later : (k n m : ℕ) → k < m → inside m (run_in (k, suc n)) ≡ inside m (run_in (suc k, n))
one_later k n m l = elim (le_or_lt (suc k + n) m) [
  | inl q ↦ outside m (run_in (k, suc n)) (inr (omega (arith, q))) ∙ sym (outside m (run_in (suc k, n)) (inr q))
  | inr q ↦ true_inside m (run_in (k, suc n)) (omega (arith, l)) (omega (arith, q)) ∙ sym (true_inside m (run_in (suc k, n)) (omega (arith, l)) q)
]

fronted_later : (k : ℕ) (xs ys : List (ℕ × ℕ)) (m : ℕ) → Fronted k xs ys → k < m → contains m (map run_in ys) ≡ contains m (map run_in xs)
fronted_later k xs ys m (alone e far) l = ap (λ (z : List (ℕ × ℕ)). contains m (map run_in z)) e ∙ ap (λ (b : Bool). b || contains m (map run_in xs)) (outside m (run_in (k, 1)) (inr (omega (arith, l))))
fronted_later k xs ys m (joined n rest e f) l = ap (λ (z : List (ℕ × ℕ)). contains m (map run_in z)) f ∙ ap (λ (b : Bool). b || contains m (map run_in rest)) (one_later k n m l) ∙ sym (ap (λ (z : List (ℕ × ℕ)). contains m (map run_in z)) e)

-- it's at most one more run, for any runs
fronted_length : (k : ℕ) (xs : List (ℕ × ℕ)) → length (with_first k xs) ≤ suc (length xs)
fronted_length k [] = omega arith
fronted_length k (x ∷ xs) = go (x.0 == suc k) where
  go : (b : Bool) → length (if b then (k, suc x.1) ∷ xs else (k, 1) ∷ x ∷ xs) ≤ suc (suc (length xs))
  go true = omega arith
  go false = omega arith

module _ (f : ℕ → Bool) where
  -- the runs with another number, if it passes and if it doesn't
  none_more : (k n : ℕ) → f k ≡ false → runs f k (suc n) ≡ runs f (suc k) n
  none_more k n e = ap (λ (b : Bool). if b then with_first k (runs f (suc k) n) else runs f (suc k) n) e

  one_more : (k n : ℕ) → f k ≡ true → runs f k (suc n) ≡ with_first k (runs f (suc k) n)
  one_more k n e = ap (λ (b : Bool). if b then with_first k (runs f (suc k) n) else runs f (suc k) n) e

  record Are (k n : ℕ) (xs : List (ℕ × ℕ)) : Type 0 where
    spaced : Spaced k (map run_in xs)
    within : (m : ℕ) → k ≤ m → m < k + n → contains m (map run_in xs) ≡ f m
    behind : (m : ℕ) → k + n ≤ m → contains m (map run_in xs) ≡ false

  without : (k n : ℕ) (xs : List (ℕ × ℕ)) → f k ≡ false → Are (suc k) n xs → Are k (suc n) xs
  without k n xs e h = record {
    spaced = Spaced-low (suc k) k (map run_in xs) h.spaced (omega arith);
    within = λ m l u. elim (cases_eq k m) [
      | inl q ↦ before (suc k) m (map run_in xs) h.spaced (omega (arith, q)) ∙ sym (sym (ap f q) ∙ e)
      | inr q ↦ h.within m (omega (arith, l, q)) (omega (arith, u))
    ];
    behind = λ m l. h.behind m (omega (arith, l));
  }

  with : (k n : ℕ) (xs ys : List (ℕ × ℕ)) → f k ≡ true → Fronted k xs ys → k + suc n ≤ 2 ^ 29 → Are (suc k) n xs → Are k (suc n) ys
  with k n xs ys e t high h = record {
    spaced = fronted_spaced k xs ys t (omega (arith, high)) h.spaced;
    within = λ m l u. elim (cases_eq k m) [
      | inl q ↦ ap (λ (z : ℕ). contains z (map run_in ys)) (sym q) ∙ fronted_first k xs ys t ∙ sym (sym (ap f q) ∙ e)
      | inr q ↦ fronted_later k xs ys m t (omega (arith, l, q)) ∙ h.within m (omega (arith, l, q)) (omega (arith, u))
    ];
    behind = λ m l. fronted_later k xs ys m t (omega (arith, l)) ∙ h.behind m (omega (arith, l));
  }

  are : (k n : ℕ) → k + n ≤ 2 ^ 29 → Are k n (runs f k n)
  are k zero high = record { spaced = tt; within = λ m l u. absurd (omega (arith, l, u)); behind = λ m l. refl }
  are k (suc n) high = go (f k) refl (are (suc k) n (omega (arith, high))) where
    go : (b : Bool) → f k ≡ b → Are (suc k) n (runs f (suc k) n) → Are k (suc n) (runs f k (suc n))
    go false e h = let P : List (ℕ × ℕ) → Type 0 = Are k (suc n) in subst P (sym (none_more k n e)) (without k n (runs f (suc k) n) e h)
    go true e h = let P : List (ℕ × ℕ) → Type 0 = Are k (suc n) in subst P (sym (one_more k n e)) (with k n (runs f (suc k) n) (with_first k (runs f (suc k) n)) e (fronted k (runs f (suc k) n) h.spaced) high h)

  pub are_below : (n : ℕ) → n ≤ 2 ^ 29 → ((m : ℕ) → n ≤ m → f m ≡ false) → AreRunsOf (map run_in (runs f 0 n)) f
  are_below n high none =
      let h : Are 0 n (runs f 0 n) = are 0 n (omega (arith, high)) in
      record {
        spaced = h.spaced;
        holds = λ m. elim (le_or_lt n m) [
          | inl q ↦ h.behind m (omega (arith, q)) ∙ sym (none m q)
          | inr q ↦ h.within m (omega arith) (omega (arith, q))
        ];
      }

  few : (k n : ℕ) → length (runs f k n) ≤ n
  few k zero = omega arith
  few k (suc n) = go (f k) refl (few (suc k) n) (fronted_length k (runs f (suc k) n)) where
    go : (b : Bool) → f k ≡ b → length (runs f (suc k) n) ≤ n → length (with_first k (runs f (suc k) n)) ≤ suc (length (runs f (suc k) n)) → length (runs f k (suc n)) ≤ suc n
    go false e h l = omega (arith, ap length (none_more k n e), h)
    go true e h l = omega (arith, ap length (one_more k n e), h, l)

  few_below : (top : ℕ) → ((m : ℕ) → top ≤ m → f m ≡ false) → (k n : ℕ) → length (runs f k n) ≤ top - k
  few_below top none k zero = omega arith
  few_below top none k (suc n) = go (f k) refl (few_below top none (suc k) n) (fronted_length k (runs f (suc k) n)) where
    go : (b : Bool) → f k ≡ b → length (runs f (suc k) n) ≤ top - suc k → length (with_first k (runs f (suc k) n)) ≤ suc (length (runs f (suc k) n)) → length (runs f k (suc n)) ≤ top - k
    go false e h l = omega (arith, ap length (none_more k n e), h)
    go true e h l = elim (le_or_lt top k) [
      | inl q ↦ absurd (both_ways (f k) (none k q) e)
      | inr q ↦ omega (arith, ap length (one_more k n e), h, l, q)
    ]

  few_runs : (n : ℕ) → length (map run_in (runs f 0 n)) ≤ n
  few_runs n = omega (arith, length-map (runs f 0 n) run_in, few 0 n)

  few_runs_below : (top n : ℕ) → ((m : ℕ) → top ≤ m → f m ≡ false) → length (map run_in (runs f 0 n)) ≤ top
  few_runs_below top n none = omega (arith, length-map (runs f 0 n) run_in, few_below top none 0 n)

pub extents_are_runs : ExtentsAreRuns
unfolding extents
extents_are_runs m p none = are_below (m.pages p) (2 ^ 29) (omega arith) none

pub free_areas_are_runs : FreeAreasAreRuns
unfolding free_areas
free_areas_are_runs m p none = are_below (m.free p) (2 ^ 29) (omega arith) none

pub extents_are_few : ExtentsAreFew
unfolding extents
extents_are_few m p = (few_runs (m.pages p) (2 ^ 29), λ top none. few_runs_below (m.pages p) top (2 ^ 29) none)

-- no run of a set goes beyond 2^29
pub none_high : (rs : List Run) (set : ℕ → Bool) → AreRunsOf rs set → (n : ℕ) → 2 ^ 29 ≤ n → set n ≡ false
none_high rs set h n far = sym (h.holds n) ∙ over 0 rs h.spaced where
  over : (low : ℕ) (zs : List Run) → Spaced low zs → contains n zs ≡ false
  over low [] k = refl
  over low (z ∷ zs) k = ap (λ (b : Bool). b || contains n zs) (outside n z (inr (omega (arith, k.2, far)))) ∙ over (z.start + z.len + 1) zs k.3

-- the list of runs of a set is that of the definitions
runs_are : (rs : List Run) (set f : ℕ → Bool) (n : ℕ) → n ≡ 2 ^ 29 → AreRunsOf rs set → ((m : ℕ) → set m ≡ f m) → rs ≡ map run_in (runs f 0 n)
runs_are rs set f n e h same = runs_one set f rs (map run_in (runs f 0 n)) h (are_below f n (omega (arith, e)) (λ m far. sym (same m) ∙ none_high rs set h m (omega (arith, e, far)))) same

pub runs_are_extents : (m : Subpools) (p : Subpool) (rs : List Run) (set : ℕ → Bool) → AreRunsOf rs set → ((page : ℕ) → set page ≡ m.pages p page) → rs ≡ extents m p
unfolding extents
runs_are_extents m p rs set h same = runs_are rs set (m.pages p) (2 ^ 29) refl h same

pub runs_are_free_areas : (m : Subpools) (p : Subpool) (rs : List Run) (set : ℕ → Bool) → AreRunsOf rs set → ((d : ℕ) → set d ≡ m.free p d) → rs ≡ free_areas m p
unfolding free_areas
runs_are_free_areas m p rs set h same = runs_are rs set (m.free p) (2 ^ 29) refl h same

-- the elements of a subpool's queues are among those that the storage holds
queues_held : (s : Store) (q : SubpoolStorage) (n o : ℕ) (p : Pool) → Stands s q → pool s q.set n o ≡ Some p → (i : ℕ) → times i (Extents.owned s p.queues.extents) + times i (FreeQueue.owned s p.queues.free) ≤ hold s q i
unfolding Stands hold
queues_held s q n o p h e i =
    omega (arith, times-append i (Extents.owned s p.queues.extents) (FreeQueue.owned s p.queues.free), part_of s q.set n o p h.set (h.queues.stand n o p e) e i)

pub extents_held : (s : Store) (q : SubpoolStorage) (n o : ℕ) (p : Pool) → Stands s q → pool s q.set n o ≡ Some p → (i : ℕ) → times i (Extents.owned s p.queues.extents) ≤ hold s q i
extents_held s q n o p h e i = omega (arith, queues_held s q n o p h e i)

pub free_held : (s : Store) (q : SubpoolStorage) (n o : ℕ) (p : Pool) → Stands s q → pool s q.set n o ≡ Some p → (i : ℕ) → times i (FreeQueue.owned s p.queues.free) ≤ hold s q i
free_held s q n o p h e i = omega (arith, queues_held s q n o p h e i)

-- no elements are among them
pub none_held : (s : Store) (q : SubpoolStorage) (ids : List ℕ) → ids ≡ [] → (i : ℕ) → times i ids ≤ hold s q i
none_held s q ids e i = omega (arith, ap (times i) e)
