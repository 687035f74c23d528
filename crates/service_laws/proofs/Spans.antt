-- The extents of all cell pools lie apart.
use Rattle.std.proofs.Common.{◌≡◌, ◌⊎◌, ℕ, suc, ◌+◌, ◌*◌, ◌/◌, ◌%◌, ◌<◌, ◌≤◌, true, nat_le, nat_lt, Some, None, List, [], ◌∷◌, ◌++◌, map, length, refl, sym, ◌∙◌, ap, subst, arith, inl, inr}
use Rattle.std.specs.Prelude.{All, AllPairs}
use Rattle.std.proofs.lemmas.Bool.{and_parts, and_from, leb-true, ltb-true, leb-false, le-leb, lt-ltb, cases_Bool}
use Rattle.std.proofs.lemmas.List.Elements.{All-head, All-tail, All-cons, All-append, All-nil, All-map}
use Rattle.std.proofs.lemmas.List.Concat.{flat_map-append}
use Rattle.vsm_model.specs.Regions.{among}
use Rattle.vsm_model.specs.CellPools.{CellPool, CellPools, CellExtent, cell_pool_in, with_cell_pool, without_cell_pool, are_ascending, extent_doublewords}
use Rattle.vsm_model.specs.State.{State}
use Rattle.vsm_model.specs.WellFormed.{PoolIsSound, CellPoolsAreSound, all_extents}
use Rattle.service_laws.proofs.Lists.{all_left, all_right, all_with_one, Across, middle_out, middle_in}
use Rattle.service_laws.proofs.CellTables.{Row, row_of, Gap, gap_of, put_ascends, without_ascends}

abbrev pub Apart : ℕ × ℕ → ℕ × ℕ → Type 0
Apart x y = (x.1 ≤ y.0) ⊎ (y.1 ≤ x.0)

pub turned : (x y : ℕ × ℕ) → Apart x y → Apart y x
turned x y (inl e) = inr e
turned x y (inr e) = inl e

-- an extent's address, and the one after its last byte
abbrev pub span : CellPool → CellExtent → ℕ × ℕ
span pool x = (x.address, x.address + 8 * extent_doublewords pool x.cells)

abbrev pub spans : CellPool → List (ℕ × ℕ)
spans pool = map (span pool) pool.extents

extents_split : (before : CellPools) (name : List ℕ) (pool : CellPool) (after : CellPools) →
    all_extents (before ++ (name, pool) ∷ after) ≡ all_extents before ++ (spans pool ++ all_extents after)
extents_split before name pool after = flat_map-append (λ row. spans row.1) before ((name, pool) ∷ after)

extents_joined : (before after : CellPools) → all_extents (before ++ after) ≡ all_extents before ++ all_extents after
extents_joined before after = flat_map-append (λ row. spans row.1) before after

-- what holds of the extents of each cell pool holds of all extents, and the other way round
pub all_spans : (Q : ℕ × ℕ → Type 0) (table : CellPools) → All (λ row. All (λ x. Q (span row.1 x)) row.1.extents) table → All Q (all_extents table)
all_spans Q [] h = All-nil Q
all_spans Q (row ∷ table) h =
    All-append Q (spans row.1) (all_extents table)
    (All-map Q (span row.1) row.1.extents (All-head (λ row. All (λ x. Q (span row.1 x)) row.1.extents) row table h))
    (all_spans Q table (All-tail (λ row. All (λ x. Q (span row.1 x)) row.1.extents) row table h))

pub all_unmapped : {X Y : Type 0} (Q : Y → Type 0) (f : X → Y) (xs : List X) → All Q (map f xs) → All (λ x. Q (f x)) xs
all_unmapped Q f [] h = All-nil (λ x. Q (f x))
all_unmapped Q f (x ∷ xs) h =
    All-cons (λ x. Q (f x)) x xs (All-head Q (f x) (map f xs) h) (all_unmapped Q f xs (All-tail Q (f x) (map f xs) h))

pub spans_all : (Q : ℕ × ℕ → Type 0) (table : CellPools) → All Q (all_extents table) → All (λ row. All (λ x. Q (span row.1 x)) row.1.extents) table
spans_all Q [] h = All-nil (λ row. All (λ x. Q (span row.1 x)) row.1.extents)
spans_all Q (row ∷ table) h =
    All-cons (λ row. All (λ x. Q (span row.1 x)) row.1.extents) row table
    (all_unmapped Q (span row.1) row.1.extents (all_left Q (spans row.1) (all_extents table) h))
    (spans_all Q table (all_right Q (spans row.1) (all_extents table) h))

module _ (table : CellPools) (name : List ℕ) where
  abbrev pub others : CellPools
  others = without_cell_pool table name

  -- The extents of a cell pool are apart from each other, and from those of the other ones.
  pub parts_of : (pool : CellPool) (row : Row table name pool) → AllPairs Apart (all_extents table) →
      AllPairs Apart (spans pool) × AllPairs Apart (all_extents others) × Across Apart (spans pool) (all_extents others)
  parts_of pool row h =
      let split = subst (AllPairs Apart) (ap all_extents row.is ∙ extents_split row.before name pool row.after) h in
      let joined : all_extents row.before ++ all_extents row.after ≡ all_extents others =
      sym (extents_joined row.before row.after) ∙ ap all_extents (sym row.without_is) in
      subst (λ xs. AllPairs Apart (spans pool) × AllPairs Apart xs × Across Apart (spans pool) xs) joined
      (middle_out Apart turned (all_extents row.before) (spans pool) (all_extents row.after) split)

  -- With another cell pool of the name, whose extents are apart too, they all are.
  pub apart_with : (pool new : CellPool) (row : Row table name pool) → AllPairs Apart (spans new) → AllPairs Apart (all_extents others) →
      Across Apart (spans new) (all_extents others) → AllPairs Apart (all_extents (with_cell_pool table name new))
  apart_with pool new row h g c =
      let joined : all_extents others ≡ all_extents row.before ++ all_extents row.after =
      ap all_extents row.without_is ∙ extents_joined row.before row.after in
      subst (AllPairs Apart) (sym (ap all_extents (row.put_is new) ∙ extents_split row.before name new row.after))
      (middle_in Apart turned (all_extents row.before) (spans new) (all_extents row.after) h (subst (AllPairs Apart) joined g)
      (subst (Across Apart (spans new)) joined c))

  pub apart_added : (new : CellPool) (gap : Gap table name) → AllPairs Apart (spans new) → AllPairs Apart (all_extents table) →
      Across Apart (spans new) (all_extents table) → AllPairs Apart (all_extents (with_cell_pool table name new))
  apart_added new gap h g c =
      let joined : all_extents table ≡ all_extents gap.before ++ all_extents gap.after =
      ap all_extents gap.is ∙ extents_joined gap.before gap.after in
      subst (AllPairs Apart) (sym (ap all_extents (gap.put_is new) ∙ extents_split gap.before name new gap.after))
      (middle_in Apart turned (all_extents gap.before) (spans new) (all_extents gap.after) h (subst (AllPairs Apart) joined g)
      (subst (Across Apart (spans new)) joined c))

same_length : {X : Type 0} (before : List X) (x y : X) (after : List X) → length (before ++ x ∷ after) ≡ length (before ++ y ∷ after)
same_length [] x y after = refl
same_length (z ∷ before) x y after = ap suc (same_length before x y after)

one_longer : {X : Type 0} (before : List X) (x : X) (after : List X) → length (before ++ x ∷ after) ≡ suc (length (before ++ after))
one_longer [] x after = refl
one_longer (z ∷ before) x after = ap suc (one_longer before x after)

abbrev pub EachIsSound : State → CellPools → Type 0
EachIsSound t table = All (λ row. PoolIsSound t row.1) table

module _ (s t : State) (name : List ℕ) (w : CellPoolsAreSound s) where
  -- The table with another cell pool of the name is sound,
  pub put_sound : (pool new : CellPool) → cell_pool_in s.cell_pools name ≡ Some pool → t.cell_pools ≡ with_cell_pool s.cell_pools name new →
      PoolIsSound t new → EachIsSound t (others s.cell_pools name) →
      AllPairs Apart (spans new) → Across Apart (spans new) (all_extents (others s.cell_pools name)) → CellPoolsAreSound t
  put_sound pool new found is sound rest h c =
      let row = row_of s.cell_pools name pool w.ascending found in
      let now = is ∙ row.put_is new in
      record {
        ascending = ap (λ table. are_ascending table) is ∙ put_ascends s.cell_pools name new w.ascending;
        few = let same = ap (λ table. length table) now ∙ same_length row.before (name, new) (name, pool) row.after ∙ sym (ap (λ table. length table) row.is) in
            let few = w.few in omega (arith, same, few);
        each = subst (EachIsSound t) (sym now) (all_with_one (λ row. PoolIsSound t row.1) row.before (name, new) row.after sound
            (subst (EachIsSound t) row.without_is rest));
        apart = subst (λ table. AllPairs Apart (all_extents table)) (sym is)
            (apart_with s.cell_pools name pool new row h (parts_of s.cell_pools name pool row w.apart).1 c);
      }

  -- so is the one with another cell pool,
  pub added_sound : (new : CellPool) → cell_pool_in s.cell_pools name ≡ None → length s.cell_pools < 256 →
      t.cell_pools ≡ with_cell_pool s.cell_pools name new → PoolIsSound t new → EachIsSound t s.cell_pools →
      AllPairs Apart (spans new) → Across Apart (spans new) (all_extents s.cell_pools) → CellPoolsAreSound t
  added_sound new none room is sound rest h c =
      let gap = gap_of s.cell_pools name none in
      let now = is ∙ gap.put_is new in
      record {
        ascending = ap (λ table. are_ascending table) is ∙ put_ascends s.cell_pools name new w.ascending;
        few = let same = ap (λ table. length table) now ∙ one_longer gap.before (name, new) gap.after ∙ ap (λ table. suc (length table)) (sym gap.is) in
            omega (arith, same, room);
        each = subst (EachIsSound t) (sym now) (all_with_one (λ row. PoolIsSound t row.1) gap.before (name, new) gap.after sound
            (subst (EachIsSound t) gap.is rest));
        apart = subst (λ table. AllPairs Apart (all_extents table)) (sym is) (apart_added s.cell_pools name new gap h w.apart c);
      }

  -- and the one without it.
  pub removed_sound : (pool : CellPool) → cell_pool_in s.cell_pools name ≡ Some pool → t.cell_pools ≡ without_cell_pool s.cell_pools name →
      EachIsSound t (others s.cell_pools name) → CellPoolsAreSound t
  removed_sound pool found is rest =
      let row = row_of s.cell_pools name pool w.ascending found in
      record {
        ascending = ap (λ table. are_ascending table) is ∙ without_ascends s.cell_pools name w.ascending;
        few = let left = ap (λ table. length table) (is ∙ row.without_is) in
            let was = ap (λ table. length table) row.is ∙ one_longer row.before (name, pool) row.after in
            let few = w.few in omega (arith, left, was, few);
        each = subst (EachIsSound t) (sym is) rest;
        apart = subst (λ table. AllPairs Apart (all_extents table)) (sym is) (parts_of s.cell_pools name pool row w.apart).1;
      }

pub among-in : (a n k : ℕ) → among a n k ≡ true → (a ≤ k) × (k < a + n)
among-in a n k e = let parts = and_parts (nat_le a k) (nat_lt k (a + n)) e in (leb-true a k parts.0, ltb-true k (a + n) parts.1)

pub in-among : (a n k : ℕ) → a ≤ k → k < a + n → among a n k ≡ true
in-among a n k low high = and_from (nat_le a k) (nat_lt k (a + n)) (le-leb a k low) (lt-ltb k (a + n) high)

-- two areas on doublewords that have none in common
pub apart_areas : (a m b n : ℕ) → a % 8 ≡ 0 → b % 8 ≡ 0 → 1 ≤ m → 1 ≤ n →
    ((k : ℕ) → among (a / 8) m k ≡ true → among (b / 8) n k ≡ true → ⊥) → Apart (a, a + 8 * m) (b, b + 8 * n)
apart_areas a m b n on too some more none =
    elim (cases_Bool (nat_le (a + 8 * m) b)) [
      | inl e ↦ inl (leb-true (a + 8 * m) b e)
      | inr e ↦ elim (cases_Bool (nat_le (b + 8 * n) a)) [
        | inl f ↦ inr (leb-true (b + 8 * n) a f)
        | inr f ↦
            let over = leb-false (a + 8 * m) b e in
            let under = leb-false (b + 8 * n) a f in
            absurd (elim (cases_Bool (nat_le a b)) [
              | inl g ↦ let low = leb-true a b g in
                  none (b / 8) (in-among (a / 8) m (b / 8) (omega (arith, low)) (omega (arith, over, on, too))) (in-among (b / 8) n (b / 8) (omega arith) (omega (arith, more)))
              | inr g ↦ let high = leb-false a b g in
                  none (a / 8) (in-among (a / 8) m (a / 8) (omega arith) (omega (arith, some))) (in-among (b / 8) n (a / 8) (omega (arith, high)) (omega (arith, under, on, too)))
            ])
      ]
    ]
