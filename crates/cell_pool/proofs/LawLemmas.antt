-- Laws of cell pools.
use Rattle.std.proofs.Common.{◌≡◌, ℕ, ◌-◌, ◌+◌, ◌*◌, ◌^◌, ◌<◌, ◌≤◌, List, [], ◌∷◌, ◌++◌, length, take, Some, None, Bool, true, false, refl, sym, ap, ◌∙◌, arith, length-append}
use Rattle.std.proofs.lemmas.Slice.Eq.{bytes_eq-Decides}
use Rattle.std.proofs.Math.Seq.{take-append_seam}
use Rattle.std.proofs.lemmas.List.FromFn.{length-range_with_len}
use Rattle.std.specs.Prelude.{map, slice_get, if◌then◌else◌}
use Rattle.std.specs.List.{range_with_len}
use Rattle.vsm_elements.specs.Store.{Store}
use Rattle.list_table.specs.Entries.{Entry}
use Rattle.list_table.specs.ListTable.{entries, IsTable}
use Rattle.list_table.specs.ListTable
use Rattle.list_table.proofs.TableLemmas.{tables_own, tables_kept, tables_stay, growth_keeps_tables}
use Rattle.cell_pool.specs.declared.pools.CellPools.{CellPools}
use Rattle.cell_pool.specs.declared.settings.Extent.{Extent}
use Rattle.cell_pool.specs.Pools.{Pool, Single, is_named, is_of, pool_in, id_in, cells_from, IsExtended, HasCells, first_with, either_of}
use Rattle.cell_pool.specs.Items.{pool_of, IsSound}
use Rattle.cell_pool.specs.Kept.{pools_of, AllSound, IsKept}
use Rattle.cell_pool.specs.CellPools.{pools, pool, by_id, owned, IsCellPools}
use Rattle.cell_pool.specs.Laws.{AreOne, PoolsAreOne, PoolsOwn, AreSame, PoolsKept, PoolsStay, GrowthKeepsPools, RetractsBack, ParkedPoolsComeBack, PoolsHaveCells, IdsAreSmall, NamesAreSingle, PoolsAreListed}
use Rattle.std.proofs.Common.{subst}
use Rattle.cell_pool.proofs.PoolLemmas.{found_passes, found_other, one_named, one_of, name_refl}
use Rattle.cell_pool.proofs.EntryLemmas.{pool_id, eqb_refl, eqb_same}
use Rattle.cell_pool.proofs.ParkLemmas.{pools_distinct}

pub pools_are_one : PoolsAreOne
unfolding pool by_id IsCellPools
pools_are_one s q kept = record {
  names = λ n p h. (
    sym ((bytes_eq-Decides n p.name).0 (found_passes (is_named n) (pools_of (entries s q.table)) p h)),
    found_other (is_named n) (is_of p.id) (pools_of (entries s q.table)) p h (one_of p.id (pools_of (entries s q.table)) (pools_distinct s q kept)) (eqb_refl p.id),
  );
  ids = λ i p h. (
    sym (eqb_same i p.id (found_passes (is_of i) (pools_of (entries s q.table)) p h)),
    found_other (is_of i) (is_named p.name) (pools_of (entries s q.table)) p h (one_named p.name (pools_of (entries s q.table)) kept.single) (name_refl p.name),
  );
}

pub pools_own : PoolsOwn
unfolding owned IsCellPools
pools_own s q kept = tables_own s q.table kept.table

same : (s t : Store) (q : CellPools) → IsKept s q.table → IsTable t q.table → entries t q.table ≡ entries s q.table → ListTable.owned t q.table ≡ ListTable.owned s q.table → AreSame s t q
unfolding pool by_id owned IsCellPools
same s t q kept table are own = record {
  stand = record {
    table = table;
    single = (let P : List Entry → Type 0 = λ z. Single (pools_of z) in subst P (sym are) kept.single);
    sound = (let P : List Entry → Type 0 = AllSound in subst P (sym are) kept.sound);
  };
  names = λ n. ap (λ (z : List Entry). pool_in n (pools_of z)) are;
  ids = λ i. ap (λ (z : List Entry). id_in i (pools_of z)) are;
  elements = own;
}

pub pools_kept : PoolsKept
unfolding owned IsCellPools
pools_kept s t q kept elements = let r = tables_kept s t q.table kept.table elements in same s t q kept r.0 r.1 r.2

pub pools_stay : PoolsStay
unfolding owned IsCellPools
pools_stay s t had has q leaves kept apart = let r = tables_stay s t had has q.table leaves kept.table apart in same s t q kept r.0 r.1 r.2

pub growth_keeps_pools : GrowthKeepsPools
unfolding IsCellPools
growth_keeps_pools s t q elements kept = let r = growth_keeps_tables s t q.table elements kept.table in same s t q kept r.0 r.1 r.2

length-cells : (size start : ℕ) (ks : List ℕ) → length (map (λ (k : ℕ). start + k * size) ks) ≡ length ks
length-cells size start [] = refl
length-cells size start (k ∷ ks) = omega (arith, length-cells size start ks)

pub length-cells_from : (size start count : ℕ) → length (cells_from size start count) ≡ count
unfolding cells_from
length-cells_from size start count = length-cells size start (range_with_len 0 count) ∙ length-range_with_len 0 count

take_front : {A : Type 0} → (xs ys : List A) (k : ℕ) → k ≡ length xs → take k (xs ++ ys) ≡ xs
take_front xs ys k e = ap (λ (z : ℕ). take z (xs ++ ys)) e ∙ take-append_seam xs ys

pub retracts_back : RetractsBack
retracts_back p start count =
    let xs : List Extent = record { start = start; count = count } ∷ [] in
    let cs : List ℕ = cells_from p.settings.size start count in
    let ke : length (p.extents ++ xs) - 1 ≡ length p.extents = omega (arith, length-append p.extents xs) in
    let kc : length (p.cells ++ cs) - count ≡ length p.cells = omega (arith, length-append p.cells cs, length-cells_from p.settings.size start count) in
    ap (λ (z : List Extent). record p { extents = z; cells = take (length (p.cells ++ cs) - count) (p.cells ++ cs) }) (take_front p.extents xs _ ke)
    ∙ ap (λ (z : List ℕ). record p { cells = z }) (take_front p.cells cs _ kc)

-- a pool whose last extent's cells are all free, at the end

pub some_extent : (p : Pool) → IsExtended p → 0 < length p.extents
some_extent p x = omega (arith, ap (λ (z : Pool). length z.extents) x.is, length-append x.rest.extents (x.last ∷ []))

get_last : (xs : List Extent) (x : Extent) (k : ℕ) → k ≡ length xs → slice_get (xs ++ x ∷ []) k ≡ Some x
get_last xs x k e = ap (slice_get (xs ++ x ∷ [])) e ∙ at_seam xs where
  at_seam : (zs : List Extent) → slice_get (zs ++ x ∷ []) (length zs) ≡ Some x
  at_seam [] = refl
  at_seam (z ∷ zs) = at_seam zs

-- the extent at the end of a list is the last one
pub end_is : (p : Pool) (h : IsExtended p) (xs : List Extent) (x : Extent) → p.extents ≡ xs ++ x ∷ [] → slice_get p.extents (length p.extents - 1) ≡ Some x
end_is p h xs x e =
    let n : length p.extents - 1 ≡ length xs = omega (arith, ap length e, length-append xs (x ∷ [])) in
    ap (λ (z : List Extent). slice_get z (length p.extents - 1)) e ∙ get_last xs x (length p.extents - 1) n

pub last_is : (p : Pool) (h : IsExtended p) (k : ℕ) (x : Extent) → length p.extents ≡ k + 1 → slice_get p.extents k ≡ Some x → h.last ≡ x
last_is p h k x long there =
    let size : length p.extents ≡ length (h.rest.extents ++ h.last ∷ []) = ap (λ (z : Pool). length z.extents) h.is in
    let e : k ≡ length h.rest.extents = omega (arith, size, length-append h.rest.extents (h.last ∷ [])) in
    some_is h.last x (sym (get_last h.rest.extents h.last k e) ∙ ap (λ (z : Pool). slice_get z.extents k) (sym h.is) ∙ there) where
      some_is : (a b : Extent) → Some a ≡ Some b → a ≡ b
      some_is a b q = cc

pub last_cells : (p : Pool) → IsExtended p → (k : ℕ) (x : Extent) → length p.extents ≡ k + 1 → slice_get p.extents k ≡ Some x → x.count ≤ length p.cells
last_cells p h k x long there =
    let size : length p.extents ≡ length (h.rest.extents ++ h.last ∷ []) = ap (λ (z : Pool). length z.extents) h.is in
    let e : k ≡ length h.rest.extents = omega (arith, size, length-append h.rest.extents (h.last ∷ [])) in
    let is : h.last ≡ x = some_is h.last x (sym (get_last h.rest.extents h.last k e) ∙ ap (λ (z : Pool). slice_get z.extents k) (sym h.is) ∙ there) in
    let cells : length p.cells ≡ length (h.rest.cells ++ cells_from h.rest.settings.size h.last.start h.last.count) = ap (λ (z : Pool). length z.cells) h.is in
    omega (arith, cells, length-append h.rest.cells (cells_from h.rest.settings.size h.last.start h.last.count), length-cells_from h.rest.settings.size h.last.start h.last.count, ap (λ (z : Extent). z.count) is) where
      some_is : (a b : Extent) → Some a ≡ Some b → a ≡ b
      some_is a b q = cc

pub parked_pools_come_back : ParkedPoolsComeBack
parked_pools_come_back test None = refl
parked_pools_come_back test (Some p) = go (test p) refl where
  go : (b : Bool) → test p ≡ b → either_of (if test p then Some p else None) (if test p then None else Some p) ≡ Some p
  go true e = ap (λ (z : Bool). either_of (if z then Some p else None) (if z then None else Some p)) e
  go false e = ap (λ (z : Bool). either_of (if z then Some p else None) (if z then None else Some p)) e

found_sound : (test : Pool → Bool) (es : List Entry) (p : Pool) → AllSound es → first_with test (pools_of es) ≡ Some p → (e : Entry) × IsSound e × (pool_of e ≡ p)
found_sound test [] p all h = absurd (none_some h) where
  none_some : None ≡ Some p → ⊥
  none_some e = cc
found_sound test (e ∷ es) p all h = go (λ k. found_sound test es p all.1 k) (test (pool_of e)) refl where
  some_is : (a b : Pool) → Some a ≡ Some b → a ≡ b
  some_is a b q = cc

  go : (first_with test (pools_of es) ≡ Some p → (d : Entry) × IsSound d × (pool_of d ≡ p)) → (b : Bool) → test (pool_of e) ≡ b → (d : Entry) × IsSound d × (pool_of d ≡ p)
  go rest true f = (e, all.0, some_is (pool_of e) p (sym (ap (λ (z : Bool). if z then Some (pool_of e) else first_with test (pools_of es)) f) ∙ h))
  go rest false f = rest (sym (ap (λ (z : Bool). if z then Some (pool_of e) else first_with test (pools_of es)) f) ∙ h)

pub pools_have_cells : PoolsHaveCells
unfolding by_id IsCellPools
pools_have_cells s q i p kept h =
    let f : (e : Entry) × IsSound e × (pool_of e ≡ p) = found_sound (is_of i) (entries s q.table) p kept.sound h in
    let P : Pool → Type 0 = HasCells in
    subst P f.2 f.1.cells

pub ids_are_small : IdsAreSmall
unfolding by_id IsCellPools
ids_are_small s q i p kept h =
    let f : (e : Entry) × IsSound e × (pool_of e ≡ p) = found_sound (is_of i) (entries s q.table) p kept.sound h in
    let e : i ≡ f.0.id = eqb_same i p.id (found_passes (is_of i) (pools_of (entries s q.table)) p h) ∙ ap (λ (z : Pool). z.id) (sym f.2) ∙ pool_id f.0 in
    let P : ℕ → Type 0 = λ z. z < 2 ^ 32 in
    subst P (sym e) f.1.small

pub names_are_single : NamesAreSingle
names_are_single s q i j x y kept h k same =
    let one : AreOne s q = pools_are_one s q kept in
    let a : (x.id ≡ i) × (pool s q x.name ≡ Some x) = one.ids i x h in
    let b : (y.id ≡ j) × (pool s q y.name ≡ Some y) = one.ids j y k in
    sym a.0 ∙ ap (λ (z : Pool). z.id) (some_is (sym a.1 ∙ ap (pool s q) same ∙ b.1)) ∙ b.0 where
      some_is : Some x ≡ Some y → x ≡ y
      some_is e = cc

pub pools_are_listed : PoolsAreListed
unfolding pools pool by_id IsCellPools
pools_are_listed s q kept = record { distinct = pools_distinct s q kept; ids = λ i. refl; names = λ n. refl }
