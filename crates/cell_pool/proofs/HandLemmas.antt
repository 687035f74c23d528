-- Pools that are passed to another owner.
use Rattle.std.proofs.Common.{◌≡◌, ℕ, ◌+◌, ◌*◌, ◌/◌, ◌%◌, ◌<◌, ◌≤◌, ◌==◌, take, drop, Bool, true, false, List, [], ◌∷◌, ◌++◌, length, Some, refl, sym, ap, ◌∙◌, subst, arith, append_assoc, length-append, length-drop}
use Rattle.std.proofs.lemmas.Bool.{cond-false, cond-true}
use Rattle.std.specs.Prelude.{map, option_map, slice_get, if◌then◌else◌}
use Rattle.std.specs.Str.{bytes_eq}
use Rattle.std.proofs.lemmas.List.{map-append, take-map, take_all, drop_all, length-take-le, take-append-drop}
use Rattle.std.proofs.lemmas.Option.{slice_get_within}
use Rattle.std.proofs.Math.Seq.{take-append_seam, drop-append_seam}
use Rattle.vsm_elements.specs.Store.{Store}
use Rattle.vsm_elements.specs.Chain.{Link, links, ids, last_or}
use Rattle.vsm_model.specs.declared.Subpool.{Subpool}
use Rattle.vsm_model.specs.Subpools.{same_subpool}
use Rattle.list_table.specs.Entries.{Entry, word}
use Rattle.list_table.specs.Kept.{entry_in}
use Rattle.list_table.specs.ListTable.{entries, earlier, later, IsTable, IsPlace}
use Rattle.list_table.specs.declared.table.ListTable.{ListTable}
use Rattle.cell_pool.specs.Items.{pool_of, subpool_in, IsSound}
use Rattle.cell_pool.specs.declared.pools.CellPools.{CellPools}
use Rattle.cell_pool.specs.Pools.{Pool, Single, pool_in, id_in, is_named, is_of, lies_in, handed_on}
use Rattle.cell_pool.specs.Kept.{pools_of, AllSound, IsKept}
use Rattle.cell_pool.specs.CellPools.{pool, by_id}
use Rattle.cell_pool.proofs.PoolLemmas.{entry_ids, first_map, single_map}
use Rattle.cell_pool.specs.Reach.{owned_by}
use Rattle.cell_pool.proofs.ReachLemmas.{within_owned}
use Rattle.cell_pool.proofs.ParkLemmas.{earlier_is, later_is, front_is}

-- the place of a row depends only on the ids of the rows

last_id : ℕ → List ℕ → ℕ
last_id a [] = a
last_id a (i ∷ is) = last_id i is

last_ids : (a : ℕ) (ns : List Link) → last_or a ns ≡ last_id a (ids ns)
unfolding last_id
last_ids a [] = refl
last_ids a (n ∷ ns) = last_ids n.id ns

ids_are : (s : Store) (ns : List Link) → entry_ids (map (entry_in s) ns) ≡ ids ns
ids_are s [] = refl
ids_are s (n ∷ ns) = ap (λ (z : List ℕ). n.id ∷ z) (ids_are s ns)

pub row_ids : (s : Store) (q : ListTable) → entry_ids (entries s q) ≡ ids (links s q.chain)
unfolding entries
row_ids s q = ids_are s (links s q.chain)

last_at : (k : ℕ) (ns : List Link) → last_or 0 (take k ns) ≡ last_id 0 (take k (ids ns))
last_at k ns = last_ids 0 (take k ns) ∙ ap (last_id 0) (sym (take-map (λ (n : Link). n.id) k ns))

pub same_place : (s t : Store) (q : ListTable) (k before : ℕ) → entry_ids (entries t q) ≡ entry_ids (entries s q) → IsPlace s q k before → IsPlace t q k before
unfolding entries IsPlace
same_place s t q k before same place = record {
  within = place.within;
  behind =
      place.behind ∙ last_at k (links s q.chain)
      ∙ ap (λ (z : List ℕ). last_id 0 (take k z)) (sym (ids_are s (links s q.chain)) ∙ sym same ∙ ids_are t (links t q.chain))
      ∙ sym (last_at k (links t q.chain));
}

-- one row
abbrev pub given : ℕ → Entry → Entry
given to e = record { id = e.id; words = owned_by to e.words; items = e.items; used = e.used; extents = e.extents; places = e.places }

abbrev pub hand : Subpool → ℕ → Entry → Entry
hand subpool to e = if same_subpool (subpool_in e.words) subpool then given to e else e

pub hand_id : (subpool : Subpool) (to : ℕ) (e : Entry) → (hand subpool to e).id ≡ e.id
hand_id subpool to e = go (same_subpool (subpool_in e.words) subpool) where
  go : (b : Bool) → (if b then given to e else e).id ≡ e.id
  go true = refl
  go false = refl

module _ (subpool : Subpool) (to : ℕ) (small : to < 256) where
  byte : (blocks : ℕ) → (256 * blocks + to) % 256 ≡ to
  byte blocks = omega (arith, small)

  given_pool : (e : Entry) → pool_of (given to e) ≡ record (pool_of e) { settings = record (pool_of e).settings { subpool = record (pool_of e).settings.subpool { owner = to } } }
  unfolding pool_of
  given_pool e = ap (λ (z : ℕ). record (pool_of e) { settings = record (pool_of e).settings { subpool = record (pool_of e).settings.subpool { owner = z } } }) (byte (word e.words 1 / 256))

  hand_pool : (e : Entry) → pool_of (hand subpool to e) ≡ handed_on subpool to (pool_of e)
  unfolding pool_of
  hand_pool e = go (same_subpool (subpool_in e.words) subpool) where
    go : (b : Bool) → pool_of (if b then given to e else e) ≡ (if b then record (pool_of e) { settings = record (pool_of e).settings { subpool = record (pool_of e).settings.subpool { owner = to } } } else pool_of e)
    go true = given_pool e
    go false = refl

  given_sound : (e : Entry) → IsSound e → IsSound (given to e)
  unfolding pool_of
  given_sound e h = record {
    small = h.small;
    room = h.room;
    size = h.size;
    named = h.named;
    texts = h.texts;
    numbered = h.numbered;
    separate = h.separate;
    placed = h.placed;
    within = within_owned to small e.words (pool_of e).settings.size (pool_of e).extents h.within;
    cells = record { once = h.cells.once; inside = h.cells.inside; apart = h.cells.apart };
    noted = h.noted;
  }

  hand_sound : (e : Entry) → IsSound e → IsSound (hand subpool to e)
  hand_sound e h = go (same_subpool (subpool_in e.words) subpool) where
    go : (b : Bool) → IsSound (if b then given to e else e)
    go true = given_sound e h
    go false = h

  all_hand : (es : List Entry) → AllSound es → AllSound (map (hand subpool to) es)
  all_hand [] h = tt
  all_hand (e ∷ es) h = (hand_sound e h.0, all_hand es h.1)

  hand_pools : (es : List Entry) → pools_of (map (hand subpool to) es) ≡ map (handed_on subpool to) (pools_of es)
  hand_pools [] = refl
  hand_pools (e ∷ es) = ap (λ (z : Pool). z ∷ pools_of (map (hand subpool to) es)) (hand_pool e) ∙ ap (λ (z : List Pool). handed_on subpool to (pool_of e) ∷ z) (hand_pools es)

  keeps_name : (p : Pool) → (handed_on subpool to p).name ≡ p.name
  keeps_name p = go (lies_in subpool p) where
    go : (b : Bool) → (if b then record p { settings = record p.settings { subpool = record p.settings.subpool { owner = to } } } else p).name ≡ p.name
    go true = refl
    go false = refl

  keeps_id : (p : Pool) → (handed_on subpool to p).id ≡ p.id
  keeps_id p = go (lies_in subpool p) where
    go : (b : Bool) → (if b then record p { settings = record p.settings { subpool = record p.settings.subpool { owner = to } } } else p).id ≡ p.id
    go true = refl
    go false = refl

  -- all rows
  module _ (s t : Store) (q : CellPools) (kept : IsKept s q.table) (table : IsTable t q.table) (all : entries t q.table ≡ map (hand subpool to) (entries s q.table)) where
    pools_are : pools_of (entries t q.table) ≡ map (handed_on subpool to) (pools_of (entries s q.table))
    pools_are = ap pools_of all ∙ hand_pools (entries s q.table)

    pub handed_kept : IsKept t q.table
    handed_kept = record {
      table = table;
      single = (let P : List Pool → Type 0 = Single in subst P (sym pools_are) (single_map (handed_on subpool to) keeps_name (pools_of (entries s q.table)) kept.single));
      sound = (let P : List Entry → Type 0 = AllSound in subst P (sym all) (all_hand (entries s q.table) kept.sound));
    }

    pub handed_names : (n : List ℕ) → pool t q n ≡ option_map (handed_on subpool to) (pool s q n)
    unfolding pool
    handed_names n = ap (pool_in n) pools_are ∙ first_map (is_named n) (handed_on subpool to) (λ p. ap (bytes_eq n) (keeps_name p)) (pools_of (entries s q.table))

    pub handed_ids : (i : ℕ) → by_id t q i ≡ option_map (handed_on subpool to) (by_id s q i)
    unfolding by_id
    handed_ids i = ap (id_in i) pools_are ∙ first_map (is_of i) (handed_on subpool to) (λ p. ap (λ (j : ℕ). i == j) (keeps_id p)) (pools_of (entries s q.table))

-- a row that was written, at its index
pub written_is : (s t : Store) (q : ListTable) (k i : ℕ) (x y : Entry) → i ≡ k → entries t q ≡ earlier s q i ++ x ∷ later s q i → x ≡ y → entries t q ≡ take k (entries s q) ++ y ∷ drop (k + 1) (entries s q)
written_is s t q k i x y at is same =
    is ∙ ap (λ (z : ℕ). earlier s q z ++ x ∷ later s q z) at ∙ ap (λ (z : Entry). earlier s q k ++ z ∷ later s q k) same
    ∙ ap (λ (z : List Entry). z ++ y ∷ later s q k) (earlier_is s q k) ∙ ap (λ (z : List Entry). take k (entries s q) ++ y ∷ z) (later_is s q k)

pub is_given : (subpool : Subpool) (to : ℕ) (e : Entry) → same_subpool (subpool_in e.words) subpool ≡ true → hand subpool to e ≡ given to e
is_given subpool to e h = cond-true (same_subpool (subpool_in e.words) subpool) (given to e) e h

pub not_given : (subpool : Subpool) (to : ℕ) (e : Entry) → same_subpool (subpool_in e.words) subpool ≡ false → hand subpool to e ≡ e
not_given subpool to e h = cond-false (same_subpool (subpool_in e.words) subpool) (given to e) e h

-- a walk over the rows that changes one after the other
module _ (f : Entry → Entry) (was now : List Entry) (k : ℕ) (rest : map f was ≡ take k now ++ map f (drop k now)) where
  module _ (e : Entry) (there : slice_get now k ≡ Some e) where
    within : k < length now
    within = slice_get_within now k e there

    front_long : (x : Entry) → length (take k now ++ x ∷ []) ≡ k + 1
    front_long x = omega (arith, within, length-append (take k now) (x ∷ []), length-take-le k now (omega (arith, within)))

    whole : now ≡ take k now ++ e ∷ drop (k + 1) now
    whole = sym (take-append-drop k now) ∙ ap (λ (z : List Entry). take k now ++ z) (front_is now k e there)

    module _ (next : List Entry) (is : next ≡ take k now ++ f e ∷ drop (k + 1) now) where
      parts : next ≡ (take k now ++ f e ∷ []) ++ drop (k + 1) now
      parts = is ∙ sym (append_assoc (take k now) (f e ∷ []) (drop (k + 1) now))

      front : take (k + 1) next ≡ take k now ++ f e ∷ []
      front = ap (take (k + 1)) parts ∙ ap (λ (z : ℕ). take z ((take k now ++ f e ∷ []) ++ drop (k + 1) now)) (sym (front_long (f e))) ∙ take-append_seam (take k now ++ f e ∷ []) (drop (k + 1) now)

      back : drop (k + 1) next ≡ drop (k + 1) now
      back = ap (drop (k + 1)) parts ∙ ap (λ (z : ℕ). drop z ((take k now ++ f e ∷ []) ++ drop (k + 1) now)) (sym (front_long (f e))) ∙ drop-append_seam (take k now ++ f e ∷ []) (drop (k + 1) now)

      pub next_rest : map f was ≡ take (k + 1) next ++ map f (drop (k + 1) next)
      next_rest =
          rest ∙ ap (λ (z : List Entry). take k now ++ map f z) (front_is now k e there) ∙ sym (append_assoc (take k now) (f e ∷ []) (map f (drop (k + 1) now)))
          ∙ ap (λ (z : List Entry). z ++ map f (drop (k + 1) now)) (sym front) ∙ ap (λ (z : List Entry). take (k + 1) next ++ map f z) (sym back)

      pub next_long : length next ≡ length now
      next_long = omega (arith, within, ap length is, length-append (take k now) (f e ∷ drop (k + 1) now), length-take-le k now (omega (arith, within)), length-drop (k + 1) now)

      pub next_ids : (f e).id ≡ e.id → entry_ids next ≡ entry_ids now
      next_ids same =
          ap entry_ids is ∙ map-append (λ (z : Entry). z.id) (take k now) (f e ∷ drop (k + 1) now)
          ∙ ap (λ (z : ℕ). entry_ids (take k now) ++ z ∷ entry_ids (drop (k + 1) now)) same
          ∙ sym (ap entry_ids whole ∙ map-append (λ (z : Entry). z.id) (take k now) (e ∷ drop (k + 1) now))

    pub stays_rest : f e ≡ e → map f was ≡ take (k + 1) now ++ map f (drop (k + 1) now)
    stays_rest same = next_rest now (whole ∙ ap (λ (z : Entry). take k now ++ z ∷ drop (k + 1) now) (sym same))

  append_empty : (es : List Entry) → es ++ [] ≡ es
  append_empty [] = refl
  append_empty (e ∷ es) = ap (λ (z : List Entry). e ∷ z) (append_empty es)

  pub rest_done : length now ≤ k → now ≡ map f was
  rest_done past = sym (rest ∙ ap (λ (z : List Entry). take k now ++ map f z) (drop_all k now past) ∙ append_empty (take k now) ∙ take_all k now past)
