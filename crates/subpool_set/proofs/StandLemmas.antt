-- Queues by their subpools, and queues by the rows that have their heads.
use Rattle.std.proofs.Common.{◌≡◌, ℕ, Bool, true, false, ◌==◌, List, [], ◌∷◌, Some, None, inl, inr, refl, sym, ap, ◌∙◌}
use Rattle.std.proofs.lemmas.Bool.{cond-false, cond-true}
use Rattle.std.specs.Prelude.{map}
use Rattle.vsm_elements.specs.Store.{Store, among}
use Rattle.vsm_elements.specs.Ownership.{Apart}
use Rattle.vsm_elements.specs.Chain.{Link}
use Rattle.row_table.specs.Trees.{items}
use Rattle.row_table.specs.Keys.{links}
use Rattle.row_table.proofs.KeyLemmas.{links_ascend}
use Rattle.vsm_elements.proofs.ChainFrame.{false_if}
use Rattle.row_table.specs.declared.row.Row.{Row}
use Rattle.row_table.specs.declared.table.RowTable.{RowTable}
use Rattle.row_table.specs.Rows.{word, same_key, is_under, row_in, Single}
use Rattle.row_table.specs.RowTable.{row, rows, row_of, IsTable}
use Rattle.row_table.proofs.AscendLemmas.{single}
use Rattle.row_table.proofs.RowLemmas.{either, not_both, none_some, same_parts, eqb_same, eqb_refl, same_self, row_here, row_later, under_own}
use Rattle.subpool_set.specs.Pools.{Pool}
use Rattle.subpool_set.specs.Kept.{Rows, queues_of, pool_in, pools_in}
use Rattle.subpool_set.specs.Heads.{ids_in, ids_in_all, AllStand}
use Rattle.subpool_set.specs.QueueElements.{ids_of, AreApart}
use Rattle.subpool_set.proofs.KeptLemmas.{pool_at, PoolRow, pool_row, pool_own}
use Rattle.subpool_set.proofs.HeadLemmas.{in_left, in_right, in_either}

abbrev is_own : Row → Bool
is_own r = word r.words 0 == word r.words 2

-- what is under a key of its own in a list is also there in a longer one
later : (n : Link) (ns : List Link) (a b : ℕ) (r : Row) → row_in (word n.words 0) (word n.words 1) ns ≡ None → row_in a b ns ≡ Some r → row_in a b (n ∷ ns) ≡ Some r
later n ns a b r none e = elim (either (is_under a b n.words)) [
  | inl p ↦ (let k : (word n.words 0 ≡ a) × (word n.words 1 ≡ b) = same_parts (word n.words 0) (word n.words 1) a b p in
      absurd (none_some (row_in a b ns) r (ap (λ (z : ℕ). row_in z b ns) (sym k.0) ∙ ap (λ (z : ℕ). row_in (word n.words 0) z ns) (sym k.1) ∙ none) e))
  | inr p ↦ row_later a b n ns p ∙ e
]

-- the row that has this id among its queues'
pub record Holder (s : Store) (ns : List Link) (i : ℕ) : Type 0 where
  pub r : Row
  pub there : row_in (word r.words 0) (word r.words 1) ns ≡ Some r
  pub has : among i (ids_in s r) ≡ true

module _ (s : Store) where
  holder : (ns : List Link) → Single ns → (i : ℕ) → among i (ids_in_all s (map row_of ns)) ≡ true → Holder s ns i
  holder [] h i m = absurd (not_both false m refl)
  holder (n ∷ ns) h i m = elim (in_either i (ids_in s (row_of n)) (ids_in_all s (map row_of ns)) m) [
    | inl k ↦ record { r = row_of n; there = row_here (word n.words 0) (word n.words 1) n ns (same_self (word n.words 0) (word n.words 1)); has = k }
    | inr k ↦ (let w : Holder s ns i = holder ns h.1 i k in record { r = w.r; there = later n ns (word w.r.words 0) (word w.r.words 1) w.r h.0 w.there; has = w.has })
  ]

  -- a row with an id among its queues' is a subpool's own
  own_of : (r : Row) (i : ℕ) → among i (ids_in s r) ≡ true → (is_own r ≡ true) × (among i (ids_of s (queues_of r.words)) ≡ true)
  own_of r i m = go (is_own r) refl where
    go : (b : Bool) → is_own r ≡ b → (is_own r ≡ true) × (among i (ids_of s (queues_of r.words)) ≡ true)
    go true e = (e, ap (among i) (sym (cond-true (is_own r) (ids_of s (queues_of r.words)) [] e)) ∙ m)
    go false e = absurd (not_both (among i (ids_in s r)) m (ap (among i) (cond-false (is_own r) (ids_of s (queues_of r.words)) [] e)))

  pool_of : (f : Rows) (r : Row) → f (word r.words 0) (word r.words 1) ≡ Some r → is_own r ≡ true → pools_in f (word r.words 1) (word r.words 0) ≡ Some (pool_at r)
  pool_of f r e own = ap (pool_in (word r.words 0)) e ∙ pool_own (word r.words 0) r (sym (eqb_same (word r.words 0) (word r.words 2) own))

  module _ (f : Rows) (others : List ℕ) (was : AreApart s (pools_in f) others) where
    pub all_beside : (ns : List Link) → Single ns → ((a b : ℕ) (r : Row) → row_in a b ns ≡ Some r → f a b ≡ Some r) → Apart others (ids_in_all s (map row_of ns))
    all_beside ns h found i z = false_if (among i (ids_in_all s (map row_of ns))) (λ m.
        (let w : Holder s ns i = holder ns h i m in
        let k : (is_own w.r ≡ true) × (among i (ids_of s (queues_of w.r.words)) ≡ true) = own_of w.r i w.has in
        not_both (among i (ids_of s (queues_of w.r.words))) k.1 (was.beside (word w.r.words 1) (word w.r.words 0) (pool_at w.r) (pool_of f w.r (found (word w.r.words 0) (word w.r.words 1) w.r w.there) k.0) i z)))

    pub all_stand : (ns : List Link) → Single ns → ((a b : ℕ) (r : Row) → row_in a b ns ≡ Some r → f a b ≡ Some r) → AllStand s (map row_of ns)
    all_stand [] h found = tt
    all_stand (n ∷ ns) h found = (
      (λ own. was.stand (word n.words 1) (word n.words 0) (pool_at (row_of n)) (pool_of f (row_of n) here own)),
      (λ i z. false_if (among i (ids_in_all s (map row_of ns))) (λ m. meet i (own_of (row_of n) i z) (holder ns h.1 i m))),
      all_stand ns h.1 (λ a b r e. found a b r (later n ns a b r h.0 e)),
    ) where
      here : f (word n.words 0) (word n.words 1) ≡ Some (row_of n)
      here = found (word n.words 0) (word n.words 1) (row_of n) (row_here (word n.words 0) (word n.words 1) n ns (same_self (word n.words 0) (word n.words 1)))

      differ : (w : Row) → row_in (word w.words 0) (word w.words 1) ns ≡ Some w → (b : Bool) → same_key (word n.words 1) (word n.words 0) (word w.words 1) (word w.words 0) ≡ b → b ≡ false
      differ w e false q = refl
      differ w e true q =
          let k : (word n.words 1 ≡ word w.words 1) × (word n.words 0 ≡ word w.words 0) = same_parts (word n.words 1) (word n.words 0) (word w.words 1) (word w.words 0) q in
          absurd (none_some (row_in (word w.words 0) (word w.words 1) ns) w (ap (λ (z : ℕ). row_in z (word w.words 1) ns) (sym k.1) ∙ ap (λ (z : ℕ). row_in (word n.words 0) z ns) (sym k.0) ∙ h.0) e)

      meet : (i : ℕ) → (is_own (row_of n) ≡ true) × (among i (ids_of s (queues_of n.words)) ≡ true) → Holder s ns i → ⊥
      meet i own w =
          let k : (is_own w.r ≡ true) × (among i (ids_of s (queues_of w.r.words)) ≡ true) = own_of w.r i w.has in
          not_both (among i (ids_of s (queues_of w.r.words))) k.1
          (was.apart (word n.words 1) (word n.words 0) (word w.r.words 1) (word w.r.words 0) (pool_at (row_of n)) (pool_at w.r) (pool_of f (row_of n) here own.0)
          (pool_of f w.r (found (word w.r.words 0) (word w.r.words 1) w.r (later n ns (word w.r.words 0) (word w.r.words 1) w.r h.0 w.there)) k.0) (differ w.r w.there (same_key (word n.words 1) (word n.words 0) (word w.r.words 1) (word w.r.words 0)) refl) i own.1)

-- the queues of a table's rows
pub table_stands : (s : Store) (q : RowTable) (others : List ℕ) → IsTable s q → AreApart s (pools_in (row s q)) others → AllStand s (rows s q) × Apart others (ids_in_all s (rows s q))
unfolding row rows IsTable
table_stands s q others h was = (
  all_stand s (row s q) others was (links s q.tree) (single (links s q.tree) (links_ascend (items s q.tree) h.ascends)) (λ a b r e. e),
  all_beside s (row s q) others was (links s q.tree) (single (links s q.tree) (links_ascend (items s q.tree) h.ascends)) (λ a b r e. e),
)

-- an id is among the queues' exactly if some subpool has it
pub record HasId (s : Store) (f : Rows) (i : ℕ) : Type 0 where
  pub number : ℕ
  pub owner : ℕ
  pub pool : Pool
  pub there : pools_in f number owner ≡ Some pool
  pub has : among i (ids_of s pool.queues) ≡ true

pub id_holder : (s : Store) (q : RowTable) → IsTable s q → (i : ℕ) → among i (ids_in_all s (rows s q)) ≡ true → HasId s (row s q) i
unfolding row rows IsTable
id_holder s q h i m =
    let w : Holder s (links s q.tree) i = holder s (links s q.tree) (single (links s q.tree) (links_ascend (items s q.tree) h.ascends)) i m in
    let k : (is_own w.r ≡ true) × (among i (ids_of s (queues_of w.r.words)) ≡ true) = own_of s w.r i w.has in
    record { number = word w.r.words 1; owner = word w.r.words 0; pool = pool_at w.r; there = pool_of s (row s q) w.r w.there k.0; has = k.1 }

in_list : (s : Store) (ns : List Link) (a b : ℕ) (r : Row) (i : ℕ) → row_in a b ns ≡ Some r → among i (ids_in s r) ≡ true → among i (ids_in_all s (map row_of ns)) ≡ true
in_list s [] a b r i e m = absurd (none_some None r refl e)
in_list s (n ∷ ns) a b r i e m = elim (either (is_under a b n.words)) [
  | inl p ↦ (let same : row_of n ≡ r = some_row (row_of n) r (sym (row_here a b n ns p) ∙ e) in
      in_left i (ids_in s (row_of n)) (ids_in_all s (map row_of ns)) (ap (λ (z : Row). among i (ids_in s z)) same ∙ m))
  | inr p ↦ in_right i (ids_in s (row_of n)) (ids_in_all s (map row_of ns)) (in_list s ns a b r i (sym (row_later a b n ns p) ∙ e) m)
] where
  some_row : (x y : Row) → Some x ≡ Some y → x ≡ y
  some_row x y e = cc

pub held_id : (s : Store) (q : RowTable) → (n o : ℕ) (p : Pool) (i : ℕ) → pools_in (row s q) n o ≡ Some p → among i (ids_of s p.queues) ≡ true → among i (ids_in_all s (rows s q)) ≡ true
unfolding row rows
held_id s q n o p i e m =
    let k : PoolRow (row s q o n) o p = pool_row o (row s q o n) p e in
    let key : (word k.r.words 0 ≡ o) × (word k.r.words 1 ≡ n) = under_own o n (links s q.tree) k.r k.there in
    let own : is_own k.r ≡ true = ap (λ (z : ℕ). z == word k.r.words 2) key.0 ∙ ap (λ (z : ℕ). o == z) k.owner_is ∙ eqb_refl o in
    in_list s (links s q.tree) o n k.r i k.there
    (ap (among i) (cond-true (is_own k.r) (ids_of s (queues_of k.r.words)) [] own) ∙ ap (λ (z : Pool). among i (ids_of s z.queues)) (sym k.pool_is) ∙ m)
