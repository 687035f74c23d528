-- Walks over the rows of sight: what is left of them, as only the set determines it.
use Rattle.std.proofs.Common.{◌≡◌, ◌≢◌, ℕ, suc, ◌+◌, ◌<◌, ◌≤◌, true, false, ◌==◌, List, [], ◌∷◌, ◌++◌, length, take, drop, get_or, Option, Some, None, IsSome, ◌⊎◌, inl, inr, refl, sym, ap, ◌∙◌, subst, arith}
use Rattle.std.specs.Prelude.{map, slice_get}
use Rattle.std.proofs.lemmas.Bool.{cases_lt, cond-false, cond-true}
use Rattle.std.proofs.lemmas.List.{take-append-drop}
use Rattle.std.proofs.lemmas.Option.{get_or_from_slice_get, slice_get_within, slice_get-get_or}
use Rattle.std.proofs.Math.ListN.{drop_of_length-le}
use Rattle.std.proofs.Math.Seq.{drop-cons}
use Rattle.vsm_elements.specs.Store.{Store}
use Rattle.vsm_elements.specs.Chain.{Link}
use Rattle.row_table.specs.declared.places.RowPlace.{RowPlace}
use Rattle.row_table.specs.declared.row.Row.{Row}
use Rattle.row_table.specs.declared.table.RowTable.{RowTable}
use Rattle.row_table.specs.Rows.{word, comes_before, is_under, RowsBehind, AreInOrder, row_among}
use Rattle.row_table.specs.RowTable.{row, rows, place_index}
use Rattle.row_table.proofs.RowLemmas.{either, none_some, not_both, same_self, eqb_same, eqb_refl}
use Rattle.row_table.proofs.NextLemmas.{says_before, before_more}
use Rattle.row_table.proofs.AscendLemmas.{other_behind, other_before}
use Rattle.row_table.proofs.TableLemmas.{rows_ascend}
use Rattle.subpool_set.specs.Pools.{Pool, ids_in_order}
use Rattle.subpool_set.specs.Kept.{Rows, IsKept, owner_in, pools_in}
use Rattle.subpool_set.specs.Walks.{pool_ids}
use Rattle.subpool_set.proofs.ReaderLemmas.{pools_after, IsPast, past_begin, past_end, past_more, past_found}
use Rattle.subpool_set.proofs.OrderLemmas.{order_begins}

-- rows in order

abbrev link : Row → Link
link r = record { id = r.id; words = r.words }

pub behind_key : (t n : ℕ) (r : Row) → comes_before t n (word r.words 0) (word r.words 1) ≡ true → is_under t n r.words ≡ false
behind_key t n r h = other_behind t n (link r) h

before_key : (t n : ℕ) (r : Row) → comes_before (word r.words 0) (word r.words 1) t n ≡ true → is_under t n r.words ≡ false
before_key t n r h = other_before t n (link r) h

pub rows_more : (t n v w : ℕ) (rs : List Row) → comes_before t n v w ≡ true → RowsBehind v w rs → RowsBehind t n rs
rows_more t n v w [] e h = tt
rows_more t n v w (r ∷ rs) e h = (before_more t n v w (word r.words 0) (word r.words 1) e h.0, rows_more t n v w rs e h.1)

pub rows_none : (t n : ℕ) (rs : List Row) → RowsBehind t n rs → row_among t n rs ≡ None
rows_none t n [] h = refl
rows_none t n (r ∷ rs) h = cond-false (is_under t n r.words) (Some r) (row_among t n rs) (behind_key t n r h.0) ∙ rows_none t n rs h.1

row_first : (r : Row) (rs : List Row) → row_among (word r.words 0) (word r.words 1) (r ∷ rs) ≡ Some r
row_first r rs = cond-true (is_under (word r.words 0) (word r.words 1) r.words) (Some r) (row_among (word r.words 0) (word r.words 1) rs) (same_self (word r.words 0) (word r.words 1))

pub row_later : (t n : ℕ) (r : Row) (rs : List Row) → comes_before (word r.words 0) (word r.words 1) t n ≡ true → row_among t n (r ∷ rs) ≡ row_among t n rs
row_later t n r rs h = cond-false (is_under t n r.words) (Some r) (row_among t n rs) (before_key t n r h)

pub behind_right : (t n : ℕ) (xs ys : List Row) → RowsBehind t n (xs ++ ys) → RowsBehind t n ys
behind_right t n [] ys h = h
behind_right t n (x ∷ xs) ys h = behind_right t n xs ys h.1

pub row_middle : (xs : List Row) (r : Row) (ys : List Row) → AreInOrder (xs ++ r ∷ ys) → row_among (word r.words 0) (word r.words 1) (xs ++ r ∷ ys) ≡ Some r
row_middle [] r ys h = row_first r ys
row_middle (x ∷ xs) r ys h =
    row_later (word r.words 0) (word r.words 1) x (xs ++ r ∷ ys) (behind_right (word x.words 0) (word x.words 1) xs (r ∷ ys) h.0).0
    ∙ row_middle xs r ys h.1

-- rows at a place
module _ (rs : List Row) (k : ℕ) (r : Row) (get : slice_get rs k ≡ Some r) where
  in_rows : k < length rs
  in_rows = slice_get_within rs k r get

  drop_row : drop k rs ≡ r ∷ drop (k + 1) rs
  drop_row = let e : suc k ≡ k + 1 = omega arith in drop-cons rs k r in_rows ∙ ap (λ (x : Row). x ∷ drop (suc k) rs) (get_or_from_slice_get rs k r r get) ∙ ap (λ (j : ℕ). r ∷ drop j rs) e

  whole : rs ≡ take k rs ++ r ∷ drop (k + 1) rs
  whole = sym (take-append-drop k rs) ∙ ap (λ (z : List Row). take k rs ++ z) drop_row

  pub row_at : AreInOrder rs → row_among (word r.words 0) (word r.words 1) rs ≡ Some r
  row_at order = let P : List Row → Type 0 = AreInOrder in ap (row_among (word r.words 0) (word r.words 1)) whole ∙ row_middle (take k rs) r (drop (k + 1) rs) (subst P whole order)

  pub pool_here : owner_in r ≡ word r.words 0 → pool_ids (drop k rs) ≡ r.id ∷ pool_ids (drop (k + 1) rs)
  pool_here e = ap pool_ids drop_row ∙ cond-true (owner_in r == word r.words 0) (r.id ∷ pool_ids (drop (k + 1) rs)) (pool_ids (drop (k + 1) rs)) (ap (λ (z : ℕ). z == word r.words 0) e ∙ eqb_refl (word r.words 0))

  pub pool_passed : owner_in r ≢ word r.words 0 → pool_ids (drop k rs) ≡ pool_ids (drop (k + 1) rs)
  pool_passed ne = ap pool_ids drop_row ∙ cond-false (owner_in r == word r.words 0) (r.id ∷ pool_ids (drop (k + 1) rs)) (pool_ids (drop (k + 1) rs)) (differs (owner_in r) (word r.words 0) ne) where
    differs : (a b : ℕ) → a ≢ b → (a == b) ≡ false
    differs a b ne' = elim (either (a == b)) [
      | inl e ↦ absurd (ne' (eqb_same a b e))
      | inr e ↦ e
    ]

-- nothing is after the last row
pub nothing : (rs : List Row) (k : ℕ) → slice_get rs k ≡ None → drop k rs ≡ []
nothing rs k e = drop_of_length-le rs (go (cases_lt k (length rs))) where
  go : (k < length rs) ⊎ (length rs ≤ k) → length rs ≤ k
  go (inr l) = l
  go (inl l) = absurd (none_some (slice_get rs k) (get_or rs k (record { id = 0; words = [] })) e (slice_get-get_or rs k (record { id = 0; words = [] }) l))

-- all rows of a walk

abbrev InRange : Rows → Type 0
InRange f = (r : Row) → f (word r.words 0) (word r.words 1) ≡ Some r → (1 ≤ word r.words 0) × (word r.words 0 ≤ 64) × (word r.words 1 ≤ 127)

-- after a key, what is under a number is among these rows
abbrev FollowsFrom : Rows → ℕ → ℕ → List Row → Type 0
FollowsFrom f v w rs = (t n : ℕ) → comes_before v w t n ≡ true → f t n ≡ row_among t n rs

module _ (f : Rows) (r : Row) (rs : List Row) (v w : ℕ) (order : AreInOrder (r ∷ rs)) (behind : RowsBehind v w (r ∷ rs)) (follows : FollowsFrom f v w (r ∷ rs)) where
  head_there : f (word r.words 0) (word r.words 1) ≡ Some r
  head_there = follows (word r.words 0) (word r.words 1) behind.0 ∙ row_first r rs

  head_next : (t n : ℕ) → comes_before v w t n ≡ true → comes_before t n (word r.words 0) (word r.words 1) ≡ true → f t n ≡ None
  head_next t n h k = follows t n h ∙ rows_none t n (r ∷ rs) (k, rows_more t n (word r.words 0) (word r.words 1) rs k order.0)

  tail_follows : FollowsFrom f (word r.words 0) (word r.words 1) rs
  tail_follows t n h = follows t n (before_more v w (word r.words 0) (word r.words 1) t n behind.0 h) ∙ row_later t n r rs h

pools_walk : (f : Rows) → InRange f → (rs : List Row) (a b v w : ℕ) → AreInOrder rs → RowsBehind v w rs → FollowsFrom f v w rs → IsPast f a b v w
    → pool_ids rs ≡ ids_in_order (pools_after (pools_in f) b a)
pools_walk f ranges [] a b v w order behind follows past = sym (past_end f a b v w past (λ t n h. follows t n h))
pools_walk f ranges (r ∷ rs) a b v w order behind follows past =
    go (λ c d more. pools_walk f ranges rs c d (word r.words 0) (word r.words 1) order.1 order.0 (tail_follows f r rs v w order behind follows) more) (either (owner_in r == word r.words 0)) where
      there : f (word r.words 0) (word r.words 1) ≡ Some r
      there = head_there f r rs v w order behind follows

      next : (t n : ℕ) → comes_before v w t n ≡ true → comes_before t n (word r.words 0) (word r.words 1) ≡ true → f t n ≡ None
      next = head_next f r rs v w order behind follows

      go : ((c d : ℕ) → IsPast f c d (word r.words 0) (word r.words 1) → pool_ids rs ≡ ids_in_order (pools_after (pools_in f) d c))
          → ((owner_in r == word r.words 0) ≡ true) ⊎ ((owner_in r == word r.words 0) ≡ false) → pool_ids (r ∷ rs) ≡ ids_in_order (pools_after (pools_in f) b a)
      go again (inl e) =
          let range : (1 ≤ word r.words 0) × (word r.words 0 ≤ 64) × (word r.words 1 ≤ 127) = ranges r there in
          cond-true (owner_in r == word r.words 0) (r.id ∷ pool_ids rs) (pool_ids rs) e
          ∙ ap (λ (z : List ℕ). r.id ∷ z) (again (word r.words 0) (word r.words 1) (past_begin f (word r.words 0) (word r.words 1)))
          ∙ sym (past_found f a b v w past r there behind.0 next (eqb_same (owner_in r) (word r.words 0) e) range.0 range.1 range.2)
      go again (inr e) =
          cond-false (owner_in r == word r.words 0) (r.id ∷ pool_ids rs) (pool_ids rs) e
          ∙ again a b
          (past_more f a b v w past r there behind.0 next (λ q. not_both (owner_in r == word r.words 0) (ap (λ (z : ℕ). z == word r.words 0) q ∙ eqb_refl (word r.words 0)) e))

-- all rows are after key 0 of number 0
all_behind : (f : Rows) → InRange f → (rs : List Row) → AreInOrder rs → ((r : Row) (ys : List Row) → rs ≡ r ∷ ys → f (word r.words 0) (word r.words 1) ≡ Some r) → RowsBehind 0 0 rs
all_behind f ranges [] order there = tt
all_behind f ranges (r ∷ rs) order there = (first, rows_more 0 0 (word r.words 0) (word r.words 1) rs first order.0) where
  low : 1 ≤ word r.words 0
  low = (ranges r (there r rs refl)).0

  cases : (0 < word r.words 1) ⊎ (word r.words 1 ≤ 0) → comes_before 0 0 (word r.words 0) (word r.words 1) ≡ true
  cases (inl l) = says_before 0 0 (word r.words 0) (word r.words 1) (inl l)
  cases (inr l) = says_before 0 0 (word r.words 0) (word r.words 1) (inr (omega (arith, l), omega (arith, low)))

  first : comes_before 0 0 (word r.words 0) (word r.words 1) ≡ true
  first = cases (cases_lt 0 (word r.words 1))

module _ (s : Store) (q : RowTable) (kept : IsKept s q) where
  abbrev f : Rows
  f = row s q

  ranges : InRange f
  ranges r e = kept.sound.ranges (word r.words 0) (word r.words 1) (let P : Option Row → Type 0 = λ o. IsSome o in subst P (sym e) refl)

  order : AreInOrder (rows s q)
  order = (rows_ascend s q kept.table).0

  among : (a b : ℕ) → row s q a b ≡ row_among a b (rows s q)
  among = (rows_ascend s q kept.table).1

  first_there : (xs : List Row) (r : Row) (ys : List Row) → rows s q ≡ xs ++ r ∷ ys → f (word r.words 0) (word r.words 1) ≡ Some r
  first_there xs r ys e = let P : List Row → Type 0 = AreInOrder in
      among (word r.words 0) (word r.words 1) ∙ ap (row_among (word r.words 0) (word r.words 1)) e ∙ row_middle xs r ys (subst P e order)

  pub there_at : (k : ℕ) (r : Row) → slice_get (rows s q) k ≡ Some r → row s q (word r.words 0) (word r.words 1) ≡ Some r
  there_at k r get = among (word r.words 0) (word r.words 1) ∙ row_at (rows s q) k r get order

  pub range_at : (k : ℕ) (r : Row) → slice_get (rows s q) k ≡ Some r → (1 ≤ word r.words 0) × (word r.words 0 ≤ 64) × (word r.words 1 ≤ 127)
  range_at k r get = ranges r (there_at k r get)

  all_pools : pool_ids (rows s q) ≡ ids_in_order (pools_in f)
  all_pools =
      pools_walk f ranges (rows s q) 0 0 0 0 order (all_behind f ranges (rows s q) order (λ r ys e. first_there [] r ys e)) (λ t n h. among t n) (past_begin f 0 0)
      ∙ ap (map (λ (p : Pool). p.id)) (order_begins (pools_in f) 64 refl)

-- the beginning of any rows
pub front_pools : (s : Store) (q : RowTable) → IsKept s q → (n : RowPlace) → place_index n ≡ 0 → pool_ids (drop (place_index n) (rows s q)) ≡ ids_in_order (pools_in (row s q))
front_pools s q kept n e = ap (λ (z : ℕ). pool_ids (drop z (rows s q))) e ∙ all_pools s q kept

-- if nothing is at an index, nothing is left
pub no_pools : (rs : List Row) (k : ℕ) → slice_get rs k ≡ None → pool_ids (drop k rs) ≡ []
no_pools rs k e = ap pool_ids (nothing rs k e)
