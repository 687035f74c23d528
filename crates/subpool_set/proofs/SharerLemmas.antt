-- The first sharer after a task, by the halves of a table.
use Rattle.std.proofs.Common.{◌≡◌, ◌≢◌, ℕ, ◌<◌, ◌≤◌, Bool, true, false, ◌&&◌, ◌==◌, not, List, [], ◌∷◌, ◌++◌, Option, Some, None, IsSome, ◌⊎◌, inl, inr, refl, sym, ap, ◌∙◌, subst, arith}
use Rattle.std.specs.Prelude.{if◌then◌else◌, option_map, IfNone, IfSome}
use Rattle.std.proofs.lemmas.Bool.{cond-false}
use Rattle.vsm_elements.specs.Store.{Store}
use Rattle.row_table.specs.declared.row.Row.{Row}
use Rattle.row_table.specs.declared.table.RowTable.{RowTable}
use Rattle.row_table.specs.Rows.{word, comes_before, is_under, RowsBehind, AreInOrder, row_among}
use Rattle.row_table.specs.RowTable.{row, rows, IsTable}
use Rattle.row_table.proofs.RowLemmas.{either, not_both}
use Rattle.row_table.proofs.NextLemmas.{before_says, says_before, before_more, before_or}
use Rattle.row_table.proofs.TableLemmas.{rows_ascend}
use Rattle.subpool_set.specs.Pools.{is_owner}
use Rattle.subpool_set.specs.Kept.{IsKept, owner_in, sight_in}
use Rattle.subpool_set.specs.Walks.{is_sharer, is_sharers_row, HasNoSharer, IsFirstSharer}
use Rattle.subpool_set.proofs.WalkLemmas.{behind_key, rows_more, rows_none, row_later, row_middle, behind_right}

-- rows that are split at one

left_of : (t n : ℕ) (xs : List Row) (r : Row) (ys : List Row) → AreInOrder (xs ++ r ∷ ys) → comes_before t n (word r.words 0) (word r.words 1) ≡ true → row_among t n (xs ++ r ∷ ys) ≡ row_among t n xs
left_of t n [] r ys order h = rows_none t n (r ∷ ys) (h, rows_more t n (word r.words 0) (word r.words 1) ys h order.0)
left_of t n (x ∷ xs) r ys order h = ap (λ (o : Option Row). if is_under t n x.words then Some x else o) (left_of t n xs r ys order.1 h)

pub right_of : (t n : ℕ) (xs : List Row) (r : Row) (ys : List Row) → AreInOrder (xs ++ r ∷ ys) → comes_before (word r.words 0) (word r.words 1) t n ≡ true → row_among t n (xs ++ r ∷ ys) ≡ row_among t n ys
right_of t n [] r ys order h = row_later t n r ys h
right_of t n (x ∷ xs) r ys order h =
    row_later t n x (xs ++ r ∷ ys) (before_more (word x.words 0) (word x.words 1) (word r.words 0) (word r.words 1) t n (behind_right (word x.words 0) (word x.words 1) xs (r ∷ ys) order.0).0 h)
    ∙ right_of t n xs r ys order.1 h

-- a key that isn't before the one is none of those on the left
none_on_left : (t n : ℕ) (xs : List Row) (r : Row) (ys : List Row) → AreInOrder (xs ++ r ∷ ys) → comes_before t n (word r.words 0) (word r.words 1) ≡ false → row_among t n xs ≡ None
none_on_left t n [] r ys order h = refl
none_on_left t n (x ∷ xs) r ys order h = row_later t n x xs (go (before_or t n (word r.words 0) (word r.words 1) h)) ∙ none_on_left t n xs r ys order.1 h where
  first : comes_before (word x.words 0) (word x.words 1) (word r.words 0) (word r.words 1) ≡ true
  first = (behind_right (word x.words 0) (word x.words 1) xs (r ∷ ys) order.0).0

  go : (comes_before (word r.words 0) (word r.words 1) t n ≡ true) ⊎ ((word r.words 0 ≡ t) × (word r.words 1 ≡ n)) → comes_before (word x.words 0) (word x.words 1) t n ≡ true
  go (inl k) = before_more (word x.words 0) (word x.words 1) (word r.words 0) (word r.words 1) t n first k
  go (inr e) =
      let P : ℕ → Type 0 = λ z. comes_before (word x.words 0) (word x.words 1) z n ≡ true in
      let Q : ℕ → Type 0 = λ z. comes_before (word x.words 0) (word x.words 1) (word r.words 0) z ≡ true in
      subst P e.0 (subst Q e.1 first)

-- and one that isn't after it is none of those on the right
none_on_right : (t n : ℕ) (r : Row) (ys : List Row) → RowsBehind (word r.words 0) (word r.words 1) ys → comes_before (word r.words 0) (word r.words 1) t n ≡ false → row_among t n ys ≡ None
none_on_right t n r [] behind h = refl
none_on_right t n r (y ∷ ys) behind h = cond-false (is_under t n y.words) (Some y) (row_among t n ys) (behind_key t n y (go (before_or (word r.words 0) (word r.words 1) t n h))) ∙ none_on_right t n r ys behind.1 h where
  go : (comes_before t n (word r.words 0) (word r.words 1) ≡ true) ⊎ ((t ≡ word r.words 0) × (n ≡ word r.words 1)) → comes_before t n (word y.words 0) (word y.words 1) ≡ true
  go (inl k) = before_more t n (word r.words 0) (word r.words 1) (word y.words 0) (word y.words 1) k behind.0
  go (inr e) =
      let P : ℕ → Type 0 = λ z. comes_before z n (word y.words 0) (word y.words 1) ≡ true in
      let Q : ℕ → Type 0 = λ z. comes_before (word r.words 0) z (word y.words 0) (word y.words 1) ≡ true in
      subst P (sym e.0) (subst Q (sym e.1) behind.0)

pub order_behind : (xs : List Row) (r : Row) (ys : List Row) → AreInOrder (xs ++ r ∷ ys) → RowsBehind (word r.words 0) (word r.words 1) ys
order_behind [] r ys order = order.0
order_behind (x ∷ xs) r ys order = order_behind xs r ys order.1

-- a table that is a row and the tables before and after it
module _ (s : Store) (q b e : RowTable) (r : Row) (table : IsTable s q) (before : IsTable s b) (behind : IsTable s e) (parts : rows s q ≡ rows s b ++ r ∷ rows s e) (number owner from : ℕ) where
  abbrev task : ℕ
  task = word r.words 0

  order : AreInOrder (rows s b ++ r ∷ rows s e)
  order = let P : List Row → Type 0 = AreInOrder in subst P parts (rows_ascend s q table).0

  split : (t n : ℕ) → row s q t n ≡ row_among t n (rows s b ++ r ∷ rows s e)
  split t n = (rows_ascend s q table).1 t n ∙ ap (row_among t n) parts

  abbrev is_sharer_in : RowTable → ℕ → Bool
  is_sharer_in x t = is_sharer (sight_in (row s x)) number owner t

  of_row : (x y : RowTable) (t : ℕ) → row s x t number ≡ row s y t number → is_sharer_in x t ≡ is_sharer_in y t
  of_row x y t h = ap (λ (o : Option Row). is_owner owner (option_map owner_in o) && not (t == owner)) h

  no_row : (x : RowTable) (t : ℕ) → row s x t number ≡ None → is_sharer_in x t ≡ false
  no_row x t h = ap (λ (o : Option Row). is_owner owner (option_map owner_in o) && not (t == owner)) h

  left : (t : ℕ) → comes_before t number task (word r.words 1) ≡ true → is_sharer_in q t ≡ is_sharer_in b t
  left t h = of_row q b t (split t number ∙ left_of t number (rows s b) r (rows s e) order h ∙ sym ((rows_ascend s b before).1 t number))

  right : (t : ℕ) → comes_before task (word r.words 1) t number ≡ true → is_sharer_in q t ≡ is_sharer_in e t
  right t h = of_row q e t (split t number ∙ right_of t number (rows s b) r (rows s e) order h ∙ sym ((rows_ascend s e behind).1 t number))

  left_before : (t : ℕ) → is_sharer_in b t ≡ true → comes_before t number task (word r.words 1) ≡ true
  left_before t h = elim (either (comes_before t number task (word r.words 1))) [
    | inl k ↦ k
    | inr k ↦ absurd (not_both (is_sharer_in b t) h (no_row b t ((rows_ascend s b before).1 t number ∙ none_on_left t number (rows s b) r (rows s e) order k)))
  ]

  right_behind : (t : ℕ) → is_sharer_in e t ≡ true → comes_before task (word r.words 1) t number ≡ true
  right_behind t h = elim (either (comes_before task (word r.words 1) t number)) [
    | inl k ↦ k
    | inr k ↦ absurd (not_both (is_sharer_in e t) h (no_row e t ((rows_ascend s e behind).1 t number ∙ none_on_right t number r (rows s e) (order_behind (rows s b) r (rows s e) order) k)))
  ]

  above : (t : ℕ) → from < t → comes_before from number t number ≡ true
  above t l = says_before from number t number (inr (refl, l))

  -- the row is none of those that are looked for, nor is what is before it
  module _ (passed : comes_before from number task (word r.words 1) ≡ false) where
    beyond : (t : ℕ) → from < t → comes_before task (word r.words 1) t number ≡ true
    beyond t l = go (before_or from number task (word r.words 1) passed) where
      go : (comes_before task (word r.words 1) from number ≡ true) ⊎ ((task ≡ from) × (word r.words 1 ≡ number)) → comes_before task (word r.words 1) t number ≡ true
      go (inl k) = before_more task (word r.words 1) from number t number k (above t l)
      go (inr e) = says_before task (word r.words 1) t number (inr (e.1, omega (arith, e.0, l)))

    pub beyond_none : HasNoSharer (sight_in (row s e)) number owner from → HasNoSharer (sight_in (row s q)) number owner from
    beyond_none none t l = right t (beyond t l) ∙ none t l

    pub beyond_first : (t : ℕ) → IsFirstSharer (sight_in (row s e)) number owner from t → IsFirstSharer (sight_in (row s q)) number owner from t
    beyond_first t h = record {
      later = h.later;
      shares = right t (beyond t h.later) ∙ h.shares;
      first = λ u l m. right u (beyond u l) ∙ h.first u l m;
    }

  pub left_first : (t : ℕ) → IsFirstSharer (sight_in (row s b)) number owner from t → IsFirstSharer (sight_in (row s q)) number owner from t
  left_first t h = record {
    later = h.later;
    shares = left t (left_before t h.shares) ∙ h.shares;
    first = λ u l m. left u (before_more u number t number task (word r.words 1) (says_before u number t number (inr (refl, m))) (left_before t h.shares)) ∙ h.first u l m;
  }

  -- the row is after the task, and none before the row shares
  module _ (reached : comes_before from number task (word r.words 1) ≡ true) (none : HasNoSharer (sight_in (row s b)) number owner from) where
    pub other_none : word r.words 1 ≢ number → HasNoSharer (sight_in (row s q)) number owner from
    other_none other t l = left t (says_before t number task (word r.words 1) (inl (go (before_says from number task (word r.words 1) reached)))) ∙ none t l where
      go : (number < word r.words 1) ⊎ ((number ≡ word r.words 1) × (from < task)) → number < word r.words 1
      go (inl k) = k
      go (inr k) = absurd (other (sym k.0))

    module _ (same : word r.words 1 ≡ number) where
      up : from < task
      up = go (before_says from number task (word r.words 1) reached) where
        go : (number < word r.words 1) ⊎ ((number ≡ word r.words 1) × (from < task)) → from < task
        go (inl k) = absurd (omega (arith, k, same))
        go (inr k) = k.1

      below : (t : ℕ) → from < t → t < task → is_sharer_in q t ≡ false
      below t l m = left t (says_before t number task (word r.words 1) (inr (sym same, m))) ∙ none t l

      tested : is_sharer_in q task ≡ is_sharers_row owner r
      tested = ap (λ (o : Option Row). is_owner owner (option_map owner_in o) && not (task == owner))
          (ap (row s q task) (sym same) ∙ split task (word r.words 1) ∙ row_middle (rows s b) r (rows s e) order)

      pub here_first : is_sharers_row owner r ≡ true → IsFirstSharer (sight_in (row s q)) number owner from task
      here_first h = record { later = up; shares = tested ∙ h; first = below }

      module _ (alone : is_sharers_row owner r ≡ false) where
        beside : (t : ℕ) → from < t → comes_before task (word r.words 1) t number ≡ false → is_sharer_in q t ≡ false
        beside t l h = elim (before_or task (word r.words 1) t number h) [
          | inl k ↦ left t k ∙ none t l
          | inr k ↦ ap (is_sharer_in q) k.0 ∙ tested ∙ alone
        ]

        each : (t : ℕ) → from < t → is_sharer_in e t ≡ false → is_sharer_in q t ≡ false
        each t l h = elim (either (comes_before task (word r.words 1) t number)) [
          | inl k ↦ right t k ∙ h
          | inr k ↦ beside t l k
        ]

        pub right_none : HasNoSharer (sight_in (row s e)) number owner from → HasNoSharer (sight_in (row s q)) number owner from
        right_none h t l = each t l (h t l)

        pub right_first : (t : ℕ) → IsFirstSharer (sight_in (row s e)) number owner from t → IsFirstSharer (sight_in (row s q)) number owner from t
        right_first t h = record {
          later = h.later;
          shares = right t (right_behind t h.shares) ∙ h.shares;
          first = λ u l m. each u l (h.first u l m);
        }

-- a table without rows has none
pub no_rows : (s : Store) (q : RowTable) → IsTable s q → (number owner from : ℕ) → rows s q ≡ [] → HasNoSharer (sight_in (row s q)) number owner from
no_rows s q table number owner from none t l =
    ap (λ (o : Option Row). is_owner owner (option_map owner_in o) && not (t == owner)) ((rows_ascend s q table).1 t number ∙ ap (row_among t number) none)

-- a task that shares is from 1 to 64
pub first_range : (s : Store) (q : RowTable) → IsKept s q → (number owner from task : ℕ) → IsFirstSharer (sight_in (row s q)) number owner from task → (1 ≤ task) × (task ≤ 64)
first_range s q kept number owner from task h = go (row s q task number) refl where
  go : (o : Option Row) → row s q task number ≡ o → (1 ≤ task) × (task ≤ 64)
  go None e = absurd (not_both (is_sharer (sight_in (row s q)) number owner task) h.shares (ap (λ (o : Option Row). is_owner owner (option_map owner_in o) && not (task == owner)) e))
  go (Some r) e =
      let P : Option Row → Type 0 = λ o. IsSome o in
      let range = kept.sound.ranges task number (subst P (sym e) refl) in
      (range.0, range.1)

-- what is true anyway is true if an option is none, and what follows from that follows there
pub where_none : {A : Type 0} (o : Option A) (P : Type 0) → P → IfNone o P
where_none None P h = h
where_none (Some x) P h = tt

pub over_none : {A : Type 0} (o : Option A) (P Q : Type 0) → IfNone o P → (P → Q) → IfNone o Q
over_none None P Q h f = f h
over_none (Some x) P Q h f = tt

pub over_some : {A : Type 0} (o : Option A) (P Q : A → Type 0) → IfSome o P → ((x : A) → P x → Q x) → IfSome o Q
over_some None P Q h f = tt
over_some (Some x) P Q h f = f x h
