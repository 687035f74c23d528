-- Whether a subpool of a number is shared, by the halves of a table.
use Rattle.std.proofs.Common.{◌≡◌, ◌≢◌, ℕ, zero, suc, ◌+◌, ◌<◌, ◌≤◌, Bool, true, false, ◌||◌, ◌==◌, not, List, [], ◌∷◌, ◌++◌, Option, Some, None, IsSome, ◌⊎◌, inl, inr, refl, sym, ap, ◌∙◌, subst, arith}
use Rattle.std.specs.Prelude.{option_map}
use Rattle.std.specs.List.{list_any, range_with_len}
use Rattle.std.proofs.lemmas.Bool.{or_cases, or_left, or_right, and_left, and_parts, and_from, cases_Bool, cases_lt, eqb-true, ne_eqb, cond-true, cond-false}
use Rattle.vsm_elements.specs.Store.{Store}
use Rattle.row_table.specs.declared.row.Row.{Row}
use Rattle.row_table.specs.declared.table.RowTable.{RowTable}
use Rattle.row_table.specs.Rows.{word, comes_before, is_under, RowsBehind, AreInOrder, row_among}
use Rattle.row_table.specs.RowTable.{row, rows, IsTable}
use Rattle.row_table.proofs.NextLemmas.{before_says}
use Rattle.row_table.proofs.TableLemmas.{rows_ascend}
use Rattle.subpool_set.specs.Pools.{is_others, is_shared, tasks}
use Rattle.subpool_set.specs.Kept.{IsKept, owner_in, sight_in}
use Rattle.subpool_set.specs.Walks.{is_sharing_row}
use Rattle.subpool_set.proofs.SharerLemmas.{order_behind}
use Rattle.subpool_set.proofs.WalkLemmas.{row_middle}

or_three : (a b c : Bool) → (a || (b || c)) ≡ ((a || b) || c)
or_three true b c = refl
or_three false b c = refl

any_split : (p : Row → Bool) (xs : List Row) (r : Row) (ys : List Row) → list_any p (xs ++ r ∷ ys) ≡ (list_any p xs || (p r || list_any p ys))
any_split p [] r ys = refl
any_split p (x ∷ xs) r ys = ap (λ (b : Bool). p x || b) (any_split p xs r ys) ∙ or_three (p x) (list_any p xs) (p r || list_any p ys)

-- a row of another number isn't it
other_row : (number : ℕ) (r : Row) → word r.words 1 ≢ number → is_sharing_row number r ≡ false
other_row number r other = and_left (word r.words 1 == number) (not (owner_in r == word r.words 0)) (ne_eqb (word r.words 1) number other)

-- nor is one before a row of a lower number, or after one of a higher
not_higher : (a b x y : ℕ) → comes_before a b x y ≡ true → b ≤ y
not_higher a b x y h = go (before_says a b x y h) where
  go : (b < y) ⊎ ((b ≡ y) × (a < x)) → b ≤ y
  go (inl less) = omega (arith, less)
  go (inr same) = omega (arith, same.0)

none_below : (number : ℕ) (xs : List Row) (r : Row) (ys : List Row) → AreInOrder (xs ++ r ∷ ys) → word r.words 1 < number → list_any (is_sharing_row number) xs ≡ false
none_below number [] r ys order low = refl
none_below number (x ∷ xs) r ys order low =
    let less = not_higher (word x.words 0) (word x.words 1) (word r.words 0) (word r.words 1) (first xs order.0) in
    ap (λ (b : Bool). b || list_any (is_sharing_row number) xs) (other_row number x (λ same. absurd (omega (arith, less, low, same)))) ∙ none_below number xs r ys order.1 low where
      first : (zs : List Row) → RowsBehind (word x.words 0) (word x.words 1) (zs ++ r ∷ ys) → comes_before (word x.words 0) (word x.words 1) (word r.words 0) (word r.words 1) ≡ true
      first [] behind = behind.0
      first (z ∷ zs) behind = first zs behind.1

none_above : (number : ℕ) (r : Row) (ys : List Row) → RowsBehind (word r.words 0) (word r.words 1) ys → number < word r.words 1 → list_any (is_sharing_row number) ys ≡ false
none_above number r [] behind high = refl
none_above number r (y ∷ ys) behind high =
    let more = not_higher (word r.words 0) (word r.words 1) (word y.words 0) (word y.words 1) behind.0 in
    ap (λ (b : Bool). b || list_any (is_sharing_row number) ys) (other_row number y (λ same. absurd (omega (arith, more, high, same)))) ∙ none_above number r ys behind.1 high

-- a table that is a row and the tables before and after it
module _ (s : Store) (q b e : RowTable) (r : Row) (table : IsTable s q) (parts : rows s q ≡ rows s b ++ r ∷ rows s e) (number : ℕ) where
  abbrev sharing : RowTable → Bool
  sharing x = list_any (is_sharing_row number) (rows s x)

  order : AreInOrder (rows s b ++ r ∷ rows s e)
  order = let P : List Row → Type 0 = AreInOrder in subst P parts (rows_ascend s q table).0

  split : sharing q ≡ (sharing b || (is_sharing_row number r || sharing e))
  split = ap (list_any (is_sharing_row number)) parts ∙ any_split (is_sharing_row number) (rows s b) r (rows s e)

  pub shared_behind : word r.words 1 < number → sharing e ≡ sharing q
  shared_behind low = sym (split
      ∙ ap (λ (x : Bool). x || (is_sharing_row number r || sharing e)) (none_below number (rows s b) r (rows s e) order low)
      ∙ ap (λ (x : Bool). x || sharing e) (other_row number r (λ same. absurd (omega (arith, low, same)))))

  pub shared_before : number < word r.words 1 → sharing b ≡ sharing q
  shared_before high = sym (split
      ∙ ap (λ (x : Bool). sharing b || (x || sharing e)) (other_row number r (λ same. absurd (omega (arith, high, same))))
      ∙ ap (λ (x : Bool). sharing b || x) (none_above number r (rows s e) (order_behind (rows s b) r (rows s e) order) high)
      ∙ last (sharing b)) where
        last : (x : Bool) → (x || false) ≡ x
        last true = refl
        last false = refl

-- what rows say is also true of sight

same_truth : (a b : Bool) → (a ≡ true → b ≡ true) → (b ≡ true → a ≡ true) → a ≡ b
same_truth true b there back = sym (there refl)
same_truth false true there back = back refl
same_truth false false there back = refl

any_has : {A : Type 0} (f : A → Bool) (xs : List A) → list_any f xs ≡ true → (x : A) × (f x ≡ true)
any_has f [] any = absurd cc
any_has f (x ∷ xs) any = elim (or_cases (f x) (list_any f xs) any) [
  | inl here ↦ (x, here)
  | inr later ↦ any_has f xs later
]

-- a list that has such a row is split at it
any_parts : (p : Row → Bool) (rs : List Row) → list_any p rs ≡ true → (xs : List Row) × (r : Row) × (ys : List Row) × (rs ≡ xs ++ r ∷ ys) × (p r ≡ true)
any_parts p [] any = absurd cc
any_parts p (x ∷ rs) any = elim (or_cases (p x) (list_any p rs) any) [
  | inl here ↦ ([], x, rs, refl, here)
  | inr later ↦ let (xs, r, ys, is, has) = any_parts p rs later in (x ∷ xs, r, ys, ap (λ (z : List Row). x ∷ z) is, has)
]

any_row : (rs : List Row) (t n : ℕ) (r : Row) → row_among t n rs ≡ Some r → (owner_in r == t) ≡ false → list_any (is_sharing_row n) rs ≡ true
any_row [] t n r at other = absurd cc
any_row (x ∷ rs) t n r at other = elim (cases_Bool (is_under t n x.words)) [
  | inl under ↦
      let is : x ≡ r = some (sym (cond-true (is_under t n x.words) (Some x) (row_among t n rs) under) ∙ at) in
      let key = and_parts (word x.words 0 == t) (word x.words 1 == n) under in
      or_left (is_sharing_row n x) _ (and_from (word x.words 1 == n) (not (owner_in x == word x.words 0)) key.1
      (ap not ((λ i. owner_in (is i) == eqb-true (word x.words 0) t key.0 i) ∙ other)))
  | inr not_here ↦ or_right (is_sharing_row n x) _ (any_row rs t n r (sym (cond-false (is_under t n x.words) (Some x) (row_among t n rs) not_here) ∙ at) other)
] where
  some : Some x ≡ Some r → x ≡ r
  some e = cc

pub any_of_range : (f : ℕ → Bool) (t len first : ℕ) → f t ≡ true → first ≤ t → t < first + len → list_any f (range_with_len first len) ≡ true
any_of_range f t zero first has low high = absurd (omega (arith, low, high))
any_of_range f t (suc len) first has low high = elim (cases_lt first t) [
  | inl more ↦ or_right (f first) _ (any_of_range f t len (first + 1) has (omega (arith, more)) (omega (arith, high)))
  | inr less ↦ let same : first ≡ t = omega (arith, low, less) in or_left (f first) _ (ap f same ∙ has)
]

pub any_task : (f : ℕ → Bool) (t : ℕ) → f t ≡ true → 1 ≤ t → t ≤ 64 → list_any f tasks ≡ true
unfolding tasks
any_task f t has low high = any_of_range f t 64 1 has low (omega (arith, high))

module _ (s : Store) (q : RowTable) (kept : IsKept s q) (number : ℕ) where
  abbrev sight : ℕ → ℕ → Option ℕ
  sight = sight_in (row s q)

  among : (t : ℕ) → row s q t number ≡ row_among t number (rows s q)
  among t = (rows_ascend s q kept.table).1 t number

  by_rows : list_any (is_sharing_row number) (rows s q) ≡ true → is_shared sight number ≡ true
  by_rows any =
      let (xs, r, ys, is, has) = any_parts (is_sharing_row number) (rows s q) any in
      let both = and_parts (word r.words 1 == number) (not (owner_in r == word r.words 0)) has in
      let same = eqb-true (word r.words 1) number both.0 in
      let P : List Row → Type 0 = AreInOrder in
      let there : row s q (word r.words 0) number ≡ Some r = among (word r.words 0)
      ∙ (λ i. row_among (word r.words 0) (sym same i) (is i)) ∙ row_middle xs r ys (subst P is (rows_ascend s q kept.table).0) in
      let Q : Option Row → Type 0 = λ o. IsSome o in
      let range = kept.sound.ranges (word r.words 0) number (subst Q (sym there) refl) in
      any_task (λ task. is_others (sight task number) task) (word r.words 0)
      (ap (λ (o : Option Row). is_others (option_map owner_in o) (word r.words 0)) there ∙ both.1) range.0 range.1

  by_sight : is_shared sight number ≡ true → list_any (is_sharing_row number) (rows s q) ≡ true
  by_sight any =
      let (t, has) = any_has (λ task. is_others (sight task number) task) tasks any in
      go t (row s q t number) refl has where
        go : (t : ℕ) (o : Option Row) → row s q t number ≡ o → is_others (option_map owner_in o) t ≡ true → list_any (is_sharing_row number) (rows s q) ≡ true
        go t None at has = absurd cc
        go t (Some r) at has = any_row (rows s q) t number r (sym (among t) ∙ at) (not_so (owner_in r == t) has) where
          not_so : (b : Bool) → not b ≡ true → b ≡ false
          not_so true e = absurd cc
          not_so false e = refl

  pub shared_by_rows : list_any (is_sharing_row number) (rows s q) ≡ is_shared sight number
  shared_by_rows = same_truth (list_any (is_sharing_row number) (rows s q)) (is_shared sight number) by_rows by_sight
