-- What a row of numbers gives: the first, and what is after it.
use Rattle.std.proofs.Common.{◌≡◌, ℕ, zero, suc, ◌+◌, ◌<◌, ◌≤◌, Bool, true, false, List, [], ◌∷◌, ◌++◌, Option, Some, None, ◌⊎◌, inl, inr, refl, sym, ap, ◌∙◌, subst, arith}
use Rattle.std.specs.Prelude.{filter, if◌then◌else◌}
use Rattle.std.specs.List.{range_with_len, flat_map, filter_map, cons_option}
use Rattle.std.proofs.lemmas.Bool.{cases_lt, cond-true}
use Rattle.row_table.specs.Rows.{comes_before}
use Rattle.row_table.proofs.RowLemmas.{either}
use Rattle.row_table.proofs.NextLemmas.{before_says, says_before}
use Rattle.subpool_set.specs.Pools.{Pool, Pools, tasks, numbers, in_order}

pub tasks_are : (n : ℕ) → n ≡ 64 → tasks ≡ range_with_len 1 n
unfolding tasks
tasks_are n e = ap (range_with_len 1) (sym e)

pub numbers_are : (n : ℕ) → n ≡ 128 → numbers ≡ range_with_len 0 n
unfolding numbers
numbers_are n e = ap (range_with_len 0) (sym e)

-- what each number gives, or not
module _ {A : Type 0} (f : ℕ → Option A) where
  pub given_none : ((t : ℕ) → f t ≡ None) → (ts : List ℕ) → filter_map f ts ≡ []
  given_none h [] = refl
  given_none h (t ∷ ts) = ap (λ (o : Option A). cons_option o (filter_map f ts)) (h t) ∙ given_none h ts

module _ {A : Type 0} (f g : ℕ → Option A) where
  pub given_same : ((t : ℕ) → f t ≡ g t) → (ts : List ℕ) → filter_map f ts ≡ filter_map g ts
  given_same h [] = refl
  given_same h (t ∷ ts) = ap (λ (o : Option A). cons_option o (filter_map f ts)) (h t) ∙ ap (cons_option (g t)) (given_same h ts)

  pub given_behind : (y : ℕ) → ((t : ℕ) → y < t → f t ≡ g t) → (n a : ℕ) → y < a → filter_map f (range_with_len a n) ≡ filter_map g (range_with_len a n)
  given_behind y h zero a l = refl
  given_behind y h (suc n) a l =
      ap (λ (o : Option A). cons_option o (filter_map f (range_with_len (a + 1) n))) (h a l)
      ∙ ap (cons_option (g a)) (given_behind y h n (a + 1) (omega (arith, l)))

  pub given_first : (x : A) (y : ℕ) → f y ≡ Some x → ((t : ℕ) → t < y → f t ≡ None) → ((t : ℕ) → t ≤ y → g t ≡ None) → ((t : ℕ) → y < t → f t ≡ g t)
      → (n a : ℕ) → a ≤ y → y < a + n → filter_map f (range_with_len a n) ≡ x ∷ filter_map g (range_with_len a n)
  given_first x y here before upto behind zero a low high = absurd (omega (arith, low, high))
  given_first x y here before upto behind (suc n) a low high = elim (cases_lt a y) [
    | inl l ↦ (ap (λ (o : Option A). cons_option o (filter_map f (range_with_len (a + 1) n))) (before a l)
        ∙ given_first x y here before upto behind n (a + 1) (omega (arith, l)) (omega (arith, high))
        ∙ ap (λ (o : Option A). x ∷ cons_option o (filter_map g (range_with_len (a + 1) n))) (sym (upto a low)))
    | inr l ↦ (let e : y ≡ a = omega (arith, l, low) in
        ap (λ (o : Option A). cons_option o (filter_map f (range_with_len (a + 1) n))) (ap f (sym e) ∙ here)
        ∙ ap (λ (z : List A). x ∷ z) (given_behind y behind n (a + 1) (omega (arith, l, low)))
        ∙ ap (λ (o : Option A). x ∷ cons_option o (filter_map g (range_with_len (a + 1) n))) (sym (upto a low)))
  ]

-- numbers that pass a test
module _ (p : ℕ → Bool) where
  pub passed_none : ((t : ℕ) → p t ≡ false) → (ts : List ℕ) → filter p ts ≡ []
  passed_none h [] = refl
  passed_none h (t ∷ ts) = ap (λ (b : Bool). if b then t ∷ filter p ts else filter p ts) (h t) ∙ passed_none h ts

module _ (p q : ℕ → Bool) where
  pub passed_behind : (y : ℕ) → ((t : ℕ) → y < t → p t ≡ q t) → (n a : ℕ) → y < a → filter p (range_with_len a n) ≡ filter q (range_with_len a n)
  passed_behind y h zero a l = refl
  passed_behind y h (suc n) a l =
      ap (λ (b : Bool). if b then a ∷ filter p (range_with_len (a + 1) n) else filter p (range_with_len (a + 1) n)) (h a l)
      ∙ ap (λ (z : List ℕ). if q a then a ∷ z else z) (passed_behind y h n (a + 1) (omega (arith, l)))

  pub passed_first : (y : ℕ) → p y ≡ true → ((t : ℕ) → t < y → p t ≡ false) → ((t : ℕ) → t ≤ y → q t ≡ false) → ((t : ℕ) → y < t → p t ≡ q t)
      → (n a : ℕ) → a ≤ y → y < a + n → filter p (range_with_len a n) ≡ y ∷ filter q (range_with_len a n)
  passed_first y here before upto behind zero a low high = absurd (omega (arith, low, high))
  passed_first y here before upto behind (suc n) a low high = elim (cases_lt a y) [
    | inl l ↦ (ap (λ (b : Bool). if b then a ∷ filter p (range_with_len (a + 1) n) else filter p (range_with_len (a + 1) n)) (before a l)
        ∙ passed_first y here before upto behind n (a + 1) (omega (arith, l)) (omega (arith, high))
        ∙ ap (λ (b : Bool). y ∷ (if b then a ∷ filter q (range_with_len (a + 1) n) else filter q (range_with_len (a + 1) n))) (sym (upto a low)))
    | inr l ↦ (let e : y ≡ a = omega (arith, l, low) in
        ap (λ (b : Bool). if b then a ∷ filter p (range_with_len (a + 1) n) else filter p (range_with_len (a + 1) n)) (ap p (sym e) ∙ here)
        ∙ ap (λ (z : ℕ). z ∷ filter p (range_with_len (a + 1) n)) (sym e)
        ∙ ap (λ (z : List ℕ). y ∷ z) (passed_behind y behind n (a + 1) (omega (arith, l, low)))
        ∙ ap (λ (b : Bool). y ∷ (if b then a ∷ filter q (range_with_len (a + 1) n) else filter q (range_with_len (a + 1) n))) (sym (upto a low)))
  ]

-- lists that numbers give
module _ {A : Type 0} (h : ℕ → List A) where
  pub flat_none : ((j : ℕ) → h j ≡ []) → (js : List ℕ) → flat_map h js ≡ []
  flat_none e [] = refl
  flat_none e (j ∷ js) = ap (λ (z : List A). z ++ flat_map h js) (e j) ∙ flat_none e js

module _ {A : Type 0} (h k : ℕ → List A) where
  pub flat_same : ((j : ℕ) → h j ≡ k j) → (js : List ℕ) → flat_map h js ≡ flat_map k js
  flat_same e [] = refl
  flat_same e (j ∷ js) = ap (λ (z : List A). z ++ flat_map h js) (e j) ∙ ap (λ (z : List A). k j ++ z) (flat_same e js)

  flat_behind : (y : ℕ) → ((j : ℕ) → y < j → h j ≡ k j) → (n a : ℕ) → y < a → flat_map h (range_with_len a n) ≡ flat_map k (range_with_len a n)
  flat_behind y e zero a l = refl
  flat_behind y e (suc n) a l =
      ap (λ (z : List A). z ++ flat_map h (range_with_len (a + 1) n)) (e a l)
      ∙ ap (λ (z : List A). k a ++ z) (flat_behind y e n (a + 1) (omega (arith, l)))

  pub flat_first : (x : A) (y : ℕ) → h y ≡ x ∷ k y → ((j : ℕ) → j < y → h j ≡ []) → ((j : ℕ) → j < y → k j ≡ []) → ((j : ℕ) → y < j → h j ≡ k j)
      → (n a : ℕ) → a ≤ y → y < a + n → flat_map h (range_with_len a n) ≡ x ∷ flat_map k (range_with_len a n)
  flat_first x y here before upto behind zero a low high = absurd (omega (arith, low, high))
  flat_first x y here before upto behind (suc n) a low high = elim (cases_lt a y) [
    | inl l ↦ (ap (λ (z : List A). z ++ flat_map h (range_with_len (a + 1) n)) (before a l)
        ∙ flat_first x y here before upto behind n (a + 1) (omega (arith, l)) (omega (arith, high))
        ∙ ap (λ (z : List A). x ∷ (z ++ flat_map k (range_with_len (a + 1) n))) (sym (upto a l)))
    | inr l ↦ (let e : y ≡ a = omega (arith, l, low) in
        let P : ℕ → Type 0 = λ z. h z ≡ x ∷ k z in
        ap (λ (z : List A). z ++ flat_map h (range_with_len (a + 1) n)) (subst P e here)
        ∙ ap (λ (z : List A). x ∷ (k a ++ z)) (flat_behind y behind n (a + 1) (omega (arith, l, low))))
  ]

-- the subpools of a number
abbrev pub of_number : Pools → ℕ → List Pool
of_number p number = filter_map (λ owner. p number owner) tasks

not_before : (a b x y : ℕ) → (b < y → ⊥) → (b ≡ y → a < x → ⊥) → comes_before a b x y ≡ false
not_before a b x y h k = elim (either (comes_before a b x y)) [
  | inl e ↦ absurd (go (before_says a b x y e))
  | inr e ↦ e
] where
  go : (b < y) ⊎ ((b ≡ y) × (a < x)) → ⊥
  go (inl p) = h p
  go (inr p) = k p.0 p.1

pub order_none : (f : Pools) → ((n o : ℕ) → f n o ≡ None) → in_order f ≡ []
order_none f none = flat_none (of_number f) (λ n. given_none (f n) (none n) tasks) numbers

-- The first subpool and those after it: f has this one and none before it, and g has those of f after it.
module _ (f g : Pools) (n o : ℕ) (x : Pool) (one : 1 ≤ o) (last : o ≤ 64) (high : n ≤ 127) (here : f n o ≡ Some x)
    (before : (m t : ℕ) → comes_before t m o n ≡ true → f m t ≡ None) (behind : (m t : ℕ) → comes_before o n t m ≡ true → f m t ≡ g m t)
    (upto : (m t : ℕ) → comes_before o n t m ≡ false → g m t ≡ None) where
  first_number : (k : ℕ) → k ≡ 64 → of_number f n ≡ x ∷ of_number g n
  first_number k e =
      ap (filter_map (f n)) (tasks_are k e)
      ∙ given_first (f n) (g n) x o here
      (λ t l. before n t (says_before t n o n (inr (refl, l))))
      (λ t l. upto n t (not_before o n t n (λ d. omega (arith, d)) (λ d m. omega (arith, l, m))))
      (λ t l. behind n t (says_before o n t n (inr (refl, l))))
      k 1 one (omega (arith, last, e))
      ∙ ap (λ (z : List ℕ). x ∷ filter_map (g n) z) (sym (tasks_are k e))

  pub order_first : (k : ℕ) → k ≡ 128 → in_order f ≡ x ∷ in_order g
  order_first k e =
      ap (flat_map (of_number f)) (numbers_are k e)
      ∙ flat_first (of_number f) (of_number g) x n (first_number 64 refl)
      (λ m l. given_none (f m) (λ t. before m t (says_before t m o n (inl l))) tasks)
      (λ m l. given_none (g m) (λ t. upto m t (not_before o n t m (λ d. omega (arith, l, d)) (λ d i. omega (arith, l, d)))) tasks)
      (λ m l. given_same (f m) (g m) (λ t. behind m t (says_before o n t m (inl l))) tasks)
      k 0 (omega arith) (omega (arith, high, e))
      ∙ ap (λ (z : List ℕ). x ∷ flat_map (of_number g) z) (sym (numbers_are k e))

-- after 0 and 0 are all, whatever is given for a number and an owner
module _ {A : Type 0} (p : ℕ → ℕ → Option A) where
  abbrev after : ℕ → ℕ → Option A
  after n o = if comes_before 0 0 o n then p n o else None

  after_there : (n t : ℕ) → 0 < t → after n t ≡ p n t
  after_there n t l = cond-true (comes_before 0 0 t n) (p n t) None (says_before 0 0 t n (go (cases_lt 0 n))) where
    go : (0 < n) ⊎ (n ≤ 0) → (0 < n) ⊎ ((0 ≡ n) × (0 < t))
    go (inl h) = inl h
    go (inr h) = inr (omega (arith, h), l)

  after_each : (k n : ℕ) → k ≡ 64 → filter_map (after n) tasks ≡ filter_map (p n) tasks
  after_each k n e =
      ap (filter_map (after n)) (tasks_are k e)
      ∙ given_behind (after n) (p n) 0 (after_there n) k 1 (omega arith)
      ∙ ap (filter_map (p n)) (sym (tasks_are k e))

  pub order_begins : (k : ℕ) → k ≡ 64 → flat_map (λ n. filter_map (after n) tasks) numbers ≡ flat_map (λ n. filter_map (p n) tasks) numbers
  order_begins k e = flat_same (λ n. filter_map (after n) tasks) (λ n. filter_map (p n) tasks) (λ n. after_each k n e) numbers
