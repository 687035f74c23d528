-- What holds of each element of a list, and of each and each later one.
use Rattle.std.proofs.Common.{◌≡◌, ℕ, zero, suc, ◌+◌, ◌<◌, ◌≤◌, Bool, true, false, ◌||◌, Option, Some, None, List, [], ◌∷◌, ◌++◌, refl, sym, ◌∙◌, ap, arith, inl, inr, true≢false}
use Rattle.std.specs.Prelude.{filter, map}
use Rattle.std.specs.List.{range_with_len, flat_map, filter_map, cons_option, list_any}
use Rattle.std.proofs.lemmas.Bool.{or_cases, or_left, or_right, cond_both}

abbrev pub Each : {A : Type 0} → (A → Type 0) → List A → Type 0
Each P [] = Unit {0}
Each P (x ∷ xs) = P x × Each P xs

abbrev pub Apart : {A : Type 0} → (A → A → Type 0) → List A → Type 0
Apart R [] = Unit {0}
Apart R (x ∷ xs) = Each (R x) xs × Apart R xs

pub each_all : {A : Type 0} (P : A → Type 0) (xs : List A) → ((x : A) → P x) → Each P xs
each_all P [] h = tt
each_all P (x ∷ xs) h = (h x, each_all P xs h)

pub each_so : {A : Type 0} (P Q : A → Type 0) (xs : List A) → ((x : A) → P x → Q x) → Each P xs → Each Q xs
each_so P Q [] h e = tt
each_so P Q (x ∷ xs) h e = (h x e.0, each_so P Q xs h e.1)

pub each_both : {A : Type 0} (P Q R : A → Type 0) (xs : List A) → ((x : A) → P x → Q x → R x) → Each P xs → Each Q xs → Each R xs
each_both P Q R [] h e f = tt
each_both P Q R (x ∷ xs) h e f = (h x e.0 f.0, each_both P Q R xs h e.1 f.1)

pub each_append : {A : Type 0} (P : A → Type 0) (xs ys : List A) → Each P xs → Each P ys → Each P (xs ++ ys)
each_append P [] ys e f = f
each_append P (x ∷ xs) ys e f = (e.0, each_append P xs ys e.1 f)

pub each_flat : {A B : Type 0} (P : B → Type 0) (h : A → List B) (xs : List A) → Each (λ x. Each P (h x)) xs → Each P (flat_map h xs)
each_flat P h [] e = tt
each_flat P h (x ∷ xs) e = each_append P (h x) (flat_map h xs) e.0 (each_flat P h xs e.1)

pub each_map : {A B : Type 0} (P : B → Type 0) (g : A → B) (xs : List A) → Each (λ x. P (g x)) xs → Each P (map g xs)
each_map P g [] e = tt
each_map P g (x ∷ xs) e = (e.0, each_map P g xs e.1)

pub each_filter : {A : Type 0} (P Q : A → Type 0) (f : A → Bool) (xs : List A) → ((x : A) → f x ≡ true → P x → Q x) → Each P xs → Each Q (filter f xs)
each_filter P Q f [] h e = tt
each_filter P Q f (x ∷ xs) h e =
    let later = each_filter P Q f xs h e.1 in
    cond_both (f x) (x ∷ filter f xs) (filter f xs) (Each Q) (λ passes. (h x passes e.0, later)) (λ _. later)

pub each_given : {A B : Type 0} (P : A → Type 0) (Q : B → Type 0) (g : A → Option B) (xs : List A) → ((x : A) (y : B) → P x → g x ≡ Some y → Q y)
    → Each P xs → Each Q (filter_map g xs)
each_given P Q g [] h e = tt
each_given P Q g (x ∷ xs) h e =
    let later = each_given P Q g xs h e.1 in
    elim (g x) as (λ o. g x ≡ o → Each Q (cons_option o (filter_map g xs))) [
      | None ↦ λ _. later
      | Some y ↦ λ at. (h x y e.0 at, later)
    ] refl

pub apart_append : {A : Type 0} (R : A → A → Type 0) (xs ys : List A) → Apart R xs → Apart R ys → Each (λ x. Each (R x) ys) xs → Apart R (xs ++ ys)
apart_append R [] ys a b c = b
apart_append R (x ∷ xs) ys a b c = (each_append (R x) xs ys a.0 c.0, apart_append R xs ys a.1 b c.1)

-- the lists of a list, whose elements are each apart from those of each later one
pub apart_flat : {A B : Type 0} (R : B → B → Type 0) (S : A → A → Type 0) (h : A → List B) (xs : List A)
    → ((x y : A) → S x y → Each (λ u. Each (R u) (h y)) (h x)) → Each (λ x. Apart R (h x)) xs → Apart S xs → Apart R (flat_map h xs)
apart_flat R S h [] across e a = tt
apart_flat {A = A} {B = B} R S h (x ∷ xs) across e a =
    apart_append R (h x) (flat_map h xs) e.0 (apart_flat R S h xs across e.1 a.1) (spread xs a.0) where
      each_in : (us : List B) (ys : List A) → Each (λ y. Each (λ u. Each (R u) (h y)) us) ys → Each (λ u. Each (R u) (flat_map h ys)) us
      each_in us [] f = each_all (λ u. Unit {0}) us (λ _. tt)
      each_in us (y ∷ ys) f =
          each_both (λ u. Each (R u) (h y)) (λ u. Each (R u) (flat_map h ys)) (λ u. Each (R u) (h y ++ flat_map h ys)) us
          (λ u first later. each_append (R u) (h y) (flat_map h ys) first later) f.0 (each_in us ys f.1)

      spread : (ys : List A) → Each (S x) ys → Each (λ u. Each (R u) (flat_map h ys)) (h x)
      spread ys f = each_in (h x) ys (each_so (S x) (λ y. Each (λ u. Each (R u) (h y)) (h x)) ys (λ y s. across x y s) f)

pub apart_map : {A B : Type 0} (R : B → B → Type 0) (S : A → A → Type 0) (g : A → B) (xs : List A) → ((x y : A) → S x y → R (g x) (g y)) → Apart S xs → Apart R (map g xs)
apart_map R S g [] h a = tt
apart_map R S g (x ∷ xs) h a =
    (each_map (R (g x)) g xs (each_so (S x) (λ y. R (g x) (g y)) xs (λ y. h x y) a.0), apart_map R S g xs h a.1)

pub apart_filter : {A : Type 0} (R : A → A → Type 0) (f : A → Bool) (xs : List A) → Apart R xs → Apart R (filter f xs)
apart_filter R f [] a = tt
apart_filter R f (x ∷ xs) a =
    let later = apart_filter R f xs a.1 in
    cond_both (f x) (x ∷ filter f xs) (filter f xs) (Apart R) (λ _. (each_filter (R x) (R x) f xs (λ y _ r. r) a.0, later)) (λ _. later)

-- of those that pass, each and each later one do
pub apart_passing : {A : Type 0} (R : A → A → Type 0) (f : A → Bool) (xs : List A) → Apart R xs → Apart (λ x y. R x y × (f x ≡ true) × (f y ≡ true)) (filter f xs)
apart_passing R f [] a = tt
apart_passing R f (x ∷ xs) a =
    let later = apart_passing R f xs a.1 in
    cond_both (f x) (x ∷ filter f xs) (filter f xs) (Apart (λ y z. R y z × (f y ≡ true) × (f z ≡ true)))
    (λ passes. (each_filter (R x) (λ y. R x y × (f x ≡ true) × (f y ≡ true)) f xs (λ y its r. (r, passes, its)) a.0, later)) (λ _. later)

-- with what holds of each
pub apart_each : {A : Type 0} (R : A → A → Type 0) (P : A → Type 0) (xs : List A) → Apart R xs → Each P xs → Apart (λ x y. R x y × P x × P y) xs
apart_each R P [] a e = tt
apart_each R P (x ∷ xs) a e = (each_both (R x) P (λ y. R x y × P x × P y) xs (λ y r its. (r, e.0, its)) a.0 e.1, apart_each R P xs a.1 e.1)

pub apart_given : {A B : Type 0} (R : B → B → Type 0) (S : A → A → Type 0) (g : A → Option B) (xs : List A)
    → ((x y : A) (u v : B) → S x y → g x ≡ Some u → g y ≡ Some v → R u v) → Apart S xs → Apart R (filter_map g xs)
apart_given R S g [] h a = tt
apart_given R S g (x ∷ xs) h a =
    let later = apart_given R S g xs h a.1 in
    elim (g x) as (λ o. g x ≡ o → Apart R (cons_option o (filter_map g xs))) [
      | None ↦ λ _. later
      | Some u ↦ λ at. (each_given (S x) (R u) g xs (λ y v s is. h x y u v s at is) a.0, later)
    ] refl

-- the numbers of a range ascend
pub each_from : (low first len : ℕ) → low ≤ first → Each (λ k. low ≤ k) (range_with_len first len)
each_from low first zero less = tt
each_from low first (suc len) less = (less, each_from low (first + 1) len (omega (arith, less)))

pub each_to : (high first len : ℕ) → first + len ≤ high → Each (λ k. k < high) (range_with_len first len)
each_to high first zero less = tt
each_to high first (suc len) less = (omega (arith, less), each_to high (first + 1) len (omega (arith, less)))

pub range_ascends : (first len : ℕ) → Apart (λ j k. j < k) (range_with_len first len)
range_ascends first zero = tt
range_ascends first (suc len) = (each_so (λ k. first + 1 ≤ k) (λ k. first < k) (range_with_len (first + 1) len) (λ k low. omega (arith, low)) (each_from (first + 1) (first + 1) len (omega arith)), range_ascends (first + 1) len)

-- if some element passes a test
pub some_has : {A : Type 0} (P : A → Type 0) (f : A → Bool) (xs : List A) → Each P xs → list_any f xs ≡ true → (x : A) × P x × (f x ≡ true)
some_has P f [] e any = absurd (true≢false (sym any))
some_has P f (x ∷ xs) e any =
    elim (or_cases (f x) (list_any f xs) any) [
      | inl here ↦ (x, e.0, here)
      | inr later ↦ some_has P f xs e.1 later
    ]

pub any_none : {A : Type 0} (f : A → Bool) (xs : List A) → Each (λ x. f x ≡ false) xs → list_any f xs ≡ false
any_none f [] e = refl
any_none f (x ∷ xs) e = ap (λ b. b || list_any f xs) e.0 ∙ any_none f xs e.1

pub any_so : {A : Type 0} (f g : A → Bool) (xs : List A) → ((x : A) → f x ≡ true → g x ≡ true) → list_any f xs ≡ true → list_any g xs ≡ true
any_so f g [] so any = any
any_so f g (x ∷ xs) so any =
    elim (or_cases (f x) (list_any f xs) any) [
      | inl here ↦ or_left (g x) _ (so x here)
      | inr later ↦ or_right (g x) _ (any_so f g xs so later)
    ]

any_first : {A : Type 0} (f : A → Bool) (xs ys : List A) → list_any f xs ≡ true → list_any f (xs ++ ys) ≡ true
any_first f [] ys any = absurd (true≢false (sym any))
any_first f (x ∷ xs) ys any =
    elim (or_cases (f x) (list_any f xs) any) [
      | inl here ↦ or_left (f x) _ here
      | inr later ↦ or_right (f x) _ (any_first f xs ys later)
    ]

any_second : {A : Type 0} (f : A → Bool) (xs ys : List A) → list_any f ys ≡ true → list_any f (xs ++ ys) ≡ true
any_second f [] ys any = any
any_second f (x ∷ xs) ys any = or_right (f x) _ (any_second f xs ys any)

pub any_map : {A B : Type 0} (f : B → Bool) (g : A → B) (xs : List A) → list_any f (map g xs) ≡ list_any (λ x. f (g x)) xs
any_map f g [] = refl
any_map f g (x ∷ xs) = ap (λ b. f (g x) || b) (any_map f g xs)

-- if one element makes a list, or a value, that has one
pub any_flat : {A B : Type 0} (f : B → Bool) (same : A → Bool) (h : A → List B) (xs : List A)
    → ((x : A) → same x ≡ true → list_any f (h x) ≡ true) → list_any same xs ≡ true → list_any f (flat_map h xs) ≡ true
any_flat f same h [] has any = absurd (true≢false (sym any))
any_flat f same h (x ∷ xs) has any =
    elim (or_cases (same x) (list_any same xs) any) [
      | inl here ↦ any_first f (h x) (flat_map h xs) (has x here)
      | inr later ↦ any_second f (h x) (flat_map h xs) (any_flat f same h xs has later)
    ]

pub any_given : {A B : Type 0} (f : B → Bool) (same : A → Bool) (g : A → Option B) (xs : List A)
    → ((x : A) → same x ≡ true → (y : B) × (g x ≡ Some y) × (f y ≡ true)) → list_any same xs ≡ true → list_any f (filter_map g xs) ≡ true
any_given f same g [] has any = absurd (true≢false (sym any))
any_given {B = B} f same g (x ∷ xs) has any =
    elim (or_cases (same x) (list_any same xs) any) [
      | inl here ↦
          let (y, at, passes) = has x here in
          ap (λ o. list_any f (cons_option o (filter_map g xs))) at ∙ or_left (f y) _ passes
      | inr later ↦ skip (g x) (any_given f same g xs has later)
    ] where
      skip : (o : Option B) → list_any f (filter_map g xs) ≡ true → list_any f (cons_option o (filter_map g xs)) ≡ true
      skip None more = more
      skip (Some y) more = or_right (f y) _ more

pub any_filter : {A : Type 0} (f same g : A → Bool) (xs : List A) → ((x : A) → same x ≡ true → (g x ≡ true) × (f x ≡ true)) → list_any same xs ≡ true
    → list_any f (filter g xs) ≡ true
any_filter f same g [] has any = absurd (true≢false (sym any))
any_filter f same g (x ∷ xs) has any =
    cond_both (g x) (x ∷ filter g xs) (filter g xs) (λ ys. list_any f ys ≡ true)
    (λ passes. elim (or_cases (same x) (list_any same xs) any) [
      | inl here ↦ or_left (f x) _ (has x here).1
      | inr later ↦ or_right (f x) _ (any_filter f same g xs has later)
    ])
    (λ other. elim (or_cases (same x) (list_any same xs) any) [
      | inl here ↦ absurd (true≢false (sym (has x here).0 ∙ other))
      | inr later ↦ any_filter f same g xs has later
    ])
