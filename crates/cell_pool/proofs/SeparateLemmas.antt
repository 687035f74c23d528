-- Extents that lie apart: the one that begins at an address, another one, and one less.
use Rattle.std.proofs.Common.{◌≡◌, ℕ, ◌+◌, ◌*◌, ◌<◌, ◌≤◌, ◌==◌, ◌&&◌, ◌||◌, ◌⊎◌, Bool, true, false, List, [], ◌∷◌, ◌++◌, Option, Some, None, inl, inr, refl, sym, ap, ◌∙◌, subst, arith}
use Rattle.std.specs.Prelude.{if◌then◌else◌, nat_lt, nat_le}
use Rattle.std.specs.List.{list_any}
use Rattle.std.proofs.lemmas.Bool.{ltb-false, le-leb, leb-true, cond-false, cond-true}
use Rattle.std.proofs.Math.Nat.{mul-le-mul_right}
use Rattle.vsm_elements.proofs.ChainLemmas.{not_both}
use Rattle.row_table.proofs.RowLemmas.{either, none_some}
use Rattle.cell_pool.specs.declared.settings.Extent.{Extent}
use Rattle.cell_pool.specs.Pool.{overlaps, rounded}
use Rattle.cell_pool.specs.Places.{beginning_at, lie_apart, LiesBeside, AreSeparate}
use Rattle.cell_pool.proofs.CellLemmas.{or_left, or_right}
use Rattle.cell_pool.proofs.EntryLemmas.{eqb_same, eqb_refl}

-- some cells have some bytes
pub some_bytes : (count size : ℕ) → 0 < count → 0 < size → 0 < count * size
some_bytes count size h k = let l : 1 * size ≤ count * size = mul-le-mul_right size h in omega (arith, k, l)

pub one_not : (c d : Bool) → (c && d) ≡ false → (c ≡ false) ⊎ (d ≡ false)
one_not true d g = inr g
one_not false d g = inl refl

pub some_is : {A : Type 0} → (x y : A) → Some x ≡ Some y → x ≡ y
some_is x y e = cc

-- the cells of one of the two end before those of the other begin
abbrev pub LieApart : ℕ → Extent → Extent → Type 0
LieApart size x y = (x.start + x.count * size ≤ y.start) ⊎ (y.start + y.count * size ≤ x.start)

says_apart : (size : ℕ) (x y : Extent) → LieApart size x y → lie_apart size x y ≡ true
says_apart size x y (inl h) = or_left (nat_le (x.start + x.count * size) y.start) (nat_le (y.start + y.count * size) x.start) (le-leb (x.start + x.count * size) y.start h)
says_apart size x y (inr h) = or_right (nat_le (x.start + x.count * size) y.start) (nat_le (y.start + y.count * size) x.start) (le-leb (y.start + y.count * size) x.start h)

apart_says : (size : ℕ) (x y : Extent) → lie_apart size x y ≡ true → LieApart size x y
apart_says size x y e = elim (one_or (nat_le (x.start + x.count * size) y.start) (nat_le (y.start + y.count * size) x.start) e) [
  | inl p ↦ inl (leb-true (x.start + x.count * size) y.start p)
  | inr p ↦ inr (leb-true (y.start + y.count * size) x.start p)
] where
  one_or : (a b : Bool) → (a || b) ≡ true → (a ≡ true) ⊎ (b ≡ true)
  one_or true b e = inl refl
  one_or false b e = inr e

-- the extent that begins at an address begins there
pub begins : (a : ℕ) (xs : List Extent) (x : Extent) → beginning_at a xs ≡ Some x → x.start ≡ a
begins a [] x e = absurd (none_some None x refl e)
begins a (y ∷ ys) x e = elim (either (a == y.start)) [
  | inl p ↦ ap (λ (z : Extent). z.start) (some_is x y (sym e ∙ cond-true (a == y.start) (Some y) (beginning_at a ys) p)) ∙ sym (eqb_same a y.start p)
  | inr p ↦ begins a ys x (sym (cond-false (a == y.start) (Some y) (beginning_at a ys) p) ∙ e)
]

module _ (size : ℕ) where
  pub beside_one : (x : Extent) (ys : List Extent) → LiesBeside size x ys → (b : ℕ) (y : Extent) → beginning_at b ys ≡ Some y → LieApart size x y
  beside_one x [] h b y e = absurd (none_some None y refl e)
  beside_one x (z ∷ ys) h b y e = elim (either (b == z.start)) [
    | inl p ↦ (let P : Extent → Type 0 = λ w. LieApart size x w in subst P (some_is z y (sym (cond-true (b == z.start) (Some z) (beginning_at b ys) p) ∙ e)) (apart_says size x z h.0))
    | inr p ↦ beside_one x ys h.1 b y (sym (cond-false (b == z.start) (Some z) (beginning_at b ys) p) ∙ e)
  ]

  -- each has a cell
  pub has_cells : (xs : List Extent) → AreSeparate size xs → (a : ℕ) (x : Extent) → beginning_at a xs ≡ Some x → 0 < x.count
  has_cells [] h a x e = absurd (none_some None x refl e)
  has_cells (y ∷ ys) h a x e = elim (either (a == y.start)) [
    | inl p ↦ (let P : Extent → Type 0 = λ w. 0 < w.count in subst P (some_is y x (sym (cond-true (a == y.start) (Some y) (beginning_at a ys) p) ∙ e)) h.0)
    | inr p ↦ has_cells ys h.2 a x (sym (cond-false (a == y.start) (Some y) (beginning_at a ys) p) ∙ e)
  ]

  pub last_has : (xs : List Extent) (x : Extent) → AreSeparate size (xs ++ x ∷ []) → 0 < x.count
  last_has [] x h = h.0
  last_has (y ∷ ys) x h = last_has ys x h.2

  later : (x y : Extent) → x.start < y.start → LieApart size x y → x.start + x.count * size ≤ y.start
  later x y l (inl h) = h
  later x y l (inr h) = absurd (omega (arith, l, h))

  earlier : (x y : Extent) → x.start < y.start → LieApart size y x → x.start + x.count * size ≤ y.start
  earlier x y l (inl h) = absurd (omega (arith, l, h))
  earlier x y l (inr h) = h

  -- of two the cells of the one that begins first end before the other begins
  pub separate_pair : 0 < size → (xs : List Extent) → AreSeparate size xs → (a b : ℕ) (x y : Extent) → beginning_at a xs ≡ Some x → beginning_at b xs ≡ Some y → a < b
      → x.start + x.count * size ≤ y.start
  separate_pair s [] h a b x y e f l = absurd (none_some None x refl e)
  separate_pair s (z ∷ zs) h a b x y e f l =
      let u : x.start ≡ a = begins a (z ∷ zs) x e in
      let v : y.start ≡ b = begins b (z ∷ zs) y f in
      let less : x.start < y.start = omega (arith, u, v, l) in
      elim (either (a == z.start)) [
        | inl p ↦ elim (either (b == z.start)) [
          | inl q ↦ absurd (omega (arith, l, eqb_same a z.start p, eqb_same b z.start q))
          | inr q ↦ (let P : Extent → Type 0 = λ w. LieApart size w y in
              later x y less (subst P (some_is z x (sym (cond-true (a == z.start) (Some z) (beginning_at a zs) p) ∙ e)) (beside_one z zs h.1 b y (sym (cond-false (b == z.start) (Some z) (beginning_at b zs) q) ∙ f))))
        ]
        | inr p ↦ elim (either (b == z.start)) [
          | inl q ↦ (let P : Extent → Type 0 = λ w. LieApart size w x in
              earlier x y less (subst P (some_is z y (sym (cond-true (b == z.start) (Some z) (beginning_at b zs) q) ∙ f)) (beside_one z zs h.1 a x (sym (cond-false (a == z.start) (Some z) (beginning_at a zs) p) ∙ e))))
          | inr q ↦ separate_pair s zs h.2 a b x y (sym (cond-false (a == z.start) (Some z) (beginning_at a zs) p) ∙ e) (sym (cond-false (b == z.start) (Some z) (beginning_at b zs) q) ∙ f) l
        ]
      ]

  -- an extent that begins elsewhere than all others, after them
  pub beginning_more : (xs : List Extent) (x : Extent) → beginning_at x.start xs ≡ None → (a : ℕ) → beginning_at a (xs ++ x ∷ []) ≡ (if a == x.start then Some x else beginning_at a xs)
  beginning_more [] x none a = refl
  beginning_more (y ∷ ys) x none a = elim (either (a == y.start)) [
    | inl p ↦ cond-true (a == y.start) (Some y) (beginning_at a (ys ++ x ∷ [])) p
        ∙ sym (cond-false (a == x.start) (Some x) (beginning_at a (y ∷ ys)) (not_this p) ∙ cond-true (a == y.start) (Some y) (beginning_at a ys) p)
    | inr p ↦ cond-false (a == y.start) (Some y) (beginning_at a (ys ++ x ∷ [])) p ∙ beginning_more ys x rest a
        ∙ ap (λ (o : Option Extent). if a == x.start then Some x else o) (sym (cond-false (a == y.start) (Some y) (beginning_at a ys) p))
  ] where
    own : (x.start == y.start) ≡ false
    own = elim (either (x.start == y.start)) [
      | inl p ↦ absurd (none_some (beginning_at x.start (y ∷ ys)) y none (cond-true (x.start == y.start) (Some y) (beginning_at x.start ys) p))
      | inr p ↦ p
    ]

    rest : beginning_at x.start ys ≡ None
    rest = sym (cond-false (x.start == y.start) (Some y) (beginning_at x.start ys) own) ∙ none

    not_this : (a == y.start) ≡ true → (a == x.start) ≡ false
    not_this p = elim (either (a == x.start)) [
      | inl q ↦ absurd (not_both (x.start == y.start) (ap (λ (z : ℕ). z == y.start) (sym (eqb_same a x.start q)) ∙ p) own)
      | inr q ↦ q
    ]

  -- an area that overlaps none of them
  module _ (s : 0 < size) (start count : ℕ) (some : 0 < count) where
    abbrev x : Extent
    x = record { start = start; count = count }

    up : (n : ℕ) → n ≤ rounded n
    up n = omega arith

    neither : (c d : Bool) → (c || d) ≡ false → (c ≡ false) × (d ≡ false)
    neither true d g = absurd (not_both true refl g)
    neither false d g = (refl, g)

    -- it lies apart from an extent that it doesn't overlap
    apart : (y : Extent) → overlaps size start (count * size) y ≡ false → LieApart size y x
    apart y e = elim (one_not (nat_lt start (y.start + rounded (y.count * size))) (nat_lt y.start (start + count * size)) e) [
      | inl p ↦ inl (let k : y.start + rounded (y.count * size) ≤ start = ltb-false start (y.start + rounded (y.count * size)) p in omega (arith, k, up (y.count * size)))
      | inr p ↦ inr (ltb-false y.start (start + count * size) p)
    ]

    beside_more : (y : Extent) (ys : List Extent) → LiesBeside size y ys → LieApart size y x → LiesBeside size y (ys ++ x ∷ [])
    beside_more y [] h a = (says_apart size y x a, tt)
    beside_more y (z ∷ ys) h a = (h.0, beside_more y ys h.1 a)

    pub separate_more : (xs : List Extent) → AreSeparate size xs → list_any (overlaps size start (count * size)) xs ≡ false → AreSeparate size (xs ++ x ∷ [])
    separate_more [] h e = (some, tt, tt)
    separate_more (y ∷ ys) h e =
        let k = neither (overlaps size start (count * size) y) (list_any (overlaps size start (count * size)) ys) e in
        (h.0, beside_more y ys h.1 (apart y k.0), separate_more ys h.2 k.1)

    -- and begins elsewhere
    pub begins_elsewhere_than : (y : Extent) → 0 < y.count → LieApart size y x → (start == y.start) ≡ false
    begins_elsewhere_than y c a = elim (either (start == y.start)) [
      | inl p ↦ absurd (differ (eqb_same start y.start p) a)
      | inr p ↦ p
    ] where
      differ : start ≡ y.start → LieApart size y x → ⊥
      differ e (inl h) = omega (arith, e, h, some_bytes y.count size c s)
      differ e (inr h) = omega (arith, e, h, some_bytes count size some s)

    pub begins_elsewhere : (xs : List Extent) → AreSeparate size xs → list_any (overlaps size start (count * size)) xs ≡ false → beginning_at start xs ≡ None
    begins_elsewhere [] h e = refl
    begins_elsewhere (y ∷ ys) h e =
        let k = neither (overlaps size start (count * size) y) (list_any (overlaps size start (count * size)) ys) e in
        cond-false (start == y.start) (Some y) (beginning_at start ys) (begins_elsewhere_than y h.0 (apart y k.0)) ∙ begins_elsewhere ys h.2 k.1

    -- what the last one, as it goes, leaves
    beside_front : (y : Extent) (ys : List Extent) → LiesBeside size y (ys ++ x ∷ []) → LiesBeside size y ys × LieApart size y x
    beside_front y [] h = (tt, apart_says size y x h.0)
    beside_front y (z ∷ ys) h = let k = beside_front y ys h.1 in ((h.0, k.0), k.1)

    pub separate_less : (xs : List Extent) → AreSeparate size (xs ++ x ∷ []) → AreSeparate size xs × (beginning_at start xs ≡ None)
    separate_less [] h = (tt, refl)
    separate_less (y ∷ ys) h =
        let b = beside_front y ys h.1 in
        let r = separate_less ys h.2 in
        ((h.0, b.0, r.0), cond-false (start == y.start) (Some y) (beginning_at start ys) (begins_elsewhere_than y h.0 b.1) ∙ r.1)

-- the last one begins at its address
pub begins_last : (size : ℕ) → 0 < size → (xs : List Extent) (x : Extent) → AreSeparate size (xs ++ x ∷ []) → beginning_at x.start (xs ++ x ∷ []) ≡ Some x
begins_last size s xs x h =
    beginning_more size xs x (separate_less size s x.start x.count (last_has size xs x h) xs h).1 x.start
    ∙ cond-true (x.start == x.start) (Some x) (beginning_at x.start xs) (eqb_refl x.start)
