-- Items whose keys ascend, in parts.
use Rattle.std.proofs.Common.{◌≡◌, ℕ, Bool, ◌+◌, ◌<◌, ◌≤◌, ◌==◌, inl, inr, List, [], ◌∷◌, ◌++◌, Option, Some, None, refl, sym, ap, ◌∙◌, arith}
use Rattle.std.specs.Prelude.{if◌then◌else◌}
use Rattle.std.proofs.lemmas.Bool.Decides.{eqb_tells, leb_tells}
use Rattle.row_table.specs.declared.item.Item.{Item}
use Rattle.row_table.specs.Items.{key, AllBelow, AllFrom, Ascends, item_in, item_from}

pub below_more : (k m : ℕ) (ns : List Item) → k ≤ m → AllBelow k ns → AllBelow m ns
below_more k m [] le h = tt
below_more k m (n ∷ ns) le h = (omega (arith, le, h.0), below_more k m ns le h.1)

pub from_less : (k m : ℕ) (ns : List Item) → m ≤ k → AllFrom k ns → AllFrom m ns
from_less k m [] le h = tt
from_less k m (n ∷ ns) le h = (omega (arith, le, h.0), from_less k m ns le h.1)

pub below_join : (k : ℕ) (xs ys : List Item) → AllBelow k xs → AllBelow k ys → AllBelow k (xs ++ ys)
below_join k [] ys h g = g
below_join k (x ∷ xs) ys h g = (h.0, below_join k xs ys h.1 g)

pub from_join : (k : ℕ) (xs ys : List Item) → AllFrom k xs → AllFrom k ys → AllFrom k (xs ++ ys)
from_join k [] ys h g = g
from_join k (x ∷ xs) ys h g = (h.0, from_join k xs ys h.1 g)

pub from_left : (k : ℕ) (xs ys : List Item) → AllFrom k (xs ++ ys) → AllFrom k xs
from_left k [] ys h = tt
from_left k (x ∷ xs) ys h = (h.0, from_left k xs ys h.1)

pub from_right : (k : ℕ) (xs ys : List Item) → AllFrom k (xs ++ ys) → AllFrom k ys
from_right k [] ys h = h
from_right k (x ∷ xs) ys h = from_right k xs ys h.1

pub ascends_left : (xs ys : List Item) → Ascends (xs ++ ys) → Ascends xs
ascends_left [] ys h = tt
ascends_left (x ∷ xs) ys h = (from_left (key x + 1) xs ys h.0, ascends_left xs ys h.1)

pub ascends_right : (xs ys : List Item) → Ascends (xs ++ ys) → Ascends ys
ascends_right [] ys h = h
ascends_right (x ∷ xs) ys h = ascends_right xs ys h.1

-- what is before an item has lower keys
pub below_middle : (xs : List Item) (n : Item) (ys : List Item) → Ascends (xs ++ n ∷ ys) → AllBelow (key n) xs
below_middle [] n ys h = tt
below_middle (x ∷ xs) n ys h = (omega (arith, (from_right (key x + 1) xs (n ∷ ys) h.0).0), below_middle xs n ys h.1)

-- two parts, one below a key and one from it on
pub ascends_join : (k : ℕ) (xs ys : List Item) → Ascends xs → AllBelow k xs → AllFrom k ys → Ascends ys → Ascends (xs ++ ys)
ascends_join k [] ys h b f g = g
ascends_join k (x ∷ xs) ys h b f g = (from_join (key x + 1) xs ys h.0 (from_less k (key x + 1) ys (omega (arith, b.0)) f), ascends_join k xs ys h.1 b.1 f g)

-- look-ups

pub in_none_below : (k : ℕ) (xs : List Item) → AllBelow k xs → item_in k xs ≡ None
in_none_below k [] h = refl
in_none_below k (x ∷ xs) h = elim (eqb_tells (key x) k) [
  | inl p ↦ absurd (omega (arith, p.1, h.0))
  | inr p ↦ ap (λ (b : Bool). if b then Some x else item_in k xs) p.0 ∙ in_none_below k xs h.1
]

pub in_none_above : (k m : ℕ) (xs : List Item) → k < m → AllFrom m xs → item_in k xs ≡ None
in_none_above k m [] low h = refl
in_none_above k m (x ∷ xs) low h = elim (eqb_tells (key x) k) [
  | inl p ↦ absurd (omega (arith, p.1, h.0, low))
  | inr p ↦ ap (λ (b : Bool). if b then Some x else item_in k xs) p.0 ∙ in_none_above k m xs low h.1
]

pub in_behind : (k : ℕ) (xs ys : List Item) → item_in k xs ≡ None → item_in k (xs ++ ys) ≡ item_in k ys
in_behind k [] ys h = refl
in_behind k (x ∷ xs) ys h = elim (eqb_tells (key x) k) [
  | inl p ↦ absurd (no (sym (ap (λ (b : Bool). if b then Some x else item_in k xs) p.0) ∙ h))
  | inr p ↦ ap (λ (b : Bool). if b then Some x else item_in k (xs ++ ys)) p.0 ∙ in_behind k xs ys (sym (ap (λ (b : Bool). if b then Some x else item_in k xs) p.0) ∙ h)
] where
  no : Some x ≡ None → ⊥
  no e = cc

pub in_here : (k : ℕ) (x : Item) (xs : List Item) → key x ≡ k → item_in k (x ∷ xs) ≡ Some x
in_here k x xs e = elim (eqb_tells (key x) k) [
  | inl p ↦ ap (λ (b : Bool). if b then Some x else item_in k xs) p.0
  | inr p ↦ absurd (p.1 e)
]

pub in_later : (k : ℕ) (x : Item) (xs : List Item) → key x < k → item_in k (x ∷ xs) ≡ item_in k xs
in_later k x xs e = elim (eqb_tells (key x) k) [
  | inl p ↦ absurd (omega (arith, p.1, e))
  | inr p ↦ ap (λ (b : Bool). if b then Some x else item_in k xs) p.0
]

-- what is only in the first part
pub in_front : (k m : ℕ) (xs ys : List Item) → k < m → AllFrom m ys → item_in k (xs ++ ys) ≡ item_in k xs
in_front k m [] ys low h = in_none_above k m ys low h
in_front k m (x ∷ xs) ys low h = ap (λ (o : Option Item). if key x == k then Some x else o) (in_front k m xs ys low h)

pub from_behind : (k : ℕ) (xs ys : List Item) → AllBelow k xs → item_from k (xs ++ ys) ≡ item_from k ys
from_behind k [] ys h = refl
from_behind k (x ∷ xs) ys h = elim (leb_tells k (key x)) [
  | inl p ↦ absurd (omega (arith, p.1, h.0))
  | inr p ↦ ap (λ (b : Bool). if b then Some x else item_from k (xs ++ ys)) p.0 ∙ from_behind k xs ys h.1
]

pub from_here : (k : ℕ) (x : Item) (xs : List Item) → k ≤ key x → item_from k (x ∷ xs) ≡ Some x
from_here k x xs le = elim (leb_tells k (key x)) [
  | inl p ↦ ap (λ (b : Bool). if b then Some x else item_from k xs) p.0
  | inr p ↦ absurd (omega (arith, p.1, le))
]

pub from_some : (k : ℕ) (xs ys : List Item) (x : Item) → item_from k xs ≡ Some x → item_from k (xs ++ ys) ≡ Some x
from_some k [] ys x e = absurd (no e) where
  no : None ≡ Some x → ⊥
  no e = cc
from_some k (n ∷ ns) ys x e = elim (leb_tells k (key n)) [
  | inl p ↦ ap (λ (b : Bool). if b then Some n else item_from k (ns ++ ys)) p.0 ∙ sym (ap (λ (b : Bool). if b then Some n else item_from k ns) p.0) ∙ e
  | inr p ↦ ap (λ (b : Bool). if b then Some n else item_from k (ns ++ ys)) p.0 ∙ from_some k ns ys x (sym (ap (λ (b : Bool). if b then Some n else item_from k ns) p.0) ∙ e)
]

pub from_none : (k : ℕ) (xs ys : List Item) → item_from k xs ≡ None → item_from k (xs ++ ys) ≡ item_from k ys
from_none k [] ys e = refl
from_none k (n ∷ ns) ys e = elim (leb_tells k (key n)) [
  | inl p ↦ absurd (no (sym (ap (λ (b : Bool). if b then Some n else item_from k ns) p.0) ∙ e))
  | inr p ↦ ap (λ (b : Bool). if b then Some n else item_from k (ns ++ ys)) p.0 ∙ from_none k ns ys (sym (ap (λ (b : Bool). if b then Some n else item_from k ns) p.0) ∙ e)
] where
  no : Some n ≡ None → ⊥
  no e = cc
