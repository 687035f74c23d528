-- How keys follow one another.
use Rattle.std.proofs.Common.{◌≡◌, ℕ, ◌<◌, Bool, true, false, ◌&&◌, ◌||◌, ◌==◌, nat_lt, ◌⊎◌, inl, inr, refl, sym, ap, ◌∙◌, arith}
use Rattle.std.proofs.lemmas.Bool.{ltb-true, lt-ltb}
use Rattle.row_table.specs.Rows.{comes_before}
use Rattle.row_table.proofs.RowLemmas.{either, not_both, and_parts, eqb_same, eqb_refl}

or_parts : (a b : Bool) → (a || b) ≡ true → (a ≡ true) ⊎ (b ≡ true)
or_parts true b h = inl refl
or_parts false b h = inr h

or_first : (a b : Bool) → a ≡ true → (a || b) ≡ true
or_first true b h = refl
or_first false b h = absurd (not_both false h refl)

or_second : (a b : Bool) → b ≡ true → (a || b) ≡ true
or_second true b h = refl
or_second false b h = h

pub and_join : (a b : Bool) → a ≡ true → b ≡ true → (a && b) ≡ true
and_join a b h k = ap (λ (z : Bool). z && b) h ∙ k

pub before_says : (a b x y : ℕ) → comes_before a b x y ≡ true → (b < y) ⊎ ((b ≡ y) × (a < x))
before_says a b x y h = elim (or_parts (nat_lt b y) ((b == y) && nat_lt a x) h) [
  | inl p ↦ inl (ltb-true b y p)
  | inr p ↦ (let q : ((b == y) ≡ true) × (nat_lt a x ≡ true) = and_parts (b == y) (nat_lt a x) p in inr (eqb_same b y q.0, ltb-true a x q.1))
]

pub says_before : (a b x y : ℕ) → (b < y) ⊎ ((b ≡ y) × (a < x)) → comes_before a b x y ≡ true
says_before a b x y (inl h) = or_first (nat_lt b y) ((b == y) && nat_lt a x) (lt-ltb b y h)
says_before a b x y (inr h) = or_second (nat_lt b y) ((b == y) && nat_lt a x) (and_join (b == y) (nat_lt a x) (ap (λ (z : ℕ). z == y) h.0 ∙ eqb_refl y) (lt-ltb a x h.1))

pub before_more : (a b x y v w : ℕ) → comes_before a b x y ≡ true → comes_before x y v w ≡ true → comes_before a b v w ≡ true
before_more a b x y v w h k = says_before a b v w (go (before_says a b x y h) (before_says x y v w k)) where
  go : (b < y) ⊎ ((b ≡ y) × (a < x)) → (y < w) ⊎ ((y ≡ w) × (x < v)) → (b < w) ⊎ ((b ≡ w) × (a < v))
  go (inl p) (inl q) = inl (omega (arith, p, q))
  go (inl p) (inr q) = inl (omega (arith, p, q.0))
  go (inr p) (inl q) = inl (omega (arith, p.0, q))
  go (inr p) (inr q) = inr (omega (arith, p.0, q.0), omega (arith, p.1, q.1))

pub not_before : (a b : ℕ) → comes_before a b a b ≡ true → ⊥
not_before a b h = go (before_says a b a b h) where
  go : (b < b) ⊎ ((b ≡ b) × (a < a)) → ⊥
  go (inl p) = omega (arith, p)
  go (inr p) = omega (arith, p.1)

-- a key is after another, or it is that one, or it is before it
pub before_or : (a b x y : ℕ) → comes_before a b x y ≡ false → (comes_before x y a b ≡ true) ⊎ ((x ≡ a) × (y ≡ b))
before_or a b x y h = go (either (comes_before x y a b)) where
  same : comes_before x y a b ≡ false → (x ≡ a) × (y ≡ b)
  same k = (omega (arith, low, high), level) where
    below : b < y → ⊥
    below l = not_both (comes_before a b x y) (says_before a b x y (inl l)) h

    above : y < b → ⊥
    above l = not_both (comes_before x y a b) (says_before x y a b (inl l)) k

    level : y ≡ b
    level = omega (arith, below, above)

    low : a < x → ⊥
    low l = not_both (comes_before a b x y) (says_before a b x y (inr (sym level, l))) h

    high : x < a → ⊥
    high l = not_both (comes_before x y a b) (says_before x y a b (inr (level, l))) k

  go : (comes_before x y a b ≡ true) ⊎ (comes_before x y a b ≡ false) → (comes_before x y a b ≡ true) ⊎ ((x ≡ a) × (y ≡ b))
  go (inl k) = inl k
  go (inr k) = inr (same k)
