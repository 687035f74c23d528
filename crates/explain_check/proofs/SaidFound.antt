-- What is found, on the lines of a statement.
use Rattle.std.proofs.Common.{◌≡◌, ◌≤◌, ◌<◌, ◌⊎◌, ◌+◌, ◌∙◌, ℕ, suc, Bool, true, false, if◌then◌else◌, nat_lt, List, [], ◌++◌, append-nil, ap, refl, sym, inl, inr, arith}
use Rattle.std.specs.Prelude.{◌==◌}
use Rattle.std.proofs.lemmas.Bool.Decides.{eqb_tells, leb_tells}
use Rattle.explain_check.specs.Findings.{Found, if_on, unless_before}

-- what is said on the lines before one, and on that one, is said on those before the next;
abbrev pub if_before : ℕ → ℕ → List Found → List Found
if_before line index found = if nat_lt line index then found else []

pub before_none : (line : ℕ) (found : List Found) → if_before line 0 found ≡ []
before_none line found = elim (leb_tells (suc line) 0) [
  | inl e ↦ absurd (omega (arith, e.1))
  | inr e ↦ ap (λ (b : Bool). if b then found else []) e.0
]

both_if : (a b c : Bool) (found : List Found) → (a ≡ true) × (b ≡ false) × (c ≡ true) ⊎ (a ≡ false) × (b ≡ true) × (c ≡ true) ⊎ (a ≡ false) × (b ≡ false) × (c ≡ false)
    → (if a then found else []) ++ (if b then found else []) ≡ (if c then found else [])
both_if a b c found (inl (x, y, z)) =
    (λ i. (if x i then found else []) ++ (if y i then found else [])) ∙ append-nil found ∙ sym (ap (λ (t : Bool). if t then found else []) z)
both_if a b c found (inr (inl (x, y, z))) =
    (λ i. (if x i then found else []) ++ (if y i then found else [])) ∙ sym (ap (λ (t : Bool). if t then found else []) z)
both_if a b c found (inr (inr (x, y, z))) =
    (λ i. (if x i then found else []) ++ (if y i then found else [])) ∙ sym (ap (λ (t : Bool). if t then found else []) z)

is_below : (a b : ℕ) → a < b → nat_lt a b ≡ true
is_below a b below = elim (leb_tells (suc a) b) [
  | inl e ↦ e.0
  | inr e ↦ absurd (omega (arith, below, e.1))
]

isnt_below : (a b : ℕ) → b ≤ a → nat_lt a b ≡ false
isnt_below a b above = elim (leb_tells (suc a) b) [
  | inl e ↦ absurd (omega (arith, above, e.1))
  | inr e ↦ e.0
]

isnt_same : (a b : ℕ) → (a ≡ b → ⊥) → (a == b) ≡ false
isnt_same a b other = elim (eqb_tells a b) [
  | inl e ↦ absurd (other e.1)
  | inr e ↦ e.0
]

above : (a b : ℕ) → b < suc a → (a ≡ b → ⊥) → b + 1 ≤ a
above a b most other = elim (leb_tells (b + 1) a) [
  | inl e ↦ e.1
  | inr e ↦ absurd (other (omega (arith, most, e.1)))
]

pub before_next : (line index : ℕ) (found : List Found) → if_before line index found ++ if_on line index found ≡ if_before line (index + 1) found
before_next line index found = elim (leb_tells (suc line) index) [
  | inl e ↦ both_if (nat_lt line index) (line == index) (nat_lt line (index + 1)) found
      (inl (e.0, isnt_same line index (λ same. omega (arith, e.1, same)), is_below line (index + 1) (omega (arith, e.1))))
  | inr e ↦ elim (eqb_tells line index) [
    | inl s ↦ both_if (nat_lt line index) (line == index) (nat_lt line (index + 1)) found (inr (inl (e.0, s.0, is_below line (index + 1) (omega (arith, s.1)))))
    | inr s ↦ both_if (nat_lt line index) (line == index) (nat_lt line (index + 1)) found
        (inr (inr (e.0, s.0, isnt_below line (index + 1) (above line index e.1 s.1))))
  ]
]

-- and if it's on none of them, it's said after them
rest_if : (b : Bool) (found : List Found) → (if b then found else []) ++ (if b then [] else found) ≡ found
rest_if true found = append-nil found
rest_if false found = refl

pub before_all : (line lines : ℕ) (found : List Found) → if_before line lines found ++ unless_before line lines found ≡ found
before_all line lines found = rest_if (nat_lt line lines) found
