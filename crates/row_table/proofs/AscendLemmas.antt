-- Rows that ascend: what is under a key, by where it is.
use Rattle.std.proofs.Common.{◌≡◌, ℕ, true, false, ◌⊎◌, inl, inr, List, [], ◌∷◌, ◌++◌, Option, Some, None, refl, sym, ap, ◌∙◌}
use Rattle.std.specs.Prelude.{map, if◌then◌else◌}
use Rattle.vsm_elements.specs.Chain.{Link}
use Rattle.row_table.specs.declared.row.Row.{Row}
use Rattle.row_table.specs.Rows.{comes_before, is_under, row_in, Single, AllBehind, AllBefore, NoneBehind, Ascends, RowsBehind, AreInOrder, row_among}
use Rattle.row_table.specs.RowTable.{row_of}
use Rattle.row_table.proofs.RowLemmas.{either, not_both, same_parts, same_by, first, second, none_by}
use Rattle.row_table.proofs.NextLemmas.{before_more, not_before, before_or}

-- a link after a key, or before it, is under another
pub other_behind : (a b : ℕ) (n : Link) → comes_before a b (first n) (second n) ≡ true → is_under a b n.words ≡ false
other_behind a b n h = elim (either (is_under a b n.words)) [
  | inl p ↦ (let q : (first n ≡ a) × (second n ≡ b) = same_parts (first n) (second n) a b p in
      absurd (not_before a b (ap (λ (z : ℕ). comes_before a b z b) (sym q.0) ∙ ap (λ (z : ℕ). comes_before a b (first n) z) (sym q.1) ∙ h)))
  | inr p ↦ p
]

pub other_before : (a b : ℕ) (n : Link) → comes_before (first n) (second n) a b ≡ true → is_under a b n.words ≡ false
other_before a b n h = elim (either (is_under a b n.words)) [
  | inl p ↦ (let q : (first n ≡ a) × (second n ≡ b) = same_parts (first n) (second n) a b p in
      absurd (not_before a b (ap (λ (z : ℕ). comes_before z b a b) (sym q.0) ∙ ap (λ (z : ℕ). comes_before (first n) z a b) (sym q.1) ∙ h)))
  | inr p ↦ p
]

pub none_behind : (a b : ℕ) (ns : List Link) → AllBehind a b ns → row_in a b ns ≡ None
none_behind a b [] h = refl
none_behind a b (n ∷ ns) h = none_by a b n ns (other_behind a b n h.0) (none_behind a b ns h.1)

pub none_before : (a b : ℕ) (ns : List Link) → AllBefore a b ns → row_in a b ns ≡ None
none_before a b [] h = refl
none_before a b (n ∷ ns) h = none_by a b n ns (other_before a b n h.0) (none_before a b ns h.1)

-- no link that isn't after a key is under one that is
pub none_passed : (a b x y : ℕ) (ns : List Link) → comes_before a b x y ≡ true → NoneBehind a b ns → row_in x y ns ≡ None
none_passed a b x y [] e h = refl
none_passed a b x y (n ∷ ns) e h = none_by x y n ns (go (either (is_under x y n.words))) (none_passed a b x y ns e h.1) where
  go : (is_under x y n.words ≡ true) ⊎ (is_under x y n.words ≡ false) → is_under x y n.words ≡ false
  go (inl p) = (let q : (first n ≡ x) × (second n ≡ y) = same_parts (first n) (second n) x y p in
      absurd (not_both (comes_before a b x y) e (ap (λ (z : ℕ). comes_before a b z y) (sym q.0) ∙ ap (λ (z : ℕ). comes_before a b (first n) z) (sym q.1) ∙ h.0)))
  go (inr p) = p

pub behind_more : (x y a b : ℕ) (ns : List Link) → comes_before x y a b ≡ true → AllBehind a b ns → AllBehind x y ns
behind_more x y a b [] e h = tt
behind_more x y a b (n ∷ ns) e h = (before_more x y a b (first n) (second n) e h.0, behind_more x y a b ns e h.1)

pub single : (ns : List Link) → Ascends ns → Single ns
single [] h = tt
single (n ∷ ns) h = (none_behind (first n) (second n) ns h.0, single ns h.1)

-- links in parts

pub all_before_push : (a b : ℕ) (xs : List Link) (n : Link) → AllBefore a b xs → comes_before (first n) (second n) a b ≡ true → AllBefore a b (xs ++ n ∷ [])
all_before_push a b [] n h e = (e, tt)
all_before_push a b (x ∷ xs) n h e = (h.0, all_before_push a b xs n h.1 e)

pub none_behind_push : (a b : ℕ) (xs : List Link) (n : Link) → NoneBehind a b xs → comes_before a b (first n) (second n) ≡ false → NoneBehind a b (xs ++ n ∷ [])
none_behind_push a b [] n h e = (e, tt)
none_behind_push a b (x ∷ xs) n h e = (h.0, none_behind_push a b xs n h.1 e)

behind_less : (a b : ℕ) (n : Link) (xs ys : List Link) → AllBehind a b (xs ++ n ∷ ys) → AllBehind a b (xs ++ ys)
behind_less a b n [] ys h = h.1
behind_less a b n (x ∷ xs) ys h = (h.0, behind_less a b n xs ys h.1)

behind_join : (a b : ℕ) (n : Link) (xs ys : List Link) → AllBehind a b (xs ++ ys) → comes_before a b (first n) (second n) ≡ true → AllBehind a b (xs ++ n ∷ ys)
behind_join a b n [] ys h e = (e, h)
behind_join a b n (x ∷ xs) ys h e = (h.0, behind_join a b n xs ys h.1 e)

pub ascends_left : (n : Link) (xs ys : List Link) → Ascends (xs ++ n ∷ ys) → Ascends (xs ++ ys)
ascends_left n [] ys h = h.1
ascends_left n (x ∷ xs) ys h = (behind_less (first x) (second x) n xs ys h.0, ascends_left n xs ys h.1)

pub ascends_put : (n : Link) (xs ys : List Link) → Ascends (xs ++ ys) → AllBefore (first n) (second n) xs → AllBehind (first n) (second n) ys → Ascends (xs ++ n ∷ ys)
ascends_put n [] ys h low high = (high, h)
ascends_put n (x ∷ xs) ys h low high = (behind_join (first x) (second x) n xs ys h.0 low.0, ascends_put n xs ys h.1 low.1 high)

pub ascends_right : (xs ys : List Link) → Ascends (xs ++ ys) → Ascends ys
ascends_right [] ys h = h
ascends_right (x ∷ xs) ys h = ascends_right xs ys h.1

-- a link in the middle: those before it have lower keys, and those after it higher ones
pub before_middle : (n : Link) (xs ys : List Link) → Ascends (xs ++ n ∷ ys) → AllBefore (first n) (second n) xs
before_middle n [] ys h = tt
before_middle n (x ∷ xs) ys h = (at xs h.0, before_middle n xs ys h.1) where
  at : (zs : List Link) → AllBehind (first x) (second x) (zs ++ n ∷ ys) → comes_before (first x) (second x) (first n) (second n) ≡ true
  at [] k = k.0
  at (z ∷ zs) k = at zs k.1

-- a list from a place on, whose first link isn't before the key: it has the key, or all are after it
pub at_or_behind : (a b : ℕ) (n : Link) (ns : List Link) → Ascends (n ∷ ns) → comes_before (first n) (second n) a b ≡ false → AllBehind a b (n ∷ ns) ⊎ (is_under a b n.words ≡ true)
at_or_behind a b n ns h e = go (before_or (first n) (second n) a b e) where
  go : (comes_before a b (first n) (second n) ≡ true) ⊎ ((a ≡ first n) × (b ≡ second n)) → AllBehind a b (n ∷ ns) ⊎ (is_under a b n.words ≡ true)
  go (inl p) = inl (p, behind_more a b (first n) (second n) ns p h.0)
  go (inr p) = inr (same_by (first n) (second n) a b (sym p.0) (sym p.1))

-- the list of rows

rows_behind : (a b : ℕ) (ns : List Link) → AllBehind a b ns → RowsBehind a b (map row_of ns)
rows_behind a b [] h = tt
rows_behind a b (n ∷ ns) h = (h.0, rows_behind a b ns h.1)

pub rows_in_order : (ns : List Link) → Ascends ns → AreInOrder (map row_of ns)
rows_in_order [] h = tt
rows_in_order (n ∷ ns) h = (rows_behind (first n) (second n) ns h.0, rows_in_order ns h.1)

pub row_is_among : (a b : ℕ) (ns : List Link) → row_in a b ns ≡ row_among a b (map row_of ns)
row_is_among a b [] = refl
row_is_among a b (n ∷ ns) = ap (λ (z : Option Row). if is_under a b n.words then Some (row_of n) else z) (row_is_among a b ns)
