-- Rows that are numbered: another after the last, and the last one gone.
use Rattle.std.proofs.Common.{◌≡◌, ℕ, zero, suc, ◌+◌, ◌-◌, ◌*◌, ◌/◌, ◌%◌, ◌<◌, ◌≤◌, Bool, true, false, ◌⊎◌, inl, inr, List, [], ◌∷◌, ◌++◌, length, Option, Some, None, refl, sym, ap, ◌∙◌, subst, arith, length-append}
use Rattle.std.specs.Prelude.{if◌then◌else◌, map, option_map, slice_get}
use Rattle.std.proofs.lemmas.Bool.Decides.{eqb_tells}
use Rattle.vsm_elements.specs.Store.{Store}
use Rattle.row_table.specs.declared.row.Row.{Row}
use Rattle.row_table.specs.declared.table.RowTable.{RowTable}
use Rattle.row_table.specs.Rows.{word, same_key, is_under, RowsBehind, AreInOrder, row_among, row_or, last_row}
use Rattle.row_table.specs.RowTable.{row, rows, IsTable}
use Rattle.row_table.proofs.RowLemmas.{either, not_both, none_some, same_parts, same_self}
use Rattle.row_table.proofs.NextLemmas.{says_before}
use Rattle.row_table.proofs.TableLemmas.{rows_ascend}
use Rattle.row_table.proofs.HalfLemmas.{rows_are_one}
use Rattle.list_table.specs.Stocks.{rows_of}
use Rattle.cell_pool.specs.declared.settings.Extent.{Extent}
use Rattle.cell_pool.specs.Items.{extent_of}
use Rattle.cell_pool.specs.Notes.{is_at, AreNumbered}

abbrev low : Row → ℕ
low r = word r.words 0

abbrev high : Row → ℕ
high r = word r.words 1

-- the number of a row
number_is : (k : ℕ) (ws : List ℕ) → is_at k ws ≡ true → (word ws 0 ≡ k % 256) × (word ws 1 ≡ k / 256)
number_is k ws h = same_parts (word ws 0) (word ws 1) (k % 256) (k / 256) h

numbers_less : (k j a b x y : ℕ) → k < j → a ≡ k % 256 → b ≡ k / 256 → x ≡ j % 256 → y ≡ j / 256 → (b < y) ⊎ ((b ≡ y) × (a < x))
numbers_less k j a b x y l e f g h = go (under b y) where
  under : (m n : ℕ) → (m < n) ⊎ (n ≤ m)
  under m n = elim (eqb_tells (n - m) 0) [ inl p ↦ inr (omega (arith, p.1)) | inr p ↦ inl (omega (arith, p.1)) ]

  go : (b < y) ⊎ (y ≤ b) → (b < y) ⊎ ((b ≡ y) × (a < x))
  go (inl p) = inl p
  go (inr p) = inr (omega (arith, p, l, f, h), omega (arith, p, l, e, f, g, h))

-- numbered rows ascend
behind : (k m : ℕ) (r : Row) (rs : List Row) → is_at k r.words ≡ true → k < m → AreNumbered m (rows_of rs) → RowsBehind (low r) (high r) rs
behind k m r [] h l n = tt
behind k m r (q ∷ rs) h l n =
    let a = number_is k r.words h in
    let b = number_is m q.words n.0 in (
      says_before (low r) (high r) (low q) (high q) (numbers_less k m (low r) (high r) (low q) (high q) l a.0 a.1 b.0 b.1),
      behind k (m + 1) r rs h (omega (arith, l)) n.1,
    )

pub numbered_order : (k : ℕ) (rs : List Row) → AreNumbered k (rows_of rs) → AreInOrder rs
numbered_order k [] n = tt
numbered_order k (r ∷ rs) n = (behind k (k + 1) r rs n.0 (omega arith) n.1, numbered_order (k + 1) rs n.1)

-- a row after the last
pub numbered_more : (k : ℕ) (rs : List Row) (r : Row) → AreNumbered k (rows_of rs) → is_at (k + length rs) r.words ≡ true → AreNumbered k (rows_of (rs ++ r ∷ []))
numbered_more k [] r n h = let e : k + 0 ≡ k = omega arith in (ap (λ (z : ℕ). is_at z r.words) (sym e) ∙ h, tt)
numbered_more k (q ∷ rs) r n h = let e : k + length (q ∷ rs) ≡ (k + 1) + length rs = omega arith in
    (n.0, numbered_more (k + 1) rs r n.1 (ap (λ (z : ℕ). is_at z r.words) (sym e) ∙ h))

pub numbered_less : (k : ℕ) (rs : List Row) (r : Row) → AreNumbered k (rows_of (rs ++ r ∷ [])) → AreNumbered k (rows_of rs) × (is_at (k + length rs) r.words ≡ true)
numbered_less k [] r n = let e : k ≡ k + 0 = omega arith in (tt, ap (λ (z : ℕ). is_at z r.words) (sym e) ∙ n.0)
numbered_less k (q ∷ rs) r n =
    let e : (k + 1) + length rs ≡ k + length (q ∷ rs) = omega arith in
    let m = numbered_less (k + 1) rs r n.1 in
    ((n.0, m.0), ap (λ (z : ℕ). is_at z r.words) (sym e) ∙ m.1)

-- no row has a number after the last one's
pub none_there : (k j : ℕ) (rs : List Row) → AreNumbered k (rows_of rs) → k + length rs ≤ j → row_among (j % 256) (j / 256) rs ≡ None
none_there k j [] n l = refl
none_there k j (r ∷ rs) n l = elim (either (is_at j r.words)) [
  | inl p ↦ (let a = number_is k r.words n.0 in let b = number_is j r.words p in absurd (omega (arith, a.0, a.1, b.0, b.1, l)))
  | inr p ↦ ap (λ (z : Bool). if z then Some r else row_among (j % 256) (j / 256) rs) p ∙ none_there (k + 1) j rs n.1 (omega (arith, l))
]

-- what is under two numbers in a list with another row
pub among_more : (a b : ℕ) (rs : List Row) (r : Row) → row_among (low r) (high r) rs ≡ None → row_among a b (rs ++ r ∷ []) ≡ (if is_under a b r.words then Some r else row_among a b rs)
among_more a b [] r none = refl
among_more a b (q ∷ rs) r none = elim (either (is_under a b q.words)) [
  | inl p ↦ (let k = same_parts (low q) (high q) a b p in
      ap (λ (z : Bool). if z then Some q else row_among a b (rs ++ r ∷ [])) p
      ∙ sym (ap (λ (z : Bool). if z then Some r else row_among a b (q ∷ rs)) (other p) ∙ ap (λ (z : Bool). if z then Some q else row_among a b rs) p))
  | inr p ↦ ap (λ (z : Bool). if z then Some q else row_among a b (rs ++ r ∷ [])) p ∙ among_more a b rs r rest
      ∙ ap (λ (o : Option Row). if is_under a b r.words then Some r else o) (sym (ap (λ (z : Bool). if z then Some q else row_among a b rs) p))
] where
  own : is_under (low r) (high r) q.words ≡ false
  own = elim (either (is_under (low r) (high r) q.words)) [
    | inl p ↦ absurd (none_some (row_among (low r) (high r) (q ∷ rs)) q none (ap (λ (z : Bool). if z then Some q else row_among (low r) (high r) rs) p))
    | inr p ↦ p
  ]

  rest : row_among (low r) (high r) rs ≡ None
  rest = sym (ap (λ (z : Bool). if z then Some q else row_among (low r) (high r) rs) own) ∙ none

  other : is_under a b q.words ≡ true → is_under a b r.words ≡ false
  other p = elim (either (is_under a b r.words)) [
    | inl h ↦ (let m = same_parts (low r) (high r) a b h in
        absurd (not_both (is_under (low r) (high r) q.words) (ap (λ (z : ℕ). is_under z (high r) q.words) m.0 ∙ ap (λ (z : ℕ). is_under a z q.words) m.1 ∙ p) own))
    | inr h ↦ h
  ]

-- a row is added after the last
pub rows_more : (s t : Store) (q q' : RowTable) → IsTable s q → IsTable t q' → AreNumbered 0 (rows_of (rows s q)) → (x : Row) → is_at (length (rows s q)) x.words ≡ true
    → ((a b : ℕ) → row t q' a b ≡ (if is_under a b x.words then Some x else row s q a b)) → rows t q' ≡ rows s q ++ x ∷ []
rows_more s t q q' h k n x at now =
    rows_are_one (rows t q') (rows s q ++ x ∷ []) (rows_ascend t q' k).0 (numbered_order 0 (rows s q ++ x ∷ []) (numbered_more 0 (rows s q) x n (ap (λ (z : ℕ). is_at z x.words) behind_all ∙ at))) (λ a b.
    sym ((rows_ascend t q' k).1 a b) ∙ now a b ∙ ap (λ (o : Option Row). if is_under a b x.words then Some x else o) ((rows_ascend s q h).1 a b)
    ∙ sym (among_more a b (rows s q) x absent)) where
      behind_all : 0 + length (rows s q) ≡ length (rows s q)
      behind_all = omega arith

      absent : row_among (low x) (high x) (rows s q) ≡ None
      absent =
          let m = number_is (length (rows s q)) x.words at in
          ap (λ (z : ℕ). row_among z (high x) (rows s q)) m.0 ∙ ap (λ (z : ℕ). row_among (length (rows s q) % 256) z (rows s q)) m.1 ∙ none_there 0 (length (rows s q)) (rows s q) n (omega arith)

-- all but the last
abbrev pub front : List Row → List Row
front [] = []
front (r ∷ []) = []
front (r ∷ q ∷ rs) = r ∷ front (q ∷ rs)

pub front_last : (rs : List Row) (r : Row) → last_row rs ≡ Some r → rs ≡ front rs ++ r ∷ []
front_last [] r e = absurd (none_some None r refl e)
front_last (q ∷ []) r e = ap (λ (z : Row). z ∷ []) (some_is e) where
  some_is : Some q ≡ Some r → q ≡ r
  some_is e = cc
front_last (q ∷ p ∷ rs) r e = ap (λ (z : List Row). q ∷ z) (front_last (p ∷ rs) r e)

-- the last row goes
pub rows_less : (s t : Store) (q q' : RowTable) → IsTable s q → IsTable t q' → AreNumbered 0 (rows_of (rows s q)) → (x : Row) → last_row (rows s q) ≡ Some x
    → ((a b : ℕ) → row t q' a b ≡ (if same_key (low x) (high x) a b then None else row s q a b)) → rows s q ≡ rows t q' ++ x ∷ []
rows_less s t q q' h k n x last now = whole ∙ ap (λ (z : List Row). z ++ x ∷ []) (sym (rows_are_one (rows t q') (front (rows s q)) (rows_ascend t q' k).0 (numbered_order 0 (front (rows s q)) parts.0) same)) where
  whole : rows s q ≡ front (rows s q) ++ x ∷ []
  whole = front_last (rows s q) x last

  parts : AreNumbered 0 (rows_of (front (rows s q))) × (is_at (0 + length (front (rows s q))) x.words ≡ true)
  parts = let P : List Row → Type 0 = λ z. AreNumbered 0 (rows_of z) in numbered_less 0 (front (rows s q)) x (subst P whole n)

  absent : row_among (low x) (high x) (front (rows s q)) ≡ None
  absent =
      let m = number_is (0 + length (front (rows s q))) x.words parts.1 in
      ap (λ (z : ℕ). row_among z (high x) (front (rows s q))) m.0 ∙ ap (λ (z : ℕ). row_among ((0 + length (front (rows s q))) % 256) z (front (rows s q))) m.1
      ∙ none_there 0 (0 + length (front (rows s q))) (front (rows s q)) parts.0 (omega arith)

  without : (a b : ℕ) (w : Bool) → same_key (low x) (high x) a b ≡ w → (if w then None else (if w then Some x else row_among a b (front (rows s q)))) ≡ row_among a b (front (rows s q))
  without a b true e = (let m = same_parts (low x) (high x) a b e in sym (ap (λ (z : ℕ). row_among z b (front (rows s q))) (sym m.0) ∙ ap (λ (z : ℕ). row_among (low x) z (front (rows s q))) (sym m.1) ∙ absent))
  without a b false e = refl

  same : (a b : ℕ) → row_among a b (rows t q') ≡ row_among a b (front (rows s q))
  same a b =
      sym ((rows_ascend t q' k).1 a b) ∙ now a b ∙ ap (λ (o : Option Row). if same_key (low x) (high x) a b then None else o) ((rows_ascend s q h).1 a b ∙ ap (row_among a b) whole ∙ among_more a b (front (rows s q)) x absent)
      ∙ without a b (same_key (low x) (high x) a b) refl

-- the last row is found under its own numbers
pub last_among : (rs : List Row) (x : Row) → AreNumbered 0 (rows_of rs) → last_row rs ≡ Some x → row_among (low x) (high x) rs ≡ Some x
last_among rs x n e =
    ap (row_among (low x) (high x)) whole ∙ among_more (low x) (high x) (front rs) x absent
    ∙ ap (λ (z : Bool). if z then Some x else row_among (low x) (high x) (front rs)) (same_self (low x) (high x)) where
      whole : rs ≡ front rs ++ x ∷ []
      whole = front_last rs x e

      parts : AreNumbered 0 (rows_of (front rs)) × (is_at (0 + length (front rs)) x.words ≡ true)
      parts = let P : List Row → Type 0 = λ z. AreNumbered 0 (rows_of z) in numbered_less 0 (front rs) x (subst P whole n)

      absent : row_among (low x) (high x) (front rs) ≡ None
      absent =
          let m = number_is (0 + length (front rs)) x.words parts.1 in
          ap (λ (z : ℕ). row_among z (high x) (front rs)) m.0 ∙ ap (λ (z : ℕ). row_among ((0 + length (front rs)) % 256) z (front rs)) m.1
          ∙ none_there 0 (0 + length (front rs)) (front rs) parts.0 (omega arith)

-- the number of the last row
pub last_number : (rs : List Row) (r : Row) → AreNumbered 0 (rows_of rs) → last_row rs ≡ Some r → high r * 256 + low r + 1 ≡ length rs
last_number rs r n e =
    let whole : rs ≡ front rs ++ r ∷ [] = front_last rs r e in
    let P : List Row → Type 0 = λ z. AreNumbered 0 (rows_of z) in
    let at = (numbered_less 0 (front rs) r (subst P whole n)).1 in
    let m = number_is (0 + length (front rs)) r.words at in
    omega (arith, m.0, m.1, ap length whole, length-append (front rs) (r ∷ []))

pub none_last : (rs : List Row) → last_row rs ≡ None → rs ≡ []
none_last [] e = refl
none_last (r ∷ rs) e = absurd (no e) where
  no : Some (row_or r (last_row rs)) ≡ None → ⊥
  no e = cc

pub extents_more : (rs : List Row) (r : Row) → map extent_of (rows_of (rs ++ r ∷ [])) ≡ map extent_of (rows_of rs) ++ extent_of r.words ∷ []
extents_more [] r = refl
extents_more (q ∷ rs) r = ap (λ (z : List Extent). extent_of q.words ∷ z) (extents_more rs r)

-- the row of a number
at_number : (k j : ℕ) (rs : List Row) → AreNumbered k (rows_of rs) → row_among ((k + j) % 256) ((k + j) / 256) rs ≡ slice_get rs j
at_number k zero [] n = refl
at_number k (suc j) [] n = refl
at_number k zero (r ∷ rs) n =
    let e : k ≡ k + zero = omega arith in
    ap (λ (z : Bool). if z then Some r else row_among ((k + zero) % 256) ((k + zero) / 256) rs) (ap (λ (z : ℕ). is_at z r.words) (sym e) ∙ n.0)
at_number k (suc j) (r ∷ rs) n = elim (either (is_at (k + suc j) r.words)) [
  | inl p ↦ (let a = number_is k r.words n.0 in let b = number_is (k + suc j) r.words p in absurd (omega (arith, a.0, a.1, b.0, b.1)))
  | inr p ↦ (let e : (k + 1) + j ≡ k + suc j = omega arith in
      ap (λ (z : Bool). if z then Some r else row_among ((k + suc j) % 256) ((k + suc j) / 256) rs) p
      ∙ ap (λ (z : ℕ). row_among (z % 256) (z / 256) rs) (sym e) ∙ at_number (k + 1) j rs n.1)
]

extent_get : (rs : List Row) (j : ℕ) → slice_get (map extent_of (rows_of rs)) j ≡ option_map (λ (r : Row). extent_of r.words) (slice_get rs j)
extent_get [] zero = refl
extent_get [] (suc j) = refl
extent_get (r ∷ rs) zero = refl
extent_get (r ∷ rs) (suc j) = extent_get rs j

pub extent_of_number : (s : Store) (q : RowTable) → IsTable s q → AreNumbered 0 (rows_of (rows s q)) → (j : ℕ)
    → slice_get (map extent_of (rows_of (rows s q))) j ≡ option_map (λ (r : Row). extent_of r.words) (row s q (j % 256) (j / 256))
extent_of_number s q h n j =
    let e : 0 + j ≡ j = omega arith in
    extent_get (rows s q) j
    ∙ ap (option_map (λ (r : Row). extent_of r.words))
    (sym (at_number 0 j (rows s q) n) ∙ ap (λ (z : ℕ). row_among (z % 256) (z / 256) (rows s q)) e ∙ sym ((rows_ascend s q h).1 (j % 256) (j / 256)))
