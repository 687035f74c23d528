-- A row that moves from one table to another.
use Rattle.std.proofs.Common.{◌≡◌, ℕ, ◌+◌, Bool, true, false, ◌||◌, ◌⊎◌, List, [], ◌∷◌, ◌++◌, length, Option, Some, None, IsSome, inl, inr, refl, sym, ap, ◌∙◌, subst, arith, length-append}
use Rattle.std.specs.Prelude.{if◌then◌else◌}
use Rattle.std.proofs.lemmas.Bool.Decides.{eqb_tells}
use Rattle.vsm_elements.specs.Store.{Store, at, among}
use Rattle.vsm_elements.specs.Ownership.{Owns, Leaves, Apart}
use Rattle.vsm_elements.proofs.StoreLemmas.{among_first, among_later, among_cons}
use Rattle.vsm_elements.proofs.OwnerLemmas.{others_stay}
use Rattle.vsm_elements.proofs.ChainLemmas.{among-append}
use Rattle.vsm_elements.proofs.ChainFrame.{false_if, Leaves-trans, Leaves-beside, Leaves-behind, Leaves-members}
use Rattle.row_table.specs.declared.row.Row.{Row}
use Rattle.row_table.specs.declared.table.RowTable.{RowTable}
use Rattle.row_table.specs.Rows.{word, same_key, is_under}
use Rattle.row_table.specs.RowTable.{row, rows, owned, IsTable}
use Rattle.row_table.proofs.RowLemmas.{not_both, same_parts, same_sym}
use Rattle.std.proofs.lemmas.Bool.{cond-true}
use Rattle.row_table.proofs.TableLemmas.{tables_stand, tables_stay}

-- nothing changes under another key than that of a row inserted under it
pub key_free : (f g : ℕ → ℕ → Option Row) (a b x y : ℕ) → ((v w : ℕ) → g v w ≡ (if same_key a b v w then None else f v w)) → (same_key x y a b ≡ true) ⊎ (f x y ≡ None) → g x y ≡ None
key_free f g a b x y left (inl p) = left x y ∙ cond-true (same_key a b x y) None (f x y) (same_sym a b x y ∙ p)
key_free f g a b x y left (inr p) = left x y ∙ go (same_key a b x y) where
  go : (z : Bool) → (if z then None else f x y) ≡ None
  go true = refl
  go false = p

-- a member is put first, and in the middle
among_moved : (i x : ℕ) (xs ys : List ℕ) → among i (xs ++ x ∷ ys) ≡ among i (x ∷ xs ++ ys)
among_moved i x xs ys = elim (eqb_tells i x) [
  | inl p ↦ ap (λ (j : ℕ). among j (xs ++ x ∷ ys)) p.1 ∙ here xs ∙ sym (ap (λ (j : ℕ). among j (x ∷ xs ++ ys)) p.1 ∙ among_first x (xs ++ ys))
  | inr p ↦ among-append i xs (x ∷ ys) ∙ ap (λ (e : Bool). among i xs || e) (among_cons i x ys p.1) ∙ sym (among-append i xs ys) ∙ sym (among_cons i x (xs ++ ys) p.1)
] where
  here : (zs : List ℕ) → among x (zs ++ x ∷ ys) ≡ true
  here [] = among_first x ys
  here (z ∷ zs) = among_later x z (zs ++ x ∷ ys) (here zs)

-- the row of `q` leaves it (`q1`), and moves to `to` (`to2`)
module _ (s s1 t : Store) (q q1 to to2 : RowTable) (r : Row) (a b : ℕ)
    (table : IsTable s q) (other : IsTable s to) (apart : Apart (owned s q) (owned s to))
    (table1 : IsTable s1 q1) (was : row s q a b ≡ Some r)
    (left : (x y : ℕ) → row s1 q1 x y ≡ (if same_key a b x y then None else row s q x y))
    (live : IsSome (at s1 r.id)) (out : among r.id (owned s1 q1) ≡ false)
    (leaves : Leaves s s1 (owned s q) (r.id ∷ owned s1 q1)) (same : s1.spare ≡ s.spare) where
  stay : IsTable s1 to × ((x y : ℕ) → row s1 to x y ≡ row s to x y) × (owned s1 to ≡ owned s to) × (rows s1 to ≡ rows s to)
  stay = tables_stay s s1 (owned s q) (r.id ∷ owned s1 q1) to leaves other apart

  pub still_table : IsTable s1 to
  still_table = stay.0

  own : Owns s (owned s to)
  own = (tables_stand s to other).0

  beside : Apart (r.id ∷ owned s1 q1) (owned s to)
  beside = (others_stay s s1 (owned s q) (r.id ∷ owned s1 q1) (owned s to) leaves own apart).1

  pub not_there : among r.id (owned s1 to) ≡ false
  not_there = ap (among r.id) stay.2 ∙ beside r.id (among_first r.id (owned s1 q1))

  pub key_is : (word r.words 0 ≡ a) × (word r.words 1 ≡ b)
  key_is = (let p = (tables_stand s q table).1 a b r was in (p.0, p.1))

  pub still_absent : row s to a b ≡ None → row s1 to (word r.words 0) (word r.words 1) ≡ None
  still_absent e = stay.1 (word r.words 0) (word r.words 1) ∙ ap (λ (z : ℕ). row s to z (word r.words 1)) key_is.0 ∙ ap (row s to a) key_is.1 ∙ e

  module _ (table2 : IsTable t to2)
      (put : (x y : ℕ) → row t to2 x y ≡ (if is_under x y r.words then Some r else row s1 to x y))
      (leaves2 : Leaves s1 t (r.id ∷ owned s1 to) (owned t to2)) (same2 : t.spare ≡ s1.spare) where
    -- the first table is apart from what the second gets
    first_apart : Apart (r.id ∷ owned s1 to) (owned s1 q1)
    first_apart i m = elim (eqb_tells i r.id) [
      | inl p ↦ ap (λ (j : ℕ). among j (owned s1 q1)) p.1 ∙ out
      | inr p ↦ false_if (among i (owned s1 q1)) (λ h. not_both (among i (owned s to)) (sym (ap (among i) stay.2) ∙ sym (among_cons i r.id (owned s1 to) p.1) ∙ m) (beside i (among_later i r.id (owned s1 q1) h)))
    ]

    kept : IsTable t q1 × ((x y : ℕ) → row t q1 x y ≡ row s1 q1 x y) × (owned t q1 ≡ owned s1 q1) × (rows t q1 ≡ rows s1 q1)
    kept = tables_stay s1 t (r.id ∷ owned s1 to) (owned t to2) q1 leaves2 table1 first_apart

    pub moved_table : IsTable t q1
    moved_table = kept.0

    pub moved_left : (x y : ℕ) → row t q1 x y ≡ (if same_key a b x y then None else row s q x y)
    moved_left x y = kept.1 x y ∙ left x y

    under_is : (x y : ℕ) → is_under x y r.words ≡ same_key a b x y
    under_is x y = ap (λ (z : ℕ). same_key z (word r.words 1) x y) key_is.0 ∙ ap (λ (z : ℕ). same_key a z x y) key_is.1

    pub moved_rows : (x y : ℕ) → row t to2 x y ≡ (if same_key a b x y then row s q x y else row s to x y)
    moved_rows x y = put x y ∙ ap (λ (z : Bool). if z then Some r else row s1 to x y) (under_is x y) ∙ ap (λ (z : Option Row). if same_key a b x y then Some r else z) (stay.1 x y)
        ∙ go (same_key a b x y) refl where
          go : (z : Bool) → same_key a b x y ≡ z → (if z then Some r else row s to x y) ≡ (if z then row s q x y else row s to x y)
          go true e = let p : (a ≡ x) × (b ≡ y) = same_parts a b x y e in sym was ∙ ap (λ (z : ℕ). row s q z b) p.0 ∙ ap (row s q x) p.1
          go false e = refl

    pub moved_fewer : length (owned t q1) + 1 ≡ length (owned s q)
    moved_fewer = omega (arith, ap length kept.2, leaves.spare, same)

    now_apart : Apart (owned t to2) (owned s1 q1)
    now_apart = (others_stay s1 t (r.id ∷ owned s1 to) (owned t to2) (owned s1 q1) leaves2 (tables_stand s1 q1 table1).0 first_apart).1

    pub moved_apart : Apart (owned t q1) (owned t to2)
    moved_apart i m = false_if (among i (owned t to2)) (λ h. not_both (among i (owned s1 q1)) (sym (ap (among i) kept.2) ∙ m) (now_apart i h))

    pub moved_leaves : Leaves s t (owned s q ++ owned s to) (owned t q1 ++ owned t to2)
    moved_leaves =
        let f : Leaves s s1 (owned s q ++ owned s to) ((r.id ∷ owned s1 q1) ++ owned s to) = Leaves-beside s s1 (owned s q) (r.id ∷ owned s1 q1) (owned s to) leaves own.live in
        let P : List ℕ → Type 0 = λ z. Leaves s s1 (owned s q ++ owned s to) ((r.id ∷ owned s1 q1) ++ z) in
        let f1 : Leaves s s1 (owned s q ++ owned s to) (r.id ∷ owned s1 q1 ++ owned s1 to) = subst P (sym stay.2) f in
        let f2 : Leaves s s1 (owned s q ++ owned s to) (owned s1 q1 ++ r.id ∷ owned s1 to) = Leaves-members s s1 (owned s q ++ owned s to) (r.id ∷ owned s1 q1 ++ owned s1 to) (owned s q ++ owned s to) (owned s1 q1 ++ r.id ∷ owned s1 to) f1 (λ i. refl) (λ i. among_moved i r.id (owned s1 q1) (owned s1 to)) refl
        (omega (arith, length-append (owned s1 q1) (r.id ∷ owned s1 to), length-append (owned s1 q1) (owned s1 to))) in
        let g : Leaves s1 t (owned s1 q1 ++ r.id ∷ owned s1 to) (owned s1 q1 ++ owned t to2) = Leaves-behind s1 t (r.id ∷ owned s1 to) (owned t to2) (owned s1 q1) leaves2 (tables_stand s1 q1 table1).0.live in
        let Q : List ℕ → Type 0 = λ z. Leaves s t (owned s q ++ owned s to) (z ++ owned t to2) in
        subst Q (sym kept.2) (Leaves-trans s s1 t (owned s q ++ owned s to) (owned s1 q1 ++ r.id ∷ owned s1 to) (owned s1 q1 ++ owned t to2) f2 g)
