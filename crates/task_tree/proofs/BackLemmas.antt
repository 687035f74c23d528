-- A subtree that is parked and restored.
use Rattle.std.proofs.Common.{◌≡◌, ◌≢◌, ℕ, ◌<◌, ◌≤◌, Bool, true, false, not, ◌&&◌, ◌==◌, Option, Some, None, IsSome, ◌⊎◌, inl, inr, refl, sym, ap, ◌∙◌, subst, arith}
use Rattle.std.specs.Prelude.{if◌then◌else◌, is_some}
use Rattle.row_table.specs.Rows.{either_of}
use Rattle.row_table.proofs.RowLemmas.{not_both, none_some, eqb_same, eqb_refl}
use Rattle.vsm_elements.proofs.ChainFrame.{false_if}
use Rattle.task_tree.specs.Tasks.{Parents, Words, IsBelow, IsTaken, IsLeft}
use Rattle.task_tree.specs.TaskTree.{parent}
use Rattle.task_tree.specs.Laws.{RootIsAbove, PutBack}
use Rattle.task_tree.proofs.LawLemmas.{trees_stand}

gone : (o : Option ℕ) → o ≡ None → IsSome o → ⊥
gone None e h = not_both false h refl
gone (Some x) e h = none_some (Some x) x e refl

some_of : (o : Option ℕ) (x : ℕ) → o ≡ Some x → IsSome o
some_of o x e = let P : Option ℕ → Type 0 = λ z. IsSome z in subst P (sym e) refl

not_true : (b : Bool) → not b ≡ true → b ≡ false
not_true true h = absurd (not_both false h refl)
not_true false h = refl

and_both : (a b : Bool) → a ≡ true → b ≡ true → (a && b) ≡ true
and_both a b p q = ap (λ (z : Bool). z && b) p ∙ q

not_false : (b : Bool) → b ≡ false → not b ≡ true
not_false b h = ap not h

differ : (a b : ℕ) → a ≢ b → (a == b) ≡ false
differ a b ne = false_if (a == b) (λ p. ne (eqb_same a b p))

-- neither 0 nor 1
abbrev inner : ℕ → Bool
inner t = not (t == 0) && not (t == 1)

inner_of : (t : ℕ) → t ≢ 0 → t ≢ 1 → inner t ≡ true
inner_of t p q = and_both (not (t == 0)) (not (t == 1)) (not_false (t == 0) (differ t 0 p)) (not_false (t == 1) (differ t 1 q))

root_below : (f : Parents) (top : ℕ) → top ≢ 0 → top ≢ 1 → f 1 ≡ Some 0 → ((t : ℕ) → IsSome (f t) → t ≢ 0) → IsBelow f top 1 → ⊥
root_below f top low ne root ranges below = not_both (inner 1) (below inner (inner_of top low ne) closed) refl where
  some_nat : (x y : ℕ) → Some x ≡ Some y → x ≡ y
  some_nat x y e = cc

  closed : (child parent : ℕ) → f child ≡ Some parent → inner parent ≡ true → inner child ≡ true
  closed child parent e h = inner_of child (ranges child (some_of (f child) parent e)) (λ q. not_both (inner parent) h (ap inner (sym (some_nat 0 parent (sym root ∙ ap f (sym q) ∙ e)))))

pub root_is_above : RootIsAbove
root_is_above s q top h there ne below =
    let w = trees_stand s q h in
    root_below (parent s q) top (λ e. no_zero (w.1 top there).0 e) ne w.2 (λ t k e. no_zero (w.1 t k).0 e) below where
      no_zero : {t : ℕ} → 1 ≤ t → t ≡ 0 → ⊥
      no_zero p e = omega (arith, p, e)

-- a task that doesn't exist isn't below
below_there : (f : Parents) (top t : ℕ) → IsSome (f top) → IsBelow f top t → f t ≡ None → ⊥
below_there f top t there below none = not_both (not (t == t)) (below (λ x. not (x == t)) (other top there) (λ child parent e h. other child (some_of (f child) parent e))) (ap not (eqb_refl t)) where
  other : (x : ℕ) → IsSome (f x) → not (x == t) ≡ true
  other x h = not_false (x == t) (differ x t (λ e. gone (f x) (ap f e ∙ none) h))

module _ (f rest out : Parents) (words rest_words out_words : Words) (top : ℕ) (there : IsSome (f top)) where
  abbrev Parted : ℕ → Type 0
  Parted t = IsTaken f rest out words out_words top t ⊎ IsLeft f rest out words rest_words top t

  free : (t : ℕ) → Parted t → IsSome (out t) → rest t ≡ None
  free t (inl h) k = h.gone
  free t (inr h) k = absurd (gone (out t) h.none k)

  whole : (t : ℕ) → Parted t → either_of (out t) (rest t) ≡ f t
  whole t (inl h) = ap (λ (z : Option ℕ). either_of z (rest t)) h.parent ∙ ap (either_of (f t)) h.gone ∙ alone (f t) where
    alone : (x : Option ℕ) → either_of x None ≡ x
    alone None = refl
    alone (Some x) = refl
  whole t (inr h) = ap (λ (z : Option ℕ). either_of z (rest t)) h.none ∙ h.parent

  same_words : (t r : ℕ) → r < 16 → Parted t → (if is_some (out t) then out_words t r else rest_words t r) ≡ words t r
  same_words t r l (inl h) = go (out t) refl where
    go : (x : Option ℕ) → out t ≡ x → (if is_some x then out_words t r else rest_words t r) ≡ words t r
    go None e = absurd (below_there f top t there h.below (sym h.parent ∙ e))
    go (Some x) e = h.registers r l
  same_words t r l (inr h) = ap (λ (z : Option ℕ). if is_some z then out_words t r else rest_words t r) h.none ∙ h.registers r l

pub put_back : PutBack
put_back f rest out words rest_words out_words top there above homes parted = (
  (λ t k. free f rest out words rest_words out_words top there t (parted t) k),
  (λ t p e. home t p e (parted t)),
  (λ t. whole f rest out words rest_words out_words top there t (parted t)),
  (λ t r l. same_words f rest out words rest_words out_words top there t r l (parted t)),
) where
  home : (t p : ℕ) → out t ≡ Some p → IsTaken f rest out words out_words top t ⊎ IsLeft f rest out words rest_words top t → IsSome (either_of (out p) (rest p))
  home t p e (inl h) =
      let P : Option ℕ → Type 0 = λ z. IsSome z in
      let ne : t ≢ 1 = λ q. above (let Q : ℕ → Type 0 = λ z. IsBelow f top z in subst Q q h.below) in
      subst P (sym (whole f rest out words rest_words out_words top there p (parted p))) (homes t p (sym h.parent ∙ e) ne)
  home t p e (inr h) = absurd (none_some (out t) p h.none e)
