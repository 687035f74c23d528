-- The parents that were read into an array.
use Rattle.std.proofs.Common.{◌≡◌, ◌≢◌, ℕ, ◌+◌, ◌<◌, ◌≤◌, Bool, ◌⊎◌, inl, inr, List, length, Option, Some, None, IsSome, refl, sym, ap, ◌∙◌, subst, arith}
use Rattle.std.specs.Prelude.{if◌then◌else◌, unwrap_or, slice_index_or, slice_set}
use Rattle.std.proofs.lemmas.List.{get_or-set_same, get_or-set_other, length-set}
use Rattle.std.proofs.lemmas.Bool.Decides.{eqb_tells}
use Rattle.storage_changes.specs.State.{StorageState}
use Rattle.task_plans.specs.Parents.{present, AreParents}

pub outside : (f : ℕ → Option ℕ) → ((t : ℕ) → IsSome (f t) → (1 ≤ t) × (t ≤ 64)) → (t : ℕ) → (t ≡ 0) ⊎ (65 ≤ t) → f t ≡ None
outside f range t out = go (f t) refl where
  go : (o : Option ℕ) → f t ≡ o → f t ≡ None
  go None e = e
  go (Some p) e =
      let P : Option ℕ → Type 0 = λ o. IsSome o in
      let r : (1 ≤ t) × (t ≤ 64) = range t (subst P (sym e) refl) in
      elim out [
        | inl z ↦ absurd (omega (arith, z, r.0))
        | inr z ↦ absurd (omega (arith, z, r.1))
      ]

pub small : (f : ℕ → Option ℕ) → ((t : ℕ) → IsSome (f t) → (1 ≤ t) × (t ≤ 64)) → f 1 ≡ Some 0 → ((t p : ℕ) → f t ≡ Some p → t ≢ 1 → IsSome (f p))
    → (t p : ℕ) → f t ≡ Some p → p ≢ 255
small f range root parents t p e is = elim (eqb_tells t 1) [
  | inl z ↦ absurd (omega (arith, same (sym root ∙ ap f (sym z.1) ∙ e), is))
  | inr z ↦ absurd (omega (arith, (range p (parents t p e z.1)).1, is))
] where
  same : Some 0 ≡ Some p → 0 ≡ p
  same e = cc

pub filled : (o : Option ℕ) (v : ℕ) → ((p : ℕ) → o ≡ Some p → p ≢ 255) → v ≡ unwrap_or o 255 → o ≡ present v
filled None v small e = ap present (sym e)
filled (Some p) v small e = elim (eqb_tells p 255) [
  | inl z ↦ absurd (small p refl z.1)
  | inr z ↦ sym (ap present e ∙ ap (λ (b : Bool). if b then None else Some p) z.0)
]

pub more : (f : ℕ → Option ℕ) (xs : List ℕ) (task v : ℕ) → length xs ≡ 65 → task < 65 → ((t : ℕ) → t < task → f t ≡ present (slice_index_or xs t 255))
    → f task ≡ present v → (t : ℕ) → t < task + 1 → f t ≡ present (slice_index_or (slice_set xs task v) t 255)
more f xs task v len low done here t less = elim (eqb_tells t task) [
  | inl z ↦ ap f z.1 ∙ here ∙ ap present (sym (get_or-set_same xs task v 255 (omega (arith, len, low)))) ∙ ap (λ (i : ℕ). present (slice_index_or (slice_set xs task v) i 255)) (sym z.1)
  | inr z ↦ done t (omega (arith, less, z.1)) ∙ ap present (sym (get_or-set_other xs task t v 255 z.1))
]

pub one_more : (f : ℕ → Option ℕ) (xs : List ℕ) (task i v : ℕ) → i ≡ task → length xs ≡ 65 → task < 65 → ((t : ℕ) → t < task → f t ≡ present (slice_index_or xs t 255))
    → f task ≡ present v → (length (slice_set xs i v) ≡ 65) × ((t : ℕ) → t < task + 1 → f t ≡ present (slice_index_or (slice_set xs i v) t 255))
one_more f xs task i v is len low done here = (
  length-set xs i v ∙ len,
  (let P : ℕ → Type 0 = λ j. (t : ℕ) → t < task + 1 → f t ≡ present (slice_index_or (slice_set xs j v) t 255) in subst P (sym is) (more f xs task v len low done here)),
)

-- the parents of a storage whose state is the same
pub still : (xs : List ℕ) (m k : StorageState) → k ≡ m → AreParents xs m.tasks.parents → AreParents xs k.tasks.parents
still xs m k e h = let P : StorageState → Type 0 = λ x. AreParents xs x.tasks.parents in subst P (sym e) h
