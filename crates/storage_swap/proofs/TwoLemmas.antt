-- Two calls take elements next to the storage, one after the other.
use Rattle.std.proofs.Common.{◌≡◌, ℕ, ◌+◌, ◌<◌, ◌≤◌, Option, IsSome, inl, inr, sym, subst, arith}
use Rattle.vsm_elements.specs.Store.{Store, at}
use Rattle.vsm_elements.specs.declared.element.Element.{Element}
use Rattle.vsm_elements.specs.Owners.{Moves}
use Rattle.vsm_elements.proofs.MoveLemmas.{none-or-some, moves-follow, moves-by, rest-same, once-after}
use Rattle.storage_swap.specs.declared.storage.Parts.{Parts}
use Rattle.storage_swap.specs.Storage.{hold, Stand}
use Rattle.storage_swap.proofs.KeptLemmas.{holds-live}

abbrev pub no_ids : ℕ → ℕ
no_ids i = 0

-- what is live, and what another call took, is live
live-after : (s t : Store) (f g : ℕ → ℕ) → ((i : ℕ) → 0 < f i → at t i ≡ at s i) → ((i : ℕ) → 0 < f i → IsSome (at s i)) → ((i : ℕ) → 0 < g i → IsSome (at t i)) → (i : ℕ) → 0 < g i + f i → IsSome (at t i)
live-after s t f g same old new i n = elim (none-or-some (g i)) [
  | inl z ↦ (let w : 0 < f i = omega (arith, n, z) in let P : Option Element → Type 0 = λ o. IsSome o in subst P (sym (same i w)) (old i w))
  | inr z ↦ new i z
]

module _ (p : Parts) (k : Stand p) (one : (i : ℕ) → hold p i ≤ 1) (e end : Store) (f g : ℕ → ℕ)
    (first : Moves p.elements e no_ids f) (first-once : (i : ℕ) → f i ≤ 1) (first-live : (i : ℕ) → 0 < f i → IsSome (at e i))
    (second : Moves e end no_ids g) (second-once : (i : ℕ) → g i ≤ 1) where
  abbrev one-more : ℕ → ℕ
  one-more i = f i + hold p i

  once-first : (i : ℕ) → one-more i ≤ 1
  once-first = once-after p.elements e no_ids f first (hold p) (λ i. omega (arith, one i)) (holds-live p k) first-once

  live-first : (i : ℕ) → 0 < one-more i → IsSome (at e i)
  live-first = live-after p.elements e (hold p) f (rest-same p.elements e no_ids f first (hold p) (λ i. omega (arith, one i)) (holds-live p k)) (holds-live p k) first-live

  once-second : (i : ℕ) → g i + (f i + hold p i) ≤ 1
  once-second = once-after e end no_ids g second one-more (λ i. omega (arith, once-first i)) live-first second-once

  same-second : (i : ℕ) → 0 < f i + hold p i → at end i ≡ at e i
  same-second = rest-same e end no_ids g second one-more (λ i. omega (arith, once-first i)) live-first

  two-moves : Moves p.elements end no_ids (λ i. f i + g i)
  two-moves = moves-follow p.elements e end no_ids f (λ i. f i + g i) first
      (moves-by e end no_ids g f (λ i. f i + g i) second (λ i. omega arith) (λ i. omega arith))

  -- what the second call leaves as it was; that no element was taken twice; and what both took
  pub two : ((i : ℕ) → 0 < f i + hold p i → at end i ≡ at e i) × ((i : ℕ) → g i + (f i + hold p i) ≤ 1) × Moves p.elements end no_ids (λ i. f i + g i)
  two = (same-second, once-second, two-moves)
