-- What a call leaves unchanged, by counts.
use Rattle.std.proofs.Common.{◌≡◌, ℕ, ◌+◌, ◌<◌, ◌≤◌, ◌⊎◌, inl, inr, List, Option, IsSome, sym, ◌∙◌, arith, subst}
use Rattle.std.proofs.lemmas.Bool.Decides.{eqb_tells}
use Rattle.vsm_elements.specs.declared.element.Element.{Element}
use Rattle.vsm_elements.specs.declared.chain.Chain.{Chain}
use Rattle.vsm_elements.specs.Store.{Store, at}
use Rattle.vsm_elements.specs.Ownership.{Apart}
use Rattle.vsm_elements.specs.Chain.{links, owned, IsChain}
use Rattle.vsm_elements.proofs.ChainLemmas.{live_in}
use Rattle.vsm_elements.proofs.ChainFrame.{gone}
use Rattle.vsm_elements.proofs.OwnerLemmas.{chains_kept}
use Rattle.vsm_elements.specs.Owners.{times, Moves}
use Rattle.vsm_elements.specs.Laws.{CallsMove, MovesFollow, PartsMove, OthersKept, OwnersKept}
use Rattle.vsm_elements.proofs.TimesLemmas.{times-some, none-from, some-from, times-once}

pub none-or-some : (n : ℕ) → (n ≡ 0) ⊎ (0 < n)
none-or-some n = elim (eqb_tells n 0) [ inl p ↦ inl p.1 | inr p ↦ inr (omega (arith, p.1)) ]

pub moves-of : CallsMove
moves-of s t had has f = record {
  others = λ i h k. f.others i (none-from i had h) (none-from i has k);
  gained = λ i h k. f.gained i (none-from i had h) (some-from i has k);
  lost = λ i h k. f.lost i (some-from i had h) (none-from i has k);
}

pub moves-follow : MovesFollow
moves-follow s r t f g h a b = record {
  others = λ i p q. elim (none-or-some (g i)) [ inl z ↦ b.others i z q ∙ a.others i p z | inr z ↦ b.lost i z q ∙ sym (a.gained i p z) ];
  gained = λ i p q. elim (none-or-some (g i)) [ inl z ↦ sym (a.others i p z) ∙ b.gained i z q | inr z ↦ a.gained i p z ];
  lost = λ i p q. elim (none-or-some (g i)) [ inl z ↦ b.others i z q ∙ a.lost i p z | inr z ↦ b.lost i z q ];
}

-- a call on a part is one on the whole
pub moves-by : PartsMove
moves-by s t f g F G a le eq = record {
  others = λ i p q. a.others i (omega (arith, p, le i)) (omega (arith, p, q, le i, eq i));
  gained = λ i p q. a.gained i (omega (arith, p, le i)) (omega (arith, p, q, le i, eq i));
  lost = λ i p q. a.lost i (omega (arith, p, q, le i, eq i)) (omega (arith, p, q, le i, eq i));
}

pub moves-like : (s t : Store) (f g F G : ℕ → ℕ) → Moves s t f g → ((i : ℕ) → F i ≡ f i) → ((i : ℕ) → G i ≡ g i) → Moves s t F G
moves-like s t f g F G a le eq = moves-by s t f g F G a (λ i. omega (arith, le i)) (λ i. omega (arith, le i, eq i))

-- nothing moves
pub moves-none : (s t : Store) (f : ℕ → ℕ) → ((i : ℕ) → at t i ≡ at s i) → Moves s t f f
moves-none s t f e = record { others = λ i p q. e i; gained = λ i p q. absurd (omega (arith, p, q)); lost = λ i p q. absurd (omega (arith, p, q)) }

module _ (s t : Store) (f g : ℕ → ℕ) (m : Moves s t f g) where
  -- a live element that was not the structure's is as it was, and not the structure's
  pub stays : (i : ℕ) → IsSome (at s i) → f i ≡ 0 → (g i ≡ 0) × (at t i ≡ at s i)
  stays i live p = elim (none-or-some (g i)) [ inl z ↦ (z, m.others i p z) | inr z ↦ absurd (gone (at s i) (m.gained i p z) live) ]

  module _ (rest : ℕ → ℕ) (once : (i : ℕ) → f i + rest i ≤ 1) (live : (i : ℕ) → 0 < rest i → IsSome (at s i)) where
    pub rest-same : (i : ℕ) → 0 < rest i → at t i ≡ at s i
    rest-same i p = (stays i (live i p) (omega (arith, once i, p))).1

    pub once-after : ((i : ℕ) → g i ≤ 1) → (i : ℕ) → g i + rest i ≤ 1
    once-after own i = elim (none-or-some (rest i)) [ inl z ↦ omega (arith, own i, z) | inr z ↦ omega (arith, once i, z, (stays i (live i z) (omega (arith, once i, z))).0) ]

    pub all-after : ((i : ℕ) → IsSome (at s i) → 0 < f i + rest i) → (i : ℕ) → IsSome (at t i) → 0 < g i + rest i
    all-after all i here = elim (none-or-some (g i)) [
      | inr z ↦ omega (arith, z)
      | inl z ↦ elim (none-or-some (f i)) [
        | inr y ↦ absurd (gone (at t i) (m.lost i y z) here)
        | inl y ↦ let P : Option Element → Type 0 = λ o. IsSome o in omega (arith, all i (subst P (m.others i y z) here), y)
      ]
    ]

pub others-kept : OthersKept
others-kept s t f g rest m once live own = (rest-same s t f g m rest once live, once-after s t f g m rest once live own)

pub owners-kept : OwnersKept
owners-kept s t f g rest m once live all = all-after s t f g m rest once live all

-- chains

pub chain-live : (s : Store) (c : Chain) → IsChain s c → (i : ℕ) → 0 < times i (owned s c) → IsSome (at s i)
chain-live s c h i p = live_in s (links s c) 0 h.held i (some-from i (owned s c) p)

pub chain-once : (s : Store) (c : Chain) → IsChain s c → (i : ℕ) → times i (owned s c) ≤ 1
chain-once s c h i = times-once i (owned s c) h.distinct

pub chain-kept : (s t : Store) (c : Chain) → IsChain s c → ((i : ℕ) → 0 < times i (owned s c) → at t i ≡ at s i) → IsChain t c × (links t c ≡ links s c)
chain-kept s t c h same = chains_kept s t c h (λ i n. same i (times-some i (owned s c) n))

pub apart-from : (xs ys : List ℕ) → ((i : ℕ) → times i xs + times i ys ≤ 1) → Apart xs ys
apart-from xs ys h i m = none-from i ys (omega (arith, h i, times-some i xs m))
