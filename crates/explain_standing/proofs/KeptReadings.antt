-- The readings whose states aren't undone are the oldest ones.
use Rattle.std.proofs.Common.{◌≡◌, ℕ, ◌≤◌, nat_le, Bool, true, false, if◌then◌else◌, List, [], ◌∷◌, filter, refl, sym, ap, ◌∙◌, arith}
use Rattle.std.proofs.lemmas.Bool.{leb-true, le-leb}
use Rattle.explain_standing.specs.Readings.{Reading}
use Rattle.explain_standing.specs.Standings.{AreWithin, fallen}

abbrev pub at_most : ℕ → Reading → Bool
at_most n r = nat_le r.depth n

pub within_more : (n k : ℕ) (rs : List Reading) → n ≤ k → AreWithin n rs → AreWithin k rs
within_more n k [] more h = tt
within_more n k (r ∷ rs) more h = (omega (arith, more, h.0), h.1)

pub all_stay : (n k : ℕ) (rs : List Reading) → n ≤ k → AreWithin n rs → filter (at_most k) rs ≡ rs
all_stay n k [] more h = refl
all_stay n k (r ∷ rs) more h =
    ap (λ b. if b then r ∷ filter (at_most k) rs else filter (at_most k) rs) (le-leb r.depth k (omega (arith, more, h.0)))
    ∙ ap (λ xs. r ∷ xs) (all_stay r.depth k rs (omega (arith, more, h.0)) h.1)

fall_at : (n k : ℕ) (r : Reading) (rs : List Reading) (b : Bool) → nat_le r.depth k ≡ b → AreWithin r.depth rs → fallen k rs ≡ filter (at_most k) rs →
    (if b then r ∷ rs else fallen k rs) ≡ (if b then r ∷ filter (at_most k) rs else filter (at_most k) rs)
fall_at n k r rs true is h e = ap (λ xs. r ∷ xs) (sym (all_stay r.depth k rs (leb-true r.depth k is) h))
fall_at n k r rs false is h e = e

pub fallen_are : (n k : ℕ) (rs : List Reading) → AreWithin n rs → fallen k rs ≡ filter (at_most k) rs
fallen_are n k [] h = refl
fallen_are n k (r ∷ rs) h = fall_at n k r rs (nat_le r.depth k) refl h.1 (fallen_are r.depth k rs h.1)

within_at : (k : ℕ) (r : Reading) (rs : List Reading) (b : Bool) → nat_le r.depth k ≡ b → AreWithin r.depth rs → AreWithin k (fallen k rs) →
    AreWithin k (if b then r ∷ rs else fallen k rs)
within_at k r rs true is h e = (leb-true r.depth k is, h)
within_at k r rs false is h e = e

pub fallen_within : (n k : ℕ) (rs : List Reading) → AreWithin n rs → AreWithin k (fallen k rs)
fallen_within n k [] h = tt
fallen_within n k (r ∷ rs) h = within_at k r rs (nat_le r.depth k) refl h.1 (fallen_within r.depth k rs h.1)
