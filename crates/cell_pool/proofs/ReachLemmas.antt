-- How far extents reach with another one, and which areas they do not meet.
use Rattle.std.proofs.Common.{◌≡◌, ℕ, ◌+◌, ◌*◌, ◌%◌, ◌<◌, ◌≤◌, ◌&&◌, ◌||◌, Bool, true, false, List, [], ◌∷◌, ◌++◌, inl, inr, refl, ap, ◌∙◌, arith}
use Rattle.std.specs.Prelude.{nat_lt}
use Rattle.std.specs.List.{list_any}
use Rattle.std.proofs.lemmas.Bool.{le-ltb, ltb-false}
use Rattle.list_table.specs.Entries.{word}
use Rattle.cell_pool.specs.declared.settings.Extent.{Extent}
use Rattle.cell_pool.specs.Pool.{overlaps, rounded}
use Rattle.cell_pool.specs.Items.{subpool_in}
use Rattle.cell_pool.specs.Reach.{reach_start, reach_end, AreWithin, Widens, may_meet, owned_by}
use Rattle.cell_pool.proofs.SeparateLemmas.{one_not}

-- the extents are also within what other words say, if these say no less
pub within_too : (vs ws : List ℕ) → reach_start vs ≤ reach_start ws → reach_end ws ≤ reach_end vs → (size : ℕ) (xs : List Extent) → AreWithin ws size xs → AreWithin vs size xs
within_too vs ws low high size [] h = tt
within_too vs ws low high size (x ∷ xs) h = (omega (arith, low, h.0), omega (arith, high, h.1), within_too vs ws low high size xs h.2)

pub within_more : (ws : List ℕ) (size : ℕ) (x : Extent) → reach_start ws ≤ x.start → x.start + x.count * size ≤ reach_end ws → (xs : List Extent) → AreWithin ws size xs → AreWithin ws size (xs ++ x ∷ [])
within_more ws size x low high [] h = (low, high, tt)
within_more ws size x low high (y ∷ ys) h = (h.0, h.1, within_more ws size x low high ys h.2)

pub within_less : (ws : List ℕ) (size : ℕ) (x : Extent) (xs : List Extent) → AreWithin ws size (xs ++ x ∷ []) → AreWithin ws size xs
within_less ws size x [] h = tt
within_less ws size x (y ∷ ys) h = (h.0, h.1, within_less ws size x ys h.2)

pub within_widened : (old new : List ℕ) (size : ℕ) (x : Extent) → Widens old new size x → (xs : List Extent) → AreWithin old size xs → AreWithin new size (xs ++ x ∷ [])
within_widened old new size x w xs h = within_more new size x w.start w.end xs (within_too new old w.low w.high size xs h)

pub same_subpool_in : (old new : List ℕ) (size : ℕ) (x : Extent) → Widens old new size x → subpool_in new ≡ subpool_in old
same_subpool_in old new size x w = ap (λ (z : ℕ). record { number = z; owner = word new 1 % 256 }) w.number ∙ ap (λ (z : ℕ). record { number = word old 0 % 256; owner = z }) w.owner

-- the owner makes no difference
pub within_owned : (owner : ℕ) → owner < 256 → (ws : List ℕ) (size : ℕ) (xs : List Extent) → AreWithin ws size xs → AreWithin (owned_by owner ws) size xs
within_owned owner small ws size xs h = within_too (owned_by owner ws) ws (omega arith) (omega (arith, small)) size xs h

-- an area outside of what the words say meets no extent
module _ (ws : List ℕ) (size start len : ℕ) (clear : may_meet ws start len ≡ false) where
  misses : (x : Extent) → reach_start ws ≤ x.start → x.start + x.count * size ≤ reach_end ws → overlaps size start len x ≡ false
  misses x low high = elim (one_not (nat_lt start (reach_end ws + 7)) (nat_lt (reach_start ws) (start + len)) clear) [
    | inl p ↦ first (nat_lt start (x.start + rounded (x.count * size))) (nat_lt x.start (start + len)) (le-ltb start (x.start + rounded (x.count * size)) (past (x.count * size) x.start (ltb-false start (reach_end ws + 7) p) high))
    | inr p ↦ second (nat_lt start (x.start + rounded (x.count * size))) (nat_lt x.start (start + len)) (le-ltb x.start (start + len) (omega (arith, low, ltb-false (reach_start ws) (start + len) p)))
  ] where
    first : (a b : Bool) → a ≡ false → (a && b) ≡ false
    first true b e = absurd cc
    first false b e = refl

    second : (a b : Bool) → b ≡ false → (a && b) ≡ false
    second true b e = e
    second false b e = refl

    past : (bytes from : ℕ) → reach_end ws + 7 ≤ start → from + bytes ≤ reach_end ws → from + rounded bytes ≤ start
    past bytes from h k = omega (arith, h, k)

  pub none_met : (xs : List Extent) → AreWithin ws size xs → list_any (overlaps size start len) xs ≡ false
  none_met [] h = refl
  none_met (x ∷ xs) h = ap (λ (z : Bool). z || list_any (overlaps size start len) xs) (misses x h.0 h.1) ∙ none_met xs h.2
