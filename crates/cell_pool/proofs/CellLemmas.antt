-- The cells of extents: with another extent, and with one less.
use Rattle.std.proofs.Common.{◌≡◌, ℕ, ◌<◌, ◌||◌, Bool, true, false, List, [], ◌∷◌, ◌++◌, refl, sym, ap, ◌∙◌, append_assoc}
use Rattle.vsm_elements.specs.Store.{among}
use Rattle.vsm_elements.proofs.ChainLemmas.{among-append, not_both}
use Rattle.cell_pool.specs.declared.settings.Extent.{Extent}
use Rattle.cell_pool.specs.Pool.{AreApart, cells_from, cells_of}
use Rattle.cell_pool.proofs.WalkLemmas.{none_true}

pub or_left : (a b : Bool) → a ≡ true → (a || b) ≡ true
or_left true b e = refl
or_left false b e = absurd (not_both false e refl)

pub or_right : (a b : Bool) → b ≡ true → (a || b) ≡ true
or_right true b e = refl
or_right false b e = e

pub or_neither : (a b : Bool) → a ≡ false → b ≡ false → (a || b) ≡ false
or_neither true b e f = absurd (not_both true refl e)
or_neither false b e f = f

pub cells_more : (size : ℕ) (xs : List Extent) (y : Extent) → cells_of size (xs ++ y ∷ []) ≡ cells_of size xs ++ cells_from size y.start y.count
cells_more size [] y = nothing_more (cells_from size y.start y.count) where
  nothing_more : (ns : List ℕ) → ns ++ [] ≡ ns
  nothing_more [] = refl
  nothing_more (n ∷ ns) = ap (λ (z : List ℕ). n ∷ z) (nothing_more ns)
cells_more size (x ∷ xs) y = ap (λ (z : List ℕ). cells_from size x.start x.count ++ z) (cells_more size xs y) ∙ sym (append_assoc (cells_from size x.start x.count) (cells_of size xs) (cells_from size y.start y.count))

module _ (size : ℕ) (s : 0 < size) where
  pub apart_more : (xs : List Extent) (y : Extent) → AreApart size xs → ((a : ℕ) → among a (cells_of size xs) ≡ true → among a (cells_from size y.start y.count) ≡ false) → AreApart size (xs ++ y ∷ [])
  apart_more [] y h k = (λ a e. refl, record {})
  apart_more (x ∷ xs) y h k = (
    λ a e. ap (among a) (cells_more size xs y) ∙ among-append a (cells_of size xs) (cells_from size y.start y.count)
        ∙ or_neither (among a (cells_of size xs)) (among a (cells_from size y.start y.count)) (h.0 a e)
        (k a (among-append a (cells_from size x.start x.count) (cells_of size xs) ∙ or_left (among a (cells_from size x.start x.count)) (among a (cells_of size xs)) e)),
    apart_more xs y h.1 (λ a e. k a (among-append a (cells_from size x.start x.count) (cells_of size xs) ∙ or_right (among a (cells_from size x.start x.count)) (among a (cells_of size xs)) e)),
  )

  pub apart_front : (xs : List Extent) (y : Extent) → AreApart size (xs ++ y ∷ []) → AreApart size xs
  apart_front [] y h = record {}
  apart_front (x ∷ xs) y h = (
    λ a e. none_true (among a (cells_of size xs)) (λ f. not_both (among a (cells_of size (xs ++ y ∷ []))) (ap (among a) (cells_more size xs y) ∙ among-append a (cells_of size xs) (cells_from size y.start y.count) ∙ or_left (among a (cells_of size xs)) (among a (cells_from size y.start y.count)) f) (h.0 a e)),
    apart_front xs y h.1,
  )

  pub apart_last : (xs : List Extent) (y : Extent) → AreApart size (xs ++ y ∷ []) → (a : ℕ) → among a (cells_of size xs) ≡ true → among a (cells_from size y.start y.count) ≡ false
  apart_last [] y h a e = absurd (not_both false e refl)
  apart_last (x ∷ xs) y h a e = go (λ k. apart_last xs y h.1 a k) (among a (cells_from size x.start x.count)) refl where
    behind : (c d : Bool) → c ≡ false → (c || d) ≡ true → d ≡ true
    behind true d f g = absurd (not_both true refl f)
    behind false d f g = g

    go : (among a (cells_of size xs) ≡ true → among a (cells_from size y.start y.count) ≡ false)
        → (b : Bool) → among a (cells_from size x.start x.count) ≡ b → among a (cells_from size y.start y.count) ≡ false
    go rest true f = none_true (among a (cells_from size y.start y.count)) (λ g. not_both (among a (cells_of size (xs ++ y ∷ []))) (ap (among a) (cells_more size xs y) ∙ among-append a (cells_of size xs) (cells_from size y.start y.count) ∙ or_right (among a (cells_of size xs)) (among a (cells_from size y.start y.count)) g) (h.0 a f))
    go rest false f = rest (behind (among a (cells_from size x.start x.count)) (among a (cells_of size xs)) f (sym (among-append a (cells_from size x.start x.count) (cells_of size xs)) ∙ e))
