-- Areas that are joined one after the other.
use Rattle.std.proofs.Common.{◌≡◌, ℕ, zero, suc, ◌+◌, ◌<◌, ◌≤◌, Bool, true, false, ◌&&◌, ◌==◌, if◌then◌else◌, Option, Some, None, List, [], ◌∷◌, ◌++◌, length, take, get_or, reverse, refl, sym, ap, ◌∙◌, arith}
use Rattle.std.specs.Prelude.{slice_set}
use Rattle.std.proofs.lemmas.Bool.{eq-eqb}
use Rattle.std.proofs.lemmas.List.{reverse-append, set_split, drop_all, take_more, take_all}
use Rattle.vsm_model.specs.declared.Subpool.{Subpool}
use Rattle.explain_areas.specs.Areas.{goes_on, joined, with_doubleword, areas_to}
use Rattle.explain_areas.specs.declared.parts.LineArea.{LineArea}

-- A list that isn't empty, from its end.
pub from_end : (xs : List LineArea) (n : ℕ) (d : LineArea) → length xs ≡ n + 1 → reverse xs ≡ get_or xs n d ∷ reverse (take n xs)
from_end xs n d size =
    ap reverse (sym (take_all (n + 1) xs (omega (arith, size))) ∙ take_more xs n d (omega (arith, size))) ∙ reverse-append (take n xs) (get_or xs n d ∷ [])

-- Its last element is another one.
pub set_at_end : (xs : List LineArea) (n : ℕ) (b : LineArea) → length xs ≡ n + 1 → reverse (slice_set xs n b) ≡ b ∷ reverse (take n xs)
set_at_end xs n b size =
    ap reverse (set_split xs n b (omega (arith, size)) ∙ ap (λ ys. take n xs ++ b ∷ ys) (drop_all (suc n) xs (omega (arith, size))))
    ∙ reverse-append (take n xs) (b ∷ [])

pub goes : (next last : LineArea) (others : List LineArea) → goes_on last next ≡ true → joined next (last ∷ others) ≡ record last { count = last.count + next.count } ∷ others
goes next last others e = ap (λ b. if b then record last { count = last.count + next.count } ∷ others else next ∷ last ∷ others) e

pub stops : (next last : LineArea) (others : List LineArea) → goes_on last next ≡ false → joined next (last ∷ others) ≡ next ∷ last ∷ others
stops next last others e = ap (λ b. if b then record last { count = last.count + next.count } ∷ others else next ∷ last ∷ others) e

module _ (p : Subpool) (line : ℕ) where
  abbrev pub part : ℕ → ℕ → LineArea
  part first count = record { subpool = p; start = first; count = count; line = line }

  -- The next doubleword goes on where a part ends.
  next_goes : (first n : ℕ) → goes_on (part first n) (part (first + n) 1) ≡ true
  next_goes first n =
      (λ i. eq-eqb p.number p.number refl i && (p.owner == p.owner) && (line == line) && (first + n == first + n))
      ∙ (λ i. eq-eqb p.owner p.owner refl i && (line == line) && (first + n == first + n))
      ∙ (λ i. eq-eqb line line refl i && (first + n == first + n)) ∙ eq-eqb (first + n) (first + n) refl

  -- It does too where the part was joined to an area before.
  joined_goes : (q : LineArea) (first n : ℕ) → goes_on q (part first n) ≡ true → goes_on (record q { count = q.count + n }) (part (first + n) 1) ≡ true
  joined_goes q first n e = grind arith

  one_more : (first n : ℕ) (others : List LineArea) → joined (part (first + n) 1) (joined (part first n) others) ≡ joined (part first (n + 1)) others
  one_more first n [] = goes (part (first + n) 1) (part first n) [] (next_goes first n)
  one_more first n (q ∷ qs) = go (goes_on q (part first n)) refl where
    go : (b : Bool) → goes_on q (part first n) ≡ b → joined (part (first + n) 1) (joined (part first n) (q ∷ qs)) ≡ joined (part first (n + 1)) (q ∷ qs)
    go true e =
        ap (joined (part (first + n) 1)) (goes (part first n) q qs e)
        ∙ goes (part (first + n) 1) (record q { count = q.count + n }) qs (joined_goes q first n e)
        ∙ ap (λ c. record q { count = c } ∷ qs) (omega arith)
        ∙ sym (goes (part first (n + 1)) q qs e)
    go false e =
        ap (joined (part (first + n) 1)) (stops (part first n) q qs e)
        ∙ goes (part (first + n) 1) (part first n) (q ∷ qs) (next_goes first n)
        ∙ sym (stops (part first (n + 1)) q qs e)

  module _ (f : ℕ → Option ℕ) (others : List LineArea) where
    -- Doublewords that the statement of one line took are one part.
    pub some_on : (first n : ℕ) → ((d : ℕ) → first ≤ d → d < first + (n + 1) → f d ≡ Some line) →
        areas_to p f (first + (n + 1)) others ≡ joined (part first (n + 1)) (areas_to p f first others)
    some_on first zero some =
        ap (λ k. areas_to p f k others) (let e : first + (0 + 1) ≡ suc first = omega arith in e)
        ∙ ap (λ o. with_doubleword p first o (areas_to p f first others)) (some first (omega arith) (omega arith))
    some_on first (suc n) some =
        ap (λ k. areas_to p f k others) (let e : first + (suc n + 1) ≡ suc (first + (n + 1)) = omega arith in e)
        ∙ ap (λ o. with_doubleword p (first + (n + 1)) o (areas_to p f (first + (n + 1)) others)) (some (first + (n + 1)) (omega arith) (omega arith))
        ∙ ap (joined (part (first + (n + 1)) 1)) (some_on first n (λ d from to. some d from (omega (arith, to))))
        ∙ one_more first (n + 1) (areas_to p f first others)
        ∙ ap (λ k. joined (part first k) (areas_to p f first others)) (let e : n + 1 + 1 ≡ suc n + 1 = omega arith in e)

-- Doublewords that none took are none.
pub none_on : (p : Subpool) (f : ℕ → Option ℕ) (others : List LineArea) (first n : ℕ) → ((d : ℕ) → first ≤ d → d < first + n → f d ≡ None) →
    areas_to p f (first + n) others ≡ areas_to p f first others
none_on p f others first zero none = ap (λ k. areas_to p f k others) (let e : first + 0 ≡ first = omega arith in e)
none_on p f others first (suc n) none =
    ap (λ k. areas_to p f k others) (let e : first + suc n ≡ suc (first + n) = omega arith in e)
    ∙ ap (λ o. with_doubleword p (first + n) o (areas_to p f (first + n) others)) (none (first + n) (omega arith) (omega arith))
    ∙ none_on p f others first n (λ d from to. none d from (omega (arith, to)))
