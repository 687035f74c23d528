-- What is left of lines, each at its place.
use Rattle.std.proofs.Common.{◌≡◌, ◌<◌, ◌+◌, ◌^◌, ◌==◌, ℕ, Bool, true, false, true≢false, if◌then◌else◌, Option, Some, None, List, [], ◌∷◌, ◌++◌, length, get_or, slice_set, length-append, refl, sym, ap, ◌∙◌, arith, inl, inr}
use Rattle.std.proofs.lemmas.Bool.{cases_eq, eq-eqb, eqb-true, false_from_ne_true}
use Rattle.std.proofs.lemmas.Option.{slice_get-get_or}
use Rattle.service_laws.proofs.Cases.{among_in, in_among}
use Rattle.vsm_model.specs.Regions.{among}
use Rattle.explain_standing.specs.NumberMaps.{number_in}
use Rattle.explain_standing.specs.declared.number_map.NumberMap.{NumberMap}
use Rattle.explain_findings.specs.LeftTables.{IsPlaced, at_place, left_kept}
use Rattle.explain_findings.specs.declared.left.Left.{Left}
use Rattle.explain_findings.specs.declared.left.LeftTable.{LeftTable}
use Rattle.explain_findings.proofs.Lists.{is_in, pushed_before, pushed_there, set_elsewhere, set_there}

some_in : {A : Type 0} (a b : A) → ◌≡◌ {A = Option A} (Some a) (Some b) → a ≡ b
some_in a b e = cc

-- ---- one line or another

differs : (line n : ℕ) → (line == n) ≡ false → line ≡ n → ⊥
differs line n other is = true≢false (sym (eq-eqb line n is) ∙ other)

only_one : (line n : ℕ) → among line 1 n ≡ (line == n)
only_one line n = elim (cases_eq line n) [
  | inl is ↦ in_among line 1 n (omega (arith, is)) (omega (arith, is)) ∙ sym (eq-eqb line n is)
  | inr ne ↦
      false_from_ne_true (among line 1 n)
      (λ e. let its = among_in line 1 n e in ne (omega (arith, its.0, its.1)))
      ∙ sym (false_from_ne_true (line == n) (λ e. ne (eqb-true line n e)))
]

pub on_its_line : {A : Type 0} (line n : ℕ) (a b other : A) → (line ≡ n → a ≡ b) → (if line == n then a else other) ≡ (if line == n then b else other)
on_its_line line n a b other same = go (line == n) refl where
  go : (z : Bool) → (line == n) ≡ z → (if z then a else other) ≡ (if z then b else other)
  go true is = same (eqb-true line n is)
  go false is = refl

pub either_way : {A : Type 0} (b : Bool) (a : A) → a ≡ (if b then a else a)
either_way true a = refl
either_way false a = refl

-- ---- a line that has a place

module _ (t : LeftTable) (placed : IsPlaced t) (line place : ℕ) (low : line < 2 ^ 32) (at : number_in t.places line ≡ Some place) where
  pub is_kept : (d : Left) → left_kept t line ≡ Some (get_or t.left.items place d)
  is_kept d = ap (at_place t.left.items) at ∙ slice_get-get_or t.left.items place d (placed.within line place low at)

  pub some_kept : (l : Left) × (left_kept t line ≡ Some l)
  some_kept = let its = is_in t.left.items place (placed.within line place low at) in (its.0, ap (at_place t.left.items) at ∙ its.1)

  -- with another value there
  pub changed : (x : Left) (n : ℕ) → n < 2 ^ 32 → at_place (slice_set t.left.items place x) (number_in t.places n) ≡ (if line == n then Some x else left_kept t n)
  changed x n n_low = go (line == n) refl where
    of_other : (line ≡ n → ⊥) → (o : Option ℕ) → number_in t.places n ≡ o → at_place (slice_set t.left.items place x) o ≡ at_place t.left.items o
    of_other other None is = refl
    of_other other (Some k) is = set_elsewhere t.left.items place k x (λ same. other (placed.own line n place low n_low at (is ∙ ap Some same)))

    go : (b : Bool) → (line == n) ≡ b → at_place (slice_set t.left.items place x) (number_in t.places n) ≡ (if b then Some x else left_kept t n)
    go true is =
        ap (λ k. at_place (slice_set t.left.items place x) (number_in t.places k)) (sym (eqb-true line n is))
        ∙ ap (at_place (slice_set t.left.items place x)) at ∙ set_there t.left.items place x (placed.within line place low at)
    go false is = of_other (differs line n is) (number_in t.places n) refl

-- ---- a line that gets a place

module _ (t : LeftTable) (placed : IsPlaced t) (line : ℕ) (x : Left) (places : NumberMap)
    (took : (n : ℕ) → n < 2 ^ 32 → number_in places n ≡ (if among line 1 n then Some (length t.left.items) else number_in t.places n)) where
  abbrev items : List Left
  items = t.left.items

  abbrev more : List Left
  more = t.left.items ++ x ∷ []

  there : (n : ℕ) → n < 2 ^ 32 → number_in places n ≡ (if line == n then Some (length items) else number_in t.places n)
  there n low = took n low ∙ ap (λ b. if b then Some (length items) else number_in t.places n) (only_one line n)

  pub put_kept : (n : ℕ) → n < 2 ^ 32 → at_place more (number_in places n) ≡ (if line == n then Some x else left_kept t n)
  put_kept n low = ap (at_place more) (there n low) ∙ go (line == n) where
    of_other : (o : Option ℕ) → number_in t.places n ≡ o → at_place more o ≡ at_place items o
    of_other None is = refl
    of_other (Some k) is = pushed_before items x k (placed.within n k low is)

    go : (b : Bool) → at_place more (if b then Some (length items) else number_in t.places n) ≡ (if b then Some x else left_kept t n)
    go true = pushed_there items x
    go false = of_other (number_in t.places n) refl

  many : length more ≡ length items + 1
  many = length-append items (x ∷ [])

  pub put_within : (n place : ℕ) → n < 2 ^ 32 → number_in places n ≡ Some place → place < length more
  put_within n place low is = go (line == n) (sym (there n low) ∙ is) where
    go : (b : Bool) → (if b then Some (length items) else number_in t.places n) ≡ Some place → place < length more
    go true e = let same = some_in (length items) place e in omega (arith, same, many)
    go false e = let old = placed.within n place low e in omega (arith, old, many)

  pub put_own : (n other place : ℕ) → n < 2 ^ 32 → other < 2 ^ 32 → number_in places n ≡ Some place → number_in places other ≡ Some place → n ≡ other
  put_own n other place low other_low is same = go (line == n) (line == other) refl refl (sym (there n low) ∙ is) (sym (there other other_low) ∙ same) where
    go : (b c : Bool) → (line == n) ≡ b → (line == other) ≡ c → (if b then Some (length items) else number_in t.places n) ≡ Some place →
        (if c then Some (length items) else number_in t.places other) ≡ Some place → n ≡ other
    go true true here too e f = sym (eqb-true line n here) ∙ eqb-true line other too
    go true false here too e f =
        let new = some_in (length items) place e in
        let old = placed.within other place other_low f in
        absurd (omega (arith, new, old))
    go false true here too e f =
        let new = some_in (length items) place f in
        let old = placed.within n place low e in
        absurd (omega (arith, new, old))
    go false false here too e f = placed.own n other place low other_low e f
