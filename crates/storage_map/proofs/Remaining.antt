-- A text that is put piece by piece: what was put up to now, and what remains.
use Rattle.std.proofs.Common.{◌≡◌, ℕ, ◌+◌, zero, suc, ◌-◌, ◌<◌, ◌≤◌, List, [], ◌∷◌, ◌++◌, length, drop, Option, Some, None, sym, ap, ◌∙◌, subst, append_assoc, arith}
use Rattle.std.specs.Prelude.{slice_get}
use Rattle.std.proofs.lemmas.List.{append-nil, drop_all}
use Rattle.std.proofs.lemmas.Option.{get_or_from_slice_get, slice_get_within}
use Rattle.std.proofs.Math.Seq.{drop-cons}
use Rattle.text_output.specs.Writing.{Puts}
use Rattle.text_output.specs.declared.writing.Gathered.{Gathered}
use Rattle.text_output.proofs.Gathering.{puts_both, puts_none}

-- a prefix of the whole text was put, and the rest remains
abbrev pub Remains : (old now : Option (List ℕ)) (before after : Gathered) (whole rest : List ℕ) → Type 0
Remains old now before after whole rest = (front : List ℕ) × (whole ≡ front ++ rest) × Puts old now before after front

-- at first all of it remains
pub remains_all : (now : Option (List ℕ)) (g : Gathered) (whole rest : List ℕ) → whole ≡ rest → Remains now now g g whole rest
remains_all now g whole rest e = ([], e, puts_none now g)

-- what is put no longer remains
pub remains_less : (old now new : Option (List ℕ)) (a b c : Gathered) (whole rest more behind : List ℕ) → Remains old now a b whole rest → rest ≡ more ++ behind →
    Puts now new b c more → Remains old new a c whole behind
remains_less old now new a b c whole rest more behind (front, e, h) is k = (
  front ++ more,
  e ∙ ap (λ (x : List ℕ). front ++ x) is ∙ sym (append_assoc front more behind),
  puts_both old now new a b c front more h k,
)

-- and if nothing remains all of it was put
pub all_put : (old now : Option (List ℕ)) (a b : Gathered) (whole rest : List ℕ) → Remains old now a b whole rest → rest ≡ [] → Puts old now a b whole
all_put old now a b whole rest (front, e, h) none = subst (Puts old now a b) (sym (e ∙ ap (λ (x : List ℕ). front ++ x) none ∙ append-nil front)) h

past_end : {A : Type 0} (xs : List A) (i : ℕ) → slice_get xs i ≡ None → length xs ≤ i
past_end [] i e = omega arith
past_end (x ∷ xs) zero e = cc
past_end (x ∷ xs) (suc i) e = (let k = past_end xs i e in omega (arith, k))

-- the items from an index on begin with that one
pub drop_next : {A : Type 0} (xs : List A) (i j : ℕ) (x : A) → slice_get xs i ≡ Some x → j ≡ i + 1 → drop i xs ≡ x ∷ drop j xs
drop_next {A} xs i j x h e = let same : suc i ≡ j = omega (arith, e) in
    drop-cons xs i x (slice_get_within xs i x h)
    ∙ ap (λ (y : A). y ∷ drop (suc i) xs) (get_or_from_slice_get xs i x x h)
    ∙ ap (λ (k : ℕ). x ∷ drop k xs) same

-- and if there is none, none follows it
pub drop_end : {A : Type 0} (xs : List A) (i : ℕ) → slice_get xs i ≡ None → drop i xs ≡ []
drop_end xs i h = drop_all i xs (past_end xs i h)

-- so fewer remain
pub fewer : {A : Type 0} (xs : List A) (i j : ℕ) (x : A) → slice_get xs i ≡ Some x → j ≡ i + 1 → length xs - j < length xs - i
fewer xs i j x h e = (let k = slice_get_within xs i x h in omega (arith, k, e))

pub shorter : {A : Type 0} (xs ys : List A) (x : A) → xs ≡ x ∷ ys → length ys < length xs
shorter xs ys x e = (let k = ap length e in omega (arith, k))
