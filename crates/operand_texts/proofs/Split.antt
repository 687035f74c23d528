-- The first operand of a field, and those after it.
use Rattle.std.proofs.lemmas.List.{take_rest, take_all}
use Rattle.std.proofs.lemmas.Bool.{cases_lt}
use Rattle.std.proofs.Common.{inl, inr, ◌-◌, ◌≡◌, ℕ, suc, ◌+◌, ◌<◌, ◌≤◌, List, [], ◌∷◌, length, take, drop, cond, true, false, refl, arith}
use Rattle.std.proofs.Math.Numerals.{one-add, add-one}
use Rattle.operand_texts.specs.declared.nesting.Nesting.{Nesting}
use Rattle.operand_texts.specs.Field.{outside, past, separates, operand_len, operands_from, onto}

-- one more byte at the start
step : (c : ℕ) (cs : List ℕ) (k : ℕ) (os : List (List ℕ)) → os ≡ take k cs ∷ operands_from outside (drop (k + 1) cs)
    → onto c os ≡ take (1 + k) (c ∷ cs) ∷ operands_from outside (drop (1 + k + 1) (c ∷ cs))
step c cs k os e = rw (e, one-add k, add-one k, add-one (suc k)) refl

pub first_of : (n : Nesting) (t : List ℕ) → operand_len n t < length t
    → operands_from n t ≡ take (operand_len n t) t ∷ operands_from outside (drop (operand_len n t + 1) t)
first_of n [] h = absurd (omega arith)
first_of n (c ∷ cs) h =
    let k : ℕ = operand_len (past n c) cs in
    elim (separates n c) as (λ b. cond b 0 (1 + k) < length (c ∷ cs)
    → cond b ([] ∷ operands_from outside cs) (onto c (operands_from (past n c) cs))
    ≡ take (cond b 0 (1 + k)) (c ∷ cs) ∷ operands_from outside (drop (cond b 0 (1 + k) + 1) (c ∷ cs))) [
      | true ↦ λ _. refl
      | false ↦ λ below. step c cs k _ (first_of (past n c) cs (omega arith))
    ] h

pub last_of : (n : Nesting) (t : List ℕ) → length t ≤ operand_len n t → operands_from n t ≡ t ∷ []
last_of n [] h = refl
last_of n (c ∷ cs) h =
    let k : ℕ = operand_len (past n c) cs in
    elim (separates n c) as (λ b. length (c ∷ cs) ≤ cond b 0 (1 + k)
    → cond b ([] ∷ operands_from outside cs) (onto c (operands_from (past n c) cs)) ≡ (c ∷ cs) ∷ []) [
      | true ↦ λ below. absurd (omega arith)
      | false ↦ λ below. rw (last_of (past n c) cs (omega arith)) refl
    ] h

-- the same at a number that is that length, and at the slice after it
pub first_at : (t : List ℕ) (n : ℕ) → n ≡ operand_len outside t → n < length t
    → operands_from outside t ≡ take n t ∷ operands_from outside (take (length t - (n + 1)) (drop (n + 1) t))
first_at t n e h = rw (take_rest t (n + 1), e) (first_of outside t (omega arith))

pub last_at : (t : List ℕ) (n : ℕ) → n ≡ operand_len outside t → length t ≤ n → operands_from outside t ≡ take n t ∷ []
last_at t n e h = rw (take_all n t h) (last_of outside t (omega arith))

pub some_at : (t : List ℕ) (n : ℕ) → n ≡ operand_len outside t → (rest : List (List ℕ)) × (operands_from outside t ≡ take n t ∷ rest)
some_at t n e = elim (cases_lt n (length t)) [ inl below ↦ (_, first_at t n e below) | inr past ↦ (_, last_at t n e past) ]
