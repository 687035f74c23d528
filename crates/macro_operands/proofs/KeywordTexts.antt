-- The keyword of an operand, by the name that the operand begins with.
use Rattle.std.proofs.Common.{◌≡◌, ℕ, ◌+◌, ◌<◌, ◌==◌, ◌&&◌, Bool, true, false, not, cond, if◌then◌else◌, nat_lt, List, [], ◌∷◌, length, get_or, take, Some, None, refl, sym, ap, ◌∙◌, subst, arith, inl, inr}
use Rattle.std.proofs.Math.Numerals.{one-add}
use Rattle.std.specs.List.{list_all, position_or_len}
use Rattle.std.proofs.lemmas.Bool.{cases_Bool, and_parts, and_from, lt-ltb, ltb-true, eq-eqb, eqb-true, not-false}
use Rattle.std.proofs.lemmas.Bool.Decides.{nat_tests}
use Rattle.std.proofs.lemmas.List.Sums.{prefix_len_stops}
use Rattle.operand_texts.specs.Words.{is_name_byte, is_name, name_bytes, name_len}
use Rattle.macro_operands.specs.Keywords.{is_keyword_operand, keyword_len}

-- the place of the first equals sign
abbrev equals_at : List ℕ → ℕ
equals_at t = position_or_len (λ c. c == 61) t

not_equals : (c : ℕ) → is_name_byte c ≡ true → (c == 61) ≡ false
not_equals c h = grind (arith, nat_tests)

no_name_byte : (c : ℕ) → (c == 61) ≡ true → is_name_byte c ≡ false
no_name_byte c h = grind (arith, nat_tests)

-- an equals sign after the bytes of names is the first one
equals_behind : (t : List ℕ) → name_bytes t < length t → get_or t (name_bytes t) 0 ≡ 61 → equals_at t ≡ name_bytes t
equals_behind [] h e = absurd (omega arith)
equals_behind (c ∷ cs) h e =
    let k : ℕ = name_bytes cs in
    elim (is_name_byte c) as (λ b. is_name_byte c ≡ b → cond b (1 + k) 0 < length (c ∷ cs) → get_or (c ∷ cs) (cond b (1 + k) 0) 0 ≡ 61
    → cond (not (c == 61)) (1 + equals_at cs) 0 ≡ cond b (1 + k) 0) [
      | true ↦ λ q below at.
          let here : get_or cs k 0 ≡ 61 = subst (λ m. get_or (c ∷ cs) m 0 ≡ 61) (one-add k) at in
          ap (λ b. cond (not b) (1 + equals_at cs) 0) (not_equals c q) ∙ ap (λ m. 1 + m) (equals_behind cs (omega arith) here)
      | false ↦ λ q below at. ap (λ b. cond (not b) (1 + equals_at cs) 0) (eq-eqb c 61 at)
    ] refl h e

-- a name before the first equals sign is all the bytes of names
name_before : (t : List ℕ) → equals_at t < length t → list_all is_name_byte (take (equals_at t) t) ≡ true → name_bytes t ≡ equals_at t
name_before [] h e = absurd (omega arith)
name_before (c ∷ cs) h e =
    let k : ℕ = equals_at cs in
    elim (c == 61) as (λ b. (c == 61) ≡ b → cond (not b) (1 + k) 0 < length (c ∷ cs) → list_all is_name_byte (take (cond (not b) (1 + k) 0) (c ∷ cs)) ≡ true
    → cond (is_name_byte c) (1 + name_bytes cs) 0 ≡ cond (not b) (1 + k) 0) [
      | true ↦ λ q below all. ap (λ b. cond b (1 + name_bytes cs) 0) (no_name_byte c q)
      | false ↦ λ q below all.
          let both = and_parts (is_name_byte c) (list_all is_name_byte (take k cs)) (subst (λ m. list_all is_name_byte (take m (c ∷ cs)) ≡ true) (one-add k) all) in
          ap (λ b. cond b (1 + name_bytes cs) 0) both.0 ∙ ap (λ m. 1 + m) (name_before cs (omega arith) both.1)
    ] refl h e

all_names : (text : List ℕ) → is_name text ≡ true → list_all is_name_byte text ≡ true
all_names text h = (and_parts _ (list_all is_name_byte text) h).1

-- what a keyword operand begins with
record Begins (t : List ℕ) : Type 0 where
  same : name_bytes t ≡ equals_at t
  named : is_name (take (name_bytes t) t) ≡ true
  below : name_bytes t < length t
  equals : get_or t (name_bytes t) 0 ≡ 61

begins : (t : List ℕ) → is_keyword_operand t ≡ true → Begins t
begins t h =
    let both = and_parts (nat_lt (equals_at t) (length t)) (is_name (take (equals_at t) t)) h in
    let inside : equals_at t < length t = ltb-true (equals_at t) (length t) both.0 in
    let same = name_before t inside (all_names (take (equals_at t) t) both.1) in
    record {
      same = same;
      named = ap (λ k. is_name (take k t)) same ∙ both.1;
      below = omega (arith, same, inside);
      equals = ap (λ k. get_or t k 0) same ∙ eqb-true _ 61 (not-false _ (prefix_len_stops (λ c. not (c == 61)) t 0 inside));
    }

some_parts : (b : Bool) (k n : ℕ) → (if b then Some k else None) ≡ Some n → (b ≡ true) × (k ≡ n)
some_parts true k n h = (refl, cc)
some_parts false k n h = cc

none_part : (b : Bool) (k : ℕ) → (if b then Some k else None) ≡ None → b ≡ false
none_part true k h = cc
none_part false k h = refl

none_from : (t : List ℕ) → (is_keyword_operand t ≡ true → is_keyword_operand t ≡ false) → None ≡ keyword_len t
none_from t h =
    let none : is_keyword_operand t ≡ false = elim (cases_Bool (is_keyword_operand t)) [ inl keyed ↦ h keyed | inr plain ↦ plain ] in
    sym (ap (λ b. if b then Some (equals_at t) else None) none)

pub keyword_is : (t : List ℕ) (n : ℕ) → Some n ≡ name_len t → n < length t → get_or t n 0 ≡ 61 → Some n ≡ keyword_len t
keyword_is t n h below at =
    let parts = some_parts (is_name (take (name_bytes t) t)) (name_bytes t) n (sym h) in
    let same : equals_at t ≡ n = equals_behind t (omega (arith, parts.1)) (ap (λ k. get_or t k 0) parts.1 ∙ at) ∙ parts.1 in
    let named : is_name (take n t) ≡ true = ap (λ k. is_name (take k t)) (sym parts.1) ∙ parts.0 in
    sym (ap (λ k. if nat_lt k (length t) && is_name (take k t) then Some k else None) same
    ∙ ap (λ b. if b then Some n else None) (and_from _ _ (lt-ltb n (length t) below) named))

pub no_name : (t : List ℕ) → None ≡ name_len t → None ≡ keyword_len t
no_name t h = none_from t (λ is. let e = none_part (is_name (take (name_bytes t) t)) (name_bytes t) (sym h) in let b = (begins t is).named in cc)

pub no_equals : (t : List ℕ) (n : ℕ) → Some n ≡ name_len t → (n < length t → (get_or t n 0 == 61) ≡ false) → None ≡ keyword_len t
no_equals t n h other =
    none_from t (λ is.
    let b = begins t is in
    let parts = some_parts (is_name (take (name_bytes t) t)) (name_bytes t) n (sym h) in
    let not_here = other (omega (arith, b.below, parts.1)) in
    let here : (get_or t n 0 == 61) ≡ true = eq-eqb _ 61 (ap (λ k. get_or t k 0) (sym parts.1) ∙ b.equals) in
    cc)
