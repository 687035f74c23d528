-- All of a script is read, if the bytes of its reader are known; and what a search for a byte X'00' finds.
use Rattle.std.proofs.Common.{◌≡◌, ◌==◌, Bool, true, false, refl, sym, get_or, is_some, ◌≤◌, ◌+◌, ℕ, List, [], ◌++◌, Option, Some, None, inl, inr, arith, ap, length, subst, take, ◌∙◌}
use Rattle.std.proofs.lemmas.Bool.{cases_lt}
use Rattle.std.proofs.lemmas.List.{get_or_default, length-take-le, take_all}
use Rattle.std.proofs.lemmas.List.Folds.{list_any_at, list_any_none}
use Rattle.memchr.specs.Find.{IsFirstByte, is_byte}
use Rattle.vsm_explain.specs.Scripts.{IsAll, has_zero}
use Rattle.std.specs.Prelude.{IfSome, option_map}

pub all_read : (left : Option (List ℕ)) (most : ℕ) (items : List ℕ) → IfSome (option_map (take (most + 1)) left) (λ xs. items ≡ [] ++ xs) → length items ≤ most
    → IfSome left (λ text. items ≡ text)
all_read None most items h few = h
all_read (Some text) most items h few =
    elim (cases_lt most (length text)) [
      | inl long ↦
          let size : length items ≡ most + 1 = ap length h ∙ length-take-le (most + 1) text (omega (arith, long)) in absurd (omega (arith, size, few))
      | inr short ↦ h ∙ take_all (most + 1) text (omega (arith, short))
    ]

-- the same of a reader that is limited
pub all_taken : (left rest : Option (List ℕ)) (limit : ℕ) (old bytes : List ℕ) → old ≡ [] → limit ≡ 268435457 → rest ≡ left
    → IfSome (option_map (take limit) rest) (λ xs. bytes ≡ old ++ xs) → length bytes ≤ 268435456 → IsAll left bytes
all_taken left rest limit old bytes none is same h few =
    all_read left 268435456 bytes
    (subst (λ o. IfSome (option_map (take 268435457) left) (λ xs. bytes ≡ o ++ xs)) none
    (subst (λ n. IfSome (option_map (take n) left) (λ xs. bytes ≡ old ++ xs)) is (subst (λ r. IfSome (option_map (take limit) r) (λ xs. bytes ≡ old ++ xs)) same h)))
    few

not_true : (b : Bool) → (b ≡ true → ⊥) → b ≡ false
not_true true h = absurd (h refl)
not_true false h = refl

-- a search for a byte X'00' finds one exactly if there's one
pub zero_found : (script : List ℕ) (place : Option ℕ) → IsFirstByte (is_byte 0) script place → is_some place ≡ has_zero script
zero_found script None none =
    sym (list_any_none (λ byte. byte == 0) script (λ k d within. ap (λ x. x == 0) (get_or_default script k d 0 within) ∙ not_true (get_or script k 0 == 0) (none k (omega arith) within)))
zero_found script (Some k) (at, is) = sym (list_any_at (λ byte. byte == 0) script k 0 at.high is)
