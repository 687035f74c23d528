-- A text is scanned byte by byte; bytes above those that delimit a field change nothing.
use Rattle.std.proofs.Common.{◌≡◌, ℕ, ◌+◌, ◌<◌, ◌≤◌, ◌==◌, Bool, true, false, not, ◌&&◌, List, ◌∷◌, length, drop, get_or, if◌then◌else◌, arith, refl, sym, ap, ◌∙◌}
use Rattle.std.proofs.lemmas.List.{drop_more, at_drop_all}
use Rattle.std.proofs.lemmas.Bool.Decides.{nat_tests}
use Rattle.operand_texts.specs.declared.nesting.Nesting.{Nesting}
use Rattle.operand_texts.specs.Field.{past, field_len, is_balanced, operand_len}
use Rattle.operand_texts.specs.Runs.{AreAbove}
use Rattle.operand_texts.proofs.RunBytes.{handed_on}

apart : (c d : ℕ) → d < c → (c == d) ≡ false
apart c d h = grind (arith, nat_tests)

same_either : (b : Bool) (n : Nesting) → (if b then n else n) ≡ n
same_either true n = refl
same_either false n = refl

pub past_above : (n : Nesting) (c : ℕ) → 41 < c → past n c ≡ n
past_above n c h =
    let a : (c == 39) ≡ false = apart c 39 (omega (arith, h)) in
    let b : (c == 40) ≡ false = apart c 40 (omega (arith, h)) in
    let d : (c == 41) ≡ false = apart c 41 h in
    rw (a, b, d) (same_either n.quoted n)

pub above_balanced : (n : Nesting) (c : ℕ) (cs : List ℕ) → 41 < c → is_balanced n (c ∷ cs) ≡ is_balanced n cs
above_balanced n c cs h = ap (λ m. is_balanced m cs) (past_above n c h)

pub above_field : (n : Nesting) (c : ℕ) (cs : List ℕ) → 41 < c → field_len n (c ∷ cs) ≡ 1 + field_len n cs
above_field n c cs h =
    ap (λ b. if b && not n.quoted then 0 else 1 + field_len (past n c) cs) (apart c 32 (omega (arith, h))) ∙ ap (λ m. 1 + field_len m cs) (past_above n c h)

pub above_operand : (n : Nesting) (c : ℕ) (cs : List ℕ) → 44 < c → operand_len n (c ∷ cs) ≡ 1 + operand_len n cs
above_operand n c cs h =
    ap (λ b. if b && not n.quoted && (n.depth == 0) then 0 else 1 + operand_len (past n c) cs) (apart c 44 h)
    ∙ ap (λ m. 1 + operand_len m cs) (past_above n c (omega (arith, h)))

-- a depth is at most the number of bytes that were passed, or at most that number above the depth at the start
pub as_deep : (n i : ℕ) → n ≤ i → n ≤ i + 1
as_deep n i h = omega arith

pub deeper : (m n i : ℕ) → m ≤ n + 1 → n ≤ i → m ≤ i + 1
deeper m n i h k = omega arith

pub as_deep_behind : (n start i : ℕ) → n ≤ start + i → n ≤ start + (i + 1)
as_deep_behind n start i h = omega arith

pub deeper_behind : (m n start i : ℕ) → m ≤ n + 1 → n ≤ start + i → m ≤ start + (i + 1)
deeper_behind m n start i h k = omega arith

-- one more byte of a text that is balanced or not
pub balanced_passes : (n : Nesting) (t : List ℕ) (i : ℕ) → i < length t → 41 < get_or t i 0 → is_balanced n (drop (i + 1) t) ≡ is_balanced n (drop i t)
balanced_passes n t i h k = sym (ap (is_balanced n) (drop_more t i 0 h) ∙ above_balanced n (get_or t i 0) (drop (i + 1) t) k)

pub balanced_goes_on : (n m : Nesting) (t : List ℕ) (i : ℕ) → i < length t → m ≡ past n (get_or t i 0)
    → is_balanced m (drop (i + 1) t) ≡ is_balanced n (drop i t)
balanced_goes_on n m t i h e = ap (λ x. is_balanced x (drop (i + 1) t)) e ∙ sym (ap (is_balanced n) (drop_more t i 0 h))

counted : (i a b all : ℕ) → a ≡ 1 + b → i + a ≡ all → i + 1 + b ≡ all
counted i a b all h k = omega arith

ended : (i a all : ℕ) → a ≡ 0 → i + a ≡ all → i ≡ all
ended i a all h k = omega arith

-- one more byte of a text whose field ends at this place
pub field_passes : (n : Nesting) (t : List ℕ) (i all : ℕ) → i < length t → 41 < get_or t i 0 → i + field_len n (drop i t) ≡ all → i + 1 + field_len n (drop (i + 1) t) ≡ all
field_passes n t i all h k e = counted i _ _ all (ap (field_len n) (drop_more t i 0 h) ∙ above_field n (get_or t i 0) (drop (i + 1) t) k) e

pub field_goes_on : (n m : Nesting) (t : List ℕ) (i all : ℕ) → i < length t → m ≡ past n (get_or t i 0) → (get_or t i 0 == 32 && not n.quoted) ≡ false
    → i + field_len n (drop i t) ≡ all → i + 1 + field_len m (drop (i + 1) t) ≡ all
field_goes_on n m t i all h p k e =
    counted i _ _ all
    (ap (field_len n) (drop_more t i 0 h)
    ∙ ap (λ b. if b then 0 else 1 + field_len (past n (get_or t i 0)) (drop (i + 1) t)) k ∙ ap (λ x. 1 + field_len x (drop (i + 1) t)) (sym p)) e

pub field_ends : (n : Nesting) (t : List ℕ) (i all : ℕ) → i < length t → (get_or t i 0 == 32 && not n.quoted) ≡ true → i + field_len n (drop i t) ≡ all → i ≡ all
field_ends n t i all h k e =
    ended i _ all (ap (field_len n) (drop_more t i 0 h) ∙ ap (λ b. if b then 0 else 1 + field_len (past n (get_or t i 0)) (drop (i + 1) t)) k) e

-- one more byte of a text whose first operand ends at this place
pub operand_passes : (n : Nesting) (t : List ℕ) (i all : ℕ) → i < length t → 44 < get_or t i 0 → i + operand_len n (drop i t) ≡ all → i + 1 + operand_len n (drop (i + 1) t) ≡ all
operand_passes n t i all h k e = counted i _ _ all (ap (operand_len n) (drop_more t i 0 h) ∙ above_operand n (get_or t i 0) (drop (i + 1) t) k) e

pub operand_goes_on : (n m : Nesting) (t : List ℕ) (i all : ℕ) → i < length t → m ≡ past n (get_or t i 0) → (get_or t i 0 == 44 && not n.quoted && (n.depth == 0)) ≡ false
    → i + operand_len n (drop i t) ≡ all → i + 1 + operand_len m (drop (i + 1) t) ≡ all
operand_goes_on n m t i all h p k e =
    counted i _ _ all
    (ap (operand_len n) (drop_more t i 0 h)
    ∙ ap (λ b. if b then 0 else 1 + operand_len (past n (get_or t i 0)) (drop (i + 1) t)) k ∙ ap (λ x. 1 + operand_len x (drop (i + 1) t)) (sym p)) e

pub operand_ends : (n : Nesting) (t : List ℕ) (i all : ℕ) → i < length t → (get_or t i 0 == 44 && not n.quoted && (n.depth == 0)) ≡ true → i + operand_len n (drop i t) ≡ all → i ≡ all
operand_ends n t i all h k e =
    ended i _ all (ap (operand_len n) (drop_more t i 0 h) ∙ ap (λ b. if b then 0 else 1 + operand_len (past n (get_or t i 0)) (drop (i + 1) t)) k) e

-- bytes above at once
pub field_skips : (n : Nesting) (t : List ℕ) (i j all : ℕ) → i ≤ j → j ≤ length t → AreAbove 41 t i j → i + field_len n (drop i t) ≡ all → j + field_len n (drop j t) ≡ all
field_skips n t i j all h within above e =
    handed_on (λ k. k + field_len n (drop k t) ≡ all) i j h (λ k from below q. field_passes n t k all (omega arith) (above k from below) q) e

pub operand_skips : (n : Nesting) (t : List ℕ) (i j all : ℕ) → i ≤ j → j ≤ length t → AreAbove 44 t i j → i + operand_len n (drop i t) ≡ all → j + operand_len n (drop j t) ≡ all
operand_skips n t i j all h within above e =
    handed_on (λ k. k + operand_len n (drop k t) ≡ all) i j h (λ k from below q. operand_passes n t k all (omega arith) (above k from below) q) e

-- no byte is left
pub field_over : (n : Nesting) (t : List ℕ) (i all : ℕ) → length t ≤ i → i + field_len n (drop i t) ≡ all → i ≡ all
field_over n t i all h e = ended i _ all (at_drop_all (field_len n) t i h) e

pub operand_over : (n : Nesting) (t : List ℕ) (i all : ℕ) → length t ≤ i → i + operand_len n (drop i t) ≡ all → i ≡ all
operand_over n t i all h e = ended i _ all (at_drop_all (operand_len n) t i h) e
