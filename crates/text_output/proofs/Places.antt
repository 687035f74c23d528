-- Texts that are written over places.
use Rattle.std.proofs.Common.{◌≡◌, ℕ, suc, codes, min, ◌+◌, ◌≤◌, List, [], ◌∷◌, ◌++◌, length, take, drop, set, sym, ◌∙◌, ap, arith, append_assoc}
use Rattle.std.proofs.Math.Seq.{drop-append_seam}
use Rattle.std.proofs.lemmas.Grind.{drop-set_at}
use Rattle.std.proofs.lemmas.List.{take-append-le, take-take, length-take, length-take-le, set_comm, set_split, take-set-le, length-set}

-- what is left of the places before and from a place on, once a text is written from there up to another place
before_text : (places text : List ℕ) (a b c : ℕ) → a ≤ b → b ≤ length places → take a (take b places ++ text ++ drop c places) ≡ take a places
before_text places text a b c within room =
    let front = take b places in
    let long : length front ≡ b = length-take-le b places room in
    ap (take a) (append_assoc front text (drop c places)) ∙ take-append-le a front (text ++ drop c places) (omega (arith, long, within))
    ∙ take-take a b places within

from_text : (places text : List ℕ) (b c : ℕ) → b ≤ length places → drop b (take b places ++ text ++ drop c places) ≡ text ++ drop c places
from_text places text b c room =
    let front = take b places in
    let long : length front ≡ b = length-take-le b places room in
    ap (drop b) (append_assoc front text (drop c places)) ∙ ap (λ n. drop n (front ++ (text ++ drop c places))) (sym long)
    ∙ drop-append_seam front (text ++ drop c places)

-- A text is written before another one: both are written as one text.
text_before : (places first second : List ℕ) (a b c : ℕ) → a ≤ b → b ≤ length places
    → take a (take b places ++ second ++ drop c places) ++ first ++ drop b (take b places ++ second ++ drop c places)
    ≡ take a places ++ (first ++ second) ++ drop c places
text_before places first second a b c within room =
    (λ i. before_text places second a b c within room i ++ first ++ from_text places second b c room i)
    ∙ sym (append_assoc (take a places ++ first) second (drop c places))
    ∙ ap (λ x. x ++ drop c places) (append_assoc (take a places) first second)

-- The same of places that were written twice.
pub written_before : (places now new first second : List ℕ) (a b c d : ℕ) → a ≤ b → b ≤ length places → c ≡ b
    → now ≡ take b places ++ second ++ drop d places → new ≡ take a now ++ first ++ drop c now → new ≡ take a places ++ (first ++ second) ++ drop d places
written_before places now new first second a b c d within room same is then =
    then ∙ (λ i. take a (is i) ++ first ++ drop (same i) (is i)) ∙ text_before places first second a b d within room

-- Two bytes that are set one after the other are a text that is written.
pub two_set : (places : List ℕ) (from a b : ℕ) → from + 2 ≤ length places → set (set places from a) (from + 1) b ≡ take from places ++ (a ∷ b ∷ []) ++ drop (from + 2) places
two_set places from a b room =
    let once = set places (from + 1) b in
    let long : length once ≡ length places = length-set places (from + 1) b in
    let next : from + 1 + 1 ≡ from + 2 = omega arith in
    set_comm places from (from + 1) a b (λ e. omega (arith, e))
    ∙ set_split once from a (omega (arith, long, room))
    ∙ ap (λ x. x ++ a ∷ drop (suc from) once) (take-set-le from places (from + 1) b (omega arith))
    ∙ ap (λ x. take from places ++ a ∷ x) (drop-set_at places (from + 1) (suc from) b (omega arith) (omega (arith, room)) ∙ ap (λ n. b ∷ drop n places) next)
    ∙ sym (append_assoc (take from places) (a ∷ b ∷ []) (drop (from + 2) places))

-- at least ten places, if these are the first ten
pub ten_long : (places : List ℕ) → take 10 places ≡ codes "0000000000" → 10 ≤ length places
ten_long places is =
    let few : length (take 10 places) ≡ min 10 (length places) = length-take 10 places in
    let ten : length (take 10 places) ≡ 10 = ap length is in
    omega (arith, few, ten)
