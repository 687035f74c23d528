-- The bytes that hexadecimal digits spell, pair by pair.
use Rattle.std.proofs.Common.{◌≡◌, ℕ, ◌+◌, ◌-◌, ◌*◌, ◌%◌, ◌<◌, Bool, true, false, ◌&&◌, List, [], ◌∷◌, ◌++◌, length, drop, get_or, slice_range, if◌then◌else◌, Option, Some, None, is_some, refl, ap, sym, ◌∙◌, append_assoc, arith}
use Rattle.std.specs.Option.{option_map}
use Rattle.std.proofs.lemmas.List.{drop_more}
use Rattle.std.specs.List.{list_all}
use Rattle.std.specs.Char.{is_digit, digit_value}
use Rattle.operand_texts.specs.Written.{Written, spelled, word}
use Rattle.operand_texts.specs.Values.{byte_of, onto_bytes, hex_bytes, spelled_bytes, is_quoted, word_of, content_of}

-- the two digits of a pair, and those after it
two_more : (t : List ℕ) (i : ℕ) → 2 * i + 1 < length t
    → drop (2 * i) t ≡ get_or t (2 * i) 0 ∷ get_or t (2 * i + 1) 0 ∷ drop (2 * (i + 1)) t
two_more t i h =
    let next : 2 * i + 1 + 1 ≡ 2 * (i + 1) = omega arith in
    drop_more t (2 * i) 0 (omega arith)
    ∙ ap (λ x. get_or t (2 * i) 0 ∷ x) (drop_more t (2 * i + 1) 0 h)
    ∙ ap (λ k. get_or t (2 * i) 0 ∷ get_or t (2 * i + 1) 0 ∷ drop k t) next

pushed : (bytes : List ℕ) (b : ℕ) (rest : Option (List ℕ))
    → option_map (λ bs. (bytes ++ b ∷ []) ++ bs) rest ≡ option_map (λ bs. bytes ++ bs) (onto_bytes (Some b) rest)
pushed bytes b None = refl
pushed bytes b (Some bs) = ap (λ x. Some x) (append_assoc bytes (b ∷ []) bs)

-- a pair that spells a byte
pub hex_more : (t : List ℕ) (i b : ℕ) (bytes : List ℕ) (all : Option (List ℕ)) → 2 * i + 1 < length t
    → Some b ≡ byte_of (get_or t (2 * i) 0) (get_or t (2 * i + 1) 0) → option_map (λ bs. bytes ++ bs) (hex_bytes (drop (2 * i) t)) ≡ all
    → option_map (λ bs. (bytes ++ b ∷ []) ++ bs) (hex_bytes (drop (2 * (i + 1)) t)) ≡ all
hex_more t i b bytes all h e k =
    pushed bytes b (hex_bytes (drop (2 * (i + 1)) t))
    ∙ ap (λ o. option_map (λ bs. bytes ++ bs) (onto_bytes o (hex_bytes (drop (2 * (i + 1)) t)))) e
    ∙ ap (λ x. option_map (λ bs. bytes ++ bs) (hex_bytes x)) (sym (two_more t i h)) ∙ k

-- digits that spell bytes, pair by pair
onto_some : (x y : Bool) (n : ℕ) (rest : Option (List ℕ)) → is_some (onto_bytes (if x && y then Some n else None) rest) ≡ (x && (y && is_some rest))
onto_some true true n None = refl
onto_some true true n (Some bs) = refl
onto_some true false n rest = refl
onto_some false y n rest = refl

pub hex_digits : (t : List ℕ) → length t % 2 ≡ 0 → list_all (λ c. is_digit c 16) t ≡ is_some (hex_bytes t)
hex_digits [] h = refl
hex_digits (a ∷ []) h = absurd (omega (arith, h))
hex_digits (a ∷ b ∷ t) h =
    let more : length t % 2 ≡ 0 = omega (arith, h) in
    ap (λ x. is_digit a 16 && (is_digit b 16 && x)) (hex_digits t more)
    ∙ sym (onto_some (is_digit a 16) (is_digit b 16) (16 * digit_value a + digit_value b) (hex_bytes t))

some_spelled : (r : Option (List ℕ)) → is_some r ≡ is_some (option_map spelled r)
some_spelled None = refl
some_spelled (Some bs) = refl

some_word : (r : Option Written) → is_some r ≡ is_some (option_map word r)
some_word None = refl
some_word (Some v) = refl

-- what is stored, by what is read of it
pub quoted_content : (t : List ℕ) → is_quoted 88 t ≡ true → is_some (spelled_bytes (slice_range t 2 (length t - 1))) ≡ is_some (content_of t)
quoted_content t h = rw h (some_spelled (spelled_bytes (slice_range t 2 (length t - 1))))

pub word_content : (t : List ℕ) → is_quoted 88 t ≡ false → is_some (word_of t) ≡ is_some (content_of t)
word_content t h = rw h (some_word (word_of t))
