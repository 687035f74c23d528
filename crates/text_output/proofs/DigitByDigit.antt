-- Numbers digit by digit.
use Rattle.std.proofs.Common.{◌≡◌, ℕ, zero, suc, ◌+◌, ◌-◌, ◌*◌, ◌/◌, ◌%◌, ◌^◌, ◌<◌, ◌≤◌, ◌⊎◌, inl, inr, true, false, cond, List, [], ◌∷◌, ◌++◌, length, take, drop, set, get_or, min, replicate, subst, sym, ◌∙◌, ap, refl, arith, append_assoc}
use Rattle.std.proofs.Math.Seq.{take-append_seam}
use Rattle.std.proofs.lemmas.Bool.{cases_lt, eq-eqb, ne_eqb}
use Rattle.std.proofs.lemmas.Fmt.{hex_byte}
use Rattle.std.proofs.lemmas.Grind.{flat_map-append}
use Rattle.std.proofs.lemmas.List.{append-nil, length-append, length-take-le, drop-set, take-append-drop, take_more, replicate-append-replicate, length-replicate}
use Rattle.std.specs.Fmt.{decimal, digits, digits_onto, digit_glyph, padded_integral, format_spec, char_count}
use Rattle.std.specs.List.{flat_map}
use Rattle.vsm_model.specs.Texts.{hexadecimal, padded_decimal}

abbrev spell : ℕ → ℕ → List ℕ → List ℕ
spell k n acc = digits_onto k 16 true n acc

abbrev glyph : ℕ → ℕ
glyph n = digit_glyph true (n % 16)

spell_last : (k n : ℕ) (acc : List ℕ) → n < 16 → spell (suc k) n acc ≡ glyph n ∷ acc
spell_last k n acc h = ap (λ t. cond t (glyph n ∷ acc) (spell k (n / 16) (glyph n ∷ acc))) (eq-eqb (n / 16) 0 (omega arith))

spell_next : (k n : ℕ) (acc : List ℕ) → 16 ≤ n → spell (suc k) n acc ≡ spell k (n / 16) (glyph n ∷ acc)
spell_next k n acc h = ap (λ t. cond t (glyph n ∷ acc) (spell k (n / 16) (glyph n ∷ acc))) (ne_eqb (n / 16) 0 (λ e. omega arith))

spell-append : (k n : ℕ) (acc : List ℕ) → spell k n acc ≡ spell k n [] ++ acc
spell-append zero n acc = refl
spell-append (suc k) n acc = elim (cases_lt n 16) [
  | inl l ↦ spell_last k n acc l ∙ ap (λ x. x ++ acc) (sym (spell_last k n [] l))
  | inr l ↦
      spell_next k n acc l ∙ spell-append k (n / 16) (glyph n ∷ acc) ∙ sym (append_assoc (spell k (n / 16) []) (glyph n ∷ []) acc)
      ∙ ap (λ x. x ++ acc) (sym (spell_next k n [] l ∙ spell-append k (n / 16) (glyph n ∷ [])))
]

-- the most digits do not matter once they are enough
spell_enough : (j k n : ℕ) (acc : List ℕ) → n < 16 ^ suc j → n < 16 ^ suc k → spell (suc j) n acc ≡ spell (suc k) n acc
spell_enough zero k n acc p q = spell_last zero n acc (omega arith) ∙ sym (spell_last k n acc (omega arith))
spell_enough (suc j) zero n acc p q = spell_last (suc j) n acc (omega arith) ∙ sym (spell_last zero n acc (omega arith))
spell_enough (suc j) (suc k) n acc p q = elim (cases_lt n 16) [
  | inl l ↦ spell_last (suc j) n acc l ∙ sym (spell_last (suc k) n acc l)
  | inr l ↦ spell_next (suc j) n acc l ∙ spell_enough j k (n / 16) (glyph n ∷ acc) (omega arith) (omega arith) ∙ sym (spell_next (suc k) n acc l)
]

spelled : (n : ℕ) → spell 64 n [] ≡ digits 16 true n
unfolding digits
spelled n = refl

digits_one : (n : ℕ) → n < 16 → digits 16 true n ≡ glyph n ∷ []
digits_one n small = sym (spelled n) ∙ spell_last 63 n [] small

digits_more : (n : ℕ) → 16 ≤ n → n < 16 ^ 63 → digits 16 true n ≡ digits 16 true (n / 16) ++ glyph n ∷ []
digits_more n large small =
    sym (spelled n) ∙ spell_next 63 n [] large ∙ spell_enough 62 63 (n / 16) (glyph n ∷ []) (omega arith) (omega arith)
    ∙ spell-append 64 (n / 16) (glyph n ∷ []) ∙ ap (λ x. x ++ glyph n ∷ []) (spelled (n / 16))

abbrev pub zeros : ℕ → List ℕ
zeros k = replicate k 48

zeros_push : (k : ℕ) → zeros (suc k) ≡ zeros k ++ 48 ∷ []
zeros_push zero = refl
zeros_push (suc k) = ap (λ x. 48 ∷ x) (zeros_push k)

-- leading zeros precede the digits
pub with_zeros : (width : ℕ) (numeral : List ℕ) → padded_integral (format_spec 32 0 4 width (2 ^ 64 - 1)) false [] numeral ≡ zeros (width - length numeral) ++ numeral
unfolding padded_integral char_count
with_zeros width numeral =
    let short : width - length numeral - 0 - 0 ≡ width - length numeral = omega arith in
    ap (λ k. zeros k ++ (numeral ++ [])) short ∙ ap (λ x. zeros (width - length numeral) ++ x) (append-nil numeral)

-- the same of digits that are known
filled : (width n : ℕ) (ds : List ℕ) → digits 16 true n ≡ ds → hexadecimal width n ≡ zeros (width - length ds) ++ ds
filled width n ds is = with_zeros width (digits 16 true n) ∙ ap (λ d. zeros (width - length d) ++ d) is

-- One digit, if neither zeros nor digits precede it,
pub hexadecimal_one : (width n : ℕ) → width ≤ 1 → n < 16 → hexadecimal width n ≡ glyph n ∷ []
hexadecimal_one width n narrow small =
    let none : width - 1 ≡ 0 = omega arith in
    filled width n (glyph n ∷ []) (digits_one n small) ∙ ap (λ k. zeros k ++ glyph n ∷ []) none

hexadecimal_small : (width n : ℕ) → 1 < width → n < 16 → hexadecimal width n ≡ hexadecimal (width - 1) (n / 16) ++ glyph n ∷ []
hexadecimal_small width n wide small =
    let high : n / 16 ≡ 0 = omega arith in
    let one_more : width - 1 ≡ suc (width - 1 - 1) = omega arith in
    let front : hexadecimal (width - 1) (n / 16) ≡ zeros (width - 1 - 1) ++ 48 ∷ [] =
    ap (hexadecimal (width - 1)) high ∙ filled (width - 1) 0 (48 ∷ []) (digits_one 0 (omega arith)) in
    filled width n (glyph n ∷ []) (digits_one n small)
    ∙ ap (λ k. zeros k ++ glyph n ∷ []) one_more
    ∙ ap (λ z. z ++ glyph n ∷ []) (zeros_push (width - 1 - 1) ∙ sym front)

hexadecimal_large : (width n : ℕ) → 16 ≤ n → n < 16 ^ 63 → hexadecimal width n ≡ hexadecimal (width - 1) (n / 16) ++ glyph n ∷ []
hexadecimal_large width n large small =
    let front = digits 16 true (n / 16) in
    let size = length-append front (glyph n ∷ []) in
    let shorter : width - length (front ++ glyph n ∷ []) ≡ width - 1 - length front = omega (arith, size) in
    filled width n (front ++ glyph n ∷ []) (digits_more n large small)
    ∙ ap (λ k. zeros k ++ (front ++ glyph n ∷ [])) shorter
    ∙ sym (append_assoc (zeros (width - 1 - length front)) front (glyph n ∷ []))
    ∙ ap (λ z. z ++ glyph n ∷ []) (sym (with_zeros (width - 1) front))

-- and otherwise the last digit after the others.
pub hexadecimal_more : (width n : ℕ) → (1 < width) ⊎ (16 ≤ n) → n < 2 ^ 32 → hexadecimal width n ≡ hexadecimal (width - 1) (n / 16) ++ glyph n ∷ []
hexadecimal_more width n some small = elim (cases_lt n 16) [
  | inl less ↦ elim some [
    | inl wide ↦ hexadecimal_small width n wide less
    | inr large ↦ absurd (omega (arith, less, large))
  ]
  | inr large ↦ hexadecimal_large width n large (omega arith)
]

-- the last two digits after the others
two_more : (width n : ℕ) → 2 < width → n < 2 ^ 32 → hexadecimal width n ≡ hexadecimal (width - 2) (n / 256) ++ hexadecimal 2 (n % 256)
two_more width n wide small =
    let next : n / 16 / 16 ≡ n / 256 = omega arith in
    let less : width - 1 - 1 ≡ width - 2 = omega arith in
    let high : n / 16 % 16 ≡ n % 256 / 16 = omega arith in
    let low : n % 16 ≡ n % 256 % 16 = omega arith in
    hexadecimal_more width n (inl (omega arith)) small
    ∙ ap (λ x. x ++ glyph n ∷ []) (hexadecimal_more (width - 1) (n / 16) (inl (omega arith)) (omega (arith, small)))
    ∙ append_assoc (hexadecimal (width - 1 - 1) (n / 16 / 16)) (glyph (n / 16) ∷ []) (glyph n ∷ [])
    ∙ (λ i. hexadecimal (less i) (next i) ++ digit_glyph true (high i) ∷ digit_glyph true (low i) ∷ [])
    ∙ ap (λ x. hexadecimal (width - 2) (n / 256) ++ x) (sym (hex_byte true (n % 256) (omega arith)))

-- The digits of a word, by its bytes.
pub word_written : (n : ℕ) → n < 2 ^ 32
    → hexadecimal 2 (n / 16777216) ++ (hexadecimal 2 (n / 65536 % 256) ++ (hexadecimal 2 (n / 256 % 256) ++ hexadecimal 2 (n % 256))) ≡ hexadecimal 8 n
word_written n small =
    let second : n / 256 / 256 ≡ n / 65536 = omega arith in
    let first : n / 65536 / 256 ≡ n / 16777216 = omega arith in
    let a = hexadecimal 2 (n / 16777216) in
    let b = hexadecimal 2 (n / 65536 % 256) in
    let c = hexadecimal 2 (n / 256 % 256) in
    let d = hexadecimal 2 (n % 256) in
    let four : hexadecimal 4 (n / 65536) ≡ a ++ b = two_more 4 (n / 65536) (omega arith) (omega (arith, small)) ∙ ap (λ x. hexadecimal 2 x ++ b) first in
    let six : hexadecimal 6 (n / 256) ≡ (a ++ b) ++ c =
    two_more 6 (n / 256) (omega arith) (omega (arith, small)) ∙ ap (λ x. hexadecimal 4 x ++ c) second ∙ ap (λ x. x ++ c) four in
    sym (two_more 8 n (omega arith) small ∙ ap (λ x. x ++ d) six ∙ append_assoc (a ++ b) c d ∙ append_assoc a b (c ++ d))

split_zeros : (all front behind : ℕ) (ds : List ℕ) → all ≡ front + behind → zeros all ++ ds ≡ zeros front ++ (zeros behind ++ ds)
split_zeros all front behind ds both =
    ap (λ k. zeros k ++ ds) both ∙ ap (λ x. x ++ ds) (sym (replicate-append-replicate front behind 48)) ∙ append_assoc (zeros front) (zeros behind) ds

drop_zeros : (m : ℕ) (text : List ℕ) → drop m (zeros m ++ text) ≡ text
drop_zeros zero text = refl
drop_zeros (suc m) text = drop_zeros m text

take_zeros : (m : ℕ) (text : List ℕ) → take m (zeros m ++ text) ≡ zeros m
take_zeros zero text = refl
take_zeros (suc m) text = ap (λ x. 48 ∷ x) (take_zeros m text)

-- digits that are written over the last of ten zeros
over_zeros : (n first : ℕ) (places behind : List ℕ) → first + length (decimal n) ≡ 10 → drop first places ≡ decimal n ++ behind
    → take first places ≡ take first (zeros 10 ++ behind) → places ≡ zeros first ++ (decimal n ++ behind)
over_zeros n first places behind ends written before =
    let ds = decimal n in
    let split : zeros 10 ++ behind ≡ zeros first ++ (zeros (length ds) ++ behind) = split_zeros 10 first (length ds) behind (sym ends) in
    let front : take first places ≡ zeros first = before ∙ ap (take first) split ∙ take_zeros first (zeros (length ds) ++ behind) in
    sym (take-append-drop first places) ∙ (λ j. front j ++ written j)

pub long_over_zeros : (n first : ℕ) (places behind : List ℕ) → first + length (decimal n) ≡ 10 → drop first places ≡ decimal n ++ behind
    → take first places ≡ take first (zeros 10 ++ behind) → length places ≡ 10 + length behind
long_over_zeros n first places behind ends written before =
    let ds = decimal n in
    let all = length-append (zeros first) (ds ++ behind) in
    let more = length-append ds behind in
    let few = length-replicate {A = ℕ} first 48 in
    let same : length (zeros first ++ (ds ++ behind)) ≡ 10 + length behind = omega (arith, all, more, few, ends) in
    ap length (over_zeros n first places behind ends written before) ∙ same

-- With some of the zeros before them these are the padded number.
pub padded_over_zeros : (width n first : ℕ) (places behind : List ℕ) → width ≤ 10 → first + length (decimal n) ≡ 10
    → drop first places ≡ decimal n ++ behind → take first places ≡ take first (zeros 10 ++ behind)
    → drop (min first (10 - width)) places ≡ padded_decimal width n ++ behind
padded_over_zeros width n first places behind narrow ends written before =
    let m = min first (10 - width) in
    let ds = decimal n in
    let all : first ≡ m + (first - m) = omega arith in
    let left : first - m ≡ width - length ds = omega (arith, narrow, ends) in
    ap (drop m) (over_zeros n first places behind ends written before ∙ split_zeros first m (first - m) (ds ++ behind) all)
    ∙ drop_zeros m (zeros (first - m) ++ (ds ++ behind))
    ∙ ap (λ k. zeros k ++ (ds ++ behind)) left
    ∙ sym (append_assoc (zeros (width - length ds)) ds behind)
    ∙ ap (λ x. x ++ behind) (sym (with_zeros width ds))

-- While digits are left to be written there is a place before this one,
pub room_in_front : (digits n place : ℕ) → digits ≤ place + 1 → n < 16 ^ (place + 1) → (1 < digits) ⊎ (16 ≤ n) → 1 ≤ place
room_in_front digits n zero few small (inl wide) = absurd (omega (arith, few, wide))
room_in_front digits n zero few small (inr large) = absurd (omega (arith, small, large))
room_in_front digits n (suc p) few small some = omega arith

pub fits_in_front : (n place : ℕ) → 1 ≤ place → n < 16 ^ (place + 1) → n / 16 < 16 ^ (place - 1 + 1)
fits_in_front n zero some small = absurd (omega arith)
fits_in_front n (suc p) some small =
    let back : suc p - 1 + 1 ≡ suc p = omega arith in
    let next : suc p + 1 ≡ suc (suc p) = omega arith in
    let below = rw next at small in
    rw back (omega (arith, below))

-- the last of them is written in its place,
pub one_in_front : (all : List ℕ) (digits n place : ℕ) (places : List ℕ) (d : ℕ) → (1 < digits) ⊎ (16 ≤ n) → n < 2 ^ 32 → place < length places → 1 ≤ place
    → d ≡ glyph n → all ≡ hexadecimal digits n ++ drop (place + 1) places → all ≡ hexadecimal (digits - 1) (n / 16) ++ drop (place - 1 + 1) (set places place d)
one_in_front all digits n place places d some small within front is e =
    let back : place - 1 + 1 ≡ place = omega arith in
    e ∙ ap (λ x. x ++ drop (place + 1) places) (hexadecimal_more digits n some small)
    ∙ append_assoc (hexadecimal (digits - 1) (n / 16)) (glyph n ∷ []) (drop (place + 1) places)
    ∙ ap (λ x. hexadecimal (digits - 1) (n / 16) ++ x)
    (ap (λ x. x ∷ drop (place + 1) places) (sym is) ∙ sym (drop-set places place d within) ∙ ap (λ k. drop k (set places place d)) (sym back))

-- and so is the only one.
pub first_written : (all : List ℕ) (digits n place : ℕ) (places : List ℕ) (d : ℕ) → digits ≤ 1 → n < 16 → place < length places
    → d ≡ digit_glyph true n → all ≡ hexadecimal digits n ++ drop (place + 1) places → drop place (set places place d) ≡ all
first_written all digits n place places d narrow small within is e =
    let same : n % 16 ≡ n = omega arith in
    drop-set places place d within
    ∙ ap (λ x. x ∷ drop (place + 1) places) (is ∙ ap (digit_glyph true) (sym same))
    ∙ sym (e ∙ ap (λ x. x ++ drop (place + 1) places) (hexadecimal_one digits n narrow small))

spelled_in : (k j n : ℕ) → j ≤ k → n < 16 ^ suc j → length (spell (suc k) n []) ≤ suc j
spelled_in k zero n h small = rw (spell_last k n [] (omega (arith, small))) (omega arith)
spelled_in zero (suc j) n h small = absurd (omega (arith, h))
spelled_in (suc k) (suc j) n h small = elim (cases_lt n 16) [
  | inl less ↦ rw (spell_last (suc k) n [] less) (omega arith)
  | inr large ↦
      let front = spell (suc k) (n / 16) [] in
      let all : spell (suc (suc k)) n [] ≡ front ++ glyph n ∷ [] = spell_next (suc k) n [] large ∙ spell-append (suc k) (n / 16) (glyph n ∷ []) in
      let size = length-append front (glyph n ∷ []) in
      let few : length front ≤ suc j = spelled_in k j (n / 16) (omega (arith, h)) (omega (arith, small)) in
      subst (λ ds. length ds ≤ suc (suc j)) (sym all) (omega (arith, size, few))
]

few_digits : (n : ℕ) → n < 2 ^ 32 → length (digits 16 true n) ≤ 8
few_digits n small = subst (λ ds. length ds ≤ 8) (spelled n) (spelled_in 63 7 n (omega arith) (omega (arith, small)))

-- Zeros precede eight digits if more are needed.
pub zeros_in_front : (width n : ℕ) → n < 2 ^ 32 → hexadecimal width n ≡ zeros (width - 8) ++ hexadecimal (min width 8) n
zeros_in_front width n small =
    let ds = digits 16 true n in
    let few : length ds ≤ 8 = few_digits n small in
    let both : width - length ds ≡ width - 8 + (min width 8 - length ds) = omega (arith, few) in
    with_zeros width ds ∙ split_zeros (width - length ds) (width - 8) (min width 8 - length ds) ds both
    ∙ ap (λ x. zeros (width - 8) ++ x) (sym (with_zeros (min width 8) ds))

-- the digits of one more byte
bytes_more : (bytes : List ℕ) (i d : ℕ) → i < length bytes
    → flat_map (hexadecimal 2) (take (i + 1) bytes) ≡ flat_map (hexadecimal 2) (take i bytes) ++ hexadecimal 2 (get_or bytes i d)
bytes_more bytes i d within =
    ap (flat_map (hexadecimal 2)) (take_more bytes i d within) ∙ flat_map-append (hexadecimal 2) (take i bytes) (get_or bytes i d ∷ [])
    ∙ ap (λ x. flat_map (hexadecimal 2) (take i bytes) ++ x) (append-nil (hexadecimal 2 (get_or bytes i d)))

-- The two digits of a byte are written after those of the bytes before it.
pub byte_written : (places now bytes : List ℕ) (i d byte : ℕ) → i < length bytes → 2 * i + 2 ≤ length places → byte ≡ get_or bytes i d → byte < 256
    → now ≡ take (2 * i) places ++ hexadecimal 2 byte ++ drop (2 * i + 2) places → take (2 * i) places ≡ flat_map (hexadecimal 2) (take i bytes)
    → take (2 * (i + 1)) now ≡ flat_map (hexadecimal 2) (take (i + 1) bytes)
byte_written places now bytes i d byte within room is small then front =
    let text = take (2 * i) places ++ hexadecimal 2 byte in
    let before : length (take (2 * i) places) ≡ 2 * i = length-take-le (2 * i) places (omega (arith, room)) in
    let two : length (hexadecimal 2 byte) ≡ 2 = ap length (hex_byte true byte small) in
    let both = length-append (take (2 * i) places) (hexadecimal 2 byte) in
    let long : 2 * (i + 1) ≡ length text = omega (arith, before, two, both) in
    (λ j. take (long j) (then j)) ∙ take-append_seam text (drop (2 * i + 2) places)
    ∙ (λ j. front j ++ hexadecimal 2 (is j)) ∙ sym (bytes_more bytes i d within)
