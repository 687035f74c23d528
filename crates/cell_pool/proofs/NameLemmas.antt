-- The words of names and headers.
use Rattle.std.proofs.Common.{◌≡◌, ℕ, zero, suc, ◌+◌, ◌*◌, ◌/◌, ◌%◌, ◌<◌, ◌≤◌, ◌==◌, ◌&&◌, Bool, true, false, List, [], ◌∷◌, ◌++◌, length, drop, get_or, Option, Some, None, inl, inr, refl, sym, ap, ◌∙◌, arith, append_assoc}
use Rattle.std.specs.Prelude.{slice_get}
use Rattle.std.specs.Str.{bytes_eq}
use Rattle.std.proofs.lemmas.Slice.Eq.{bytes_eq-Decides}
use Rattle.std.proofs.lemmas.Bool.Decides.{same_from_decides}
use Rattle.std.proofs.lemmas.Option.{get_or_from_slice_get, slice_get_cases}
use Rattle.std.proofs.lemmas.List.{drop_all}
use Rattle.std.proofs.Math.Seq.{drop-cons}
use Rattle.vsm_elements.proofs.ChainLemmas.{not_both}
use Rattle.list_table.specs.Entries.{word}
use Rattle.cell_pool.specs.declared.label.Label.{Label}
use Rattle.cell_pool.specs.Names.{digit, word_at, words_from, byte_of, bytes_in, unpacked, packed, spelled, same_words, same_label, AreBytes}
use Rattle.cell_pool.proofs.EntryLemmas.{eqb_same, eqb_refl}

-- three digits are what the word says

front_digit : (a b c : ℕ) → a ≤ 256 → b ≤ 256 → c ≤ 256 → (a * 66049 + b * 257 + c) / 66049 ≡ a
front_digit a b c ha hb hc = omega arith

two_digits : (a b c : ℕ) → a ≤ 256 → b ≤ 256 → c ≤ 256 → (a * 66049 + b * 257 + c) / 257 ≡ a * 257 + b
two_digits a b c ha hb hc = omega arith

last_of_two : (a b : ℕ) → b ≤ 256 → (a * 257 + b) % 257 ≡ b
last_of_two a b hb = omega arith

last_digit : (a b c : ℕ) → a ≤ 256 → b ≤ 256 → c ≤ 256 → (a * 66049 + b * 257 + c) % 257 ≡ c
last_digit a b c ha hb hc = omega arith

digits_back : (a b c : ℕ) → a ≤ 256 → b ≤ 256 → c ≤ 256 → bytes_in (a * 66049 + b * 257 + c) ≡ byte_of a ++ byte_of b ++ byte_of c
unfolding bytes_in
digits_back a b c ha hb hc =
    ap (λ (z : ℕ). byte_of z ++ byte_of (((a * 66049 + b * 257 + c) / 257) % 257) ++ byte_of ((a * 66049 + b * 257 + c) % 257)) (front_digit a b c ha hb hc)
    ∙ ap (λ (z : ℕ). byte_of a ++ byte_of (z % 257) ++ byte_of ((a * 66049 + b * 257 + c) % 257)) (two_digits a b c ha hb hc)
    ∙ ap (λ (z : ℕ). byte_of a ++ byte_of z ++ byte_of ((a * 66049 + b * 257 + c) % 257)) (last_of_two a b hb)
    ∙ ap (λ (z : ℕ). byte_of a ++ byte_of b ++ byte_of z) (last_digit a b c ha hb hc)

assoc_three : (a b c d : List ℕ) → ((a ++ b) ++ c) ++ d ≡ a ++ (b ++ (c ++ d))
assoc_three a b c d = simp append_assoc

-- the bytes of a text, of which each is one

module _ (bs : List ℕ) (small : (i : ℕ) → get_or bs i 0 < 256) where
  small_digit : (i : ℕ) → digit (slice_get bs i) ≤ 256
  small_digit i = go (slice_get bs i) refl where
    go : (o : Option ℕ) → slice_get bs i ≡ o → digit o ≤ 256
    go None e = omega arith
    go (Some b) e = omega (arith, small i, get_or_from_slice_get bs i b 0 e)

  one_byte : (i : ℕ) → byte_of (digit (slice_get bs i)) ++ drop (i + 1) bs ≡ drop i bs
  one_byte i = elim ((slice_get_cases bs i).1) [
    | inl f ↦ (let e : suc i ≡ i + 1 = omega arith in
        ap (λ (o : Option ℕ). byte_of (digit o) ++ drop (i + 1) bs) f.2
        ∙ sym (drop-cons bs i f.0 f.1 ∙ ap (λ (z : ℕ). z ∷ drop (suc i) bs) (get_or_from_slice_get bs i f.0 f.0 f.2) ∙ ap (λ (k : ℕ). f.0 ∷ drop k bs) e))
    | inr f ↦ ap (λ (o : Option ℕ). byte_of (digit o) ++ drop (i + 1) bs) f.1 ∙ drop_all (i + 1) bs (omega (arith, f.0)) ∙ sym (drop_all i bs f.0)
  ]

  word_back : (i : ℕ) → bytes_in (word_at bs i) ++ drop (i + 3) bs ≡ drop i bs
  word_back i =
      let e2 : (i + 1) + 1 ≡ i + 2 = omega arith in
      let e3 : (i + 2) + 1 ≡ i + 3 = omega arith in
      let last : byte_of (digit (slice_get bs (i + 2))) ++ drop (i + 3) bs ≡ drop (i + 2) bs = ap (λ (k : ℕ). byte_of (digit (slice_get bs (i + 2))) ++ drop k bs) (sym e3) ∙ one_byte (i + 2) in
      let middle : byte_of (digit (slice_get bs (i + 1))) ++ drop (i + 2) bs ≡ drop (i + 1) bs = ap (λ (k : ℕ). byte_of (digit (slice_get bs (i + 1))) ++ drop k bs) (sym e2) ∙ one_byte (i + 1) in
      ap (λ (z : List ℕ). z ++ drop (i + 3) bs) (digits_back (digit (slice_get bs i)) (digit (slice_get bs (i + 1))) (digit (slice_get bs (i + 2))) (small_digit i) (small_digit (i + 1)) (small_digit (i + 2)))
      ∙ assoc_three (byte_of (digit (slice_get bs i))) (byte_of (digit (slice_get bs (i + 1)))) (byte_of (digit (slice_get bs (i + 2)))) (drop (i + 3) bs)
      ∙ ap (λ (z : List ℕ). byte_of (digit (slice_get bs i)) ++ (byte_of (digit (slice_get bs (i + 1))) ++ z)) last
      ∙ ap (λ (z : List ℕ). byte_of (digit (slice_get bs i)) ++ z) middle
      ∙ one_byte i

  words_back : (n i : ℕ) → length bs ≤ i + 3 * n → unpacked (words_from n bs i) ≡ drop i bs
  words_back zero i h = sym (drop_all i bs (omega arith))
  words_back (suc n) i h = ap (λ (z : List ℕ). bytes_in (word_at bs i) ++ z) (words_back n (i + 3) (omega arith)) ∙ word_back i

  pub text_back : (n : ℕ) → length bs ≤ 3 * n → unpacked (words_from n bs 0) ≡ bs
  text_back n h = words_back n 0 (omega (arith, h))

  pub name_back : length bs ≤ 63 → spelled (packed bs) ≡ bs
  unfolding packed
  name_back h = text_back 21 (omega (arith, h))

-- labels tell names apart

and_true : (a b : Bool) → a ≡ true → b ≡ true → (a && b) ≡ true
and_true true b h k = k
and_true false b h k = absurd (not_both false h refl)

and_parts : (a b : Bool) → (a && b) ≡ true → (a ≡ true) × (b ≡ true)
and_parts true b h = (refl, h)
and_parts false b h = absurd (not_both false h refl)

seven : (a b : List ℕ) (i : ℕ) → same_words (words_from 7 a i) (words_from 7 b i) ≡ true → words_from 7 a i ≡ words_from 7 b i
seven a b i h =
    let x : List ℕ = words_from 7 a i in
    let y : List ℕ = words_from 7 b i in
    let p6 = and_parts _ (word x 6 == word y 6) h in
    let p5 = and_parts _ (word x 5 == word y 5) p6.0 in
    let p4 = and_parts _ (word x 4 == word y 4) p5.0 in
    let p3 = and_parts _ (word x 3 == word y 3) p4.0 in
    let p2 = and_parts _ (word x 2 == word y 2) p3.0 in
    let p1 = and_parts (word x 0 == word y 0) (word x 1 == word y 1) p2.0 in
    let e0 : word x 0 ≡ word y 0 = eqb_same (word x 0) (word y 0) p1.0 in
    let e1 : word x 1 ≡ word y 1 = eqb_same (word x 1) (word y 1) p1.1 in
    let e2 : word x 2 ≡ word y 2 = eqb_same (word x 2) (word y 2) p2.1 in
    let e3 : word x 3 ≡ word y 3 = eqb_same (word x 3) (word y 3) p3.1 in
    let e4 : word x 4 ≡ word y 4 = eqb_same (word x 4) (word y 4) p4.1 in
    let e5 : word x 5 ≡ word y 5 = eqb_same (word x 5) (word y 5) p5.1 in
    let e6 : word x 6 ≡ word y 6 = eqb_same (word x 6) (word y 6) p6.1 in
    cc

words_refl : (a : List ℕ) → same_words a a ≡ true
words_refl a =
    and_true _ (word a 6 == word a 6) (and_true _ (word a 5 == word a 5) (and_true _ (word a 4 == word a 4) (and_true _ (word a 3 == word a 3) (and_true _ (word a 2 == word a 2) (and_true (word a 0 == word a 0) (word a 1 == word a 1) (eqb_refl (word a 0)) (eqb_refl (word a 1)))
    (eqb_refl (word a 2))) (eqb_refl (word a 3))) (eqb_refl (word a 4))) (eqb_refl (word a 5))) (eqb_refl (word a 6))

label_refl : (a : Label) → same_label a a ≡ true
unfolding same_label
label_refl a = and_true _ (same_words a.third a.third) (and_true (same_words a.first a.first) (same_words a.second a.second) (words_refl a.first) (words_refl a.second)) (words_refl a.third)

labels_same : (a b : List ℕ) → same_label (packed a) (packed b) ≡ true → packed a ≡ packed b
unfolding packed same_label
labels_same a b h =
    let p2 = and_parts _ (same_words (words_from 7 a 42) (words_from 7 b 42)) h in
    let p1 = and_parts (same_words (words_from 7 a 0) (words_from 7 b 0)) (same_words (words_from 7 a 21) (words_from 7 b 21)) p2.0 in
    ap (λ (z : List ℕ). record { first = z; second = words_from 7 a 21; third = words_from 7 a 42 }) (seven a b 0 p1.0)
    ∙ ap (λ (z : List ℕ). record { first = words_from 7 b 0; second = z; third = words_from 7 a 42 }) (seven a b 21 p1.1)
    ∙ ap (λ (z : List ℕ). record { first = words_from 7 b 0; second = words_from 7 b 21; third = z }) (seven a b 42 p2.1)

pub names_tell : (a b : List ℕ) → spelled (packed a) ≡ a → spelled (packed b) ≡ b → same_label (packed a) (packed b) ≡ bytes_eq a b
names_tell a b ha hb = same_from_decides (same_label (packed a) (packed b)) (bytes_eq a b) ((λ h. sym ha ∙ ap spelled (labels_same a b h) ∙ hb), (λ e. ap (λ (z : List ℕ). same_label (packed a) (packed z)) (sym e) ∙ label_refl (packed a))) (bytes_eq-Decides a b)

pub label_is : (bs first second third : List ℕ) → first ≡ words_from 7 bs 0 → second ≡ words_from 7 bs 21 → third ≡ words_from 7 bs 42 → record { first = first; second = second; third = third } ≡ packed bs
unfolding packed
label_is bs first second third a b c =
    ap (λ (z : List ℕ). record { first = z; second = second; third = third }) a ∙ ap (λ (z : List ℕ). record { first = words_from 7 bs 0; second = z; third = third }) b
    ∙ ap (λ (z : List ℕ). record { first = words_from 7 bs 0; second = words_from 7 bs 21; third = z }) c

pub header_is : (bs front : List ℕ) (last : ℕ) → ((i : ℕ) → get_or bs i 0 < 256) → length bs ≤ 24 → front ≡ words_from 7 bs 0 → last ≡ word_at bs 21 → unpacked (front ++ last ∷ []) ≡ bs
header_is bs front last small h a b = ap (λ (z : List ℕ). unpacked (z ++ last ∷ [])) a ∙ ap (λ (z : ℕ). unpacked (words_from 7 bs 0 ++ z ∷ [])) b ∙ text_back bs small 8 (omega (arith, h))

pub are_bytes : (bs : List ℕ) → ((i : ℕ) → get_or bs i 0 < 256) → AreBytes bs
are_bytes [] small = tt
are_bytes (b ∷ bs) small = (small 0, are_bytes bs (λ i. small (suc i)))
