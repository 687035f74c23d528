-- The bytes of words, and the words of bytes.
use Rattle.std.proofs.Common.{◌≡◌, ℕ, zero, suc, ◌/◌, ◌%◌, ◌≤◌, ◌<◌, ◌==◌, true, false, List, [], ◌∷◌, ◌++◌, length, get_or, Option, Some, None, refl, sym, ap, ◌∙◌, subst, arith, append_assoc}
use Rattle.std.proofs.lemmas.Bool.{cond-false, cond-true}
use Rattle.std.specs.Prelude.{IfSome}
use Rattle.list_table.specs.Entries.{Entry, word}
use Rattle.cell_pool.specs.declared.label.Label.{Label}
use Rattle.cell_pool.specs.Names.{byte_of, bytes_in, unpacked, spelled, header_in, AreBytes}
use Rattle.cell_pool.specs.Items.{item, pool_of}

pub unpacked_append : (a b : List ℕ) → unpacked (a ++ b) ≡ unpacked a ++ unpacked b
unpacked_append [] b = refl
unpacked_append (w ∷ ws) b = ap (λ (z : List ℕ). bytes_in w ++ z) (unpacked_append ws b) ∙ sym (append_assoc (bytes_in w) (unpacked ws) (unpacked b))

pub bytes_front : (a b : List ℕ) → AreBytes (a ++ b) → AreBytes a
bytes_front [] b h = tt
bytes_front (x ∷ xs) b h = (h.0, bytes_front xs b h.1)

pub bytes_back : (a b : List ℕ) → AreBytes (a ++ b) → AreBytes b
bytes_back [] b h = h
bytes_back (x ∷ xs) b h = bytes_back xs b h.1

digit_small : (d : ℕ) → AreBytes (byte_of d) → d ≤ 256
digit_small zero h = omega arith
digit_small (suc d) h = omega (arith, h.0)

pub word_small : (w : ℕ) → AreBytes (bytes_in w) → w / 66049 ≤ 256
unfolding bytes_in
word_small w h = digit_small (w / 66049) (bytes_front (byte_of (w / 66049)) (byte_of ((w / 257) % 257)) (bytes_front (byte_of (w / 66049) ++ byte_of ((w / 257) % 257)) (byte_of (w % 257)) h))

pub words_small : (ws : List ℕ) (k : ℕ) → k < length ws → AreBytes (unpacked ws) → get_or ws k 0 / 66049 ≤ 256
words_small [] k h small = absurd (omega (arith, h))
words_small (w ∷ ws) zero h small = word_small w (bytes_front (bytes_in w) (unpacked ws) small)
words_small (w ∷ ws) (suc k) h small = words_small ws k (omega (arith, h)) (bytes_back (bytes_in w) (unpacked ws) small)

pub three_parts : (a b c : List ℕ) → unpacked (a ++ (b ++ c)) ≡ unpacked a ++ (unpacked b ++ unpacked c)
three_parts a b c = unpacked_append a (b ++ c) ∙ ap (λ (z : List ℕ). unpacked a ++ z) (unpacked_append b c)

-- what is spelled has the bytes of each part
module _ (label : Label) (small : AreBytes (spelled label)) where
  parts : AreBytes (unpacked label.first ++ (unpacked label.second ++ unpacked label.third))
  parts = let P : List ℕ → Type 0 = AreBytes in subst P (three_parts label.first label.second label.third) small

  pub first_bytes : AreBytes (unpacked label.first)
  first_bytes = bytes_front (unpacked label.first) (unpacked label.second ++ unpacked label.third) parts

  pub second_bytes : AreBytes (unpacked label.second)
  second_bytes = bytes_front (unpacked label.second) (unpacked label.third) (bytes_back (unpacked label.first) (unpacked label.second ++ unpacked label.third) parts)

  pub third_bytes : AreBytes (unpacked label.third)
  third_bytes = bytes_back (unpacked label.second) (unpacked label.third) (bytes_back (unpacked label.first) (unpacked label.second ++ unpacked label.third) parts)

pub three_runs : (label : Label) (none a b c : List ℕ) → none ≡ [] → a ≡ none ++ unpacked label.first → b ≡ a ++ unpacked label.second → c ≡ b ++ unpacked label.third → c ≡ spelled label
three_runs label none a b c h ha hb hc =
    hc ∙ ap (λ (z : List ℕ). z ++ unpacked label.third) (hb ∙ ap (λ (z : List ℕ). z ++ unpacked label.second) (ha ∙ ap (λ (z : List ℕ). z ++ unpacked label.first) h))
    ∙ append_assoc (unpacked label.first) (unpacked label.second) (unpacked label.third) ∙ sym (three_parts label.first label.second label.third)

-- a header in a row
pub pool_header : (e : Entry) → (pool_of e).header ≡ header_in (item e.items 3) (item e.items 4)
unfolding pool_of
pool_header e = refl

pub no_header : (front form : List ℕ) → (word form 1 == 0) ≡ true → header_in front form ≡ None
no_header front form h = cond-true (word form 1 == 0) None (Some (unpacked (front ++ word form 2 ∷ []))) h

pub some_header : (front form : List ℕ) → (word form 1 == 0) ≡ false → header_in front form ≡ Some (unpacked (front ++ word form 2 ∷ []))
some_header front form h = cond-false (word form 1 == 0) None (Some (unpacked (front ++ word form 2 ∷ []))) h

pub last_word : (front : List ℕ) (w : ℕ) → unpacked (front ++ w ∷ []) ≡ unpacked front ++ bytes_in w
last_word front w = unpacked_append front (w ∷ []) ∙ ap (λ (z : List ℕ). unpacked front ++ z) (nil_end (bytes_in w)) where
  nil_end : (a : List ℕ) → a ++ [] ≡ a
  nil_end [] = refl
  nil_end (x ∷ xs) = ap (λ (z : List ℕ). x ∷ z) (nil_end xs)

-- the bytes of a header that exists
module _ (front form : List ℕ) (h : (word form 1 == 0) ≡ false) (small : IfSome (header_in front form) AreBytes) where
  both : AreBytes (unpacked front ++ bytes_in (word form 2))
  both =
      let P : Option (List ℕ) → Type 0 = λ o. IfSome o AreBytes in
      let Q : List ℕ → Type 0 = AreBytes in
      subst Q (last_word front (word form 2)) (subst P (some_header front form h) small)

  pub front_bytes : AreBytes (unpacked front)
  front_bytes = bytes_front (unpacked front) (bytes_in (word form 2)) both

  pub last_small : word form 2 / 66049 ≤ 256
  last_small = word_small (word form 2) (bytes_back (unpacked front) (bytes_in (word form 2)) both)

  pub header_runs : (none a b : List ℕ) → none ≡ [] → a ≡ none ++ unpacked front → b ≡ a ++ bytes_in (word form 2) → Some b ≡ header_in front form
  header_runs none a b e ha hb =
      ap Some (hb ∙ ap (λ (z : List ℕ). z ++ bytes_in (word form 2)) (ha ∙ ap (λ (z : List ℕ). z ++ unpacked front) e) ∙ sym (last_word front (word form 2)))
      ∙ sym (some_header front form h)
