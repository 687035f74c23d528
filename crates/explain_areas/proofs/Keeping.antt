-- Pages, as doublewords are added to them one by one, and as the code adds them.
use Rattle.std.proofs.Common.{◌≡◌, ℕ, zero, suc, ◌+◌, ◌*◌, ◌/◌, ◌-◌, ◌<◌, ◌≤◌, min, Bool, true, false, ◌==◌, if◌then◌else◌, List, [], ◌∷◌, ◌++◌, get_or, length, map, reverse, take, refl, sym, ap, ◌∙◌, arith}
use Rattle.std.specs.Prelude.{filter, slice_set}
use Rattle.std.proofs.lemmas.Bool.{eq-eqb}
use Rattle.std.proofs.lemmas.List.{drop_all, map-append, reverse-append, set_split, take_all, take_more}
use Rattle.explain_areas.specs.Keeps.{TakenPage, begun, counted, held, is_kept, is_last, page_of, turned, with_bytes, with_doublewords, with_line, with_more}
use Rattle.explain_areas.specs.declared.keeps.KeptPage.{KeptPage}

-- ---- lines

same_line : (line : ℕ) (xs : List ℕ) → with_line line (line ∷ xs) ≡ line ∷ xs
same_line line xs = grind arith

twice : (line : ℕ) (xs : List ℕ) → with_line line (with_line line xs) ≡ with_line line xs
twice line [] = same_line line []
twice line (x ∷ xs) = grind (arith, twice line xs, same_line line)

-- ---- bytes of a page

module _ (line page : ℕ) where
  goes : (bytes : ℕ) (last : TakenPage) (others : List TakenPage) → (last.page == page) ≡ true → with_bytes line page bytes (last ∷ others) ≡ with_more line bytes last ∷ others
  goes bytes last others e = ap (λ b. if b then with_more line bytes last ∷ others else begun line page bytes ∷ last ∷ others) e

  begins : (bytes : ℕ) (last : TakenPage) (others : List TakenPage) → (last.page == page) ≡ false → with_bytes line page bytes (last ∷ others) ≡ begun line page bytes ∷ last ∷ others
  begins bytes last others e = ap (λ b. if b then with_more line bytes last ∷ others else begun line page bytes ∷ last ∷ others) e

  begun_more : (a b : ℕ) (others : List TakenPage) → with_bytes line page b (begun line page a ∷ others) ≡ begun line page (a + b) ∷ others
  begun_more a b others =
      goes b (begun line page a) others (eq-eqb page page refl)
      ∙ ap (λ ls. (let p : TakenPage = record { page = page; bytes = a + b; lines = ls } in p) ∷ others) (same_line line [])

  -- Bytes of a page, one after the other, are their sum.
  more_bytes : (a b : ℕ) (pages : List TakenPage) → with_bytes line page b (with_bytes line page a pages) ≡ with_bytes line page (a + b) pages
  more_bytes a b [] = begun_more a b []
  more_bytes a b (last ∷ others) = go (last.page == page) refl where
    go : (same : Bool) → (last.page == page) ≡ same → with_bytes line page b (with_bytes line page a (last ∷ others)) ≡ with_bytes line page (a + b) (last ∷ others)
    go true e =
        ap (with_bytes line page b) (goes a last others e)
        ∙ goes b (with_more line a last) others e
        ∙ ap (λ ls. record last { bytes = last.bytes + a + b; lines = ls } ∷ others) (twice line last.lines)
        ∙ ap (λ n. record last { bytes = n; lines = with_line line last.lines } ∷ others) (let e : last.bytes + a + b ≡ last.bytes + (a + b) = omega arith in e)
        ∙ sym (goes (a + b) last others e)
    go false e =
        ap (with_bytes line page b) (begins a last others e)
        ∙ begun_more a b (last ∷ others)
        ∙ sym (begins (a + b) last others e)

  -- Doublewords of one page are their bytes.
  one_page : (start n : ℕ) (pages : List TakenPage) → ((k : ℕ) → k < n + 1 → (start + k) / 512 ≡ page) → with_doublewords line start (n + 1) pages ≡ with_bytes line page (8 * (n + 1)) pages
  one_page start zero pages on = ap (λ p. with_bytes line p 8 pages) (on 0 (omega arith))
  one_page start (suc n) pages on =
      ap (λ k. with_doublewords line start k pages) (let e : suc n + 1 ≡ suc (n + 1) = omega arith in e)
      ∙ ap (λ p. with_bytes line p 8 (with_doublewords line start (n + 1) pages)) (on (n + 1) (omega arith))
      ∙ ap (with_bytes line page 8) (one_page start n pages (λ k below. on k (omega (arith, below))))
      ∙ more_bytes (8 * (n + 1)) 8 pages
      ∙ ap (λ k. with_bytes line page k pages) (let e : 8 * (n + 1) + 8 ≡ 8 * (suc n + 1) = omega arith in e)

then_more : (line start m n : ℕ) (pages : List TakenPage) → with_doublewords line start (m + n) pages ≡ with_doublewords line (start + m) n (with_doublewords line start m pages)
then_more line start m zero pages = ap (λ k. with_doublewords line start k pages) (let e : m + 0 ≡ m = omega arith in e)
then_more line start m (suc n) pages =
    ap (λ k. with_doublewords line start k pages) (let e : m + suc n ≡ suc (m + n) = omega arith in e)
    ∙ ap (λ d. with_bytes line (d / 512) 8 (with_doublewords line start (m + n) pages)) (let e : start + (m + n) ≡ start + m + n = omega arith in e)
    ∙ ap (with_bytes line ((start + m + n) / 512) 8) (then_more line start m n pages)

-- An area's doublewords up to one, and then those of one page.
pub next_part : (line start at next : ℕ) (pages : List TakenPage) → start ≤ at → at < next → next ≤ 512 * (at / 512 + 1) →
    with_bytes line (at / 512) (8 * (next - at)) (with_doublewords line start (at - start) pages) ≡ with_doublewords line start (next - start) pages
next_part line start at next pages from some within =
    let m = at - start in
    let n = next - at - 1 in
    let before = with_doublewords line start m pages in
    sym (ap (λ k. with_doublewords line start k pages) (let e : next - start ≡ m + (n + 1) = omega (arith, from, some) in e)
    ∙ then_more line start m (n + 1) pages
    ∙ one_page line (at / 512) (start + m) n before (λ k below. omega (arith, from, some, within, below))
    ∙ ap (λ k. with_bytes line (at / 512) k before) (let e : 8 * (n + 1) ≡ 8 * (next - at) = omega (arith, some) in e))

-- ---- pages as the code has them

-- More bytes of the last page are counted.
pub held_more : (line page bytes : ℕ) (others rest : List TakenPage) (last : TakenPage) → last ∷ rest ≡ held others → (last.page == page) ≡ true →
    counted (with_more line bytes last) ∷ rest ≡ held (with_bytes line page bytes others)
held_more line page bytes [] rest last is same = absurd (cc)
held_more line page bytes (l ∷ ls) rest last is same =
    let first : last ≡ counted l = cc in
    let further : rest ≡ filter is_kept ls = cc in
    ap (λ p. counted (with_more line bytes p) ∷ rest) first
    ∙ ap (λ ps. counted (with_more line bytes (counted l)) ∷ ps) further
    ∙ ap (λ n. record l { bytes = n; lines = with_line line l.lines } ∷ filter is_kept ls)
    (let e : min (min l.bytes 4294967295 + bytes) 4294967295 ≡ min (l.bytes + bytes) 4294967295 = omega arith in e)
    ∙ sym (ap held (goes line page bytes l ls (sym (ap (λ (p : TakenPage). p.page == page) first) ∙ same)))

turned_push : (xs : List KeptPage) (x : KeptPage) → turned (xs ++ x ∷ []) ≡ page_of x ∷ turned xs
turned_push xs x = ap reverse (map-append page_of xs (x ∷ [])) ∙ reverse-append (map page_of xs) (page_of x ∷ [])

turned_end : (xs : List KeptPage) (n : ℕ) (d : KeptPage) → length xs ≡ n + 1 → turned xs ≡ page_of (get_or xs n d) ∷ turned (take n xs)
turned_end xs n d size =
    ap turned (sym (take_all (n + 1) xs (omega (arith, size))) ∙ take_more xs n d (omega (arith, size))) ∙ turned_push (take n xs) (get_or xs n d)

turned_set : (xs : List KeptPage) (n : ℕ) (b : KeptPage) → length xs ≡ n + 1 → turned (slice_set xs n b) ≡ page_of b ∷ turned (take n xs)
turned_set xs n b size =
    ap turned (set_split xs n b (omega (arith, size)) ∙ ap (λ ys. take n xs ++ b ∷ ys) (drop_all (suc n) xs (omega (arith, size)))) ∙ turned_push (take n xs) b

some_last : (page : ℕ) (xs : List KeptPage) → is_last page (turned xs) ≡ true → 0 < length xs
some_last page [] is = absurd (cc)
some_last page (x ∷ xs) is = omega arith

-- The last page gets more bytes.
pub more_at_end : (line page bytes : ℕ) (xs : List KeptPage) (n : ℕ) (b d : KeptPage) (others : List TakenPage) → n ≡ length xs - 1 → is_last page (turned xs) ≡ true →
    page_of b ≡ counted (with_more line bytes (page_of (get_or xs n d))) → turned xs ≡ held others → turned (slice_set xs n b) ≡ held (with_bytes line page bytes others)
more_at_end line page bytes xs n b d others last its is before =
    let size : length xs ≡ n + 1 = omega (arith, last, some_last page xs its) in
    let end = turned_end xs n d size in
    turned_set xs n b size
    ∙ ap (λ p. p ∷ turned (take n xs)) is
    ∙ held_more line page bytes others (turned (take n xs)) (page_of (get_or xs n d)) (sym end ∙ before) (sym (ap (is_last page) end) ∙ its)
