-- The first of some statements, backwards.
use Rattle.std.proofs.Common.{◌≡◌, ℕ, ◌+◌, ◌-◌, ◌<◌, List, [], ◌∷◌, length, take, drop, map, reverse, get_or, sym, ap, ◌∙◌}
use Rattle.std.proofs.lemmas.List.{length-drop, length-reverse, map-append, reverse-append, take-append-drop, take-map, take_more}
use Rattle.std.proofs.Math.Seq.{drop-append_seam}

-- without the elements after the first n, from the last on
drop_reverse : {A : Type 0} (n : ℕ) (xs : List A) → drop (length xs - n) (reverse xs) ≡ reverse (take n xs)
drop_reverse n xs =
    let front : length (reverse (drop n xs)) ≡ length xs - n = length-reverse (drop n xs) ∙ length-drop n xs in
    ap (λ k. drop k (reverse xs)) (sym front)
    ∙ ap (λ ys. drop (length (reverse (drop n xs))) (reverse ys)) (sym (take-append-drop n xs))
    ∙ ap (drop (length (reverse (drop n xs)))) (reverse-append (take n xs) (drop n xs))
    ∙ drop-append_seam (reverse (drop n xs)) (reverse (take n xs))

module _ {A B : Type 0} (f : A → B) where
  -- one more
  pub firsts_more : (xs : List A) (i : ℕ) (x : A) → i < length xs → reverse (map f (take (i + 1) xs)) ≡ f (get_or xs i x) ∷ reverse (map f (take i xs))
  firsts_more xs i x low =
      ap (λ ys. reverse (map f ys)) (take_more xs i x low) ∙ ap reverse (map-append f (take i xs) (get_or xs i x ∷ []))
      ∙ reverse-append (map f (take i xs)) (f (get_or xs i x) ∷ [])

  -- those of all, without the ones after the first n
  pub firsts_of_all : (n : ℕ) (xs : List A) → drop (length (reverse (map f xs)) - n) (reverse (map f xs)) ≡ reverse (map f (take n xs))
  firsts_of_all n xs =
      ap (λ k. drop (k - n) (reverse (map f xs))) (length-reverse (map f xs)) ∙ drop_reverse n (map f xs) ∙ ap reverse (take-map f n xs)
