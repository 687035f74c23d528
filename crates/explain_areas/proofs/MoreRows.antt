-- Rows, with one more area or cell.
use Rattle.std.proofs.Common.{◌≡◌, ℕ, ◌+◌, ◌<◌, Bool, true, false, if◌then◌else◌, List, [], ◌∷◌, ◌++◌, length, map, take, get_or, flat_map, refl, sym, ap, ◌∙◌, append_assoc}
use Rattle.std.specs.Prelude.{filter}
use Rattle.std.proofs.lemmas.Grind.{flat_map-append}
use Rattle.std.proofs.lemmas.List.{append-nil, map-append, take_more}
use Rattle.std.proofs.lemmas.List.Elements.{filter_more}

one : {A B : Type 0} (f : A → B) (x : A) (b : Bool) → map f (if b then x ∷ [] else []) ≡ (if b then f x ∷ [] else [])
one f x true = refl
one f x false = refl

-- with another of a list, if it's chosen
pub chosen_more : {A B : Type 0} (f : A → B) (p : A → Bool) (before : List B) (xs : List A) (i : ℕ) (x : A) (b : Bool) → i < length xs → x ≡ get_or xs i x → p x ≡ b →
    (before ++ map f (filter p (take i xs))) ++ (if b then f x ∷ [] else []) ≡ before ++ map f (filter p (take (i + 1) xs))
chosen_more f p before xs i x b below is passes =
    let so_far = filter p (take i xs) in
    let more : filter p (take (i + 1) xs) ≡ so_far ++ (if b then x ∷ [] else []) =
    filter_more p xs i x below ∙ ap (λ y. so_far ++ (if p y then y ∷ [] else [])) (sym is)
    ∙ ap (λ (c : Bool). so_far ++ (if c then x ∷ [] else [])) passes in
    append_assoc before (map f so_far) (if b then f x ∷ [] else [])
    ∙ ap (λ ys. before ++ ys)
    (sym (ap (map f) more ∙ map-append f so_far (if b then x ∷ [] else []) ∙ ap (λ ys. map f so_far ++ ys) (one f x b)))

-- with what another of a list brings
pub brought_more : {A B : Type 0} (f : A → List B) (before : List B) (xs : List A) (i : ℕ) (x : A) → i < length xs → x ≡ get_or xs i x →
    (before ++ flat_map f (take i xs)) ++ f x ≡ before ++ flat_map f (take (i + 1) xs)
brought_more f before xs i x below is =
    let so_far = flat_map f (take i xs) in
    let y = get_or xs i x in
    append_assoc before so_far (f x)
    ∙ ap (λ ys. before ++ ys)
    (ap (λ z. so_far ++ f z) is
    ∙ sym (ap (flat_map f) (take_more xs i x below) ∙ flat_map-append f (take i xs) (y ∷ []) ∙ ap (λ ys. so_far ++ ys) (append-nil (f y))))
