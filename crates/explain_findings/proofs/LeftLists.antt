-- What is left, with one more area or cell.
use Rattle.std.proofs.Common.{◌≡◌, ◌<◌, ◌+◌, ◌==◌, ℕ, Bool, true, false, if◌then◌else◌, Option, Some, min, List, [], ◌∷◌, ◌++◌, length, map, take, reverse, get_or, refl, sym, ap, ◌∙◌}
use Rattle.std.specs.Prelude.{filter}
use Rattle.std.proofs.lemmas.List.{map-append, reverse-append, reverse-reverse, take_more}
use Rattle.explain_areas.specs.declared.cells.LineCell.{LineCell}
use Rattle.explain_areas.specs.declared.parts.LineArea.{LineArea}
use Rattle.explain_findings.specs.Left.{Sum, most, nothing_left, sum_bytes, with_area, with_areas, with_cell, with_cells}
use Rattle.explain_findings.specs.declared.left.Left.{Left}

module _ (line task : ℕ) (ended : Bool) where
  areas_and : (areas : List LineArea) (a : LineArea) (l : Option Left) →
      with_areas line task ended (areas ++ a ∷ []) l
      ≡ (if a.line == line then Some (with_area task ended a (with_areas line task ended areas l)) else with_areas line task ended areas l)
  areas_and [] a l = refl
  areas_and (b ∷ areas) a l = areas_and areas a (if b.line == line then Some (with_area task ended b l) else l)

  cells_and : (cells : List LineCell) (c : LineCell) (l : Option Left) →
      with_cells line task ended (cells ++ c ∷ []) l
      ≡ (if c.line == line then Some (with_cell task ended c (with_cells line task ended cells l)) else with_cells line task ended cells l)
  cells_and [] c l = refl
  cells_and (b ∷ cells) c l = cells_and cells c (if b.line == line then Some (with_cell task ended b l) else l)

  pub areas_more : (areas : List LineArea) (i : ℕ) (a : LineArea) (l : Option Left) → i < length areas → a ≡ get_or areas i a →
      (if a.line == line then Some (with_area task ended a (with_areas line task ended (take i areas) l)) else with_areas line task ended (take i areas) l)
      ≡ with_areas line task ended (take (i + 1) areas) l
  areas_more areas i a l below is =
      sym (areas_and (take i areas) a l) ∙ ap (λ b. with_areas line task ended (take i areas ++ b ∷ []) l) is
      ∙ ap (λ bs. with_areas line task ended bs l) (sym (take_more areas i a below))

  pub cells_more : (cells : List LineCell) (i : ℕ) (c : LineCell) (l : Option Left) → i < length cells → c ≡ get_or cells i c →
      (if c.line == line then Some (with_cell task ended c (with_cells line task ended (take i cells) l)) else with_cells line task ended (take i cells) l)
      ≡ with_cells line task ended (take (i + 1) cells) l
  cells_more cells i c l below is =
      sym (cells_and (take i cells) c l) ∙ ap (λ b. with_cells line task ended (take i cells ++ b ∷ []) l) is
      ∙ ap (λ bs. with_cells line task ended bs l) (sym (take_more cells i c below))

-- ---- sums

sum_and : (bs : List ℕ) (b bytes : ℕ) → sum_bytes (bs ++ b ∷ []) bytes ≡ min (sum_bytes bs bytes + b) most
sum_and [] b bytes = refl
sum_and (c ∷ bs) b bytes = sum_and bs b (min (bytes + c) most)

pub sum_more : {A : Type 0} (size : A → ℕ) (xs : List A) (i : ℕ) (x : A) (bytes : ℕ) → i < length xs → x ≡ get_or xs i x →
    min (sum_bytes (map size (take i xs)) bytes + size x) most ≡ sum_bytes (map size (take (i + 1) xs)) bytes
sum_more size xs i x bytes below is =
    sym (sum_and (map size (take i xs)) (size x) bytes) ∙ ap (λ y. sum_bytes (map size (take i xs) ++ size y ∷ []) bytes) is
    ∙ ap (λ ys. sum_bytes ys bytes) (sym (map-append size (take i xs) (get_or xs i x ∷ [])))
    ∙ ap (λ ys. sum_bytes (map size ys) bytes) (sym (take_more xs i x below))

-- ---- lines, oldest first

map_turned : {A B : Type 0} (f : A → B) (xs : List A) → map f (reverse xs) ≡ reverse (map f xs)
map_turned f [] = refl
map_turned f (x ∷ xs) =
    ap (map f) (reverse-append (x ∷ []) xs) ∙ map-append f (reverse xs) (x ∷ []) ∙ ap (λ ys. ys ++ f x ∷ []) (map_turned f xs)
    ∙ sym (reverse-append (f x ∷ []) (map f xs))

mapped_twice : {A B C : Type 0} (f : B → C) (g : A → B) (xs : List A) → map f (map g xs) ≡ map (λ x. f (g x)) xs
mapped_twice f g [] = refl
mapped_twice f g (x ∷ xs) = ap (λ ys. f (g x) ∷ ys) (mapped_twice f g xs)

pub turned_twice : {A B C : Type 0} (f : B → C) (g : A → B) (xs : List A) → reverse (map f (reverse (map g xs))) ≡ map (λ x. f (g x)) xs
turned_twice f g xs = ap reverse (map_turned f (map g xs)) ∙ reverse-reverse (map f (map g xs)) ∙ mapped_twice f g xs

filter_and : (test : ℕ → Bool) (xs : List ℕ) (x : ℕ) → filter test (xs ++ x ∷ []) ≡ filter test xs ++ (if test x then x ∷ [] else [])
filter_and test [] x = refl
filter_and test (y ∷ ys) x = go (test y) (filter_and test ys x) where
  go : (b : Bool) → filter test (ys ++ x ∷ []) ≡ filter test ys ++ (if test x then x ∷ [] else []) →
      (if b then y ∷ filter test (ys ++ x ∷ []) else filter test (ys ++ x ∷ []))
      ≡ (if b then y ∷ filter test ys else filter test ys) ++ (if test x then x ∷ [] else [])
  go true rest = ap (λ zs. y ∷ zs) rest
  go false rest = rest

-- with one more of which something is left, or not
pub lines_more : {A : Type 0} (line : A → ℕ) (test : ℕ → Bool) (es : List A) (i : ℕ) (e : A) (b : Bool) → i < length es → e ≡ get_or es i e → test (line e) ≡ b →
    filter test (map line (take i es)) ++ (if b then line e ∷ [] else []) ≡ filter test (map line (take (i + 1) es))
lines_more line test es i e b below is passes =
    (λ j. filter test (map line (take i es)) ++ (if sym passes j then line e ∷ [] else []))
    ∙ sym (filter_and test (map line (take i es)) (line e))
    ∙ ap (λ d. filter test (map line (take i es) ++ line d ∷ [])) is
    ∙ ap (filter test) (sym (map-append line (take i es) (get_or es i e ∷ [])))
    ∙ ap (λ ds. filter test (map line ds)) (sym (take_more es i e below))

-- ---- the sum of all

pub summed : (none areas cells : Sum) (n m : ℕ) (own used lines left : List ℕ) → none ≡ nothing_left → areas ≡ record none { areas = n; bytes = sum_bytes own none.bytes } →
    cells ≡ record areas { cells = m; bytes = sum_bytes used areas.bytes } → lines ≡ left →
    record cells { lines = lines } ≡ record nothing_left { areas = n; cells = m; bytes = sum_bytes used (sum_bytes own 0); lines = left }
summed none areas cells n m own used lines left nothing add_areas add_cells same =
    let first : areas ≡ record nothing_left { areas = n; bytes = sum_bytes own 0 } = add_areas ∙ ap (λ (s : Sum). record s { areas = n; bytes = sum_bytes own s.bytes }) nothing in
    let both : cells ≡ record nothing_left { areas = n; cells = m; bytes = sum_bytes used (sum_bytes own 0) } = add_cells ∙ ap (λ (s : Sum). record s { cells = m; bytes = sum_bytes used s.bytes }) first in
    λ i. record (both i) { lines = same i }
