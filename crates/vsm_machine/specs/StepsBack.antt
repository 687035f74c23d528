-- A step that is taken back leaves the names as they were, and can be taken again.
use Rattle.std.proofs.Common.{◌≡◌, ℕ, zero, suc, ◌-◌, ◌<◌, Bool, true, false, if◌then◌else◌, Option, Some, None}
use Rattle.std.proofs.Common.{List, [], ◌∷◌, ◌++◌, length, take, refl, sym, ap, ◌∙◌, arith}
use Rattle.std.specs.Option.{option_map, option_map_or}
use Rattle.std.proofs.lemmas.Bool.{cond-false}
use Rattle.std.proofs.lemmas.List.{length-take-le, length_push, take_at}
use Rattle.std.proofs.Math.Seq.{get_or-append_seam}
use Rattle.vsm_model.specs.Names.{same_name, word_of, with_name}
use Rattle.vsm_machine.specs.NameChanges.{NameStep, define, undefine, reword, stepped, turned, step_to, CanStep, Gives}
use Rattle.vsm_machine.specs.NameTable.{place_in, row_at, with_word_at, word_at}

some_is_not : (w : ℕ) → ◌≡◌ {A = Option ℕ} (Some w) None → ⊥
some_is_not w e = cc

pub first_is_other : (b : Bool) (w : ℕ) (o : Option ℕ) → (if b then Some w else o) ≡ None → (b ≡ false) × (o ≡ None)
first_is_other true w o e = absurd (some_is_not w e)
first_is_other false w o e = (refl, e)

-- a name that isn't defined becomes the last
pub with_name-new : (rows : List (List ℕ × ℕ)) (name : List ℕ) (word : ℕ) → word_of rows name ≡ None
    → with_name rows name word ≡ rows ++ (name, word) ∷ []
with_name-new [] name word none = refl
with_name-new (row ∷ rows) name word none =
    let parts = first_is_other (same_name row.0 name) row.1 (word_of rows name) none in
    cond-false (same_name row.0 name) ((row.0, word) ∷ rows) (row ∷ with_name rows name word) parts.0
    ∙ ap (λ l. row ∷ l) (with_name-new rows name word parts.1)

-- another word adds no row,
pub length-with_word_at : (rows : List (List ℕ × ℕ)) (place word : ℕ)
    → length (with_word_at rows place word) ≡ length rows
length-with_word_at [] place word = refl
length-with_word_at (row ∷ rows) zero word = refl
length-with_word_at (row ∷ rows) (suc place) word = ap suc (length-with_word_at rows place word)

-- is the word at its place,
word-there : (rows : List (List ℕ × ℕ)) (place word : ℕ) → place < length rows
    → word_at (with_word_at rows place word) place ≡ word
word-there [] place word h = absurd (omega (arith, h))
word-there (row ∷ rows) zero word h = refl
word-there (row ∷ rows) (suc place) word h = word-there rows place word (omega (arith, h))

-- and is taken back by the one that was there
word-back : (rows : List (List ℕ × ℕ)) (place word : ℕ)
    → with_word_at (with_word_at rows place word) place (word_at rows place) ≡ rows
word-back [] place word = refl
word-back (row ∷ rows) zero word = refl
word-back (row ∷ rows) (suc place) word = ap (λ l. row ∷ l) (word-back rows place word)

-- all rows except the last, and the last
last-put : (row : List ℕ × ℕ) (rows : List (List ℕ × ℕ))
    → take (length rows) (row ∷ rows) ++ row_at (row ∷ rows) (length rows) ∷ [] ≡ row ∷ rows
last-put row [] = refl
last-put row (next ∷ rows) = ap (λ l. row ∷ l) (last-put next rows)

-- another row, and one fewer
one-more : (rows : List (List ℕ × ℕ)) (row : List ℕ × ℕ) → length (rows ++ row ∷ []) - 1 ≡ length rows
one-more rows row = omega (arith, length_push rows row)

-- the step that takes a step back can be taken
pub step_back_fits : (names : List (List ℕ × ℕ)) (step : NameStep) → CanStep names step
    → CanStep (stepped names step) (turned names step)
step_back_fits names (define place name word) can = omega (arith, length_push names (name, word))
step_back_fits names undefine can = sym (length-take-le (length names - 1) names (omega arith))
step_back_fits names (reword place word) can = omega (arith, can, length-with_word_at names place word)

-- The step back leads back to the names,
pub step_leads_back : (names : List (List ℕ × ℕ)) (step : NameStep) → CanStep names step
    → stepped (stepped names step) (turned names step) ≡ names
step_leads_back names (define place name word) can =
    take_at names ((name, word) ∷ []) (length (names ++ (name, word) ∷ []) - 1) (sym (one-more names (name, word)))
step_leads_back [] undefine can = absurd (omega (arith, can))
step_leads_back (row ∷ rows) undefine can =
    let fewer : suc (length rows) - 1 ≡ length rows = omega arith in
    ap (λ k. take k (row ∷ rows) ++ row_at (row ∷ rows) k ∷ []) fewer ∙ last-put row rows
step_leads_back names (reword place word) can = word-back names place word

-- and is itself taken back by the step.
pub step_turns_back : (names : List (List ℕ × ℕ)) (step : NameStep) → CanStep names step
    → turned (stepped names step) (turned names step) ≡ step
step_turns_back names (define place name word) can =
    let row : row_at (names ++ (name, word) ∷ []) (length (names ++ (name, word) ∷ []) - 1) ≡ (name, word) =
    ap (row_at (names ++ (name, word) ∷ [])) (one-more names (name, word))
    ∙ get_or-append_seam names (name, word) [] ([], 0) in
    λ i. define ((one-more names (name, word) ∙ sym can) i) (row i).0 (row i).1
step_turns_back names undefine can = refl
step_turns_back names (reword place word) can = ap (reword place) (word-there names place word can)

-- a name that has no place isn't defined,
pub none-placed : (rows : List (List ℕ × ℕ)) (name : List ℕ) → place_in rows name ≡ None → word_of rows name ≡ None
none-placed [] name none = refl
none-placed (row ∷ rows) name none =
    elim (same_name row.0 name) as (λ b. (if b then Some 0 else option_map suc (place_in rows name)) ≡ None
    → (if b then Some row.1 else word_of rows name) ≡ None) [
      | true ↦ λ e. absurd (some_is_not 0 e)
      | false ↦ λ e. none-placed rows name (no-place (place_in rows name) e)
    ] none
  where
    no-place : (o : Option ℕ) → option_map suc o ≡ None → o ≡ None
    no-place None e = refl
    no-place (Some n) e = absurd (some_is_not (suc n) e)

-- and one that isn't defined has none
pub none-defined : (rows : List (List ℕ × ℕ)) (name : List ℕ) → word_of rows name ≡ None → place_in rows name ≡ None
none-defined [] name none = refl
none-defined (row ∷ rows) name none =
    let parts = first_is_other (same_name row.0 name) row.1 (word_of rows name) none in
    cond-false (same_name row.0 name) (Some 0) (option_map suc (place_in rows name)) parts.0
    ∙ ap (option_map suc) (none-defined rows name parts.1)

-- the place before, in a list with another row
less : (o : Option ℕ) (place : ℕ) → option_map suc o ≡ Some place
    → (before : ℕ) × (place ≡ suc before) × (o ≡ Some before)
less None place e = absurd (some_is_not place (sym e))
less (Some n) place e = (n, inside e, refl)
  where
    inside : ◌≡◌ {A = Option ℕ} (Some (suc n)) (Some place) → place ≡ suc n
    inside e = cc

-- a place is within the rows,
place-within : (rows : List (List ℕ × ℕ)) (name : List ℕ) (place : ℕ) → place_in rows name ≡ Some place
    → place < length rows
place-within [] name place there = absurd (some_is_not place (sym there))
place-within (row ∷ rows) name place there =
    elim (same_name row.0 name) as (λ b. (if b then Some 0 else option_map suc (place_in rows name)) ≡ Some place
    → place < length (row ∷ rows)) [
      | true ↦ λ e. let zero_is : place ≡ 0 = first place e in omega arith
      | false ↦ λ e.
          let n = less (place_in rows name) place e in
          let within = place-within rows name n.0 n.2 in
          omega (arith, n.1, within)
    ] there
  where
    first : (place : ℕ) → ◌≡◌ {A = Option ℕ} (Some 0) (Some place) → place ≡ 0
    first place e = cc

-- and another word there is another word for the name
word-placed : (rows : List (List ℕ × ℕ)) (name : List ℕ) (place word : ℕ) → place_in rows name ≡ Some place
    → with_word_at rows place word ≡ with_name rows name word
word-placed [] name place word there = absurd (some_is_not place (sym there))
word-placed (row ∷ rows) name place word there =
    elim (same_name row.0 name) as (λ b. (if b then Some 0 else option_map suc (place_in rows name)) ≡ Some place
    → with_word_at (row ∷ rows) place word ≡ (if b then (row.0, word) ∷ rows else row ∷ with_name rows name word)) [
      | true ↦ λ e. ap (λ p. with_word_at (row ∷ rows) p word) (first place e)
      | false ↦ λ e.
          let n = less (place_in rows name) place e in
          ap (λ p. with_word_at (row ∷ rows) p word) n.1 ∙ ap (λ l. row ∷ l) (word-placed rows name n.0 word n.2)
    ] there
  where
    first : (place : ℕ) → ◌≡◌ {A = Option ℕ} (Some 0) (Some place) → place ≡ 0
    first place e = cc

-- The step to a word gives the name one,
pub step_to_gives : (names : List (List ℕ × ℕ)) (name : List ℕ) (word : ℕ) → Gives names (step_to names name word)
step_to_gives names name word =
    elim (place_in names name) as (λ o. place_in names name ≡ o
    → Gives names (option_map_or (λ place. reword place word) o (define (length names) name word))) [
      | Some place ↦ λ e. place-within names name place e
      | None ↦ λ e. (refl, none-placed names name e)
    ] refl

-- and the name stands for it then.
pub step_to_rows : (names : List (List ℕ × ℕ)) (name : List ℕ) (word : ℕ)
    → stepped names (step_to names name word) ≡ with_name names name word
step_to_rows names name word =
    elim (place_in names name) as (λ o. place_in names name ≡ o
    → stepped names (option_map_or (λ place. reword place word) o (define (length names) name word))
    ≡ with_name names name word) [
      | Some place ↦ λ e. word-placed names name place word e
      | None ↦ λ e. sym (with_name-new names name word (none-placed names name e))
    ] refl
