-- The first rows of a table, its front: what they say of a name, and how they change with the table.
use Rattle.std.proofs.Common.{inl, inr, ◌⊎◌, true≢false, Option, ◌≡◌, ℕ, zero, suc, ◌<◌, ◌≤◌, Bool, true, false, not, ◌&&◌, ◌||◌, if◌then◌else◌, Some, None, is_some, IsSome, List, [], ◌∷◌, ◌++◌, length, map, take, get_or, refl, sym, ap, ◌∙◌, arith}
use Rattle.std.specs.Option.{option_map}
use Rattle.std.proofs.lemmas.Bool.{cond-true, cond-false}
use Rattle.std.proofs.lemmas.List.{length-take-le}
use Rattle.vsm_model.specs.Names.{same_name, word_of}
use Rattle.vsm_machine.specs.NameTable.{all_rows, knows, names_of, place_in, row_at, rows_of, with_word_at}
use Rattle.vsm_machine.specs.declared.names.NameTable.{NameTable}
use Rattle.vsm_machine.specs.SameName.{same_name-self, same_name-is}
use Rattle.vsm_machine.specs.StepsBack.{first_is_other}

abbrev Rows : Type 0
Rows = List (List ℕ × ℕ)

-- fewer rows of the front
pub take-front : {X : Type 0} (m n : ℕ) (xs : List X) → m ≤ n → take m (take n xs) ≡ take m xs
take-front zero n xs a = refl
take-front (suc m) zero xs a = absurd (omega arith)
take-front (suc m) (suc n) [] a = refl
take-front (suc m) (suc n) (x ∷ xs) a = ap (λ l. x ∷ l) (take-front m n xs (omega arith))

-- a name that the rows lack, the front lacks
pub word_of-none : (rows : Rows) (n : ℕ) (name : List ℕ) → word_of rows name ≡ None → word_of (take n rows) name ≡ None
word_of-none rows zero name none = refl
word_of-none [] (suc n) name none = refl
word_of-none (row ∷ rows) (suc n) name none =
    let parts = first_is_other (same_name row.0 name) row.1 (word_of rows name) none in
    cond-false (same_name row.0 name) (Some row.1) (word_of (take n rows) name) parts.0 ∙ word_of-none rows n name parts.1

-- a name whose row is in the front
pub word_of-within : (rows : Rows) (n i : ℕ) (name : List ℕ) (d : List ℕ × ℕ) → i < n → i < length rows → same_name (get_or rows i d).0 name ≡ true →
    word_of (take n rows) name ≡ word_of rows name
word_of-within rows zero i name d a b is = absurd (omega arith)
word_of-within [] (suc n) i name d a b is = absurd (omega arith)
word_of-within (row ∷ rows) (suc n) zero name d a b is =
    cond-true (same_name row.0 name) (Some row.1) (word_of (take n rows) name) is ∙ sym (cond-true (same_name row.0 name) (Some row.1) (word_of rows name) is)
word_of-within (row ∷ rows) (suc n) (suc i) name d a b is =
    ap (λ o. if same_name row.0 name then Some row.1 else o) (word_of-within rows n i name d (omega arith) (omega arith) is)

-- a name that no row of the front has
pub word_of-behind : (rows : Rows) (n : ℕ) (name : List ℕ) (d : List ℕ × ℕ) → n ≤ length rows → ((k : ℕ) → k < n → same_name (get_or rows k d).0 name ≡ false) →
    word_of (take n rows) name ≡ None
word_of-behind rows zero name d a none = refl
word_of-behind [] (suc n) name d a none = refl
word_of-behind (row ∷ rows) (suc n) name d a none =
    cond-false (same_name row.0 name) (Some row.1) (word_of (take n rows) name) (none 0 (omega arith))
    ∙ word_of-behind rows n name d (omega arith) (λ k b. none (suc k) (omega arith))

or-true : (b : Bool) → (b || true) ≡ true
or-true true = refl
or-true false = refl

-- a name that the front has, the rows have
pub front-known : (rows : Rows) (n : ℕ) (name : List ℕ) → is_some (word_of (take n rows) name) ≡ true → is_some (word_of rows name) ≡ true
front-known rows zero name h = absurd (true≢false (sym h))
front-known [] (suc n) name h = h
front-known (row ∷ rows) (suc n) name h =
    (elim (same_name row.0 name) as (λ b. is_some (if b then Some row.1 else word_of (take n rows) name) ≡ true → is_some (if b then Some row.1 else word_of rows name) ≡ true) [
      | true ↦ λ _. refl
      | false ↦ front-known rows n name
    ]) h

-- which names rows have, by their names only
abbrev has_name : List (List ℕ) → List ℕ → Bool
has_name [] name = false
has_name (own ∷ names) name = same_name own name || has_name names name

known-by-names : (rows : Rows) (name : List ℕ) → is_some (word_of rows name) ≡ has_name (map (λ row. row.0) rows) name
known-by-names [] name = refl
known-by-names (row ∷ rows) name =
    elim (same_name row.0 name) as (λ b. is_some (if b then Some row.1 else word_of rows name) ≡ (b || has_name (map (λ r. r.0) rows) name)) [
      | true ↦ refl
      | false ↦ known-by-names rows name
    ]

pub knows-same : (s t : NameTable) → names_of t ≡ names_of s → (name : List ℕ) → knows t name ≡ knows s name
knows-same s t e name = known-by-names (all_rows t) name ∙ ap (λ l. has_name l name) e ∙ sym (known-by-names (all_rows s) name)

-- a defined name it holds
pub defined-known : (s : NameTable) (name : List ℕ) → is_some (word_of (rows_of s) name) ≡ true → knows s name ≡ true
defined-known s name = front-known (all_rows s) s.defined name

-- a name that it then holds it held, or it is the one that is next
pub gets-next : (s : NameTable) (own name : List ℕ) (d : Option (List ℕ)) → d ≡ Some own → (same_name own name || is_some (word_of (rows_of s) name)) ≡ true → (knows s name ≡ true) ⊎ (d ≡ Some name)
gets-next s own name d is h =
    (elim (same_name own name) as (λ b. same_name own name ≡ b → (b || is_some (word_of (rows_of s) name)) ≡ true → (knows s name ≡ true) ⊎ (d ≡ Some name)) [
      | true ↦ λ same _. inr (is ∙ ap Some (same_name-is own name same))
      | false ↦ λ _ known. inl (defined-known s name known)
    ]) refl h

-- one more row, one more name
pub knows-more : (rows : Rows) (name other : List ℕ) (word : ℕ) → is_some (word_of (rows ++ (name, word) ∷ []) other) ≡ (same_name name other || is_some (word_of rows other))
knows-more [] name other word = elim (same_name name other) as (λ b. is_some (if b then Some word else None) ≡ (b || false)) [ true ↦ refl | false ↦ refl ]
knows-more (row ∷ rows) name other word =
    elim (same_name row.0 other) as (λ b. is_some (if b then Some row.1 else word_of (rows ++ (name, word) ∷ []) other)
    ≡ (same_name name other || is_some (if b then Some row.1 else word_of rows other))) [
      | true ↦ sym (or-true (same_name name other))
      | false ↦ knows-more rows name other word
    ]

-- the last name stands for a word
pub last-stands : (rows : Rows) (name : List ℕ) (word : ℕ) → IsSome (word_of (rows ++ (name, word) ∷ []) name)
last-stands rows name word = knows-more rows name name word ∙ ap (λ b. b || is_some (word_of rows name)) (same_name-self name)

-- a name that is already in the rows is no other name
pub knows-again : (rows : Rows) (name other : List ℕ) → is_some (word_of rows name) ≡ true →
    is_some (word_of rows other) ≡ (same_name name other || is_some (word_of rows other))
knows-again rows name other known =
    elim (same_name name other) as (λ b. same_name name other ≡ b → is_some (word_of rows other) ≡ (b || is_some (word_of rows other))) [
      | true ↦ λ same. ap (λ n. is_some (word_of rows n)) (sym (same_name-is name other same)) ∙ known
      | false ↦ λ _. refl
    ] refl

-- another word at a place of the front,
pub take-with_word : (n : ℕ) (rows : Rows) (place word : ℕ) → take n (with_word_at rows place word) ≡ with_word_at (take n rows) place word
take-with_word zero rows place word = refl
take-with_word (suc n) [] place word = refl
take-with_word (suc n) (row ∷ rows) zero word = refl
take-with_word (suc n) (row ∷ rows) (suc place) word = ap (λ l. row ∷ l) (take-with_word n rows place word)

-- or after all rows,
with_word-behind : (rows : Rows) (place word : ℕ) → length rows ≤ place → with_word_at rows place word ≡ rows
with_word-behind [] place word h = refl
with_word-behind (row ∷ rows) zero word h = absurd (omega (arith, h))
with_word-behind (row ∷ rows) (suc place) word h = ap (λ l. row ∷ l) (with_word-behind rows place word (omega (arith, h)))

-- or next to the front, leaves the front,
pub front-with_word : (n : ℕ) (rows : Rows) (word : ℕ) → n ≤ length rows → take n (with_word_at rows n word) ≡ take n rows
front-with_word n rows word a = take-with_word n rows n word ∙ with_word-behind (take n rows) n word (omega (arith, length-take-le n rows a))

-- and the names.
pub names-with_word : (rows : Rows) (place word : ℕ) → map (λ row. row.0) (with_word_at rows place word) ≡ map (λ row. row.0) rows
names-with_word [] place word = refl
names-with_word (row ∷ rows) zero word = refl
names-with_word (row ∷ rows) (suc place) word = ap (λ l. row.0 ∷ l) (names-with_word rows place word)

-- the next row gets its word, and is one of the front
pub rows-defined : (all : Rows) (n word : ℕ) → n < length all → take (suc n) (with_word_at all n word) ≡ take n all ++ ((row_at all n).0, word) ∷ []
rows-defined [] n word h = absurd (omega (arith, h))
rows-defined (row ∷ rows) zero word h = refl
rows-defined (row ∷ rows) (suc n) word h = ap (λ l. row ∷ l) (rows-defined rows n word (omega (arith, h)))

-- the place of a name that a row of the front has, and none before it
pub placed : (rows : Rows) (n i : ℕ) (name : List ℕ) (d : List ℕ × ℕ) → i < n → i < length rows → same_name (get_or rows i d).0 name ≡ true →
    ((k : ℕ) → k < i → same_name (get_or rows k d).0 name ≡ false) → place_in (take n rows) name ≡ Some i
placed rows zero i name d a b is first = absurd (omega arith)
placed [] (suc n) i name d a b is first = absurd (omega arith)
placed (row ∷ rows) (suc n) zero name d a b is first = cond-true (same_name row.0 name) (Some 0) (option_map suc (place_in (take n rows) name)) is
placed (row ∷ rows) (suc n) (suc i) name d a b is first =
    cond-false (same_name row.0 name) (Some 0) (option_map suc (place_in (take n rows) name)) (first 0 (omega arith))
    ∙ ap (option_map suc) (placed rows n i name d (omega arith) (omega arith) is (λ k c. first (suc k) (omega arith)))

pub or-false : (b : Bool) → b ≡ (b || false)
or-false true = refl
or-false false = refl

either : (x k : Bool) → k ≡ true → true ≡ (x || k)
either true k e = refl
either false k e = sym e

neither : (x k : Bool) → (not x && k) ≡ false → x ≡ (x || k)
neither true k e = refl
neither false k e = sym e

-- all names are forgotten except those of the rows and one that was known
pub forgot-but : (rows : Rows) (known : List ℕ → Bool) (name : List ℕ) (word : ℕ) → known name ≡ true → (other : List ℕ) →
    is_some (word_of (rows ++ (name, word) ∷ []) other) ≡ (is_some (word_of rows other) || (same_name name other && known other))
forgot-but rows known name word there other =
    knows-more rows name other word
    ∙ elim (same_name name other) as (λ b. same_name name other ≡ b → (b || is_some (word_of rows other)) ≡ (is_some (word_of rows other) || (b && known other))) [
      | true ↦ λ same. either (is_some (word_of rows other)) (known other) (ap known (sym (same_name-is name other same)) ∙ there)
      | false ↦ λ _. or-false (is_some (word_of rows other))
    ] refl

-- all names are forgotten except those of the rows, if the other one is among these or wasn't known
pub forgot-all : (rows : Rows) (known : List ℕ → Bool) (name : List ℕ) → false ≡ (not (is_some (word_of rows name)) && known name) → (other : List ℕ) →
    is_some (word_of rows other) ≡ (is_some (word_of rows other) || (same_name name other && known other))
forgot-all rows known name none other =
    elim (same_name name other) as (λ b. same_name name other ≡ b → is_some (word_of rows other) ≡ (is_some (word_of rows other) || (b && known other))) [
      | true ↦ λ same.
          let e : name ≡ other = same_name-is name other same in
          neither (is_some (word_of rows other)) (known other) ((λ i. not (is_some (word_of rows (sym e i))) && known (sym e i)) ∙ sym none)
      | false ↦ λ _. or-false (is_some (word_of rows other))
    ] refl

-- the name that is kept is kept
pub own-kept : (x y s k : Bool) → y ≡ (x || (s && k)) → s ≡ true → k ≡ true → y ≡ true
own-kept x y s k e a b = e ∙ (λ i. x || (a i && b i)) ∙ or-true x
