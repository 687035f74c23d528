-- The entries of the table's map as rows: look-ups by a key, moves, and writes at a place.
use Rattle.std.proofs.Common.{◌≡◌, ℕ, zero, suc, ◌+◌, ◌<◌, ◌≤◌, ◌==◌, Bool, true, false, cond, ◌&&◌, ◌||◌, not, nat_eq, Option, Some, None, is_some, List, [], ◌∷◌, ◌++◌, length, take, drop, map, get_or, insert, min, remove, position, slice_get, refl, sym, ap, ◌∙◌, arith, true≢false, append_assoc}
use Rattle.std.specs.Option.{option_map_or}
use Rattle.std.specs.Cmp.Lexicographic.{pointwise}
use Rattle.std.specs.Map.{keys_of, lookup, values_of}
use Rattle.std.proofs.lemmas.Bool.Decides.{nat_tests}
use Rattle.std.proofs.lemmas.List.{take_at, take-append-le, length-map, length-take, length-take-le, length_push, take-map, map-append}
use Rattle.std.proofs.lemmas.List.{get_or-map, get_or-take}
use Rattle.std.proofs.Math.Seq.{get_or-append_seam, take-length}
use Rattle.std.proofs.lemmas.List.Quantifiers.{position-Some}
use Rattle.std.proofs.lemmas.Option.{slice_get-get_or}
use Rattle.arrayvec.specs.ArrayString.{ArrayString}
use Rattle.indexmap.specs.IndexMap.{move_index, set_value_at}
use Rattle.vsm_model.specs.Names.{same_name, word_of}
use Rattle.vsm_machine.specs.declared.names.NameTable.{NameTable}
use Rattle.vsm_machine.specs.NameTable.{all_rows, names_of, place_in, row_of, rows_of, with_word_at, word_at}
use Rattle.vsm_machine.specs.SameName.{same_name-is}
use Rattle.vsm_machine.proofs.TableRows.{word_of-within, word_of-behind, word_of-none, take-front, placed, forgot-but, forgot-all}

abbrev Entry : Type 0
Entry = ArrayString × ℕ

-- how the map compares two keys,
abbrev pub same_key : ArrayString → ArrayString → Bool
same_key k l = pointwise nat_eq k.bytes l.bytes

turned : (a b : ℕ) → nat_eq a b ≡ (b == a)
turned a b = grind (arith, nat_tests)

-- which is whether they are the same name
pub same_key-is : (xs ys : List ℕ) → pointwise nat_eq xs ys ≡ same_name ys xs
same_key-is [] [] = refl
same_key-is [] (y ∷ ys) = refl
same_key-is (x ∷ xs) [] = refl
same_key-is (x ∷ xs) (y ∷ ys) = λ i. turned x y i && same_key-is xs ys i

-- a look-up by a key is one by its name
pub lookup-is : (key : ArrayString) (es : List Entry) → lookup (same_key key) es ≡ word_of (map row_of es) key.bytes
lookup-is key [] = refl
lookup-is key (e ∷ es) = λ i. cond (same_key-is key.bytes e.0.bytes i) (Some e.1) (lookup-is key es i)

-- the test of a key is that of its name
test-is : (key : ArrayString) (es : List Entry) (k : ℕ) (a : ArrayString) (b : List ℕ × ℕ) → k < length es →
    same_name (get_or (map row_of es) k b).0 key.bytes ≡ same_key key (get_or (keys_of es) k a)
test-is key [] k a b h = absurd (omega arith)
test-is key (e ∷ es) zero a b h = sym (same_key-is key.bytes e.0.bytes)
test-is key (e ∷ es) (suc k) a b h = test-is key es k a b (omega arith)

pub length-rows : (es : List Entry) → length (map row_of es) ≡ length es
length-rows [] = refl
length-rows (e ∷ es) = ap suc (length-rows es)

length-keys : (es : List Entry) → length (keys_of es) ≡ length es
length-keys [] = refl
length-keys (e ∷ es) = ap suc (length-keys es)

abbrev no_key : ArrayString
no_key = record { bytes = []; spare = [] }

abbrev no_row : List ℕ × ℕ
no_row = ([], 0)

-- a name that is found in the front stands for its word there,
pub front-found : (key : ArrayString) (es : List Entry) (n i : ℕ) → position (same_key key) (keys_of es) ≡ Some i → i < n →
    word_of (take n (map row_of es)) key.bytes ≡ lookup (same_key key) es
front-found key es n i at below =
    let found = position-Some (same_key key) (keys_of es) i no_key at in
    let within : i < length es = omega (arith, found.0, length-keys es) in
    word_of-within (map row_of es) n i key.bytes no_row below (omega (arith, within, length-rows es)) (test-is key es i no_key no_row within ∙ found.1)
    ∙ sym (lookup-is key es)

-- and one that is found after it isn't in the front.
pub front-lacks : (key : ArrayString) (es : List Entry) (n i : ℕ) → position (same_key key) (keys_of es) ≡ Some i → n ≤ i →
    word_of (take n (map row_of es)) key.bytes ≡ None
front-lacks key es n i at behind =
    let found = position-Some (same_key key) (keys_of es) i no_key at in
    let within : i < length es = omega (arith, found.0, length-keys es) in
    word_of-behind (map row_of es) n key.bytes no_row (omega (arith, within, behind, length-rows es))
    (λ k b. test-is key es k no_key no_row (omega (arith, within, behind, b)) ∙ found.2 k (omega (arith, behind, b)))

-- a name that is found in the front has its place there
pub front-place : (key : ArrayString) (es : List Entry) (n i : ℕ) → position (same_key key) (keys_of es) ≡ Some i → i < n →
    place_in (take n (map row_of es)) key.bytes ≡ Some i
front-place key es n i at below =
    let found = position-Some (same_key key) (keys_of es) i no_key at in
    let within : i < length es = omega (arith, found.0, length-keys es) in
    placed (map row_of es) n i key.bytes no_row below (omega (arith, within, length-rows es)) (test-is key es i no_key no_row within ∙ found.1)
    (λ k b. test-is key es k no_key no_row (omega (arith, within, b)) ∙ found.2 k b)

-- a name that isn't found isn't in the front
pub front-none : (key : ArrayString) (es : List Entry) (n : ℕ) → lookup (same_key key) es ≡ None → word_of (take n (map row_of es)) key.bytes ≡ None
front-none key es n none = word_of-none (map row_of es) n key.bytes (sym (lookup-is key es) ∙ none)

-- what `move_index` makes of a list, if it moves an item towards the front
module _ {X : Type 0} (xs : List X) (i n : ℕ) (d : X) (below : n ≤ i) (within : i < length xs) where
  moved : move_index xs i n ≡ take n (remove xs i) ++ get_or xs i d ∷ drop n (remove xs i)
  moved = ap (λ o. option_map_or (λ x. insert (remove xs i) n x) o xs) (slice_get-get_or xs i d within)

  front : take n (remove xs i) ≡ take n xs
  front =
      let long : length (take i xs) ≡ i = length-take-le i xs (omega arith) in
      take-append-le n (take i xs) (drop (suc i) xs) (omega arith) ∙ take-front n i xs below

  front-long : length (take n (remove xs i)) ≡ n
  front-long = ap length front ∙ length-take-le n xs (omega arith)

  -- what is before its new place stays
  pub moved-front : take n (move_index xs i n) ≡ take n xs
  moved-front = ap (take n) moved ∙ take_at (take n (remove xs i)) (get_or xs i d ∷ drop n (remove xs i)) n front-long ∙ front

  -- and the item is next
  pub moved-next : take (n + 1) (move_index xs i n) ≡ take n xs ++ get_or xs i d ∷ []
  moved-next =
      let part = take n (remove xs i) in
      let long : length (part ++ get_or xs i d ∷ []) ≡ n + 1 = length_push part (get_or xs i d) ∙ ap (λ k. k + 1) front-long in
      ap (take (n + 1)) (moved ∙ sym (append_assoc part (get_or xs i d ∷ []) (drop n (remove xs i))))
      ∙ take_at (part ++ get_or xs i d ∷ []) (drop n (remove xs i)) (n + 1) long ∙ ap (λ l. l ++ get_or xs i d ∷ []) front

abbrev no_entry : Entry
no_entry = (no_key, 0)

name_at : (key : ArrayString) (es : List Entry) (i : ℕ) → i < length es → same_key key (get_or (keys_of es) i no_key) ≡ true → (get_or es i no_entry).0.bytes ≡ key.bytes
name_at key [] i h same = absurd (omega arith)
name_at key (e ∷ es) zero h same = same_name-is e.0.bytes key.bytes (sym (same_key-is key.bytes e.0.bytes) ∙ same)
name_at key (e ∷ es) (suc i) h same = name_at key es i (omega arith) same

-- the name that is found after the front is brought next to it
pub name-next : (key : ArrayString) (es : List Entry) (n i : ℕ) → position (same_key key) (keys_of es) ≡ Some i → n ≤ i →
    (word : ℕ) × (take (n + 1) (map row_of (move_index es i n)) ≡ take n (map row_of (move_index es i n)) ++ (key.bytes, word) ∷ [])
name-next key es n i at behind =
    let found = position-Some (same_key key) (keys_of es) i no_key at in
    let within : i < length es = omega (arith, found.0, length-keys es) in
    let entry = get_or es i no_entry in
    let name : entry.0.bytes ≡ key.bytes = name_at key es i within found.1 in (
      entry.1,
      take-map row_of (n + 1) (move_index es i n) ∙ ap (map row_of) (moved-next es i n no_entry behind within) ∙ map-append row_of (take n es) (entry ∷ [])
          ∙ (λ j. map row_of (sym (moved-front es i n no_entry behind within) j) ++ (name j, entry.1) ∷ [])
          ∙ ap (λ l. l ++ (key.bytes, entry.1) ∷ []) (sym (take-map row_of n (move_index es i n))),
    )

-- and the rows of the front stay
pub rows-moved : (es : List Entry) (n i : ℕ) → n ≤ i → i < length es → take n (map row_of (move_index es i n)) ≡ take n (map row_of es)
rows-moved es n i behind within =
    take-map row_of n (move_index es i n) ∙ ap (map row_of) (moved-front es i n no_entry behind within) ∙ sym (take-map row_of n es)

-- a write at a place,
pub rows-written : (es : List Entry) (place word : ℕ) → map row_of (set_value_at es place word) ≡ with_word_at (map row_of es) place word
rows-written [] place word = refl
rows-written (e ∷ es) zero word = refl
rows-written (e ∷ es) (suc place) word = ap (λ l. row_of e ∷ l) (rows-written es place word)

-- and what is read there
pub word-read : (es : List Entry) (place word : ℕ) → slice_get (values_of es) place ≡ Some word → word ≡ word_at (map row_of es) place
word-read [] place word e = absurd (nothing word e)
  where
    nothing : (word : ℕ) → ◌≡◌ {A = Option ℕ} None (Some word) → ⊥
    nothing word e = cc
word-read (e ∷ es) zero word is = inside e.1 word is
  where
    inside : (old word : ℕ) → ◌≡◌ {A = Option ℕ} (Some old) (Some word) → word ≡ old
    inside old word is = cc
word-read (e ∷ es) (suc place) word is = word-read es place word is

-- the rows of the first entries
pub rows-kept : (es new : List Entry) (m n : ℕ) → m ≤ n → new ≡ take n es → take m (map row_of new) ≡ take m (map row_of es)
rows-kept es new m n a is = ap (λ l. take m (map row_of l)) is ∙ ap (take m) (sym (take-map row_of n es)) ∙ take-front m n (map row_of es) a

pub all-kept : (es new : List Entry) (n : ℕ) → new ≡ take n es → map row_of new ≡ take n (map row_of es)
all-kept es new n is = ap (map row_of) is ∙ sym (take-map row_of n es)

-- the next row stays next
pub next-kept : (es new : List Entry) (n : ℕ) (row : List ℕ × ℕ) → new ≡ take (n + 1) es → take (n + 1) (map row_of es) ≡ take n (map row_of es) ++ row ∷ [] →
    take (n + 1) (map row_of new) ≡ take n (map row_of new) ++ row ∷ []
next-kept es new n row is next =
    rows-kept es new (n + 1) (n + 1) (omega arith) is ∙ next ∙ ap (λ l. l ++ row ∷ []) (sym (rows-kept es new n (n + 1) (omega arith) is))

-- and its name is at its place
pub next-named : (rows : List (List ℕ × ℕ)) (n : ℕ) (name : List ℕ) (word : ℕ) → n ≤ length rows → take (n + 1) rows ≡ take n rows ++ (name, word) ∷ [] →
    (n < length rows) × (get_or (map (λ row. row.0) rows) n [] ≡ name)
next-named rows n name word a next =
    let front = length-take-le n rows a in
    let long : length (take (n + 1) rows) ≡ n + 1 = ap length next ∙ length_push (take n rows) (name, word) ∙ ap (λ k. k + 1) front in
    let most : length (take (n + 1) rows) ≡ min (n + 1) (length rows) = length-take (n + 1) rows in
    let within : n < length rows = omega (arith, long, most) in (
      within,
      get_or-map (λ row. row.0) rows n no_row [] within
          ∙ ap (λ row. row.0) (sym (get_or-take (n + 1) rows n no_row (omega arith)) ∙ ap (λ l. get_or l n no_row) next
          ∙ ap (λ k. get_or (take n rows ++ (name, word) ∷ []) k no_row) (sym front)
          ∙ get_or-append_seam (take n rows) (name, word) [] no_row),
    )

-- all rows are defined if no other name is in the table
pub all-defined : (t : NameTable) → length t.table.entries ≡ t.defined → all_rows t ≡ rows_of t
all-defined t all = sym (ap (λ n. take n (all_rows t)) (sym (length-rows t.table.entries ∙ all)) ∙ take-length (all_rows t))

-- as many rows are defined as the table says
pub defined-length : (t : NameTable) → length (rows_of t) ≡ t.defined
defined-length t = length-take-le t.defined (all_rows t) (omega (arith, t.within, length-rows t.table.entries))

-- the names are as many as the entries
pub names-length : (t : NameTable) → length (names_of t) ≡ length t.table.entries
names-length t = length-map (all_rows t) (λ row. row.0) ∙ length-rows t.table.entries

-- the names that are left once all are forgotten except the defined ones and the next,
pub left-with-next : (es new : List Entry) (n : ℕ) (rows : List (List ℕ × ℕ)) (known : List ℕ → Bool) (name : List ℕ) (word : ℕ) → new ≡ take (n + 1) es →
    take (n + 1) (map row_of es) ≡ take n (map row_of es) ++ (name, word) ∷ [] → take n (map row_of es) ≡ rows → known name ≡ true → (other : List ℕ) →
    is_some (word_of (map row_of new) other) ≡ (is_some (word_of rows other) || (same_name name other && known other))
left-with-next es new n rows known name word is next front there other =
    ap (λ l. is_some (word_of l other)) (all-kept es new (n + 1) is ∙ next ∙ ap (λ l. l ++ (name, word) ∷ []) front)
    ∙ forgot-but rows known name word there other

-- and once all are forgotten except the defined ones.
pub left-without : (es new : List Entry) (n : ℕ) (rows : List (List ℕ × ℕ)) (known : List ℕ → Bool) (name : List ℕ) → new ≡ take n es →
    take n (map row_of es) ≡ rows → false ≡ (not (is_some (word_of rows name)) && known name) → (other : List ℕ) →
    is_some (word_of (map row_of new) other) ≡ (is_some (word_of rows other) || (same_name name other && known other))
left-without es new n rows known name is front none other =
    ap (λ l. is_some (word_of l other)) (all-kept es new n is ∙ front) ∙ forgot-all rows known name none other

pub none-is : (o : Option ℕ) → is_some o ≡ false → o ≡ None
none-is (Some w) e = absurd (true≢false e)
none-is None e = refl
