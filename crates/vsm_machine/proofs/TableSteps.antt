-- What a write at a place, and the number of the defined rows, make of a table's rows.
use Rattle.std.proofs.Common.{◌≡◌, ℕ, suc, ◌+◌, ◌-◌, ◌<◌, ◌≤◌, true, Some, None, List, [], ◌∷◌, ◌++◌, get_or, length, map, take, refl, sym, ap, ◌∙◌, arith}
use Rattle.std.specs.Prelude.{nat_lt}
use Rattle.std.proofs.lemmas.Bool.{lt-ltb, ltb-true}
use Rattle.std.proofs.lemmas.List.{get_or-take}
use Rattle.std.proofs.Math.ListN.{get_or-map}
use Rattle.vsm_model.specs.Names.{word_of}
use Rattle.vsm_machine.specs.declared.names.NameTable.{NameTable}
use Rattle.vsm_machine.specs.declared.name_changes.NameChange.{NameChange}
use Rattle.vsm_machine.specs.declared.name_changes.NameChange.TheVariants.{Define, Undefine, Reword}
use Rattle.vsm_machine.specs.NameChanges.{define, reword, step_by, step_in, stepped, turned, undefine, Gives}
use Rattle.vsm_machine.specs.NameSteps.{FitsTable}
use Rattle.vsm_machine.specs.NameTable.{all_rows, names_of, row_at, rows_of, with_word_at, word_at, IsNext}
use Rattle.vsm_machine.proofs.Entries.{defined-length, length-rows, names-length, next-named}
use Rattle.vsm_machine.proofs.TableRows.{front-with_word, names-with_word, rows-defined, take-front, take-with_word}

-- a place of a table's names is one of its entries,
pub place-there : (t : NameTable) (place : ℕ) → nat_lt place (length (names_of t)) ≡ true → place < length t.table.entries
place-there t place ready = let within = ltb-true place (length (names_of t)) ready in omega (arith, within, names-length t)

-- and one of its entries is one of its names
pub there-place : (t : NameTable) (place : ℕ) → place < length t.table.entries → nat_lt place (length (names_of t)) ≡ true
there-place t place within = lt-ltb place (length (names_of t)) (omega (arith, within, names-length t))

name-there : (t : NameTable) (place : ℕ) → get_or (names_of t) place [] ≡ (row_at (all_rows t) place).0
name-there t place = get_or-map (λ row. row.0) (all_rows t) place ([], 0)

front-row : (t : NameTable) (place : ℕ) → place < t.defined → row_at (rows_of t) place ≡ row_at (all_rows t) place
front-row t place h = get_or-take t.defined (all_rows t) place ([], 0) h

module _ (t : NameTable) (after : List (List ℕ × ℕ)) where
  -- no row has another name,
  pub written-names : (place word : ℕ) → after ≡ with_word_at (all_rows t) place word → map (λ row. row.0) after ≡ names_of t
  written-names place word is = ap (map (λ row. row.0)) is ∙ names-with_word (all_rows t) place word

  -- a name is defined,
  pub defined-rows : (n place word : ℕ) → after ≡ with_word_at (all_rows t) place word → n ≡ t.defined + 1 → place ≡ length (rows_of t) →
      place < length t.table.entries → take n after ≡ stepped (rows_of t) (define place (get_or (names_of t) place []) word)
  defined-rows n place word is more at within =
      let d = t.defined in
      let here : place ≡ d = at ∙ defined-length t in
      let long : d < length (all_rows t) = omega (arith, here, within, length-rows t.table.entries) in
      let count : n ≡ suc d = omega (arith, more) in
      (λ i. take (count i) (is i)) ∙ ap (λ p. take (suc d) (with_word_at (all_rows t) p word)) here ∙ rows-defined (all_rows t) d word long
      ∙ ap (λ name. rows_of t ++ (name, word) ∷ []) (sym (name-there t d) ∙ ap (λ p. get_or (names_of t) p []) (sym here))

  -- or the last one undefined,
  pub undefined-rows : (n word : ℕ) → after ≡ with_word_at (all_rows t) n word → n ≡ t.defined - 1 → 0 < length (rows_of t) → take n after ≡ stepped (rows_of t) undefine
  undefined-rows n word is fewer some =
      let d = t.defined in
      let count : n ≡ length (rows_of t) - 1 = omega (arith, fewer, defined-length t) in
      let within : n ≤ length (all_rows t) = omega (arith, fewer, t.within, length-rows t.table.entries) in
      let less : n ≤ d = omega (arith, fewer) in
      ap (take n) is ∙ front-with_word n (all_rows t) word within ∙ sym (take-front n d (all_rows t) less) ∙ ap (λ k. take k (rows_of t)) count

  pub undefined-turned : (n word : ℕ) → map (λ row. row.0) after ≡ names_of t → n ≡ t.defined - 1 → 0 < length (rows_of t) → word ≡ word_at (all_rows t) n →
      define n (get_or (map (λ row. row.0) after) n []) word ≡ turned (rows_of t) undefine
  undefined-turned n word same fewer some old =
      let count : n ≡ length (rows_of t) - 1 = omega (arith, fewer, defined-length t) in
      let below : n < t.defined = omega (arith, fewer, some, defined-length t) in
      let row = front-row t n below in
      (λ i. define n (get_or (same i) n []) (old i))
      ∙ (λ i. define n (name-there t n i) (word_at (all_rows t) n))
      ∙ (λ i. define n (sym row i).0 (sym row i).1)
      ∙ ap (λ k. define k (row_at (rows_of t) k).0 (word_at (rows_of t) k)) count

  -- or one gets another word
  pub reworded-rows : (n place word : ℕ) → after ≡ with_word_at (all_rows t) place word → n ≡ t.defined → take n after ≡ stepped (rows_of t) (reword place word)
  reworded-rows n place word is same = (λ i. take (same i) (is i)) ∙ take-with_word t.defined (all_rows t) place word

-- a change that defines the next name fits
module _ (t : NameTable) (name : List ℕ) (next : IsNext t name) (place word : ℕ) (at : place ≡ length (rows_of t)) where
  here : place ≡ t.defined
  here = at ∙ defined-length t

  named : (t.defined < length (all_rows t)) × (get_or (names_of t) t.defined [] ≡ name)
  named = next-named (all_rows t) t.defined name next.0 (omega (arith, t.within, length-rows t.table.entries)) next.1

  pub next-says : step_in t (Define place word) ≡ define place name word
  next-says = ap (λ n. define place n word) (ap (λ p. get_or (names_of t) p []) here ∙ named.1)

  pub next-fits : FitsTable t (Some (Define place word))
  next-fits = (at, there-place t place (omega (arith, here, named.0, length-rows t.table.entries)))

-- A change that gives a name a word says so, if the name is the next one unless it's defined,
pub given-says : (t : NameTable) (name : List ℕ) (change : NameChange) → Gives (rows_of t) (step_by (λ place. name) change) →
    (word_of (rows_of t) name ≡ None → IsNext t name) → step_in t change ≡ step_by (λ place. name) change
given-says t name (Define place word) h next = next-says t name (next h.1) place word h.0
given-says t name Undefine h next = absurd h
given-says t name (Reword place word) h next = refl

-- and it fits.
pub given-fits : (t : NameTable) (name : List ℕ) (change : NameChange) → Gives (rows_of t) (step_by (λ place. name) change) →
    (word_of (rows_of t) name ≡ None → IsNext t name) → FitsTable t (Some change)
given-fits t name (Define place word) h next = next-fits t name (next h.1) place word h.0
given-fits t name Undefine h next = absurd h
given-fits t name (Reword place word) h next = (h, refl)
