-- How the names with their words change, one step at a time, and how each step is taken back.
use Rattle.std.specs.Prelude.{◌≡◌, ℕ, ◌-◌, ◌<◌, None, List, [], ◌∷◌, ◌++◌, slice_index_or, length, take}
use Rattle.std.specs.Option.{option_map_or}
use Rattle.vsm_model.specs.Names.{word_of}
use Rattle.vsm_machine.specs.NameTable.{names_of, place_in, row_at, with_word_at, word_at}
use Rattle.vsm_machine.specs.declared.names.NameTable.{NameTable}
use Rattle.vsm_machine.specs.declared.name_changes.NameChange.{NameChange}
use Rattle.vsm_machine.specs.declared.name_changes.NameChange.TheVariants.{Define, Undefine, Reword}

-- one step of the names, by their places
pub data NameStep : Type 0 where
  -- the name is defined at this place, after the others, with this word
  define : ℕ → List ℕ → ℕ → NameStep
  -- the last name is no longer defined
  undefine : NameStep
  -- the name at this place, which is defined, stands for this word
  reword : ℕ → ℕ → NameStep

-- what a change of the code says, if these names are at the places
abbrev pub step_by : (ℕ → List ℕ) → NameChange → NameStep
step_by names (Define place word) = define place (names place) word
step_by names Undefine = undefine
step_by names (Reword place word) = reword place word

-- what it says in a table
abbrev pub step_in : NameTable → NameChange → NameStep
step_in t change = step_by (λ place. slice_index_or (names_of t) place []) change

-- the names after a step
abbrev pub stepped : List (List ℕ × ℕ) → NameStep → List (List ℕ × ℕ)
stepped names (define place name word) = names ++ (name, word) ∷ []
stepped names undefine = take (length names - 1) names
stepped names (reword place word) = with_word_at names place word

-- the step that takes back a step that was taken from these names
abbrev pub turned : List (List ℕ × ℕ) → NameStep → NameStep
turned names (define place name word) = undefine
turned names undefine =
    define (length names - 1) (row_at names (length names - 1)).0 (word_at names (length names - 1))
turned names (reword place word) = reword place (word_at names place)

-- A step can be taken from these names: a name is defined at the first place after them, there is a last one to be
-- undefined, and a name with a new word is one of them.
abbrev pub CanStep : List (List ℕ × ℕ) → NameStep → Type 0
CanStep names (define place name word) = place ≡ length names
CanStep names undefine = 0 < length names
CanStep names (reword place word) = place < length names

-- A step gives a name a word: one that isn't defined, after the others, or one of these.
abbrev pub Gives : List (List ℕ × ℕ) → NameStep → Type 0
Gives names (define place name word) = (place ≡ length names) × (word_of names name ≡ None)
Gives names undefine = ⊥
Gives names (reword place word) = place < length names

-- the step after which the name stands for the word
abbrev pub step_to : List (List ℕ × ℕ) → List ℕ → ℕ → NameStep
step_to names name word =
    option_map_or (λ place. reword place word) (place_in names name) (define (length names) name word)
