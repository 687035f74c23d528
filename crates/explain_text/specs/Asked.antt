-- Why an area or a cell pool is refused, as text, by what is asked for.
use Rattle.std.specs.Prelude.{ℕ, ◌*◌, ◌%◌, ◌==◌, nat_lt, List, [], ◌∷◌, codes, if◌then◌else◌}
use Rattle.std.specs.Fmt.{decimal}
use Rattle.vsm_model.specs.declared.services.Build.{Build}
use Rattle.vsm_model.specs.declared.services.Lengths.{Lengths}
use Rattle.vsm_model.specs.declared.services.Lengths.TheVariants.{Fixed, Variable}
use Rattle.vsm_model.specs.Cells.{secondary_count}
use Rattle.vsm_model.specs.Texts.{hexadecimal}
use Rattle.explain_text.specs.Pieces.{bytes_word, line}

-- ---- the number of a subpool

abbrev pub left_out_text : ℕ → List ℕ
left_out_text number =
    line
    (codes "subpool " ∷ decimal number ∷ codes " needs operands that are left out here: 0 to 127 can be asked for"
    ∷ [])

abbrev pub too_high_text : ℕ → List ℕ
too_high_text number = line (codes "subpool " ∷ decimal number ∷ codes " is above 127" ∷ [])

abbrev pub zero_text : List ℕ
zero_text = line (codes "subpool 0 can't be released whole" ∷ [])

-- what follows the owner of a subpool that is to be released whole
abbrev pub owner_note : List ℕ
owner_note = codes "; only its owner releases it whole"

-- ---- lengths and addresses

abbrev pub none_asked_text : List ℕ
none_asked_text = line (codes "a length of 0 bytes is asked for" ∷ [])

abbrev pub lengths_text : Lengths → List ℕ
lengths_text (Fixed length) = none_asked_text
lengths_text (Variable most least) =
    if nat_lt most least
    then line
    (codes "the minimum, " ∷ decimal least ∷ codes ", is above the maximum, " ∷ decimal most ∷ [])
    else none_asked_text

abbrev pub empty_text : List ℕ
empty_text = line (codes "a length of 0 bytes is released" ∷ [])

abbrev pub misaligned_text : ℕ → List ℕ
misaligned_text address =
    line
    (hexadecimal 8 address ∷ codes " is no multiple of 8: it is " ∷ decimal (address % 8) ∷ bytes_word (address % 8)
    ∷ codes " after one" ∷ [])

-- ---- names

abbrev pub names_full_text : List ℕ
names_full_text = line (codes "1,024 names are defined, and the one that is to get the address isn't" ∷ [])

-- ---- the cells of a cell pool

abbrev pub bad_cells_text : Build → List ℕ
bad_cells_text b =
    line
    (codes "a size is a multiple of 4 from 4 to 4096, and a count 1 to 4096; this asks for cells of " ∷ decimal b.size
    ∷ bytes_word b.size ∷ codes ", " ∷ decimal b.primary ∷ codes " at first and then "
    ∷ decimal (secondary_count b) ∷ [])

abbrev pub pool_exists_text : List ℕ → List ℕ
pool_exists_text name = line (codes "there is a cell pool " ∷ name ∷ codes " already" ∷ [])

abbrev pub pools_full_text : List ℕ
pools_full_text = line (codes "there are 256 cell pools, which is the most" ∷ [])
