-- What is said of the cells of a cell pool, as text.
use Rattle.std.specs.Prelude.{ℕ, ◌*◌, ◌==◌, List, [], ◌∷◌, codes, if◌then◌else◌}
use Rattle.std.specs.Fmt.{decimal}
use Rattle.explain_text.specs.Pieces.{line}

abbrev pub no_cell_text : List ℕ
no_cell_text = line (codes "it has no free cell" ∷ [])

abbrev pub no_extent_text : List ℕ
no_extent_text = line (codes "a conditional request asks for no further extent" ∷ [])

abbrev pub cells_word : ℕ → List ℕ
cells_word count = if count == 1 then codes " cell of " else codes " cells of "

-- a number of cells of a size, in a further extent
abbrev pub further_text : ℕ → ℕ → List ℕ
further_text cells size =
    line
    (codes "a further extent has " ∷ decimal cells ∷ cells_word cells ∷ decimal size ∷ codes " bytes: "
    ∷ decimal (cells * size) ∷ codes " bytes" ∷ [])
