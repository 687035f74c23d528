-- What is left taken at the end, as text.
use Rattle.std.specs.Prelude.{ℕ, Bool, ◌==◌, ◌||◌, if◌then◌else◌, nat_lt, List, [], ◌∷◌, ◌++◌, codes, length, take}
use Rattle.std.specs.Prelude.{Option, Some, None, option_map}
use Rattle.std.specs.Fmt.{decimal}
use Rattle.std.specs.List.{flat_map}
use Rattle.vsm_model.specs.Texts.{hexadecimal}
use Rattle.explain_text.specs.Json.{bytes_in}
use Rattle.explain_text.specs.declared.json.Form.{Form}
use Rattle.explain_who.specs.LineTexts.{counted, plural}
use Rattle.explain_who.specs.TakenTexts.{subpool_text}
use Rattle.explain_findings.specs.Left.{Sum}
use Rattle.explain_findings.specs.declared.left.Left.{Left}

-- ---- what one line took

-- where it begins: an area, a cell, or the first of several areas
abbrev pub start_text : ℕ → ℕ → List ℕ
start_text areas address =
    if nat_lt 1 areas
    then codes " in " ++ counted areas (codes "area") ++ codes ", the first at " ++ hexadecimal 8 address
    else codes " at " ++ hexadecimal 8 address

abbrev pub cell_text : Form → Option (List ℕ) → List ℕ
cell_text f None = []
cell_text f (Some pool) = codes ", a cell of cell pool " ++ bytes_in f pool

abbrev pub ended_text : Bool → List ℕ
ended_text ended = if ended then codes ", which has ended" else []

abbrev pub left_text : Form → Left → List ℕ
left_text f l =
    codes "LEFT: " ++ counted l.bytes (codes "byte") ++ start_text l.areas l.address
    ++ cell_text f (option_map (λ pool. pool.items) l.pool)
    ++ codes ", " ++ subpool_text l.subpool ++ codes ", obtained by task " ++ decimal l.task ++ ended_text l.ended

-- ---- the sums

abbrev pub is_left : Sum → Bool
is_left sum = nat_lt 0 sum.areas || nat_lt 0 sum.cells

-- areas, cells, or both
abbrev pub kinds_text : ℕ → ℕ → List ℕ
kinds_text areas cells =
    if cells == 0 then counted areas (codes "area")
    else if areas == 0 then counted cells (codes "cell")
    else counted areas (codes "area") ++ codes " and " ++ counted cells (codes "cell")

abbrev pub next_line : ℕ → List ℕ
next_line n = codes ", " ++ decimal n

-- The first ten numbers of lines; two points stand for further ones.
abbrev pub first_ten : List ℕ → List ℕ
first_ten [] = []
first_ten (n ∷ ns) = decimal n ++ flat_map next_line (take 9 ns)

abbrev pub more_lines : List ℕ → List ℕ
more_lines lines = if nat_lt 10 (length lines) then codes ", .." else []

abbrev pub lines_text : List ℕ → List ℕ
lines_text lines = codes ", of line" ++ plural (length lines) ++ codes " " ++ first_ten lines ++ more_lines lines

abbrev pub left_in_all_text : Sum → List ℕ
left_in_all_text sum =
    codes "LEFT: " ++ counted sum.bytes (codes "byte") ++ codes " in " ++ kinds_text sum.areas sum.cells
    ++ lines_text sum.lines
