-- Pages that few bytes keep: of each less than half is taken.
use Rattle.std.specs.Prelude.{ℕ, zero, suc, ◌+◌, ◌*◌, ◌/◌, min, Bool, false, not, ◌==◌, nat_lt, if◌then◌else◌, List, []}
use Rattle.std.specs.Prelude.{◌∷◌, ◌++◌, codes, filter, flat_map, fold, map, reverse}
use Rattle.std.specs.Fmt.{decimal}
use Rattle.explain_text.specs.Rows.{Meant, address, end_of, fields_of, number, only_in_text, start_of}
use Rattle.explain_text.specs.declared.json.Form.{Form}
use Rattle.explain_text.specs.declared.json.Form.TheVariants as form
use Rattle.explain_areas.specs.declared.keeps.KeptPage.{KeptPage}
use Rattle.explain_areas.specs.declared.parts.LineArea.{LineArea}

-- a page, how many of its bytes are taken, and the lines whose statements took them, ascending
pub record TakenPage : Type 0 where
  pub page : ℕ
  pub bytes : ℕ
  pub lines : List ℕ

-- ascending lines with another one, each once
abbrev pub with_line : ℕ → List ℕ → List ℕ
with_line line [] = line ∷ []
with_line line (x ∷ xs) =
    if nat_lt x line then x ∷ with_line line xs else if x == line then x ∷ xs else line ∷ x ∷ xs

-- bytes of a page, which the statement of a line took: the first ones, or more of them
abbrev pub begun : ℕ → ℕ → ℕ → TakenPage
begun line page bytes = record { page = page; bytes = bytes; lines = line ∷ [] }

abbrev pub with_more : ℕ → ℕ → TakenPage → TakenPage
with_more line bytes p = record p { bytes = p.bytes + bytes; lines = with_line line p.lines }

-- Bytes of a page after pages that are listed backwards: they're counted with those of the last one if it's the same
-- page.
abbrev pub with_bytes : ℕ → ℕ → ℕ → List TakenPage → List TakenPage
with_bytes line page bytes [] = begun line page bytes ∷ []
with_bytes line page bytes (last ∷ others) =
    if last.page == page then with_more line bytes last ∷ others else begun line page bytes ∷ last ∷ others

-- this many doublewords from one on, each in its page
abbrev pub with_doublewords : ℕ → ℕ → ℕ → List TakenPage → List TakenPage
with_doublewords line start zero pages = pages
with_doublewords line start (suc n) pages =
    with_bytes line ((start + n) / 512) 8 (with_doublewords line start n pages)

abbrev pub with_area : List TakenPage → LineArea → List TakenPage
with_area pages a = with_doublewords a.line a.start a.count pages

-- less than half of a page is taken
abbrev pub is_kept : TakenPage → Bool
is_kept p = nat_lt p.bytes 2048

-- The pages of areas of which less than half is taken, in the order of the areas.
abbrev pub pages_kept : List LineArea → List TakenPage
pages_kept areas = reverse (filter is_kept (fold with_area [] areas))

-- ---- as they're written

-- what precedes the first of some lines, which others may follow; what precedes each further one; and what ends them
abbrev pub opening : Form → List ℕ → List ℕ
opening form.Text [] = codes ", of line "
opening form.Text (next ∷ rest) = codes ", of lines "
opening form.Json rest = codes ",\"lines\":["

abbrev pub separator : Form → List ℕ → List ℕ
separator form.Text [] = codes " and "
separator form.Text (next ∷ rest) = codes ", "
separator form.Json rest = codes ","

abbrev pub closing : Form → List ℕ
closing form.Text = []
closing form.Json = codes "]"

abbrev pub further_lines : Form → List ℕ → List ℕ
further_lines form [] = []
further_lines form (line ∷ rest) = separator form rest ++ decimal line ++ further_lines form rest

abbrev pub lines_in : Form → List ℕ → List ℕ
lines_in form [] = []
lines_in form (line ∷ rest) = opening form rest ++ decimal line ++ further_lines form rest ++ closing form

-- the address of a page
abbrev pub page_address : ℕ → ℕ
page_address page = min (4096 * page) 4294967295

abbrev pub page_fields : TakenPage → List Meant
page_fields p =
    address (codes "page ") (codes "address") (page_address p.page) ∷ number (codes ": ") (codes "bytes") p.bytes
    ∷ only_in_text (codes " of 4096 bytes") ∷ []

abbrev pub page_in : Form → TakenPage → List ℕ
page_in form p =
    start_of form (codes "page") ++ fields_of form (page_fields p) ++ lines_in form p.lines ++ end_of form

abbrev pub pages_in : Form → List TakenPage → List ℕ
pages_in form pages = flat_map (page_in form) pages

-- ---- as the code has them

abbrev pub page_of : KeptPage → TakenPage
page_of p = record { page = p.page; bytes = p.bytes; lines = p.lines.items }

-- backwards, as they're listed above
abbrev pub turned : List KeptPage → List TakenPage
turned pages = reverse (map page_of pages)

-- as many bytes as the code can count
abbrev pub counted : TakenPage → TakenPage
counted p = record p { bytes = min p.bytes 4294967295 }

-- Of pages that are listed backwards, the code has the last one, and of the others those that are kept.
abbrev pub held : List TakenPage → List TakenPage
held [] = []
held (last ∷ others) = counted last ∷ filter is_kept others

-- the last one is this page, or isn't kept; and pages without it then
abbrev pub is_last : ℕ → List TakenPage → Bool
is_last page [] = false
is_last page (last ∷ others) = last.page == page

abbrev pub ends_full : List TakenPage → Bool
ends_full [] = false
ends_full (last ∷ others) = not (is_kept last)

abbrev pub without_full : List TakenPage → List TakenPage
without_full [] = []
without_full (last ∷ others) = if is_kept last then last ∷ others else others
