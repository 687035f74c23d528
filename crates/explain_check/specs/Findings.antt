-- What is found of a statement, as a check says it.
use Rattle.std.specs.Prelude.{ℕ, Bool, false, true, ◌==◌, ◌||◌, if◌then◌else◌, is_some, nat_lt, List, [], ◌∷◌}
use Rattle.std.specs.Prelude.{◌++◌, codes, Option, Some, None, Result, Ok, Err, option_copied, unwrap_or}
use Rattle.std.specs.Fmt.{decimal}
use Rattle.vsm_model.specs.Texts.{hexadecimal}
use Rattle.macro_operands.specs.declared.faults.FaultKind.{FaultKind}
use Rattle.macro_statements.specs.Requests.{Asked, asked_in}
use Rattle.script_steps.specs.Output.{Marked}
use Rattle.script_steps.specs.declared.responses.Response.{Response}
use Rattle.explain_text.specs.Json.{bytes_in}
use Rattle.explain_text.specs.declared.json.Form.{Form}
use Rattle.explain_who.specs.TakenTexts.{subpool_text}
use Rattle.explain_list.specs.Pages.{fault_told}
use Rattle.explain_findings.specs.Endings.{name_used}
use Rattle.explain_findings.specs.declared.findings.Finding.{Finding}
use Rattle.explain_findings.specs.declared.findings.Outside.{Outside}
use Rattle.explain_findings.specs.declared.findings.Part.{Part}
use Rattle.explain_findings.specs.declared.findings.Part.TheVariants as part_kind
use Rattle.explain_findings.specs.declared.findings.Unset.{Unset}
use Rattle.explain_findings.specs.declared.homes.Home.{Home}
use Rattle.explain_findings.specs.declared.homes.Home.TheVariants as home
use Rattle.explain_findings.specs.Left.{Sum}
use Rattle.explain_findings.specs.declared.left.Left.{Left}
use Rattle.explain_check.specs.LeftTexts.{left_in_all_text, left_text}
use Rattle.explain_check.specs.declared.refusals.Answered.{Answered}
use Rattle.explain_check.specs.declared.refusals.OnLine.{OnLine as OnLineOf}

-- Bytes outside of the area or the cell of the first one; a name, and the line that ended the area or the cell there; a
-- release that takes back less than an area, or of several; a byte that is read and that nothing stored; what a line
-- took and the script leaves; and the sums of all that is left.
pub data Found : Type 0 where
  outside : Outside → Found
  stale : List ℕ → ℕ → Found
  part : Part → Found
  unset : Unset → Found
  left : Left → Found
  left_in_all : Sum → Found

-- Where a byte is.
abbrev pub home_text : Form → Home → List ℕ
home_text f home.Unassigned = codes "in no page"
home_text f (home.Free p) = codes "in free storage of " ++ subpool_text p
home_text f (home.Area p line) = codes "in the area of line " ++ decimal line
home_text f (home.Cell pool start) = codes "in another cell of cell pool " ++ bytes_in f pool.items
home_text f (home.FreeCell pool) = codes "in a free cell of cell pool " ++ bytes_in f pool.items
home_text f (home.PastCells pool) = codes "in no cell of cell pool " ++ bytes_in f pool.items

abbrev pub part_text : Part → List ℕ
part_text (part_kind.OfArea line) = codes "PART: a part of the area of line " ++ decimal line
part_text part_kind.OfSeveral = codes "PART: more than one area"

abbrev pub unset_text : Unset → List ℕ
unset_text u =
    codes "UNSET: nothing stored " ++ hexadecimal 8 u.address ++ (codes " since line " ++ decimal u.line)
    ++ codes " took it"

abbrev pub found_text : Form → Found → List ℕ
found_text f (outside o) = codes "OUTSIDE: " ++ hexadecimal 8 o.address ++ codes " is " ++ home_text f o.home
found_text f (stale name line) =
    codes "STALE: what " ++ bytes_in f name ++ (codes " names was ended by line " ++ decimal line)
found_text f (part p) = part_text p
found_text f (unset u) = unset_text u
found_text f (left l) = left_text f l
found_text f (left_in_all sum) = left_in_all_text sum

abbrev pub found_word : Found → List ℕ
found_word (outside o) = codes "OUTSIDE"
found_word (stale name line) = codes "STALE"
found_word (part p) = codes "PART"
found_word (unset u) = codes "UNSET"
found_word (left l) = codes "LEFT"
found_word (left_in_all sum) = codes "LEFT"

-- Whether it's wrong.
abbrev pub found_counts : Found → Bool
found_counts (outside o) = true
found_counts (stale name line) = true
found_counts (part p) = false
found_counts (unset u) = false
found_counts (left l) = true
found_counts (left_in_all sum) = false

-- The line that took the area or the cell where it's found, if the text names it;
abbrev pub home_took : Home → Option ℕ
home_took home.Unassigned = None
home_took (home.Free p) = None
home_took (home.Area p line) = Some line
home_took (home.Cell pool start) = None
home_took (home.FreeCell pool) = None
home_took (home.PastCells pool) = None

abbrev pub part_took : Part → Option ℕ
part_took (part_kind.OfArea line) = Some line
part_took part_kind.OfSeveral = None

abbrev pub found_took : Found → Option ℕ
found_took (outside o) = home_took o.home
found_took (stale name line) = None
found_took (part p) = part_took p
found_took (unset u) = Some u.line
found_took (left l) = None
found_took (left_in_all sum) = None

-- and the line that ended it.
abbrev pub found_released : Found → Option ℕ
found_released (outside o) = None
found_released (stale name line) = Some line
found_released (part p) = None
found_released (unset u) = None
found_released (left l) = None
found_released (left_in_all sum) = None

-- What is found of a statement, in this order. STALE says the name that the statement uses.
abbrev pub outside_found : Option Outside → List Found
outside_found None = []
outside_found (Some o) = outside o ∷ []

abbrev pub stale_found : Option (List ℕ) → Option ℕ → List Found
stale_found name None = []
stale_found name (Some line) = stale (unwrap_or name []) line ∷ []

abbrev pub part_found : Option Part → List Found
part_found None = []
part_found (Some p) = part p ∷ []

abbrev pub unset_found : Option Unset → List Found
unset_found None = []
unset_found (Some u) = unset u ∷ []

abbrev pub finding_found : Option (List ℕ) → Option Finding → List Found
finding_found name None = []
finding_found name (Some f) =
    outside_found f.outside ++ (stale_found name f.stale ++ (part_found f.part ++ unset_found f.unset))

abbrev pub left_found : Option Left → List Found
left_found None = []
left_found (Some l) = left l ∷ []

-- What is found on a line, and what is left of what its statement took, if that is asked for.
pub record OnLine : Type 0 where
  pub finding : Option Finding
  pub left : Option Left

abbrev pub nothing_here : OnLine
nothing_here = record { finding = None; left = None }

abbrev pub found_by : Option (List ℕ) → OnLine → List Found
found_by name here = left_found here.left ++ finding_found name here.finding

-- The name in the address of a statement that uses storage, unless the statement is wrong.
abbrev pub name_of : Result Asked FaultKind → Option (List ℕ)
name_of (Ok asked) = name_used asked
name_of (Err kind) = None

-- What is found of an answer's statement, by what is found on lines.
abbrev pub found_of : (ℕ → OnLine) → Option Marked → List Found
found_of found None = []
found_of found (Some m) = found_by (name_of m.answer.what) (found m.answer.line)

-- OUTSIDE, STALE and LEFT are wrong; PART and UNSET aren't.
abbrev pub finding_is_wrong : Option Finding → Bool
finding_is_wrong None = false
finding_is_wrong (Some f) = is_some f.outside || is_some f.stale

abbrev pub is_wrong : OnLine → Bool
is_wrong here = finding_is_wrong here.finding || is_some here.left

-- Something wrong is found of one of these answers' statements.
abbrev pub finds_wrong : (ℕ → OnLine) → List Marked → Bool
finds_wrong found [] = false
finds_wrong found (m ∷ ms) = is_wrong (found m.answer.line) || finds_wrong found ms

-- The same of an answer as the code has it, with the number of its statement's first line.
abbrev pub found_told : (ℕ → OnLine) → Option (ℕ × Response) → OnLine
found_told found None = nothing_here
found_told found (Some told) = found told.0

abbrev pub name_by : Option FaultKind → Asked → Option (List ℕ)
name_by None asked = name_used asked
name_by (Some kind) asked = None

abbrev pub name_told : Option (ℕ × Response) → Asked → Option (List ℕ)
name_told told asked = name_by (fault_told told) asked

-- what is found as the code has it
abbrev pub here_of : OnLineOf → OnLine
here_of here = record { finding = option_copied here.finding; left = option_copied here.left }

abbrev pub left_to : Answered → List Found
left_to answered = left_found (option_copied answered.found.left)

abbrev pub found_to : Answered → List Found
found_to answered =
    finding_found (name_told answered.told.now (asked_in answered.request.now)) (option_copied answered.found.finding)

-- What is found, if it's said on this line of a statement, or if it's said on none of this many.
abbrev pub if_on : ℕ → ℕ → List Found → List Found
if_on line index found = if line == index then found else []

abbrev pub unless_before : ℕ → ℕ → List Found → List Found
unless_before line lines found = if nat_lt line lines then [] else found
