-- What is checked without a listing: a line for each fault and each warning.
use Rattle.std.specs.Prelude.{◌≡◌, ◌≤◌, ◌<◌, ◌^◌, ◌⊎◌, ◌||◌, Bool, List, ℕ, [], ◌∷◌, ◌++◌, length, map, take, nat_lt}
use Rattle.std.specs.Prelude.{if◌then◌else◌, Option, None, Result, Ok, Err}
use Rattle.std.specs.Io.KnownBytes.{Appends}
use Rattle.std.specs.List.{flat_map, AllByRecursion}
use Rattle.macro_statements.specs.Requests.{Act, Asked}
use Rattle.vsm_model.specs.declared.limits.Settings.{Settings}
use Rattle.vsm_model.specs.declared.replies.Reply.{Reply}
use Rattle.vsm_model.specs.Names.{NamedState}
use Rattle.vsm_model.specs.Standing.{Standing, nothing_stands}
use Rattle.script_steps.specs.Output.{Marked, alone_now, refusals, responded, stands_after}
use Rattle.script_steps.specs.Taken.{Took, Ended, PassesBound}
use Rattle.script_steps.specs.declared.responses.Response.{Response}
use Rattle.script_steps.specs.declared.session.Session.{Session}
use Rattle.script_steps.specs.declared.session.TooLong.{TooLong}
use Rattle.text_output.specs.Writing.{AppendsFront, Holds}
use Rattle.text_output.specs.declared.writing.Gathered.{Gathered}
use Rattle.explain_faults.specs.declared.lines.SourceLine.{SourceLine}
use Rattle.explain_list.specs.Pages.{AreAllLines, AreFirstLines, AreLinesOf, Follow, IsLineStart, fault_of, one_of}
use Rattle.explain_list.specs.Pages.{open_of}
use Rattle.explain_list.specs.Listing.{AreAnswers, Carries, IsNewFault}
use Rattle.explain_list.specs.Rows.{AreMarksOf, IsLineAt, Mark}
use Rattle.explain_standing.specs.Lined.{standing}
use Rattle.explain_findings.specs.Found.{finding_on}
use Rattle.explain_findings.specs.Left.{Sum, left_after, left_in_all as sum_after, nothing_left}
use Rattle.explain_findings.specs.Tables.{found_on, left_on, sum_left}
use Rattle.explain_findings.specs.declared.findings.Finding.{Finding}
use Rattle.explain_findings.specs.declared.findings.Findings.{Findings}
use Rattle.explain_findings.specs.declared.left.Left.{Left}
use Rattle.explain_check.specs.Findings.{OnLine, finds_wrong, found_by, found_of, found_told, name_told}
use Rattle.explain_check.specs.LeftTexts.{is_left}
use Rattle.explain_check.specs.Lines.{CheckLine, IsCheckLine, Manner, PutsChecks, Said, check_row, fault_at_mark}
use Rattle.explain_check.specs.Lines.{faults_of, found_in, head_in, line_at, place_on, refusal_in, refusal_told}
use Rattle.explain_check.specs.Lines.{refusals_of, sum_note}
use Rattle.explain_check.specs.declared.found_checks.Source.{Source}
use Rattle.explain_check.specs.declared.layouts.CheckLayout.{CheckLayout}
use Rattle.explain_check.specs.Reasons.{IsSaidOf, IsSaidTo}
use Rattle.explain_check.specs.declared.checking.LinesChecked.{LinesChecked}
use Rattle.explain_list.specs.declared.faults.ListFault.{ListFault}
use Rattle.explain_list.specs.declared.faults.ListFault.TheVariants as fault
use Rattle.explain_list.specs.declared.pages.ListingPage.{ListingPage}

-- A page of what is checked: lines of the script, what is answered after them, if anything, and what is said of them.
pub data CheckPage : Type 0 where
  checked : List SourceLine → Option Marked → List CheckLine → CheckPage

abbrev pub answers_checked : List CheckPage → List Marked
answers_checked [] = []
answers_checked (checked lines m said ∷ pages) = one_of m ++ answers_checked pages

abbrev pub lines_checked : List CheckPage → List SourceLine
lines_checked [] = []
lines_checked (checked lines m said ∷ pages) = lines ++ lines_checked pages

abbrev pub said_in : List CheckPage → List CheckLine
said_in [] = []
said_in (checked lines m said ∷ pages) = said ++ said_in pages

-- The fault that is answered, and no other, is said at its caret; and exactly that is said to be found that is found of
-- the answer's statement.
abbrev pub IsCheckPage : List ℕ → (ℕ → OnLine) → CheckPage → Type 0
IsCheckPage script found (checked lines m said) =
    AllByRecursion IsCheckLine said
    × ((marks : List Mark) × AreMarksOf script lines (fault_of m) marks × (faults_of said ≡ map fault_at_mark marks))
    × (found_in said ≡ found_of found m)

-- What is said of the refusals among answers, and of no others, each in the state that it leaves: a refused statement
-- leaves the state as it was.
abbrev pub AreSaid : Settings → Standing Act Reply → List Marked → List Said → Type 0
AreSaid settings l [] said = said ≡ []
AreSaid settings l (m ∷ ms) said =
    (its : List Said) × (rest : List Said) × (said ≡ its ++ rest)
    × IsSaidTo settings (alone_now settings (stands_after settings l m)) m.answer.what
    (refusal_in m.answer.line (responded settings l m.unmet m.answer.what)) its
    × AreSaid settings (stands_after settings l m) ms rest

-- By what is found on lines: pages with exactly these answers and these lines, in their order; and all refusals are
-- said, and no others.
abbrev pub AreChecks : Settings → List ℕ → (ℕ → OnLine) → List Marked → List SourceLine → List CheckPage
    → Type 0
AreChecks settings script found answers lines pages =
    (answers_checked pages ≡ answers) × (lines_checked pages ≡ lines)
    × AllByRecursion (IsCheckPage script found) pages
    × AreSaid settings nothing_stands answers (refusals_of (said_in pages))

-- What these pages say, after what the form begins with.
abbrev pub rows_text : Manner → List CheckPage → List ℕ
rows_text manner pages = head_in manner.form ++ flat_map (check_row manner) (said_in pages)

-- The last line: the sums of what is left, if something is left.
abbrev pub sum_row : Manner → Sum → List ℕ
sum_row manner sum = if is_left sum then check_row manner (line_at (place_on 1 1 0) (sum_note sum)) else []

module _ (settings : Settings) (script : List ℕ) (manner : Manner) (found : ℕ → OnLine) where
  -- The writer holds what is said of these answers and lines, in this manner, except what is gathered;
  abbrev pub HoldsChecks : Option (List ℕ) → Option (List ℕ) → Gathered → List Marked → List SourceLine → Type 0
  HoldsChecks at_first now g answers lines =
      (pages : List CheckPage) × AreChecks settings script found answers lines pages
      × Holds at_first now g (rows_text manner pages)

  -- this and a last line follow what it held at first, or a prefix of them does.
  abbrev pub AppendsChecks : List ℕ → Option (List ℕ) → Option (List ℕ) → List Marked → List SourceLine → Type 0
  AppendsChecks last at_first now answers lines =
      (pages : List CheckPage) × AreChecks settings script found answers lines pages
      × Appends at_first now (rows_text manner pages ++ last)

  abbrev pub AppendsFrontOfChecks : List ℕ → Option (List ℕ) → Option (List ℕ) → List Marked → List SourceLine
      → Type 0
  AppendsFrontOfChecks last at_first now answers lines =
      (pages : List CheckPage) × AreChecks settings script found answers lines pages
      × AppendsFront at_first now (rows_text manner pages ++ last)

-- With the sums of what is left:
module _ (settings : Settings) (script : List ℕ) (manner : Manner) (found : ℕ → OnLine) (sum : Sum)
    (at_first now : Option (List ℕ)) where
  -- A prefix of what is said of all answers and lines and of the last line, or of first answers and lines, went out.
  abbrev pub ChecksFront : Type 0
  ChecksFront =
      (answers : List Marked) × (lines : List SourceLine) × AreAnswers settings script answers
      × ((AreAllLines script lines
      × AppendsFrontOfChecks settings script manner found (sum_row manner sum) at_first now answers lines)
      ⊎ (AreFirstLines lines × AppendsFrontOfChecks settings script manner found [] at_first now answers lines))

  -- It says whether an answer of the script is a refusal, or something wrong is found; and what goes out is said of all
  -- answers and all lines, and a last line with the sums; if a byte passes a bound, of all answers before it and of
  -- first lines. After a write fault, or if memory runs out for the reason of a refusal, a prefix of it went out.
  abbrev pub ChecksAll : Result Bool ListFault → Type 0
  ChecksAll (Ok wrong) =
      (answers : List Marked) × (lines : List SourceLine) × Ended settings script answers × AreAllLines script lines
      × (wrong ≡ (nat_lt 0 (refusals settings nothing_stands answers) || finds_wrong found answers))
      × AppendsChecks settings script manner found (sum_row manner sum) at_first now answers lines
  ChecksAll (Err fault.TooLong) =
      (answers : List Marked) × (lines : List SourceLine) × PassesBound settings script answers × AreFirstLines lines
      × AppendsChecks settings script manner found [] at_first now answers lines
  ChecksAll (Err fault.Write) = ChecksFront
  ChecksAll (Err fault.Memory) = ChecksFront
  ChecksAll (Err (fault.New f)) = IsNewFault settings f × Appends at_first now []

-- What is found on lines, what is left of what their statements took, and the sums of that.
pub record AllFound : Type 0 where
  pub on : ℕ → Option Finding
  pub left : ℕ → Option Left
  pub sum : Sum

-- It's found by a run of the whole script, in which memory may run out at other statements; nothing is found, if a byte
-- of the script passes a bound.
abbrev pub AreFoundOn : Settings → List ℕ → AllFound → Type 0
AreFoundOn settings script all =
    ((answers : List Marked) × Ended settings script answers
    × ((line : ℕ) → all.on line ≡ finding_on settings answers line)
    × ((line : ℕ) → line < 2 ^ 32 → all.left line ≡ left_after settings (standing settings answers) line)
    × (all.sum ≡ sum_after settings (standing settings answers)))
    ⊎ ((answers : List Marked) × PassesBound settings script answers × ((line : ℕ) → all.on line ≡ None)
    × ((line : ℕ) → all.left line ≡ None) × (all.sum ≡ nothing_left))

-- What of it is said: with a line for what is left of each statement, or with the sums.
abbrev pub left_if : Bool → Option Left → Option Left
left_if leaks left = if leaks then left else None

abbrev pub found_by_lines : Bool → AllFound → ℕ → OnLine
found_by_lines leaks all line = record { finding = all.on line; left = left_if leaks (all.left line) }

abbrev pub sum_if : Bool → Sum → Sum
sum_if leaks sum = if leaks then nothing_left else sum

-- The same as the code has it.
abbrev pub all_found : Findings → AllFound
all_found findings = record { on = found_on findings; left = left_on findings; sum = sum_left findings }

abbrev pub found_by_source : Source → ℕ → OnLine
found_by_source source = found_by_lines source.leaks (all_found source.findings.now)

abbrev pub sum_by_source : Source → Sum
sum_by_source source = sum_if source.leaks (sum_left source.findings.now)

abbrev pub AreFindings : Settings → List ℕ → Result Findings ListFault → Type 0
AreFindings settings script (Ok findings) = AreFoundOn settings script (all_found findings)
AreFindings settings script (Err fault.TooLong) = ⊥
AreFindings settings script (Err fault.Write) = ⊥
AreFindings settings script (Err fault.Memory) = Unit {0}
AreFindings settings script (Err (fault.New f)) = IsNewFault settings f

-- So is it said, with what is found; or memory runs out for that, or the bench can't be made, and nothing goes out.
abbrev pub FindsNothing : Settings → Option (List ℕ) → Option (List ℕ) → Result Bool ListFault → Type 0
FindsNothing settings at_first now (Ok wrong) = ⊥
FindsNothing settings at_first now (Err fault.TooLong) = ⊥
FindsNothing settings at_first now (Err fault.Write) = ⊥
FindsNothing settings at_first now (Err fault.Memory) = Appends at_first now []
FindsNothing settings at_first now (Err (fault.New f)) = IsNewFault settings f × Appends at_first now []

abbrev pub manner_with : CheckLayout → List ℕ → Manner
manner_with layout name = record { form = layout.form; name = name }

abbrev pub Checked : Settings → List ℕ → CheckLayout → List ℕ → Option (List ℕ) → Option (List ℕ)
    → Result Bool ListFault → Type 0
Checked settings script layout name at_first now result =
    ((all : AllFound) × AreFoundOn settings script all
    × ChecksAll settings script (manner_with layout name) (found_by_lines layout.leaks all)
    (sum_if layout.leaks all.sum) at_first now result)
    ⊎ FindsNothing settings at_first now result

-- The session took the script up to a line that begins at this place, what is said of its answers is held, and whether
-- something wrong was found of them.
pub record Checks (settings : Settings) (script : List ℕ) (manner : Manner) (found : ℕ → OnLine)
    (at_first now : Option (List ℕ)) (g : Gathered) (page : ListingPage) (wrong : Bool) (at : ℕ) (s : Session)
    : Type 0 where
  pub answers : List Marked
  pub took : Took settings (take at script) answers s
  pub listed : List SourceLine
  pub held : HoldsChecks settings script manner found at_first now g answers listed
  pub wrongs : wrong ≡ finds_wrong found answers
  pub follow : Follow 0 (listed ++ open_of page) at
  pub starts : IsLineStart script at
  pub lines : AreLinesOf script page
  pub room : length (open_of page) ≤ 9
  pub carries : Carries script listed page s.reader.mode

-- It took all of the script, and this is its last line.
pub record ChecksRest (settings : Settings) (script : List ℕ) (manner : Manner) (found : ℕ → OnLine)
    (at_first now : Option (List ℕ)) (g : Gathered) (page : ListingPage) (wrong : Bool) (line : SourceLine)
    (s : Session) : Type 0 where
  pub answers : List Marked
  pub took : Took settings script answers s
  pub listed : List SourceLine
  pub held : HoldsChecks settings script manner found at_first now g answers listed
  pub wrongs : wrong ≡ finds_wrong found answers
  pub follow : Follow 0 (listed ++ open_of page) line.start
  pub last : IsLineAt script line
  pub ends : line.end ≡ length script
  pub lines : AreLinesOf script page
  pub room : length (open_of page) ≤ 9
  pub carries : Carries script listed page s.reader.mode

-- A byte of the script passes a bound; what is said of the answers before it is held.
abbrev pub StopsCheck : Settings → List ℕ → Manner → (ℕ → OnLine) → Option (List ℕ) → Option (List ℕ)
    → Gathered → Type 0
StopsCheck settings script manner found at_first now g =
    (answers : List Marked) × (lines : List SourceLine) × PassesBound settings script answers × AreFirstLines lines
    × HoldsChecks settings script manner found at_first now g answers lines

-- All lines that have a line feed are checked.
abbrev pub ChecksLines : Settings → List ℕ → Manner → (ℕ → OnLine) → Option (List ℕ) → Option (List ℕ)
    → Gathered → ListingPage → Session → Result LinesChecked TooLong → Type 0
ChecksLines settings script manner found at_first now g page s (Ok r) =
    Checks settings script manner found at_first now g page r.wrong r.at s
ChecksLines settings script manner found at_first now g page s (Err e) =
    StopsCheck settings script manner found at_first now g

-- What is put of a page, whose statement asked for this and was answered this, which left this state.
abbrev pub PutsPage : Settings → Manner → (ℕ → OnLine) → List Mark → NamedState → Asked → Option (ℕ × Response)
    → Option (List ℕ) → Option (List ℕ) → Gathered → Gathered → Type 0
PutsPage settings manner found marks m asked told old now before after =
    (said : List Said) × IsSaidOf settings m asked (refusal_told told) said
    × PutsChecks manner marks said (found_by (name_told told asked) (found_told found told)) old now before after
