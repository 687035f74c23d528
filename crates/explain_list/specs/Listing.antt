-- A listing: the lines of a script with what is said of them, and among them each answer of a run.
use Rattle.std.specs.Prelude.{◌≡◌, ◌<◌, ◌≤◌, ◌⊎◌, ℕ, Bool, true, false, List, [], ◌∷◌, ◌++◌, length, map, take, drop}
use Rattle.std.specs.Prelude.{codes, nat_lt, not, ◌||◌, if◌then◌else◌, Option, Some, None, Result, Ok, Err}
use Rattle.std.specs.Io.KnownBytes.{Appends}
use Rattle.std.specs.List.{flat_map, AllByRecursion}
use Rattle.explain_text.specs.Json.{json_head}
use Rattle.explain_text.specs.declared.json.Form.{Form}
use Rattle.explain_text.specs.declared.json.Form.TheVariants as form
use Rattle.macro_operands.specs.declared.faults.FaultKind.{FaultKind}
use Rattle.macro_reader.specs.Roles.{Role}
use Rattle.macro_reader.specs.Scripts.{Mode}
use Rattle.macro_statements.specs.Requests.{Act, Asked}
use Rattle.vsm_model.specs.declared.limits.Settings.{Settings}
use Rattle.vsm_model.specs.declared.replies.Reply.{Reply}
use Rattle.vsm_model.specs.Regions.{settings_valid}
use Rattle.vsm_model.specs.Names.{NamedState}
use Rattle.vsm_model.specs.Standing.{Bench, Standing, nothing_stands}
use Rattle.bench_core.specs.NewFault.{NewFault}
use Rattle.bench_core.specs.NewFault.TheVariants as new_fault
use Rattle.script_steps.specs.Output.{Marked, alone_now, bytes_shown, refusals, responded, stands_after}
use Rattle.script_steps.specs.Responses.{is_refused}
use Rattle.script_steps.specs.Script.{NoFeed}
use Rattle.script_steps.specs.Taken.{Took, Ended, PassesBound}
use Rattle.script_steps.specs.declared.responses.Response.{Response}
use Rattle.script_steps.specs.declared.session.Session.{Session}
use Rattle.script_steps.specs.declared.session.TooLong.{TooLong}
use Rattle.text_output.specs.Writing.{AppendsFront, Holds, Puts}
use Rattle.text_output.specs.declared.writing.Gathered.{Gathered}
use Rattle.explain_faults.specs.declared.lines.SourceLine.{SourceLine}
use Rattle.explain_list.specs.Pages.{AreAllLines, AreFirstLines, AreLinesOf, Follow, IsLineStart, fault_of, fault_told}
use Rattle.explain_list.specs.Pages.{losses_shown, one_of, open_of, shown_of}
use Rattle.explain_list.specs.Answers.{AreNotes, AreNotesOf, Notes, told_in}
use Rattle.explain_list.specs.Groups.{AreOpen, IsGroup, IsLastTaken, is_lost, roles_in}
use Rattle.explain_list.specs.Rows.{AreMarksOf, IsLineAt, IsRowOf, Row, lines_of, losses_of, marks_of, row_in}
use Rattle.explain_list.specs.declared.faults.ListFault.{ListFault}
use Rattle.explain_list.specs.declared.faults.ListFault.TheVariants as fault
use Rattle.explain_list.specs.declared.layouts.Layout.{Layout}
use Rattle.explain_list.specs.declared.pages.ListingPage.{ListingPage}

-- If only refused statements are listed, a page is written exactly if its statement is refused.
abbrev pub tells_refusal : Option (ℕ × Response) → Bool
tells_refusal None = false
tells_refusal (Some told) = is_refused told.1

abbrev pub is_written : Layout → Option (ℕ × Response) → Bool
is_written layout told = not layout.only_refused || tells_refusal told

-- A page: rows, and what is answered, which leaves this state and this many changes kept.
abbrev pub page_text : Layout → List ℕ → Settings → NamedState → ℕ → List ℕ → List Row → Option (ℕ × Response)
    → SourceLine → Notes → List ℕ
page_text layout script settings m kept bytes rows told last notes =
    if is_written layout told
    then flat_map (row_in layout.form script) rows ++ told_in layout.form settings m kept bytes told last notes
    else []

-- What a listing consists of: pages of rows, with the answer that follows them, if any, and the last line of its
-- statement.
pub data Item : Type 0 where
  paged : List Row → Option Marked → SourceLine → Notes → Item

abbrev pub answers_in : List Item → List Marked
answers_in [] = []
answers_in (paged rows m last notes ∷ items) = one_of m ++ answers_in items

abbrev pub lines_in : List Item → List SourceLine
lines_in [] = []
lines_in (paged rows m last notes ∷ items) = lines_of rows ++ lines_in items

-- The lines of a page are listed together, and exactly those that aren't carried out have an `x`.
abbrev pub IsPageBy : List Role → Item → Type 0
IsPageBy roles (paged rows m last notes) = IsGroup roles m × (losses_of rows ≡ map is_lost roles)

abbrev pub ArePagesBy : List (List Role) → List Item → Type 0
ArePagesBy [] [] = Unit {0}
ArePagesBy (roles ∷ groups) (item ∷ items) = IsPageBy roles item × ArePagesBy groups items
ArePagesBy _ _ = ⊥

-- So it is of each page, by what the lines are to the script's reader.
abbrev pub AreGrouped : List ℕ → List SourceLine → List Item → Type 0
AreGrouped script lines items =
    (groups : List (List Role)) × (flat_map (λ g. g) groups ≡ roles_in script lines) × ArePagesBy groups items

-- The rows of a page, and the caret among them, if any: that of the fault that is answered, over the lines of the page.
abbrev pub ArePageRows : List ℕ → Option FaultKind → List Row → Type 0
ArePageRows script kind rows =
    AllByRecursion (IsRowOf script) rows × AreMarksOf script (lines_of rows) kind (marks_of rows)

abbrev pub IsItemOf : List ℕ → Item → Type 0
IsItemOf script (paged rows None last notes) = ArePageRows script None rows
IsItemOf script (paged rows (Some m) last notes) =
    ArePageRows script (fault_of (Some m)) rows × IsLineAt script last

module _ (settings : Settings) where
  -- The statements in effect after a page,
  abbrev pub stands_past : Standing Act Reply → Option Marked → Standing Act Reply
  stands_past l None = l
  stands_past l (Some m) = stands_after settings l m

  -- and what is answered in it, by those in effect before it: the answer of the plain machine.
  abbrev pub told_for : Standing Act Reply → Option Marked → Option (ℕ × Response)
  told_for l None = None
  told_for l (Some m) = Some (m.answer.line, responded settings l m.unmet m.answer.what)

  abbrev pub bytes_for : Standing Act Reply → Option Marked → List ℕ
  bytes_for l None = []
  bytes_for l (Some m) = bytes_shown settings l m.answer.what

  module _ (layout : Layout) (script : List ℕ) where
    abbrev pub item_text : Standing Act Reply → Item → List ℕ
    item_text l (paged rows m last notes) =
        let after = stands_past l m in
        page_text layout script settings (alone_now settings after) after.kept (bytes_for l m) rows (told_for l m) last
        notes

    -- The text of a listing of a script, by the statements in effect before it.
    abbrev pub items_text : Standing Act Reply → List Item → List ℕ
    items_text l [] = []
    items_text l (paged rows m last notes ∷ items) =
        item_text l (paged rows m last notes) ++ items_text (stands_past l m) items

  -- What a page says of its statement is by what the statement asked for, and by why it was refused in the state of the
  -- statements in effect before it.
  abbrev pub AreNotesTo : Form → NamedState → Result Asked FaultKind → Response → Notes → Type 0
  AreNotesTo f m (Ok asked) told notes = AreNotes f settings m asked told notes
  AreNotesTo f m (Err kind) told notes = Unit {0}

  abbrev pub IsNoted : Form → Standing Act Reply → Option Marked → Notes → Type 0
  IsNoted f l None notes = Unit {0}
  IsNoted f l (Some m) notes =
      AreNotesTo f (alone_now settings l) m.answer.what (responded settings l m.unmet m.answer.what) notes

  abbrev pub AreNoted : Form → Standing Act Reply → List Item → Type 0
  AreNoted f l [] = Unit {0}
  AreNoted f l (paged rows m last notes ∷ items) = IsNoted f l m notes × AreNoted f (stands_past l m) items

-- What a listing begins with.
abbrev pub head_in : Form → List ℕ
head_in form.Text = []
head_in form.Json = json_head (codes "list")

abbrev pub listing_text : Layout → Settings → List ℕ → List Item → List ℕ
listing_text layout settings script items =
    head_in layout.form ++ items_text settings layout script nothing_stands items

-- Items of a listing of the script that has exactly these answers and these lines, in their order.
abbrev pub IsListing : Form → Settings → List ℕ → List Marked → List SourceLine → List Item → Type 0
IsListing f settings script answers lines items =
    (answers_in items ≡ answers) × (lines_in items ≡ lines) × AllByRecursion (IsItemOf script) items
    × AreNoted settings f nothing_stands items × AreGrouped script lines items

-- The writer holds a listing of these answers, except what is gathered;
abbrev pub HoldsListing : Layout → Settings → List ℕ → Option (List ℕ) → Option (List ℕ) → Gathered → List Marked
    → List SourceLine → Type 0
HoldsListing layout settings script at_first now g answers lines =
    (items : List Item) × IsListing layout.form settings script answers lines items
    × Holds at_first now g (listing_text layout settings script items)

-- a listing of these answers follows what it held at first, or a prefix of one does.
abbrev pub AppendsListing : Layout → Settings → List ℕ → Option (List ℕ) → Option (List ℕ) → List Marked
    → List SourceLine → Type 0
AppendsListing layout settings script at_first now answers lines =
    (items : List Item) × IsListing layout.form settings script answers lines items
    × Appends at_first now (listing_text layout settings script items)

abbrev pub AppendsFrontOfListing : Layout → Settings → List ℕ → Option (List ℕ) → Option (List ℕ) → List Marked
    → List SourceLine → Type 0
AppendsFrontOfListing layout settings script at_first now answers lines =
    (items : List Item) × IsListing layout.form settings script answers lines items
    × AppendsFront at_first now (listing_text layout settings script items)

-- The lines that a page has are lines of the script after those that are listed; and those that aren't shown yet are
-- those of the statement that is open to a reader in this state.
pub record Carries (script : List ℕ) (listed : List SourceLine) (page : ListingPage) (mode : Mode) : Type 0 where
  pub each : AllByRecursion (IsLineAt script) (listed ++ open_of page)
  pub roles : List Role
  pub opened : AreOpen mode (open_of page) roles
  pub split : roles_in script (listed ++ open_of page) ≡ roles_in script listed ++ roles
  pub current : IsLastTaken (length (listed ++ open_of page)) page.current

-- Those that are shown are listed together with this answer, after those that are listed already.
pub record Groups (script : List ℕ) (listed : List SourceLine) (page : ListingPage) (m : Option Marked) : Type 0 where
  pub roles : List Role
  pub together : IsGroup roles m
  pub losses : losses_shown page ≡ map is_lost roles
  pub split : roles_in script (listed ++ shown_of page) ≡ roles_in script listed ++ roles

-- The session took the script up to a line that begins at this place, and its answers are listed.
pub record Lists (layout : Layout) (settings : Settings) (script : List ℕ) (at_first now : Option (List ℕ))
    (g : Gathered) (page : ListingPage) (at : ℕ) (s : Session) : Type 0 where
  pub answers : List Marked
  pub took : Took settings (take at script) answers s
  pub listed : List SourceLine
  pub held : HoldsListing layout settings script at_first now g answers listed
  pub follow : Follow 0 (listed ++ open_of page) at
  pub starts : IsLineStart script at
  pub lines : AreLinesOf script page
  pub room : length (open_of page) ≤ 9
  pub carries : Carries script listed page s.reader.mode

-- It took all of the script, and its answers are listed, except those that this last line and the end bring.
pub record ListsRest (layout : Layout) (settings : Settings) (script : List ℕ) (at_first now : Option (List ℕ))
    (g : Gathered) (page : ListingPage) (line : SourceLine) (s : Session) : Type 0 where
  pub answers : List Marked
  pub took : Took settings script answers s
  pub listed : List SourceLine
  pub held : HoldsListing layout settings script at_first now g answers listed
  pub follow : Follow 0 (listed ++ open_of page) line.start
  pub last : IsLineAt script line
  pub ends : line.end ≡ length script
  pub lines : AreLinesOf script page
  pub room : length (open_of page) ≤ 9
  pub carries : Carries script listed page s.reader.mode

-- A byte of the script passes a bound; the answers to the lines before it are listed, with first lines of the script:
-- those of a statement that is open then aren't.
abbrev pub Stops : Layout → Settings → List ℕ → Option (List ℕ) → Option (List ℕ) → Gathered → Type 0
Stops layout settings script at_first now g =
    (answers : List Marked) × (lines : List SourceLine) × PassesBound settings script answers × AreFirstLines lines
    × HoldsListing layout settings script at_first now g answers lines

-- The line from a place on is listed, if it has a line feed.
abbrev pub ListsLine : Layout → Settings → List ℕ → Option (List ℕ) → Option (List ℕ) → Gathered → ListingPage → ℕ
    → Session → Result (Option ℕ) TooLong → Type 0
ListsLine layout settings script at_first now g page at s (Ok (Some next)) =
    Lists layout settings script at_first now g page next s
ListsLine layout settings script at_first now g page at s (Ok None) =
    Lists layout settings script at_first now g page at s
ListsLine layout settings script at_first now g page at s (Err e) = Stops layout settings script at_first now g

abbrev pub IsNext : List ℕ → ℕ → Result (Option ℕ) TooLong → Type 0
IsNext script at (Ok (Some next)) = (at < next) × (next ≤ length script)
IsNext script at (Ok None) = NoFeed (drop at script)
IsNext script at (Err e) = Unit {0}

-- All lines that have a line feed are listed.
abbrev pub ListsLines : Layout → Settings → List ℕ → Option (List ℕ) → Option (List ℕ) → Gathered → ListingPage
    → Session → Result ℕ TooLong → Type 0
ListsLines layout settings script at_first now g page s (Ok at) =
    Lists layout settings script at_first now g page at s
ListsLines layout settings script at_first now g page s (Err e) = Stops layout settings script at_first now g

abbrev pub IsRest : List ℕ → Result ℕ TooLong → Type 0
IsRest script (Ok at) = (at ≤ length script) × NoFeed (drop at script)
IsRest script (Err e) = Unit {0}

-- Why there is no bench.
abbrev pub IsNewFault : Settings → NewFault → Type 0
IsNewFault settings new_fault.Setting = settings_valid settings ≡ false
IsNewFault settings new_fault.NoMemory = settings_valid settings ≡ true

-- The answers are those of the whole script, or those up to a byte that passes a bound.
abbrev pub AreAnswers : Settings → List ℕ → List Marked → Type 0
AreAnswers settings script answers = Ended settings script answers ⊎ PassesBound settings script answers

-- A prefix of a listing went out, of all answers and lines or of first ones.
abbrev pub ListsFront : Layout → Settings → List ℕ → Option (List ℕ) → Option (List ℕ) → Type 0
ListsFront layout settings script at_first now =
    (answers : List Marked) × (lines : List SourceLine) × AreAnswers settings script answers
    × (AreAllLines script lines ⊎ AreFirstLines lines)
    × AppendsFrontOfListing layout settings script at_first now answers lines

-- A listing of the script is written, with all its lines, and each answer of a run over it and no other; and it says
-- whether one of them is a refusal. If a byte passes a bound, all answers before it are written, with first lines of
-- the script: those of an open statement are missing, and how many there are isn't said. After a write fault, or if
-- memory runs out for the text of a cause, a prefix of one went out.
abbrev pub Listed : Layout → Settings → List ℕ → Option (List ℕ) → Option (List ℕ) → Result Bool ListFault → Type 0
Listed layout settings script at_first now (Ok wrong) =
    (answers : List Marked) × (lines : List SourceLine) × Ended settings script answers × AreAllLines script lines
    × (wrong ≡ nat_lt 0 (refusals settings nothing_stands answers))
    × AppendsListing layout settings script at_first now answers lines
Listed layout settings script at_first now (Err fault.TooLong) =
    (answers : List Marked) × (lines : List SourceLine) × PassesBound settings script answers × AreFirstLines lines
    × AppendsListing layout settings script at_first now answers lines
Listed layout settings script at_first now (Err fault.Write) = ListsFront layout settings script at_first now
Listed layout settings script at_first now (Err fault.Memory) = ListsFront layout settings script at_first now
Listed layout settings script at_first now (Err (fault.New f)) = IsNewFault settings f × Appends at_first now []

-- A page is put, with these lines of the script among its rows, of which these aren't carried out, and this answer, if
-- any, to a statement that asked for this, when these bytes are shown.
abbrev pub PutsPage : Layout → List ℕ → Settings → Bench NamedState → List ℕ → List SourceLine → List Bool
    → Option (ℕ × Response) → Asked → Option (List ℕ) → Option (List ℕ) → Gathered → Gathered → Type 0
PutsPage layout script settings b bytes lines losses told asked old new before after =
    (rows : List Row) × (last : SourceLine) × (notes : Notes) × ArePageRows script (fault_told told) rows
    × (lines_of rows ≡ lines) × (losses_of rows ≡ losses) × IsLineAt script last
    × AreNotesOf layout.form settings b.present asked told notes
    × Puts old new before after
    (page_text layout script settings b.present (length b.past) bytes rows told last notes)

-- Warnings on the whole file are put, as a page without an answer.
abbrev pub PutsFilePage : Layout → List ℕ → Option (List ℕ) → Option (List ℕ) → Gathered → Gathered → Type 0
PutsFilePage layout script old new before after =
    (rows : List Row) × ArePageRows script None rows × (lines_of rows ≡ []) × (losses_of rows ≡ [])
    × Puts old new before after
    (if is_written layout None then flat_map (row_in layout.form script) rows else [])
