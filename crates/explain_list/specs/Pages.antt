-- The lines of the statement that is open or shown.
use Rattle.std.specs.Prelude.{◌≡◌, ◌==◌, ◌≤◌, ◌<◌, ◌⊎◌, List, [], ◌∷◌, ◌++◌, ℕ, ◌-◌, if◌then◌else◌, is_some, length}
use Rattle.std.specs.Prelude.{◌+◌, slice_get, slice_index, Bool, IfSome, Option, Some, None, Result, Ok, Err}
use Rattle.std.specs.Prelude.{false, true}
use Rattle.std.specs.List.{AllByRecursion}
use Rattle.macro_operands.specs.declared.faults.FaultKind.{FaultKind}
use Rattle.macro_statements.specs.Requests.{Asked}
use Rattle.script_steps.specs.Output.{Marked}
use Rattle.script_steps.specs.declared.responses.Response.{Response}
use Rattle.script_steps.specs.declared.responses.Response.TheVariants as response
use Rattle.script_steps.specs.declared.lines.Ending.{Ending}
use Rattle.script_steps.specs.declared.session.Session.{Session}
use Rattle.script_steps.specs.declared.session.TooLong.{TooLong}
use Rattle.script_steps.specs.declared.steps.Step.{Step}
use Rattle.macro_reader.specs.Roles.{IsStand}
use Rattle.macro_reader.specs.declared.reading.ReaderState.{ReaderState}
use Rattle.macro_reader.specs.declared.reading.ReaderState.TheVariants as stand
use Rattle.explain_faults.specs.Places.{first_card, further_cards, HasFault, IsCaretOf, IsHeadPlace}
use Rattle.explain_faults.specs.Roles.{role_in}
use Rattle.explain_faults.specs.declared.carets.Caret.{Caret}
use Rattle.explain_faults.specs.declared.lines.SourceLine.{SourceLine}
use Rattle.explain_faults.specs.declared.roles.Brought.{Brought}
use Rattle.explain_faults.specs.declared.roles.Brought.TheVariants as brought
use Rattle.explain_faults.specs.declared.roles.Role.{Role}
use Rattle.explain_list.specs.Groups.{IsRoleBy, ends_by, is_lost}
use Rattle.explain_list.specs.Rows.{IsLineAt, LacksMark, Mark, mark_of}
use Rattle.explain_list.specs.declared.pages.ListingPage.{ListingPage}

-- The line that was taken in a step, without its line feed.
abbrev pub line_of : ℕ → Step → SourceLine
line_of number step = record { number = number; start = step.start; end = step.next - 1 }

-- Whether the last of the lines that are shown isn't carried out, by its role;
abbrev pub ends_lost : Option Role → Bool
ends_lost None = false
ends_lost (Some last) = is_lost (role_in last)

-- and whether each of them isn't: those before the last are.
abbrev pub lost_by : Bool → List SourceLine → List Bool
lost_by last [] = []
lost_by last (line ∷ []) = last ∷ []
lost_by last (line ∷ next ∷ lines) = false ∷ lost_by last (next ∷ lines)

-- They are lines of the script, and so are the two that were taken last.
pub record AreLinesOf (script : List ℕ) (page : ListingPage) : Type 0 where
  pub each : AllByRecursion (IsLineAt script) page.lines.lines.items
  pub current : IfSome page.current (IsLineAt script)
  pub before : IfSome page.before (IsLineAt script)

-- Those that are shown, and those that aren't yet.
abbrev pub shown_of : ListingPage → List SourceLine
shown_of page = if is_some page.last then page.lines.lines.items else []

abbrev pub open_of : ListingPage → List SourceLine
open_of page = if is_some page.last then [] else page.lines.lines.items

abbrev pub losses_shown : ListingPage → List Bool
losses_shown page = lost_by (ends_lost page.last) (shown_of page)

-- A last line of the script follows them, if it has any bytes.
abbrev pub TakesLast : List ℕ → SourceLine → ListingPage → ListingPage → Type 0
TakesLast script line old new =
    ((length script ≤ line.start) × (shown_of new ++ open_of new ≡ open_of old))
    ⊎ ((line.start < length script) × (shown_of new ++ open_of new ≡ open_of old ++ line ∷ []))

-- The line that was taken in a step follows those that weren't shown yet.
abbrev pub TakesLine : ListingPage → ListingPage → Result (Option Step) TooLong → Type 0
TakesLine old new (Ok (Some step)) =
    (length (open_of new) ≤ 9)
    × (length (open_of old) ≤ 9 → (line : SourceLine) × (line.start ≡ step.start) × (line.end ≡ step.next - 1)
    × (shown_of new ++ open_of new ≡ open_of old ++ line ∷ []))
TakesLine old new (Ok None) = new ≡ old
TakesLine old new (Err e) = Unit {0}

-- A line of this role, which brings this, was taken after the lines that aren't shown yet. It's shown with them if it's
-- the last that is listed together with them.
pub record KeepsLine (old new : ListingPage) (line : SourceLine) (its : Role) (b : Brought) : Type 0 where
  pub whole : length (open_of old) ≤ 9 → new.lines.lines.items ≡ open_of old ++ line ∷ []
  pub shows : ends_by (role_in its) b ≡ true → new.last ≡ Some its
  pub goes_on : length (open_of old) ≤ 8 → ends_by (role_in its) b ≡ false → new.last ≡ None
  pub current : new.current ≡ Some line
  pub before : new.before ≡ old.current

-- The role is the line's, by the reader's states before and after it.
pub record KeepsRole (old new : ListingPage) (line : SourceLine) (before after : ReaderState) (b : Brought)
    : Type 0 where
  pub its : Role
  pub own : IsRoleBy before after b its
  pub kept : KeepsLine old new line its b

-- What a line brings, by the answer to it.
abbrev pub brought_for : Response → Brought
brought_for (response.Replied r) = brought.Answer
brought_for (response.Refused r) = brought.Answer
brought_for response.Shown = brought.Answer
brought_for (response.Kept n) = brought.Answer
brought_for (response.TooFar n) = brought.Answer
brought_for (response.TooFarAhead n) = brought.Answer
brought_for response.Map = brought.Answer
brought_for (response.Fault kind) = brought.Fault kind

abbrev pub brought_told : Option (ℕ × Response) → Brought
brought_told None = brought.Nothing
brought_told (Some told) = brought_for told.1

-- A step takes a line of this session so, if it takes one.
abbrev pub KeepsStep : Session → Session → ListingPage → ListingPage → Result (Option Step) TooLong → Type 0
KeepsStep s t old new (Ok (Some step)) =
    (number : ℕ) × (before : ReaderState) × (after : ReaderState) × (s.lines ≤ 1048576 → number ≡ s.lines + 1)
    × IsStand s.reader.mode before × IsStand t.reader.mode after
    × KeepsRole old new (line_of number step) before after (brought_told step.told)
KeepsStep s t old new _ = Unit {0}

-- The state of a reader at the end of a script, by whether a statement is open then; one that drops lines counts as one
-- that awaits a statement.
abbrev pub stand_at_end : Option (ℕ × Response) → ReaderState
stand_at_end None = stand.Awaiting
stand_at_end (Some told) = stand.Gathering

-- The last line is taken so; without one nothing changes, and nothing is shown.
abbrev pub KeepsLast : List ℕ → SourceLine → ReaderState → ListingPage → ListingPage → Ending → Type 0
KeepsLast script line before old new e =
    ((length script ≤ line.start) × (new.last ≡ None) × (open_of new ≡ open_of old) × (new.current ≡ old.current))
    ⊎ ((line.start < length script)
    × KeepsRole old new line before (stand_at_end e.open_statement) (brought_told e.last))

-- The fault that a line brings,
abbrev pub fault_in : Brought → Option FaultKind
fault_in brought.Nothing = None
fault_in brought.Answer = None
fault_in (brought.Fault kind) = Some kind

-- and the one that is answered.
abbrev pub fault_answered : Response → Option FaultKind
fault_answered (response.Replied r) = None
fault_answered (response.Refused r) = None
fault_answered response.Shown = None
fault_answered (response.Kept n) = None
fault_answered (response.TooFar n) = None
fault_answered (response.TooFarAhead n) = None
fault_answered response.Map = None
fault_answered (response.Fault kind) = Some kind

abbrev pub fault_told : Option (ℕ × Response) → Option FaultKind
fault_told None = None
fault_told (Some told) = fault_answered told.1

-- The answers of a page, and the fault that is answered in it, if any.
abbrev pub one_of : Option Marked → List Marked
one_of None = []
one_of (Some m) = m ∷ []

abbrev pub fault_asked : Result Asked FaultKind → Option FaultKind
fault_asked (Ok asked) = None
fault_asked (Err kind) = Some kind

abbrev pub fault_of : Option Marked → Option FaultKind
fault_of None = None
fault_of (Some m) = fault_asked m.answer.what

-- And if a fault is shown, it's this one, and its caret is that of the statement over them, on one of them; and if none
-- is, this one has none.
pub record IsPage (script : List ℕ) (kind : Option FaultKind) (page : ListingPage) : Type 0 where
  pub lines : AreLinesOf script page
  pub marks :
      IfSome page.fault (λ f. (kind ≡ Some f.1)
      × IsCaretOf (first_card script page.lines.lines.items) (further_cards script page.lines.lines.items) f.1 f.0)
  pub head : IfSome page.fault (λ f. IsHeadPlace (first_card script page.lines.lines.items) f.1 f.0.place)
  pub on :
      IfSome page.fault
      (λ f. 0 < length page.lines.lines.items → f.0.place.line < length page.lines.lines.items)
  pub lacks : page.fault ≡ None → LacksMark script (shown_of page) kind

-- The line before this one is kept if this is the last that is shown and isn't carried out.
abbrev pub Precedes : ListingPage → SourceLine → Type 0
Precedes page line =
    ends_lost page.last ≡ true
    → (before : SourceLine) × (page.before ≡ Some before) × (before.number + 1 ≡ line.number)

-- The lines that are shown are those of the statement with this fault, if any.
pub record IsWholePage (script : List ℕ) (kind : Option FaultKind) (page : ListingPage) : Type 0 where
  pub has :
      IfSome kind
      (λ k. (0 < length (shown_of page))
      × HasFault (first_card script (shown_of page)) (further_cards script (shown_of page)) k)
  pub before : (front : List SourceLine) (line : SourceLine) → shown_of page ≡ front ++ line ∷ [] → Precedes page line

-- The fault that is shown, if its caret is on the line at this place among them;
abbrev pub fault_at : Option (Caret × FaultKind) → ℕ → Option (Caret × FaultKind)
fault_at None index = None
fault_at (Some f) index = if f.0.place.line == index then Some f else None

-- and its caret, if it's on one of these lines.
abbrev pub mark_at : Caret × FaultKind → Option SourceLine → List Mark
mark_at f None = []
mark_at f (Some line) = mark_of line f ∷ []

abbrev pub marks_in : List SourceLine → Option (Caret × FaultKind) → List Mark
marks_in lines None = []
marks_in lines (Some f) = mark_at f (slice_get lines f.0.place.line)

-- So they are after a line that was taken; and if none was, the lines still are.
abbrev pub IsPageAfter : List ℕ → Result (Option Step) TooLong → ListingPage → Type 0
IsPageAfter script (Ok (Some step)) page = IsPage script (fault_told step.told) page
IsPageAfter script (Ok None) page = AreLinesOf script page
IsPageAfter script (Err e) page = Unit {0}

-- A line begins at this place of a script.
abbrev pub IsLineStart : List ℕ → ℕ → Type 0
IsLineStart script at = (at ≡ 0) ⊎ (slice_index script (at - 1) ≡ 10)

-- Lines follow one another from one place of a script to another: each begins after the line feed of the one before.
abbrev pub Follow : ℕ → List SourceLine → ℕ → Type 0
Follow from [] to = from ≡ to
Follow from (line ∷ lines) to = (line.start ≡ from) × Follow (line.end + 1) lines to

-- They are all lines of the script: what follows its last line feed is the last of them if it has any bytes.
abbrev pub EndsWith : List ℕ → List SourceLine → SourceLine → Type 0
EndsWith script lines line =
    ((front : List SourceLine) × (lines ≡ front ++ line ∷ [])) × Follow 0 lines (line.end + 1)
    × (line.start < length script) × (line.end ≡ length script)

abbrev pub AreAllLines : List ℕ → List SourceLine → Type 0
AreAllLines script lines = Follow 0 lines (length script) ⊎ ((line : SourceLine) × EndsWith script lines line)

-- Or the first ones.
abbrev pub AreFirstLines : List SourceLine → Type 0
AreFirstLines lines = (to : ℕ) × Follow 0 lines to
