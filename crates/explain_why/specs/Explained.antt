-- What is written of the statement of a line, for a whole script.
use Rattle.std.specs.Prelude.{◌≡◌, ◌⊎◌, ℕ, ◌+◌, ◌-◌, ◌<◌, ◌≤◌, Bool, false, List, [], ◌++◌, length}
use Rattle.std.specs.Prelude.{Option, Some, None, drop, map, slice_index, take}
use Rattle.std.specs.Io.KnownBytes.{Appends}
use Rattle.vsm_model.specs.declared.causes.Cause.{Cause}
use Rattle.vsm_model.specs.declared.limits.Settings.{Settings}
use Rattle.vsm_model.specs.Causes.{first_cause}
use Rattle.vsm_model.specs.Names.{NamedState, is_one_too_many}
use Rattle.vsm_model.specs.declared.services.Obtain.{Obtain}
use Rattle.vsm_model.specs.Areas.{Place}
use Rattle.vsm_model.specs.Services.{Service, obtain}
use Rattle.vsm_model.specs.declared.replies.Reply.{Reply}
use Rattle.vsm_model.specs.Standing.{Standing, nothing_stands}
use Rattle.vsm_model.specs.Step.{causes}
use Rattle.macro_reader.specs.Columns.{Line}
use Rattle.macro_reader.specs.Scripts.{Part, Reads, awaiting}
use Rattle.macro_statements.specs.Requests.{Act, Asked, act, asked_in, back, forward, map_asked, peek}
use Rattle.macro_statements.specs.Requests.{IsValidAct, IsValue}
use Rattle.vsm_machine.specs.Causes.{is_conditional_get}
use Rattle.vsm_machine.specs.Machine.{looked_up, name_asked, service_asked}
use Rattle.script_steps.specs.Output.{Marked, AllMet, alone_now, stands_all}
use Rattle.script_steps.specs.Script.{columns, Within}
use Rattle.script_steps.specs.Steps.{IsLineOf}
use Rattle.script_steps.specs.Taken.{Took, answers_of}
use Rattle.script_steps.specs.declared.session.Session.{Session}
use Rattle.explain_reasons.specs.Pages.{pages_text}
use Rattle.explain_reasons.specs.Told.{IsTold}
use Rattle.explain_reasons.specs.ToldPlaces.{found_text}
use Rattle.explain_why.specs.Ahead.{AreFirst, Asks, IsAhead}
use Rattle.explain_why.specs.Answers.{WritesAnswer}
use Rattle.explain_why.specs.Defined.{IsItsDefinition}
use Rattle.explain_why.specs.Details.{WritesDetail}
use Rattle.explain_why.specs.Obstacles.{IsItsBringer}
use Rattle.explain_why.specs.Told.{IsItsPlace, kept_text, undone_text}
use Rattle.explain_why.specs.declared.ahead.NextStatement as ahead
use Rattle.explain_why.specs.declared.definitions.Definition.{Definition}
use Rattle.explain_why.specs.declared.ahead.NextStatement.TheVariants as variant
use Rattle.explain_why.specs.declared.lines.LinePlace.{LinePlace}
use Rattle.explain_why.specs.declared.obstacles.Bringer.{Bringer}

-- What a writer holds grows by a text in which such a text occurs.
abbrev pub WritesOne : (List ℕ → Type 0) → Option (List ℕ) → Option (List ℕ) → Type 0
WritesOne is old new =
    (text : List ℕ) × is text × ((front : List ℕ) × (behind : List ℕ) × Appends old new (front ++ (text ++ behind)))

-- If a statement in a state has a first cause by the definitions, why it's refused there or, except for a conditional
-- GET, answered 4, the text of that cause is written.
abbrev pub WritesFirstCause : Settings → NamedState → Act → Option (List ℕ) → Option (List ℕ) → Type 0
WritesFirstCause settings m x old new =
    (service : Service) (cause : Cause) → service_asked m x ≡ Some service → is_conditional_get service ≡ false
    → first_cause (causes settings (is_one_too_many m.names (name_asked x)) m.storage service) ≡ Some cause
    → WritesOne (IsTold settings m.storage service cause) old new

-- If an obtain has no cause, the place of its area is written.
abbrev pub WritesArea : Settings → NamedState → Act → Option (List ℕ) → Option (List ℕ) → Type 0
WritesArea settings m x old new =
    (o : Obtain) → service_asked m x ≡ Some (obtain o)
    → first_cause (causes settings (is_one_too_many m.names (name_asked x)) m.storage (obtain o)) ≡ None
    → (its : Place) × IsItsPlace settings m.storage o its
    × ((front : List ℕ) × (behind : List ℕ) × Appends old new (front ++ (found_text its ++ behind)))

pub record WritesAct (settings : Settings) (m : NamedState) (x : Act) (old new : Option (List ℕ)) : Type 0 where
  pub cause : WritesFirstCause settings m x old new
  pub area : WritesArea settings m x old new

-- Of a request: of a statement which can be written; of a reading of bytes at an address which can, whose their pages
-- are; of a step back or forward how many changes are kept or undone. Of a map nothing is said here.
abbrev pub WritesRequest : Settings → NamedState → ℕ → ℕ → Asked → Option (List ℕ) → Option (List ℕ) → Type 0
WritesRequest settings m kept undone (act x) old new = IsValidAct x → WritesAct settings m x old new
WritesRequest settings m kept undone (peek address count) old new =
    (word : ℕ) → IsValue address → looked_up m address ≡ Some word
    → WritesOne (λ text. text ≡ pages_text m.storage word count) old new
WritesRequest settings m kept undone (back n) old new = WritesOne (λ text. text ≡ kept_text kept) old new
WritesRequest settings m kept undone (forward n) old new = WritesOne (λ text. text ≡ undone_text undone) old new
WritesRequest settings m kept undone map_asked old new = Unit {0}

abbrev pub WritesAhead : Settings → NamedState → ℕ → ℕ → ahead.NextStatement → Option (List ℕ) → Option (List ℕ)
    → Type 0
WritesAhead settings m kept undone (variant.Request request) old new =
    WritesRequest settings m kept undone (asked_in request) old new
WritesAhead settings m kept undone _ old new = Unit {0}

-- The same where these statements are in effect: in their state, run alone.
abbrev pub WritesStanding : Settings → Standing Act Reply → ahead.NextStatement → Option (List ℕ) → Option (List ℕ)
    → Type 0
WritesStanding settings l asked old new =
    WritesAhead settings (alone_now settings l) l.kept (length l.undone) asked old new

-- A line begins at this place of a script.
abbrev pub IsLineStart : List ℕ → ℕ → Type 0
IsLineStart script at = (at ≡ 0) ⊎ (slice_index script (at - 1) ≡ 10)

-- A statement begins at this place, on a line of this number, and has a line of that number.
pub record IsStatementAt (script : List ℕ) (at first line : ℕ) (place : LinePlace) : Type 0 where
  pub begins : place.at ≡ at
  pub numbered : place.first ≡ first
  pub bears : place.ahead.asked ≡ variant.Aside → ⊥
  pub ahead : IsAhead (drop at script) place.ahead
  pub from : first ≤ line
  pub to : line < first + place.ahead.lines

-- The statement of a line begins at a place that a session has reached which awaits one.
pub record IsPlaceOf (s : Session) (script : List ℕ) (at line : ℕ) (place : LinePlace) : Type 0 where
  pub awaits : s.reader.mode ≡ awaiting
  pub statement : IsStatementAt script at (s.lines + 1) line place

-- A line from a place on is taken, and the next begins after it.
pub record TakesLine (script : List ℕ) (at : ℕ) (old new : Session) (next : ℕ) : Type 0 where
  pub line : IsLineOf script at next
  pub within : next ≤ length script
  pub starts : IsLineStart script next
  pub took : (settings : Settings) (answers : List Marked) → Took settings (take at script) answers old
      → (all : List Marked) × Took settings (take next script) all new

-- The statement of a line is found, before which a session has taken the script.
pub record IsFound (settings : Settings) (script : List ℕ) (line : ℕ) (s : Session) (place : LinePlace) : Type 0 where
  pub before : List Marked
  pub took : Took settings (take place.at script) before s
  pub starts : IsLineStart script place.at
  pub its : IsPlaceOf s script place.at line place

-- The statement of a line in a script is explained: the lines before it are whole parts, with these answers; its own
-- are the next, of which the line is one; and by what they ask for, what is written has the text of the statement's
-- first cause, the place of its area, whose the pages of a reading are, or how many changes are kept or undone, in the
-- state of the statements in effect before it, run alone; and the line that brought what keeps it from its effect. It
-- ends in the answer, and says whether that is a refusal.
pub record IsExplained (settings : Settings) (script : List ℕ) (line : ℕ) (old new : Option (List ℕ)) (refused : Bool) :
    Type 0 where
  pub place : ℕ
  pub lines : List (List ℕ)
  pub within : Within (take place script) lines []
  pub before : List Marked
  pub parts : List Part
  pub reads : Reads (map columns lines) (answers_of before) parts
  pub met : AllMet settings nothing_stands before
  pub own : List Line
  pub behind : List ℕ
  pub next : AreFirst (drop place script) own behind
  pub asked : ahead.NextStatement
  pub asks : Asks own behind asked
  pub bears : asked ≡ variant.Aside → ⊥
  pub from : length lines < line
  pub to : line ≤ length lines + length own
  pub tells : WritesStanding settings (stands_all settings nothing_stands before) asked old new
  pub definition : Definition
  pub defined : IsItsDefinition settings (alone_now settings (stands_all settings nothing_stands before))
      (take place script) asked definition
  pub bringer : Option Bringer
  pub brought : IsItsBringer settings (alone_now settings (stands_all settings nothing_stands before))
      (take place script) asked bringer
  pub detail : WritesDetail (length lines + 1) own (alone_now settings (stands_all settings nothing_stands before))
      asked definition bringer old new
  pub answer : WritesAnswer settings script before (length lines + 1) line old new refused
