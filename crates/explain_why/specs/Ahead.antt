-- What the lines that a text begins with ask for.
use Rattle.std.specs.Prelude.{◌≡◌, ◌⊎◌, ◌<◌, ℕ, true, false, List, [], ◌∷◌, ◌++◌, length, map, take, Option, Some, None}
use Rattle.std.specs.Prelude.{Result, Ok, Err}
use Rattle.std.specs.List.{flat_map, AllByRecursion}
use Rattle.macro_operands.specs.declared.faults.FaultKind.{FaultKind}
use Rattle.macro_reader.specs.Columns.{Line, is_skipped, used}
use Rattle.macro_reader.specs.Scripts.{Kept, IsBehind, awaiting}
use Rattle.macro_statements.specs.Requests.{Asked, asked_in, IsValidAsked}
use Rattle.script_steps.specs.Script.{NoFeed, columns, with_feed}
use Rattle.explain_faults.specs.Places.{card_in}
use Rattle.explain_why.specs.declared.ahead.Ahead.{Ahead}
use Rattle.explain_why.specs.declared.ahead.NextStatement as ahead
use Rattle.explain_why.specs.declared.ahead.NextStatement.TheVariants as variant

-- A text begins with these lines, each with its line feed, and this follows them.
pub record BeginsWith (text : List ℕ) (lines : List Line) (behind : List ℕ) : Type 0 where
  pub whole : List (List ℕ)
  pub cut : text ≡ flat_map with_feed whole ++ behind
  pub each : AllByRecursion NoFeed whole
  pub are : lines ≡ map columns whole

-- A text has exactly these lines, the last of them without a line feed.
pub record HasLines (text : List ℕ) (lines : List Line) : Type 0 where
  pub front : List Line
  pub last : List ℕ
  pub begins : BeginsWith text front last
  pub plain : NoFeed last
  pub are : lines ≡ front ++ take 80 last ∷ []

-- These are a text's first lines, and this follows them.
abbrev pub AreFirst : List ℕ → List Line → List ℕ → Type 0
AreFirst text lines behind = BeginsWith text lines behind ⊎ (HasLines text lines × (behind ≡ []))

-- The first of these lines, if there is one, is neither a comment nor empty.
abbrev pub IsBegun : List Line → Type 0
IsBegun [] = Unit {0}
IsBegun (line ∷ lines) = is_skipped line ≡ false

-- A reader that was fed only these lines gave no answer.
abbrev pub IsQuiet : List Line → Type 0
IsQuiet lines = (kept : Kept) × IsBehind lines [] kept

-- These lines are a statement, of which the last brings this, and those before it nothing.
pub record IsStatement (lines : List Line) (what : Result Asked FaultKind) : Type 0 where
  pub front : List Line
  pub last : Line
  pub split : lines ≡ front ++ last ∷ []
  pub begun : IsBegun lines
  pub quiet : IsQuiet front
  pub told : (number : ℕ) × (kept : Kept) × IsBehind lines (record { line = number; what = what } ∷ []) kept

-- These lines are a statement that is still open when the text ends, or after ten lines.
pub record IsOpen (lines : List Line) (behind : List ℕ) : Type 0 where
  pub begun : IsBegun lines
  pub quiet : IsQuiet lines
  pub ends : (behind ≡ []) ⊎ (length lines ≡ 10)

-- These lines are one that is a comment or empty.
abbrev pub IsAside : List Line → Type 0
IsAside lines = (line : Line) × (lines ≡ line ∷ []) × (is_skipped line ≡ true)

-- What these lines ask for, which this follows.
abbrev pub Asks : List Line → List ℕ → ahead.NextStatement → Type 0
Asks lines behind (variant.Request request) =
    IsStatement lines (Ok (asked_in request)) × IsValidAsked (asked_in request)
Asks lines behind (variant.Fault kind) = IsStatement lines (Err kind)
Asks lines behind variant.Open = IsOpen lines behind
Asks lines behind variant.Aside = IsAside lines

-- What the first lines of a text ask for, how many they are, and where they are in it.
pub record IsAhead (text : List ℕ) (a : Ahead) : Type 0 where
  pub lines : List Line
  pub behind : List ℕ
  pub first : AreFirst text lines behind
  pub some : 0 < a.lines
  pub count : a.lines ≡ length lines
  pub asks : Asks lines behind a.asked
  pub cards : map (card_in text) a.places.lines.items ≡ map used lines

-- What the last of these lines brought to a reader that gave no answer to those before it; if it brought nothing a
-- statement is open.
abbrev pub Brought : List Line → Kept → Option ahead.NextStatement → Type 0
Brought lines kept None = IsBehind lines [] kept × (kept.mode ≡ awaiting → ⊥)
Brought lines kept (Some (variant.Request request)) =
    ((number : ℕ) × IsBehind lines (record { line = number; what = Ok (asked_in request) } ∷ []) kept)
    × IsValidAsked (asked_in request)
Brought lines kept (Some (variant.Fault kind)) =
    (number : ℕ) × IsBehind lines (record { line = number; what = Err kind } ∷ []) kept
Brought lines kept (Some variant.Open) = ⊥
Brought lines kept (Some variant.Aside) = IsBehind lines [] kept × (kept.mode ≡ awaiting)

-- How a line of a text, of this many bytes, is read: columns 1 to 80, without a carriage return before its line feed.
abbrev pub IsReadAs : List ℕ → ℕ → Line → Type 0
IsReadAs text size line =
    (size < length text → line ≡ columns (take size text)) × (size ≡ length text → line ≡ take 80 text)
