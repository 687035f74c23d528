-- What a fault says of the line that isn't explained.
use Rattle.std.specs.Prelude.{◌≡◌, ◌⊎◌, ℕ, ◌+◌, ◌<◌, List, [], ◌∷◌, ◌++◌, drop, length, map, take, true}
use Rattle.std.specs.List.{flat_map, AllByRecursion}
use Rattle.macro_reader.specs.Columns.{Line, is_skipped}
use Rattle.macro_reader.specs.Scripts.{Answer, Drops, Part, Reads, awaiting, dropping}
use Rattle.script_steps.specs.Script.{NoFeed, Within, columns, last_line, with_feed}
use Rattle.script_steps.specs.declared.session.Session.{Session}
use Rattle.explain_why.specs.Ahead.{AreFirst}
use Rattle.explain_why.specs.declared.faults.WhyFault.{WhyFault}
use Rattle.explain_why.specs.declared.faults.WhyFault.TheVariants as fault

-- A script has this number of lines; what follows the last line feed is one if it isn't empty.
pub record HasLineCount (script : List ℕ) (n : ℕ) : Type 0 where
  pub lines : List (List ℕ)
  pub rest : List ℕ
  pub cut : script ≡ flat_map with_feed lines ++ rest
  pub each : AllByRecursion NoFeed lines
  pub plain : NoFeed rest
  pub count : n ≡ length lines + length (last_line rest)

-- Lines are numbered from 1.
abbrev pub IsBeyond : ℕ → ℕ → Type 0
IsBeyond line n = (line ≡ 0) ⊎ (n < line)

-- A line of this number begins at a place of a script, after these lines.
pub record IsLineAt (script : List ℕ) (place line : ℕ) (lines : List (List ℕ)) : Type 0 where
  pub some : place < length script
  pub before : Within (take place script) lines []
  pub number : line ≡ length lines + 1

-- The line at this place is a comment or empty.
abbrev pub IsSkippedAt : List ℕ → ℕ → Type 0
IsSkippedAt script place =
    (own : Line) × (behind : List ℕ) × AreFirst (drop place script) (own ∷ []) behind × (is_skipped own ≡ true)

-- The line follows whole parts, and is a comment or empty;
pub record IsAsideLine (script : List ℕ) (line : ℕ) : Type 0 where
  pub place : ℕ
  pub lines : List (List ℕ)
  pub its : IsLineAt script place line lines
  pub answers : List Answer
  pub parts : List Part
  pub reads : Reads (map columns lines) answers parts
  pub skipped : IsSkippedAt script place

-- or it follows a broken statement and lines that are dropped after that, each of which is continued.
pub record IsDroppedLine (script : List ℕ) (line : ℕ) : Type 0 where
  pub place : ℕ
  pub lines : List (List ℕ)
  pub its : IsLineAt script place line lines
  pub answers : List Answer
  pub drops : Drops (map columns lines) answers

-- What a fault says of a line: the script has no such line, but this number of lines; or the line is a comment or
-- empty; or it's dropped. The others say nothing of it.
abbrev pub IsFaultOf : List ℕ → ℕ → WhyFault → Type 0
IsFaultOf script line (fault.NoLine n) = HasLineCount script n × IsBeyond line n
IsFaultOf script line fault.Aside = IsAsideLine script line
IsFaultOf script line fault.Dropped = IsDroppedLine script line
IsFaultOf script line _ = Unit {0}

-- It's one of the others.
abbrev pub IsOtherFault : WhyFault → Type 0
IsOtherFault (fault.NoLine n) = ⊥
IsOtherFault fault.Aside = ⊥
IsOtherFault fault.Dropped = ⊥
IsOtherFault _ = Unit {0}

-- ---- the same of the line that begins at a place, by a session that has taken the script up to there

-- The statement of that number doesn't begin there, since the line is a comment or empty.
abbrev pub IsStatementFault : List ℕ → ℕ → ℕ → ℕ → WhyFault → Type 0
IsStatementFault script at first line fault.Aside = (line ≡ first) × IsSkippedAt script at
IsStatementFault script at first line _ = ⊥

abbrev pub IsPlaceFault : Session → List ℕ → ℕ → ℕ → WhyFault → Type 0
IsPlaceFault s script at line fault.Aside =
    (s.reader.mode ≡ awaiting) × (line ≡ s.lines + 1) × IsSkippedAt script at
IsPlaceFault s script at line fault.Dropped = (s.reader.mode ≡ dropping) × (line ≡ s.lines + 1)
IsPlaceFault s script at line fault.TooLong = Unit {0}
IsPlaceFault s script at line _ = ⊥

-- The line has no line feed, and is the last one.
abbrev pub IsLastFault : Session → List ℕ → ℕ → WhyFault → Type 0
IsLastFault s script at (fault.NoLine n) = NoFeed (drop at script) × (n ≡ s.lines + 1)
IsLastFault s script at fault.TooLong = Unit {0}
IsLastFault s script at _ = ⊥
