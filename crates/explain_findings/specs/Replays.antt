-- What is known after some statements in effect, and what was found of them.
use Rattle.std.specs.Prelude.{◌≡◌, ℕ, ◌≤◌, ◌<◌, ◌^◌, Bool, false, ◌&&◌, ◌==◌, if◌then◌else◌, Option, Some, None, Ok}
use Rattle.std.specs.Prelude.{List, [], ◌∷◌, map, reverse, take}
use Rattle.bench_core.specs.Machine.{service_asked}
use Rattle.bench_core.specs.Stands.{IsNew}
use Rattle.bench_core.specs.declared.bench.Bench.{Bench}
use Rattle.macro_operands.specs.declared.requests.Statement.{Statement}
use Rattle.macro_statements.specs.Requests.{Act, act_in, written_in}
use Rattle.vsm_model.specs.declared.limits.Settings.{Settings}
use Rattle.vsm_model.specs.declared.replies.Reply.{Reply}
use Rattle.vsm_model.specs.declared.replies.Reply.TheVariants.{Obtained, Returned, Cell, Attached, Turn, Stored}
use Rattle.vsm_model.specs.Names.{NamedState, word_of}
use Rattle.vsm_model.specs.Regions.{among}
use Rattle.vsm_model.specs.Services.{Service}
use Rattle.explain_standing.specs.declared.trail.TrailEntry.{TrailEntry}
use Rattle.explain_standing.specs.Carried.{IsCarried, line_act}
use Rattle.explain_standing.specs.NumberMaps.{number_in}
use Rattle.explain_standing.specs.Since.{machine_after, reply_to}
use Rattle.explain_standing.specs.Standings.{IsFollowedBy, acts_in, reading_in}
use Rattle.explain_standing.specs.declared.carried.Carried.{Carried}
use Rattle.explain_standing.specs.declared.standing.Followed.{Followed}
use Rattle.explain_standing.specs.declared.standing.Reading.{Reading as ReadingKept}
use Rattle.explain_findings.specs.Endings.{can_end, ended_by, gives}
use Rattle.explain_findings.specs.Found.{AreFound, finding_at, is_something, judged, judged_readings, on_line}
use Rattle.explain_findings.specs.Found.{reading_finding}
use Rattle.explain_findings.specs.NameEndings.{can_end_in, ending_kept, word_kept}
use Rattle.explain_findings.specs.Stores.{stored_since, stores}
use Rattle.explain_findings.specs.Tables.{on_table}
use Rattle.explain_findings.specs.declared.endings.CanEnd.{CanEnd}
use Rattle.explain_findings.specs.declared.endings.Endings.{Endings}
use Rattle.explain_findings.specs.declared.findings.Finding.{Finding}
use Rattle.explain_findings.specs.declared.findings.Findings.{Findings}
use Rattle.explain_findings.specs.declared.findings.Part.{Part}
use Rattle.explain_findings.specs.declared.judging.Known.{Known}
use Rattle.explain_findings.specs.declared.replay.Judged.{Judged}
use Rattle.explain_findings.specs.declared.replay.Replay.{Replay}
use Rattle.explain_findings.specs.declared.tables.LineTable.{LineTable}

-- ---- one statement

-- the address of an area or a cell that a reply gives
abbrev pub word_given : Reply → Option ℕ
word_given (Obtained address length) = Some address
word_given (Cell address) = Some address
word_given (Returned code) = None
word_given (Attached task) = None
word_given (Turn task) = None
word_given Stored = None

-- a release that isn't answered 0 released nothing
abbrev pub part_kept : Reply → Option Part → Option Part
part_kept (Returned code) part = if code == 0 then part else None
part_kept (Obtained address length) part = None
part_kept (Cell address) part = None
part_kept (Attached task) part = None
part_kept (Turn task) part = None
part_kept Stored part = None

-- one of these bytes, if there are any: the first, and how many there are
abbrev pub is_among : Option (ℕ × ℕ) → ℕ → Bool
is_among None byte = false
is_among (Some bytes) byte = among bytes.0 bytes.1 byte

-- exactly these bytes are stored by a service
abbrev pub IsStoredBy : Service → Option (ℕ × ℕ) → Type 0
IsStoredBy service bytes = (byte : ℕ) → is_among bytes byte ≡ stores (Some service) byte

-- The service of a statement is known: what it can end, and which bytes it stores.
pub record IsServed (m : NamedState) (x : Act) (ends : CanEnd) (bytes : Option (ℕ × ℕ)) : Type 0 where
  pub service : Service
  pub asked : service_asked m x ≡ Some service
  pub ends_it : (address : ℕ) → can_end_in ends address ≡ can_end (Some service) address
  pub stores_it : IsStoredBy service bytes

-- The address in a reply goes to a name, if there are both.
pub record IsGiven (old : Endings) (name : Option (List ℕ)) (reply : Reply) (new : Endings) : Type 0 where
  pub endings :
      (other : List ℕ) → ending_kept new other ≡ (if gives (Some reply) name other then None else ending_kept old other)
  pub words :
      (other : List ℕ) → word_kept new other
      ≡ (if gives (Some reply) name other then word_given reply else word_kept old other)

-- what is found on one more line, if something is
abbrev pub with_finding : ℕ → Finding → (ℕ → Option Finding) → ℕ → Option Finding
with_finding line finding found n = if (line == n) && is_something finding then Some finding else found n

-- ---- all statements up to one

-- the first n statements, the newest first
abbrev pub first_acts : List (TrailEntry Statement) → ℕ → List (ℕ × Act)
first_acts entries n = reverse (acts_in (take n entries))

-- These statements, the newest first, were carried out, and what is known of them: the words of names, what ended what
-- was there, and which line stored a byte.
pub record Knows (settings : Settings) (xs : List (ℕ × Act)) (c : Carried) (known : Known) : Type 0 where
  pub carried : IsCarried settings xs c
  pub words : (name : List ℕ) → word_kept known.endings name ≡ word_of (machine_after settings xs).names name
  pub endings : (name : List ℕ) → ending_kept known.endings name ≡ ended_by settings xs name
  pub stored : (byte : ℕ) → byte < 2 ^ 32 → number_in known.stored byte ≡ stored_since settings xs byte

-- What a statement can do is known, and what is found of it, except that a part isn't released if it isn't answered 0.
pub record IsJudged (settings : Settings) (older : List (ℕ × Act)) (x : Act) (j : Judged) : Type 0 where
  pub served : IsServed (machine_after settings older) x j.can_end j.stores
  pub found :
      (reply : Reply) → reply_to settings older x ≡ Some reply →
      finding_at settings older x ≡ record j.finding { part = part_kept reply j.finding.part }

-- From what is known of the statements before it, a statement is judged,
abbrev pub Judges : Carried → Known → Act → Judged → Type 0
Judges c known x j =
    (settings : Settings) (older : List (ℕ × Act)) → Knows settings older c known → IsJudged settings older x j

-- or carried out, which the reply answers,
abbrev pub CarriesOn : Carried → Known → TrailEntry Statement → CanEnd → Option (ℕ × ℕ) → Reply → Carried → Known
    → Type 0
CarriesOn c known e ends bytes reply after knew =
    (settings : Settings) (older : List (ℕ × Act)) → Knows settings older c known →
    IsServed (machine_after settings older) (act_in e.seen) ends bytes →
    Knows settings (line_act e ∷ older) after knew × (reply_to settings older (act_in e.seen) ≡ Some reply)

-- or both.
abbrev pub JudgesNext : Carried → Known → TrailEntry Statement → Finding → Carried → Known → Type 0
JudgesNext c known e f after knew =
    (settings : Settings) (older : List (ℕ × Act)) → Knows settings older c known →
    Knows settings (line_act e ∷ older) after knew × (finding_at settings older (act_in e.seen) ≡ f)

-- Each of these statements was judged.
pub record IsReplayed (settings : Settings) (xs : List (ℕ × Act)) (r : Replay) : Type 0 where
  pub knows : Knows settings xs r.carried r.known
  pub found : (line : ℕ) → on_table r.found.statements line ≡ on_line (judged settings xs) line

-- The statement after those of a replay is judged and carried out,
abbrev pub GoesOn : TrailEntry Statement → Replay → Replay → Type 0
GoesOn e r s =
    (settings : Settings) (older : List (ℕ × Act)) → IsReplayed settings older r →
    IsReplayed settings (line_act e ∷ older) s

-- and each of these from one to another.
abbrev pub GoesTo : List (TrailEntry Statement) → ℕ → ℕ → Replay → Replay → Type 0
GoesTo entries from to r s =
    (settings : Settings) → IsReplayed settings (first_acts entries from) r →
    IsReplayed settings (first_acts entries to) s

-- Nothing was carried out, and what is found of a PEEK is kept on its line.
abbrev pub Reads : ReadingKept → Replay → Replay → Type 0
Reads reading r s =
    (settings : Settings) (xs : List (ℕ × Act)) → IsReplayed settings xs r →
    IsReplayed settings xs s × ((n : ℕ) → on_table s.found.readings n
    ≡ with_finding reading.line (reading_finding settings xs (written_in reading.address) reading.count)
    (on_table r.found.readings) n)

-- Each of these PEEKs, given oldest first, was judged in its state, which is one of those up to these statements.
abbrev pub AreRead : Settings → List (ℕ × Act) → List ReadingKept → LineTable → Type 0
AreRead settings xs readings t =
    (line : ℕ) → on_table t line ≡ on_line (judged_readings settings xs (reverse (map reading_in readings))) line

-- The PEEKs come after as many statements as each says, in their order; none comes before as many as the first number,
-- or after more than the last.
abbrev pub Rises : ℕ → List ℕ → ℕ → Type 0
Rises low [] high = Unit {0}
Rises low (d ∷ ds) high = (low ≤ d) × (d ≤ high) × Rises d ds high

abbrev pub depths : List ReadingKept → List ℕ
depths = map (λ r. r.depth)

-- All of them were judged from the start on.
abbrev pub ReplaysAll : List (TrailEntry Statement) → List ReadingKept → Replay → Replay → Type 0
ReplaysAll entries readings r s =
    (settings : Settings) → IsReplayed settings [] r → AreRead settings [] [] r.found.readings →
    IsReplayed settings (reverse (acts_in entries)) s
    × AreRead settings (reverse (acts_in entries)) readings s.found.readings

-- Nothing is known or found yet.
pub record IsNothingFound (r : Replay) : Type 0 where
  pub stored : (byte : ℕ) → number_in r.known.stored byte ≡ None
  pub endings : (name : List ℕ) → ending_kept r.known.endings name ≡ None
  pub words : (name : List ℕ) → word_kept r.known.endings name ≡ None
  pub statements : (line : ℕ) → on_table r.found.statements line ≡ None
  pub readings : (line : ℕ) → on_table r.found.readings line ≡ None

-- Some script was followed.
abbrev pub FollowsSome : Followed → Type 0
FollowsSome f = (settings : Settings) × (script : List ℕ) × IsFollowedBy settings script f

-- All is found in a script that was followed, by a new bench.
abbrev pub FindsIn : Followed → Bench → Findings → Type 0
FindsIn f b found =
    (settings : Settings) (script : List ℕ) → IsNew settings (Ok b) → IsFollowedBy settings script f →
    AreFound settings script (Ok found)
