-- The text that goes out: what is asked for, read and found.
use Rattle.std.specs.Prelude.{ℕ, ◌+◌, ◌-◌, ◌*◌, ◌/◌, min, Bool, false, not, ◌==◌, nat_le, if◌then◌else◌}
use Rattle.std.specs.Prelude.{Option, Some, None, List, [], ◌++◌, codes, drop, take}
use Rattle.arrayvec.specs.ArrayVec.{ArrayVec}
use Rattle.std.specs.Fmt.{decimal}
use Rattle.script_steps.specs.Responses.{shown_text}
use Rattle.vsm_model.specs.declared.limits.Settings.{Settings}
use Rattle.vsm_model.specs.Map.{line}
use Rattle.vsm_model.specs.Regions.{in_a_region}
use Rattle.vsm_model.specs.Texts.{hexadecimal}
use Rattle.explain_who.specs.Readings.{skip_of}
use Rattle.explain_who.specs.TakenTexts.{storage_text}
use Rattle.explain_who.specs.LineTexts.{counted, line_text}
use Rattle.explain_who.specs.Who.{Difference}
use Rattle.explain_who.specs.declared.holdings.Holding.{Holding}
use Rattle.explain_who.specs.declared.holdings.Runs.{Runs}
use Rattle.explain_who.specs.declared.readings.Part.{Part}
use Rattle.explain_who.specs.declared.readings.Part.TheVariants as part
use Rattle.explain_who.specs.declared.readings.Subject.{Subject}
use Rattle.explain_who.specs.declared.readings.Subject.TheVariants as asked
use Rattle.explain_who.specs.declared.readings.Seen.{Seen}
use Rattle.explain_who.specs.declared.readings.Seen.TheVariants as seen

-- words, and a number after them
abbrev pub numbered : List ℕ → ℕ → List ℕ
numbered words number = words ++ decimal number

-- in how many runs it is
abbrev pub runs_text : Runs → List ℕ → List ℕ
runs_text runs word = codes " in " ++ counted runs.count word

-- the bytes that are taken, and those that are free
abbrev pub taken_and_free : Holding → List ℕ
taken_and_free h =
    codes ", " ++ decimal (4096 * h.pages.total - 8 * h.free.total) ++ codes " taken, " ++ decimal (8 * h.free.total)
    ++ codes " free"

-- the pages and extents of a subpool, these bytes, and the free areas
abbrev pub pages_text : Holding → List ℕ
pages_text h =
    counted h.pages.total (codes "page") ++ runs_text h.pages (codes "extent") ++ taken_and_free h
    ++ runs_text h.free (codes "area")

abbrev pub holding_text : Holding → List ℕ
holding_text h = if h.pages.count == 0 then codes "no pages" else pages_text h

-- a word, or these words if there is none
abbrev pub word_text : Option ℕ → List ℕ → List ℕ
word_text (Some word) none = hexadecimal 8 word
word_text None none = none

-- of the bytes of a place, at most 32 after those left out at the front
abbrev pub bytes_text : ℕ → Option (ArrayVec ℕ) → List ℕ
bytes_text skip None = codes "ABEND S0C4"
bytes_text skip (Some bytes) = shown_text (take 32 (drop skip bytes.items))

-- what is read, except the storage
abbrev pub value_text : ℕ → Seen → List ℕ
value_text skip (seen.Place p) = bytes_text skip p.bytes
value_text skip (seen.Register word) = word_text word (codes "no task")
value_text skip (seen.Name word) = word_text word (codes "not defined")
value_text skip (seen.Held None) = codes "no task"
value_text skip (seen.Held (Some holding)) = holding_text holding

-- the storage that is read, and which line took it; only an address has storage
abbrev pub storage_of : Option ℕ → Seen → List ℕ
storage_of line (seen.Place p) = storage_text line p
storage_of line (seen.Register word) = []
storage_of line (seen.Name word) = []
storage_of line (seen.Held holding) = []

-- a part of what is read
abbrev pub side_text : Part → Seen → Option ℕ → ℕ → List ℕ
side_text part.Storage seen line skip = storage_of line seen
side_text part.Value seen line skip = value_text skip seen

-- the address of the first byte that is shown, if more bytes are asked for than are shown
abbrev pub shown_at : Part → Seen → ℕ → Option ℕ
shown_at part.Value (seen.Place p) skip = if nat_le p.count 32 then None else Some (min (p.address + skip) 4294967295)
shown_at _ _ skip = None

abbrev pub at_text : Option ℕ → List ℕ
at_text (Some at) = codes "at " ++ hexadecimal 8 at ++ codes " "
at_text None = []

-- what is asked for
abbrev pub asked_text : Subject → List ℕ
asked_text (asked.Bytes address count) = counted count (codes "byte") ++ codes " at " ++ hexadecimal 8 address
asked_text (asked.Register task register) = numbered (codes "register ") register ++ numbered (codes " of task ") task
asked_text (asked.Name name) = codes "name " ++ name.bytes
asked_text (asked.Subpool task number) =
    numbered (codes "subpool ") number ++ numbered (codes " as seen by task ") task

-- what is asked for is at an address in neither region
abbrev pub is_outside : Settings → Subject → Bool
is_outside settings (asked.Bytes address count) = not (in_a_region settings (address / 4096))
is_outside settings (asked.Register task register) = false
is_outside settings (asked.Name name) = false
is_outside settings (asked.Subpool task number) = false

abbrev pub outside_text : Settings → Subject → List ℕ
outside_text settings question = if is_outside settings question then codes ", in neither region" else []

-- the question's line
abbrev pub question_text : Settings → Subject → List ℕ
question_text settings question = line (asked_text question ++ outside_text settings question)

-- the line of a part of a change: its statement's, with what is read before and after it
abbrev pub part_text : List ℕ → Part → Difference → List ℕ
part_text script part d =
    line (line_text script d.line ++ at_text (shown_at part d.before (skip_of d.before d.after))
    ++ side_text part d.before d.taken_before (skip_of d.before d.after) ++ codes " -> "
    ++ side_text part d.after d.taken_after (skip_of d.before d.after))

-- how many statements changed it, of how many in effect
abbrev pub looked_text : ℕ → ℕ → List ℕ
looked_text changes standing =
    decimal changes ++ codes " of " ++ counted standing (codes "statement") ++ line (codes " in effect")
