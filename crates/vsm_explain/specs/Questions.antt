-- What is asked about a script, by what the arguments of a command say.
use Rattle.std.specs.Prelude.{◌≡◌, ◌⊎◌, ◌≤◌, ◌<◌, ◌+◌, ◌&&◌, ◌||◌, ◌==◌, ℕ, List, [], ◌++◌, codes, drop, length}
use Rattle.std.specs.Prelude.{if◌then◌else◌, map, nat_le, nat_lt, slice_index_or, true, false, ⊤, IfSome}
use Rattle.std.specs.Prelude.{Bool, Option, Some, None, is_some, option_map, unwrap_or}
use Rattle.std.specs.List.{after_first, before_first, position_or_len}
use Rattle.std.specs.Option.{option_map_or}
use Rattle.std.specs.Str.{bytes_eq}
use Rattle.std.specs.Char.{to_ascii_uppercase}
use Rattle.clap.specs.Words.{Text}
use Rattle.explain_areas.specs.declared.asked.Listed.{Listed}
use Rattle.explain_areas.specs.declared.asked.Listed.TheVariants as listed
use Rattle.explain_text.specs.declared.json.Form.{Form}
use Rattle.explain_text.specs.declared.json.Form.TheVariants as form
use Rattle.operand_texts.specs.Values.{number_of}
use Rattle.operand_texts.specs.Words.{is_name}
use Rattle.arrayvec.specs.ArrayString.{ArrayString}
use Rattle.vsm_model.specs.declared.limits.Settings.{Settings}
use Rattle.vsm_explain.specs.declared.questions.About.{About}
use Rattle.vsm_explain.specs.declared.questions.About.TheVariants as about
use Rattle.vsm_explain.specs.declared.questions.Place.{Place}
use Rattle.vsm_explain.specs.declared.questions.Place.TheVariants as place
use Rattle.vsm_explain.specs.declared.questions.Question.{Question}
use Rattle.vsm_explain.specs.declared.questions.Question.TheVariants as question
use Rattle.vsm_explain.specs.declared.questions.Asking.{Asking}
use Rattle.vsm_explain.specs.declared.refusals.WordRefusal.{WordRefusal}
use Rattle.vsm_explain.specs.declared.refusals.WordRefusal.TheVariants as refusal

-- the values of options and operands, by their names; 'true' or 'false' for an option without a value
abbrev pub Said : Type 0
Said = Text → Option Text

-- ---- numbers as in a script

abbrev pub within : ℕ → ℕ → Option ℕ → Option ℕ
within least most (Some n) = if nat_le least n && nat_le n most then Some n else None
within least most None = None

abbrev pub number_within : ℕ → ℕ → Text → Option ℕ
number_within least most text = within least most (number_of text)

-- ---- addresses

-- X'..' with these digits
abbrev pub quoted : Text → Text
quoted digits = codes "X'" ++ digits ++ codes "'"

-- the number that one to eight hexadecimal digits spell
abbrev pub hexadecimal : Text → Option ℕ
hexadecimal digits = if nat_lt 8 (length digits) then None else number_of (quoted digits)

abbrev pub is_zero_first : Text → Bool
is_zero_first text = nat_lt 1 (length text) && (slice_index_or text 0 0 == 48)

abbrev pub is_marked : Text → Bool
is_marked text = is_zero_first text && ((slice_index_or text 1 0 == 120) || (slice_index_or text 1 0 == 88))

-- eight hexadecimal digits, as answers print an address
abbrev pub printed : Text → Option ℕ
printed text = if length text == 8 then hexadecimal text else None

-- An address is 0x and hexadecimal digits, or as answers print one, or else a number as in a script.
abbrev pub address_number : Text → Option ℕ
address_number text =
    if is_marked text then hexadecimal (drop 2 text)
    else option_map_or (λ address. Some address) (printed text) (number_of text)

-- It may also be written as a name, which is no address.
abbrev pub IsPlace : Text → Place → Type 0
IsPlace text (place.Number address) = address_number text ≡ Some address
IsPlace text (place.Named name) =
    (address_number text ≡ None) × (is_name text ≡ true) × (name.bytes ≡ map to_ascii_uppercase text)

-- ---- what can be asked for

abbrev pub IsLine : ℕ → Type 0
IsLine line = (1 ≤ line) × (line ≤ 1048576)

-- a task, and one of the numbers of 128 subpools
abbrev pub IsSeenThere : ℕ × ℕ → Type 0
IsSeenThere seen = (1 ≤ seen.0) × (seen.1 ≤ 127)

-- 1 to 256 bytes, one of sixteen registers, one of the subpools that a task may see
abbrev pub IsThere : About → Type 0
IsThere (about.Bytes place count) = (1 ≤ count) × (count ≤ 256)
IsThere (about.Register task register) = (1 ≤ task) × (register ≤ 15)
IsThere (about.Subpool task number) = IsSeenThere (task, number)
IsThere _ = ⊤

abbrev pub IsListable : Listed → Type 0
IsListable (listed.Areas subpool keeps) = IfSome subpool IsSeenThere
IsListable (listed.Cells pool) = ⊤

abbrev pub IsAskable : Question → Type 0
IsAskable (question.Why line) = IsLine line
IsAskable (question.Report line) = IfSome line IsLine
IsAskable (question.Taken asked) =
    IfSome asked.line IsLine × IfSome asked.since IsLine × IsListable asked.listed
IsAskable (question.OverTime subpool) = IfSome subpool IsSeenThere
IsAskable (question.Who it oldest) = IsThere it
IsAskable _ = ⊤

-- The script is the one that is named, if one is read.
abbrev pub IsOfFile : Said → Question → Option Text → Type 0
IsOfFile said (question.Code first second) file = file ≡ None
IsOfFile said _ file = file ≡ said (codes "FILE")

-- ---- what the arguments of a command say

-- the option is given
abbrev pub is_set : Text → Said → Bool
is_set name said = option_map_or (λ text. bytes_eq text (codes "true")) (said name) false

abbrev pub is_given : Text → Said → Bool
is_given name said = is_some (said name)

-- the form of the answer
abbrev pub form_in : Said → Form
form_in said = if is_set (codes "json") said then form.Json else form.Text

-- an argument that begins with a digit is meant as a line
abbrev pub is_line : Text → Bool
is_line text = nat_lt 0 (length text) && nat_le 48 (slice_index_or text 0 0) && nat_le (slice_index_or text 0 0) 57

abbrev pub line_in : Text → Option ℕ
line_in text = number_within 1 1048576 text

-- the parts before a comma (44) and after it
abbrev pub has_comma : Text → Bool
has_comma text = nat_lt (position_or_len (λ c. c == 44) text) (length text)

abbrev pub before_comma : Text → Text
before_comma text = before_first (λ c. c == 44) text

abbrev pub after_comma : Text → Text
after_comma text = after_first (λ c. c == 44) text

abbrev pub both : Option ℕ → Option ℕ → Option (ℕ × ℕ)
both (Some a) (Some b) = Some (a, b)
both _ _ = None

-- a task and a number, at most this; task 1 if none is written
abbrev pub of_task : ℕ → Text → Option (ℕ × ℕ)
of_task most text =
    if has_comma text then both (number_within 1 255 (before_comma text)) (number_within 0 most (after_comma text))
    else both (Some 1) (number_within 0 most text)

-- with the number of a register
abbrev pub register_in : Text → Option (ℕ × ℕ)
register_in text = of_task 15 text

-- or of a subpool
abbrev pub seen_in : Text → Option (ℕ × ℕ)
seen_in text = of_task 127 text

-- a count of bytes: one if none is written
abbrev pub count_in : Option Text → Option ℕ
count_in None = Some 1
count_in (Some text) = number_within 1 256 text

-- What an argument says that may be left out.
abbrev pub Says : {X : Type 0} → (Text → Option X) → Option Text → Option X → Type 0
Says of None None = ⊤
Says of (Some text) (Some x) = of text ≡ Some x
Says of _ _ = ⊥

-- ---- what they ask

-- `why` asks about a line if its second argument is meant as one, else what an answer of one or two words means.
abbrev pub IsWhyAsked : Said → Question → Type 0
IsWhyAsked said (question.Why line) =
    (text : Text) × (said (codes "LINE") ≡ Some text) × (is_line text ≡ true) × (line_in text ≡ Some line)
IsWhyAsked said (question.Code first second) =
    (first.now ≡ unwrap_or (said (codes "FILE")) [])
    × (option_map (λ s. s.now) second ≡ said (codes "LINE"))
    × (option_map_or is_line (said (codes "LINE")) false ≡ false)
IsWhyAsked said _ = ⊥

-- a name as in a script, which may be left out
abbrev pub SaysName : Option Text → Option ArrayString → Type 0
SaysName None None = ⊤
SaysName (Some text) (Some name) = (is_name text ≡ true) × (name.bytes ≡ map to_ascii_uppercase text)
SaysName _ _ = ⊥

-- more than one of three
abbrev pub more_than_one : Bool → Bool → Bool → Bool
more_than_one true b c = b || c
more_than_one false b c = b && c

-- `report --areas` lists areas, all or those of a subpool, with --keeps also the pages that few bytes keep; `report
-- --cells` lists the cells in use, all or those of a cell pool.
abbrev pub IsListed : Said → Listed → Type 0
IsListed said (listed.Areas subpool keeps) =
    (is_set (codes "areas") said ≡ true) × (is_set (codes "cells") said ≡ false)
    × (is_given (codes "pool") said ≡ false)
    × ((is_set (codes "keeps") said && is_given (codes "since") said) ≡ false)
    × Says seen_in (said (codes "subpool")) subpool × (keeps ≡ is_set (codes "keeps") said)
IsListed said (listed.Cells pool) =
    (is_set (codes "cells") said ≡ true) × (is_set (codes "areas") said ≡ false)
    × (is_set (codes "keeps") said ≡ false) × (is_given (codes "subpool") said ≡ false)
    × SaysName (said (codes "pool")) pool

-- `report` asks of the statement of a line, or of the last, how much is left, or what is taken, with --since only by
-- later lines; with --over-time of each statement, of all storage or of a subpool.
abbrev pub IsReportAsked : Said → Question → Type 0
IsReportAsked said (question.Report line) =
    (is_set (codes "areas") said ≡ false) × (is_set (codes "cells") said ≡ false)
    × (is_set (codes "over-time") said ≡ false) × (is_set (codes "keeps") said ≡ false)
    × (is_given (codes "pool") said ≡ false) × (is_given (codes "subpool") said ≡ false)
    × (is_given (codes "since") said ≡ false) × Says line_in (said (codes "LINE")) line
IsReportAsked said (question.Taken asked) =
    (is_set (codes "over-time") said ≡ false) × IsListed said asked.listed
    × Says line_in (said (codes "LINE")) asked.line × Says line_in (said (codes "since")) asked.since
    × (asked.form ≡ form_in said)
IsReportAsked said (question.OverTime subpool) =
    (is_set (codes "over-time") said ≡ true) × (is_set (codes "areas") said ≡ false)
    × (is_set (codes "cells") said ≡ false) × (is_set (codes "keeps") said ≡ false)
    × (is_set (codes "json") said ≡ false) × (is_given (codes "pool") said ≡ false)
    × (is_given (codes "since") said ≡ false) × (is_given (codes "LINE") said ≡ false)
    × Says seen_in (said (codes "subpool")) subpool
IsReportAsked said _ = ⊥

-- how many things `who` is asked for
abbrev pub one_if : Bool → ℕ
one_if b = if b then 1 else 0

abbrev pub count_asked : Said → ℕ
count_asked said =
    one_if (is_given (codes "register") said) + one_if (is_given (codes "name") said)
    + one_if (is_given (codes "subpool") said) + one_if (is_given (codes "ADDRESS") said)

-- what it's asked for
abbrev pub IsAboutAsked : Said → About → Type 0
IsAboutAsked said (about.Bytes place count) =
    (text : Text) × (said (codes "ADDRESS") ≡ Some text) × IsPlace text place
    × (count_in (said (codes "COUNT")) ≡ Some count)
IsAboutAsked said (about.Register task register) =
    (text : Text) × (said (codes "register") ≡ Some text) × (register_in text ≡ Some (task, register))
IsAboutAsked said (about.Name name) =
    (text : Text) × (said (codes "name") ≡ Some text) × (is_name text ≡ true)
    × (name.bytes ≡ map to_ascii_uppercase text)
IsAboutAsked said (about.Subpool task number) =
    (text : Text) × (said (codes "subpool") ≡ Some text) × (seen_in text ≡ Some (task, number))

-- `who` asks for one thing, with --oldest-first for the oldest change first.
abbrev pub IsWhoAsked : Said → Question → Type 0
IsWhoAsked said (question.Who it oldest) =
    (count_asked said ≤ 1) × IsAboutAsked said it × (oldest ≡ is_set (codes "oldest-first") said)
IsWhoAsked said _ = ⊥

-- `check` asks what is wrong with a script, with --leaks also what is left of each statement.
abbrev pub IsCheckAsked : Said → Question → Type 0
IsCheckAsked said (question.Check leaks) = leaks ≡ is_set (codes "leaks") said
IsCheckAsked said _ = ⊥

-- `list` asks for the listing.
abbrev pub IsListAsked : Said → Question → Type 0
IsListAsked said (question.List only) =
    (is_set (codes "check") said ≡ false) × (only ≡ is_set (codes "refused") said)
IsListAsked said _ = ⊥

-- what a command asks, by its name
pub record IsAskedBy (command : Text) (said : Said) (q : Question) : Type 0 where
  pub check : command ≡ codes "check" → IsCheckAsked said q
  pub list : command ≡ codes "list" → IsListAsked said q
  pub why : command ≡ codes "why" → IsWhyAsked said q
  pub report : command ≡ codes "report" → IsReportAsked said q
  pub who : command ≡ codes "who" → IsWhoAsked said q

-- ---- what is wrong with them

abbrev pub IsWrongWord : {X : Type 0} → Text → (Text → Option X) → Said → Text → Type 0
IsWrongWord name of said text = (said name ≡ Some text) × (of text ≡ None)

-- what can be wrong with the arguments of `list`,
abbrev pub IsListWrong : Said → WordRefusal → Type 0
IsListWrong said refusal.CheckOfList = is_set (codes "check") said ≡ true
IsListWrong said _ = ⊥

-- of `why`, whose second argument is meant as a line,
abbrev pub IsWhyWrong : Said → WordRefusal → Type 0
IsWhyWrong said (refusal.Line word) = IsWrongWord (codes "LINE") line_in said word.now × (is_line word.now ≡ true)
IsWhyWrong said _ = ⊥

-- of `report`,
abbrev pub IsReportWrong : Said → WordRefusal → Type 0
IsReportWrong said (refusal.Line word) = IsWrongWord (codes "LINE") line_in said word.now
IsReportWrong said (refusal.Subpool word) = IsWrongWord (codes "subpool") seen_in said word.now
IsReportWrong said refusal.LineOverTime =
    (is_set (codes "over-time") said ≡ true) × (is_given (codes "LINE") said ≡ true)
IsReportWrong said refusal.JsonOverTime =
    (is_set (codes "over-time") said ≡ true) × (is_set (codes "json") said ≡ true)
IsReportWrong said (refusal.Since word) = IsWrongWord (codes "since") line_in said word.now
IsReportWrong said (refusal.Pool word) = (said (codes "pool") ≡ Some word.now) × (is_name word.now ≡ false)
IsReportWrong said refusal.MoreReports =
    more_than_one (is_set (codes "areas") said) (is_set (codes "cells") said) (is_set (codes "over-time") said)
    ≡ true
IsReportWrong said refusal.KeepsOfAreas =
    (is_set (codes "keeps") said ≡ true) × (is_set (codes "areas") said ≡ false)
IsReportWrong said refusal.KeepsSince =
    (is_set (codes "keeps") said ≡ true) × (is_given (codes "since") said ≡ true)
IsReportWrong said refusal.PoolOfCells =
    (is_given (codes "pool") said ≡ true) × (is_set (codes "cells") said ≡ false)
IsReportWrong said refusal.SubpoolOfReport =
    (is_given (codes "subpool") said ≡ true) × (is_set (codes "areas") said ≡ false)
    × (is_set (codes "over-time") said ≡ false)
IsReportWrong said refusal.SinceOfReport =
    (is_given (codes "since") said ≡ true) × (is_set (codes "areas") said ≡ false)
    × (is_set (codes "cells") said ≡ false)
IsReportWrong said _ = ⊥

-- and of `who`
abbrev pub IsWhoWrong : Said → WordRefusal → Type 0
IsWhoWrong said (refusal.Address word) =
    IsWrongWord (codes "ADDRESS") address_number said word.now × (is_name word.now ≡ false)
IsWhoWrong said (refusal.Count word) = IsWrongWord (codes "COUNT") (number_within 1 256) said word.now
IsWhoWrong said (refusal.Register word) = IsWrongWord (codes "register") register_in said word.now
IsWhoWrong said (refusal.Name word) = (said (codes "name") ≡ Some word.now) × (is_name word.now ≡ false)
IsWhoWrong said (refusal.Subpool word) = IsWrongWord (codes "subpool") seen_in said word.now
IsWhoWrong said refusal.NothingAsked = count_asked said ≡ 0
IsWhoWrong said refusal.MoreAsked = 1 < count_asked said
IsWhoWrong said _ = ⊥

-- what is wrong with the arguments of a command, by its name: with those of `check`, nothing
pub record IsWrongFor (command : Text) (said : Said) (wrong : WordRefusal) : Type 0 where
  pub check : command ≡ codes "check" → ⊥
  pub list : command ≡ codes "list" → IsListWrong said wrong
  pub why : command ≡ codes "why" → IsWhyWrong said wrong
  pub report : command ≡ codes "report" → IsReportWrong said wrong
  pub who : command ≡ codes "who" → IsWhoWrong said wrong

-- Each command refuses a number above 32 bits too, with which there are no settings.
abbrev pub IsWrong : Text → Said → Option Settings → WordRefusal → Type 0
IsWrong command said settings wrong =
    ((wrong ≡ refusal.Settings) × (settings ≡ None)) ⊎ IsWrongFor command said wrong

-- What is asked is what the command's arguments ask; it can be asked, about the script and under the settings that they
-- name, in the form that they name.
pub record Asks (command : Text) (said : Said) (settings : Option Settings) (asking : Asking) : Type 0 where
  pub asked : IsAskedBy command said asking.question
  pub askable : IsAskable asking.question
  pub file : IsOfFile said asking.question (option_map (λ s. s.now) asking.file)
  pub its_settings : Some asking.settings ≡ settings
  pub form : asking.form ≡ form_in said
