-- The answers of a listing: each a line of text, with the lines after it, or an object of JSON.
use Rattle.std.specs.Prelude.{◌≡◌, ℕ, List, [], ◌∷◌, ◌++◌, codes, if◌then◌else◌, Option, Some, None, unwrap_or}
use Rattle.std.specs.Fmt.{decimal}
use Rattle.explain_text.specs.Json.{json_name, number_field, object_end, object_start, string_field}
use Rattle.explain_text.specs.Json.{truth_field}
use Rattle.explain_text.specs.declared.json.Form.{Form}
use Rattle.explain_text.specs.declared.json.Form.TheVariants as form
use Rattle.vsm_model.specs.declared.limits.Settings.{Settings}
use Rattle.vsm_model.specs.declared.replies.Reply.{Reply}
use Rattle.vsm_model.specs.declared.replies.Reply.TheVariants as reply
use Rattle.vsm_model.specs.Names.{NamedState}
use Rattle.macro_statements.specs.Requests.{Act, Asked, IsValidAsked, act, build}
use Rattle.vsm_machine.specs.Machine.{name_asked}
use Rattle.script_steps.specs.Responses.{is_refused, lines_behind, response_text}
use Rattle.script_steps.specs.declared.responses.Response.{Response}
use Rattle.script_steps.specs.declared.responses.Response.TheVariants as response
use Rattle.explain_faults.specs.declared.lines.SourceLine.{SourceLine}
use Rattle.explain_list.specs.Causes.{IsCauseFor, cause_in}
use Rattle.explain_list.specs.Rows.{IsRowOf, Row, row_text}

-- The mark of an answer: whether it's refused.
abbrev pub mark_text : Response → List ℕ
mark_text told = if is_refused told then codes "       ** " else codes "       -> "

-- What follows the text of an answer: after an accepted statement the number of changes that are kept then.
abbrev pub kept_text : ℕ → Response → List ℕ
kept_text kept (response.Replied r) = codes "   [" ++ (decimal kept ++ codes "]\n")
kept_text kept (response.Refused r) = codes "\n"
kept_text kept response.Shown = codes "\n"
kept_text kept (response.Kept n) = codes "\n"
kept_text kept (response.TooFar n) = codes "\n"
kept_text kept (response.TooFarAhead n) = codes "\n"
kept_text kept response.Map = codes "\n"
kept_text kept (response.Fault k) = codes "\n"

-- An answer of this text, which leaves this state and this many changes kept; and the lines after it.
abbrev pub listed_response : Settings → NamedState → ℕ → List ℕ → Response → List ℕ
listed_response settings m kept text told =
    mark_text told ++ (text ++ (kept_text kept told ++ lines_behind settings m kept told))

-- What an object of an answer says beyond it: the text of the cause of a refusal, the name that the statement gave the
-- address of its area or cell, and the cell pool that it made.
pub record Notes : Type 0 where
  pub cause : List ℕ
  pub name : List ℕ
  pub pool : List ℕ

-- That name and that cell pool; empty if there is none.
abbrev pub name_given : Asked → List ℕ
name_given (act x) = unwrap_or (name_asked x) []
name_given _ = []

abbrev pub pool_built : Act → List ℕ
pool_built (build pool header primary secondary size subpool location) = pool
pool_built _ = []

abbrev pub pool_made : Asked → List ℕ
pool_made (act x) = pool_built x
pool_made _ = []

-- They are those of a statement with this response, in the state in which it was refused.
abbrev pub AreNotes : Form → Settings → NamedState → Asked → Response → Notes → Type 0
AreNotes form.Text settings m asked told notes = Unit {0}
AreNotes form.Json settings m asked told notes =
    (notes.name ≡ name_given asked) × (notes.pool ≡ pool_made asked) × IsCauseFor settings m asked told notes.cause

-- a name, and the number that goes with it
abbrev pub named_field : List ℕ → List ℕ → List ℕ → ℕ → List ℕ
named_field key [] word n = []
named_field key (c ∷ cs) word n = string_field key (c ∷ cs) ++ number_field word n

-- The name and the cell pool that go with the address in a reply.
abbrev pub reply_fields : Reply → List ℕ → List ℕ → List ℕ
reply_fields (reply.Obtained address length) name pool =
    named_field (codes "name") name (codes "word") address ++ named_field (codes "pool") pool (codes "address") address
reply_fields (reply.Cell address) name pool = named_field (codes "name") name (codes "word") address
reply_fields (reply.Returned code) name pool = []
reply_fields (reply.Attached task) name pool = []
reply_fields (reply.Turn task) name pool = []
reply_fields reply.Stored name pool = []

abbrev pub given_fields : Response → List ℕ → List ℕ → List ℕ
given_fields (response.Replied r) name pool = reply_fields r name pool
given_fields (response.Refused r) name pool = []
given_fields response.Shown name pool = []
given_fields (response.Kept n) name pool = []
given_fields (response.TooFar n) name pool = []
given_fields (response.TooFarAhead n) name pool = []
given_fields response.Map name pool = []
given_fields (response.Fault k) name pool = []

-- An answer of this text to the statement that begins and ends at lines of these numbers, with this many changes kept;
abbrev pub answer_fields : ℕ → ℕ → List ℕ → Response → ℕ → List ℕ
answer_fields first last text told kept =
    object_start (codes "answer")
    ++ (number_field (codes "first") first
    ++ (number_field (codes "last") last
    ++ (json_name (codes "answer")
    ++ (codes "\"" ++ (text ++ (codes "\""
    ++ (truth_field (codes "refused") (is_refused told) ++ number_field (codes "kept") kept)))))))

-- and what is said beyond it.
abbrev pub answer_object : ℕ → ℕ → List ℕ → Response → ℕ → Notes → List ℕ
answer_object first last text told kept notes =
    answer_fields first last text told kept
    ++ (cause_in told notes.cause ++ (given_fields told notes.name notes.pool ++ object_end))

-- An answer in one form or the other, with the number of its statement's first line.
abbrev pub answer_in : Form → Settings → NamedState → ℕ → List ℕ → ℕ × Response → SourceLine → Notes → List ℕ
answer_in form.Text settings m kept text told last notes = listed_response settings m kept text told.1
answer_in form.Json settings m kept text told last notes = answer_object told.0 last.number text told.1 kept notes

-- What is answered, if anything, when these bytes are shown.
abbrev pub told_in : Form → Settings → NamedState → ℕ → List ℕ → Option (ℕ × Response) → SourceLine → Notes → List ℕ
told_in f settings m kept bytes None last notes = []
told_in f settings m kept bytes (Some told) last notes =
    answer_in f settings m kept (response_text bytes told.1) told last notes

-- Notes are those of what is answered, if anything, to what can be written.
abbrev pub AreNotesOf : Form → Settings → NamedState → Asked → Option (ℕ × Response) → Notes → Type 0
AreNotesOf f settings m asked None notes = Unit {0}
AreNotesOf f settings m asked (Some told) notes = IsValidAsked asked → AreNotes f settings m asked told.1 notes

-- A text begins as an answer does: with one of the two marks.
abbrev pub BeginsAsAnswer : List ℕ → Type 0
BeginsAsAnswer text = (told : Response) × (rest : List ℕ) × (text ≡ mark_text told ++ rest)

abbrev pub RowsBeginAsNoAnswer : Type 0
RowsBeginAsNoAnswer = (script : List ℕ) (r : Row) → IsRowOf script r → BeginsAsAnswer (row_text script r) → ⊥
