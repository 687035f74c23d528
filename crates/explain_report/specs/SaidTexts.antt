-- What a report begins with, as text or as JSON.
use Rattle.std.specs.Prelude.{ℕ, Option, Some, None, List, [], ◌∷◌, ◌++◌, codes}
use Rattle.std.specs.Fmt.{decimal}
use Rattle.explain_text.specs.Json.{json_head, json_name, number_field, object_end, object_start}
use Rattle.explain_text.specs.declared.json.Form.{Form}
use Rattle.explain_text.specs.declared.json.Form.TheVariants as form
use Rattle.script_steps.specs.Responses.{response_text}
use Rattle.script_steps.specs.declared.responses.Response.{Response}
use Rattle.vsm_model.specs.Map.{line}

-- JSON begins with its version.
abbrev pub head_in : Form → List ℕ
head_in form.Text = []
head_in form.Json = json_head (codes "report")

-- what a report says of the statement that it follows: its line, and the text of its answer, if these bytes are shown
abbrev pub said_of_answer : List ℕ → Option (ℕ × Response) → Option (ℕ × List ℕ)
said_of_answer bytes None = None
said_of_answer bytes (Some told) = Some (told.0, response_text bytes told.1)

-- as a line
abbrev pub said_text : Option (ℕ × List ℕ) → List ℕ
said_text None = line (codes "no statement")
said_text (Some said) = codes "line " ++ decimal said.0 ++ codes ": " ++ said.1 ++ 10 ∷ []

-- and as an object
abbrev pub answer_field : List ℕ → List ℕ
answer_field text = json_name (codes "answer") ++ codes "\"" ++ text ++ codes "\""

abbrev pub none_json : List ℕ
none_json = object_start (codes "after") ++ object_end

abbrev pub after_json : ℕ → List ℕ → List ℕ
after_json number text =
    object_start (codes "after") ++ number_field (codes "line") number ++ answer_field text ++ object_end

abbrev pub said_json : Option (ℕ × List ℕ) → List ℕ
said_json None = none_json
said_json (Some said) = after_json said.0 said.1

abbrev pub said_in : Form → Option (ℕ × List ℕ) → List ℕ
said_in form.Text said = said_text said
said_in form.Json said = said_json said
