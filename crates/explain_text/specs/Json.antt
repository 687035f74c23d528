-- JSON (RFC 8259): strings of the bytes of a script as they're shown, and the fields of an object.
use Rattle.std.specs.Prelude.{ℕ, Bool, ◌==◌, if◌then◌else◌, List, [], ◌∷◌, ◌++◌, codes}
use Rattle.std.specs.Fmt.{decimal}
use Rattle.std.specs.List.{flat_map}
use Rattle.explain_text.specs.Letters.{shown}
use Rattle.explain_text.specs.declared.json.Form.{Form}
use Rattle.explain_text.specs.declared.json.Form.TheVariants as form

-- a quotation mark and a backslash after a backslash, each other byte as it is (RFC 8259, section 7)
abbrev pub escaped : ℕ → List ℕ
escaped c = if c == 34 then 92 ∷ 34 ∷ [] else if c == 92 then 92 ∷ 92 ∷ [] else c ∷ []

abbrev pub json_string : List ℕ → List ℕ
json_string bytes = 34 ∷ (flat_map escaped (shown bytes) ++ 34 ∷ [])

-- Bytes as they are in text, and as they're shown within a JSON string.
abbrev pub bytes_in : Form → List ℕ → List ℕ
bytes_in form.Text bytes = bytes
bytes_in form.Json bytes = flat_map escaped (shown bytes)

-- Bytes as they're shown in both.
abbrev pub shown_in : Form → List ℕ → List ℕ
shown_in form.Text bytes = shown bytes
shown_in form.Json bytes = flat_map escaped (shown bytes)

abbrev pub json_truth : Bool → List ℕ
json_truth b = if b then codes "true" else codes "false"

-- The name of a field after the first.
abbrev pub json_name : List ℕ → List ℕ
json_name name = codes ",\"" ++ (name ++ codes "\":")

abbrev pub string_field : List ℕ → List ℕ → List ℕ
string_field name bytes = json_name name ++ json_string bytes

abbrev pub number_field : List ℕ → ℕ → List ℕ
number_field name n = json_name name ++ decimal n

abbrev pub truth_field : List ℕ → Bool → List ℕ
truth_field name b = json_name name ++ json_truth b

-- What an object of this kind begins with, and what each ends with.
abbrev pub object_start : List ℕ → List ℕ
object_start kind = codes "{\"kind\":\"" ++ (kind ++ codes "\"")

abbrev pub object_end : List ℕ
object_end = codes "}\n"

-- The first line of a command's output: the version of its form, and the command.
abbrev pub json_head : List ℕ → List ℕ
json_head command = codes "{\"version\":1,\"command\":\"" ++ (command ++ codes "\"}\n")
