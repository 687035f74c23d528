-- Rows of fields: lines of text, or objects of JSON.
use Rattle.std.specs.Prelude.{ℕ, Bool, if◌then◌else◌, List, [], ◌++◌, codes}
use Rattle.std.specs.Fmt.{decimal}
use Rattle.std.specs.List.{flat_map}
use Rattle.vsm_model.specs.Texts.{hexadecimal}
use Rattle.explain_text.specs.Json.{number_field, object_end, object_start, string_field, truth_field}
use Rattle.explain_text.specs.declared.json.Form.{Form}
use Rattle.explain_text.specs.declared.json.Form.TheVariants as form
use Rattle.explain_text.specs.declared.rows.Field.{Field}
use Rattle.explain_text.specs.declared.rows.Value.{Value}
use Rattle.explain_text.specs.declared.rows.Value.TheVariants as value

-- What a field is in a line of text, and in an object.
pub record Meant : Type 0 where
  pub in_text : List ℕ
  pub in_object : List ℕ

abbrev pub field_of : Form → Meant → List ℕ
field_of form.Text f = f.in_text
field_of form.Json f = f.in_object

abbrev pub fields_of : Form → List Meant → List ℕ
fields_of form fields = flat_map (field_of form) fields

-- what a row of this kind begins with, and what each ends with
abbrev pub start_of : Form → List ℕ → List ℕ
start_of form.Text kind = []
start_of form.Json kind = object_start kind

abbrev pub end_of : Form → List ℕ
end_of form.Text = codes "\n"
end_of form.Json = object_end

abbrev pub row_of : Form → List ℕ → List Meant → List ℕ
row_of form kind fields = start_of form kind ++ fields_of form fields ++ end_of form

-- Fields: what precedes them in text, their name in an object, and what they say.
abbrev pub text : List ℕ → List ℕ → List ℕ → Meant
text before name bytes = record { in_text = before ++ bytes; in_object = string_field name bytes }

abbrev pub number : List ℕ → List ℕ → ℕ → Meant
number before name n = record { in_text = before ++ decimal n; in_object = number_field name n }

abbrev pub address : List ℕ → List ℕ → ℕ → Meant
address before name n = record { in_text = before ++ hexadecimal 8 n; in_object = number_field name n }

-- what stands only in text
abbrev pub only_in_text : List ℕ → Meant
only_in_text text = record { in_text = text; in_object = [] }

-- a number only in an object
abbrev pub number_in_object : List ℕ → ℕ → Meant
number_in_object name n = record { in_text = []; in_object = number_field name n }

-- in text these words if it's true
abbrev pub truth : List ℕ → List ℕ → Bool → Meant
truth words name b = record { in_text = if b then words else []; in_object = truth_field name b }

-- what the fields of the code mean
abbrev pub meant_by : List ℕ → List ℕ → Value → Meant
meant_by before name (value.Text bytes) = text before name bytes.now
meant_by before name (value.Number n) = number before name n
meant_by before name (value.Address n) = address before name n
meant_by before name (value.Hidden n) = record { in_text = before; in_object = number_field name n }
meant_by before name (value.Truth b) = record { in_text = before; in_object = truth_field name b }
meant_by before name value.Nothing = only_in_text before

abbrev pub meant : Field → Meant
meant f = meant_by f.before.now f.name.now f.value
