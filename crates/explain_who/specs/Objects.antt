-- The objects that go out as JSON: what is asked for and found.
use Rattle.std.specs.Prelude.{ℕ, Option, Some, None, List, [], ◌++◌, codes}
use Rattle.explain_text.specs.Json.{json_name, number_field, object_end, object_start, string_field}
use Rattle.vsm_model.specs.declared.limits.Settings.{Settings}
use Rattle.explain_who.specs.Texts.{asked_text, outside_text, shown_at, side_text}
use Rattle.explain_who.specs.Readings.{skip_of}
use Rattle.explain_who.specs.LineTexts.{line_fields}
use Rattle.explain_who.specs.Who.{Difference}
use Rattle.explain_who.specs.declared.readings.Part.{Part}
use Rattle.explain_who.specs.declared.readings.Part.TheVariants as part
use Rattle.explain_who.specs.declared.readings.Seen.{Seen}
use Rattle.explain_who.specs.declared.readings.Seen.TheVariants as seen
use Rattle.explain_who.specs.declared.readings.Subject.{Subject}

-- a field with a text that has no quotation mark and no backslash
abbrev pub text_field : List ℕ → List ℕ → List ℕ
text_field name text = json_name name ++ codes "\"" ++ text ++ codes "\""

abbrev pub question_json : Settings → Subject → List ℕ
question_json settings question =
    object_start (codes "question")
    ++ text_field (codes "text") (asked_text question ++ outside_text settings question) ++ object_end

-- what a part of a reading is of
abbrev pub part_of : Part → Seen → List ℕ
part_of part.Storage seen = codes "storage"
part_of part.Value (seen.Place p) = codes "bytes"
part_of part.Value (seen.Register word) = codes "register"
part_of part.Value (seen.Name word) = codes "name"
part_of part.Value (seen.Held holding) = codes "subpool"

-- the address of the first byte that is shown, if not all are
abbrev pub address_field : Option ℕ → List ℕ
address_field (Some at) = number_field (codes "address") at
address_field None = []

-- a part of a change: its statement, with what is read before and after it
abbrev pub part_json : List ℕ → Part → Difference → List ℕ
part_json script part d =
    object_start (codes "change") ++ line_fields script d.line ++ string_field (codes "of") (part_of part d.before)
    ++ address_field (shown_at part d.before (skip_of d.before d.after))
    ++ text_field (codes "before") (side_text part d.before d.taken_before (skip_of d.before d.after))
    ++ text_field (codes "after") (side_text part d.after d.taken_after (skip_of d.before d.after)) ++ object_end

-- how many statements changed it, and how many are in effect
abbrev pub looked_json : ℕ → ℕ → List ℕ
looked_json changes standing =
    object_start (codes "sum") ++ number_field (codes "changes") changes
    ++ number_field (codes "standing") standing ++ object_end
