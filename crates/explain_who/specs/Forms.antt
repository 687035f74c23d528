-- What `who` writes, as text or as JSON.
use Rattle.std.specs.Prelude.{ℕ, if◌then◌else◌, List, [], ◌++◌, length, reverse, flat_map, codes}
use Rattle.explain_text.specs.Json.{json_head}
use Rattle.explain_text.specs.declared.json.Form.{Form}
use Rattle.explain_text.specs.declared.json.Form.TheVariants as form
use Rattle.vsm_model.specs.declared.limits.Settings.{Settings}
use Rattle.explain_who.specs.Objects.{looked_json, part_json, question_json}
use Rattle.explain_who.specs.Readings.{same_part}
use Rattle.explain_who.specs.Texts.{looked_text, part_text, question_text}
use Rattle.explain_who.specs.Who.{Difference}
use Rattle.explain_who.specs.declared.orders.ChangeOrder.{ChangeOrder}
use Rattle.explain_who.specs.declared.orders.ChangeOrder.TheVariants as order
use Rattle.explain_who.specs.declared.readings.Part.{Part}
use Rattle.explain_who.specs.declared.readings.Part.TheVariants as part
use Rattle.explain_who.specs.declared.readings.Subject.{Subject}

-- JSON begins with its version.
abbrev pub head_in : Form → List ℕ
head_in form.Text = []
head_in form.Json = json_head (codes "who")

abbrev pub question_in : Form → Settings → Subject → List ℕ
question_in form.Text settings question = question_text settings question
question_in form.Json settings question = question_json settings question

abbrev pub differing_in : Form → List ℕ → Part → Difference → List ℕ
differing_in form.Text script part d = part_text script part d
differing_in form.Json script part d = part_json script part d

-- a part of a change, if it differs
abbrev pub part_in : Form → List ℕ → Part → Difference → List ℕ
part_in form script part d = if same_part part d.before d.after then [] else differing_in form script part d

-- a change: the storage's part first
abbrev pub change_in : Form → List ℕ → Difference → List ℕ
change_in form script d = part_in form script part.Storage d ++ part_in form script part.Value d

abbrev pub looked_in : Form → ℕ → ℕ → List ℕ
looked_in form.Text changes standing = looked_text changes standing
looked_in form.Json changes standing = looked_json changes standing

-- the question, each of these changes in turn, and how many statements are in effect
abbrev pub shown_in : Form → Settings → List ℕ → Subject → List Difference → ℕ → List ℕ
shown_in form settings script question shown standing =
    head_in form ++ question_in form settings question ++ flat_map (change_in form script) shown
    ++ looked_in form (length shown) standing

-- changes in an order, given oldest first
abbrev pub in_order : ChangeOrder → List Difference → List Difference
in_order order.NewestFirst found = reverse found
in_order order.OldestFirst found = found

abbrev pub found_in : Form → Settings → List ℕ → Subject → ChangeOrder → List Difference → ℕ → List ℕ
found_in form settings script question order found standing =
    shown_in form settings script question (in_order order found) standing
