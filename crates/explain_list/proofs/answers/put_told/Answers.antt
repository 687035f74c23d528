use Rattle.std.proofs.Common.{[], length, sym, subst}
use Rattle.bench_core.specs.Stands.{bench_of, settings_in}
use Rattle.macro_statements.specs.Requests.{IsValidAsked, asked_in}
use Rattle.script_steps.specs.Responses.{response_text}
use Rattle.explain_text.specs.declared.json.Form.{Form}
use Rattle.text_output.specs.Writing.{Puts}
use Rattle.explain_list.specs.Answers.{AreNotes, Notes, answer_in}
use Rattle.explain_list.proofs.answers.put_told.Goals as goal

pub returns-in-Text : goal.returns-in-Text
returns-in-Text g c =
    let its = c.args.answered.now in
    let b = its.bench.now in
    let asked = asked_in its.request.now in
    let response = c.args.response.now in
    subst (λ (f : Form). (notes : Notes) × (IsValidAsked asked → AreNotes f (settings_in b) (bench_of b).present asked response notes)
    × Puts (g.W.Write.contents c.args.writer.now) (g.W.Write.contents c.put_response_of.new.writer) c.args.gathered.now c.put_response_of.new.gathered
    (answer_in f (settings_in b) (bench_of b).present (length (bench_of b).past) (response_text its.shown.now response) (c.args.first, response) its.last notes))
    (sym c.in-Text.is) (record { cause = []; name = []; pool = [] }, λ valid. tt, c.put_response_of.ensures)

pub returns-in-Json : goal.returns-in-Json
returns-in-Json g c =
    let its = c.args.answered.now in
    let b = its.bench.now in
    let asked = asked_in its.request.now in
    let response = c.args.response.now in
    subst (λ (f : Form). (notes : Notes) × (IsValidAsked asked → AreNotes f (settings_in b) (bench_of b).present asked response notes)
    × Puts (g.W.Write.contents c.args.writer.now) (g.W.Write.contents c.put_object.new.writer) c.args.gathered.now c.put_object.new.gathered
    (answer_in f (settings_in b) (bench_of b).present (length (bench_of b).past) (response_text its.shown.now response) (c.args.first, response) its.last notes))
    (sym c.in-Json.is) c.put_object.ensures
