use Rattle.std.proofs.Common.{ℕ, List, ◌++◌, length, subst}
use Rattle.bench_core.specs.Stands.{bench_of}
use Rattle.explain_text.specs.Json.{object_end}
use Rattle.script_steps.specs.Responses.{response_text}
use Rattle.text_output.specs.Writing.{Puts}
use Rattle.text_output.proofs.Gathering.{puts_both}
use Rattle.explain_list.specs.Answers.{answer_fields, given_fields}
use Rattle.explain_list.specs.Causes.{cause_in}
use Rattle.explain_list.proofs.answers.put_object.Goals as goal

pub returns : goal.returns
returns g c =
    let its = c.args.answered.now in
    let response = c.args.response.now in
    let name = c.name_in.result.now in
    let pool = c.pool_in.result.now in
    let given = given_fields response name pool in
    let e = c.put_cause_of.ensures in
    let cause = cause_in response e.0 in
    let fields : ℕ → List ℕ = λ k. answer_fields c.args.first its.last.number (response_text its.shown.now response) response k in
    let kept : ℕ = length (bench_of its.bench.now).past in (
      record { cause = e.0; name = name; pool = pool },
      λ valid. (c.name_in.ensures, c.pool_in.ensures, e.1 valid),
      puts_both _ _ _ _ _ _ (fields kept) (cause ++ (given ++ object_end))
          (subst (λ (k : ℕ). Puts (g.W.Write.contents c.args.writer.now) (g.W.Write.contents c.put_fields.new.writer) c.args.gathered.now c.put_fields.new.gathered (fields k)) c.kept.ensures c.put_fields.ensures)
          (puts_both _ _ _ _ _ _ cause (given ++ object_end) e.2
          (puts_both _ _ _ _ _ _ given object_end c.put_given.ensures c.put_object_end.ensures)),
    )
