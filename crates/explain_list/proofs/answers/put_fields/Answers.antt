use Rattle.std.proofs.Common.{◌++◌, codes, subst}
use Rattle.explain_text.specs.Json.{json_name, number_field, object_start, truth_field}
use Rattle.script_steps.specs.Responses.{response_text}
use Rattle.text_output.specs.Writing.{Puts}
use Rattle.text_output.proofs.Gathering.{puts_both}
use Rattle.explain_list.proofs.answers.put_fields.Goals as goal

pub returns : goal.returns
returns g c =
    let first = number_field (codes "first") c.from.result in
    let last = number_field (codes "last") c.from-2.result in
    let name = json_name (codes "answer") in
    let quote = codes "\"" in
    let text = response_text c.args.shown.now c.args.response.now in
    let refused = truth_field (codes "refused") c.is_refused.result in
    let kept = number_field (codes "kept") c.from-3.result in
    let fifth = quote ++ (text ++ (quote ++ (refused ++ kept))) in
    subst (Puts (g.W.Write.contents c.args.writer.now) (g.W.Write.contents c.put_number_field-3.new.writer) c.args.gathered.now c.put_number_field-3.new.gathered)
    (λ i. object_start (codes "answer") ++ (number_field (codes "first") (c.from.ensures i) ++ (number_field (codes "last") (c.from-2.ensures i)
    ++ (name ++ (quote ++ (text ++ (quote ++ (truth_field (codes "refused") (c.is_refused.ensures i) ++ number_field (codes "kept") (c.from-3.ensures i)))))))))
    (puts_both _ _ _ _ _ _ (object_start (codes "answer")) (first ++ (last ++ (name ++ fifth))) c.put_object_start.ensures
    (puts_both _ _ _ _ _ _ first (last ++ (name ++ fifth)) c.put_number_field.ensures
    (puts_both _ _ _ _ _ _ last (name ++ fifth) c.put_number_field-2.ensures
    (puts_both _ _ _ _ _ _ name fifth c.put_name.ensures
    (puts_both _ _ _ _ _ _ quote (text ++ (quote ++ (refused ++ kept))) c.put.ensures.puts
    (puts_both _ _ _ _ _ _ text (quote ++ (refused ++ kept)) c.put_response.ensures
    (puts_both _ _ _ _ _ _ quote (refused ++ kept) c.put-2.ensures.puts
    (puts_both _ _ _ _ _ _ refused kept c.put_truth_field.ensures c.put_number_field-3.ensures))))))))
