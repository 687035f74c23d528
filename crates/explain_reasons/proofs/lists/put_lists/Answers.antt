use Rattle.std.proofs.Common.{ℕ, List, [], true, false, ◌++◌, ◌∙◌}
use Rattle.std.specs.Prelude.{codes, unwrap_or}
use Rattle.storage_core.specs.Meaning.{state_of}
use Rattle.text_output.proofs.Gathering.{puts_both}
use Rattle.vsm_model.specs.Passing.{numbers_in}
use Rattle.explain_text.proofs.Alike.{alike}
use Rattle.explain_reasons.specs.Tasks.{numbers_text}
use Rattle.explain_reasons.proofs.lists.put_lists.Goals as goal

pub returns : goal.returns
returns g c =
    let s = state_of c.args.storage.now in
    let w = g.W.Write.contents in
    let by_owner = c.args.by_owner in
    let given : List ℕ = unwrap_or (numbers_in s c.args.a.given) [] in
    let shared : List ℕ = unwrap_or (numbers_in s c.args.a.shared) [] in
    let gives = c.as_slice.ensures.value ∙ c.numbers_of-given.ensures in
    let before = c.as_slice-2.ensures.value ∙ c.numbers_of-given.ensures in
    let shares = c.as_slice-3.ensures.value ∙ c.numbers_of-shared.ensures in
    let given_text = numbers_text s (codes "given") by_owner in
    let shared_text = numbers_text s (codes "shared") false in
    puts_both (w c.args.writer.now) (w c.put_numbers-2.new.writer) (w c.put_numbers-4.new.writer)
    c.args.gathered.now c.put_numbers-2.new.gathered c.put_numbers-4.new.gathered (given_text true [] given ++ shared_text true given shared) (given_text false [] given ++ shared_text false given shared)
    (puts_both (w c.args.writer.now) (w c.put_numbers.new.writer) (w c.put_numbers-2.new.writer) c.args.gathered.now c.put_numbers.new.gathered c.put_numbers-2.new.gathered
    (given_text true [] given) (shared_text true given shared) (alike _ _ _ _ _ _ (λ i. given_text true [] (gives i)) c.put_numbers.ensures)
    (alike _ _ _ _ _ _ (λ i. shared_text true (before i) (shares i)) c.put_numbers-2.ensures))
    (puts_both (w c.put_numbers-2.new.writer) (w c.put_numbers-3.new.writer) (w c.put_numbers-4.new.writer) c.put_numbers-2.new.gathered c.put_numbers-3.new.gathered c.put_numbers-4.new.gathered
    (given_text false [] given) (shared_text false given shared) (alike _ _ _ _ _ _ (λ i. given_text false [] (gives i)) c.put_numbers-3.ensures)
    (alike _ _ _ _ _ _ (λ i. shared_text false (before i) (shares i)) c.put_numbers-4.ensures))
