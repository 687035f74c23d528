use Rattle.std.proofs.Common.{leb}
use Rattle.std.proofs.lemmas.Bool.{leb-true, leb-false}
use Rattle.std.proofs.lemmas.Simd.{run_in_chunk_le, run_in_chunk_fails, run_in_chunk_stops}
use Rattle.operand_texts.proofs.RunBytes.{counted}
use Rattle.operand_texts.proofs.runs.run_in_load.Goals as goal

pub returns-clause-few : goal.returns-clause-few
returns-clause-few c =
    let text = c.args.text.now in
    run_in_chunk_le (λ x. leb x c.args.most) text c.args.at 16 c.lowest_or.result 0 c.requires
    (counted text c.args.at c.args.most _ c.requires c.lowest_or.ensures)

pub returns-clause-above : goal.returns-clause-above
returns-clause-above c = λ k from below.
    let text = c.args.text.now in
    leb-false _ _ (run_in_chunk_fails (λ x. leb x c.args.most) text c.args.at 16 c.lowest_or.result 0 c.requires
    (counted text c.args.at c.args.most _ c.requires c.lowest_or.ensures) k from below)

pub returns-clause-ends : goal.returns-clause-ends
returns-clause-ends c = λ less.
    let text = c.args.text.now in
    leb-true _ _ (run_in_chunk_stops (λ x. leb x c.args.most) text c.args.at 16 c.lowest_or.result 0 c.requires
    (counted text c.args.at c.args.most _ c.requires c.lowest_or.ensures) less)
