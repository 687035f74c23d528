use Rattle.std.proofs.Common.{slice_get, sym, ap, ◌∙◌, arith}
use Rattle.vsm_model.proofs.Least.{all_pass_from, all_pass_none}
use Rattle.explain_standing.specs.NumberMaps.{joined}
use Rattle.explain_standing.specs.NumberMaps.{same_number}
use Rattle.explain_standing.proofs.number_map.are_of.Goals as goal

pub returns-then-not-is_same : goal.returns-then-not-is_same
returns-then-not-is_same c =
    let number = c.args.number in
    sym (all_pass_none (λ d. same_number number (joined (slice_get c.args.numbers.now d))) c.args.from c.args.count c.loop-d.d (omega arith) (omega arith)
    (ap (same_number number) (sym c.number_among.ensures) ∙ sym c.is_same.ensures ∙ c.if-not-is_same.true))

pub returns : goal.returns
returns c =
    let number = c.args.number in
    sym (all_pass_from (λ d. same_number number (joined (slice_get c.args.numbers.now d))) c.args.from c.args.count (λ k from to. c.loop-d.invariant k from (omega arith)))
