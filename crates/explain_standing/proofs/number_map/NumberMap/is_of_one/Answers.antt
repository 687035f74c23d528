use Rattle.std.proofs.Common.{◌-◌, ◌*◌, ◌/◌, sym, ap, ◌∙◌, arith, inl, inr}
use Rattle.std.proofs.lemmas.Bool.{cases_lt}
use Rattle.vsm_model.proofs.Least.{all_pass_from}
use Rattle.vsm_model.specs.Search.{all_pass}
use Rattle.explain_standing.specs.NumberMaps.{number_in, page_number}
use Rattle.explain_standing.specs.NumberMaps.{same_number}
use Rattle.explain_standing.proofs.NumberMaps.{page_fails, page_passes}
use Rattle.explain_standing.proofs.number_map.NumberMap.is_of_one.Goals as goal

pub returns-then-not-is_page_of : goal.returns-then-not-is_page_of
returns-then-not-is_page_of c =
    let m = c.args.self.now in
    let at = c.loop-at.at in
    let k = at / 512 in
    let to = c.min-to.result in
    sym (ap (λ o. all_pass (λ d. same_number o (number_in m d)) c.args.first c.args.count) (sym c.number-number.ensures)
    ∙ page_fails (page_number m) c.number-number.result k (at - 512 * k) (to - at) c.args.first c.args.count (omega (arith, c.min-to.ensures))
    (sym c.is_page_of.ensures ∙ c.if-not-is_page_of.true) (omega (arith, c.loop-at.invariant.from)) (omega (arith, c.min-to.ensures)))

pub loop-at-preserved : goal.loop-at-preserved
loop-at-preserved c =
    let m = c.args.self.now in
    let at = c.loop-at.at in
    let k = at / 512 in
    let to = c.min-to.result in
    record {
      from = omega (arith, c.loop-at.invariant.from, c.min-to.ensures);
      to = omega (arith, c.min-to.ensures);
      same = λ d from below. elim (cases_lt d at) [
        | inl before ↦ c.loop-at.invariant.same d from before
        | inr after ↦
            page_passes (page_number m) c.number-number.result k (at - 512 * k) (to - at) (omega (arith, c.min-to.ensures)) (sym c.is_page_of.ensures ∙ c.if-not-is_page_of.false) d
            (omega (arith, after)) (omega (arith, below, c.min-to.ensures))
      ];
    }

pub returns : goal.returns
returns c =
    let m = c.args.self.now in
    let first = c.args.first in
    sym (all_pass_from (λ d. same_number (number_in m first) (number_in m d)) first c.args.count
    (λ k from to. ap (λ o. same_number o (number_in m k)) (sym c.number-number.ensures) ∙ c.loop-at.invariant.same k from (omega (arith, to, c.loop-at-test.false))))
