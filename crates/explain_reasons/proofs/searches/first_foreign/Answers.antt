use Rattle.std.proofs.Common.{ℕ, not, ◌||◌, sym, ap, ◌∙◌, arith}
use Rattle.vsm_model.specs.Regions.{in_a_region}
use Rattle.vsm_model.specs.Releasing.{is_foreign}
use Rattle.vsm_model.specs.Search.{holds}
use Rattle.vsm_model.specs.Subpools.{same_subpool}
use Rattle.storage_core.specs.Meaning.{settings_of, state_of}
use Rattle.explain_reasons.proofs.SearchLemmas.{none_on_page}
use Rattle.explain_reasons.proofs.searches.first_foreign.Goals as goal

pub loop-at-init : goal.loop-at-init
loop-at-init c = record {
  from = omega arith;
  near = omega (arith, c.requires);
  none = λ d from below. absurd (omega (arith, from, below));
}

pub returns-then-is_foreign : goal.returns-then-is_foreign
returns-then-is_foreign c = (
  sym c.is_foreign.ensures ∙ c.if-is_foreign.true,
  c.loop-at.invariant.from,
  omega (arith, c.loop-at-test.true),
  c.loop-at.invariant.none,
)

pub loop-at-smaller : goal.loop-at-smaller
loop-at-smaller c = omega (arith, c.next_page-at.ensures.further, c.loop-at-test.true)

pub loop-at-preserved : goal.loop-at-preserved
loop-at-preserved c =
    let l = c.loop-at in
    record {
      from = omega (arith, l.invariant.from, c.next_page-at.ensures.further);
      near = omega (arith, c.requires, c.loop-at-test.true, c.next_page-at.ensures.near);
      none = none_on_page (is_foreign (settings_of c.args.storage.now) (state_of c.args.storage.now) c.args.subpool) c.args.area.start l.at c.next_page-at.result l.invariant.none (sym c.is_foreign.ensures ∙ c.if-is_foreign.false)
          (λ d after before. ap (λ (page : ℕ). not (in_a_region (settings_of c.args.storage.now) page) || holds (λ q. not (same_subpool c.args.subpool q)) ((state_of c.args.storage.now).pages page)) (c.next_page-at.ensures.same d after before));
    }

pub returns : goal.returns
returns c = λ d from below. c.loop-at.invariant.none d from (omega (arith, below, c.loop-at-test.false))
