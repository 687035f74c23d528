use Rattle.std.proofs.Common.{◌∙◌, ap, not, sym}
use Rattle.vsm_model.specs.Search.{holds}
use Rattle.vsm_model.specs.Subpools.{same_subpool}
use Rattle.vsm_model.proofs.Least.{all_pass_stops, all_pass_more}
use Rattle.storage_changes.specs.Meaning.{model_of}
use Rattle.storage_swap.specs.Storage.{state_of}
use Rattle.storage_plans.proofs.release.has_others.Goals as goal

pub returns-then-is_others : goal.returns-then-is_others
returns-then-is_others c =
    ap not (all_pass_stops (λ page. not (holds (λ p. not (same_subpool c.args.subpool p)) ((model_of (state_of c.args.storage.now)).pages page)))
    c.args.pages.start c.args.pages.len c.loop-k.k c.loop-k-test.true (ap not (sym c.is_others.ensures ∙ c.if-is_others.true)))

pub loop-k-preserved : goal.loop-k-preserved
loop-k-preserved c =
    all_pass_more (λ page. not (holds (λ p. not (same_subpool c.args.subpool p)) ((model_of (state_of c.args.storage.now)).pages page)))
    c.args.pages.start c.loop-k.k c.loop-k.invariant (ap not (sym c.is_others.ensures ∙ c.if-is_others.false))
