use Rattle.std.proofs.Common.{◌∙◌}
use Rattle.storage_swap.proofs.AsideLemmas.{made-same, aside-same}
use Rattle.storage_swap.proofs.FreshLemmas.{is-fresh, few_made}
use Rattle.storage_swap.proofs.beginning.fresh.Goals as goal

pub returns : goal.returns
returns c = is-fresh c.args.settings c.new-elements.result c.reserve.new.self c.new-tasks.new.elements c.first_subpools-subpools.new.elements c.all_pages-unassigned.new.elements
    c.in_ok-region.region c.new-tasks.result c.first_subpools-subpools.result c.all_pages-unassigned.result
    c.new-elements.ensures.empty c.reserve.ensures.kept
    c.new-tasks.ensures.tree c.new-tasks.ensures.owned c.new-tasks.ensures.parents c.new-tasks.ensures.words c.new-tasks.ensures.current
    c.first_subpools-subpools.ensures.stands c.first_subpools-subpools.ensures.subpools c.first_subpools-subpools.ensures.moves
    c.all_pages-unassigned.ensures.pages c.all_pages-unassigned.ensures.set c.all_pages-unassigned.ensures.owned c.in_ok-region.ensures
    (few_made c.new-elements.result c.reserve.new.self c.all_pages-unassigned.new.elements c.new-elements.ensures.none c.new-elements.ensures.spares c.reserve.ensures.bounded c.reserve.ensures.live
    (made-same c.reserve.new.self c.all_pages-unassigned.new.elements (c.all_pages-unassigned.ensures.owned.as_many ∙ c.first_subpools-subpools.ensures.as_many ∙ c.new-tasks.ensures.owned.as_many)))
    (aside-same c.reserve.new.self c.all_pages-unassigned.new.elements (c.all_pages-unassigned.ensures.owned.as_many ∙ c.first_subpools-subpools.ensures.as_many ∙ c.new-tasks.ensures.owned.as_many) ∙ c.reserve.ensures.aside ∙ c.new-elements.ensures.aside)
