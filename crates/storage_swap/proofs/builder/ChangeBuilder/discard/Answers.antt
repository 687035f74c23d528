use Rattle.storage_swap.proofs.AsideLemmas.{made-same, aside-same}
use Rattle.storage_swap.proofs.BuilderLemmas.{discard-keeps}
use Rattle.storage_swap.proofs.builder.ChangeBuilder.discard.Goals as goal

pub returns-clause-keeps : goal.returns-clause-keeps
returns-clause-keeps c =
    let e = c.discard_elements.new.elements in
    discard-keeps c.args.storage.now c.args.self c.requires e c.discard_elements.ensures.moves (aside-same c.args.storage.now.elements e c.discard_elements.ensures.as_many)

pub returns-clause-as_many : goal.returns-clause-as_many
returns-clause-as_many c = made-same c.args.storage.now.elements c.discard_elements.new.elements c.discard_elements.ensures.as_many
