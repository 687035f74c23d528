use Rattle.std.proofs.Common.{◌+◌, ◌≤◌, ap, ◌∙◌, arith}
use Rattle.subpool_storage.specs.SubpoolStorage.{subpools_of, hold}
use Rattle.subpool_storage.proofs.LawLemmas.{beside_after, hold_once, cell_pools_are_named}
use Rattle.subpool_storage.specs.Subpools.{Subpools}
use Rattle.subpool_storage.proofs.CellLemmas.{bare_can_exchange}
use Rattle.tests_lower.proofs.subpool_storage_cells.beside.Goals as goal

pub there_and_back-requires-clause-stands : goal.there_and_back-requires-clause-stands
there_and_back-requires-clause-stands g c = (beside_after c.args.elements.now c.create.new.elements c.new-other.result c.create.new.self c.args.one.now _ c.requires (λ i. omega (arith, c.new-other.ensures.owned c.args.elements.now i, hold_once c.args.elements.now c.args.one.now c.requires i)) c.create.ensures.becomes).0

pub there_and_back-requires-clause-apart : goal.there_and_back-requires-clause-apart
there_and_back-requires-clause-apart g c i =
    let k : hold c.create.new.elements c.create.new.self i + hold c.create.new.elements c.args.one.now i ≤ 1 = (beside_after c.args.elements.now c.create.new.elements c.new-other.result c.create.new.self c.args.one.now _ c.requires (λ i. omega (arith, c.new-other.ensures.owned c.args.elements.now i, hold_once c.args.elements.now c.args.one.now c.requires i)) c.create.ensures.becomes).1 i in
    omega (arith, k)

pub there_and_back-requires-clause-names : goal.there_and_back-requires-clause-names
there_and_back-requires-clause-names g c =
    bare_can_exchange (subpools_of c.create.new.elements c.args.one.now) (subpools_of c.create.new.elements c.create.new.self) (record { number = 9; owner = 1 })
    (cell_pools_are_named c.create.new.elements c.args.one.now (beside_after c.args.elements.now c.create.new.elements c.new-other.result c.create.new.self c.args.one.now _ c.requires (λ i. omega (arith, c.new-other.ensures.owned c.args.elements.now i, hold_once c.args.elements.now c.args.one.now c.requires i)) c.create.ensures.becomes).0)
    (λ id. ap (λ (z : Subpools). z.cells id) c.create.ensures.becomes.subpools ∙ ap (λ (z : Subpools). z.cells id) (c.new-other.ensures.subpools c.args.elements.now))
