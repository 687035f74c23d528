use Rattle.std.proofs.Common.{◌≡◌, ◌+◌, ◌*◌, ◌^◌, ◌≤◌, Bool, false, ◌&&◌, ◌||◌, nat_lt, ap, arith}
use Rattle.std.proofs.lemmas.Bool.{le-ltb}
use Rattle.cell_pool.specs.Pools.{Pool, meets}
use Rattle.subpool_storage.specs.Subpools.{Subpools}
use Rattle.subpool_storage.specs.SubpoolStorage.{subpools_of}
use Rattle.subpool_storage.proofs.CellLemmas.{is_new, of_new, some_new}
use Rattle.tests_lower.proofs.subpool_storage_cells.build.Goals as goal

pub extend-requires-clause-there : goal.extend-requires-clause-there
extend-requires-clause-there g c =
    some_new ((subpools_of c.build_pool-id.new.elements c.build_pool-id.new.self).cells c.build_pool-id.result) _
    (is_new c.build_pool-id.result ((subpools_of c.build_pool-id.new.elements c.build_pool-id.new.self).cells c.build_pool-id.result) _ _
    (ap (λ (z : Subpools). z.cells c.build_pool-id.result) c.build_pool-id.ensures.becomes.subpools))

pub extend-requires-clause-range : goal.extend-requires-clause-range
extend-requires-clause-range g c =
    of_new (λ (p : Pool). c.args.start + 16 + 1 * p.settings.size ≤ 2 ^ 32)
    ((subpools_of c.build_pool-id.new.elements c.build_pool-id.new.self).cells c.build_pool-id.result) _
    (is_new c.build_pool-id.result ((subpools_of c.build_pool-id.new.elements c.build_pool-id.new.self).cells c.build_pool-id.result) _ _
    (ap (λ (z : Subpools). z.cells c.build_pool-id.result) c.build_pool-id.ensures.becomes.subpools))
    (omega arith)

pub extend-requires-clause-apart : goal.extend-requires-clause-apart
extend-requires-clause-apart g c =
    let behind : nat_lt (c.args.start + 16) (c.args.start + 16) ≡ false = le-ltb (c.args.start + 16) (c.args.start + 16) (omega arith) in
    of_new (λ (p : Pool). meets (c.args.start + 16) (1 * p.settings.size) p ≡ false)
    ((subpools_of c.build_pool-id.new.elements c.build_pool-id.new.self).cells c.build_pool-id.result) _
    (is_new c.build_pool-id.result ((subpools_of c.build_pool-id.new.elements c.build_pool-id.new.self).cells c.build_pool-id.result) _ _
    (ap (λ (z : Subpools). z.cells c.build_pool-id.result) c.build_pool-id.ensures.becomes.subpools))
    (ap (λ (b : Bool). (b && nat_lt c.args.start (c.args.start + 16 + 16)) || false) behind)
