use Rattle.std.proofs.Common.{◌≡◌, ◌+◌, ◌*◌, ◌^◌, ◌≤◌, false, refl, arith}
use Rattle.std.specs.Prelude.{option_map}
use Rattle.vsm_elements.proofs.ChainFrame.{Leaves-trans}
use Rattle.cell_pool.specs.Pools.{meets}
use Rattle.cell_pool.specs.CellPools.{by_id, owned}
use Rattle.subpool_storage.specs.Subpools.{with_new_pool, built_pool}
use Rattle.subpool_storage.specs.SubpoolStorage.{subpools_of}
use Rattle.subpool_storage.proofs.BuildLemmas.{bare_pool, name_is_none, there_now, of_new, built_is}
use Rattle.subpool_storage.proofs.LiftLemmas.{cells_become}
use Rattle.subpool_storage.proofs.storage.SubpoolStorage.build_pool.Goals as goal

pub build-made-requires-clause-absent : goal.build-made-requires-clause-absent
build-made-requires-clause-absent c = name_is_none c.args.elements.now c.args.self.now c.args.name.now.bytes c.requires.stands c.requires.unnamed

pub extend-requires-clause-there : goal.extend-requires-clause-there
extend-requires-clause-there c = there_now (λ i. by_id c.args.elements.now c.args.self.now.cells i) (λ i. by_id c.build-made.new.elements c.build-made.new.self i) c.build-made.result (bare_pool c.build-made.result c.args.name.now.bytes c.args.settings (option_map (λ h. h.items) c.args.header)) c.build-made.ensures.ids

pub extend-requires-clause-range : goal.extend-requires-clause-range
extend-requires-clause-range c = of_new (λ i. by_id c.args.elements.now c.args.self.now.cells i) (λ i. by_id c.build-made.new.elements c.build-made.new.self i) c.build-made.result (bare_pool c.build-made.result c.args.name.now.bytes c.args.settings (option_map (λ h. h.items) c.args.header)) c.build-made.ensures.ids (λ p. c.args.start + c.args.count * p.settings.size ≤ 2 ^ 32) c.requires.range

pub extend-requires-clause-apart : goal.extend-requires-clause-apart
extend-requires-clause-apart c = of_new (λ i. by_id c.args.elements.now c.args.self.now.cells i) (λ i. by_id c.build-made.new.elements c.build-made.new.self i) c.build-made.result (bare_pool c.build-made.result c.args.name.now.bytes c.args.settings (option_map (λ h. h.items) c.args.header)) c.build-made.ensures.ids (λ p. meets c.args.start (c.args.count * p.settings.size) p ≡ false) refl

pub extend-requires-clause-room : goal.extend-requires-clause-room
extend-requires-clause-room c = omega (arith, c.requires.room, c.build-made.ensures.spares)

pub returns-clause-becomes : goal.returns-clause-becomes
unfolding subpools_of
returns-clause-becomes c = cells_become c.args.elements.now c.extend.new.elements c.args.self.now c.extend.new.self
    (with_new_pool (subpools_of c.args.elements.now c.args.self.now) (built_pool c.build-made.result c.args.name.now.bytes c.args.settings (option_map (λ h. h.items) c.args.header) c.args.start c.args.count))
    c.requires.stands c.extend.ensures.pools
    (Leaves-trans c.args.elements.now c.build-made.new.elements c.extend.new.elements (owned c.args.elements.now c.args.self.now.cells) (owned c.build-made.new.elements c.build-made.new.self) (owned c.extend.new.elements c.extend.new.self) c.build-made.ensures.owned c.extend.ensures.owned)
    (built_is c.args.elements.now c.args.self.now c.requires.stands c.build-made.result c.args.name.now.bytes c.args.settings (option_map (λ h. h.items) c.args.header) c.args.start c.args.count
    (λ i. by_id c.build-made.new.elements c.build-made.new.self i) (λ i. by_id c.extend.new.elements c.extend.new.self i) c.build-made.ensures.ids c.extend.ensures.ids)
    refl
