use Rattle.std.proofs.Common.{[], ap, ◌∙◌, arith, true}
use Rattle.subpool_storage.specs.Subpools.{Subpools, with_own}
use Rattle.storage_swap.specs.Builder.{Pushes}
use Rattle.storage_swap.specs.Growth.{MakesElements}
use Rattle.storage_swap.proofs.KeptLemmas.{over}
use Rattle.storage_swap.proofs.BuilderLemmas.{if-refused, grown-builds, grown-parked, grown-pushes, park-builds, park-records}
use Rattle.storage_swap.proofs.AsideLemmas.{made-same, aside-same}
use Rattle.storage_swap.proofs.builder.ChangeBuilder.park.Goals as goal

pub returns-in_err-reserve-clause-builds : goal.returns-in_err-reserve-clause-builds
returns-in_err-reserve-clause-builds c = grown-builds c.args.storage.now c.args.self.now c.requires.building c.reserve.new.self c.reserve.ensures.kept c.reserve.ensures.aside

pub returns-in_err-reserve-clause-err : goal.returns-in_err-reserve-clause-err
returns-in_err-reserve-clause-err c =
    let p = c.args.storage.now in
    let b = c.args.self.now in
    if-refused (Pushes p b [] (over p c.reserve.new.self) b) c.from_residual.result (grown-pushes p b c.requires.building c.reserve.new.self c.reserve.ensures.kept c.reserve.ensures.aside c.reserve.ensures.grows c.reserve.ensures.live (omega (arith, c.reserve.ensures.made)))

pub returns-in_err-reserve-clause-made : goal.returns-in_err-reserve-clause-made
returns-in_err-reserve-clause-made c = if-refused (MakesElements c.args.storage.now.elements c.reserve.new.self 1) c.from_residual.result (omega (arith, c.reserve.ensures.made))

pub create-requires-clause-stands : goal.create-requires-clause-stands
create-requires-clause-stands c = (grown-builds c.args.storage.now c.args.self.now c.requires.building c.reserve.new.self c.reserve.ensures.kept c.reserve.ensures.aside).building.ready.stands.parked

pub create-requires-clause-unseen : goal.create-requires-clause-unseen
create-requires-clause-unseen c =
    ap (λ (m : Subpools). m.sight c.args.subpool.owner c.args.subpool.number) (grown-parked c.args.storage.now c.args.self.now c.requires.building c.reserve.new.self c.reserve.ensures.kept c.reserve.ensures.aside)
    ∙ c.requires.unseen

pub returns-clause-builds : goal.returns-clause-builds
returns-clause-builds c =
    let made = c.create.ensures.becomes in
    park-builds c.args.storage.now c.args.self.now c.requires.building c.reserve.new.self c.reserve.ensures.kept c.reserve.ensures.aside
    c.create.new.elements c.create.new.self made.stands made.moves (aside-same c.reserve.new.self c.create.new.elements made.as_many)

pub returns-clause-ok : goal.returns-clause-ok
returns-clause-ok c =
    let made = c.create.ensures.becomes in
    record {
      records = park-records c.args.storage.now c.args.self.now c.requires.building c.reserve.new.self c.reserve.ensures.kept c.reserve.ensures.aside c.create.new.elements c.create.new.self made.stands made.moves (aside-same c.reserve.new.self c.create.new.elements made.as_many);
      parked = made.subpools ∙ ap (λ (m : Subpools). with_own m c.args.subpool true) (grown-parked c.args.storage.now c.args.self.now c.requires.building c.reserve.new.self c.reserve.ensures.kept c.reserve.ensures.aside);
      spare = omega (arith, c.reserve.ensures.grows, c.create.ensures.spares);
      live = omega (arith, c.reserve.ensures.live, c.create.ensures.spares, made-same c.reserve.new.self c.create.new.elements made.as_many);
      made = omega (arith, c.reserve.ensures.made, made-same c.reserve.new.self c.create.new.elements made.as_many);
    }
