use Rattle.std.proofs.Common.{List, sym, ap, subst, arith}
use Rattle.raw_region.specs.Frames.{PageFrame}
use Rattle.storage_swap.specs.declared.storage.Parts.{Parts}
use Rattle.storage_swap.specs.declared.change.Change.{Change as TheChange}
use Rattle.storage_swap.specs.Builder.{builder_holds, Finishes}
use Rattle.storage_swap.proofs.BuilderLemmas.{grown-builds, keeps-follow, finishes}
use Rattle.storage_swap.proofs.KeptLemmas.{over}
use Rattle.storage_swap.proofs.TwoLemmas.{no_ids}
use Rattle.storage_swap.proofs.builder.ChangeBuilder.finish.Goals as goal

pub discard-requires : goal.discard-requires
discard-requires c = (grown-builds c.args.storage.now c.args.self c.requires c.reserve.new.self c.reserve.ensures.kept c.reserve.ensures.aside).building

pub returns-in-Err-clause-err : goal.returns-in-Err-clause-err
returns-in-Err-clause-err c =
    let p = c.args.storage.now in
    let b = c.args.self in
    let q = over p c.reserve.new.self in
    keeps-follow p q c.discard.new.storage (builder_holds p b) (builder_holds q b) no_ids
    (grown-builds p b c.requires c.reserve.new.self c.reserve.ensures.kept c.reserve.ensures.aside).keeps c.discard.ensures.keeps

pub returns-in-Err-clause-made : goal.returns-in-Err-clause-made
returns-in-Err-clause-made c = omega (arith, c.reserve.ensures.made, c.discard.ensures.as_many)

pub returns-in-Err-clause-same_frames : goal.returns-in-Err-clause-same_frames
returns-in-Err-clause-same_frames c = ap (λ (z : Parts). z.region) c.discard.ensures.keeps.same

pub returns-clause-ok : goal.returns-clause-ok
returns-clause-ok c =
    let p = c.args.storage.now in
    let b = c.args.self in
    let set = c.set_aside in
    let u = over p set.new.self in
    let with_frames : List PageFrame → TheChange = λ frames. record { records = b.records; blanks = c.args.blanks; frames = frames; parked = b.parked } in
    let P : List PageFrame → Type 0 = λ frames. Finishes p b c.args.blanks u (with_frames frames) in
    subst P (sym c.empty.ensures)
    (finishes p b c.requires c.reserve.new.self c.reserve.ensures.kept c.reserve.ensures.aside set.new.self c.args.blanks set.ensures)
