use Rattle.std.proofs.Common.{refl, None}
use Rattle.vsm_model.specs.declared.causes.Cause.TheVariants.{BadCells, CellPoolExists, NoStorage, SubpoolNotAllowed, TooManyCellPools, UnsupportedSubpool}
use Rattle.storage_core.specs.Meaning.{state_of}
use Rattle.explain_reasons.specs.Told.{IsBuildTold, build_text}
use Rattle.explain_reasons.specs.ToldPlaces.{area_text}
use Rattle.explain_reasons.proofs.Refused.{one_of}
use Rattle.explain_reasons.proofs.refusals.put_build.Goals as goal

pub returns-in-UnsupportedSubpool : goal.returns-in-UnsupportedSubpool
returns-in-UnsupportedSubpool g c = one_of _ _ _ _ (IsBuildTold (state_of c.args.storage.now) c.args.asked.0.now c.args.asked.1) c.args.cause UnsupportedSubpool (build_text c.args.asked.0.now c.args.asked.1 UnsupportedSubpool) c.in-UnsupportedSubpool.is refl c.put_left_out.ensures

pub returns-in-SubpoolNotAllowed : goal.returns-in-SubpoolNotAllowed
returns-in-SubpoolNotAllowed g c = one_of _ _ _ _ (IsBuildTold (state_of c.args.storage.now) c.args.asked.0.now c.args.asked.1) c.args.cause SubpoolNotAllowed (build_text c.args.asked.0.now c.args.asked.1 SubpoolNotAllowed) c.in-SubpoolNotAllowed.is refl c.put_too_high.ensures

pub returns-in-BadCells : goal.returns-in-BadCells
returns-in-BadCells g c = one_of _ _ _ _ (IsBuildTold (state_of c.args.storage.now) c.args.asked.0.now c.args.asked.1) c.args.cause BadCells (build_text c.args.asked.0.now c.args.asked.1 BadCells) c.in-BadCells.is refl c.put_bad_cells.ensures

pub returns-in-CellPoolExists : goal.returns-in-CellPoolExists
returns-in-CellPoolExists g c = one_of _ _ _ _ (IsBuildTold (state_of c.args.storage.now) c.args.asked.0.now c.args.asked.1) c.args.cause CellPoolExists (build_text c.args.asked.0.now c.args.asked.1 CellPoolExists) c.in-CellPoolExists.is refl c.put_pool_exists.ensures

pub returns-in-TooManyCellPools : goal.returns-in-TooManyCellPools
returns-in-TooManyCellPools g c = one_of _ _ _ _ (IsBuildTold (state_of c.args.storage.now) c.args.asked.0.now c.args.asked.1) c.args.cause TooManyCellPools (build_text c.args.asked.0.now c.args.asked.1 TooManyCellPools) c.in-TooManyCellPools.is refl c.put_text.ensures.text

pub returns-in-NoStorage : goal.returns-in-NoStorage
returns-in-NoStorage g c =
    let (sides, searched, h) = c.put_first_extent.ensures in
    one_of _ _ _ _ (IsBuildTold (state_of c.args.storage.now) c.args.asked.0.now c.args.asked.1) c.args.cause NoStorage
    (area_text (state_of c.args.storage.now) c.args.asked.1.number sides None searched) c.in-NoStorage.is (sides, searched, refl) h
