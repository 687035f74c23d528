use Rattle.vsm_model.specs.declared.causes.Cause.TheVariants.{BadLength, Misaligned, NotInSubpool, OverlapsCells, OverlapsFree, SubpoolNotAllowed, UnsupportedSubpool}
use Rattle.storage_core.specs.Meaning.{settings_of, state_of}
use Rattle.explain_reasons.specs.Told.{release_text}
use Rattle.explain_reasons.proofs.Refused.{text_of}
use Rattle.explain_reasons.proofs.refusals.put_release.Goals as goal

pub returns-in-UnsupportedSubpool : goal.returns-in-UnsupportedSubpool
returns-in-UnsupportedSubpool g c = text_of _ _ _ _ (release_text (settings_of c.args.storage.now) (state_of c.args.storage.now) c.args.r) c.args.cause UnsupportedSubpool c.in-UnsupportedSubpool.is c.put_left_out.ensures

pub returns-in-SubpoolNotAllowed : goal.returns-in-SubpoolNotAllowed
returns-in-SubpoolNotAllowed g c = text_of _ _ _ _ (release_text (settings_of c.args.storage.now) (state_of c.args.storage.now) c.args.r) c.args.cause SubpoolNotAllowed c.in-SubpoolNotAllowed.is c.put_too_high.ensures

pub returns-in-BadLength : goal.returns-in-BadLength
returns-in-BadLength g c = text_of _ _ _ _ (release_text (settings_of c.args.storage.now) (state_of c.args.storage.now) c.args.r) c.args.cause BadLength c.in-BadLength.is c.put_text.ensures.text

pub returns-in-Misaligned : goal.returns-in-Misaligned
returns-in-Misaligned g c = text_of _ _ _ _ (release_text (settings_of c.args.storage.now) (state_of c.args.storage.now) c.args.r) c.args.cause Misaligned c.in-Misaligned.is c.put_misaligned.ensures

pub returns-in-NotInSubpool : goal.returns-in-NotInSubpool
returns-in-NotInSubpool g c = text_of _ _ _ _ (release_text (settings_of c.args.storage.now) (state_of c.args.storage.now) c.args.r) c.args.cause NotInSubpool c.in-NotInSubpool.is c.put_not_in_subpool.ensures

pub returns-in-OverlapsFree : goal.returns-in-OverlapsFree
returns-in-OverlapsFree g c = text_of _ _ _ _ (release_text (settings_of c.args.storage.now) (state_of c.args.storage.now) c.args.r) c.args.cause OverlapsFree c.in-OverlapsFree.is c.put_overlaps_free.ensures

pub returns-in-OverlapsCells : goal.returns-in-OverlapsCells
returns-in-OverlapsCells g c = text_of _ _ _ _ (release_text (settings_of c.args.storage.now) (state_of c.args.storage.now) c.args.r) c.args.cause OverlapsCells c.in-OverlapsCells.is c.put_overlaps_cells.ensures
