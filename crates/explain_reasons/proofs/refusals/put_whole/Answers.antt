use Rattle.vsm_model.specs.declared.causes.Cause.TheVariants.{NotInSubpool, NotOwner, SubpoolNotAllowed, UnsupportedSubpool, WholeOfZero}
use Rattle.storage_core.specs.Meaning.{state_of}
use Rattle.explain_reasons.specs.Told.{whole_text}
use Rattle.explain_reasons.proofs.Refused.{text_of}
use Rattle.explain_reasons.proofs.refusals.put_whole.Goals as goal

pub returns-in-UnsupportedSubpool : goal.returns-in-UnsupportedSubpool
returns-in-UnsupportedSubpool g c = text_of _ _ _ _ (whole_text (state_of c.args.storage.now) c.args.number) c.args.cause UnsupportedSubpool c.in-UnsupportedSubpool.is c.put_left_out.ensures

pub returns-in-SubpoolNotAllowed : goal.returns-in-SubpoolNotAllowed
returns-in-SubpoolNotAllowed g c = text_of _ _ _ _ (whole_text (state_of c.args.storage.now) c.args.number) c.args.cause SubpoolNotAllowed c.in-SubpoolNotAllowed.is c.put_too_high.ensures

pub returns-in-WholeOfZero : goal.returns-in-WholeOfZero
returns-in-WholeOfZero g c = text_of _ _ _ _ (whole_text (state_of c.args.storage.now) c.args.number) c.args.cause WholeOfZero c.in-WholeOfZero.is c.put_text.ensures.text

pub returns-in-NotInSubpool : goal.returns-in-NotInSubpool
returns-in-NotInSubpool g c = text_of _ _ _ _ (whole_text (state_of c.args.storage.now) c.args.number) c.args.cause NotInSubpool c.in-NotInSubpool.is c.put_unseen.ensures

pub returns-in-NotOwner : goal.returns-in-NotOwner
returns-in-NotOwner g c = text_of _ _ _ _ (whole_text (state_of c.args.storage.now) c.args.number) c.args.cause NotOwner c.in-NotOwner.is c.put_seen.ensures
