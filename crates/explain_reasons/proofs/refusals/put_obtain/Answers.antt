use Rattle.std.proofs.Common.{◌≡◌, None, Some, refl, subst}
use Rattle.vsm_model.specs.declared.causes.Cause.{Cause}
use Rattle.vsm_model.specs.declared.causes.Cause.TheVariants.{BadLength, NoStorage, SubpoolNotAllowed, TooManyNames, UnsupportedSubpool}
use Rattle.vsm_model.specs.Causes.{first_cause}
use Rattle.vsm_model.specs.Obtaining.{obtain_causes}
use Rattle.storage_core.specs.Meaning.{settings_of, state_of}
use Rattle.explain_text.specs.Asked.{left_out_text, lengths_text, names_full_text, too_high_text}
use Rattle.explain_reasons.specs.Told.{IsObtainTold}
use Rattle.explain_reasons.proofs.AreaLemmas.{no_room_put, some_of_area}
use Rattle.explain_reasons.proofs.Refused.{one_of}
use Rattle.explain_reasons.proofs.refusals.put_obtain.Goals as goal

pub returns-in-UnsupportedSubpool-clause-told : goal.returns-in-UnsupportedSubpool-clause-told
returns-in-UnsupportedSubpool-clause-told g c = λ full first. one_of _ _ _ _ (IsObtainTold (state_of c.args.storage.now) c.args.o) c.args.cause UnsupportedSubpool (left_out_text c.args.o.number) c.in-UnsupportedSubpool.is refl c.put_left_out.ensures

pub returns-in-SubpoolNotAllowed-clause-told : goal.returns-in-SubpoolNotAllowed-clause-told
returns-in-SubpoolNotAllowed-clause-told g c = λ full first. one_of _ _ _ _ (IsObtainTold (state_of c.args.storage.now) c.args.o) c.args.cause SubpoolNotAllowed (too_high_text c.args.o.number) c.in-SubpoolNotAllowed.is refl c.put_too_high.ensures

pub returns-in-BadLength-clause-told : goal.returns-in-BadLength-clause-told
returns-in-BadLength-clause-told g c = λ full first. one_of _ _ _ _ (IsObtainTold (state_of c.args.storage.now) c.args.o) c.args.cause BadLength (lengths_text c.args.o.lengths) c.in-BadLength.is refl c.put_bad_length.ensures

pub returns-in-TooManyNames-clause-told : goal.returns-in-TooManyNames-clause-told
returns-in-TooManyNames-clause-told g c = λ full first. one_of _ _ _ _ (IsObtainTold (state_of c.args.storage.now) c.args.o) c.args.cause TooManyNames (names_full_text) c.in-TooManyNames.is refl c.put_names_full.ensures

pub returns-in-NoStorage-clause-told : goal.returns-in-NoStorage-clause-told
returns-in-NoStorage-clause-told g c = λ full first.
    let s = c.args.storage.now in
    let here = subst (λ (k : Cause). first_cause (obtain_causes (settings_of s) full (state_of s) c.args.o) ≡ Some k) c.in-NoStorage.is first in
    let (text, says, h) = no_room_put s c.args.o full _ _ _ _ here c.put_area.ensures.place in
    one_of _ _ _ _ (IsObtainTold (state_of s) c.args.o) c.args.cause NoStorage text c.in-NoStorage.is says h

pub returns-in-NoStorage-clause-some : goal.returns-in-NoStorage-clause-some
returns-in-NoStorage-clause-some g c = some_of_area c.args.storage.now c.args.o.number None _ _ _ _ c.put_area.ensures.area
