-- What a reply says about its statement.
use Rattle.std.proofs.Common.{◌≡◌, ℕ, ◌/◌, ◌<◌, Bool, true, inl, inr, arith}
use Rattle.vsm_model.specs.declared.limits.Settings.{Settings}
use Rattle.vsm_model.specs.declared.replies.Reply.TheVariants.{Returned}
use Rattle.vsm_model.specs.declared.services.Release.{Release}
use Rattle.vsm_model.specs.Regions.{among, doublewords}
use Rattle.vsm_model.specs.Services.{release}
use Rattle.vsm_model.specs.Standing.{Accepted}
use Rattle.vsm_model.specs.State.{State}
use Rattle.vsm_model.specs.Step.{step}
use Rattle.service_laws.proofs.Returns.{release_gives_taken_storage_back}

-- What is released was taken.
pub released_was_taken : (settings : Settings) (names_full : Bool) (s t : State) (r : Release) → step settings names_full s (release r) ≡ Accepted t (Returned 0) →
    (0 < doublewords r.length) × ((d : ℕ) → among (r.address / 8) (doublewords r.length) d ≡ true → s.taken d ≡ true)
released_was_taken settings names_full s t r e = elim (release_gives_taken_storage_back settings names_full s t r (Returned 0) e) [
  | inl back ↦ (let some : 0 < r.length = back.0.some in grind arith, back.0.was_taken)
  | inr four ↦ absurd (let no : Returned 0 ≡ Returned 4 = four.1 in cc)
]
