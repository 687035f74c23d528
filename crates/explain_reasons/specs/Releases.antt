-- Why the area of a release isn't in its subpool, or isn't taken there, as text.
use Rattle.std.specs.Prelude.{ℕ, ◌-◌, ◌*◌, ◌/◌, ◌^◌, min, Bool, List}
use Rattle.std.specs.Prelude.{[], ◌∷◌, ◌++◌, Option, Some, None, codes, unwrap_or}
use Rattle.std.specs.Fmt.{decimal}
use Rattle.vsm_model.specs.declared.Subpool.{Subpool}
use Rattle.vsm_model.specs.declared.causes.Cause.{Cause}
use Rattle.vsm_model.specs.declared.causes.Cause.TheVariants.{NotInSubpool, OverlapsFree}
use Rattle.vsm_model.specs.declared.limits.Settings.{Settings}
use Rattle.vsm_model.specs.declared.services.Release.{Release}
use Rattle.vsm_model.specs.Regions.{doublewords}
use Rattle.vsm_model.specs.Releasing.{is_foreign, is_not_taken}
use Rattle.vsm_model.specs.Search.{least}
use Rattle.vsm_model.specs.State.{State}
use Rattle.vsm_model.specs.Texts.{hexadecimal}
use Rattle.explain_text.specs.Pieces.{line}
use Rattle.explain_reasons.specs.Sights.{seen_subpool}
use Rattle.explain_reasons.specs.Pages.{byte_text}
use Rattle.explain_reasons.specs.SightTexts.{unseen_text}

-- the first doubleword of the area that passes a test; that of its address if none does
abbrev pub first_in : (ℕ → Bool) → Release → ℕ
first_in passes r = unwrap_or (least passes (r.address / 8) (doublewords r.length)) (r.address / 8)

-- the address of a doubleword, up to the last of a fullword
abbrev pub address_of : ℕ → ℕ
address_of d = min (8 * d) (2 ^ 32 - 1)

-- ---- outside the subpool

-- the byte at an address lies in a page of another subpool, or outside both regions
abbrev pub foreign_text : ℕ → Option Subpool → List ℕ
foreign_text address None =
    line (codes "the byte at " ∷ hexadecimal 8 address ∷ codes " lies outside both regions" ∷ [])
foreign_text address (Some p) =
    line
    (codes "the byte at " ∷ hexadecimal 8 address ∷ codes " lies in a page of subpool " ∷ decimal p.number
    ∷ codes " of task " ∷ decimal p.owner ∷ [])

-- a doubleword's
abbrev pub foreign_at : State → ℕ → List ℕ
foreign_at s d = foreign_text (address_of d) (s.pages (d / 512))

-- The first of the area that does so, by the subpool that the current task sees at the number; if it sees none, that
-- and whose the first byte's page is.
abbrev pub outside_text : Settings → State → Release → Option Subpool → List ℕ
outside_text settings s r None = unseen_text s.current r.number ++ byte_text s r.address
outside_text settings s r (Some p) = foreign_at s (first_in (is_foreign settings s p) r)

abbrev pub not_in_subpool_text : Settings → State → Release → List ℕ
not_in_subpool_text settings s r = outside_text settings s r (seen_subpool s r.number)

-- ---- not taken

-- the doubleword at an address is free, or lies in a page that isn't assigned
abbrev pub free_text : ℕ → Option Subpool → List ℕ
free_text address None =
    line (codes "the doubleword at " ∷ hexadecimal 8 address ∷ codes " lies in a page that isn't assigned" ∷ [])
free_text address (Some p) =
    line
    (codes "the doubleword at " ∷ hexadecimal 8 address ∷ codes " is free already, in a page of subpool "
    ∷ decimal p.number ∷ codes " of task " ∷ decimal p.owner ∷ [])

abbrev pub free_at : State → ℕ → List ℕ
free_at s d = free_text (address_of d) (s.pages (d / 512))

-- the first of the area that isn't taken in the subpool that the current task sees at the number
abbrev pub untaken_text : State → Release → Option Subpool → List ℕ
untaken_text s r None = []
untaken_text s r (Some p) = free_at s (first_in (is_not_taken s p) r)

abbrev pub overlaps_free_text : State → Release → List ℕ
overlaps_free_text s r = untaken_text s r (seen_subpool s r.number)

-- ---- the address that decides

-- of the first byte of the area that isn't in the subpool that the current task sees at the number; that of the area if
-- it sees none
abbrev pub outside_address : Settings → State → Release → Option Subpool → ℕ
outside_address settings s r None = r.address
outside_address settings s r (Some p) = address_of (first_in (is_foreign settings s p) r)

-- of the first doubleword of the area that isn't taken there
abbrev pub untaken_address : State → Release → Option Subpool → ℕ
untaken_address s r None = r.address
untaken_address s r (Some p) = address_of (first_in (is_not_taken s p) r)

-- by the cause; none if another cause keeps the area from being released
abbrev pub deciding_address : Settings → State → Release → Cause → Option ℕ
deciding_address settings s r NotInSubpool = Some (outside_address settings s r (seen_subpool s r.number))
deciding_address settings s r OverlapsFree = Some (untaken_address s r (seen_subpool s r.number))
deciding_address settings s r _ = None
