-- A release that takes back less than an area, or of several.
use Rattle.std.specs.Prelude.{ℕ, ◌+◌, ◌-◌, ◌*◌, Bool, not, ◌||◌, if◌then◌else◌}
use Rattle.std.specs.Prelude.{Option, Some, None, unwrap_or}
use Rattle.explain_standing.specs.NumberMaps.{is_of_one}
use Rattle.explain_findings.specs.Homes.{same_home}
use Rattle.explain_findings.specs.declared.findings.Part.{Part}
use Rattle.explain_findings.specs.declared.findings.Part.TheVariants as part
use Rattle.explain_findings.specs.declared.homes.Home.{Home}

-- the area goes on before these doublewords or after them
abbrev pub goes_on : (ℕ → Home) → ℕ → ℕ → Bool
goes_on homes first count =
    same_home (homes (2 * first)) (homes (2 * first - 1))
    || same_home (homes (2 * first)) (homes (2 * (first + count)))

abbrev pub part_at : (ℕ → Home) → (ℕ → Option ℕ) → ℕ → ℕ → Option Part
part_at homes lines first count =
    if not (is_of_one lines first count) then Some part.OfSeveral
    else if goes_on homes first count then Some (part.OfArea (unwrap_or (lines first) 0)) else None
