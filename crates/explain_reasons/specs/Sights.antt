-- Which subpool the current task sees.
use Rattle.std.specs.Prelude.{ℕ, nat_lt, if◌then◌else◌, Option, None}
use Rattle.std.specs.Option.{option_map}
use Rattle.vsm_model.specs.declared.Subpool.{Subpool}
use Rattle.vsm_model.specs.State.{State}

-- the subpool that the current task sees at a number; none above 127
abbrev pub seen_subpool : State → ℕ → Option Subpool
seen_subpool s number =
    if nat_lt 127 number then None
    else option_map (λ owner. record { number = number; owner = owner }) (s.sight s.current number)
