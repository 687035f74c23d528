-- How a refusal of the plain machine is reported.
use Rattle.std.specs.Prelude.{◌≡◌, ℕ, List, Result, Err}
use Rattle.vsm_machine.specs.Machine.{Why, unknown_name, abended}
use Rattle.vsm_machine.specs.declared.refusals.Refusal.{Refusal}
use Rattle.vsm_machine.specs.declared.refusals.Refusal.TheVariants.{Name, Abend}

abbrev pub refusal_for : Why → Refusal
refusal_for unknown_name = Name
refusal_for (abended code) = Abend code

-- A reading is refused for this.
abbrev pub IsRefusedFor : Result (List ℕ) Why → Refusal → Type 0
IsRefusedFor shown refusal = (why : Why) × (shown ≡ Err why) × (refusal ≡ refusal_for why)
