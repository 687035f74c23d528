-- The exit status.
use Rattle.std.specs.Prelude.{◌≡◌, ◌⊎◌, ℕ, Bool, if◌then◌else◌, Result, Ok, Err}
use Rattle.vsm_explain.specs.declared.faults.CommandFault.{CommandFault}
use Rattle.vsm_explain.specs.declared.faults.CommandFault.TheVariants as fault

-- 8 if the script can't be read or is too long, or the output can't be written; else 16
abbrev pub fault_status : CommandFault → ℕ
fault_status (fault.Script name why) = 8
fault_status (fault.TooLong excess) = 8
fault_status fault.Write = 8
fault_status _ = 16

-- 4 if an answer reports a refusal
abbrev pub status : Result Bool CommandFault → ℕ
status (Ok refused) = if refused then 4 else 0
status (Err e) = fault_status e

-- no answer
abbrev pub IsFailure : ℕ → Type 0
IsFailure code = (code ≡ 8) ⊎ (code ≡ 16)

-- an answer to arguments that ask no question: help and the version, or a failure
abbrev pub IsWordless : ℕ → Type 0
IsWordless code = (code ≡ 0) ⊎ IsFailure code

-- every status
abbrev pub IsStatus : ℕ → Type 0
IsStatus code = (code ≡ 0) ⊎ ((code ≡ 4) ⊎ IsFailure code)
