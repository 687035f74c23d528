-- What is said of a fault.
use Rattle.std.specs.Prelude.{ℕ, Bool, List, codes, Result, Ok, Err, ⊤}
use Rattle.vsm_bench.specs.Messages.{Says}
use Rattle.vsm_explain.specs.declared.faults.CommandFault.{CommandFault}
use Rattle.vsm_explain.specs.declared.faults.CommandFault.TheVariants as fault
use Rattle.vsm_explain.specs.declared.scripts.Unread.TheVariants as why

-- the end of its line, from the last word on that depends on nothing
abbrev pub fault_end : CommandFault → List ℕ
fault_end fault.Terminal = codes "no FILE is named, and standard input is a terminal\n"
fault_end fault.Memory = codes "memory ran out\n"
fault_end fault.Write = codes "the output can't be written\n"
fault_end (fault.Script name why.Empty) = codes " is empty\n"
fault_end (fault.Script name why.TooLong) = codes " is longer than 268435456 bytes\n"
fault_end (fault.Script name why.Binary) = codes " isn't text: it has bytes X'00'\n"
fault_end _ = codes "\n"

-- `told` is standard error at last.
module _ {E : Type 0} (said : E → E → List ℕ → Bool → Type 0) (told : E) where
  -- This text is the last that is said.
  abbrev pub EndsIn : List ℕ → Type 0
  EndsIn text = (before : E) × Says said before told text

  -- a fault is
  abbrev pub Reports : Result Bool CommandFault → Type 0
  Reports (Ok refused) = ⊤
  Reports (Err fault) = EndsIn (fault_end fault)
