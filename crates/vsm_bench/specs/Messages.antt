-- What is said of a fault.
use Rattle.std.specs.Prelude.{◌≡◌, ℕ, Bool, true, false, List, Option, codes}
use Rattle.std.specs.Io.KnownBytes.{Appends}
use Rattle.text_output.specs.Writing.{AppendsFront}
use Rattle.bench_core.specs.NewFault.TheVariants as new_fault
use Rattle.script_steps.specs.declared.faults.RunFault.{RunFault}
use Rattle.script_steps.specs.declared.faults.RunFault.TheVariants as fault

-- one line
abbrev pub fault_text : RunFault → List ℕ
fault_text fault.Read = codes "vsm: read\n"
fault_text fault.Write = codes "vsm: write\n"
fault_text fault.TooLong = codes "vsm: too long\n"
fault_text (fault.New new_fault.Setting) = codes "vsm: settings\n"
fault_text (fault.New new_fault.NoMemory) = codes "vsm: memory\n"

-- Known bytes grow by the whole text, or by a prefix of it.
abbrev pub WritesWhere : Bool → Option (List ℕ) → Option (List ℕ) → List ℕ → Type 0
WritesWhere true old new text = Appends old new text
WritesWhere false old new text = AppendsFront old new text

-- A text was said, whether or not all of it was written, and nothing else. By `said` each implementor of `Messages`
-- says what that leaves.
module _ {E : Type 0} (said : E → E → List ℕ → Bool → Type 0) (errors told : E) where
  abbrev pub Says : List ℕ → Type 0
  Says text = (whole : Bool) × said errors told text whole

-- A text was said; and nothing follows it, except at a terminal.
module _ {E : Type 0} (said : E → E → List ℕ → Bool → Type 0) (errors told : E) (at_terminal : Bool) where
  abbrev pub SaysFirst : List ℕ → Type 0
  SaysFirst text = (first : E) × Says said errors first text × (at_terminal ≡ false → told ≡ first)
