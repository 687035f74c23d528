-- What is written about the statement of a line.
use Rattle.std.specs.Prelude.{ℕ, Bool, List, [], Option, Some, Result, Ok, Err}
use Rattle.std.specs.Io.KnownBytes.{Appends}
use Rattle.text_output.specs.Writing.{AppendsFront}
use Rattle.vsm_model.specs.declared.limits.Settings.{Settings}
use Rattle.explain_why.specs.Explained.{IsExplained}
use Rattle.explain_why.specs.Faults.{IsFaultOf}
use Rattle.explain_why.specs.declared.faults.WhyFault.{WhyFault}
use Rattle.explain_why.specs.declared.faults.WhyFault.TheVariants as fault

-- This is a text that explains the statement of a line, and says whether it's refused.
abbrev pub IsItsText : Settings → List ℕ → ℕ → List ℕ → Bool → Type 0
IsItsText settings script line its refused = IsExplained settings script line (Some []) (Some its) refused

-- The statement of a line is explained: all of such a text is written, or after a write fault a prefix of it; after
-- each other fault, which says why the line has none, nothing is.
abbrev pub Explains : Settings → List ℕ → ℕ → Option (List ℕ) → Option (List ℕ) → Result Bool WhyFault → Type 0
Explains settings script line old new (Ok refused) =
    (its : List ℕ) × IsItsText settings script line its refused × Appends old new its
Explains settings script line old new (Err fault.Write) =
    (its : List ℕ) × (refused : Bool) × IsItsText settings script line its refused × AppendsFront old new its
Explains settings script line old new (Err fault) = Appends old new [] × IsFaultOf script line fault
