-- A text that was gathered in memory is written.
use Rattle.std.proofs.Common.{◌≡◌, ◌≢◌, ℕ, Bool, List, [], Option, Some, Ok, Err, refl, subst}
use Rattle.std.specs.Io.KnownBytes.{Appends}
use Rattle.text_output.specs.Writing.{AppendsFront}
use Rattle.text_output.proofs.Known.{appends_nothing}
use Rattle.vsm_model.specs.declared.limits.Settings.{Settings}
use Rattle.explain_why.specs.Explained.{IsExplained}
use Rattle.explain_why.specs.Faults.{IsFaultOf}
use Rattle.explain_why.specs.Output.{Explains, IsItsText}
use Rattle.explain_why.specs.declared.faults.WhyFault.{WhyFault}
use Rattle.explain_why.specs.declared.faults.WhyFault.TheVariants as fault

module _ (settings : Settings) (script : List ℕ) (line : ℕ) (old new : Option (List ℕ)) where
  its : (before text : List ℕ) (refused : Bool) → before ≡ [] → IsExplained settings script line (Some before) (Some text) refused →
      IsItsText settings script line text refused
  its before text refused none is = subst (λ (b : List ℕ). IsExplained settings script line (Some b) (Some text) refused) none is

  pub all_written : (before text : List ℕ) (refused : Bool) → before ≡ [] → IsExplained settings script line (Some before) (Some text) refused →
      Appends old new text → Explains settings script line old new (Ok refused)
  all_written before text refused none is out = (text, its before text refused none is, out)

  pub some_written : (before text : List ℕ) (refused : Bool) → before ≡ [] → IsExplained settings script line (Some before) (Some text) refused →
      AppendsFront old new text → Explains settings script line old new (Err fault.Write)
  some_written before text refused none is out = (text, refused, its before text refused none is, out)

  pub none_written : (f : WhyFault) → f ≢ fault.Write → IsFaultOf script line f → Explains settings script line old old (Err f)
  none_written (fault.New f) other says = (appends_nothing old, says)
  none_written fault.TooLong other says = (appends_nothing old, says)
  none_written fault.Write other says = absurd (other refl)
  none_written (fault.NoLine n) other says = (appends_nothing old, says)
  none_written fault.Aside other says = (appends_nothing old, says)
  none_written fault.Dropped other says = (appends_nothing old, says)
  none_written fault.Memory other says = (appends_nothing old, says)
