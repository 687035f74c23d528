-- What a run did to its reader and its writer.
use Rattle.std.specs.Prelude.{◌≡◌, ◌⊎◌, ℕ, List, [], ◌++◌, take, true, false, Option, Result, Ok, Err}
use Rattle.std.specs.Io.KnownBytes.{Consumes, Appends, IsAtEnd}
use Rattle.vsm_model.specs.declared.limits.Settings.{Settings}
use Rattle.vsm_model.specs.Regions.{settings_valid}
use Rattle.script_steps.specs.Output.{Marked, output}
use Rattle.script_steps.specs.Taken.{Took, Ended, Unended, PassesBound, Counts}
use Rattle.text_output.specs.Writing.{AppendsFront, Holds}
use Rattle.script_steps.specs.declared.faults.RunFault.{RunFault}
use Rattle.script_steps.specs.declared.faults.RunFault.TheVariants as fault
use Rattle.script_steps.specs.declared.totals.RunTotals.{RunTotals}
use Rattle.bench_core.specs.NewFault.{NewFault}
use Rattle.bench_core.specs.NewFault.TheVariants as new_fault
use Rattle.script_steps.specs.declared.session.Session.{Session}
use Rattle.script_steps.specs.declared.session.TooLong.{TooLong}
use Rattle.text_output.specs.declared.writing.Gathered.{Gathered}

-- The session took these bytes, and the lines of its answers follow what the writer held at first, except what is
-- gathered.
pub record Runs (settings : Settings) (at_first now : Option (List ℕ)) (g : Gathered) (given : List ℕ) (s : Session) :
    Type 0 where
  pub answers : List Marked
  pub took : Took settings given answers s
  pub out : Holds at_first now g (output settings answers)

-- This holds after a call, whatever the settings, what the writer held at first, and the bytes taken before.
abbrev pub GoesOn : Option (List ℕ) → Gathered → Session → (Settings → Option (List ℕ) → List ℕ → Type 0) → Type 0
GoesOn now g s holds =
    (settings : Settings) (at_first : Option (List ℕ)) (given : List ℕ) → Runs settings at_first now g given s
    → holds settings at_first given

-- One of these bytes passes a bound, whatever follows them; the output of the lines before it is put.
pub record Passes (settings : Settings) (at_first now : Option (List ℕ)) (g : Gathered) (given : List ℕ) : Type 0 where
  pub answers : List Marked
  pub past : (behind : List ℕ) → PassesBound settings (given ++ behind) answers
  pub out : Holds at_first now g (output settings answers)

abbrev pub Takes : Settings → Option (List ℕ) → Option (List ℕ) → Gathered → List ℕ → Session
    → Result (Unit {0}) TooLong → Type 0
Takes settings at_first now g given s (Ok u) = Runs settings at_first now g given s
Takes settings at_first now g given s (Err e) = Passes settings at_first now g given

-- This many bytes of the rest were taken; or one of them passes a bound.
abbrev pub TakesLine : Settings → Option (List ℕ) → Option (List ℕ) → Gathered → List ℕ → List ℕ → Session
    → Result ℕ TooLong → Type 0
TakesLine settings at_first now g given rest s (Ok n) = Runs settings at_first now g (given ++ take n rest) s
TakesLine settings at_first now g given rest s (Err e) = Passes settings at_first now g (given ++ rest)

abbrev pub IsNewFault : Settings → NewFault → Type 0
IsNewFault settings new_fault.Setting = settings_valid settings ≡ false
IsNewFault settings new_fault.NoMemory = settings_valid settings ≡ true

-- The answers to the complete lines of these bytes, up to a byte that passes a bound; or to these bytes as the whole
-- script, but only if the reader has met its end.
abbrev pub Answered : Settings → Option (List ℕ) → List ℕ → List Marked → Type 0
Answered settings left given answers =
    (Unended settings given answers ⊎ PassesBound settings given answers)
    ⊎ (IsAtEnd left × Ended settings given answers)

-- After a read fault the text is that of the complete lines of the bytes read. After a write fault what was written is
-- a prefix of that text, or of the text of the whole script if the reader has met its end. If a byte passes a bound the
-- text is that of the lines before it. If no bench could be made nothing was read or written.
abbrev pub FaultAt : Settings → Option (List ℕ) → Option (List ℕ) → Option (List ℕ) → List ℕ → RunFault → Type 0
FaultAt settings left at_first now given fault.Read =
    (answers : List Marked) × Unended settings given answers × Appends at_first now (output settings answers)
FaultAt settings left at_first now given fault.Write =
    (answers : List Marked) × Answered settings left given answers × AppendsFront at_first now (output settings answers)
FaultAt settings left at_first now given fault.TooLong =
    (answers : List Marked) × PassesBound settings given answers × Appends at_first now (output settings answers)
FaultAt settings left at_first now given (fault.New f) = (given ≡ []) × IsNewFault settings f × Appends at_first now []

-- The bytes of a read were taken; or there is a fault in them, whatever the reader has left.
abbrev pub TakesRead : Settings → Option (List ℕ) → Option (List ℕ) → Gathered → List ℕ → Session
    → Result (Unit {0}) RunFault → Type 0
TakesRead settings at_first now g given s (Ok u) = Runs settings at_first now g given s
TakesRead settings at_first now g given s (Err e) = (left : Option (List ℕ))
    → FaultAt settings left at_first now given e

-- all bytes of a script whose reader has met its end
abbrev pub Finishes : Settings → Option (List ℕ) → Option (List ℕ) → Option (List ℕ) → List ℕ
    → Result RunTotals RunFault → Type 0
Finishes settings left at_first now given (Ok totals) =
    (answers : List Marked) × Ended settings given answers × Appends at_first now (output settings answers)
    × Counts settings answers totals
Finishes settings left at_first now given (Err e) = FaultAt settings left at_first now given e

-- A run that succeeds met its reader's end, and wrote the output of the whole script. After a fault see FaultAt. The
-- script is all that the reader gave.
abbrev pub Ran : Settings → Option (List ℕ) → Option (List ℕ) → Option (List ℕ) → Option (List ℕ)
    → Result RunTotals RunFault → Type 0
Ran settings unread left at_first now (Ok totals) =
    (given : List ℕ) × Consumes unread left given × IsAtEnd left × Finishes settings left at_first now given (Ok totals)
Ran settings unread left at_first now (Err e) =
    (given : List ℕ) × Consumes unread left given × FaultAt settings left at_first now given e
