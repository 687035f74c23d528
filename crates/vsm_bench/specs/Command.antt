-- What the program does, and its exit status.
use Rattle.std.specs.Prelude.{◌≡◌, ℕ, ◌==◌, ◌⊎◌, ◌++◌, Bool, if◌then◌else◌, codes, List, [], Option, Some, None, Result}
use Rattle.std.specs.Prelude.{Ok, Err}
use Rattle.std.specs.Io.KnownBytes.{Appends}
use Rattle.vsm_model.specs.declared.limits.Settings.{Settings}
use Rattle.text_output.specs.Writing.{AppendsFront}
use Rattle.bench_core.specs.NewFault.TheVariants as new_fault
use Rattle.script_steps.specs.Run.{Ran}
use Rattle.vsm_bench.specs.Settings.{default_settings}
use Rattle.vsm_bench.specs.Help.{help_end, version_text}
use Rattle.vsm_bench.specs.Messages.{SaysFirst, fault_text}
use Rattle.vsm_bench.specs.Words.{Asked, help, version, wrong, run, asked_words, given, settings_in}
use Rattle.script_steps.specs.declared.faults.RunFault.{RunFault}
use Rattle.script_steps.specs.declared.faults.RunFault.TheVariants as fault
use Rattle.script_steps.specs.declared.totals.RunTotals.{RunTotals}

abbrev pub fault_status : RunFault → ℕ
fault_status fault.Read = 8
fault_status fault.Write = 8
fault_status fault.TooLong = 8
fault_status (fault.New f) = 16

-- 0 if no statement was refused, and 4 if one was
abbrev pub status : Result RunTotals RunFault → ℕ
status (Ok totals) = if totals.refused == 0 then 0 else 4
status (Err e) = fault_status e

-- 0 if help was written
abbrev pub help_status : Result (Unit {0}) RunFault → ℕ
help_status (Ok u) = 0
help_status (Err e) = fault_status e

-- Help was written, the end of which is known; or a prefix of it; or there was no memory to begin with, and nothing is
-- written.
abbrev pub Helped : Option (List ℕ) → Option (List ℕ) → Result (Unit {0}) RunFault → Type 0
Helped at_first now (Ok u) = (options : List ℕ) × Appends at_first now (options ++ help_end)
Helped at_first now (Err fault.Write) = (options : List ℕ) × AppendsFront at_first now (options ++ help_end)
Helped at_first now (Err (fault.New new_fault.NoMemory)) = Appends at_first now []
Helped at_first now (Err _) = ⊥

-- The version was written, or a prefix of it.
abbrev pub Versioned : Option (List ℕ) → Option (List ℕ) → Result (Unit {0}) RunFault → Type 0
Versioned at_first now (Ok u) = Appends at_first now version_text
Versioned at_first now (Err fault.Write) = AppendsFront at_first now version_text
Versioned at_first now (Err _) = ⊥

-- `said` is what is said to standard error, which is `errors` at first and then `told`; it may be a terminal.
module _ {E : Type 0} (said : E → E → List ℕ → Bool → Type 0) (errors told : E) (at_terminal : Bool) where
  -- a fault has its text, and nothing is said if there is none
  abbrev pub Reports : {T : Type 0} → Result T RunFault → Type 0
  Reports (Ok x) = told ≡ errors
  Reports (Err e) = SaysFirst said errors told at_terminal (fault_text e)

  -- A run with these settings, its status, and what is said of its fault.
  abbrev pub CommandedWith : Settings → Option (List ℕ) → Option (List ℕ) → Option (List ℕ) → Option (List ℕ) → ℕ
      → Type 0
  CommandedWith settings unread left at_first now code =
      (outcome : Result RunTotals RunFault) × Ran settings unread left at_first now outcome × (code ≡ status outcome)
      × Reports outcome

  -- A run with the default settings.
  abbrev pub Commanded : Option (List ℕ) → Option (List ℕ) → Option (List ℕ) → Option (List ℕ) → ℕ → Type 0
  Commanded = CommandedWith default_settings

  -- The script that was opened was run, and what is read is what it had left (`unread`); or none was opened, and
  -- nothing is written.
  abbrev pub RunsOpened : {F O : Type 0} → (F → Option (List ℕ)) → (O → Option (List ℕ)) → Settings → O → O → ℕ
      → Option F → Type 0
  RunsOpened {F} unread contents settings output later code (Some script) =
      (rest : F) × CommandedWith settings (unread script) (unread rest) (contents output) (contents later) code
  RunsOpened unread contents settings output later code None =
      (later ≡ output) × (code ≡ 8) × SaysFirst said errors told at_terminal (fault_text fault.Read)

  -- Nothing is written, and a new bench isn't begun because of this fault.
  abbrev pub Refuses : {O : Type 0} → O → O → ℕ → RunFault → Type 0
  Refuses output later code e =
      (later ≡ output) × (code ≡ fault_status e) × SaysFirst said errors told at_terminal (fault_text e)

  -- Help, with its status and what is said of its fault.
  abbrev pub Helps : Option (List ℕ) → Option (List ℕ) → ℕ → Type 0
  Helps at_first now code =
      (outcome : Result (Unit {0}) RunFault) × Helped at_first now outcome × (code ≡ help_status outcome)
      × Reports outcome

  -- The version, with its status and what is said of its fault.
  abbrev pub Versions : Option (List ℕ) → Option (List ℕ) → ℕ → Type 0
  Versions at_first now code =
      (outcome : Result (Unit {0}) RunFault) × Versioned at_first now outcome × (code ≡ help_status outcome)
      × Reports outcome

-- What the program does with its input, its output and its status. `opened` says what opening a path gave, and `unread`
-- what an open script has left to be read.
module _ {F I O E : Type 0} (opened : List ℕ → Option F → Type 0) (unread : F → Option (List ℕ))
    (remaining : I → Option (List ℕ)) (contents : O → Option (List ℕ)) (said : E → E → List ℕ → Bool → Type 0)
    (input left : I) (output later : O) (errors told : E) (at_terminal : Bool) (code : ℕ) where
  -- the input is read if the arguments name no file, and else left as it was
  abbrev pub Runs : Settings → Option (List ℕ) → Type 0
  Runs settings None =
      CommandedWith said errors told at_terminal settings (remaining input) (remaining left) (contents output)
      (contents later) code
  Runs settings (Some path) = (left ≡ input) × ((script : Option F) × opened path script
      × RunsOpened said errors told at_terminal unread contents settings output later code script)

  -- a number above 32 bits is refused before the file is opened
  abbrev pub Obeys : Option Settings → Option (List ℕ) → Type 0
  Obeys None file =
      (left ≡ input) × Refuses said errors told at_terminal output later code (fault.New new_fault.Setting)
  Obeys (Some settings) file = Runs settings file

  -- help, the version, a run with what the arguments give, or status 16 if they are wrong
  abbrev pub Answers : Asked → Type 0
  Answers help = (left ≡ input) × Helps said errors told at_terminal (contents output) (contents later) code
  Answers version = (left ≡ input) × Versions said errors told at_terminal (contents output) (contents later) code
  Answers wrong = (left ≡ input) × (later ≡ output) × (code ≡ 16)
  Answers (run uses) = Obeys (settings_in uses) (given (codes "FILE") uses)

  -- or there is no memory to read the arguments, which is reported
  abbrev pub Does : List (List ℕ) → Type 0
  Does words = ((left ≡ input) × Refuses said errors told at_terminal output later code (fault.New new_fault.NoMemory))
      ⊎ Answers (asked_words words)
