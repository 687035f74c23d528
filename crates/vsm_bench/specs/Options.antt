-- The command line as clap is given it, and what clap reads.
use Rattle.std.specs.Prelude.{◌≡◌, ◌⊎◌, ℕ, Bool, true, false, List, [], ◌∷◌, map, codes, Option, Some, None, Result}
use Rattle.std.specs.Prelude.{Ok, Err, slice_get}
use Rattle.clap.specs.Words.{App, Row, Text, new_app, new_rule, with_rule, first_of, rows_of, found_of}
use Rattle.clap.specs.Walk.{row_text}
use Rattle.clap.specs.Words.{kind_of, reading_of}
use Rattle.clap.specs.declared.error.ErrorKind.{ErrorKind}
use Rattle.clap.specs.declared.error.ErrorKind.TheVariants as kind
use Rattle.clap.specs.declared.parser.ValueSource.TheVariants.{CommandLine}
use Rattle.clap.specs.declared.builder.ValueParser.TheVariants as parser
use Rattle.clap.specs.declared.parser.ArgMatches.{ArgMatches}
use Rattle.clap.specs.declared.Error.{Error}
use Rattle.bench_core.specs.NewFault.TheVariants as new_fault
use Rattle.script_steps.specs.declared.faults.RunFault.TheVariants as fault
use Rattle.vsm_bench.specs.Settings.{Residences, with_settings}
use Rattle.vsm_bench.specs.Command.{Helps, Refuses, Versions}
use Rattle.vsm_bench.specs.Words.{Asked, help, version, wrong, run, asked_words}

-- a program that has a version
abbrev pub with_version : App → App
with_version app = record app { top = record app.top { has_version = true } }

-- the four options of a bench, and an operand
abbrev pub command_line : Residences → App
command_line values =
    with_rule (with_settings values (with_version (new_app (codes "vsm")))) (new_rule (codes "FILE"))

abbrev pub file_asked : List Row → Option Text
file_asked rows = first_of (codes "FILE") rows

-- what clap keeps of a value
abbrev pub row_of_use : Text × Text → Row
row_of_use pair = record {
  id = pair.0;
  values = pair.1 ∷ [];
  count = None;
  source = Some CommandLine;
  reading = reading_of parser.String;
}

-- what a row says, as it's written and as it's read
abbrev pub said : Row → Text × (Option Text × Option Text)
said row = (row.id, (slice_get row.values 0, row_text row))

abbrev pub said_in : Text × Text → Text × (Option Text × Option Text)
said_in pair = (pair.0, (Some pair.1, Some pair.1))

-- a kind of error that says that arguments are wrong
abbrev pub is_wrong : ErrorKind → Bool
is_wrong kind.DisplayHelp = false
is_wrong kind.DisplayVersion = false
is_wrong kind.OutOfMemory = false
is_wrong _ = true

abbrev pub IsKindOf : ErrorKind → Asked → Type 0
IsKindOf k help = k ≡ kind.DisplayHelp
IsKindOf k version = k ≡ kind.DisplayVersion
IsKindOf k wrong = is_wrong k ≡ true
IsKindOf k (run uses) = ⊥

abbrev pub Gives : List Row → Asked → Type 0
Gives rows (run uses) = map said rows ≡ map said_in uses
Gives rows _ = ⊥

-- The arguments were read as they ask: what was read is what they give, or the error is of what they ask for (or memory
-- ran out).
abbrev pub Reads : List Text → Result ArgMatches Error → Type 0
Reads words (Ok m) = Gives (rows_of (found_of m)) (asked_words words)
Reads words (Err e) = (kind_of e ≡ kind.OutOfMemory) ⊎ IsKindOf (kind_of e) (asked_words words)

-- An answer to arguments that gave an error of this kind: help, or the version; or no memory, which is reported; or
-- status 16, and nothing is written.
module _ {E : Type 0} (said : E → E → List ℕ → Bool → Type 0) (errors told : E) (at_terminal : Bool) where
  abbrev pub AnswersKind : {O : Type 0} → (O → Option (List ℕ)) → ErrorKind → O → O → ℕ → Type 0
  AnswersKind contents kind.DisplayHelp output later code =
      Helps said errors told at_terminal (contents output) (contents later) code
  AnswersKind contents kind.DisplayVersion output later code =
      Versions said errors told at_terminal (contents output) (contents later) code
  AnswersKind contents kind.OutOfMemory output later code =
      Refuses said errors told at_terminal output later code (fault.New new_fault.NoMemory)
  AnswersKind contents _ output later code = (later ≡ output) × (code ≡ 16)
