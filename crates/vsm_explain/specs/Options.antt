-- The command line as it is given to clap.
use Rattle.std.specs.Prelude.{◌≡◌, ◌⊎◌, ℕ, Bool, IsSomeAnd, Result, Ok, Err, true, false, List, [], ◌∷◌, codes, fold}
use Rattle.std.specs.Prelude.{map, Some}
use Rattle.clap.specs.Simple.{new_shape}
use Rattle.clap.specs.Words.{App, Row, Rule, Shape, Text, first_of, found_of, kind_of, new_app, new_rule, rows_of}
use Rattle.clap.specs.Words.{subcommand_rows_of, with_rule}
use Rattle.clap.specs.declared.error.ErrorKind.{ErrorKind}
use Rattle.clap.specs.declared.error.ErrorKind.TheVariants as error
use Rattle.clap.specs.declared.parser.ArgMatches.{ArgMatches}
use Rattle.clap.specs.declared.Error.{Error}
use Rattle.clap.specs.declared.builder.ArgAction.TheVariants.{SetTrue}
use Rattle.vsm_bench.specs.Options.{Gives, IsKindOf}
use Rattle.vsm_bench.specs.Settings.{AreResidences, Residences, with_settings}
use Rattle.vsm_bench.specs.Words.{Asked}
use Rattle.vsm_explain.specs.declared.forms.WordRow.{WordRow}
use Rattle.vsm_explain.specs.declared.forms.WordKind.{WordKind}
use Rattle.vsm_explain.specs.declared.forms.WordKind.TheVariants as kind
use Rattle.vsm_explain.specs.declared.forms.CommandForm.{CommandForm}
use Rattle.vsm_explain.specs.declared.faults.CommandFault.TheVariants as fault
use Rattle.vsm_explain.specs.Command.{IsHelp, Refuses}
use Rattle.vsm_explain.specs.Questions.{Said}
use Rattle.vsm_explain.specs.Words.{asked_words}

-- ---- what a command takes

abbrev pub flag : Text → Rule
flag name = record (new_rule name) { long = Some name; action = Some SetTrue }

abbrev pub valued : Text → Rule
valued name = record (new_rule name) { long = Some name; value_names = 1 }

abbrev pub operand : Text → Rule
operand name = record (new_rule name) { value_names = 1 }

abbrev pub needed : Text → Rule
needed name = record (new_rule name) { required = true }

-- a command: its name, and its options and operands in order
pub record CommandRules : Type 0 where
  pub name : Text
  pub rules : List Rule

abbrev pub check_form : CommandRules
check_form = record {
  name = codes "check";
  rules = flag (codes "leaks") ∷ flag (codes "json") ∷ operand (codes "FILE") ∷ [];
}

abbrev pub list_form : CommandRules
list_form = record {
  name = codes "list";
  rules = flag (codes "check") ∷ flag (codes "refused") ∷ flag (codes "json") ∷ operand (codes "FILE") ∷ [];
}

abbrev pub why_form : CommandRules
why_form = record {
  name = codes "why";
  rules = needed (codes "FILE") ∷ operand (codes "LINE") ∷ [];
}

abbrev pub report_form : CommandRules
report_form = record {
  name = codes "report";
  rules =
      flag (codes "over-time") ∷ flag (codes "areas") ∷ flag (codes "keeps") ∷ flag (codes "cells")
      ∷ valued (codes "pool") ∷ valued (codes "subpool") ∷ valued (codes "since") ∷ flag (codes "json")
      ∷ operand (codes "FILE") ∷ operand (codes "LINE") ∷ [];
}

abbrev pub who_form : CommandRules
who_form = record {
  name = codes "who";
  rules =
      valued (codes "register") ∷ valued (codes "name") ∷ valued (codes "subpool") ∷ flag (codes "oldest-first")
      ∷ flag (codes "json") ∷ operand (codes "FILE") ∷ operand (codes "ADDRESS") ∷ operand (codes "COUNT") ∷ [];
}

abbrev pub forms : List CommandRules
forms = check_form ∷ list_form ∷ why_form ∷ report_form ∷ who_form ∷ []

-- ---- the program

-- a command's own options follow those of a bench
abbrev pub app_in : Residences → CommandRules → App
app_in values form = fold with_rule (with_settings values (new_app form.name)) form.rules

abbrev pub IsShapeOf : CommandRules → Shape → Type 0
IsShapeOf form shape = (values : Residences) × AreResidences values × (shape ≡ (app_in values form).top)

abbrev pub AreShapesOf : List CommandRules → List Shape → Type 0
AreShapesOf [] [] = Unit {0}
AreShapesOf (form ∷ forms) (shape ∷ shapes) = IsShapeOf form shape × AreShapesOf forms shapes
AreShapesOf _ _ = ⊥

-- one of the commands has to be named, and none of them is for help
abbrev pub program : Shape
program = record (new_shape (codes "vsm-explain")) {
  has_version = true;
  subcommand_required = true;
  disable_help_subcommand = true;
}

pub record IsCommandLine (app : App) : Type 0 where
  pub top : app.top ≡ record program { is_leaf = false }
  pub commands : AreShapesOf forms app.subs

-- ---- the code's tables

abbrev pub rule_by : WordKind → Text → Rule
rule_by kind.Flag name = flag name
rule_by kind.Former name = flag name
rule_by (kind.Valued value) name = valued name
rule_by (kind.Operand value) name = operand name
rule_by kind.File name = needed name

abbrev pub rule_in : WordRow → Rule
rule_in row = rule_by row.kind row.name.now

abbrev pub form_in : CommandForm → CommandRules
form_in form = record { name = form.name.now; rules = map rule_in form.rows.now }

-- ---- what is read

-- the first value of an argument
abbrev pub said_by : List Row → Said
said_by rows name = first_of name rows

abbrev pub said_of : ArgMatches → Said
said_of m = said_by (rows_of (found_of m))

-- The words name a command, and what was read is what they give to it; or the kind of the error is what they ask for,
-- or memory ran out.
abbrev pub GivesTo : Text × List Row → Text × Asked → Type 0
GivesTo read asked = (read.0 ≡ asked.0) × Gives read.1 asked.1

abbrev pub Reads : List Text → Result ArgMatches Error → Type 0
Reads words (Ok m) = IsSomeAnd (subcommand_rows_of m) (λ read. GivesTo read (asked_words words))
Reads words (Err e) = (kind_of e ≡ error.OutOfMemory) ⊎ IsKindOf (kind_of e) (asked_words words).1

-- The answer to words that gave an error of this kind.
module _ {O E : Type 0} (said : E → E → List ℕ → Bool → Type 0) (output later : O) (told : E) (code : ℕ) where
  abbrev pub AnswersKind : ErrorKind → Type 0
  AnswersKind error.DisplayHelp = IsHelp said output later told code
  AnswersKind error.DisplayVersion = IsHelp said output later told code
  AnswersKind error.OutOfMemory = Refuses said output later told code fault.Memory
  AnswersKind _ = (later ≡ output) × (code ≡ 16)
