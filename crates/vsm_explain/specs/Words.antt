-- What the arguments of the command line ask for.
use Rattle.std.specs.Prelude.{ℕ, true, false, List, [], ◌∷◌, ◌++◌, codes, drop, find, Option, Some, None}
use Rattle.std.specs.Str.{bytes_eq}
use Rattle.vsm_bench.specs.Words.{Asked, Syntax, any, asked, nothing, settings_options}

-- ---- the commands, each of which takes the options of a bench too

abbrev pub check_syntax : Syntax
check_syntax = record {
  options = settings_options ++ (codes "leaks", nothing) ∷ (codes "json", nothing) ∷ [];
  operands = codes "FILE" ∷ [];
  needed = [];
  has_version = false;
}

abbrev pub list_syntax : Syntax
list_syntax = record {
  options =
      settings_options ++ (codes "check", nothing) ∷ (codes "refused", nothing) ∷ (codes "json", nothing) ∷ [];
  operands = codes "FILE" ∷ [];
  needed = [];
  has_version = false;
}

abbrev pub why_syntax : Syntax
why_syntax = record {
  options = settings_options;
  operands = codes "FILE" ∷ codes "LINE" ∷ [];
  needed = codes "FILE" ∷ [];
  has_version = false;
}

abbrev pub report_syntax : Syntax
report_syntax = record {
  options =
      settings_options ++ (codes "over-time", nothing) ∷ (codes "areas", nothing) ∷ (codes "keeps", nothing)
      ∷ (codes "cells", nothing) ∷ (codes "pool", any) ∷ (codes "subpool", any) ∷ (codes "since", any)
      ∷ (codes "json", nothing) ∷ [];
  operands = codes "FILE" ∷ codes "LINE" ∷ [];
  needed = [];
  has_version = false;
}

abbrev pub who_syntax : Syntax
who_syntax = record {
  options =
      settings_options ++ (codes "register", any) ∷ (codes "name", any) ∷ (codes "subpool", any)
      ∷ (codes "oldest-first", nothing) ∷ (codes "json", nothing) ∷ [];
  operands = codes "FILE" ∷ codes "ADDRESS" ∷ codes "COUNT" ∷ [];
  needed = [];
  has_version = false;
}

abbrev pub commands : List (List ℕ × Syntax)
commands =
    (codes "check", check_syntax) ∷ (codes "list", list_syntax) ∷ (codes "why", why_syntax)
    ∷ (codes "report", report_syntax) ∷ (codes "who", who_syntax) ∷ []

-- ---- the program

-- without a command, only help or the version can be asked for
abbrev pub no_command : Syntax
no_command = record { options = []; operands = []; needed = codes "COMMAND" ∷ []; has_version = true }

abbrev pub asked_by : Option (List ℕ × Syntax) → List ℕ → List (List ℕ) → List ℕ × Asked
asked_by (Some command) word words = (command.0, asked command.1 words)
asked_by None word words = ([], asked no_command (word ∷ words))

-- what is asked for, and of which command
abbrev pub asked_of : List (List ℕ) → List ℕ × Asked
asked_of [] = ([], asked no_command [])
asked_of (word ∷ words) = asked_by (find (λ command. bytes_eq command.0 word) commands) word words

-- the first word is the program's name
abbrev pub asked_words : List (List ℕ) → List ℕ × Asked
asked_words words = asked_of (drop 1 words)
