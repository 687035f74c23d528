-- What the arguments of a command line, its words, ask for.
use Rattle.std.specs.Prelude.{◌==◌, ◌&&◌, ◌||◌, ◌^◌, ◌++◌, ℕ, Bool, true, not, List, [], ◌∷◌, Option, Some, None, find}
use Rattle.std.specs.Prelude.{fold, if◌then◌else◌, codes, drop, nat_lt, option_map, slice_get}
use Rattle.std.specs.List.{after_first, before_first, list_all, list_any}
use Rattle.std.specs.Option.{option_map_or}
use Rattle.std.specs.Str.{bytes_eq, chars}
use Rattle.std.specs.Str.Parse.{digits_value, without_leading_plus}
use Rattle.vsm_model.specs.declared.limits.Settings.{Settings}
use Rattle.vsm_bench.specs.Settings.{is_numeral, settings_of}

-- ---- a word

-- `-` and a letter, with anything after it; `--`; `--name` or `--name=value`; and any other, such as `-`
pub data Form : Type 0 where
  letter : ℕ → Form
  dashes : Form
  named : List ℕ → Option (List ℕ) → Form
  plain : Form

-- by what follows two hyphens (`=` is 61)
abbrev pub long_form : List ℕ → Form
long_form [] = dashes
long_form (c ∷ cs) = named (before_first (λ x. x == 61) (c ∷ cs))
    (if list_any (λ x. x == 61) (c ∷ cs) then Some (after_first (λ x. x == 61) (c ∷ cs)) else None)

-- by what follows a hyphen (45); bytes that spell no character aren't a letter
abbrev pub hyphen_form : List ℕ → Form
hyphen_form [] = plain
hyphen_form (c ∷ cs) =
    if c == 45 then long_form cs else option_map_or letter (slice_get (chars (c ∷ cs)) 0) plain

abbrev pub form_of : List ℕ → Form
form_of [] = plain
form_of (c ∷ cs) = if c == 45 then hyphen_form cs else plain

-- ---- what is taken

-- An option takes no value, a number, 24 or 31, or any text.
pub data Takes : Type 0 where
  nothing : Takes
  number : Takes
  residence : Takes
  any : Takes

abbrev pub Options : Type 0
Options = List (List ℕ × Takes)

abbrev pub Operands : Type 0
Operands = List (List ℕ)

-- options, and operands in order, with those of them that have to be given; `--help` and perhaps `--version` too
pub record Syntax : Type 0 where
  pub options : Options
  pub operands : Operands
  pub needed : Operands
  pub has_version : Bool

abbrev pub is_in : List ℕ → List (List ℕ) → Bool
is_in word words = list_any (λ w. bytes_eq w word) words

-- a number of at most 64 bits
abbrev pub is_number : List ℕ → Bool
is_number word =
    let digits = without_leading_plus word in is_numeral digits && nat_lt (digits_value 10 digits) (2 ^ 64)

abbrev pub is_taken : Takes → List ℕ → Bool
is_taken number word = is_number word
is_taken residence word = is_in word (codes "24" ∷ codes "31" ∷ [])
is_taken _ word = true

-- ---- what the words give

-- names of options and operands with their values, in the order of the words
abbrev pub Uses : Type 0
Uses = List (List ℕ × List ℕ)

abbrev pub is_given : List ℕ → Uses → Bool
is_given name uses = list_any (λ pair. bytes_eq pair.0 name) uses

abbrev pub given : List ℕ → Uses → Option (List ℕ)
given name uses = option_map (λ pair. pair.1) (find (λ pair. bytes_eq pair.0 name) uses)

abbrev pub settings_in : Uses → Option Settings
settings_in uses = settings_of (given (codes "low") uses) (given (codes "high") uses)
    (given (codes "residence") uses) (given (codes "history") uses)

-- ---- the words in turn

-- a run with what the words give, or one of the others
pub data Asked : Type 0 where
  help : Asked
  version : Asked
  wrong : Asked
  run : Uses → Asked

-- The next word may be any; or is the value of an option; or is an operand, after `--`; or none is read. The operands
-- are those that can still be given.
pub data Progress : Type 0 where
  ready : Operands → Uses → Progress
  awaits : List ℕ → Takes → Operands → Uses → Progress
  operands : Operands → Uses → Progress
  ends : Asked → Progress

-- each option and operand is given at most once, with a value that it takes
abbrev pub with_use : List ℕ → Takes → List ℕ → Uses → (Uses → Progress) → Progress
with_use name what word uses next =
    if is_given name uses || not (is_taken what word) then ends wrong else next (uses ++ (name, word) ∷ [])

abbrev pub with_option : List ℕ → Takes → List ℕ → Operands → Uses → Progress
with_option name what word left uses = with_use name what word uses (ready left)

abbrev pub with_operand : (Operands → Uses → Progress) → List ℕ → Operands → Uses → Progress
with_operand next word [] uses = ends wrong
with_operand next word (name ∷ left) uses = with_use name any word uses (next left)

-- the option is followed by its value, or has it after `=`, or takes none
abbrev pub with_value : List ℕ → Takes → Option (List ℕ) → Operands → Uses → Progress
with_value name nothing None left uses = with_option name nothing (codes "true") left uses
with_value name nothing (Some word) left uses = ends wrong
with_value name what None left uses = awaits name what left uses
with_value name what (Some word) left uses = with_option name what word left uses

-- the value of an option doesn't look like another option
abbrev pub after_value : Form → List ℕ → List ℕ → Takes → Operands → Uses → Progress
after_value plain word name what left uses = with_option name what word left uses
after_value _ word name what left uses = ends wrong

-- an option that takes nothing is 'false' if it isn't given
abbrev pub with_default : Uses → List ℕ × Takes → Uses
with_default uses (name, nothing) = if is_given name uses then uses else uses ++ (name, codes "false") ∷ []
with_default uses _ = uses

module _ (syntax : Syntax) where
  abbrev pub takes : List ℕ → Option Takes
  takes name = option_map (λ option. option.1) (find (λ option. bytes_eq option.0 name) syntax.options)

  abbrev pub asked_for : Bool → Bool → Progress
  asked_for is_help is_version = if is_help then ends help
      else (if syntax.has_version && is_version then ends version else ends wrong)

  -- no option
  abbrev pub requested : List ℕ → Option (List ℕ) → Progress
  requested name None = asked_for (bytes_eq (codes "help") name) (bytes_eq (codes "version") name)
  requested name (Some word) = ends wrong

  abbrev pub after_name : Option Takes → List ℕ → Option (List ℕ) → Operands → Uses → Progress
  after_name (Some what) name word left uses = with_value name what word left uses
  after_name None name word left uses = requested name word

  -- `-h` (104) and `-V` (86)
  abbrev pub after_form : Form → List ℕ → Operands → Uses → Progress
  after_form (letter x) word left uses = asked_for (104 == x) (86 == x)
  after_form dashes word left uses = operands left uses
  after_form (named name value) word left uses = after_name (takes name) name value left uses
  after_form plain word left uses = with_operand ready word left uses

  abbrev pub after_word : Progress → List ℕ → Progress
  after_word (ready left uses) word = after_form (form_of word) word left uses
  after_word (awaits name what left uses) word = after_value (form_of word) word name what left uses
  after_word (operands left uses) word = with_operand operands word left uses
  after_word (ends what) word = ends what

  abbrev pub whole : Uses → Asked
  whole uses = if list_all (λ name. is_given name uses) syntax.needed then run (fold with_default uses syntax.options)
      else wrong

  abbrev pub asked_at : Progress → Asked
  asked_at (ready left uses) = whole uses
  asked_at (awaits name what left uses) = wrong
  asked_at (operands left uses) = whole uses
  asked_at (ends what) = what

  -- what all the words ask for
  abbrev pub asked : List (List ℕ) → Asked
  asked words = asked_at (fold after_word (ready syntax.operands []) words)

-- ---- the program

-- the four options of a bench
abbrev pub settings_options : Options
settings_options =
    (codes "low", number) ∷ (codes "high", number) ∷ (codes "residence", residence) ∷ (codes "history", number) ∷ []

abbrev pub bench_syntax : Syntax
bench_syntax = record { options = settings_options; operands = codes "FILE" ∷ []; needed = []; has_version = true }

-- the first word is the program's name
abbrev pub asked_words : List (List ℕ) → Asked
asked_words words = asked bench_syntax (drop 1 words)
