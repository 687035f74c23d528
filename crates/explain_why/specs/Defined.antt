-- Which lines defined a name, and took that back.
use Rattle.std.specs.Prelude.{◌≡◌, ℕ, Bool, true, false, not, List, [], ◌∷◌, ◌++◌, take}
use Rattle.std.specs.Prelude.{Option, Some, is_some}
use Rattle.vsm_model.specs.declared.limits.Settings.{Settings}
use Rattle.vsm_model.specs.Names.{NamedState, word_of}
use Rattle.vsm_model.specs.Standing.{nothing_stands}
use Rattle.macro_operands.specs.Requests.{asked_in}
use Rattle.script_steps.specs.Output.{Marked, alone_now, stands_all}
use Rattle.script_steps.specs.Taken.{Unended}
use Rattle.explain_why.specs.Undefined.{first_undefined, values_asked}
use Rattle.explain_why.specs.declared.ahead.NextStatement as ahead
use Rattle.explain_why.specs.declared.ahead.NextStatement.TheVariants as variant
use Rattle.explain_why.specs.declared.definitions.Definition.{Definition}
use Rattle.explain_why.specs.declared.definitions.Definition.TheVariants as definition

-- the word of a name in the state of the statements that are in effect after some answers, run alone
abbrev pub word_after : Settings → List ℕ → List Marked → Option ℕ
word_after settings name answers = word_of (alone_now settings (stands_all settings nothing_stands answers)).names name

-- One of these answers, that of a line, turns a name: it's defined after it and wasn't before, or the reverse.
pub record IsTurned (settings : Settings) (name : List ℕ) (answers : List Marked) (line : ℕ) (defined : Bool) :
    Type 0 where
  pub before : List Marked
  pub its : Marked
  pub behind : List Marked
  pub split : answers ≡ before ++ (its ∷ behind)
  pub number : its.answer.line ≡ line
  pub was : is_some (word_after settings name before) ≡ not defined
  pub is : is_some (word_after settings name (before ++ its ∷ [])) ≡ defined

-- The lines of a definition, if it has some, are those of answers that made it and took it back.
abbrev pub AreItsLines : Settings → List ℕ → List Marked → Definition → Type 0
AreItsLines settings name answers definition.Missing = Unit {0}
AreItsLines settings name answers (definition.Made line) = IsTurned settings name answers line true
AreItsLines settings name answers (definition.Undone line back steps) =
    IsTurned settings name answers line true × IsTurned settings name answers back false
AreItsLines settings name answers (definition.Discarded line back by) =
    IsTurned settings name answers line true × IsTurned settings name answers back false

-- After none of these answers is the name defined.
abbrev pub IsNeverDefined : Settings → List ℕ → List Marked → Type 0
IsNeverDefined settings name answers = (n : ℕ) → is_some (word_after settings name (take n answers)) ≡ false

-- whether a definition was made and not taken back
abbrev pub is_made : Definition → Bool
is_made definition.Missing = false
is_made (definition.Made line) = true
is_made (definition.Undone line back steps) = false
is_made (definition.Discarded line back by) = false

-- The lines of a definition are those; it was made and not taken back exactly if the name is defined after all of the
-- answers, and it's missing only if the name was never defined.
pub record IsDefinition (settings : Settings) (name : List ℕ) (answers : List Marked) (its : Definition) : Type 0 where
  pub lines : AreItsLines settings name answers its
  pub now : is_some (word_after settings name answers) ≡ is_made its
  pub missing : its ≡ definition.Missing → IsNeverDefined settings name answers

-- So is it for the answers of all of these lines of a script.
abbrev pub IsDefinitionIn : Settings → List ℕ → List ℕ → Definition → Type 0
IsDefinitionIn settings name script its =
    (answers : List Marked) × Unended settings script answers × IsDefinition settings name answers its

-- An answer of a line turns a name, which is as it was turned after all of the answers.
abbrev pub IsNowTurned : Settings → List ℕ → List Marked → ℕ → Bool → Type 0
IsNowTurned settings name answers line defined =
    IsTurned settings name answers line defined × (is_some (word_after settings name answers) ≡ defined)

-- Of a request, this is what became of the definition of the first name in its values that isn't defined in a state.
abbrev pub IsItsDefinition : Settings → NamedState → List ℕ → ahead.NextStatement → Definition → Type 0
IsItsDefinition settings m script (variant.Request request) its =
    (name : List ℕ) → first_undefined m (values_asked (asked_in request)) ≡ Some name
    → IsDefinitionIn settings name script its
IsItsDefinition settings m script _ its = Unit {0}
