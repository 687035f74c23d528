-- What the program does is what its arguments ask for.
use Rattle.std.proofs.Common.{◌≡◌, ◌⊎◌, ℕ, Bool, List, Option, Some, None, sym, subst, true, true≢false}
use Rattle.std.specs.Prelude.{IfSome, IsSomeAnd}
use Rattle.clap.specs.Words.{Row, Text}
use Rattle.clap.specs.declared.error.ErrorKind.{ErrorKind}
use Rattle.clap.specs.declared.error.ErrorKind.TheVariants as kind
use Rattle.vsm_bench.specs.Options.{IsKindOf, is_wrong}
use Rattle.vsm_bench.specs.Settings.{settings_asked}
use Rattle.vsm_bench.specs.Words.{Asked, given, help, run, settings_in, version, wrong}
use Rattle.vsm_bench.proofs.Asked.{settings_are}
use Rattle.vsm_bench.proofs.WordsRead.{first_is}
use Rattle.vsm_explain.specs.Command.{Answers, Obeys}
use Rattle.vsm_explain.specs.Options.{AnswersKind, GivesTo, said_by}

module _ {F I O E : Type 0} (opened : Text → Option F → Type 0) (unread : F → Option (List ℕ)) (remaining : I → Option (List ℕ)) (contents : O → Option (List ℕ))
    (said : E → E → List ℕ → Bool → Type 0) (input : I) (at_terminal : Bool) (output later : O) (told : E) (code : ℕ) where
  wrong_answer : (k : ErrorKind) → is_wrong k ≡ true → AnswersKind said output later told code k → (later ≡ output) × (code ≡ 16)
  wrong_answer kind.DisplayHelp bad answers = absurd (true≢false (sym bad))
  wrong_answer kind.DisplayVersion bad answers = absurd (true≢false (sym bad))
  wrong_answer kind.OutOfMemory bad answers = absurd (true≢false (sym bad))
  wrong_answer _ bad answers = answers

  -- the answer to words that ask for no command
  pub answers_kind : (what : Text × Asked) (k : ErrorKind) → IsKindOf k what.1 → AnswersKind said output later told code k
      → Answers opened unread remaining contents said input at_terminal output later told code what
  answers_kind (command, help) k is answers = subst (AnswersKind said output later told code) is answers
  answers_kind (command, version) k is answers = subst (AnswersKind said output later told code) is answers
  answers_kind (command, wrong) k is answers = wrong_answer k is answers
  answers_kind (command, run uses) k is answers = absurd is

  abbrev ObeysRead : Text × List Row → Type 0
  ObeysRead read = Obeys opened unread remaining contents said input at_terminal output later told code read.0 (said_by read.1) (settings_asked read.1)

  -- a command obeys what its words give
  obeys_given : (what : Text × Asked) (read : Text × List Row) → GivesTo read what → ObeysRead read
      → Answers opened unread remaining contents said input at_terminal output later told code what
  obeys_given (command, run uses) read is obeys =
      let same : said_by read.1 ≡ (λ name. given name uses) = λ i name. first_is name read.1 uses is.1 i in
      subst (λ name. Obeys opened unread remaining contents said input at_terminal output later told code name (λ word. given word uses) (settings_in uses)) is.0
      (subst (λ its. Obeys opened unread remaining contents said input at_terminal output later told code read.0 its (settings_in uses)) same
      (subst (λ settings. Obeys opened unread remaining contents said input at_terminal output later told code read.0 (said_by read.1) settings) (settings_are read.1 uses is.1) obeys))
  obeys_given (command, help) read is obeys = absurd is.1
  obeys_given (command, version) read is obeys = absurd is.1
  obeys_given (command, wrong) read is obeys = absurd is.1

  -- of the command that was read, this holds
  pub obeys_if : (o : Option (Text × List Row)) (what : Text × Asked) (P : Text × List Row → Type 0) → IsSomeAnd o (λ read. GivesTo read what) → IfSome o P
      → ((read : Text × List Row) → P read → ObeysRead read) → Answers opened unread remaining contents said input at_terminal output later told code what
  obeys_if None what P is holds leads = absurd is
  obeys_if (Some read) what P is holds leads = obeys_given what read is (leads read holds)

pub some_if : {X : Type 0} (o : Option X) (P : X → Type 0) → IsSomeAnd o P → IfSome o P
some_if None P h = absurd h
some_if (Some x) P h = h
