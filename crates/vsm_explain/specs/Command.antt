-- What the program does with its arguments, its script and its output.
use Rattle.std.specs.Prelude.{◌≡◌, ◌⊎◌, ℕ, Bool, List, Option, Result, Err}
use Rattle.vsm_model.specs.declared.limits.Settings.{Settings}
use Rattle.vsm_bench.specs.Words.{Asked, given, help, run, settings_in, version, wrong}
use Rattle.vsm_explain.specs.Questions.{Asks, IsWrong, Said}
use Rattle.vsm_explain.specs.declared.questions.Asking.{Asking}
use Rattle.vsm_explain.specs.declared.questions.Question.{Question}
use Rattle.vsm_explain.specs.declared.questions.Question.TheVariants as question
use Rattle.vsm_explain.specs.declared.refusals.WordRefusal.{WordRefusal}
use Rattle.vsm_explain.specs.Answers.{IsAnswered}
use Rattle.vsm_explain.specs.Messages.{EndsIn, Reports, fault_end}
use Rattle.vsm_explain.specs.Scripts.{HasNoScript, IsScriptOf, file_in, is_listing, name_in, path_in}
use Rattle.vsm_explain.specs.Status.{IsWordless, fault_status, status}
use Rattle.vsm_explain.specs.Words.{asked_words}
use Rattle.vsm_explain.specs.declared.faults.CommandFault.{CommandFault}
use Rattle.vsm_explain.specs.declared.faults.CommandFault.TheVariants as fault

-- `contents` says what an output holds; the input may be a terminal.
module _ {F I O : Type 0} (opened : List ℕ → Option F → Type 0) (unread : F → Option (List ℕ))
    (remaining : I → Option (List ℕ)) (contents : O → Option (List ℕ)) (input : I) (at_terminal : Bool)
    (output later : O) where
  -- No script is there to be explained, and nothing is written; or the question about it is answered. Of an answer's
  -- meaning only the status is known.
  abbrev pub Concludes : Asking → Question → Result Bool CommandFault → Type 0
  Concludes asking (question.Code first second) outcome = IsWordless (status outcome)
  Concludes asking _ outcome =
      ((fault : CommandFault) × (outcome ≡ Err fault) × (later ≡ output)
      × HasNoScript opened unread remaining input at_terminal asking fault)
      ⊎ ((script : List ℕ)
      × IsScriptOf opened unread remaining input (is_listing asking.question) (path_in (file_in asking)) script
      × IsAnswered asking.settings script (name_in (path_in (file_in asking))) asking.form asking.question
      (contents output) (contents later) (status outcome))

-- By `said` what is said to standard error is known, which is `told` at last.
module _ {O E : Type 0} (said : E → E → List ℕ → Bool → Type 0) (output later : O) (told : E) (code : ℕ) where
  -- Nothing is written because of this fault, which is said.
  abbrev pub Refuses : CommandFault → Type 0
  Refuses its = (later ≡ output) × (code ≡ fault_status its) × EndsIn said told (fault_end its)

  -- help or the version, or it can't be written
  abbrev pub IsHelp : Type 0
  IsHelp = (code ≡ 0) ⊎ ((code ≡ 8) × EndsIn said told (fault_end fault.Write))

module _ {F I O E : Type 0} (opened : List ℕ → Option F → Type 0) (unread : F → Option (List ℕ))
    (remaining : I → Option (List ℕ)) (contents : O → Option (List ℕ)) (said : E → E → List ℕ → Bool → Type 0)
    (input : I) (at_terminal : Bool) (output later : O) (told : E) (code : ℕ) where
  -- The arguments of a command are wrong, and nothing is written; or what they ask is answered.
  abbrev pub Obeys : List ℕ → Said → Option Settings → Type 0
  Obeys command its settings =
      ((refusal : WordRefusal) × IsWrong command its settings refusal
      × Refuses said output later told code (fault.Words refusal))
      ⊎ ((asking : Asking) × Asks command its settings asking × (outcome : Result Bool CommandFault)
      × Concludes opened unread remaining contents input at_terminal output later asking asking.question outcome
      × (code ≡ status outcome) × Reports said told outcome)

  -- help, the version, what a command does with what its words give, or status 16 if the words are wrong
  abbrev pub Answers : List ℕ × Asked → Type 0
  Answers (command, help) = IsHelp said output later told code
  Answers (command, version) = IsHelp said output later told code
  Answers (command, wrong) = (later ≡ output) × (code ≡ 16)
  Answers (command, run uses) = Obeys command (λ name. given name uses) (settings_in uses)

  -- or memory runs out while the words are read
  abbrev pub Does : List (List ℕ) → Type 0
  Does words = Refuses said output later told code fault.Memory ⊎ Answers (asked_words words)
