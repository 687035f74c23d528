-- The answer of a statement, and what is written around the reasons.
use Rattle.std.specs.Prelude.{◌≡◌, ◌==◌, ◌⊎◌, ℕ, Bool, false, List, [], ◌∷◌, ◌++◌, codes, decimal, if◌then◌else◌, take}
use Rattle.std.specs.Prelude.{Option, Some, None}
use Rattle.std.specs.Io.KnownBytes.{Appends}
use Rattle.vsm_model.specs.declared.limits.Settings.{Settings}
use Rattle.bench_core.specs.Refusal.{Refusal}
use Rattle.bench_core.specs.Refusal.TheVariants as refusal
use Rattle.script_steps.specs.Output.{Marked}
use Rattle.script_steps.specs.Responses.{is_refused, response_text}
use Rattle.script_steps.specs.Taken.{Brings, Ended, Shows, Unended}
use Rattle.script_steps.specs.declared.responses.Response.{Response}
use Rattle.script_steps.specs.declared.responses.Response.TheVariants as response
use Rattle.text_output.specs.Writing.{Puts}
use Rattle.text_output.specs.declared.writing.Gathered.{Gathered}

-- ---- the texts

-- a line that was asked for goes on with the statement, if it isn't its first
abbrev pub goes_on_text : ℕ → ℕ → List ℕ
goes_on_text first line =
    if line == first then [] else codes " (line " ++ (decimal line ++ codes " goes on with it)")

-- the first words, by the statement's first line and the line that was asked for
abbrev pub first_text : ℕ → ℕ → List ℕ
first_text first line = codes "line " ++ (decimal first ++ (goes_on_text first line ++ codes ": "))

abbrev pub note_text : Refusal → List ℕ
note_text refusal.NoMemory =
    codes "  no rule refuses it: the program got no memory for it, and that's the only reason\n"
note_text _ = []

abbrev pub no_memory_text : Response → List ℕ
no_memory_text (response.Refused why) = note_text why
no_memory_text _ = []

-- the last words: the answer, in which these bytes are shown
abbrev pub answer_text : List ℕ → Option (ℕ × Response) → List ℕ
answer_text bytes None = codes "  answered: nothing\n"
answer_text bytes (Some told) =
    no_memory_text told.1 ++ (codes "  answered: " ++ (response_text bytes told.1 ++ codes "\n"))

abbrev pub tells_refusal : Option (ℕ × Response) → Bool
tells_refusal None = false
tells_refusal (Some told) = is_refused told.1

-- ---- the answer

-- These are the first answers of a script: to a prefix of it, or at its end.
abbrev pub AreFirstAnswers : Settings → List ℕ → List Marked → Type 0
AreFirstAnswers settings script answers =
    ((n : ℕ) × Unended settings (take n script) answers)
    ⊎ ((later : List Marked) × Ended settings script (answers ++ later))

-- After these answers a script gives this one next, in which these bytes are shown; or none, to its end.
abbrev pub IsNextAnswer : Settings → List ℕ → List Marked → Option (ℕ × Response) → List ℕ → Type 0
IsNextAnswer settings script before None bytes = Ended settings script before
IsNextAnswer settings script before (Some told) bytes =
    (m : Marked) × Brings settings before (m ∷ []) (Some told) × Shows settings before (m ∷ []) bytes
    × AreFirstAnswers settings script (before ++ m ∷ [])

-- This is the text of the next answer, and it's a refusal or isn't.
pub record IsAnswer (settings : Settings) (script : List ℕ) (before : List Marked) (text : List ℕ) (refused : Bool) :
    Type 0 where
  pub told : Option (ℕ × Response)
  pub bytes : List ℕ
  pub next : IsNextAnswer settings script before told bytes
  pub is : text ≡ answer_text bytes told
  pub status : refused ≡ tells_refusal told

-- The next answer's text follows all text before it.
abbrev pub PutsAnswer : Settings → List ℕ → List Marked → Option (List ℕ) → Option (List ℕ) → Gathered → Gathered → Bool
    → Type 0
PutsAnswer settings script answers old new before after refused =
    (text : List ℕ) × IsAnswer settings script answers text refused × Puts old new before after text

-- What is written begins with the line, and ends in the answer.
pub record WritesAnswer (settings : Settings) (script : List ℕ) (before : List Marked) (first line : ℕ)
    (old new : Option (List ℕ)) (refused : Bool) : Type 0 where
  pub reasons : List ℕ
  pub last : List ℕ
  pub answer : IsAnswer settings script before last refused
  pub written : Appends old new (first_text first line ++ (reasons ++ last))
