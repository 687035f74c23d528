-- What decided a refusal, as a check says it.
use Rattle.std.specs.Prelude.{◌≡◌, ◌==◌, ℕ, List, [], ◌∷◌, if◌then◌else◌, Option, Some, None, Result, Ok, Err}
use Rattle.macro_operands.specs.declared.faults.FaultKind.{FaultKind}
use Rattle.macro_statements.specs.Requests.{Asked, IsValidAsked}
use Rattle.vsm_model.specs.declared.limits.Settings.{Settings}
use Rattle.vsm_model.specs.Names.{NamedState}
use Rattle.bench_core.specs.Refusal.{Refusal}
use Rattle.bench_core.specs.Refusal.TheVariants as refusal
use Rattle.script_steps.specs.declared.responses.Response.{Response}
use Rattle.script_steps.specs.declared.responses.Response.TheVariants as response
use Rattle.operand_texts.specs.Words.{after_blanks}
use Rattle.explain_list.specs.Causes.{IsCauseText}
use Rattle.explain_check.specs.Lines.{Said}

-- The first line of a text, without the blanks before it.
abbrev pub up_to_feed : List ℕ → List ℕ
up_to_feed [] = []
up_to_feed (c ∷ cs) = if c == 10 then [] else c ∷ up_to_feed cs

abbrev pub first_line : List ℕ → List ℕ
first_line text = up_to_feed (after_blanks text)

-- Why an answer is refused, if it's no step past what is kept or undone.
abbrev pub why_in : Response → Option Refusal
why_in (response.Replied r) = None
why_in (response.Refused why) = Some why
why_in response.Shown = None
why_in (response.Kept n) = None
why_in (response.TooFar n) = None
why_in (response.TooFarAhead n) = None
why_in response.Map = None
why_in (response.Fault kind) = None

-- These words say what decided: for a completion code, the first line of what the first cause comes from.
abbrev pub IsReason : Settings → NamedState → Asked → Option Refusal → List ℕ → Type 0
IsReason settings m asked None words = Unit {0}
IsReason settings m asked (Some (refusal.Abend code)) words =
    (text : List ℕ) × (IsValidAsked asked → IsCauseText settings m asked text) × (words ≡ first_line text)
IsReason settings m asked (Some refusal.Name) words = Unit {0}
IsReason settings m asked (Some refusal.NoMemory) words = Unit {0}

-- What is said of an answer: that it's ABEND or REFUSED, and what decided; or nothing.
abbrev pub IsSaidOf : Settings → NamedState → Asked → Option (ℕ × Response) → List Said → Type 0
IsSaidOf settings m asked None said = said ≡ []
IsSaidOf settings m asked (Some r) said =
    (words : List ℕ) × IsReason settings m asked (why_in r.1) words
    × (said ≡ record { number = r.0; answer = r.1; words = words } ∷ [])

abbrev pub IsSaidTo : Settings → NamedState → Result Asked FaultKind → Option (ℕ × Response) → List Said → Type 0
IsSaidTo settings m (Ok asked) refused said = IsSaidOf settings m asked refused said
IsSaidTo settings m (Err kind) refused said = said ≡ []
