-- The text of the first cause of a statement that ends with a completion code, in the object of its answer.
use Rattle.std.specs.Prelude.{◌≡◌, ◌==◌, ◌||◌, ℕ, Bool, false, List, [], ◌∷◌, ◌++◌, codes, if◌then◌else◌, Some}
use Rattle.vsm_model.specs.declared.causes.Cause.{Cause}
use Rattle.vsm_model.specs.declared.limits.Settings.{Settings}
use Rattle.vsm_model.specs.Causes.{first_cause}
use Rattle.vsm_model.specs.Names.{NamedState, is_one_too_many}
use Rattle.vsm_model.specs.Services.{Service}
use Rattle.vsm_model.specs.Step.{causes}
use Rattle.macro_statements.specs.Requests.{Act, Asked, Written, act, peek}
use Rattle.vsm_machine.specs.Causes.{is_conditional_get}
use Rattle.vsm_machine.specs.Machine.{looked_up, name_asked, service_asked}
use Rattle.bench_core.specs.Refusal.TheVariants as refusal
use Rattle.explain_text.specs.Json.{bytes_in, json_name}
use Rattle.explain_text.specs.declared.json.Form.TheVariants as form
use Rattle.script_steps.specs.declared.responses.Response.{Response}
use Rattle.script_steps.specs.declared.responses.Response.TheVariants as response
use Rattle.explain_reasons.specs.Pages.{pages_text}
use Rattle.explain_reasons.specs.Told.{IsTold}
use Rattle.explain_list.specs.declared.causes.Joint.{Joint}
use Rattle.explain_list.specs.declared.causes.Joint.TheVariants as joint

-- ---- the lines of a text as one line, by where a byte is: before all text, before the text of a further line, or
-- within a line

-- line feeds and the blanks that a line begins with are left out,
abbrev pub is_left_out : Joint → ℕ → Bool
is_left_out joint.First c = (c == 32) || (c == 10)
is_left_out joint.Line c = (c == 32) || (c == 10)
is_left_out joint.Within c = c == 10

-- and a semicolon and a blank are put before the text of a further line
abbrev pub separator : Joint → List ℕ
separator joint.First = []
separator joint.Line = codes "; "
separator joint.Within = []

abbrev pub after_gap : Joint → Joint
after_gap joint.First = joint.First
after_gap joint.Line = joint.Line
after_gap joint.Within = joint.Line

abbrev pub joint_after : Joint → ℕ → Joint
joint_after j c = if is_left_out j c then after_gap j else joint.Within

abbrev pub joint_text : Joint → ℕ → List ℕ
joint_text j c = if is_left_out j c then [] else separator j ++ bytes_in form.Json (c ∷ [])

abbrev pub joined : Joint → List ℕ → List ℕ
joined j [] = []
joined j (c ∷ cs) = joint_text j c ++ joined (joint_after j c) cs

abbrev pub cause_field : List ℕ → List ℕ
cause_field text =
    json_name (codes "cause") ++ (codes "\"" ++ (joined joint.First text ++ codes "\""))

-- ---- the text

-- It says what the first cause of a statement in this state comes from, if it has one and is no conditional GET;
abbrev pub IsActCause : Settings → NamedState → Act → List ℕ → Type 0
IsActCause settings m x text =
    (service : Service) (cause : Cause) → service_asked m x ≡ Some service → is_conditional_get service ≡ false
    → first_cause (causes settings (is_one_too_many m.names (name_asked x)) m.storage service) ≡ Some cause
    → IsTold settings m.storage service cause text

-- or whose the pages of the bytes of a reading are;
abbrev pub IsReadingCause : NamedState → Written → ℕ → List ℕ → Type 0
IsReadingCause m address count text =
    (word : ℕ) → looked_up m address ≡ Some word → text ≡ pages_text m.storage word count

abbrev pub IsCauseText : Settings → NamedState → Asked → List ℕ → Type 0
IsCauseText settings m (act x) text = IsActCause settings m x text
IsCauseText settings m (peek address count) text = IsReadingCause m address count text
IsCauseText settings m _ text = Unit {0}

-- A statement that ends with a completion code, and no other, has a cause in its answer's object.
abbrev pub IsCauseFor : Settings → NamedState → Asked → Response → List ℕ → Type 0
IsCauseFor settings m asked (response.Refused (refusal.Abend code)) text = IsCauseText settings m asked text
IsCauseFor settings m asked _ text = Unit {0}

abbrev pub cause_in : Response → List ℕ → List ℕ
cause_in (response.Refused (refusal.Abend code)) text = cause_field text
cause_in (response.Refused refusal.Name) text = []
cause_in (response.Refused refusal.NoMemory) text = []
cause_in (response.Replied r) text = []
cause_in response.Shown text = []
cause_in (response.Kept n) text = []
cause_in (response.TooFar n) text = []
cause_in (response.TooFarAhead n) text = []
cause_in response.Map text = []
cause_in (response.Fault k) text = []
