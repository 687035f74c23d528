-- What is said of the first cause of a statement, and of other requests.
use Rattle.std.specs.Prelude.{◌≡◌, ◌==◌, ℕ, false, List, [], ◌∷◌, ◌++◌, codes, if◌then◌else◌, Option, Some, None}
use Rattle.std.specs.Fmt.{decimal}
use Rattle.vsm_model.specs.declared.causes.Cause.{Cause}
use Rattle.vsm_model.specs.declared.limits.Settings.{Settings}
use Rattle.vsm_model.specs.Names.{NamedState, is_one_too_many}
use Rattle.vsm_model.specs.declared.services.Obtain.{Obtain}
use Rattle.vsm_model.specs.Areas.{Place}
use Rattle.vsm_model.specs.Causes.{first_cause}
use Rattle.vsm_model.specs.Obtaining.{longest, place_for}
use Rattle.vsm_model.specs.Services.{Service, obtain}
use Rattle.vsm_model.specs.State.{State}
use Rattle.vsm_model.specs.Step.{causes}
use Rattle.macro_statements.specs.Requests.{Act, Asked, Written, act, asked_in, back, forward, map_asked, peek}
use Rattle.macro_statements.specs.Requests.{IsValidAct, IsValue}
use Rattle.vsm_machine.specs.Causes.{is_conditional_get}
use Rattle.vsm_machine.specs.Machine.{looked_up, name_asked, service_asked}
use Rattle.text_output.specs.Writing.{Puts}
use Rattle.text_output.specs.declared.writing.Gathered.{Gathered}
use Rattle.explain_reasons.specs.Pages.{pages_text}
use Rattle.explain_text.specs.Pieces.{line}
use Rattle.explain_reasons.specs.ToldPlaces.{PutsEnding, found_text}
use Rattle.explain_reasons.specs.Told.{IsTold}
use Rattle.explain_why.specs.declared.ahead.NextStatement as ahead
use Rattle.explain_why.specs.declared.ahead.NextStatement.TheVariants as variant

-- Such a text is the end of what follows all text before it.
abbrev pub EndsInOne : (List ℕ → Type 0) → Option (List ℕ) → Option (List ℕ) → Gathered → Gathered → Type 0
EndsInOne is old new before after = (text : List ℕ) × is text × PutsEnding old new before after text

-- If a statement in a state has a first cause by the definitions, why it's refused there or, except for a conditional
-- GET, answered 4, what is put ends in the text of that cause.
abbrev pub TellsFirstCause : Settings → NamedState → Act → Option (List ℕ) → Option (List ℕ) → Gathered → Gathered
    → Type 0
TellsFirstCause settings m x old new before after =
    (service : Service) (cause : Cause) → service_asked m x ≡ Some service → is_conditional_get service ≡ false
    → first_cause (causes settings (is_one_too_many m.names (name_asked x)) m.storage service) ≡ Some cause
    → EndsInOne (IsTold settings m.storage service cause) old new before after

-- The place that the plain machine gives to the area of a request: of the most doublewords that have one.
abbrev pub IsItsPlace : Settings → State → Obtain → Place → Type 0
IsItsPlace settings s o its =
    (count : ℕ) × (longest settings s o ≡ Some count) × (its ≡ place_for settings s o count)

-- A text that follows all text before it ends in that place.
abbrev pub TellsItsPlace : Settings → State → Obtain → Option (List ℕ) → Option (List ℕ) → Gathered → Gathered → Type 0
TellsItsPlace settings s o old new before after =
    (its : Place) × IsItsPlace settings s o its × PutsEnding old new before after (found_text its)

-- Of an obtain without a cause what is put ends in the place of its area.
abbrev pub TellsArea : Settings → NamedState → Act → Option (List ℕ) → Option (List ℕ) → Gathered → Gathered → Type 0
TellsArea settings m x old new before after =
    (o : Obtain) → service_asked m x ≡ Some (obtain o)
    → first_cause (causes settings (is_one_too_many m.names (name_asked x)) m.storage (obtain o)) ≡ None
    → TellsItsPlace settings m.storage o old new before after

pub record TellsAct (settings : Settings) (m : NamedState) (x : Act) (old new : Option (List ℕ))
    (before after : Gathered) : Type 0 where
  pub cause : TellsFirstCause settings m x old new before after
  pub area : TellsArea settings m x old new before after

-- Such a text is among what follows all text before it.
abbrev pub PutsAmong : (List ℕ → Type 0) → Option (List ℕ) → Option (List ℕ) → Gathered → Gathered → Type 0
PutsAmong is old new before after =
    (text : List ℕ) × is text
    × ((front : List ℕ) × (rest : List ℕ) × Puts old new before after (front ++ (text ++ rest)))

-- how many changes a step can go over, with the words for one and for several
abbrev pub step_text : ℕ → List ℕ → List ℕ → List ℕ
step_text n one more = line (decimal n ∷ (if n == 1 then one else more) ∷ [])

abbrev pub kept_text : ℕ → List ℕ
kept_text kept = step_text kept (codes " change is kept") (codes " changes are kept")

abbrev pub undone_text : ℕ → List ℕ
undone_text undone = step_text undone (codes " change is undone") (codes " changes are undone")

-- Of a reading of bytes at an address that can be written: whose their pages are.
abbrev pub TellsReading : NamedState → Written → ℕ → Option (List ℕ) → Option (List ℕ) → Gathered → Gathered → Type 0
TellsReading m address count old new before after =
    (word : ℕ) → IsValue address → looked_up m address ≡ Some word
    → PutsAmong (λ text. text ≡ pages_text m.storage word count) old new before after

-- Of a request: of a statement which can be written; of a reading; of a step back or forward how many changes it can go
-- over. Of a map nothing is said here.
abbrev pub TellsRequest : Settings → NamedState → ℕ → ℕ → Asked → Option (List ℕ) → Option (List ℕ) → Gathered
    → Gathered → Type 0
TellsRequest settings m kept undone (act x) old new before after =
    IsValidAct x → TellsAct settings m x old new before after
TellsRequest settings m kept undone (peek address count) old new before after =
    TellsReading m address count old new before after
TellsRequest settings m kept undone (back n) old new before after =
    PutsAmong (λ text. text ≡ kept_text kept) old new before after
TellsRequest settings m kept undone (forward n) old new before after =
    PutsAmong (λ text. text ≡ undone_text undone) old new before after
TellsRequest settings m kept undone map_asked old new before after = Unit {0}

-- The same of what the lines from a place on ask for.
abbrev pub TellsAhead : Settings → NamedState → ℕ → ℕ → ahead.NextStatement → Option (List ℕ) → Option (List ℕ)
    → Gathered → Gathered → Type 0
TellsAhead settings m kept undone (variant.Request request) old new before after =
    TellsRequest settings m kept undone (asked_in request) old new before after
TellsAhead settings m kept undone _ old new before after = Unit {0}

-- Some text follows all text before it, and begins with this one.
abbrev pub PutsBeginning : Option (List ℕ) → Option (List ℕ) → Gathered → Gathered → List ℕ → Type 0
PutsBeginning old new before after first = (rest : List ℕ) × Puts old new before after (first ++ rest)
