-- What is said of an answer that isn't written: it's no refusal.
use Rattle.std.proofs.Common.{◌≡◌, ℕ, Bool, true, false, not, ◌||◌, [], Option, Some, None, refl}
use Rattle.explain_text.specs.declared.json.Form.{Form}
use Rattle.explain_text.specs.declared.json.Form.TheVariants as form
use Rattle.macro_statements.specs.Requests.{Asked}
use Rattle.vsm_model.specs.declared.limits.Settings.{Settings}
use Rattle.vsm_model.specs.Names.{NamedState}
use Rattle.script_steps.specs.Responses.{is_refused}
use Rattle.script_steps.specs.declared.responses.Response.{Response}
use Rattle.script_steps.specs.declared.responses.Response.TheVariants as response
use Rattle.explain_list.specs.Answers.{AreNotes, AreNotesOf, name_given, pool_made}
use Rattle.explain_list.specs.Causes.{IsCauseFor}
use Rattle.explain_list.specs.Listing.{is_written}
use Rattle.explain_list.specs.Pages.{fault_answered, fault_told}
use Rattle.explain_list.specs.declared.layouts.Layout.{Layout}

second_false : (a b : Bool) → (a || b) ≡ false → b ≡ false
second_false true b is = cc
second_false false b is = is

no_cause : (settings : Settings) (m : NamedState) (x : Asked) (told : Response) → is_refused told ≡ false → IsCauseFor settings m x told []
no_cause settings m x (response.Replied r) is = tt
no_cause settings m x (response.Refused r) is = cc
no_cause settings m x response.Shown is = tt
no_cause settings m x (response.Kept k) is = tt
no_cause settings m x (response.TooFar k) is = tt
no_cause settings m x (response.TooFarAhead k) is = tt
no_cause settings m x response.Map is = tt
no_cause settings m x (response.Fault k) is = tt

no_notes : (f : Form) (settings : Settings) (m : NamedState) (x : Asked) (told : Response) → is_refused told ≡ false
    → AreNotes f settings m x told (record { cause = []; name = name_given x; pool = pool_made x })
no_notes form.Text settings m x told is = tt
no_notes form.Json settings m x told is = (refl, refl, no_cause settings m x told is)

-- nor a fault
no_fault : (told : Response) → is_refused told ≡ false → fault_answered told ≡ None
no_fault (response.Replied r) is = refl
no_fault (response.Refused r) is = refl
no_fault response.Shown is = refl
no_fault (response.Kept k) is = refl
no_fault (response.TooFar k) is = refl
no_fault (response.TooFarAhead k) is = refl
no_fault response.Map is = refl
no_fault (response.Fault k) is = cc

pub unwritten_fault : (layout : Layout) (told : Option (ℕ × Response)) → is_written layout told ≡ false → fault_told told ≡ None
unwritten_fault layout None is = refl
unwritten_fault layout (Some told) is = no_fault told.1 (second_false (not layout.only_refused) (is_refused told.1) is)

pub unwritten_notes : (layout : Layout) (settings : Settings) (m : NamedState) (x : Asked) (told : Option (ℕ × Response)) → is_written layout told ≡ false
    → AreNotesOf layout.form settings m x told (record { cause = []; name = name_given x; pool = pool_made x })
unwritten_notes layout settings m x None is = tt
unwritten_notes layout settings m x (Some told) is = λ valid. no_notes layout.form settings m x told.1 (second_false (not layout.only_refused) (is_refused told.1) is)
