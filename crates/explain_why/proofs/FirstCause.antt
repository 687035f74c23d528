-- What is said of the cause that the bench finds.
use Rattle.std.proofs.Common.{◌≡◌, ◌↔◌, inl, inr, ℕ, Bool, false, List, [], ◌++◌, Option, Some, None, append_assoc, refl, sym, ap, subst, ◌∙◌}
use Rattle.std.proofs.lemmas.List.{append-nil}
use Rattle.std.specs.Prelude.{Ok, IfSome, unwrap_or}
use Rattle.vsm_model.specs.declared.causes.Cause.{Cause}
use Rattle.vsm_model.specs.declared.limits.Settings.{Settings}
use Rattle.vsm_model.specs.Causes.{first_cause}
use Rattle.vsm_model.specs.Names.{NamedState, is_one_too_many}
use Rattle.vsm_model.specs.declared.services.Obtain.{Obtain}
use Rattle.vsm_model.specs.Obtaining.{longest, obtain_causes}
use Rattle.vsm_model.specs.Services.{Service, obtain}
use Rattle.vsm_model.specs.declared.causes.Cause.TheVariants.{NoStorage}
use Rattle.vsm_model.specs.State.{State}
use Rattle.vsm_model.specs.Step.{causes}
use Rattle.macro_statements.specs.Requests.{Act, Asked, Written, act, peek, map_asked, back, forward}
use Rattle.vsm_machine.specs.Causes.{is_conditional_get}
use Rattle.vsm_machine.specs.Machine.{looked_up, name_asked, service_asked}
use Rattle.storage_core.specs.Meaning.{settings_of, state_of}
use Rattle.storage_core.specs.declared.storage.Storage.{Storage}
use Rattle.text_output.specs.Writing.{Puts}
use Rattle.text_output.specs.declared.writing.Gathered.{Gathered}
use Rattle.text_output.proofs.Gathering.{puts_both}
use Rattle.explain_reasons.specs.Pages.{pages_text}
use Rattle.bench_core.specs.Causes.{IsFirstCause}
use Rattle.explain_reasons.specs.Places.{sides_place}
use Rattle.explain_reasons.specs.ToldPlaces.{TellsPlace, area_text, found_text}
use Rattle.explain_text.specs.Pieces.{PutsSome}
use Rattle.explain_reasons.proofs.Endings.{ending_behind, ending_both}
use Rattle.explain_reasons.proofs.NoPlace.{no_place_is_want_of_storage}
use Rattle.explain_reasons.specs.Told.{IsTold, TellsCause, TellsEffect, TellsService}
use Rattle.explain_why.specs.Told.{EndsInOne, PutsAmong, TellsAct, TellsArea, TellsFirstCause, TellsItsPlace, TellsReading, TellsRequest, kept_text, undone_text}

same_service : (o : Option Service) (x y : Service) → o ≡ Some x → o ≡ Some y → x ≡ y
same_service o x y e f = (let g : ◌≡◌ {A = Option Service} (Some x) (Some y) = sym e ∙ f in cc)

same_cause : (o : Option Cause) (x y : Cause) → o ≡ Some x → o ≡ Some y → x ≡ y
same_cause o x y e f = (let g : ◌≡◌ {A = Option Cause} (Some x) (Some y) = sym e ∙ f in cc)

none_is_some : {X : Type 0} (o : Option X) (x : X) → o ≡ None → o ≡ Some x → ⊥
none_is_some {X} o x e f = (let g : ◌≡◌ {A = Option X} None (Some x) = sym e ∙ f in cc)

module _ (settings : Settings) (m : NamedState) (x : Act) where
  abbrev first_of : Service → Option Cause
  first_of service = first_cause (causes settings (is_one_too_many m.names (name_asked x)) m.storage service)

  -- a name that isn't defined
  unknown_told : (old new : Option (List ℕ)) (a b : Gathered) → service_asked m x ≡ None → TellsFirstCause settings m x old new a b
  unknown_told old new a b none service cause asked plain first = absurd (none_is_some (service_asked m x) service none asked)

  -- no cause
  pub none_told : (old new : Option (List ℕ)) (a b : Gathered) → IsFirstCause settings m x (Ok None) → TellsFirstCause settings m x old new a b
  none_told old new a b (its, is, none) service cause asked plain first =
      let same = same_service (service_asked m x) its service is asked in
      absurd (none_is_some (first_of service) cause
      (subst (λ y. first_of y ≡ None) same (none (inr (subst (λ y. is_conditional_get y ≡ false) (sym same) plain)))) first)

  -- its first cause, after some text
  pub cause_told : (its : Service) (c : Cause) (old now new : Option (List ℕ)) (a b d : Gathered) → service_asked m x ≡ Some its
      → IsFirstCause settings m x (Ok (Some c)) → PutsSome old now a b
      → ((full : Bool) → TellsCause (causes settings full m.storage its) (IsTold settings m.storage its c) c now new b d) → TellsFirstCause settings m x old new a d
  cause_told its c old now new a b d is (found, found_is, holds) some told service cause asked plain first =
      let same = same_service (service_asked m x) its service is asked in
      let also = same_service (service_asked m x) found its found_is is in
      let full = is_one_too_many m.names (name_asked x) in
      let here = subst (λ y. first_of y ≡ Some c) also (holds (inl refl)) in
      let cause_is = same_cause (first_of its) c cause here (subst (λ y. first_of y ≡ Some cause) (sym same) first) in
      let (text, says, puts) = told full here in
      subst (λ y. EndsInOne (IsTold settings m.storage y cause) old new a d) same
      (subst (λ k. EndsInOne (IsTold settings m.storage its k) old new a d) cause_is
      (text, says, ending_behind old now new a b d text some puts))

-- ---- the place of an area

some_is_none : {X : Type 0} (o : Option X) (x : X) → o ≡ Some x → o ≡ None → ⊥
some_is_none o x e f = none_is_some o x f e

-- there is a greatest number
longest_is : (x : Option ℕ) (k fewest : ℕ) → (x ≡ None → ⊥) → k ≡ unwrap_or x fewest → x ≡ Some k
longest_is None k fewest some e = absurd (some refl)
longest_is (Some y) k fewest some e = ap Some (sym e)

not_none : (A B : Type 0) → (A ↔ B) → (B → ⊥) → A → ⊥
not_none A B (to, from) none a = none (to a)

place_is : (s : Storage) (o : Obtain) (full : Bool) (old new : Option (List ℕ)) (a b : Gathered)
    → first_cause (obtain_causes (settings_of s) full (state_of s) o) ≡ None → TellsPlace s o None old new a b
    → TellsItsPlace (settings_of s) (state_of s) o old new a b
place_is s o full old new a b first told =
    let law = no_place_is_want_of_storage (settings_of s) full (state_of s) o (inl first) in
    let (sides, searched, place, count, nowhere, puts) = told law.0 in
    let rows = obtain_causes (settings_of s) full (state_of s) o in
    let some = not_none (longest (settings_of s) (state_of s) o ≡ None) (first_cause rows ≡ Some NoStorage) law.1
    (none_is_some (first_cause rows) NoStorage first) in (
      sides_place sides,
      (sides.count, longest_is (longest (settings_of s) (state_of s) o) sides.count _ some count, place),
      (area_text (state_of s) o.number (Some sides) None searched, puts),
    )

-- the same after some text
place_more : (settings : Settings) (s : State) (o : Obtain) (old now new : Option (List ℕ)) (a b d : Gathered) → PutsSome old now a b
    → TellsItsPlace settings s o now new b d → TellsItsPlace settings s o old new a d
place_more settings s o old now new a b d some (its, is, ending) = (its, is, ending_both old now new a b d (found_text its) some ending)

module _ (settings : Settings) (m : NamedState) (x : Act) where
  pub unknown_area : (old new : Option (List ℕ)) (a b : Gathered) → service_asked m x ≡ None → TellsArea settings m x old new a b
  unknown_area old new a b none o asked first = absurd (none_is_some (service_asked m x) (obtain o) none asked)

  found_area : (s : Storage) (its : Service) (found : Option Cause) (old now new : Option (List ℕ)) (a b d : Gathered)
      → settings_of s ≡ settings → state_of s ≡ m.storage → service_asked m x ≡ Some its → IsFirstCause settings m x (Ok found) → PutsSome old now a b
      → (found ≡ None → TellsEffect s its now new b d) → TellsArea settings m x old new a d
  found_area s its None old now new a b d under stands is found some effect o asked first =
      let full = is_one_too_many m.names (name_asked x) in
      let same = same_service (service_asked m x) its (obtain o) is asked in
      let told : TellsPlace s o None now new b d = subst (λ y. TellsEffect s y now new b d) same (effect refl) in
      let here : first_cause (obtain_causes (settings_of s) full (state_of s) o) ≡ None =
      subst (λ k. first_cause (obtain_causes k full (state_of s) o) ≡ None) (sym under)
      (subst (λ t. first_cause (obtain_causes settings full t o) ≡ None) (sym stands) first) in
      subst (λ t. TellsItsPlace settings t o old new a d) stands
      (subst (λ k. TellsItsPlace k (state_of s) o old new a d) under
      (place_more (settings_of s) (state_of s) o old now new a b d some (place_is s o full now new b d here told)))
  found_area s its (Some c) old now new a b d under stands is (found, found_is, holds) some effect o asked first =
      let same = same_service (service_asked m x) found (obtain o) found_is asked in
      absurd (none_is_some (first_of settings m x (obtain o)) c first (subst (λ y. first_of settings m x y ≡ Some c) same (holds (inl refl))))

-- what was found
found_cause : (s : Storage) (settings : Settings) (m : NamedState) (x : Act) (its : Service) (found : Option Cause) (old now new : Option (List ℕ)) (a b d : Gathered)
    → settings_of s ≡ settings → state_of s ≡ m.storage → service_asked m x ≡ Some its → IsFirstCause settings m x (Ok found) → PutsSome old now a b
    → IfSome found (λ c. TellsService s its c now new b d) → TellsFirstCause settings m x old new a d
found_cause s settings m x its None old now new a b d under stands is found some told = none_told settings m x old new a d found
found_cause s settings m x its (Some c) old now new a b d under stands is found some told =
    cause_told settings m x its c old now new a b d is found some
    (λ full. subst (λ t. TellsCause (causes settings full t its) (IsTold settings t its c) c now new b d) stands
    (subst (λ t. TellsCause (causes t full (state_of s) its) (IsTold t (state_of s) its c) c now new b d) under (told full)))

pub found_told : (s : Storage) (settings : Settings) (m : NamedState) (x : Act) (its : Service) (found : Option Cause) (old now new : Option (List ℕ)) (a b d : Gathered)
    → settings_of s ≡ settings → state_of s ≡ m.storage → service_asked m x ≡ Some its → IsFirstCause settings m x (Ok found) → PutsSome old now a b
    → IfSome found (λ c. TellsService s its c now new b d)
    → (found ≡ None → TellsEffect s its now new b d) → TellsAct settings m x old new a d
found_told s settings m x its found old now new a b d under stands is holds some told effect = record {
  cause = found_cause s settings m x its found old now new a b d under stands is holds some told;
  area = found_area settings m x s its found old now new a b d under stands is holds some effect;
}

-- a name that isn't defined
pub unknown_act : (settings : Settings) (m : NamedState) (x : Act) (old new : Option (List ℕ)) (a b : Gathered) → service_asked m x ≡ None → TellsAct settings m x old new a b
unknown_act settings m x old new a b none =
    record { cause = unknown_told settings m x old new a b none; area = unknown_area settings m x old new a b none }

-- the same after some text
one_more : (is : List ℕ → Type 0) (old now new : Option (List ℕ)) (a b d : Gathered) → PutsSome old now a b → EndsInOne is now new b d → EndsInOne is old new a d
one_more is old now new a b d some (text, says, ending) = (text, says, ending_both old now new a b d text some ending)

among_more : (is : List ℕ → Type 0) (old now new : Option (List ℕ)) (a b d : Gathered) → PutsSome old now a b → PutsAmong is now new b d → PutsAmong is old new a d
among_more is old now new a b d (first, h) (text, says, (front, behind, k)) = (
  text,
  says,
  (
    first ++ front,
    behind,
    subst (Puts old new a d) (sym (append_assoc first front (text ++ behind))) (puts_both old now new a b d first (front ++ (text ++ behind)) h k),
  ),
)

pub told_behind : (settings : Settings) (m : NamedState) (kept undone : ℕ) (x : Asked) (old now new : Option (List ℕ)) (a b d : Gathered) → PutsSome old now a b
    → TellsRequest settings m kept undone x now new b d → TellsRequest settings m kept undone x old new a d
told_behind settings m kept undone (act x) old now new a b d some told = λ valid. record {
  cause = λ service cause asked plain first.
      one_more (IsTold settings m.storage service cause) old now new a b d some ((told valid).cause service cause asked plain first);
  area = λ o asked first. place_more settings m.storage o old now new a b d some ((told valid).area o asked first);
}
told_behind settings m kept undone (peek address count) old now new a b d some told = λ word valid is.
    among_more (λ text. text ≡ pages_text m.storage word count) old now new a b d some (told word valid is)
told_behind settings m kept undone map_asked old now new a b d some told = told
told_behind settings m kept undone (back n) old now new a b d some told = among_more (λ text. text ≡ kept_text kept) old now new a b d some told
told_behind settings m kept undone (forward n) old now new a b d some told = among_more (λ text. text ≡ undone_text undone) old now new a b d some told

-- ---- a reading, and a step

same_word : (o : Option ℕ) (x y : ℕ) → o ≡ Some x → o ≡ Some y → x ≡ y
same_word o x y e f = (let g : ◌≡◌ {A = Option ℕ} (Some x) (Some y) = sym e ∙ f in cc)

-- a text between others
pub among : (is : List ℕ → Type 0) (its : List ℕ) (old now then new : Option (List ℕ)) (a b c d : Gathered) → is its → PutsSome old now a b → Puts now then b c its
    → PutsSome then new c d → PutsAmong is old new a d
among is its old now then new a b c d says (front, h) k (behind, l) =
    (its, says, (front, behind, puts_both old now new a b d front (its ++ behind) h (puts_both now then new b c d its behind k l)))

-- a text after another one
pub among_last : (is : List ℕ → Type 0) (its : List ℕ) (old now new : Option (List ℕ)) (a b c : Gathered) → is its → PutsSome old now a b → Puts now new b c its
    → PutsAmong is old new a c
among_last is its old now new a b c says (front, h) k =
    (its, says, (front, [], subst (λ x. Puts old new a c (front ++ x)) (sym (append-nil its)) (puts_both old now new a b c front its h k)))

pub some_among : (is : List ℕ → Type 0) (old new : Option (List ℕ)) (a b : Gathered) → PutsAmong is old new a b → PutsSome old new a b
some_among is old new a b (text, says, (front, behind, h)) = (front ++ (text ++ behind), h)

pub reading_told : (m : NamedState) (s : State) (address : Written) (its count : ℕ) (old new : Option (List ℕ)) (a b : Gathered) → s ≡ m.storage → looked_up m address ≡ Some its
    → PutsAmong (λ text. text ≡ pages_text s its count) old new a b → TellsReading m address count old new a b
reading_told m s address its count old new a b same is told = λ word valid looked.
    subst (λ w. PutsAmong (λ text. text ≡ pages_text m.storage w count) old new a b) (same_word (looked_up m address) its word is looked)
    (subst (λ t. PutsAmong (λ text. text ≡ pages_text t its count) old new a b) same told)

pub unknown_reading : (m : NamedState) (address : Written) (count : ℕ) (old new : Option (List ℕ)) (a b : Gathered) → looked_up m address ≡ None → TellsReading m address count old new a b
unknown_reading m address count old new a b none = λ word valid looked. absurd (none_is_some (looked_up m address) word none looked)
