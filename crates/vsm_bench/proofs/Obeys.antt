-- What the program does is what its arguments ask for.
use Rattle.std.proofs.Common.{arith, codes, map, Bool, ◌≡◌, ◌∙◌, ◌≤◌, ◌⊎◌, inl, inr, ℕ, ap, refl, sym, subst, true, true≢false, List, [], ◌∷◌, length, None, Option, Some, Err}
use Rattle.std.specs.Io.KnownBytes.{Appends}
use Rattle.std.proofs.lemmas.Option.{none-some}
use Rattle.std.proofs.KnownBytes.{Appends-nil, Consumes-nil}
use Rattle.clap.specs.Words.{Row, Text, kind_of}
use Rattle.clap.specs.declared.Error.{Error}
use Rattle.clap.specs.declared.error.ErrorKind.{ErrorKind}
use Rattle.clap.specs.declared.error.ErrorKind.TheVariants as kind
use Rattle.vsm_model.specs.declared.limits.Settings.{Settings}
use Rattle.vsm_bench.specs.Command.{Answers, Commanded, Does, Obeys, Refuses}
use Rattle.vsm_bench.specs.Settings.{settings_asked}
use Rattle.vsm_bench.specs.Options.{AnswersKind, Gives, IsKindOf, file_asked, is_wrong}
use Rattle.vsm_bench.specs.Words.{Asked, asked_words, given, help, run, version, wrong}
use Rattle.script_steps.specs.declared.faults.RunFault.TheVariants as fault
use Rattle.bench_core.specs.NewFault.TheVariants as new_fault
use Rattle.vsm_bench.proofs.Asked.{file_is, nothing_asked, settings_are}

-- the same number of words and texts
pub map_few : {A B : Type 0} (f : A → B) (xs : List A) → length xs ≤ 1 → length (map f xs) ≤ 1
map_few f [] few = few
map_few f (x ∷ []) few = few
map_few f (x ∷ y ∷ xs) few = absurd (omega arith)

-- without arguments there is no file
names_no_file : (words : List Text) (rows : List Row) (path : Text) → Gives rows (asked_words words) → Some path ≡ file_asked rows → length words ≤ 1 → ⊥
names_no_file words rows path gives named few =
    none-some path (sym (named ∙ file_is rows [] (subst (Gives rows) (nothing_asked words few) gives)))

module _ {O E : Type 0} (contents : O → Option (List ℕ)) (said : E → E → List ℕ → Bool → Type 0) (output later : O) (errors told : E) (at_terminal : Bool) (code : ℕ) where
  -- a run that found no memory for its bench
  pub no_memory : (unread : Option (List ℕ)) → Refuses said errors told at_terminal output later code (fault.New new_fault.NoMemory)
      → Commanded said errors told at_terminal unread unread (contents output) (contents later) code
  no_memory unread (same, is, says) = (
    Err (fault.New new_fault.NoMemory),
    ([], Consumes-nil unread, (refl, refl, subst (λ o. Appends (contents output) (contents o) []) (sym same) (Appends-nil (contents output)))),
    is,
    says,
  )

  -- the error of arguments that have no fault is that memory ran out
  pub refuses_memory : (e : Error) → kind_of e ≡ kind.OutOfMemory → AnswersKind said errors told at_terminal contents (kind_of e) output later code
      → Refuses said errors told at_terminal output later code (fault.New new_fault.NoMemory)
  refuses_memory e memory answers = subst (λ k. AnswersKind said errors told at_terminal contents k output later code) memory answers

  -- the error of wrong arguments
  pub wrong_answer : (k : ErrorKind) → is_wrong k ≡ true → AnswersKind said errors told at_terminal contents k output later code → (later ≡ output) × (code ≡ 16)
  wrong_answer kind.DisplayHelp bad answers = absurd (true≢false (sym bad))
  wrong_answer kind.DisplayVersion bad answers = absurd (true≢false (sym bad))
  wrong_answer kind.OutOfMemory bad answers = absurd (true≢false (sym bad))
  wrong_answer _ bad answers = answers

module _ {I O E : Type 0} (remaining : I → Option (List ℕ)) (contents : O → Option (List ℕ)) (said : E → E → List ℕ → Bool → Type 0) (input : I) (output later : O) (errors told : E) (at_terminal : Bool) (code : ℕ) where
  pub runs_refuse : (words : List Text) (e : Error) → (kind_of e ≡ kind.OutOfMemory) ⊎ IsKindOf (kind_of e) (asked_words words)
      → AnswersKind said errors told at_terminal contents (kind_of e) output later code → length words ≤ 1
      → Commanded said errors told at_terminal (remaining input) (remaining input) (contents output) (contents later) code
  runs_refuse words e (inl memory) answers few =
      no_memory contents said output later errors told at_terminal code (remaining input) (refuses_memory contents said output later errors told at_terminal code e memory answers)
  runs_refuse words e (inr is) answers few = absurd (subst (IsKindOf (kind_of e)) (nothing_asked words few) is)

  -- a file that is named is an argument
  pub runs_named : (words : List Text) (rows : List Row) (path : Text) → Gives rows (asked_words words) → Some path ≡ file_asked rows → length words ≤ 1
      → Commanded said errors told at_terminal (remaining input) (remaining input) (contents output) (contents later) code
  runs_named words rows path gives named few = absurd (names_no_file words rows path gives named few)

module _ {F I O E : Type 0} (opened : Text → Option F → Type 0) (unread : F → Option (List ℕ)) (remaining : I → Option (List ℕ)) (contents : O → Option (List ℕ))
    (said : E → E → List ℕ → Bool → Type 0) (input : I) (output later : O) (errors told : E) (at_terminal : Bool) (code : ℕ) where
  answers_kind : (k : ErrorKind) (what : Asked) → IsKindOf k what → AnswersKind said errors told at_terminal contents k output later code
      → Answers opened unread remaining contents said input input output later errors told at_terminal code what
  answers_kind k help is answers = (refl, subst (λ (j : ErrorKind). AnswersKind said errors told at_terminal contents j output later code) is answers)
  answers_kind k version is answers = (refl, subst (λ (j : ErrorKind). AnswersKind said errors told at_terminal contents j output later code) is answers)
  answers_kind k wrong is answers =
      let found = wrong_answer contents said output later errors told at_terminal code k is answers in
      (refl, found.0, found.1)
  answers_kind k (run uses) is answers = absurd is

  -- the arguments ask for no run, or there was no memory
  pub does_refuse : (words : List Text) (e : Error) → (kind_of e ≡ kind.OutOfMemory) ⊎ IsKindOf (kind_of e) (asked_words words)
      → AnswersKind said errors told at_terminal contents (kind_of e) output later code → Does opened unread remaining contents said input input output later errors told at_terminal code words
  does_refuse words e (inl memory) answers = inl (refl, refuses_memory contents said output later errors told at_terminal code e memory answers)
  does_refuse words e (inr is) answers = inr (answers_kind (kind_of e) (asked_words words) is answers)

module _ {F I O E : Type 0} (opened : Text → Option F → Type 0) (unread : F → Option (List ℕ)) (remaining : I → Option (List ℕ)) (contents : O → Option (List ℕ))
    (said : E → E → List ℕ → Bool → Type 0) (input left : I) (output later : O) (errors told : E) (at_terminal : Bool) (code : ℕ) where
  pub obeys_by : (rows : List Row) (settings : Option Settings) (file : Option Text) → settings ≡ settings_asked rows → file ≡ file_asked rows
      → Obeys opened unread remaining contents said input left output later errors told at_terminal code settings file
      → Obeys opened unread remaining contents said input left output later errors told at_terminal code (settings_asked rows) (file_asked rows)
  obeys_by rows settings file same named obeys =
      subst (λ s. Obeys opened unread remaining contents said input left output later errors told at_terminal code s (file_asked rows)) same
      (subst (Obeys opened unread remaining contents said input left output later errors told at_terminal code settings) named obeys)

  answers_run : (rows : List Row) (what : Asked) → Gives rows what → Obeys opened unread remaining contents said input left output later errors told at_terminal code (settings_asked rows) (file_asked rows)
      → Answers opened unread remaining contents said input left output later errors told at_terminal code what
  answers_run rows (run uses) is obeys =
      subst (λ s. Obeys opened unread remaining contents said input left output later errors told at_terminal code s (given (codes "FILE") uses)) (settings_are rows uses is)
      (subst (Obeys opened unread remaining contents said input left output later errors told at_terminal code (settings_asked rows)) (file_is rows uses is) obeys)
  answers_run rows help is obeys = absurd is
  answers_run rows version is obeys = absurd is
  answers_run rows wrong is obeys = absurd is

  pub does_obey : (words : List Text) (rows : List Row) → Gives rows (asked_words words)
      → Obeys opened unread remaining contents said input left output later errors told at_terminal code (settings_asked rows) (file_asked rows)
      → Does opened unread remaining contents said input left output later errors told at_terminal code words
  does_obey words rows gives obeys = inr (answers_run rows (asked_words words) gives obeys)

  -- without arguments it's a run by default
  pub runs_obey : (words : List Text) (rows : List Row) → Gives rows (asked_words words)
      → Obeys opened unread remaining contents said input left output later errors told at_terminal code (settings_asked rows) (file_asked rows) → length words ≤ 1
      → Commanded said errors told at_terminal (remaining input) (remaining left) (contents output) (contents later) code
  runs_obey words rows gives obeys few =
      let none = subst (Gives rows) (nothing_asked words few) gives in
      subst (λ s. Obeys opened unread remaining contents said input left output later errors told at_terminal code s None) (settings_are rows [] none)
      (subst (Obeys opened unread remaining contents said input left output later errors told at_terminal code (settings_asked rows)) (file_is rows [] none) obeys)
