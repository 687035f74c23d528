-- The step of a name that a change of a machine has, if it has one.
use Rattle.std.specs.Prelude.{◌≡◌, ℕ, Bool, true, false, nat_lt, Option, Some, None, List, length, refl}
use Rattle.std.specs.Option.{option_map}
use Rattle.std.proofs.Common.{ap, sym, true≢false}
use Rattle.std.proofs.Props.{props}
use mathlib.Core.HLevel.{Unit-prop}
use Rattle.vsm_machine.specs.declared.names.NameTable.{NameTable}
use Rattle.vsm_machine.specs.declared.name_changes.NameChange.{NameChange}
use Rattle.vsm_machine.specs.declared.name_changes.NameChange.TheVariants.{Define, Undefine, Reword}
use Rattle.vsm_machine.specs.NameTable.{names_of, rows_of}
use Rattle.vsm_machine.specs.NameChanges.{NameStep, define, undefine, reword, step_in, stepped, turned, CanStep, Gives}
use Rattle.vsm_machine.specs.StepsBack.{step_back_fits, step_leads_back, step_turns_back}

-- these names have the one that is to be defined, if one is
abbrev pub is_ready_in : List (List ℕ) → Option NameChange → Bool
is_ready_in names (Some (Define place word)) = nat_lt place (length names)
is_ready_in names _ = true

-- the table holds it
abbrev pub is_ready : NameTable → Option NameChange → Bool
is_ready t change = is_ready_in (names_of t) change

-- the names once the step is taken, if there is one,
abbrev pub stepped_by : List (List ℕ × ℕ) → Option NameStep → List (List ℕ × ℕ)
stepped_by names None = names
stepped_by names (Some step) = stepped names step

-- and the step that takes it back
abbrev pub turned_by : List (List ℕ × ℕ) → Option NameStep → Option NameStep
turned_by names None = None
turned_by names (Some step) = Some (turned names step)

-- the step can be taken, if there is one
abbrev pub CanStepBy : List (List ℕ × ℕ) → Option NameStep → Type 0
CanStepBy names None = Unit {0}
CanStepBy names (Some step) = CanStep names step

-- it gives a name a word
abbrev pub GivesBy : List (List ℕ × ℕ) → Option NameStep → Type 0
GivesBy names None = Unit {0}
GivesBy names (Some step) = Gives names step

-- A change fits a table: the name that it defines is in the table, at the first place after the defined ones; the one
-- that it leaves undone is the last of these; the one that it rewords is one of these. So the undone names are in the
-- order in which the changes that define them come.
abbrev pub FitsTable : NameTable → Option NameChange → Type 0
FitsTable t change = CanStepBy (rows_of t) (option_map (step_in t) change) × (is_ready t change ≡ true)

-- A kept change defines no name, since it takes a statement back; and an undone one makes no name undefined.
abbrev pub defines_none : Option NameChange → Bool
defines_none (Some (Define place word)) = false
defines_none _ = true

abbrev pub undefines_none : Option NameChange → Bool
undefines_none (Some Undefine) = false
undefines_none _ = true

some_step : (step : NameStep) → ◌≡◌ {A = Option NameStep} (Some step) None → ⊥
some_step step e = cc

undefine_isnt_define : {place word : ℕ} {name : List ℕ} → Some undefine ≡ Some (define place name word) → ⊥
undefine_isnt_define e = cc

undefine_isnt_reword : {place word : ℕ} → Some undefine ≡ Some (reword place word) → ⊥
undefine_isnt_reword e = cc

define_isnt_reword : {place word at other : ℕ} {name : List ℕ} → Some (define place name word) ≡ Some (reword at other)
    → ⊥
define_isnt_reword e = cc

-- a change that defines no name says the same in each table,
pub step_without : (t u : NameTable) (change : Option NameChange) → defines_none change ≡ true
    → option_map (step_in u) change ≡ option_map (step_in t) change
step_without t u None h = refl
step_without t u (Some (Define place word)) h = absurd (true≢false (sym h))
step_without t u (Some Undefine) h = refl
step_without t u (Some (Reword place word)) h = refl

-- and each is ready for it
pub ready_without : (t u : NameTable) (change : Option NameChange) → defines_none change ≡ true
    → is_ready u change ≡ is_ready t change
ready_without t u None h = refl
ready_without t u (Some (Define place word)) h = absurd (true≢false (sym h))
ready_without t u (Some Undefine) h = refl
ready_without t u (Some (Reword place word)) h = refl

-- a change that takes back one that defines no name makes none undefined,
pub back_undefines_none : (t u : NameTable) (names : List (List ℕ × ℕ)) (change back : Option NameChange)
    → option_map (step_in u) back ≡ turned_by names (option_map (step_in t) change) → defines_none change ≡ true
    → undefines_none back ≡ true
back_undefines_none t u names change None e h = refl
back_undefines_none t u names change (Some (Define place word)) e h = refl
back_undefines_none t u names change (Some (Reword place word)) e h = refl
back_undefines_none t u names None (Some Undefine) e h = absurd (some_step undefine e)
back_undefines_none t u names (Some (Define place word)) (Some Undefine) e h = absurd (true≢false (sym h))
back_undefines_none t u names (Some Undefine) (Some Undefine) e h = absurd (undefine_isnt_define e)
back_undefines_none t u names (Some (Reword place word)) (Some Undefine) e h = absurd (undefine_isnt_reword e)

-- and one that takes back one that makes none undefined defines none
pub back_defines_none : (t u : NameTable) (names : List (List ℕ × ℕ)) (change back : Option NameChange)
    → option_map (step_in u) back ≡ turned_by names (option_map (step_in t) change) → undefines_none change ≡ true
    → defines_none back ≡ true
back_defines_none t u names change None e h = refl
back_defines_none t u names change (Some Undefine) e h = refl
back_defines_none t u names change (Some (Reword place word)) e h = refl
back_defines_none t u names None (Some (Define place word)) e h = absurd (some_step (define place _ word) e)
back_defines_none t u names (Some (Define at old)) (Some (Define place word)) e h =
    absurd (undefine_isnt_define (sym e))
back_defines_none t u names (Some Undefine) (Some (Define place word)) e h = absurd (true≢false (sym h))
back_defines_none t u names (Some (Reword at old)) (Some (Define place word)) e h = absurd (define_isnt_reword e)

CanStep-prop : (names : List (List ℕ × ℕ)) (step : NameStep) → IsProp (CanStep names step)
CanStep-prop names (define place name word) = hlevel props
CanStep-prop names undefine = hlevel props
CanStep-prop names (reword place word) = hlevel props

-- a step can be taken in one way at most
pub CanStepBy-prop : (names : List (List ℕ × ℕ)) (step : Option NameStep) → IsProp (CanStepBy names step)
CanStepBy-prop names None = Unit-prop
CanStepBy-prop names (Some step) = CanStep-prop names step

-- a change that gives a name a word makes no name undefined
pub gives_undefines_none : (t : NameTable) (names : List (List ℕ × ℕ)) (change : Option NameChange)
    → GivesBy names (option_map (step_in t) change) → undefines_none change ≡ true
gives_undefines_none t names None h = refl
gives_undefines_none t names (Some (Define place word)) h = refl
gives_undefines_none t names (Some Undefine) h = absurd h
gives_undefines_none t names (Some (Reword place word)) h = refl

-- the step that takes a step back can be taken from where that led,
pub name_fits_back : (names : List (List ℕ × ℕ)) (step : Option NameStep) → CanStepBy names step
    → CanStepBy (stepped_by names step) (turned_by names step)
name_fits_back names None h = tt
name_fits_back names (Some step) h = step_back_fits names step h

-- leads back,
pub name_leads_back : (names : List (List ℕ × ℕ)) (step : Option NameStep) → CanStepBy names step
    → stepped_by (stepped_by names step) (turned_by names step) ≡ names
name_leads_back names None h = refl
name_leads_back names (Some step) h = step_leads_back names step h

-- and is taken back by the step itself.
pub name_turns_back : (names : List (List ℕ × ℕ)) (step : Option NameStep) → CanStepBy names step
    → turned_by (stepped_by names step) (turned_by names step) ≡ step
name_turns_back names None h = refl
name_turns_back names (Some step) h = ap Some (step_turns_back names step h)
