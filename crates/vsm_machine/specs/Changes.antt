-- The changes of a machine: a change of its storage, and at most one name with its other word. A swap exchanges them
-- with those of the machine.
use Rattle.std.specs.Prelude.{◌≡◌, ℕ, Bool, true, Option, List, [], ◌∷◌, ◌++◌, map, slice_index_or, refl}
use Rattle.std.specs.Option.{option_map}
use Rattle.std.specs.List.{AllByRecursion}
use Rattle.std.proofs.Common.{sym, subst, ap}
use Rattle.std.proofs.Props.{props}
use Rattle.std.proofs.lemmas.List.{map-append}
use Rattle.vsm_model.specs.declared.limits.Settings.{Settings}
use Rattle.vsm_model.specs.Names.{NamedState}
use Rattle.storage_changes.specs.State.{StorageState}
use Rattle.storage_changes.specs.Changes.{Change as StorageChange, Fit}
use Rattle.storage_changes.specs.Changes as storage
use Rattle.storage_changes.specs.Meaning.{model_of, IsSound}
use Rattle.storage_changes.specs.Props.{Fit-prop}
use Rattle.storage_changes.proofs.WalkLemmas.{changes_lead_back}
use Rattle.storage_swap.specs.declared.change.Change.{Change as RawChange}
use Rattle.storage_swap.specs.Swap as swap
use Rattle.storage_swap.specs.Apart.{AreApart, AreWhole}
use Rattle.storage_swap.specs.HistoryProps.{AreApart-prop, AreWhole-prop}
use Rattle.storage_swap.specs.Steps.{storage_steps}
use Rattle.storage_core.specs.Frames.{AssignsItsFrames}
use Rattle.storage_core.specs.Memory.{SameMemory}
use Rattle.storage_core.specs.Meaning.{state_in_place, settings_of}
use Rattle.storage_core.proofs.GivenFrames.{frames_back}
use Rattle.step_history.specs.Laws.{ReversibleLaws}
use Rattle.step_history.specs.Single.{SingleSteps, steps_fit, steps_states, steps_laws}
use Rattle.step_history.specs.Chain.{FitsBefore, FitsAfter, start}
use Rattle.vsm_machine.specs.NameTable.{names_of, rows_of}
use Rattle.vsm_machine.specs.NameChanges.{NameStep, step_in, step_by}
use Rattle.vsm_machine.specs.NameSteps.{is_ready, is_ready_in, stepped_by, turned_by, CanStepBy, CanStepBy-prop}
use Rattle.vsm_machine.specs.NameSteps.{FitsTable, defines_none, undefines_none, name_fits_back, name_leads_back}
use Rattle.vsm_machine.specs.NameSteps.{name_turns_back, step_without, ready_without}
use Rattle.vsm_machine.specs.declared.names.NameTable.{NameTable}
use Rattle.vsm_machine.specs.declared.machine.Machine.{Machine}
use Rattle.vsm_machine.specs.declared.machine.MachineChange.{MachineChange}
use mathlib.Core.HLevel.{×_prop, Unit-prop}

-- What a machine means: its settings, the state of its storage in place, and its names with their words.
pub record MachineState : Type 0 where
  pub settings : Settings
  pub storage : StorageState
  pub names : List (List ℕ × ℕ)

abbrev pub shown : Machine → MachineState
shown m = record {
  settings = settings_of m.storage;
  storage = state_in_place m.storage;
  names = rows_of m.names;
}

-- the plain machine that this is
abbrev pub named_of : MachineState → NamedState
named_of m = record { storage = model_of m.storage; names = m.names }

-- the plain machine that a machine is
abbrev pub plain_of : Machine → NamedState
plain_of m = named_of (shown m)

-- the step of the name that a change has in this table, if it has one
abbrev pub step_of : NameTable → MachineChange → Option NameStep
step_of t c = option_map (step_in t) c.name

-- What a change means: the change of the storage, and the step of a name. A name that it defines must already be in the
-- machine's table, at the place that the change says.
pub record Difference : Type 0 where
  pub storage : StorageChange
  pub step : Option NameStep
  pub known : Bool

abbrev pub means : Machine → MachineChange → Difference
means m c = record {
  storage = swap.means m.storage.parts.elements c.storage;
  step = step_of m.names c;
  known = is_ready m.names c.name;
}

-- A change of the storage fits, leads from a sound state to a sound one, and has frames only for pages that it leaves
-- assigned.
pub record StorageFits (settings : Settings) (m : StorageState) (d : StorageChange) : Type 0 where
  pub fits : Fit m d
  pub before : ∥ IsSound settings m ∥₁
  pub after : ∥ IsSound settings (storage.overlay m d) ∥₁
  pub frames : AssignsItsFrames m d

-- A difference fits a state if its two parts do; it leads to another state, from which its inverse leads back.
abbrev pub fit : MachineState → Difference → Type 0
fit m d = StorageFits m.settings m.storage d.storage × CanStepBy m.names d.step × (d.known ≡ true)

abbrev pub overlay : MachineState → Difference → MachineState
overlay m d = record {
  settings = m.settings;
  storage = storage.overlay m.storage d.storage;
  names = stepped_by m.names d.step;
}

abbrev pub inverse : MachineState → Difference → Difference
inverse m d = record {
  storage = storage.inverse m.storage d.storage;
  step = turned_by m.names d.step;
  known = true;
}

-- the changes of the storage
abbrev pub storages : List MachineChange → List RawChange
storages cs = map (λ c. c.storage) cs

-- These hold different elements and frames, and so does the storage,
abbrev pub Apart : Machine → List MachineChange → Type 0
Apart m cs = AreApart m.storage.parts (storages cs)

-- and together all that exist.
abbrev pub Whole : Machine → List MachineChange → Type 0
Whole m cs = AreWhole m.storage.parts (storages cs)

pub record CanSwap (m : Machine) (c : MachineChange) : Type 0 where
  pub ready : swap.Ready m.storage.parts c.storage
  pub fits : StorageFits (settings_of m.storage) (state_in_place m.storage)
      (swap.means m.storage.parts.elements c.storage)
  pub can : FitsTable m.names c.name

-- The change of the storage is exchanged with it, and the step of the name is taken and turned; the table holds the
-- same names at the same places.
pub record Swaps (m : Machine) (c : MachineChange) (n : Machine) (d : MachineChange) : Type 0 where
  pub storage : swap.Swaps m.storage.parts c.storage n.storage.parts d.storage
  pub settings : settings_of n.storage ≡ settings_of m.storage
  pub names : rows_of n.names ≡ stepped_by (rows_of m.names) (step_of m.names c)
  pub inverse_step : step_of n.names d ≡ turned_by (rows_of m.names) (step_of m.names c)
  pub same : names_of n.names ≡ names_of m.names
  pub ready : is_ready n.names d.name ≡ true

-- no element, no frame, no table and no name was made, and the same numbers of elements and frames are spare
pub record HasSameMemory (m n : Machine) : Type 0 where
  pub storage : SameMemory m.storage.parts n.storage.parts
  pub names : names_of n.names ≡ names_of m.names

-- What the change held of the storage is spare, and all else is as it was.
pub record Discards (m : Machine) (c : MachineChange) (n : Machine) : Type 0 where
  pub storage : swap.Discards m.storage.parts c.storage n.storage.parts
  pub settings : settings_of n.storage ≡ settings_of m.storage
  pub names : n.names ≡ m.names

abbrev pub machine_fits : List MachineChange → Machine → List MachineChange → Type 0
machine_fits = steps_fit fit overlay shown means Apart

abbrev pub machine_states : List MachineChange → Machine → List MachineChange → List MachineState
machine_states = steps_states fit overlay shown means Apart

-- A kept change defines no name, since it takes a statement back; and an undone one makes no name undefined.
abbrev pub DefineNone : List MachineChange → Type 0
DefineNone cs = AllByRecursion (λ c. defines_none c.name ≡ true) cs

abbrev pub UndefineNone : List MachineChange → Type 0
UndefineNone cs = AllByRecursion (λ c. undefines_none c.name ≡ true) cs

fits_back : (m : MachineState) (d : Difference) → fit m d → fit (overlay m d) (inverse m d)
fits_back m d f =
    let back = changes_lead_back m.storage d.storage f.0.fits in (
      record {
        fits = back.0;
        before = f.0.after;
        after = subst (λ (s : StorageState). ∥ IsSound m.settings s ∥₁) (sym back.1) f.0.before;
        frames = frames_back m.storage d.storage f.0.fits f.0.frames;
      },
      name_fits_back m.names d.step f.1,
      refl,
    )

leads_back : (m : MachineState) (d : Difference) → fit m d → overlay (overlay m d) (inverse m d) ≡ m
leads_back m d f =
    let back = changes_lead_back m.storage d.storage f.0.fits in
    let named = name_leads_back m.names d.step f.1 in
    λ i. record { settings = m.settings; storage = back.1 i; names = named i }

turns_back : (m : MachineState) (d : Difference) → fit m d → inverse (overlay m d) (inverse m d) ≡ d
turns_back m d f =
    let back = changes_lead_back m.storage d.storage f.0.fits in
    let named = name_turns_back m.names d.step f.1 in
    λ i. record { storage = back.2 i; step = named i; known = sym f.2 i }

-- a change means the same if its change of the storage does, and the table has the same names at the same places,
pub same_meaning : (m n : Machine) (c : MachineChange)
    → swap.means n.storage.parts.elements c.storage ≡ swap.means m.storage.parts.elements c.storage
    → names_of n.names ≡ names_of m.names → means n c ≡ means m c
same_meaning m n c e f = λ i. record {
  storage = e i;
  step = option_map (step_by (λ place. slice_index_or (f i) place [])) c.name;
  known = is_ready_in (f i) c.name;
}

-- or if it defines no name
pub same_without_names : (m n : Machine) (c : MachineChange)
    → swap.means n.storage.parts.elements c.storage ≡ swap.means m.storage.parts.elements c.storage
    → defines_none c.name ≡ true → means n c ≡ means m c
same_without_names m n c e none = λ i. record {
  storage = e i;
  step = step_without m.names n.names c.name none i;
  known = ready_without m.names n.names c.name none i;
}

-- the changes of the storage of a list with one in its middle
pub storages_at : (xs ys : List MachineChange) (c : MachineChange)
    → storages (xs ++ c ∷ ys) ≡ storages xs ++ c.storage ∷ storages ys
storages_at xs ys c = map-append (λ (x : MachineChange). x.storage) xs (c ∷ ys)

pub storages_of : (xs ys : List MachineChange) → storages (xs ++ ys) ≡ storages xs ++ storages ys
storages_of xs ys = map-append (λ (x : MachineChange). x.storage) xs ys

pub machine_steps : SingleSteps fit overlay inverse shown means Apart Whole CanSwap Swaps Discards
machine_steps = record {
  inverts = record { fits_back = fits_back; leads_back = leads_back; turns_back = turns_back };
  can = λ m c f h. record {
    ready = (storage_steps.can m.storage.parts c.storage f.0.fits h).ready;
    fits = f.0;
    can = (f.1, f.2);
  };
  swap_shows = λ m n c d w. (λ i. record {
    settings = w.settings i;
    storage = w.storage.shows i;
    names = w.names i;
  });
  swap_means = λ m n c d w. (λ i. record { storage = w.storage.turned i; step = w.inverse_step i; known = w.ready i });
  swap_others = λ m n c d x h w.
      same_meaning m n x
      (storage_steps.swap_others m.storage.parts n.storage.parts c.storage d.storage x.storage h w.storage)
      w.same;
  swap_apart = λ m n c d xs h w.
      storage_steps.swap_apart m.storage.parts n.storage.parts c.storage d.storage (storages xs) h w.storage;
  swap_whole = λ xs ys c d m n h w.
      subst (AreWhole n.storage.parts) (sym (storages_at xs ys d))
      (storage_steps.swap_whole (storages xs) (storages ys) c.storage d.storage m.storage.parts n.storage.parts
      (subst (AreWhole m.storage.parts) (storages_at xs ys c) h) w.storage);
  discard_shows = λ m n c w. (λ i. record {
    settings = w.settings i;
    storage = storage_steps.discard_shows m.storage.parts n.storage.parts c.storage w.storage i;
    names = rows_of (w.names i);
  });
  discard_others = λ m n c x h w.
      same_meaning m n x (storage_steps.discard_others m.storage.parts n.storage.parts c.storage x.storage h w.storage)
      (ap names_of w.names);
  discard_apart = λ m n c xs h w.
      storage_steps.discard_apart m.storage.parts n.storage.parts c.storage (storages xs) h w.storage;
  discard_whole = λ xs ys c m n h w.
      subst (AreWhole n.storage.parts) (sym (storages_of xs ys))
      (storage_steps.discard_whole (storages xs) (storages ys) c.storage m.storage.parts n.storage.parts
      (subst (AreWhole m.storage.parts) (storages_at xs ys c) h) w.storage);
  pick = λ xs ys c m h.
      subst (λ l. AreApart m.storage.parts (c.storage ∷ l)) (sym (storages_of xs ys))
      (storage_steps.pick (storages xs) (storages ys) c.storage m.storage.parts
      (subst (AreApart m.storage.parts) (storages_at xs ys c) h));
  put = λ xs ys c m h.
      subst (AreApart m.storage.parts) (sym (storages_at xs ys c))
      (storage_steps.put (storages xs) (storages ys) c.storage m.storage.parts
      (subst (λ l. AreApart m.storage.parts (c.storage ∷ l)) (storages_of xs ys) h));
  rest = λ xs c m h. storage_steps.rest (storages xs) c.storage m.storage.parts h;
}

pub machine_laws : ReversibleLaws shown machine_fits machine_states Apart Whole CanSwap Swaps Discards
machine_laws = steps_laws fit overlay shown means Apart machine_steps

StorageFits-prop : (settings : Settings) (m : StorageState) (d : StorageChange) → IsProp (StorageFits settings m d)
StorageFits-prop settings m d = hlevel (Fit-prop m d, props)

fit-prop : (m : MachineState) (d : Difference) → IsProp (fit m d)
fit-prop m d = hlevel (StorageFits-prop m.settings m.storage d.storage, CanStepBy-prop m.names d.step, props)

fits_before_prop : (ds : List Difference) (m : MachineState) → IsProp (FitsBefore fit overlay ds m)
fits_before_prop [] m = Unit-prop
fits_before_prop (d ∷ ds) m = ×_prop (fit-prop (start fit overlay ds m) d) (fits_before_prop ds m)

fits_after_prop : (m : MachineState) (ds : List Difference) → IsProp (FitsAfter fit overlay m ds)
fits_after_prop m [] = Unit-prop
fits_after_prop m (d ∷ ds) = ×_prop (fit-prop m d) (fits_after_prop (overlay m d) ds)

-- changes fit in at most one way
pub machine_fits_prop : (ks : List MachineChange) (m : Machine) (us : List MachineChange)
    → IsProp (machine_fits ks m us)
machine_fits_prop ks m us = ×_prop (×_prop (fits_before_prop (map (means m) ks) (shown m))
    (fits_after_prop (shown m) (map (means m) us))) (AreApart-prop m.storage.parts (storages (ks ++ us)))

-- nothing is missing from a machine and its kept and undone changes: that too holds in at most one way
abbrev pub IsWhole : List MachineChange → Machine → List MachineChange → Type 0
IsWhole ks m us = Whole m (ks ++ us)

pub IsWhole-prop : (ks : List MachineChange) (m : Machine) (us : List MachineChange) → IsProp (IsWhole ks m us)
IsWhole-prop ks m us = AreWhole-prop m.storage.parts (storages (ks ++ us))
