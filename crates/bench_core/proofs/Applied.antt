-- A change that is applied and kept.
use Rattle.std.proofs.Common.{◌≡◌, ℕ, suc, ◌-◌, true, List, [], ◌∷◌, ◌++◌, length, map, take, drop, sym, ◌∙◌, ap, subst, refl, arith, append_assoc}
use Rattle.std.proofs.lemmas.List.{append-nil, length_push}
use Rattle.vsm_machine.specs.NameTable.{names_of}
use Rattle.vsm_machine.specs.Meaning.{settings_of}
use Rattle.storage_swap.specs.Swap as swap
use Rattle.step_history.specs.Chain.{FitsBefore, ChainFits, chain_states}
use Rattle.step_history.specs.Log.{Log, latest}
use Rattle.step_history.specs.Single.{steps_next, steps_ready, steps_aside}
use Rattle.step_history.specs.Trail.{trail_of, trail_kept}
use Rattle.vsm_machine.specs.NameSteps.{defines_none, undefines_none}
use Rattle.vsm_machine.specs.Changes.{MachineState, Difference, named_of, shown, plain_of, means, fit, overlay, Apart, Whole, CanSwap, Swaps, machine_fits, machine_states, machine_steps, machine_laws, same_meaning, same_without_names, DefineNone, UndefineNone}
use Rattle.bench_core.specs.Stands.{bench_at, bench_as, bench_in}
use Rattle.vsm_machine.specs.declared.machine.Machine.{Machine}
use Rattle.vsm_machine.specs.declared.machine.MachineChange.{MachineChange}
use Rattle.bench_core.proofs.Trails.{newest_as}
use Rattle.bench_core.proofs.Moves.{Directed, all_push, all_dropped, swap_defines_none}

-- The state of the storage and the defined names are as they were, and so is what each change of the storage means. The
-- names of undone statements may be out of the table, or a new one may be in it.
pub record Readied (s r : Machine) : Type 0 where
  pub shows : shown r ≡ shown s
  pub others : (x : MachineChange) → Apart s (x ∷ []) → swap.means r.storage.parts.elements x.storage ≡ swap.means s.storage.parts.elements x.storage
  pub apart : (xs : List MachineChange) → Apart s xs → Apart r xs

-- changes that are apart are so without those before them
apart_behind : (ks us : List MachineChange) (s : Machine) → Apart s (ks ++ us) → Apart s us
apart_behind [] us s h = h
apart_behind (k ∷ ks) us s h = apart_behind ks us s (machine_steps.rest (ks ++ us) k s h)

module _ (s r : Machine) (same : Readied s r) where
  first_other : (c : MachineChange) (cs : List MachineChange) → Apart s (c ∷ cs) → swap.means r.storage.parts.elements c.storage ≡ swap.means s.storage.parts.elements c.storage
  first_other c cs a = same.others c (machine_laws.fewer (c ∷ []) cs s a)

  -- what is kept means the same
  pub kept_means : (ks : List MachineChange) → DefineNone ks → Apart s ks → map (means r) ks ≡ map (means s) ks
  kept_means [] h a = refl
  kept_means (k ∷ ks) h a =
      let one = same_without_names s r k (first_other k ks a) h.0 in
      let rest = kept_means ks h.1 (machine_steps.rest ks k s a) in
      λ i. one i ∷ rest i

  -- and everything does if the table holds the same names at the same places
  all_means : names_of r.names ≡ names_of s.names → (cs : List MachineChange) → Apart s cs → map (means r) cs ≡ map (means s) cs
  all_means known [] a = refl
  all_means known (c ∷ cs) a =
      let one = same_meaning s r c (first_other c cs a) known in
      let rest = all_means known cs (machine_steps.rest cs c s a) in
      λ i. one i ∷ rest i

  module _ (known : names_of r.names ≡ names_of s.names) (ks us : List MachineChange) (f : machine_fits ks s us) where
    all_kept : map (means r) ks ≡ map (means s) ks
    all_kept = all_means known ks (machine_laws.fewer ks us s f.1)

    all_undone : map (means r) us ≡ map (means s) us
    all_undone = all_means known us (apart_behind ks us s f.1)

    -- then nothing has changed along the history
    pub unchanged_bench : bench_at ks r us ≡ bench_at ks s us
    unchanged_bench =
        let states : machine_states ks r us ≡ machine_states ks s us
        = λ i. chain_states fit overlay (all_kept i) (same.shows i) (all_undone i) in
        λ i. bench_as named_of (bench_in (record { past = take (length ks) (states i); present = same.shows i; later = drop (suc (length ks)) (states i) }))

    pub unchanged_fits : machine_fits ks r us
    unchanged_fits = (
      subst (λ (m : MachineState). ChainFits fit overlay (map (means r) ks) m (map (means r) us)) (sym same.shows)
          (subst (λ (ds : List Difference). ChainFits fit overlay ds (shown s) (map (means r) us)) (sym all_kept)
          (subst (λ (ds : List Difference). ChainFits fit overlay (map (means s) ks) (shown s) ds) (sym all_undone) f.0)),
      same.apart (ks ++ us) f.1,
    )

-- A change next to the history's: it fits the state, and all are apart and whole with it.
pub record Reserved (ks us : List MachineChange) (s r : Machine) (change : MachineChange) : Type 0 where
  pub fits : machine_fits ks s us
  pub none : DefineNone ks
  pub readied : Readied s r
  pub can : fit (shown r) (means r change)
  pub apart : Apart r (change ∷ (ks ++ us))
  pub whole : Whole r (ks ++ change ∷ us)

pub can_swap : (ks us : List MachineChange) (s r : Machine) (change : MachineChange) → Reserved ks us s r change → CanSwap r change
can_swap ks us s r change h = machine_steps.can r change h.can (machine_laws.fewer (change ∷ []) (ks ++ us) r h.apart)

module _ (ks us : List MachineChange) (s r t : Machine) (change inverse : MachineChange) (h : Reserved ks us s r change) (w : Swaps r change t inverse) where
  pub applied_apart : Apart t ((ks ++ inverse ∷ []) ++ us)
  applied_apart = steps_aside fit overlay shown means Apart machine_steps ks us change inverse r t h.apart w

  pub applied_whole : Whole t ((ks ++ inverse ∷ []) ++ us)
  applied_whole = subst (Whole t) (sym (append_assoc ks (inverse ∷ []) us)) (machine_laws.swap_whole ks us change inverse r t h.whole w)

  kept_apart : Apart s ks
  kept_apart = machine_laws.fewer ks us s h.fits.1

  kept_same : map (means r) ks ≡ map (means s) ks
  kept_same = kept_means s r h.readied ks h.none kept_apart

  kept_fit : machine_fits ks r []
  kept_fit = (
    (
      subst (λ (m : MachineState). FitsBefore fit overlay (map (means r) ks) m) (sym h.readied.shows)
          (subst (λ (ds : List Difference). FitsBefore fit overlay ds (shown s)) (sym kept_same) h.fits.0.0),
      tt,
    ),
    subst (Apart r) (sym (append-nil ks)) (h.readied.apart ks kept_apart),
  )

  next_fits : machine_fits ks r (change ∷ [])
  next_fits =
      steps_ready fit overlay shown means Apart machine_steps ks [] change r kept_fit h.can
      (subst (λ xs. Apart r (change ∷ xs)) (sym (append-nil ks)) (machine_laws.fewer (change ∷ ks) us r h.apart))

  pub applied_fits : machine_fits (ks ++ inverse ∷ []) t []
  applied_fits = (machine_laws.forward ks [] change inverse r t next_fits w).0

  pub applied_settings : settings_of t.storage ≡ settings_of s.storage
  applied_settings = w.settings ∙ ap (λ (m : MachineState). m.settings) h.readied.shows

  -- the state that the change leads to
  abbrev pub next : MachineState
  next = overlay (shown s) (means r change)

  -- the states up to the present one, and the new one
  applied_states : machine_states (ks ++ inverse ∷ []) t [] ≡ take (suc (length ks)) (machine_states ks s us) ++ next ∷ []
  applied_states =
      (machine_laws.forward ks [] change inverse r t next_fits w).1
      ∙ steps_next fit overlay shown means Apart ks us change s r h.fits h.readied.shows kept_same

  -- the states along the history once the change is kept
  pub kept_bench : (limit : ℕ) (new : Log MachineChange) (u : Machine) → new.undone ≡ [] → machine_fits new.kept u [] →
      machine_states new.kept u [] ≡ drop (length (ks ++ inverse ∷ []) - limit) (machine_states (ks ++ inverse ∷ []) t []) →
      bench_at new.kept u new.undone ≡ record { past = take limit (plain_of s ∷ (bench_at ks s us).past); present = named_of next; later = [] }
  kept_bench limit new u undone g states =
      let count : length (ks ++ inverse ∷ []) ≡ suc (length ks) = length_push ks inverse ∙ omega arith in
      let from : machine_states new.kept u [] ≡ drop (suc (length ks) - limit) (take (suc (length ks)) (machine_states ks s us) ++ next ∷ []) =
      states ∙ ap (λ n. drop (n - limit) (machine_states (ks ++ inverse ∷ []) t [])) count ∙ ap (drop (suc (length ks) - limit)) applied_states in
      let past = (trail_of shown machine_states ks s us).past in
      ap (λ us. bench_at new.kept u us) undone
      ∙ ap (λ t. bench_as named_of (bench_in t)) (trail_kept machine_laws limit next ks us new.kept s u h.fits g from)
      ∙ newest_as named_of limit past (shown s) next

  -- what is kept now takes statements back
  pub kept_directed : (limit : ℕ) (new : Log MachineChange) → undefines_none change.name ≡ true → new.kept ≡ latest limit (ks ++ inverse ∷ []) → new.undone ≡ [] →
      Directed new.kept new.undone
  kept_directed limit new gives kept undone = record {
    kept_define_none =
        subst DefineNone (sym kept)
        (all_dropped (λ c. defines_none c.name ≡ true) _ (ks ++ inverse ∷ [])
        (all_push (λ c. defines_none c.name ≡ true) ks inverse h.none (swap_defines_none r t change inverse w gives)));
    undone_undefine_none = subst UndefineNone (sym undone) tt;
  }
