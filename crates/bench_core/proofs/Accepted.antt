-- A plan that was accepted, and the change that was made of it.
use Rattle.std.proofs.Common.{◌≡◌, ℕ, List, ◌∷◌, ◌++◌, Err, sym, subst, refl, arith, Result, Ok, IsOk}
use Rattle.std.proofs.Props.{props}
use mathlib.Core.Logic.{∥∥₁_elim}
use Rattle.vsm_model.specs.declared.limits.Settings.{Settings}
use Rattle.vsm_model.specs.Names.{NamedState}
use Rattle.vsm_model.specs.Standing.{Bench, Accepted, Refused, Keeps, Apply}
use Rattle.macro_statements.specs.Requests.{Act}
use Rattle.storage_changes.specs.State.{StorageState}
use Rattle.storage_changes.specs.Changes.{Change as StorageChange}
use Rattle.storage_changes.specs.Changes as storage
use Rattle.storage_changes.specs.Meaning.{model_of}
use Rattle.storage_changes.specs.Props.{Fit-prop, NamedState-set, Reply-set, Outcome-set}
use Rattle.storage_swap.specs.declared.storage.Parts.{Parts}
use Rattle.storage_swap.specs.declared.change.Change.{Change as RawChange}
use Rattle.storage_swap.specs.Apart.{AreWhole}
use Rattle.storage_swap.specs.HistoryKept.{apart-put, hold-append, blanks-append, frames-append}
use Rattle.storage_swap.specs.ReservedFit.{reserve-others, reserve-apart, reserve-whole}
use Rattle.vsm_machine.specs.Meaning.{state_in_place, settings_of}
use Rattle.vsm_machine.specs.Planned.{IsIdFor, change_for, reply_of}
use Rattle.vsm_machine.specs.Stays.{Stays}
use Rattle.vsm_machine.specs.NameTable.{rows_of}
use Rattle.vsm_machine.specs.declared.machine.Machine.{Machine}
use Rattle.vsm_machine.specs.declared.machine.MachineChange.{MachineChange}
use Rattle.vsm_machine.specs.declared.plans.Planned.{Planned}
use Rattle.vsm_machine.specs.declared.refusals.Refusal.{Refusal}
use Rattle.vsm_machine.specs.NameSteps.{stepped_by, FitsTable}
use Rattle.vsm_machine.specs.Changes.{MachineState, named_of, shown, plain_of, means, storages, storages_at, storages_of, fit, overlay, StorageFits, Apart, Whole, machine_fits, machine_steps, DefineNone}
use Rattle.vsm_machine.specs.Machine.{Why, unknown_name, abended, statement_step}
use Rattle.vsm_machine.specs.Planned.{difference_in, CanCarryOut, IsChangeOf}
use Rattle.vsm_machine.specs.Refusals.{refusal_for}
use Rattle.bench_core.specs.Stands.{answer_to_apply}
use Rattle.bench_core.proofs.Applied.{Readied, Reserved}

Why-set : IsSet Why
Why-set = hlevel props

module _ (m : MachineState) (x : Act) (p : Planned) (h : CanCarryOut m x p) (id : ℕ) (free : IsIdFor m.storage p.plan id) where
  pub accepted_of : statement_step m.settings (named_of m) x ≡ Accepted (named_of (overlay m (difference_in m id p))) (reply_of p.plan)
  accepted_of = ∥∥₁_elim (h.accepted id free) (Outcome-set NamedState-set Reply-set Why-set _ _) (λ a. a.accepted)

  pub fits_of : StorageFits m.settings m.storage (change_for m.storage id p.plan)
  fits_of = ∥∥₁_elim (h.accepted id free) (hlevel (Fit-prop m.storage (change_for m.storage id p.plan), props)) (λ a. a.fits)

-- what is whole with a change before all is whole with it between the others
whole_put : (xs ys : List RawChange) (c : RawChange) (p : Parts) → AreWhole p (c ∷ (xs ++ ys)) → AreWhole p (xs ++ c ∷ ys)
whole_put xs ys c p h = record {
  apart = apart-put xs ys c p h.apart;
  all = λ i live. omega (arith, h.all i live, hold-append p.elements xs (c ∷ ys) i, hold-append p.elements xs ys i);
  all_aside = omega (arith, h.all_aside, blanks-append xs (c ∷ ys), blanks-append xs ys);
  all_out = omega (arith, h.all_out, frames-append xs (c ∷ ys), frames-append xs ys);
}

module _ (s r : Machine) (settings : settings_of r.storage ≡ settings_of s.storage) (rows : rows_of r.names ≡ rows_of s.names) where
  -- a machine whose storage stays
  pub stays_readied : Stays s.storage.parts r.storage.parts → Readied s r
  stays_readied stays = record {
    shows = λ i. record { settings = settings i; storage = stays.shows i; names = rows i };
    others = λ x. stays.meaning x.storage;
    apart = λ xs. stays.apart (storages xs);
  }

  -- a machine for which a change was made
  module _ (p : Planned) (change : MachineChange) (is : IsChangeOf s p r change) where
    made_apart : (xs : List MachineChange) → Apart s xs → Apart r (change ∷ xs)
    made_apart xs = reserve-apart s.storage.parts r.storage.parts (change_for (state_in_place s.storage) is.id p.plan) change.storage is.storage (storages xs)

    made_whole : (ks us : List MachineChange) → Whole s (ks ++ us) → Whole r (ks ++ change ∷ us)
    made_whole ks us h =
        subst (AreWhole r.storage.parts) (sym (storages_at ks us change))
        (whole_put (storages ks) (storages us) change.storage r.storage.parts
        (reserve-whole s.storage.parts r.storage.parts (change_for (state_in_place s.storage) is.id p.plan) change.storage is.storage (storages ks ++ storages us)
        (subst (AreWhole s.storage.parts) (storages_of ks us) h)))

    made_readied : Readied s r
    made_readied = record {
      shows = λ i. record { settings = settings i; storage = is.storage.shows i; names = rows i };
      others = λ x. reserve-others s.storage.parts r.storage.parts (change_for (state_in_place s.storage) is.id p.plan) change.storage is.storage x.storage;
      apart = λ xs h. machine_steps.rest xs change r (made_apart xs h);
    }

    made_fits : StorageFits (settings_of s.storage) (state_in_place s.storage) (change_for (state_in_place s.storage) is.id p.plan) → FitsTable r.names change.name →
        fit (shown r) (means r change)
    made_fits h can = (
      subst (λ (d : StorageChange). StorageFits (settings_of r.storage) (state_in_place r.storage) d) (sym is.storage.meaning)
          (subst (λ (m : StorageState). StorageFits (settings_of r.storage) m (change_for (state_in_place s.storage) is.id p.plan)) (sym is.storage.shows)
          (subst (λ (c : Settings). StorageFits c (state_in_place s.storage) (change_for (state_in_place s.storage) is.id p.plan)) (sym settings) h)),
      can.0,
      can.1,
    )

    pub reserved_of : (x : Act) (ks us ls vs : List MachineChange) → ls ≡ ks → vs ≡ us → machine_fits ks s us → Whole s (ks ++ us) → DefineNone ks →
        CanCarryOut (shown s) x p →
        FitsTable r.names change.name →
        Reserved ls vs s r change
    reserved_of x ks us ls vs l v f whole none a can =
        let fits : machine_fits ls s vs = subst (λ zs. machine_fits zs s vs) (sym l) (subst (λ zs. machine_fits ks s zs) (sym v) f) in
        let stands : Whole s (ls ++ vs) = subst (λ zs. Whole s (zs ++ vs)) (sym l) (subst (λ zs. Whole s (ks ++ zs)) (sym v) whole) in
        record {
          fits = fits;
          none = subst DefineNone (sym l) none;
          readied = made_readied;
          can = made_fits (fits_of (shown s) x p a is.id is.free) can;
          apart = made_apart (ls ++ vs) fits.1;
          whole = made_whole ls vs stands;
        }

-- the statement is accepted with the state that its change leads to
pub accepted_as : (s r : Machine) (x : Act) (p : Planned) (c : MachineChange) → CanCarryOut (shown s) x p → IsChangeOf s p r c →
    statement_step (settings_of s.storage) (plain_of s) x ≡ Accepted (named_of (overlay (shown s) (means r c))) (reply_of p.plan)
accepted_as s r x p c a is =
    subst (λ (m : NamedState). statement_step (settings_of s.storage) (plain_of s) x ≡ Accepted m (reply_of p.plan))
    (λ i. record {
      storage = model_of (storage.overlay (state_in_place s.storage) (sym is.storage.meaning i));
      names = stepped_by (rows_of s.names) (sym is.step i);
    })
    (accepted_of (shown s) x p a is.id is.free)

-- a refusal is reported as one
pub refused_as : (settings : Settings) (limit : ℕ) (b : Bench NamedState) (x : Act) (e : Refusal) (why : Why) → statement_step settings b.present x ≡ Refused why → e ≡ refusal_for why →
    Keeps (statement_step settings) limit b (Apply x) (answer_to_apply (Err e)) b
refused_as settings limit b x e why refused told =
    subst (λ (e : Refusal). Keeps (statement_step settings) limit b (Apply x) (answer_to_apply (Err e)) b) (sym told) (by why refused)
  where
    by : (why : Why) → statement_step settings b.present x ≡ Refused why → Keeps (statement_step settings) limit b (Apply x) (answer_to_apply (Err (refusal_for why))) b
    by unknown_name h = (h, refl)
    by (abended code) h = (h, refl)

-- what failed isn't a success
pub failed_isnt_ok : {T E : Type 0} (e : E) (r : Result T E) → r ≡ Err e → IsOk r → ⊥
failed_isnt_ok e (Ok x) is ok = cc
failed_isnt_ok e (Err f) is ok = cc
