-- The registers that a service on a cell pool sets, register by register.
use Rattle.std.proofs.Common.{◌≡◌, ◌≢◌, ◌⊎◌, ℕ, Option, Some, None, ◌∷◌, sym, ◌∙◌, ap, subst, inl, inr, arith}
use Rattle.vsm_model.specs.State.{State}
use Rattle.vsm_model.specs.Registers.{with_register, with_registers, named_register}
use Rattle.service_laws.specs.CellRegisters.{AddressIsSet}
use Rattle.service_laws.specs.StorageRegisters.{ReturnCodeIsSet}
use Rattle.service_laws.proofs.Registers.{kept_there, set_or_kept, set_there}

none_is : (r : ℕ) → ◌≡◌ {A = Option ℕ} None (Some r) → ⊥
none_is r e = cc

some_is : (q r : ℕ) → ◌≡◌ {A = Option ℕ} (Some q) (Some r) → q ≡ r
some_is q r e = cc

unnamed : (s : State) (address : ℕ) → AddressIsSet s (with_register (with_register s 15 0) 1 address) None address
unnamed s address =
    let v : State = with_register s 15 0 in
    record {
      register_1 = set_there v 1 address;
      register_named = λ r e. absurd (none_is r e);
      register_15 = λ _. kept_there v 1 address s.current 15 (inr (λ e. omega (arith, e))) ∙ set_there s 15 0;
      other_registers = λ r not_1 not_15 _. kept_there v 1 address s.current r (inr not_1) ∙ kept_there s 15 0 s.current r (inr not_15);
      other_tasks = λ task r other. kept_there v 1 address task r (inl other) ∙ kept_there s 15 0 task r (inl other);
    }

pub address_in : (s : State) (named : Option ℕ) (address : ℕ) →
    AddressIsSet s (with_registers s ((15, 0) ∷ (1, address) ∷ named_register named address)) named address
address_in s None address = unnamed s address
address_in s (Some q) address =
    let v : State = with_register (with_register s 15 0) 1 address in
    let before : AddressIsSet s v None address = unnamed s address in
    let none : (r : ℕ) → ◌≢◌ {A = Option ℕ} None (Some r) = λ r e. none_is r e in
    record {
      register_1 = set_or_kept v q address 1 before.register_1;
      register_named = λ r e. subst (λ r. (with_register v q address).words s.current r ≡ address) (some_is q r e) (set_there v q address);
      register_15 = λ not_named.
          kept_there v q address s.current 15 (inr (λ e. not_named (ap Some (sym e)))) ∙ before.register_15 (none 15);
      other_registers = λ r not_1 not_15 not_named.
          kept_there v q address s.current r (inr (λ e. not_named (ap Some (sym e)))) ∙ before.other_registers r not_1 not_15 (none r);
      other_tasks = λ task r other. kept_there v q address task r (inl other) ∙ before.other_tasks task r other;
    }

-- what holds from a state with the same tasks and registers holds from this one
pub code_from : (s u t : State) (code : ℕ) → u.current ≡ s.current → u.words ≡ s.words → ReturnCodeIsSet u t code → ReturnCodeIsSet s t code
code_from s u t code now same h = record {
  register_15 = ap (λ k. t.words k 15) (sym now) ∙ h.register_15;
  other_registers = λ task r other. h.other_registers task r (apart other) ∙ ap (λ (f : ℕ → ℕ → ℕ). f task r) same;
} where
  apart : {task r : ℕ} → (task ≢ s.current) ⊎ (r ≢ 15) → (task ≢ u.current) ⊎ (r ≢ 15)
  apart (inl other) = inl (λ e. other (e ∙ now))
  apart (inr other) = inr other

pub address_from : (s u t : State) (named : Option ℕ) (address : ℕ) → u.current ≡ s.current → u.words ≡ s.words → AddressIsSet u t named address →
    AddressIsSet s t named address
address_from s u t named address now same h = record {
  register_1 = ap (λ k. t.words k 1) (sym now) ∙ h.register_1;
  register_named = λ r is. ap (λ k. t.words k r) (sym now) ∙ h.register_named r is;
  register_15 = λ not_named. ap (λ k. t.words k 15) (sym now) ∙ h.register_15 not_named;
  other_registers = λ r not_1 not_15 not_named.
      ap (λ k. t.words k r) (sym now) ∙ h.other_registers r not_1 not_15 not_named ∙ ap (λ (f : ℕ → ℕ → ℕ). f u.current r) same ∙ ap (λ k. s.words k r) now;
  other_tasks = λ task r other. h.other_tasks task r (λ e. other (e ∙ now)) ∙ ap (λ (f : ℕ → ℕ → ℕ). f task r) same;
}
