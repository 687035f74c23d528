-- The registers that a reply sets, register by register.
use Rattle.std.proofs.Common.{◌≡◌, ◌≢◌, ℕ, ◌⊎◌, Bool, true, false, ◌&&◌, ◌==◌, if◌then◌else◌, Option, Some, None, List, [], ◌∷◌, ◌++◌, refl, sym, ◌∙◌, ap, subst, inl, inr, arith}
use Rattle.std.proofs.lemmas.Bool.{cond-true, cond-false, and_from, and_left, and_right, eq-eqb, ne_eqb}
use Rattle.vsm_model.specs.declared.services.Lengths.{Lengths}
use Rattle.vsm_model.specs.declared.services.Lengths.TheVariants.{Fixed, Variable}
use Rattle.vsm_model.specs.State.{State}
use Rattle.vsm_model.specs.Registers.{with_register, with_registers, length_register, named_register}
use Rattle.service_laws.specs.StorageRegisters.{ReturnCodeIsSet, ReturnCodeIsAll, AddressIsSet}
use Rattle.service_laws.proofs.Cases.{same_some, none_some}

-- two numbers aren't both those of a test
pub not_both : (a b m n : ℕ) → (a ≢ b) ⊎ (m ≢ n) → ((a == b) && (m == n)) ≡ false
not_both a b m n (inl other) = and_left (a == b) (m == n) (ne_eqb a b other)
not_both a b m n (inr other) = and_right (a == b) (m == n) (ne_eqb m n other)

pub both_same : (a m : ℕ) → ((a == a) && (m == m)) ≡ true
both_same a m = and_from (a == a) (m == m) (eq-eqb a a refl) (eq-eqb m m refl)

either_same : {A : Type 0} (b : Bool) (x y : A) → y ≡ x → (if b then x else y) ≡ x
either_same true x y e = refl
either_same false x y e = e

module _ (s : State) (register word : ℕ) where
  pub set_there : (with_register s register word).words s.current register ≡ word
  set_there = cond-true ((s.current == s.current) && (register == register)) word (s.words s.current register) (both_same s.current register)

  pub kept_there : (task r : ℕ) → (task ≢ s.current) ⊎ (r ≢ register) → (with_register s register word).words task r ≡ s.words task r
  kept_there task r other = cond-false ((task == s.current) && (r == register)) word (s.words task r) (not_both task s.current r register other)

  pub set_or_kept : (r : ℕ) → s.words s.current r ≡ word → (with_register s register word).words s.current r ≡ word
  set_or_kept r e = either_same ((s.current == s.current) && (r == register)) word (s.words s.current r) e

pub code_is_set : (s : State) (code : ℕ) → ReturnCodeIsSet s (with_register s 15 code) code
code_is_set s code = record { register_15 = set_there s 15 code; other_registers = kept_there s 15 code }

pub code_is_all : (s t : State) (code : ℕ) → t ≡ with_register s 15 code → ReturnCodeIsAll s t code
code_is_all s t code e = subst (λ t. ReturnCodeIsAll s t code) (sym e) (record { same = refl; registers = code_is_set s code })

-- the registers before a length and a name are set
plain : (s : State) (address given length : ℕ) → AddressIsSet s (with_registers s ((15, 0) ∷ (1, address) ∷ [])) (Fixed length) None address given
plain s address given length =
    let v : State = with_register s 15 0 in
    record {
      register_1 = set_there v 1 address;
      register_named = λ r e. absurd (none_some r e);
      register_0 = λ never _. absurd never;
      register_15 = λ _. kept_there v 1 address s.current 15 (inr (λ e. omega (arith, e))) ∙ set_there s 15 0;
      other_registers = λ r not_1 not_15 _ _. kept_there v 1 address s.current r (inr not_1) ∙ kept_there s 15 0 s.current r (inr not_15);
      other_tasks = λ task r other. kept_there v 1 address task r (inl other) ∙ kept_there s 15 0 task r (inl other);
    }

-- the length too
with_length : (s : State) (address given most least : ℕ) →
    AddressIsSet s (with_registers s ((15, 0) ∷ (1, address) ∷ (0, given) ∷ [])) (Variable most least) None address given
with_length s address given most least =
    let v : State = with_registers s ((15, 0) ∷ (1, address) ∷ []) in
    let before : AddressIsSet s v (Fixed 0) None address given = plain s address given 0 in
    let none : (r : ℕ) → ◌≢◌ {A = Option ℕ} None (Some r) = λ r e. none_some r e in
    record {
      register_1 = kept_there v 0 given s.current 1 (inr (λ e. omega (arith, e))) ∙ before.register_1;
      register_named = λ r e. absurd (none_some r e);
      register_0 = λ _ _. set_there v 0 given;
      register_15 = λ _. kept_there v 0 given s.current 15 (inr (λ e. omega (arith, e))) ∙ before.register_15 (none 15);
      other_registers = λ r not_1 not_15 not_0 _.
          kept_there v 0 given s.current r (inr (elim not_0 [ inl other ↦ other | inr never ↦ absurd (never tt) ]))
          ∙ before.other_registers r not_1 not_15 (inr (λ never. never)) (none r);
      other_tasks = λ task r other. kept_there v 0 given task r (inl other) ∙ before.other_tasks task r other;
    }

-- the register that is named is set last
with_named : (s v : State) (lengths : Lengths) (q address given : ℕ) → v.current ≡ s.current → AddressIsSet s v lengths None address given →
    AddressIsSet s (with_register v q address) lengths (Some q) address given
with_named s v lengths q address given same before =
    let none : (r : ℕ) → ◌≢◌ {A = Option ℕ} None (Some r) = λ r e. none_some r e in
    let set : (r : ℕ) → r ≡ q → (with_register v q address).words s.current r ≡ address =
    λ r is. ap (λ c. (with_register v q address).words c r) (sym same) ∙ ap (λ r. (with_register v q address).words v.current r) is ∙ set_there v q address in
    let apart : (r : ℕ) → Some q ≢ Some r → (with_register v q address).words s.current r ≡ v.words s.current r =
    λ r other. kept_there v q address s.current r (inr (λ e. other (ap Some (sym e)))) in
    record {
      register_1 = ap (λ c. (with_register v q address).words c 1) (sym same)
          ∙ set_or_kept v q address 1 (ap (λ c. v.words c 1) same ∙ before.register_1);
      register_named = λ r e. set r (sym (same_some q r e));
      register_0 = λ variable other. apart 0 other ∙ before.register_0 variable (none 0);
      register_15 = λ other. apart 15 other ∙ before.register_15 (none 15);
      other_registers = λ r not_1 not_15 not_0 other. apart r other ∙ before.other_registers r not_1 not_15 not_0 (none r);
      other_tasks = λ task r other. kept_there v q address task r (inl (λ e. other (e ∙ same))) ∙ before.other_tasks task r other;
    }

pub address_in : (s : State) (lengths : Lengths) (named : Option ℕ) (address given : ℕ) →
    AddressIsSet s (with_registers s ((15, 0) ∷ (1, address) ∷ length_register lengths given ++ named_register named address)) lengths named address given
address_in s (Fixed length) None address given = plain s address given length
address_in s (Variable most least) None address given = with_length s address given most least
address_in s (Fixed length) (Some q) address given =
    with_named s (with_registers s ((15, 0) ∷ (1, address) ∷ [])) (Fixed length) q address given refl (plain s address given length)
address_in s (Variable most least) (Some q) address given =
    with_named s (with_registers s ((15, 0) ∷ (1, address) ∷ (0, given) ∷ [])) (Variable most least) q address given refl (with_length s address given most least)

-- the words after registers are set depend only on the words and the current task
pub same_words : (rows : List (ℕ × ℕ)) (s u : State) → u.words ≡ s.words → u.current ≡ s.current → (with_registers u rows).words ≡ (with_registers s rows).words
same_words [] s u words current = words
same_words (row ∷ rows) s u words current =
    same_words rows (with_register s row.0 row.1) (with_register u row.0 row.1)
    (λ i t r. if (t == current i) && (r == row.0) then row.1 else words i t r) current

-- the same of a state that has these words
pub address_is_set : (s t : State) (lengths : Lengths) (named : Option ℕ) (address given : ℕ) →
    t.words ≡ (with_registers s ((15, 0) ∷ (1, address) ∷ length_register lengths given ++ named_register named address)).words →
    AddressIsSet s t lengths named address given
address_is_set s t lengths named address given e =
    let h = address_in s lengths named address given in
    record {
      register_1 = ap (λ (f : ℕ → ℕ → ℕ). f s.current 1) e ∙ h.register_1;
      register_named = λ r is. ap (λ (f : ℕ → ℕ → ℕ). f s.current r) e ∙ h.register_named r is;
      register_0 = λ variable other. ap (λ (f : ℕ → ℕ → ℕ). f s.current 0) e ∙ h.register_0 variable other;
      register_15 = λ other. ap (λ (f : ℕ → ℕ → ℕ). f s.current 15) e ∙ h.register_15 other;
      other_registers = λ r not_1 not_15 not_0 other. ap (λ (f : ℕ → ℕ → ℕ). f s.current r) e ∙ h.other_registers r not_1 not_15 not_0 other;
      other_tasks = λ task r other. ap (λ (f : ℕ → ℕ → ℕ). f task r) e ∙ h.other_tasks task r other;
    }
