-- Which registers an obtain or a release sets, by the registers before and after.
-- Assembler Services Reference, GETMAIN, FREEMAIN and STORAGE, "Output register information".
use Rattle.std.specs.Prelude.{◌≡◌, ◌≢◌, ℕ, ◌⊎◌, Option, Some}
use Rattle.vsm_model.specs.declared.services.Lengths.{Lengths}
use Rattle.vsm_model.specs.declared.services.Lengths.TheVariants.{Fixed, Variable}
use Rattle.vsm_model.specs.State.{State}

-- From s to t, register 15 of the current task has the return code, and no other register changes.
pub record ReturnCodeIsSet (s t : State) (code : ℕ) : Type 0 where
  pub register_15 : t.words s.current 15 ≡ code
  pub other_registers : (task r : ℕ) → (task ≢ s.current) ⊎ (r ≢ 15) → t.words task r ≡ s.words task r

-- From s to t, the return code is in register 15, and nothing else changes.
pub record ReturnCodeIsAll (s t : State) (code : ℕ) : Type 0 where
  pub same : t ≡ record s { words = t.words }
  pub registers : ReturnCodeIsSet s t code

-- a length was asked for by its bounds
abbrev pub IsVariable : Lengths → Type 0
IsVariable (Fixed length) = ⊥
IsVariable (Variable maximum minimum) = Unit {0}

-- From s to t, register 1 of the current task and the register that is named have the address of an area, register 0
-- has the length of one that was asked for by bounds, and register 15 is 0; but the register that is named has the
-- address in any case. No other register changes.
pub record AddressIsSet (s t : State) (lengths : Lengths) (named : Option ℕ) (address given : ℕ) : Type 0 where
  pub register_1 : t.words s.current 1 ≡ address
  pub register_named : (r : ℕ) → named ≡ Some r → t.words s.current r ≡ address
  pub register_0 : IsVariable lengths → named ≢ Some 0 → t.words s.current 0 ≡ given
  pub register_15 : named ≢ Some 15 → t.words s.current 15 ≡ 0
  pub other_registers :
      (r : ℕ) → r ≢ 1 → r ≢ 15 → (r ≢ 0) ⊎ (IsVariable lengths → ⊥) → named ≢ Some r →
      t.words s.current r ≡ s.words s.current r
  pub other_tasks : (task r : ℕ) → task ≢ s.current → t.words task r ≡ s.words task r
