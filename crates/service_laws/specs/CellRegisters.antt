-- The registers that an accepted GET sets, by the state before and after.
-- Assembler Services Reference, CPOOL, "Output register information".
use Rattle.std.specs.Prelude.{◌≡◌, ◌≢◌, ℕ, Option, Some}
use Rattle.vsm_model.specs.State.{State}

-- From s to t, register 1 of the current task and the register that is named have the address of a cell, register 15 is
-- 0, unless it is the one that is named, and no other register changes.
pub record AddressIsSet (s t : State) (named : Option ℕ) (address : ℕ) : Type 0 where
  pub register_1 : t.words s.current 1 ≡ address
  pub register_named : (r : ℕ) → named ≡ Some r → t.words s.current r ≡ address
  pub register_15 : named ≢ Some 15 → t.words s.current 15 ≡ 0
  pub other_registers : (r : ℕ) → r ≢ 1 → r ≢ 15 → named ≢ Some r → t.words s.current r ≡ s.words s.current r
  pub other_tasks : (task r : ℕ) → task ≢ s.current → t.words task r ≡ s.words task r
