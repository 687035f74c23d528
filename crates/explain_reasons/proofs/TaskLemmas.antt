-- Tasks, gone through by their numbers.
use Rattle.std.proofs.Common.{◌≡◌, ℕ, suc, ◌+◌, ◌<◌, ◌≤◌, Bool, true, false, if◌then◌else◌, Option, Some, None, is_some, refl, sym, ap, ◌∙◌, arith, true≢false}
use Rattle.std.specs.Int.{from_bool}
use Rattle.std.specs.Prelude.{unwrap_or}
use Rattle.std.proofs.Props.{props}
use mathlib.Core.Logic.{∥∥₁_elim}
use Rattle.vsm_model.specs.Search.{IsLeastAmong, least, passing}
use Rattle.vsm_model.specs.State.{is_task}
use Rattle.vsm_model.proofs.Least.{least_by}
use Rattle.storage_changes.specs.Meaning.{IsSound}
use Rattle.storage_core.specs.declared.storage.Storage.{Storage}
use Rattle.storage_core.specs.Meaning.{settings_of, state_in_place, state_of}

-- a number that passes is counted
pub one_more : (f : ℕ → Bool) (at above rest next : ℕ) → above ≡ suc at → rest ≡ suc next → passing f at rest ≡ (if f at then 1 else 0) + passing f above next
one_more f at above rest next up e = ap (passing f at) e ∙ ap (λ (n : ℕ). (if f at then 1 else 0) + passing f n next) (sym up)

pub bit_is : (b : Bool) → from_bool b ≡ (if b then 1 else 0)
bit_is true = refl
bit_is false = refl

pub at_most_one : (b : Bool) → (if b then 1 else 0) ≤ 1
at_most_one true = omega arith
at_most_one false = omega arith

-- the least that passes is found, or there is none
pub least_found : (f : ℕ → Bool) (at : ℕ) → f at ≡ true → 1 ≤ at → at ≤ 64 → ((k : ℕ) → 1 ≤ k → k < at → f k ≡ false) → at ≡ unwrap_or (least f 1 64) 0
least_found f at passes from to none =
    let found : IsLeastAmong f 1 64 (Some at) = (passes, from, omega (arith, to), none) in
    ap (λ (o : Option ℕ). unwrap_or o 0) (least_by f 1 64 (Some at) found)

pub least_none : (f : ℕ → Bool) (at : ℕ) → 65 ≤ at → ((k : ℕ) → 1 ≤ k → k < at → f k ≡ false) → 0 ≡ unwrap_or (least f 1 64) 0
least_none f at past none =
    let found : IsLeastAmong f 1 64 None = λ k from below. none k from (omega (arith, below, past)) in
    ap (λ (o : Option ℕ). unwrap_or o 0) (least_by f 1 64 None found)

-- no task has a number above 64
no_task : (s : Storage) (task : ℕ) → 64 < task → is_task (state_of s) task ≡ false
no_task s task high = ∥∥₁_elim s.held.sound (hlevel props) (λ sound. go sound (is_task (state_of s) task) refl) where
  go : IsSound (settings_of s) (state_in_place s) → (b : Bool) → is_task (state_of s) task ≡ b → is_task (state_of s) task ≡ false
  go sound true e = absurd (let low = sound.well_formed.tasks.numbered task e in omega (arith, low.1, high))
  go sound false e = e

none_is : (o : Option ℕ) → is_some o ≡ false → 0 ≡ unwrap_or o 0
none_is None e = refl
none_is (Some n) e = absurd (true≢false e)

pub no_parent : (s : Storage) (task : ℕ) → 64 < task → 0 ≡ unwrap_or ((state_of s).parents task) 0
no_parent s task high = none_is ((state_of s).parents task) (no_task s task high)
