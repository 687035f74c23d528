-- Walks that are equal at every place, and values that are chosen by tests.
use Rattle.std.proofs.Common.{◌≡◌, ℕ, Bool, true, false, not, ◌&&◌, ◌||◌, if◌then◌else◌, List, Option, Some, None, IsSome, refl}
use Rattle.raw_region.specs.Pages.{byte_of}
use Rattle.storage_changes.specs.Walk.{Walk}

pub walk-by-places : (v w : Walk) → v.state.tasks.current ≡ w.state.tasks.current → ((task : ℕ) → v.state.tasks.parents task ≡ w.state.tasks.parents task)
    → ((task r : ℕ) → v.state.tasks.words task r ≡ w.state.tasks.words task r) → v.state.subpools ≡ w.state.subpools
    → ((page : ℕ) → v.state.unassigned page ≡ w.state.unassigned page) → ((a : ℕ) → v.state.bytes a ≡ w.state.bytes a)
    → ((a : ℕ) → v.brought a ≡ w.brought a) → ((a : ℕ) → v.given a ≡ w.given a) → v.parked ≡ w.parked → v.spare ≡ w.spare → v ≡ w
walk-by-places v w a b c d e f g h k l = λ i. record {
  state = record { tasks = record { current = a i; parents = λ task. b task i; words = λ task r. c task r i }; subpools = d i; unassigned = λ page. e page i; bytes = λ x. f x i };
  brought = λ x. g x i;
  given = λ x. h x i;
  parked = k i;
  spare = l i;
}

-- what the lower calls say of a set, as a choice
pub joined-if : (b o : Bool) → (b || o) ≡ (if b then true else o)
joined-if true o = refl
joined-if false o = refl

pub left-if : (b o : Bool) → (not b && o) ≡ (if b then false else o)
left-if true o = refl
left-if false o = refl

-- a byte that exists is not masked
pub not-masked : (b : Bool) (x : Option ℕ) → IsSome (if b then None else x) → (b ≡ false) × IsSome x
not-masked true x h = cc
not-masked false x h = (refl, h)

pub no-byte : (o : Option (List ℕ)) (n : ℕ) → byte_of o n ≡ None → o ≡ None
no-byte None n h = refl
no-byte (Some y) n h = cc
