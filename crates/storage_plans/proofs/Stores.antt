-- What a store needs of the storage, and what its plan leads to.
use Rattle.std.proofs.Common.{◌≡◌, ℕ, suc, zero, ◌+◌, ◌-◌, ◌*◌, ◌<◌, ◌≤◌, ◌/◌, Bool, true, false, not, List, [], ◌∷◌, length, slice_index_or, Some, None, Ok, IsSome, is_some, if◌then◌else◌, sym, ◌∙◌, ap, subst, arith, inl, inr}
use Rattle.std.specs.List.{All}
use Rattle.std.proofs.Math.Logic.{∥∥₁_map}
use Rattle.std.proofs.lemmas.Bool.{cases_eq, cases_lt}
use Rattle.vsm_model.specs.declared.causes.Cause.TheVariants.{NotAssigned}
use Rattle.vsm_model.specs.declared.limits.Settings.{Settings}
use Rattle.vsm_model.specs.declared.replies.Reply.TheVariants.{Stored}
use Rattle.vsm_model.specs.Bytes.{are_there, with_bytes}
use Rattle.vsm_model.specs.Services.{store}
use Rattle.vsm_model.specs.Standing.{Accepted}
use Rattle.vsm_model.specs.State.{State}
use Rattle.vsm_model.specs.Step.{step, answered}
use Rattle.vsm_model.proofs.Chosen.{Stepped}
use Rattle.vsm_model.proofs.Least.{all_pass_at, all_pass_from, all_pass_stops}
use Rattle.raw_region.specs.Pages.{bytes_at}
use Rattle.raw_region.proofs.ForCallers.{byte_at-assigned}
use Rattle.service_laws.proofs.Kept.{store_leaves_well_formed}
use Rattle.storage_changes.specs.declared.record.Record.{Record}
use Rattle.storage_changes.specs.declared.record.Record.TheVariants.{Bytes}
use Rattle.storage_changes.specs.State.{StorageState}
use Rattle.storage_changes.specs.Meaning.{model_of, IsSound}
use Rattle.storage_changes.specs.Turned.{read}
use Rattle.storage_changes.specs.StorageActions.{bytes_with, blocks_for}
use Rattle.storage_changes.specs.Leads.{Leads}
use Rattle.storage_changes.proofs.Writing.{writing_leads}
use Rattle.storage_swap.specs.declared.storage.Parts.{Parts}
use Rattle.storage_swap.specs.Storage.{state_of, IsFrameless}
use Rattle.storage_plans.specs.declared.store.StorePlan.{StorePlan}
use Rattle.storage_plans.specs.StorePlans.{store_change, IsStorePlanned}
use Rattle.storage_plans.proofs.BytesRead.{byte_shown}

-- the record of a block with the bytes of a store over it
abbrev pub block_record : StorageState → ℕ → List ℕ → ℕ → Record
block_record m address bytes block = Bytes (record { block = block; bytes = read (bytes_with m.bytes address bytes) (16 * block) 16 })

-- a block that bytes touch has an address of theirs
touched : (address n block : ℕ) → address / 16 ≤ block → block < address / 16 + blocks_for address n → (y : ℕ) × (address ≤ y) × (y < address + n) × (y / 16 ≡ block)
touched address zero block low high = absurd (omega (arith, low, high))
touched address (suc n) block low high =
    elim (cases_lt (16 * block) address) [
      | inl below ↦ (address, omega arith, omega arith, omega (arith, below, low))
      | inr from ↦ (16 * block, from, omega (arith, low, high), omega arith)
    ]

module _ (p : Parts) (frameless : IsFrameless p) where
  abbrev s : State
  s = model_of (state_of p)

  abbrev has_byte : ℕ → Bool
  has_byte a = is_some (s.bytes a)

  abbrev has_page : ℕ → Bool
  has_page page = is_some (bytes_at p.region page)

  by_page : (a : ℕ) → has_byte a ≡ has_page (a / 4096)
  by_page a = ap is_some (byte_shown p frameless a) ∙ byte_at-assigned p.region a

  -- Bytes that aren't more than a page has exist if the first and the last one do.
  pub both_ends : (address n : ℕ) (last : Bool) → 0 < n → n ≤ 256 → has_page (address / 4096) ≡ true → last ≡ has_page ((address + n - 1) / 4096) → last ≡ are_there s address n
  both_ends address n true some few first last = sym (all_pass_from has_byte address n each) where
    each : (k : ℕ) → address ≤ k → k < address + n → has_byte k ≡ true
    each k low high =
        by_page k ∙ elim (cases_eq (k / 4096) (address / 4096)) [
          | inl is ↦ ap has_page is ∙ first
          | inr other ↦ let same : k / 4096 ≡ (address + n - 1) / 4096 = omega (arith, low, high, few, other) in ap has_page same ∙ sym last
        ]
  both_ends address n false some few first last =
      let same : (address + (n - 1)) / 4096 ≡ (address + n - 1) / 4096 = omega (arith, some) in
      all_pass_stops has_byte address n (n - 1) (omega (arith, some)) (by_page (address + (n - 1)) ∙ ap has_page same ∙ sym last)

  pub first_absent : (address n : ℕ) → 0 < n → has_page (address / 4096) ≡ false → false ≡ are_there s address n
  first_absent address n some absent =
      let same : (address + 0) / 4096 ≡ address / 4096 = omega arith in
      all_pass_stops has_byte address n 0 some (by_page (address + 0) ∙ ap has_page same ∙ absent)

  -- each address of a block that the bytes touch has its byte, as the block lies in one page
  pub block_there : (address n block : ℕ) → are_there s address n ≡ true → address / 16 ≤ block → block < address / 16 + blocks_for address n → (a : ℕ) → a / 16 ≡ block → IsSome (s.bytes a)
  block_there address n block there low high a is =
      let (y, from, below, same) = touched address n block low high in
      let page : a / 4096 ≡ y / 4096 = omega (arith, same, is) in
      by_page a ∙ ap has_page page ∙ sym (by_page y) ∙ all_pass_at has_byte address n y there from below

-- a store whose bytes exist is accepted
pub store_accepted :
    (settings : Settings) (names_full : Bool) (s : State) (address : ℕ) (bytes : List ℕ) → are_there s address (length bytes) ≡ true
    → step settings names_full s (store address bytes) ≡ Accepted (with_bytes s address bytes) Stored
store_accepted settings names_full s address bytes there = ap (λ b. answered settings s (store address bytes) (if not b then Some NotAssigned else None)) there

-- a list whose places all have bytes is one of bytes
pub are_bytes : (xs : List ℕ) → ((i : ℕ) → slice_index_or xs i 0 < 256) → All (λ byte. byte < 256) xs
are_bytes [] fits k d below = absurd (omega (arith, below))
are_bytes (x ∷ xs) fits zero d below = fits 0
are_bytes (x ∷ xs) fits (suc k) d below = are_bytes xs (λ i. fits (suc i)) k d (omega (arith, below))

-- the plan of a store
pub store_planned :
    (settings : Settings) (names_full : Bool) (m : StorageState) (plan : StorePlan) → length plan.bytes.now ≤ 256 → are_there (model_of m) plan.address (length plan.bytes.now) ≡ true
    → All (λ byte. byte < 256) plan.bytes.now → ∥ IsSound settings m ∥₁ → IsStorePlanned settings names_full m (store plan.address plan.bytes.now) (Ok plan)
store_planned settings names_full m plan few there are sound =
    let address : ℕ = plan.address in
    let bytes : List ℕ = plan.bytes.now in
    let after : State = with_bytes (model_of m) address bytes in
    let outcome : State → Stepped = λ s. Accepted s Stored in
    let accepted : step settings names_full (model_of m) (store address bytes) ≡ Accepted after Stored = store_accepted settings names_full (model_of m) address bytes there in (
      ∥∥₁_map sound (λ h.
          let its : Leads settings m (store_change m plan) after =
          writing_leads settings m address bytes h there (store_leaves_well_formed settings names_full (model_of m) after address bytes Stored are h.well_formed accepted) in
          record { accepted = accepted ∙ ap outcome (sym its.leads); fits = its.fits; sound = its.sound }),
      record { few = few; there = there },
    )
