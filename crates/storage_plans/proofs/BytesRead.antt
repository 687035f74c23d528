-- Bytes that are read from the frames of assigned pages.
use Rattle.std.proofs.Common.{◌≡◌, ℕ, zero, suc, ◌+◌, ◌-◌, ◌<◌, ◌≤◌, ◌/◌, Bool, true, false, if◌then◌else◌, List, [], ◌∷◌, length, Some, None, is_some, refl, sym, ◌∙◌, ap, arith}
use Rattle.std.specs.Prelude.{slice_index_or}
use Rattle.std.proofs.lemmas.Bool.{cond-true, cond-false}
use Rattle.descriptor_queue.specs.Pages.{is_unassigned}
use Rattle.raw_region.specs.Pages.{byte_at, bytes_at, Loads, IsLowest}
use Rattle.raw_region.proofs.ForCallers.{byte_at-unassigned}
use Rattle.vsm_model.specs.Bytes.{byte_or_zero, are_there, bytes_from, load}
use Rattle.vsm_model.specs.State.{State}
use Rattle.vsm_model.proofs.Least.{all_pass_from, all_pass_stops}
use Rattle.storage_changes.specs.Meaning.{model_of}
use Rattle.storage_swap.specs.declared.storage.Parts.{Parts}
use Rattle.storage_swap.specs.Storage.{state_of}
use Rattle.storage_swap.specs.Storage.{IsFrameless}

same_place : (a : ℕ) → a ≡ a + 0
same_place a = omega arith

next_place : (a i : ℕ) → suc a + i ≡ a + suc i
next_place a i = omega arith

-- a list is what is read if each of its places has the byte of an address
bytes_got : (n : ℕ) (xs : List ℕ) (s : State) (a : ℕ) → length xs ≡ n → ((i : ℕ) → i < n → s.bytes (a + i) ≡ Some (slice_index_or xs i 0)) → bytes_from s a n ≡ xs
bytes_got zero [] s a e h = refl
bytes_got zero (x ∷ xs) s a e h = cc
bytes_got (suc n) [] s a e h = cc
bytes_got (suc n) (x ∷ xs) s a e h =
    let first : byte_or_zero (s.bytes a) ≡ x = ap byte_or_zero (ap s.bytes (same_place a) ∙ h 0 (omega arith)) in
    let rest : bytes_from s (suc a) n ≡ xs = bytes_got n xs s (suc a) (omega (arith, e)) (λ i l. ap s.bytes (next_place a i) ∙ h (suc i) (omega (arith, l))) in
    λ j. first j ∷ rest j

module _ (p : Parts) (frameless : IsFrameless p) where
  abbrev s : State
  s = model_of (state_of p)

  -- the byte of the state is that of the region
  pub byte_shown : (a : ℕ) → s.bytes a ≡ byte_at p.region a
  byte_shown a = go (is_unassigned p.elements p.unassigned (a / 4096)) refl where
    go : (b : Bool) → is_unassigned p.elements p.unassigned (a / 4096) ≡ b → (if b then None else byte_at p.region a) ≡ byte_at p.region a
    go true e = sym (byte_at-unassigned p.region a (frameless (a / 4096) e))
    go false e = refl

  from_first : (address i : ℕ) → address + i ≡ address + (i - 0)
  from_first address i = omega arith

  -- what was read is what the plain machine loads
  pub loaded : (had new : List ℕ) (address : ℕ) → Loads p.region had new address 0 (length had) → load s address (length had) ≡ Some new
  loaded had new address loads =
      cond-true (are_there s address (length had)) (Some (bytes_from s address (length had))) None there
      ∙ ap Some (bytes_got (length had) new s address loads.same_length got) where
        back : (k : ℕ) → address ≤ k → k ≡ address + (k - address)
        back k low = omega (arith, low)

        got : (i : ℕ) → i < length had → s.bytes (address + i) ≡ Some (slice_index_or new i 0)
        got i l = byte_shown (address + i) ∙ ap (byte_at p.region) (from_first address i) ∙ loads.got i (omega arith) l

        there : are_there s address (length had) ≡ true
        there = all_pass_from (λ a. is_some (s.bytes a)) address (length had)
            (λ k low high. ap (λ a. is_some (s.bytes a)) (back k low) ∙ ap is_some (got (k - address) (omega (arith, low, high))))

  -- what doesn't exist isn't loaded
  pub not_loaded : (count address page : ℕ) → IsLowest p.region address count page → load s address count ≡ None
  not_loaded count address page low =
      cond-false (are_there s address count) (Some (bytes_from s address count)) None (sym (all_pass_stops (λ a. is_some (s.bytes a)) address count low.place low.inside (ap is_some none))) where
        absent : bytes_at p.region ((address + low.place) / 4096) ≡ None
        absent = ap (bytes_at p.region) (sym low.is_page) ∙ low.absent

        none : s.bytes (address + low.place) ≡ None
        none = byte_shown (address + low.place) ∙ byte_at-unassigned p.region (address + low.place) absent
