-- Bytes that are written.
use Rattle.std.proofs.Common.{◌≡◌, ℕ, zero, suc, ◌+◌, ◌-◌, ◌<◌, ◌≤◌, Bool, true, false, ◌==◌, if◌then◌else◌, List, [], ◌∷◌, map, length, Option, Some, None, IsSome, is_some, refl, sym, ◌∙◌, ap, arith, inl, inr, true≢false}
use Rattle.std.specs.Prelude.{◌/◌, ◌*◌, ◌%◌, slice_get, slice_index_or}
use Rattle.std.specs.List.{range_with_len}
use Rattle.std.proofs.lemmas.Bool.{cases_lt, cond-true, cond-false, eqb-true, eq-eqb}
use Rattle.run_set.specs.Runs.{inside}
use Rattle.vsm_model.specs.declared.limits.Settings.{Settings}
use Rattle.vsm_model.specs.Bytes.{byte_or_zero, are_there, with_bytes}
use Rattle.vsm_model.proofs.Least.{all_pass_at}
use Rattle.storage_changes.specs.declared.record.Record.{Record}
use Rattle.storage_changes.specs.declared.record.Record.TheVariants.{Bytes}
use Rattle.storage_changes.specs.State.{StorageState}
use Rattle.storage_changes.specs.Turned.{read}
use Rattle.storage_changes.specs.Meaning.{model_of, subpool_of, IsSound}
use Rattle.storage_changes.proofs.ByteSteps.{read-length, read-at}
use Rattle.storage_changes.specs.StorageActions.{run_of, bytes_with, blocks_for, write_records}
use Rattle.storage_changes.specs.Changes.{change_of}
use Rattle.storage_changes.specs.StorageLaws.{WritingLeads}
use Rattle.storage_changes.proofs.ActionCases.{inside_in, in_inside, not_inside}
use Rattle.storage_changes.proofs.Goes.{at, Goes, goes_nowhere, goes_to}
use Rattle.storage_changes.proofs.Rows.{stands_of, leads_with_rows, none_fresh, none_brought}

-- blocks with bytes of f
module _ (f : ℕ → Option ℕ) where
  abbrev block_record : ℕ → Record
  block_record block = Bytes (record { block = block; bytes = read f (16 * block) 16 })

  abbrev put : StorageState → ℕ → StorageState
  put m block = record m { bytes = λ x. if x / 16 == block then Some (slice_index_or (read f (16 * block) 16) (x % 16) 0) else m.bytes x }

  abbrev written : StorageState → ℕ → ℕ → StorageState
  written m block count = record m { bytes = λ x. if inside (x / 16) (run_of block count) then f x else m.bytes x }

  byte_is : (o : Option ℕ) → IsSome o → Some (byte_or_zero o) ≡ o
  byte_is None h = cc
  byte_is (Some x) h = refl

  byte_at : (x block : ℕ) → x / 16 ≡ block → IsSome (f x) → Some (slice_index_or (read f (16 * block) 16) (x % 16) 0) ≡ f x
  byte_at x block is some =
      let place : 16 * block + x % 16 ≡ x = omega (arith, is) in
      ap Some (read-at f (16 * block) 16 (x % 16) (omega arith) ∙ ap (λ y. byte_or_zero (f y)) place) ∙ byte_is (f x) some

  none_written : (m : StorageState) (block : ℕ) → m ≡ written m block 0
  none_written m block = λ i. record m {
    bytes = λ x. sym (cond-false (inside (x / 16) (run_of block 0)) (f x) (m.bytes x) (not_inside block 0 (x / 16) (λ low high. omega (arith, low, high)))) i;
  }

  -- one block, and then the others
  one_more :
      (m : StorageState) (block n x : ℕ) (b : Bool) → (x / 16 == block) ≡ b → (inside (x / 16) (run_of block (suc n)) ≡ true → IsSome (f x))
      → (if inside (x / 16) (run_of (block + 1) n) then f x else (if b then Some (slice_index_or (read f (16 * block) 16) (x % 16) 0) else m.bytes x))
      ≡ (if inside (x / 16) (run_of block (suc n)) then f x else m.bytes x)
  one_more m block n x true e some =
      let is = eqb-true (x / 16) block e in
      let own = in_inside block (suc n) (x / 16) (omega (arith, is)) (omega (arith, is)) in
      cond-false (inside (x / 16) (run_of (block + 1) n)) (f x) (Some (slice_index_or (read f (16 * block) 16) (x % 16) 0)) (not_inside (block + 1) n (x / 16) (λ low high. omega (arith, low, is)))
      ∙ byte_at x block is (some own) ∙ sym (cond-true (inside (x / 16) (run_of block (suc n))) (f x) (m.bytes x) own)
  one_more m block n x false e some = ap (λ b. if b then f x else m.bytes x) same where
    not_it : x / 16 ≡ block → ⊥
    not_it is = true≢false (sym (eq-eqb (x / 16) block is) ∙ e)

    go : (b : Bool) → inside (x / 16) (run_of (block + 1) n) ≡ b → b ≡ inside (x / 16) (run_of block (suc n))
    go true own = let at = inside_in (block + 1) n (x / 16) own in sym (in_inside block (suc n) (x / 16) (omega (arith, at.0)) (omega (arith, at.1)))
    go false other = sym (not_inside block (suc n) (x / 16)
        (λ low high. true≢false (sym (in_inside (block + 1) n (x / 16) (omega (arith, low, not_it)) (omega (arith, high))) ∙ other)))

    same : inside (x / 16) (run_of (block + 1) n) ≡ inside (x / 16) (run_of block (suc n))
    same = go (inside (x / 16) (run_of (block + 1) n)) refl

  blocks_written : (m : StorageState) (block n : ℕ) → ((x : ℕ) → inside (x / 16) (run_of block (suc n)) ≡ true → IsSome (f x)) → written (put m block) (block + 1) n ≡ written m block (suc n)
  blocks_written m block n some = λ i. record m { bytes = λ x. one_more m block n x (x / 16 == block) refl (some x) i }

  put_some : (m : StorageState) (block x : ℕ) → IsSome (m.bytes x) → IsSome ((put m block).bytes x)
  put_some m block x some = go (x / 16 == block) where
    go : (b : Bool) → IsSome (if b then Some (slice_index_or (read f (16 * block) 16) (x % 16) 0) else m.bytes x)
    go true = refl
    go false = some

  pub blocks_go :
      (m : StorageState) (b g : ℕ → Option ℕ) (s left block count : ℕ) → ((x : ℕ) → inside (x / 16) (run_of block count) ≡ true → IsSome (m.bytes x))
      → ((x : ℕ) → inside (x / 16) (run_of block count) ≡ true → IsSome (f x)) → left ≤ s
      → Goes (at m b g s) (map block_record (range_with_len block count)) (written m block count) b g left
  blocks_go m b g s left block zero had some less = goes_to (at m b g s) [] m (written m block 0) b g left (none_written m block) (goes_nowhere m b g s left less)
  blocks_go m b g s left block (suc n) had some less =
      let wider : (x : ℕ) → inside (x / 16) (run_of (block + 1) n) ≡ true → inside (x / 16) (run_of block (suc n)) ≡ true = λ x own.
      let at = inside_in (block + 1) n (x / 16) own in in_inside block (suc n) (x / 16) (omega (arith, at.0)) (omega (arith, at.1)) in
      let next = blocks_go (put m block) b g s left (block + 1) n (λ x own. put_some m block x (had x (wider x own))) (λ x own. some x (wider x own)) less in
      goes_to (at m b g s) (map block_record (range_with_len block (suc n))) (written (put m block) (block + 1) n) (written m block (suc n)) b g left (blocks_written m block n some)
      (record {
        fits = (
          record {
            sixteen = read-length f (16 * block) 16;
            there = λ a is. had a (in_inside block (suc n) (a / 16) (omega (arith, is)) (omega (arith, is)));
          },
          next.fits,
        );
        there = next.there;
        spare = next.spare;
      })

-- the blocks that bytes touch

touched : (address n x : ℕ) → inside (x / 16) (run_of (address / 16) (blocks_for address n)) ≡ true → (y : ℕ) × (address ≤ y) × (y < address + n) × (y / 16 ≡ x / 16)
touched address zero x own = let at = inside_in (address / 16) 0 (x / 16) own in absurd (omega (arith, at.0, at.1))
touched address (suc n) x own =
    let at = inside_in (address / 16) ((address + n) / 16 + 1 - address / 16) (x / 16) own in
    elim (cases_lt (16 * (x / 16)) address) [
      | inl below ↦ (address, omega arith, omega arith, omega (arith, below, at.0))
      | inr from ↦ (16 * (x / 16), from, omega (arith, at.0, at.1), omega arith)
    ]

touches : (address n x : ℕ) → address ≤ x → x < address + n → inside (x / 16) (run_of (address / 16) (blocks_for address n)) ≡ true
touches address zero x low high = absurd (omega (arith, low, high))
touches address (suc n) x low high =
    in_inside (address / 16) ((address + n) / 16 + 1 - address / 16) (x / 16) (omega (arith, low)) (omega (arith, high, low))

got : (bytes : List ℕ) (k : ℕ) → k < length bytes → IsSome (slice_get bytes k)
got [] k h = absurd (omega (arith, h))
got (b ∷ bytes) zero h = refl
got (b ∷ bytes) (suc k) h = got bytes k (omega (arith, h))

module _ (settings : Settings) (m : StorageState) (address : ℕ) (bytes : List ℕ) (sound : IsSound settings m) (there : are_there (model_of m) address (length bytes) ≡ true) where
  abbrev f : ℕ → Option ℕ
  f = bytes_with m.bytes address bytes

  abbrev count : ℕ
  count = blocks_for address (length bytes)

  -- each byte of the blocks exists, as those of its page do
  had : (x : ℕ) → inside (x / 16) (run_of (address / 16) count) ≡ true → IsSome (m.bytes x)
  had x own =
      let (y, low, high, same) = touched address (length bytes) x own in
      let page : x / 4096 ≡ y / 4096 = omega (arith, same) in
      sound.well_formed.pages.has_bytes x ∙ ap (λ k. is_some (subpool_of m.subpools k)) page ∙ sym (sound.well_formed.pages.has_bytes y)
      ∙ all_pass_at (λ a. is_some (m.bytes a)) address (length bytes) y there low high

  given : (x : ℕ) (b : Bool) → inside x (run_of address (length bytes)) ≡ b → IsSome (m.bytes x) → IsSome (if b then slice_get bytes (x - address) else m.bytes x)
  given x true own some = let at = inside_in address (length bytes) x own in got bytes (x - address) (omega (arith, at.0, at.1))
  given x false other some = some

  same_at : (x : ℕ) (b : Bool) → inside (x / 16) (run_of (address / 16) count) ≡ b → (if b then f x else m.bytes x) ≡ f x
  same_at x true own = refl
  same_at x false other =
      sym (cond-false (inside x (run_of address (length bytes))) (slice_get bytes (x - address)) (m.bytes x)
      (not_inside address (length bytes) x (λ low high. true≢false (sym (touches address (length bytes) x low high) ∙ other))))

  written_leads : model_of (written f m (address / 16) count) ≡ with_bytes (model_of m) address bytes
  written_leads = λ i. record (model_of m) { bytes = λ x. same_at x (inside (x / 16) (run_of (address / 16) count)) refl i }

pub writing_leads : WritingLeads
writing_leads settings m address bytes sound there formed =
    let none : ℕ → Option ℕ = λ a. None in
    let first = address / 16 in
    let n = blocks_for address (length bytes) in
    let g = bytes_with m.bytes address bytes in
    let change = change_of (write_records m address bytes) 0 (run_of 0 0) in
    let some = had settings m address bytes sound there in
    leads_with_rows settings m (written g m first n) (write_records m address bytes) 0 (run_of 0 0) change.frames none 0 [] (with_bytes (model_of m) address bytes)
    (blocks_go g m change.frames none 0 0 first n some
    (λ x own. given settings m address bytes sound there x (inside x (run_of address (length bytes))) refl (some x own)) (omega arith))
    none_brought (none_fresh m) (stands_of settings m sound) (written_leads settings m address bytes sound there) formed
