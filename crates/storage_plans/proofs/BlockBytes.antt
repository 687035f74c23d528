-- Blocks of sixteen bytes with the bytes of a store over them.
use Rattle.std.proofs.Common.{◌≡◌, ℕ, zero, suc, ◌+◌, ◌-◌, ◌*◌, ◌<◌, ◌≤◌, ◌/◌, Bool, true, false, if◌then◌else◌, List, [], ◌∷◌, length, Option, Some, None, IsSome, is_some, refl, sym, ◌∙◌, ap, arith, Result, Ok, Err, OnOk}
use Rattle.std.specs.Prelude.{slice_index_or, slice_get}
use Rattle.std.proofs.lemmas.Bool.{cond-true}
use Rattle.std.proofs.lemmas.Bool.Decides.{nat_tests}
use Rattle.vsm_model.specs.Bytes.{byte_or_zero, are_there, bytes_from, load}
use Rattle.vsm_model.specs.Regions.{among}
use Rattle.vsm_model.proofs.Least.{all_pass_from}
use Rattle.storage_changes.specs.State.{StorageState}
use Rattle.storage_changes.specs.Meaning.{model_of}
use Rattle.storage_changes.specs.Turned.{read}
use Rattle.storage_changes.specs.StorageActions.{bytes_with}
use Rattle.raw_region.specs.Pages.{bytes_at}
use Rattle.raw_region.proofs.ForCallers.{byte_at-assigned}
use Rattle.storage_swap.specs.declared.storage.Parts.{Parts}
use Rattle.storage_swap.specs.Storage.{state_of}
use Rattle.storage_swap.specs.Storage.{IsFrameless}
use Rattle.storage_plans.specs.Reading.{put_at}
use Rattle.storage_plans.proofs.BytesRead.{byte_shown}

-- a number of a run lies between its ends

among_in : (a n k : ℕ) → among a n k ≡ true → (a ≤ k) × (k < a + n)
among_in a n k e = grind (arith, nat_tests)

-- before place k the bytes of the store replace those held, and from it on none do
pub record PutBefore (held now : List ℕ) (first address : ℕ) (bytes : List ℕ) (k : ℕ) : Type 0 where
  pub same_length : length now ≡ length held
  pub before : (j : ℕ) → j < k → slice_index_or now j 0 ≡ put_at held first address bytes j
  pub behind : (j : ℕ) → k ≤ j → slice_index_or now j 0 ≡ slice_index_or held j 0

got : (bytes : List ℕ) (k : ℕ) → k < length bytes → slice_get bytes k ≡ Some (slice_index_or bytes k 0)
got [] k h = absurd (omega (arith, h))
got (b ∷ bytes) zero h = refl
got (b ∷ bytes) (suc k) h = got bytes k (omega (arith, h))

is_read : (n : ℕ) (xs : List ℕ) (f : ℕ → Option ℕ) (a : ℕ) → length xs ≡ n → ((i : ℕ) → i < n → f (a + i) ≡ Some (slice_index_or xs i 0)) → xs ≡ read f a n
is_read zero [] f a e h = refl
is_read zero (x ∷ xs) f a e h = cc
is_read (suc n) [] f a e h = cc
is_read (suc n) (x ∷ xs) f a e h =
    let same : a ≡ a + 0 = omega arith in
    let first : x ≡ byte_or_zero (f a) = sym (ap byte_or_zero (ap f same ∙ h 0 (omega arith))) in
    let next : (i : ℕ) → suc a + i ≡ a + suc i = λ i. omega arith in
    let rest : xs ≡ read f (suc a) n = is_read n xs f (suc a) (omega (arith, e)) (λ i l. ap f (next i) ∙ h (suc i) (omega (arith, l))) in
    λ j. first j ∷ rest j

-- what was loaded, with the bytes over it, is what is read then
module _ (m : StorageState) (first address : ℕ) (bytes : List ℕ) where
  loaded_at : (count a : ℕ) (xs : List ℕ) → ((k : ℕ) → a ≤ k → k < a + count → IsSome (m.bytes k)) → bytes_from (model_of m) a count ≡ xs
      → (i : ℕ) → i < count → m.bytes (a + i) ≡ Some (slice_index_or xs i 0)
  loaded_at zero a xs some e i l = absurd (omega (arith, l))
  loaded_at (suc n) a xs some e zero l =
      let same : a + 0 ≡ a = omega arith in
      ap m.bytes same ∙ sym (is_byte (m.bytes a) (some a (omega arith) (omega arith))) ∙ ap (λ ys. Some (slice_index_or ys 0 0)) e
    where
      is_byte : (o : Option ℕ) → IsSome o → Some (byte_or_zero o) ≡ o
      is_byte None h = cc
      is_byte (Some x) h = refl
  loaded_at (suc n) a xs some e (suc i) l =
      let next : a + suc i ≡ suc a + i = omega arith in
      ap m.bytes next ∙ loaded_at n (suc a) (bytes_from (model_of m) (suc a) n) (λ k low high. some k (omega (arith, low)) (omega (arith, high))) refl i (omega (arith, l))
      ∙ ap (λ ys. Some (slice_index_or ys (suc i) 0)) e

  put_byte : (had : List ℕ) (i : ℕ) (b : Bool) → among address (length bytes) (first + i) ≡ b → m.bytes (first + i) ≡ Some (slice_index_or had i 0)
      → (if b then slice_get bytes (first + i - address) else m.bytes (first + i)) ≡ Some (if b then slice_index_or bytes (first + i - address) 0 else slice_index_or had i 0)
  put_byte had i true own e = let at = among_in address (length bytes) (first + i) own in got bytes (first + i - address) (omega (arith, at.0, at.1))
  put_byte had i false other e = e

  from_length : (count a : ℕ) → length (bytes_from (model_of m) a count) ≡ count
  from_length zero a = refl
  from_length (suc n) a = omega (arith, from_length n (suc a))

  pub block_read : (had has : List ℕ) (count : ℕ) → ((k : ℕ) → first ≤ k → k < first + count → IsSome (m.bytes k)) → load (model_of m) first count ≡ Some had
      → length has ≡ length had → ((k : ℕ) → k < length had → slice_index_or has k 0 ≡ put_at had first address bytes k)
      → has ≡ read (bytes_with m.bytes address bytes) first count
  block_read had has count some e long put = is_read count has (bytes_with m.bytes address bytes) first (long ∙ full)
      (λ i l. put_byte had i (among address (length bytes) (first + i)) refl (loaded_at count first had some same i l) ∙ ap Some (sym (put i (omega (arith, l, full)))))
    where
      there : are_there (model_of m) first count ≡ true
      there = all_pass_from (λ a. is_some (m.bytes a)) first count some

      unwrapped : Some (bytes_from (model_of m) first count) ≡ Some had
      unwrapped = sym (cond-true (are_there (model_of m) first count) (Some (bytes_from (model_of m) first count)) None there) ∙ e

      value : Option (List ℕ) → List ℕ
      value None = []
      value (Some xs) = xs

      same : bytes_from (model_of m) first count ≡ had
      same = ap value unwrapped

      full : length had ≡ count
      full = sym (ap length same) ∙ from_length count first

-- a block whose addresses have bytes lies below the end of the addresses
module _ (p : Parts) (frameless : IsFrameless p) (block : ℕ) (there : (a : ℕ) → a / 16 ≡ block → IsSome ((model_of (state_of p)).bytes a)) where
  block_of : (16 * block) / 16 ≡ block
  block_of = omega arith

  has_page : IsSome (bytes_at p.region ((16 * block) / 4096))
  has_page = sym (byte_at-assigned p.region (16 * block)) ∙ ap is_some (sym (byte_shown p frameless (16 * block))) ∙ there (16 * block) block_of

  pub first_in_range : ((page : ℕ) → IsSome (bytes_at p.region page) → page < 1048576) → 16 * block < 4294967296
  first_in_range range = omega (arith, range ((16 * block) / 4096) has_page)

  pub each_there : (k : ℕ) → 16 * block ≤ k → k < 16 * block + 16 → IsSome ((model_of (state_of p)).bytes k)
  each_there k low high = there k (omega (arith, low, high))

pub of_ok : {A E : Type 0} (P : Type 0) (r : Result A E) (x : A) → r ≡ Ok x → OnOk r P → P
of_ok P (Ok y) x e h = h
of_ok P (Err y) x e h = cc
