-- The bytes of a block changed sides with the storage.
use Rattle.std.proofs.Common.{◌≡◌, ℕ, zero, suc, ◌+◌, ◌-◌, ◌*◌, ◌/◌, ◌%◌, ◌<◌, inl, inr, Bool, true, false, ◌==◌, None, Some, Option, IsSome, IsTrue, if◌then◌else◌, List, [], ◌∷◌, length, refl, ap, sym, subst, ◌∙◌, arith}
use Rattle.std.specs.Prelude.{slice_index_or}
use Rattle.std.proofs.lemmas.Bool.{eqb-true, eq-eqb, cases_lt}
use Rattle.vsm_elements.proofs.MoveLemmas.{moves-none}
use Rattle.descriptor_queue.specs.Pages.{is_unassigned}
use Rattle.raw_region.specs.Frames.{PageFrame}
use Rattle.raw_region.specs.Pages.{Pages as Tables, byte_at, bytes_at, SameTables, Counts, Swaps, IsLowest}
use Rattle.raw_region.proofs.ForCallers.{byte_at-assigned}
use Rattle.run_set.proofs.RunLemmas.{not_both}
use Rattle.vsm_model.specs.Bytes.{byte_or_zero}
use Rattle.subpool_storage.specs.declared.storage.SubpoolStorage.{SubpoolStorage as Head}
use Rattle.storage_changes.specs.declared.record.BytesRecord.{BytesRecord}
use Rattle.storage_changes.specs.declared.record.Record.TheVariants.{Bytes}
use Rattle.storage_changes.specs.Steps.{bytes_step}
use Rattle.storage_changes.specs.Turned.{read}
use Rattle.storage_changes.specs.Fits.{BytesFits}
use Rattle.storage_swap.specs.declared.storage.Parts.{Parts}
use Rattle.storage_swap.specs.Storage.{state_of, walk_of, hold_with, StandsWith}
use Rattle.storage_swap.specs.Exchange.{Exchanges}
use Rattle.storage_changes.proofs.Cases.{cond-in, cond-out}
use Rattle.storage_swap.proofs.WalkLemmas.{walk-by-places, not-masked}

same-place : (a : ℕ) → a ≡ a + 0
same-place a = omega arith

next-place : (a i : ℕ) → suc a + i ≡ a + suc i
next-place a i = omega arith

-- a list is what is read if each of its places has the byte of an address
list-read : (n : ℕ) (xs : List ℕ) (f : ℕ → Option ℕ) (a : ℕ) → length xs ≡ n → ((i : ℕ) → i < n → f (a + i) ≡ Some (slice_index_or xs i 0)) → xs ≡ read f a n
list-read zero [] f a e h = refl
list-read zero (x ∷ xs) f a e h = cc
list-read (suc n) [] f a e h = cc
list-read (suc n) (x ∷ xs) f a e h =
    let first : x ≡ byte_or_zero (f a) = sym (ap byte_or_zero (ap f (same-place a) ∙ h 0 (omega arith))) in
    let rest : xs ≡ read f (suc a) n = list-read n xs f (suc a) (omega (arith, e)) (λ i l. ap f (next-place a i) ∙ h (suc i) (omega (arith, l))) in
    λ j. first j ∷ rest j

module _ (p : Parts) (r : BytesRecord) (given : List PageFrame) (parked : Head) (kept : ℕ) (h : BytesFits (walk_of p given parked kept) r) where
  pub in-block : (a : ℕ) → a / 16 ≡ r.block → (is_unassigned p.elements p.unassigned (a / 4096) ≡ false) × IsSome (byte_at p.region a)
  in-block a e = not-masked (is_unassigned p.elements p.unassigned (a / 4096)) (byte_at p.region a) (h.there a e)

  has-page : (a : ℕ) → a / 16 ≡ r.block → IsSome (bytes_at p.region (a / 4096))
  has-page a e = sym (byte_at-assigned p.region a) ∙ (in-block a e).1

  first-of-block : (16 * r.block) / 16 ≡ r.block
  first-of-block = omega arith

  pub block-in-range : ((page : ℕ) → IsSome (bytes_at p.region page) → page < 1048576) → 16 * r.block < 4294967296
  block-in-range range = omega (arith, range ((16 * r.block) / 4096) (has-page (16 * r.block) first-of-block))

  no-frame : (o : Option (List ℕ)) → o ≡ None → IsSome o → ⊥
  no-frame None e some = cc
  no-frame (Some y) e some = cc

  pub never-refused : (page : ℕ) → IsLowest p.region (16 * r.block) (length r.bytes) page → ⊥
  never-refused page l =
      let low : l.place < 16 = omega (arith, l.inside, h.sixteen) in
      let e : (16 * r.block + l.place) / 16 ≡ r.block = omega (arith, low) in
      no-frame (bytes_at p.region page) l.absent (let P : ℕ → Type 0 = λ z. IsSome (bytes_at p.region z) in subst P (sym l.is_page) (has-page (16 * r.block + l.place) e))

  from-first : (i : ℕ) → 16 * r.block + i ≡ 16 * r.block + (i - 0)
  from-first i = omega arith

  -- what the list of the same number of bytes has then
  pub bytes-read : (region : Tables) (had new : List ℕ) → length had ≡ 16 → Swaps p.region region had new (16 * r.block) 0 (length had) → new ≡ read (state_of p).bytes (16 * r.block) 16
  bytes-read region had new sixteen swaps = list-read 16 new (state_of p).bytes (16 * r.block) (swaps.loads.same_length ∙ sixteen) at-place where
    at-place : (i : ℕ) → i < 16 → (state_of p).bytes (16 * r.block + i) ≡ Some (slice_index_or new i 0)
    at-place i l =
        let e : (16 * r.block + i) / 16 ≡ r.block = omega (arith, l) in
        cond-out (is_unassigned p.elements p.unassigned ((16 * r.block + i) / 4096)) None (byte_at p.region (16 * r.block + i)) (in-block (16 * r.block + i) e).0
        ∙ ap (byte_at p.region) (from-first i) ∙ swaps.loads.got i (omega arith) (omega (arith, l, sixteen))

  module _ (region : Tables) (new : List ℕ) (swaps : Swaps p.region region r.bytes new (16 * r.block) 0 (length r.bytes)) where
    -- an address of another block
    elsewhere : (a : ℕ) → (a / 16 == r.block) ≡ false → byte_at region a ≡ byte_at p.region a
    elsewhere a o = elim (cases_lt a (16 * r.block)) [
      | inl x ↦ swaps.below a x
      | inr x ↦ elim (cases_lt a (16 * r.block + 16)) [
        | inl y ↦ absurd (not_both (a / 16 == r.block) (eq-eqb (a / 16) r.block (omega (arith, x, y))) o)
        | inr y ↦ swaps.above a (omega (arith, y, h.sixteen))
      ]
    ]

    block-byte : (a : ℕ) → a / 16 ≡ r.block → byte_at region a ≡ Some (slice_index_or r.bytes (a % 16) 0)
    block-byte a e =
        let at : a ≡ 16 * r.block + (a % 16 - 0) = omega (arith, e) in
        ap (byte_at region) at ∙ swaps.put (a % 16) (omega arith) (omega (arith, h.sixteen))

    bytes-now : (a : ℕ) → (if is_unassigned p.elements p.unassigned (a / 4096) then None else byte_at region a)
        ≡ (if a / 16 == r.block then Some (slice_index_or r.bytes (a % 16) 0) else (if is_unassigned p.elements p.unassigned (a / 4096) then None else byte_at p.region a))
    bytes-now a = go (a / 16 == r.block) refl where
      go : (b : Bool) → (a / 16 == r.block) ≡ b → (if is_unassigned p.elements p.unassigned (a / 4096) then None else byte_at region a)
          ≡ (if a / 16 == r.block then Some (slice_index_or r.bytes (a % 16) 0) else (if is_unassigned p.elements p.unassigned (a / 4096) then None else byte_at p.region a))
      go true i =
          let e : a / 16 ≡ r.block = eqb-true (a / 16) r.block i in
          cond-out (is_unassigned p.elements p.unassigned (a / 4096)) None (byte_at region a) (in-block a e).0 ∙ block-byte a e
          ∙ sym (cond-in (a / 16 == r.block) (Some (slice_index_or r.bytes (a % 16) 0)) (if is_unassigned p.elements p.unassigned (a / 4096) then None else byte_at p.region a) i)
      go false o =
          ap (λ (z : Option ℕ). if is_unassigned p.elements p.unassigned (a / 4096) then None else z) (elsewhere a o)
          ∙ sym (cond-out (a / 16 == r.block) (Some (slice_index_or r.bytes (a % 16) 0)) (if is_unassigned p.elements p.unassigned (a / 4096) then None else byte_at p.region a) o)

    brought-now : (a : ℕ) → (if is_unassigned p.elements p.unassigned (a / 4096) then byte_at region a else None) ≡ (if is_unassigned p.elements p.unassigned (a / 4096) then byte_at p.region a else None)
    brought-now a = go (a / 16 == r.block) refl where
      go : (b : Bool) → (a / 16 == r.block) ≡ b → (if is_unassigned p.elements p.unassigned (a / 4096) then byte_at region a else None) ≡ (if is_unassigned p.elements p.unassigned (a / 4096) then byte_at p.region a else None)
      go true i =
          let u = (in-block a (eqb-true (a / 16) r.block i)).0 in
          cond-out (is_unassigned p.elements p.unassigned (a / 4096)) (byte_at region a) None u ∙ sym (cond-out (is_unassigned p.elements p.unassigned (a / 4096)) (byte_at p.region a) None u)
      go false o = ap (λ (z : Option ℕ). if is_unassigned p.elements p.unassigned (a / 4096) then z else None) (elsewhere a o)

-- whatever frames and subpools the change has
module _ (p : Parts) (r : BytesRecord) (region : Tables) (new : List ℕ) (swaps : Swaps p.region region r.bytes new (16 * r.block) 0 (length r.bytes))
    (tables : SameTables p.region region) (counts : Counts region p.region.spare p.region.out p.region.made) where
  abbrev t : Parts
  t = record p { region = region }

  pub bytes-exchanged : (given : List PageFrame) (parked : Head) → StandsWith p parked → Exchanges p t given given parked parked (Bytes r)
  bytes-exchanged given parked k = record {
    stands = record { storage = record { unassigned = k.storage.unassigned; subpools = k.storage.subpools; tasks = k.storage.tasks }; parked = k.parked; once = k.once };
    moves = moves-none p.elements p.elements (hold_with p parked) (λ i. refl);
    as_many = refl;
    steps = λ kept le h. (
      le,
      walk-by-places (walk_of t given parked kept) (bytes_step (walk_of p given parked kept) r)
          refl (λ task. refl) (λ task n. refl) refl (λ page. refl) (bytes-now p r given parked kept h region new swaps) (brought-now p r given parked kept h region new swaps) (λ a. refl) refl refl,
    );
    out = ap (λ (z : ℕ). z + length given) counts.out_is;
    tables = tables;
    frames = record { spare = counts.spare_is; made = counts.made_is };
    places = λ places page some. (let P : Bool → Type 0 = λ z. IsTrue z in subst P (sym (tables.tables page)) (places page some));
  }
