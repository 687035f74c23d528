-- The bytes of a block and the word of a register, which are written, and back.
use Rattle.std.proofs.Common.{◌≡◌, ℕ, zero, suc, ◌+◌, ◌*◌, ◌/◌, ◌%◌, ◌<◌, true, ◌&&◌, ◌==◌, List, length, slice_index_or, Option, Some, None, IsSome, refl, sym, ap, ◌∙◌, arith, subst}
use Rattle.std.proofs.lemmas.Bool.{eqb-true, eq-eqb}
use Rattle.std.proofs.lemmas.List.{ext_get_or}
use Rattle.vsm_model.specs.Bytes.{byte_or_zero}
use Rattle.storage_changes.specs.declared.record.RegisterRecord.{RegisterRecord}
use Rattle.storage_changes.specs.declared.record.BytesRecord.{BytesRecord}
use Rattle.storage_changes.specs.Walk.{Walk, flip}
use Rattle.storage_changes.specs.Steps.{register_step, bytes_step}
use Rattle.storage_changes.specs.Turned.{read}
use Rattle.storage_changes.specs.Fits.{BytesFits}
use Rattle.storage_changes.proofs.Cases.{cond-back, cond-in, and-left, and-right, and-both, state-same, walk-same}

-- what is read

pub read-length : (bytes : ℕ → Option ℕ) (a count : ℕ) → length (read bytes a count) ≡ count
read-length bytes a zero = refl
read-length bytes a (suc count) = omega (arith, read-length bytes (suc a) count)

pub read-at : (bytes : ℕ → Option ℕ) (a count i : ℕ) → i < count → slice_index_or (read bytes a count) i 0 ≡ byte_or_zero (bytes (a + i))
read-at bytes a zero i l = absurd (omega (arith, l))
read-at bytes a (suc count) zero l = ap (λ x. byte_or_zero (bytes x)) (let e : a ≡ a + zero = omega arith in e)
read-at bytes a (suc count) (suc i) l =
    read-at bytes (suc a) count i (omega (arith, l)) ∙ ap (λ x. byte_or_zero (bytes x)) (let e : suc a + i ≡ a + suc i = omega arith in e)

some-byte : (o : Option ℕ) → IsSome o → Some (byte_or_zero o) ≡ o
some-byte (Some x) s = refl
some-byte None s = cc

-- the bytes of a block

module _ (w : Walk) (r : BytesRecord) (h : BytesFits w r) where
  abbrev had : List ℕ
  had = read w.state.bytes (16 * r.block) 16

  abbrev bytes-other : BytesRecord
  bytes-other = record r { bytes = had }

  abbrev bytes-behind : Walk
  bytes-behind = flip (bytes_step w r)

  had-at : (a : ℕ) → (a / 16 == r.block) ≡ true → Some (slice_index_or had (a % 16) 0) ≡ w.state.bytes a
  had-at a c =
      let block : a / 16 ≡ r.block = eqb-true (a / 16) r.block c in
      let place : 16 * r.block + a % 16 ≡ a = omega (arith, block) in
      ap (λ x. Some x) (read-at w.state.bytes (16 * r.block) 16 (a % 16) (omega arith) ∙ ap (λ x. byte_or_zero (w.state.bytes x)) place)
      ∙ some-byte (w.state.bytes a) (h.there a block)

  pub bytes-back : bytes_step bytes-behind bytes-other ≡ flip w
  bytes-back =
      let v = bytes_step bytes-behind bytes-other in
      walk-same v (flip w)
      (state-same v.state w.state refl refl (λ page. refl)
      (λ a. cond-back (a / 16 == r.block) (Some (slice_index_or had (a % 16) 0)) (Some (slice_index_or r.bytes (a % 16) 0)) (w.state.bytes a) (had-at a)))
      (λ a. refl) (λ a. refl) refl refl

  written : (a : ℕ) → a / 16 ≡ r.block → bytes-behind.state.bytes a ≡ Some (slice_index_or r.bytes (a % 16) 0)
  written a e = cond-in (a / 16 == r.block) (Some (slice_index_or r.bytes (a % 16) 0)) (w.state.bytes a) (eq-eqb (a / 16) r.block e)

  pub bytes-fits : BytesFits bytes-behind bytes-other
  bytes-fits = record {
    sixteen = read-length w.state.bytes (16 * r.block) 16;
    there = λ a e. (let P : Option ℕ → Type 0 = λ o. IsSome o in subst P (sym (written a e)) refl);
  }

  read-back : (i : ℕ) → i < 16 → slice_index_or (read bytes-behind.state.bytes (16 * r.block) 16) i 0 ≡ slice_index_or r.bytes i 0
  read-back i l =
      let block : (16 * r.block + i) / 16 ≡ r.block = omega (arith, l) in
      let place : (16 * r.block + i) % 16 ≡ i = omega (arith, l) in
      read-at bytes-behind.state.bytes (16 * r.block) 16 i l ∙ ap byte_or_zero (written (16 * r.block + i) block) ∙ ap (λ x. slice_index_or r.bytes x 0) place

  pub bytes-again : read bytes-behind.state.bytes (16 * r.block) 16 ≡ r.bytes
  bytes-again =
      let long : length (read bytes-behind.state.bytes (16 * r.block) 16) ≡ 16 = read-length bytes-behind.state.bytes (16 * r.block) 16 in
      ext_get_or 0 (read bytes-behind.state.bytes (16 * r.block) 16) r.bytes (long ∙ sym h.sixteen) (λ i l. read-back i (omega (arith, l, long)))

-- the word of a register

module _ (w : Walk) (r : RegisterRecord) where
  abbrev register-other : RegisterRecord
  register-other = record r { word = w.state.tasks.words r.task r.register }

  same-word : (task register : ℕ) → ((task == r.task) && (register == r.register)) ≡ true → w.state.tasks.words r.task r.register ≡ w.state.tasks.words task register
  same-word task register c =
      let same_task : task ≡ r.task = eqb-true task r.task (and-left (task == r.task) (register == r.register) c) in
      let same_register : register ≡ r.register = eqb-true register r.register (and-right (task == r.task) (register == r.register) c) in
      λ i. w.state.tasks.words (sym same_task i) (sym same_register i)

  abbrev register-twice : Walk
  register-twice = register_step (flip (register_step w r)) register-other

  words-back : (task register : ℕ) → register-twice.state.tasks.words task register ≡ w.state.tasks.words task register
  words-back task register =
      cond-back ((task == r.task) && (register == r.register)) (w.state.tasks.words r.task r.register) r.word (w.state.tasks.words task register) (same-word task register)

  pub register-back : register-twice ≡ flip w
  register-back = walk-same register-twice (flip w)
      (state-same register-twice.state w.state (λ i. record w.state.tasks { words = λ task register. words-back task register i }) refl (λ page. refl) (λ a. refl))
      (λ a. refl) (λ a. refl) refl refl

pub register-again : (w : Walk) (r : RegisterRecord) → (register_step w r).state.tasks.words r.task r.register ≡ r.word
register-again w r = cond-in ((r.task == r.task) && (r.register == r.register)) r.word (w.state.tasks.words r.task r.register)
    (and-both (r.task == r.task) (r.register == r.register) (eq-eqb r.task r.task refl) (eq-eqb r.register r.register refl))
