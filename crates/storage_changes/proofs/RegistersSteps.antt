-- The words of four registers, which are written, and back.
use Rattle.std.proofs.Common.{◌≡◌, ℕ, zero, suc, ◌+◌, ◌-◌, ◌<◌, ◌≤◌, true, ◌&&◌, ◌==◌, List, [], ◌∷◌, length, slice_index_or, refl, sym, ap, ◌∙◌, arith}
use Rattle.std.specs.Prelude.{nat_le, nat_lt}
use Rattle.std.proofs.lemmas.Bool.{eqb-true, eq-eqb, leb-true, ltb-true, le-leb, lt-ltb}
use Rattle.run_set.specs.Runs.{inside}
use Rattle.storage_changes.specs.declared.record.RegistersRecord.{RegistersRecord}
use Rattle.storage_changes.specs.Walk.{Walk, flip}
use Rattle.storage_changes.specs.Steps.{registers_step}
use Rattle.storage_changes.specs.Turned.{four_words}
use Rattle.storage_changes.specs.Fits.{RegistersFits}
use Rattle.storage_changes.proofs.Cases.{cond-back, cond-in, and-left, and-right, and-both, state-same, walk-same}

-- four words are the first, the second, the third and the fourth
pub four-of : (ws : List ℕ) → length ws ≡ 4 → slice_index_or ws 0 0 ∷ slice_index_or ws 1 0 ∷ slice_index_or ws 2 0 ∷ slice_index_or ws 3 0 ∷ [] ≡ ws
four-of (a ∷ b ∷ c ∷ d ∷ []) s = refl
four-of ws s = absurd (omega (arith, s))

-- each of the words from the first on
pub four-at : (words : ℕ → ℕ) (first i : ℕ) → i < 4 → slice_index_or (four_words words first) i 0 ≡ words (first + i)
four-at words first zero l = ap words (let e : first ≡ first + zero = omega arith in e)
four-at words first (suc zero) l = ap words (let e : first + 1 ≡ first + suc zero = omega arith in e)
four-at words first (suc (suc zero)) l = ap words (let e : first + 2 ≡ first + suc (suc zero) = omega arith in e)
four-at words first (suc (suc (suc zero))) l = ap words (let e : first + 3 ≡ first + suc (suc (suc zero)) = omega arith in e)
four-at words first (suc (suc (suc (suc i)))) l = absurd (omega (arith, l))

-- which registers are among the four
pub among-four : (first register : ℕ) → inside register (record { start = first; len = 4 }) ≡ true → (first ≤ register) × (register < first + 4)
among-four first register c =
    (leb-true first register (and-left (nat_le first register) (nat_lt register (first + 4)) c), ltb-true register (first + 4) (and-right (nat_le first register) (nat_lt register (first + 4)) c))

pub are-among : (first register : ℕ) → first ≤ register → register < first + 4 → inside register (record { start = first; len = 4 }) ≡ true
are-among first register low high =
    and-both (nat_le first register) (nat_lt register (first + 4)) (le-leb first register low) (lt-ltb register (first + 4) high)

module _ (w : Walk) (r : RegistersRecord) where
  abbrev had-words : List ℕ
  had-words = four_words (w.state.tasks.words r.task) r.first

  abbrev registers-other : RegistersRecord
  registers-other = record r { words = had-words }

  abbrev registers-behind : Walk
  registers-behind = flip (registers_step w r)

  same-words : (task register : ℕ) → ((task == r.task) && inside register (record { start = r.first; len = 4 })) ≡ true
      → slice_index_or had-words (register - r.first) 0 ≡ w.state.tasks.words task register
  same-words task register c =
      let same_task : task ≡ r.task = eqb-true task r.task (and-left (task == r.task) (inside register (record { start = r.first; len = 4 })) c) in
      let within : (r.first ≤ register) × (register < r.first + 4) = among-four r.first register (and-right (task == r.task) (inside register (record { start = r.first; len = 4 })) c) in
      let place : r.first + (register - r.first) ≡ register = omega (arith, within.0) in
      four-at (w.state.tasks.words r.task) r.first (register - r.first) (omega (arith, within.0, within.1))
      ∙ (λ i. w.state.tasks.words (sym same_task i) (place i))

  abbrev registers-twice : Walk
  registers-twice = registers_step registers-behind registers-other

  registers-words : (task register : ℕ) → registers-twice.state.tasks.words task register ≡ w.state.tasks.words task register
  registers-words task register =
      cond-back ((task == r.task) && inside register (record { start = r.first; len = 4 })) (slice_index_or had-words (register - r.first) 0)
      (slice_index_or r.words (register - r.first) 0) (w.state.tasks.words task register) (same-words task register)

  pub registers-back : registers-twice ≡ flip w
  registers-back = walk-same registers-twice (flip w)
      (state-same registers-twice.state w.state (λ i. record w.state.tasks { words = λ task register. registers-words task register i }) refl (λ page. refl) (λ a. refl))
      (λ a. refl) (λ a. refl) refl refl

  pub registers-fits : RegistersFits w r → RegistersFits registers-behind registers-other
  registers-fits h = record { task = h.task; first = h.first; four = refl }

  now-words : (i register : ℕ) → register ≡ r.first + i → i < 4 → (registers_step w r).state.tasks.words r.task register ≡ slice_index_or r.words i 0
  now-words i register at l =
      let place : register - r.first ≡ i = omega (arith, at) in
      cond-in ((r.task == r.task) && inside register (record { start = r.first; len = 4 })) (slice_index_or r.words (register - r.first) 0) (w.state.tasks.words r.task register)
      (and-both (r.task == r.task) (inside register (record { start = r.first; len = 4 })) (eq-eqb r.task r.task refl)
      (are-among r.first register (omega (arith, at)) (omega (arith, at, l))))
      ∙ ap (λ x. slice_index_or r.words x 0) place

  pub registers-again : RegistersFits w r → four_words ((registers_step w r).state.tasks.words r.task) r.first ≡ r.words
  registers-again h =
      let one = now-words 0 r.first (omega arith) (omega arith) in
      let two = now-words 1 (r.first + 1) refl (omega arith) in
      let three = now-words 2 (r.first + 2) refl (omega arith) in
      let four = now-words 3 (r.first + 3) refl (omega arith) in
      (λ i. one i ∷ two i ∷ three i ∷ four i ∷ []) ∙ four-of r.words h.four
