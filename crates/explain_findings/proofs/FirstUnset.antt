-- The first byte that is unset.
use Rattle.std.proofs.Common.{◌≡◌, ◌≤◌, ◌<◌, ◌+◌, ◌/◌, ℕ, zero, suc, true, false, if◌then◌else◌, Option, Some, None, refl, sym, ap, ◌∙◌, arith, inl, inr}
use Rattle.std.proofs.lemmas.Bool.{cases_eq}
use Rattle.std.specs.Prelude.{unwrap_or}
use Rattle.explain_findings.specs.Stores.{first_unset, is_unset, line_at_home}
use Rattle.explain_findings.specs.declared.findings.Unset.{Unset}
use Rattle.explain_findings.specs.declared.homes.Home.{Home}

module _ (homes : ℕ → Home) (cells stored : ℕ → Option ℕ) where
  abbrev line_at : ℕ → Option ℕ
  line_at byte = line_at_home cells (homes (byte / 4))

  abbrev this : ℕ → Option Unset
  this byte = Some (record { address = byte; line = unwrap_or (line_at byte) 0 })

  pub unset_found : (count byte at : ℕ) → byte ≤ at → at < byte + count → ((k : ℕ) → byte ≤ k → k < at → is_unset (line_at k) (stored k) ≡ false)
      → is_unset (line_at at) (stored at) ≡ true → first_unset homes cells stored count byte ≡ this at
  unset_found zero byte at from to set unset = absurd (omega arith)
  unset_found (suc count) byte at from to set unset =
      elim (cases_eq at byte) [
        | inl is ↦
            ap (λ b. if b then this byte else first_unset homes cells stored count (suc byte)) (ap (λ k. is_unset (line_at k) (stored k)) (sym is) ∙ unset) ∙ ap this (sym is)
        | inr ne ↦
            ap (λ b. if b then this byte else first_unset homes cells stored count (suc byte)) (set byte (omega arith) (omega arith))
            ∙ unset_found count (suc byte) at (omega arith) (omega arith) (λ k above below. set k (omega arith) below) unset
      ]

  pub unset_none : (count byte : ℕ) → ((k : ℕ) → byte ≤ k → k < byte + count → is_unset (line_at k) (stored k) ≡ false) → first_unset homes cells stored count byte ≡ None
  unset_none zero byte set = refl
  unset_none (suc count) byte set =
      ap (λ b. if b then this byte else first_unset homes cells stored count (suc byte)) (set byte (omega arith) (omega arith))
      ∙ unset_none count (suc byte) (λ k above below. set k (omega arith) (omega arith))

-- the same by other tables that agree on it
pub same_unset : (homes : ℕ → Home) (f g s t : ℕ → Option ℕ) → ((k : ℕ) → line_at_home f (homes (k / 4)) ≡ line_at_home g (homes (k / 4)))
    → ((k : ℕ) → is_unset (line_at_home g (homes (k / 4))) (s k) ≡ is_unset (line_at_home g (homes (k / 4))) (t k))
    → (count byte : ℕ) → first_unset homes f s count byte ≡ first_unset homes g t count byte
same_unset homes f g s t lines unset zero byte = refl
same_unset homes f g s t lines unset (suc count) byte =
    (λ i. if is_unset (lines byte i) (s byte) then Some (record { address = byte; line = unwrap_or (lines byte i) 0 }) else first_unset homes f s count (suc byte))
    ∙ (λ i. if unset byte i then Some (record { address = byte; line = unwrap_or (line_at_home g (homes (byte / 4))) 0 }) else same_unset homes f g s t lines unset count (suc byte) i)
