-- The first fullword that isn't in an area or a cell.
use Rattle.std.proofs.Common.{◌≡◌, ◌≤◌, ◌<◌, ◌+◌, ℕ, zero, suc, true, false, if◌then◌else◌, Some, None, refl, sym, ap, ◌∙◌, arith, inl, inr}
use Rattle.std.proofs.lemmas.Bool.{cases_eq}
use Rattle.explain_findings.specs.Accesses.{first_outside}
use Rattle.explain_findings.specs.Homes.{same_home}
use Rattle.explain_findings.specs.declared.homes.Home.{Home}

module _ (homes : ℕ → Home) (first : Home) where
  pub outside_found : (count word at : ℕ) → word ≤ at → at < word + count → ((k : ℕ) → word ≤ k → k < at → same_home first (homes k) ≡ true)
      → same_home first (homes at) ≡ false → first_outside homes first count word ≡ Some at
  outside_found zero word at from to same other = absurd (omega arith)
  outside_found (suc count) word at from to same other =
      elim (cases_eq at word) [
        | inl is ↦
            ap (λ b. if b then first_outside homes first count (suc word) else Some word) (ap (λ k. same_home first (homes k)) (sym is) ∙ other) ∙ ap Some (sym is)
        | inr ne ↦
            ap (λ b. if b then first_outside homes first count (suc word) else Some word) (same word (omega arith) (omega arith))
            ∙ outside_found count (suc word) at (omega arith) (omega arith) (λ k above below. same k (omega arith) below) other
      ]

  pub outside_none : (count word : ℕ) → ((k : ℕ) → word ≤ k → k < word + count → same_home first (homes k) ≡ true) → first_outside homes first count word ≡ None
  outside_none zero word same = refl
  outside_none (suc count) word same =
      ap (λ b. if b then first_outside homes first count (suc word) else Some word) (same word (omega arith) (omega arith))
      ∙ outside_none count (suc word) (λ k above below. same k (omega arith) (omega arith))
