-- A table in which something is found on one more line.
use Rattle.std.proofs.Common.{◌≡◌, ◌≤◌, ◌<◌, ◌==◌, ℕ, zero, suc, if◌then◌else◌, Option, Some, None, List, [], ◌∷◌, ◌++◌, length, slice_get, slice_set, refl, sym, ap, ◌∙◌, arith, inl, inr}
use Rattle.std.proofs.lemmas.Bool.{cases_eq, eq-eqb, eqb-true, false_from_ne_true}
use Rattle.std.specs.Prelude.{unwrap_or}
use Rattle.explain_findings.specs.Tables.{at_place}
use Rattle.explain_findings.specs.declared.findings.Finding.{Finding}
use Rattle.explain_findings.proofs.Lists.{pushed_before, pushed_there, set_elsewhere, set_there}

by_number : (found : List Finding) (o : Option ℕ) → at_place found o ≡ at_place found (Some (unwrap_or o 0))
by_number found None = refl
by_number found (Some n) = refl

one_more : (found : List Finding) (f : Finding) (place : ℕ) → place ≤ length found → at_place (found ++ f ∷ []) (Some place) ≡ at_place found (Some place)
one_more found f zero within = refl
one_more found f (suc k) within = pushed_before found f k (omega arith)

pub set_on : (found : List Finding) (f : Finding) (xs ys : List ℕ) (line place n : ℕ) → place ≡ suc (length found) → line < length xs →
    unwrap_or (slice_get xs n) 0 ≡ unwrap_or (slice_get ys n) 0 → unwrap_or (slice_get ys n) 0 ≤ length found →
    at_place (found ++ f ∷ []) (slice_get (slice_set xs line place) n) ≡ (if n == line then Some f else at_place found (slice_get ys n))
set_on found f xs ys line place n place_is room same within = elim (cases_eq n line) [
  | inl is ↦
      ap (λ k. at_place (found ++ f ∷ []) (slice_get (slice_set xs line place) k)) is
      ∙ ap (at_place (found ++ f ∷ [])) (set_there xs line place room ∙ ap Some place_is) ∙ pushed_there found f
      ∙ sym (ap (λ b. if b then Some f else at_place found (slice_get ys n)) (eq-eqb n line is))
  | inr ne ↦
      ap (at_place (found ++ f ∷ [])) (set_elsewhere xs line n place ne)
      ∙ by_number (found ++ f ∷ []) (slice_get xs n) ∙ ap (λ k. at_place (found ++ f ∷ []) (Some k)) same
      ∙ one_more found f (unwrap_or (slice_get ys n) 0) within ∙ sym (by_number found (slice_get ys n))
      ∙ sym (ap (λ b. if b then Some f else at_place found (slice_get ys n)) (false_from_ne_true (n == line) (λ e. ne (eqb-true n line e))))
]
