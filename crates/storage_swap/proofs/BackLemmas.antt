-- A change that was exchanged can be exchanged back.
use Rattle.std.proofs.Common.{◌≡◌, sym, ap, ◌∙◌, subst}
use Rattle.storage_changes.specs.State.{StorageState}
use Rattle.storage_changes.specs.Changes.{Change, Fit, overlay, inverse}
use Rattle.storage_changes.proofs.WalkLemmas.{changes_lead_back}
use Rattle.storage_swap.specs.Storage.{state_of}
use Rattle.storage_swap.specs.Swap.{means}
use Rattle.storage_swap.specs.Laws.{SwapsLeadBack}

pub swaps-lead-back : SwapsLeadBack
swaps-lead-back p c t d fit s =
    let m = state_of p in
    let x = means p.elements c in
    let back : Fit (overlay m x) (inverse m x) × (overlay (overlay m x) (inverse m x) ≡ m) × (inverse (overlay m x) (inverse m x) ≡ x) = changes_lead_back m x fit in
    let P : StorageState → Type 0 = λ z. Fit z (inverse m x) in
    let Q : Change → Type 0 = λ z. Fit (state_of t) z in (
      subst Q (sym s.turned) (subst P (sym s.shows) back.0),
      (λ u e r. (
        r.shows ∙ ap (λ (z : StorageState). overlay z (means t.elements d)) s.shows ∙ ap (overlay (overlay m x)) s.turned ∙ back.1,
        r.turned ∙ ap (λ (z : StorageState). inverse z (means t.elements d)) s.shows ∙ ap (inverse (overlay m x)) s.turned ∙ back.2,
      )),
    )
