-- What a gift leaves.
use Rattle.std.proofs.Common.{◌≡◌, ◌≢◌, ℕ, Bool, true, false, not, ◌==◌, if◌then◌else◌, Option, Some, None, refl, sym, ◌∙◌, ap, true≢false}
use Rattle.std.proofs.lemmas.Bool.{cond-true, cond-false, and_from, eqb-true, eq-eqb, false_from_ne_true}
use Rattle.std.specs.Option.{option_map}
use Rattle.vsm_model.specs.declared.Subpool.{Subpool}
use Rattle.vsm_model.specs.State.{State}
use Rattle.vsm_model.specs.Subpools.{same_subpool}
use Rattle.vsm_model.specs.Passing.{handed_on, with_gift}
use Rattle.service_laws.specs.Gifts.{AGiftLeavesNothing}
use Rattle.service_laws.proofs.Options.{none_some, same_some}

same_self : (p : Subpool) → same_subpool p p ≡ true
same_self p = and_from (p.number == p.number) (p.owner == p.owner) (eq-eqb p.number p.number refl) (eq-eqb p.owner p.owner refl)

module _ (old new number : ℕ) (apart : old ≢ new) where
  olds : Subpool
  olds = record { number = number; owner = old }

  news : Subpool
  news = record { number = number; owner = new }

  chosen : (p : Subpool) (b : Bool) → same_subpool p olds ≡ b → (if b then news else p) ≡ olds → ⊥
  unfolding olds news
  chosen p true is e = apart (sym (ap (λ q. q.owner) e))
  chosen p false is e = true≢false (sym (ap (λ q. same_subpool q olds) e ∙ same_self olds) ∙ is)

  not_old : (o : Option Subpool) → option_map (handed_on number old new) o ≡ Some olds → ⊥
  unfolding olds news
  not_old None e = none_some olds e
  not_old (Some p) e = chosen p (same_subpool p olds) refl (same_some (handed_on number old new p) olds e)

  given : (o : Option Subpool) → o ≡ Some olds → option_map (handed_on number old new) o ≡ Some news
  unfolding olds news
  given o e = ap (option_map (handed_on number old new)) e ∙ ap Some (cond-true (same_subpool olds olds) news olds (same_self olds))

  gone : (s : State) → (with_gift s old new number).sight old number ≡ None
  gone s =
      cond-false (not (number == number)) (s.sight old number) _ (ap not (eq-eqb number number refl))
      ∙ cond-false (old == new) (Some new) _ (false_from_ne_true (old == new) (λ e. apart (eqb-true old new e)))
      ∙ cond-true (old == old) None _ (eq-eqb old old refl)

pub a_gift_leaves_nothing : AGiftLeavesNothing
unfolding olds news
a_gift_leaves_nothing s old new number apart = (
  λ k e. not_old old new number apart (s.pages k) e,
  gone old new number apart s,
  λ k e. given old new number apart (s.pages k) e,
)
