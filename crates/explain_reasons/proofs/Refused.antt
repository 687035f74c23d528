-- The text of a cause, by the cause and the service that are matched.
use Rattle.std.proofs.Common.{◌≡◌, ℕ, List, Option, sym, subst}
use Rattle.vsm_model.specs.declared.causes.Cause.{Cause}
use Rattle.vsm_model.specs.declared.services.Service.{Service}
use Rattle.vsm_model.specs.Meaning.{service_in}
use Rattle.text_output.specs.Writing.{Puts}
use Rattle.text_output.specs.declared.writing.Gathered.{Gathered}
use Rattle.storage_core.specs.Meaning.{settings_of, state_of}
use Rattle.storage_core.specs.declared.storage.Storage.{Storage}
use Rattle.explain_reasons.specs.Told.{IsTold, PutsOne, TellsService}

module _ (old new : Option (List ℕ)) (a b : Gathered) where
  -- the text of a cause that is this one
  pub text_of : (text : Cause → List ℕ) (c k : Cause) → c ≡ k → Puts old new a b (text k) → Puts old new a b (text c)
  text_of text c k e h = subst (λ x. Puts old new a b (text x)) (sym e) h

  -- the same if it isn't the only one that can say so
  pub one_of : (is : Cause → List ℕ → Type 0) (c k : Cause) (text : List ℕ) → c ≡ k → is k text → Puts old new a b text → PutsOne (is c) old new a b
  one_of is c k text e says h = (text, subst (λ x. is x text) (sym e) says, h)

  -- a text that says the cause of a service that is this one
  pub told_by : (s : Storage) (x y : Service) (c : Cause) → x ≡ y → PutsOne (IsTold (settings_of s) (state_of s) (service_in y) c) old new a b
      → TellsService s (service_in x) c old new a b
  told_by s x y c e one = subst (λ z. TellsService s (service_in z) c old new a b) (sym e) (λ full first. one)
