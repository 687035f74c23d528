-- The tests of what can be written say what the definitions say.
use Rattle.std.proofs.Common.{◌≡◌, ◌↔◌, ℕ, Bool, true, false, not, ◌&&◌, List, Option, Some, None, is_some, refl, ap, sym, ◌∙◌}
use Rattle.operand_texts.specs.Written.{Written, Target, in_name, in_register}
use Rattle.macro_operands.specs.Requests.{WrittenLength, fixed, between, is_fixed, is_register_0, IsRegisterObtain, IsNamedObtain, IsObtainForm, IsReleaseForm, IsWholeForm}
use Rattle.macro_operands.specs.Validity.{is_register_length, is_doubleword, is_low, is_named_target, is_register_obtain, is_named_obtain, is_obtain_form, is_release_form, is_whole_form}
use Rattle.vsm_model.specs.declared.causes.Family.{Family}
use Rattle.vsm_model.specs.declared.causes.Family.TheVariants as family
use Rattle.vsm_model.specs.declared.services.Boundary.{Boundary}
use Rattle.vsm_model.specs.declared.services.Boundary.TheVariants.{Doubleword, Page}
use Rattle.vsm_model.specs.declared.services.Location.{Location}
use Rattle.vsm_model.specs.declared.services.Location.TheVariants.{Low, Either, Caller}

both : (x y : Bool) → (x && y) ≡ true → (x ≡ true) × (y ≡ true)
both true y h = (refl, h)
both false y h = cc

all_true : (x y : Bool) → x ≡ true → y ≡ true → (x && y) ≡ true
all_true true y h k = k
all_true false y h k = cc

not_true : (b : Bool) → not b ≡ true → b ≡ false
not_true true h = cc
not_true false h = refl

is_none : (p : Option Target) → not (is_some p) ≡ true → p ≡ None
is_none None h = refl
is_none (Some p) h = cc

doubleword : (b : Boundary) → is_doubleword b ≡ true → b ≡ Doubleword
doubleword Doubleword h = refl
doubleword Page h = cc

low : (o : Location) → is_low o ≡ true → o ≡ Low
low Low h = refl
low Either h = cc
low Caller h = cc

single : (l : WrittenLength) → is_register_length l ≡ true → is_fixed l ≡ true
single (fixed v) h = refl
single (between a b) h = cc

besides : (l : WrittenLength) → is_register_length l ≡ true → (v : Written) → l ≡ fixed v → is_register_0 v ≡ false
besides l h v e = not_true (is_register_0 v) (ap is_register_length (sym e) ∙ h)

register_length : (l : WrittenLength) → is_fixed l ≡ true → ((v : Written) → l ≡ fixed v → is_register_0 v ≡ false) → is_register_length l ≡ true
register_length (fixed v) h k = ap not (k v refl)
register_length (between a b) h k = cc

named_target : (p : Option Target) → is_named_target p ≡ true → (name : List ℕ) × (p ≡ Some (in_name name))
named_target None h = cc
named_target (Some (in_name name)) h = (name, refl)
named_target (Some (in_register n)) h = cc

register_obtain : (l : WrittenLength) (p : Option Target) (b : Boundary) (o : Location) (c : Bool)
    → is_register_obtain l p b o c ≡ true ↔ IsRegisterObtain l p b o c
register_obtain l p b o c = (
  λ h. (
      let h₁ = both (is_register_length l && not (is_some p) && is_doubleword b && is_low o) (not c) h in
      let h₂ = both (is_register_length l && not (is_some p) && is_doubleword b) (is_low o) h₁.0 in
      let h₃ = both (is_register_length l && not (is_some p)) (is_doubleword b) h₂.0 in
      let h₄ = both (is_register_length l) (not (is_some p)) h₃.0 in
      record {
        single = single l h₄.0;
        besides = besides l h₄.0;
        nowhere = is_none p h₄.1;
        bounded = doubleword b h₃.1;
        low = low o h₂.1;
        unconditional = not_true c h₁.1;
      }
      ),
  λ r. (
      all_true _ _ (all_true _ _ (all_true _ _ (all_true _ _ (register_length l r.single r.besides) (ap (λ q. not (is_some q)) r.nowhere))
      (ap is_doubleword r.bounded)) (ap is_low r.low)) (ap not r.unconditional)
      ),
)

named_obtain : (l : WrittenLength) (p : Option Target) (o : Location) → is_named_obtain l p o ≡ true ↔ IsNamedObtain l p o
named_obtain l p o = (
  λ h. (
      let h₁ = both (is_fixed l && is_named_target p) (is_low o) h in
      let h₂ = both (is_fixed l) (is_named_target p) h₁.0 in
      record { single = h₂.0; place = named_target p h₂.1; low = low o h₁.1 }
      ),
  λ r. all_true _ _ (all_true _ _ r.single (ap is_named_target r.place.1)) (ap is_low r.low),
)

pub obtain_form : (f : Family) (l : WrittenLength) (p : Option Target) (b : Boundary) (o : Location) (c : Bool)
    → is_obtain_form f l p b o c ≡ true ↔ IsObtainForm f l p b o c
obtain_form family.S l p b o c = (λ h. tt, λ h. refl)
obtain_form family.R l p b o c = register_obtain l p b o c
obtain_form family.E l p b o c = named_obtain l p o

pub release_form : (f : Family) (l a : Written) (c : Bool) → is_release_form f l a c ≡ true ↔ IsReleaseForm f l a c
release_form family.S l a c = (λ h. tt, λ h. refl)
release_form family.R l a c = (
  λ h. (let b = both (not (is_register_0 l)) (not c) h in (not_true (is_register_0 l) b.0, not_true c b.1)),
  λ h. all_true _ _ (ap not h.0) (ap not h.1),
)
release_form family.E l a c = (λ h. h, λ h. h)

pub whole_form : (f : Family) (c : Bool) → is_whole_form f c ≡ true ↔ IsWholeForm f c
whole_form family.S c = (λ h. tt, λ h. refl)
whole_form family.R c = (λ h. not_true c h, λ h. ap not h)
whole_form family.E c = (λ h. cc, λ h. absurd h)
