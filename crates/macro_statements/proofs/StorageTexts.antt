-- Operands for each valid request that obtains or releases storage.
use Rattle.std.proofs.Common.{◌≡◌, ℕ, ◌≤◌, Bool, true, false, ◌||◌, List, ◌∷◌, length, Option, Some, None, Ok, codes, arith, refl, ap, ◌∙◌}
use Rattle.std.specs.Option.{IfSome}
use Rattle.operand_texts.specs.Words.{is_name}
use Rattle.operand_texts.specs.Written.{Written, number, named, register, Target, in_name, in_register, is_upper_name, IsValue, IsTarget}
use Rattle.macro_operands.specs.Lengths.{is_register_0, is_named}
use Rattle.macro_operands.specs.Said.{Said, boundary, location, condition}
use Rattle.macro_operands.specs.Slots.{Slots, as_value, as_place, as_boundary, as_location, as_condition}
use Rattle.macro_operands.specs.declared.rows.Behind.TheVariants as behind
use Rattle.macro_operands.specs.declared.rows.Kind.TheVariants as kind
use Rattle.macro_operands.specs.Requests.{WrittenLength, fixed, between, IsLength, is_fixed, obtain, release, whole, Asked, act, IsRegisterObtain, IsNamedObtain, IsObtainForm, IsReleaseForm, IsWholeForm}
use Rattle.macro_statements.specs.Forms.{StorageForm, obtaining, releasing, lacks_place, obtain_by, has_whole, release_by, asked_by, form_with, boundary_by, location_by, form_by, as_length}
use Rattle.macro_statements.specs.Storage.{obtain_row, release_row}
use Rattle.macro_statements.specs.Getmain as getmain
use Rattle.macro_statements.specs.Getmain.{getmain_macro}
use Rattle.macro_statements.specs.Freemain as freemain
use Rattle.macro_statements.specs.Freemain.{freemain_macro}
use Rattle.macro_statements.specs.Statements.{asked_of, behind_of}
use Rattle.macro_operands.specs.declared.requests.Form.{Form}
use Rattle.macro_statements.specs.declared.statements.Operation.{Operation}
use Rattle.macro_statements.specs.declared.statements.Operation.TheVariants as operation
use Rattle.vsm_model.specs.declared.causes.Family.{Family}
use Rattle.vsm_model.specs.declared.causes.Family.TheVariants as family
use Rattle.vsm_model.specs.declared.services.Boundary.{Boundary}
use Rattle.vsm_model.specs.declared.services.Boundary.TheVariants.{Doubleword, Page}
use Rattle.vsm_model.specs.declared.services.Location.{Location}
use Rattle.vsm_model.specs.declared.services.Location.TheVariants.{Low, Either, Caller}
use Rattle.macro_statements.proofs.FormTexts.{unsaid, value_spelled, fixed_spelled, one_length, besides_0_spelled, length_spelled, place_spelled, named_value_spelled, named_place_spelled, name_stands, condition_spelled, boundary_spelled, location_spelled, WrittenForm, six_said, length_form, lv_form}
use Rattle.macro_statements.proofs.SpelledOperands.{room, Operands}

abbrev form_of : Family → Bool → Form
form_of f c = record { family = f; conditional = c }

-- a form's word with its operands
form_operands : (asked : Asked) (o : Operation) (first : List ℕ) (f : StorageForm) (slots : Slots) → 1 ≤ length first → length first ≤ 8 → is_name first ≡ true
    → 61 ≤ room o → behind_of (Some o) ≡ behind.Operands → (w : WrittenForm f slots) → asked_of o (first ∷ w.rest) ≡ form_with f w.rest → asked_by f slots ≡ Ok asked → Operands asked
form_operands asked o first f slots some few name wide has w leads asks = record {
  operation = o;
  has = has;
  first = first;
  rest = w.rest;
  some = some;
  stands = name_stands first name;
  stand = w.stand;
  reads = leads ∙ w.reads ∙ asks;
  fits = λ r. (let all = w.few first in omega (arith, all, few, wide));
}

-- what is obtained
obtain_is : (form : Form) (ls ss ps bs os cs : Option Said) (l : WrittenLength) (s : Written) (p : Option Target) (y : Boundary) (o : Location) (c : Bool)
    → as_length ls ≡ Some l → as_value ss ≡ Some s → as_place ps ≡ p → boundary_by (as_boundary bs) ≡ y → location_by form.family (as_location os) ≡ o
    → form_by form (as_condition cs) ≡ form_of form.family c → lacks_place form.family p ≡ false
    → obtain_by form (six_said ls ss ps bs os cs) ≡ Ok (act (obtain l s p y o (form_of form.family c)))
obtain_is form ls ss ps bs os cs l s p y o c a f b d e g h = rw (a, f, b, d, e, g, h) refl

release_is : (form : Form) (ls ss ps bs os cs : Option Said) (l s a : Written) (c : Bool)
    → as_value ls ≡ Some l → as_value ss ≡ Some s → as_value ps ≡ Some a → form_by form (as_condition cs) ≡ form_of form.family c
    → release_by form (six_said ls ss ps bs os cs) ≡ Ok (act (release l a s (form_of form.family c)))
release_is form ls ss ps bs os cs l s a c e f g h = rw (e, f, g, h) refl

whole_is : (form : Form) (ss bs os cs : Option Said) (s : Written) (c : Bool) → as_value ss ≡ Some s → form_by form (as_condition cs) ≡ form_of form.family c
    → has_whole form.family ≡ true → release_by form (six_said None ss None bs os cs) ≡ Ok (act (whole s (form_of form.family c)))
whole_is form ss bs os cs s c e f g = rw (e, f, g) refl

storage_obtain : (l : WrittenLength) (s : Written) (p : Option Target) (y : Boundary) (o : Location) (c : Bool) → IsLength l → IsValue s → IfSome p IsTarget
    → Operands (act (obtain l s p y o (form_of family.S c)))
storage_obtain l s p y o c hl hs hp =
    let x = length_spelled l hl in
    let u = value_spelled s hs in
    let q = place_spelled p hp in
    let form : Form = form_of family.S false in
    form_operands _ operation.Storage (codes "OBTAIN") (obtaining (codes "OBTAIN") obtain_row family.S false)
    (six_said x.said u.said q.said (Some (boundary y)) (Some (location o)) (Some (condition c)))
    (omega arith) (omega arith) refl (omega arith) refl
    (length_form (codes "OBTAIN") true form kind.Length kind.Place kind.Boundary kind.Location kind.Condition _ _ _ _ _ _
    x.spelled u.spelled q.spelled (boundary_spelled y) (location_spelled o) (condition_spelled c))
    refl (obtain_is form x.said u.said q.said (Some (boundary y)) (Some (location o)) (Some (condition c)) l s p y o c x.is u.is q.is refl refl refl refl)

register_obtain : (l : WrittenLength) (s : Written) (p : Option Target) (y : Boundary) (o : Location) (c : Bool) → IsLength l → IsValue s
    → IsRegisterObtain l p y o c → Operands (act (obtain l s p y o (form_of family.R c)))
register_obtain (between a b) s p y o c hl hs r = let e : is_fixed (between a b) ≡ true = r.single in cc
register_obtain (fixed v) s (Some p) y o c hl hs r = let e : Some p ≡ None = r.nowhere in cc
register_obtain (fixed v) s None Page o c hl hs r = let e : Page ≡ Doubleword = r.bounded in cc
register_obtain (fixed v) s None Doubleword Either c hl hs r = let e : Either ≡ Low = r.low in cc
register_obtain (fixed v) s None Doubleword Caller c hl hs r = let e : Caller ≡ Low = r.low in cc
register_obtain (fixed v) s None Doubleword Low true hl hs r = let e : true ≡ false = r.unconditional in cc
register_obtain (fixed v) s None Doubleword Low false hl hs r =
    let form : Form = form_of family.R false in
    let x = besides_0_spelled v hl (r.besides v refl) in
    let u = value_spelled s hs in
    form_operands _ operation.Getmain (codes "R") (obtaining (codes "R") getmain.register_row family.R false)
    (six_said x.said u.said None None None None)
    (omega arith) (omega arith) refl (omega arith) refl
    (lv_form (codes "R") true form kind.RegisterLength kind.OtherForm kind.OtherForm kind.OtherForm kind.OtherForm _ _ _ _ _ _
    x.spelled u.spelled (unsaid 63 kind.OtherForm) (unsaid 63 kind.OtherForm) (unsaid 63 kind.OtherForm) (unsaid 63 kind.OtherForm))
    refl (obtain_is form x.said u.said None None None None (fixed v) s None Doubleword Low false (one_length x.said v x.is) u.is refl refl refl refl refl)

-- the word of a form that is conditional or not
abbrev named_word : Bool → List ℕ
named_word true = codes "EC"
named_word false = codes "EU"

some_word : (c : Bool) → 1 ≤ length (named_word c)
some_word true = omega arith
some_word false = omega arith

few_word : (c : Bool) → length (named_word c) ≤ 8
few_word true = omega arith
few_word false = omega arith

name_word : (c : Bool) → is_name (named_word c) ≡ true
name_word true = refl
name_word false = refl

leads_obtain : (c : Bool) (os : List (List ℕ)) → asked_of operation.Getmain (named_word c ∷ os) ≡ form_with (obtaining (named_word c) getmain.named_row family.E c) os
leads_obtain true os = refl
leads_obtain false os = refl

leads_release : (c : Bool) (os : List (List ℕ)) → asked_of operation.Freemain (named_word c ∷ os) ≡ form_with (releasing (named_word c) freemain.named_row family.E c) os
leads_release true os = refl
leads_release false os = refl

or_no : (c : Bool) → (c || false) ≡ c
or_no true = refl
or_no false = refl

same_form : (f : Family) (c : Bool) → form_by (form_of f c) None ≡ form_of f c
same_form f c = ap (λ x. form_of f x) (or_no c)

named_obtain : (l : WrittenLength) (s : Written) (n : List ℕ) (y : Boundary) (o : Location) (c : Bool) → IsLength l → IsValue s → is_upper_name n ≡ true
    → is_fixed l ≡ true → o ≡ Low → Operands (act (obtain l s (Some (in_name n)) y o (form_of family.E c)))
named_obtain (between a b) s n y o c hl hs hn single low = cc
named_obtain (fixed v) s n y Either c hl hs hn single low = cc
named_obtain (fixed v) s n y Caller c hl hs hn single low = cc
named_obtain (fixed v) s n y Low c hl hs hn single low =
    let form : Form = form_of family.E c in
    let x = fixed_spelled v hl in
    let u = value_spelled s hs in
    let q = named_place_spelled n hn in
    let w = lv_form (named_word c) true form kind.Value kind.Name kind.Boundary kind.OtherForm kind.OtherForm _ _ _ _ _ _
    x.spelled u.spelled q.spelled (boundary_spelled y) (unsaid 63 kind.OtherForm) (unsaid 63 kind.OtherForm) in
    form_operands _ operation.Getmain (named_word c) (obtaining (named_word c) getmain.named_row family.E c)
    (six_said x.said u.said q.said (Some (boundary y)) None None)
    (some_word c) (few_word c) (name_word c) (omega arith) refl w (leads_obtain c w.rest)
    (obtain_is form x.said u.said q.said (Some (boundary y)) None None (fixed v) s (Some (in_name n)) y Low c (one_length x.said v x.is) u.is q.is refl refl
    (same_form family.E c) refl)

named_of : (l : WrittenLength) (s : Written) (p : Option Target) (y : Boundary) (o : Location) (c : Bool) → IsLength l → IsValue s → IfSome p IsTarget
    → IsNamedObtain l p o → Operands (act (obtain l s p y o (form_of family.E c)))
named_of l s None y o c hl hs hp r = let e : None ≡ Some (in_name r.place.0) = r.place.1 in cc
named_of l s (Some (in_register n)) y o c hl hs hp r = let e : Some (in_register n) ≡ Some (in_name r.place.0) = r.place.1 in cc
named_of l s (Some (in_name n)) y o c hl hs hp r = named_obtain l s n y o c hl hs hp r.single r.low

pub obtain_operands : (l : WrittenLength) (s : Written) (p : Option Target) (y : Boundary) (o : Location) (f : Family) (c : Bool) → IsLength l → IsValue s → IfSome p IsTarget
    → IsObtainForm f l p y o c → Operands (act (obtain l s p y o (form_of f c)))
obtain_operands l s p y o family.S c hl hs hp r = storage_obtain l s p y o c hl hs hp
obtain_operands l s p y o family.R c hl hs hp r = register_obtain l s p y o c hl hs r
obtain_operands l s p y o family.E c hl hs hp r = named_of l s p y o c hl hs hp r

-- what is released
storage_release : (l a s : Written) (c : Bool) → IsValue l → IsValue a → IsValue s → Operands (act (release l a s (form_of family.S c)))
storage_release l a s c hl ha hs =
    let form : Form = form_of family.S false in
    let x = fixed_spelled l hl in
    let u = value_spelled s hs in
    let q = value_spelled a ha in
    form_operands _ operation.Storage (codes "RELEASE") (releasing (codes "RELEASE") release_row family.S false)
    (six_said x.said u.said q.said None None (Some (condition c)))
    (omega arith) (omega arith) refl (omega arith) refl
    (length_form (codes "RELEASE") false form kind.Value kind.Value kind.OtherForm kind.OtherForm kind.Condition _ _ _ _ _ _
    x.spelled u.spelled q.spelled (unsaid 63 kind.OtherForm) (unsaid 63 kind.OtherForm) (condition_spelled c))
    refl (release_is form x.said u.said q.said None None (Some (condition c)) l s a c x.is u.is q.is refl)

register_release : (l a s : Written) (c : Bool) → IsValue l → IsValue a → IsValue s → is_register_0 l ≡ false → c ≡ false
    → Operands (act (release l a s (form_of family.R c)))
register_release l a s true hl ha hs n e = cc
register_release l a s false hl ha hs n e =
    let form : Form = form_of family.R false in
    let x = besides_0_spelled l hl n in
    let u = value_spelled s hs in
    let q = value_spelled a ha in
    form_operands _ operation.Freemain (codes "R") (releasing (codes "R") freemain.register_row family.R false)
    (six_said x.said u.said q.said None None None)
    (omega arith) (omega arith) refl (omega arith) refl
    (lv_form (codes "R") false form kind.RegisterLength kind.Value kind.OtherForm kind.OtherForm kind.OtherForm _ _ _ _ _ _
    x.spelled u.spelled q.spelled (unsaid 63 kind.OtherForm) (unsaid 63 kind.OtherForm) (unsaid 63 kind.OtherForm))
    refl (release_is form x.said u.said q.said None None None l s a false x.is u.is q.is refl)

named_release : (l a s : Written) (c : Bool) → IsValue l → IsValue a → IsValue s → is_named a ≡ true → Operands (act (release l a s (form_of family.E c)))
named_release l (number n) s c hl ha hs e = cc
named_release l (register n) s c hl ha hs e = cc
named_release l (named n) s c hl ha hs e =
    let form : Form = form_of family.E c in
    let x = fixed_spelled l hl in
    let u = value_spelled s hs in
    let q = named_value_spelled n ha in
    let w = lv_form (named_word c) false form kind.Value kind.NamedValue kind.OtherForm kind.OtherForm kind.OtherForm _ _ _ _ _ _
    x.spelled u.spelled q.spelled (unsaid 63 kind.OtherForm) (unsaid 63 kind.OtherForm) (unsaid 63 kind.OtherForm) in
    form_operands _ operation.Freemain (named_word c) (releasing (named_word c) freemain.named_row family.E c)
    (six_said x.said u.said q.said None None None)
    (some_word c) (few_word c) (name_word c) (omega arith) refl w (leads_release c w.rest)
    (release_is form x.said u.said q.said None None None l s (named n) c x.is u.is q.is (same_form family.E c))

pub release_operands : (l a s : Written) (f : Family) (c : Bool) → IsValue l → IsValue a → IsValue s → IsReleaseForm f l a c → Operands (act (release l a s (form_of f c)))
release_operands l a s family.S c hl ha hs r = storage_release l a s c hl ha hs
release_operands l a s family.R c hl ha hs r = register_release l a s c hl ha hs r.0 r.1
release_operands l a s family.E c hl ha hs r = named_release l a s c hl ha hs r

-- all of a subpool
pub whole_operands : (s : Written) (f : Family) (c : Bool) → IsValue s → IsWholeForm f c → Operands (act (whole s (form_of f c)))
whole_operands s family.S c hs r =
    let form : Form = form_of family.S false in
    let u = value_spelled s hs in
    form_operands _ operation.Storage (codes "RELEASE") (releasing (codes "RELEASE") release_row family.S false)
    (six_said None u.said None None None (Some (condition c)))
    (omega arith) (omega arith) refl (omega arith) refl
    (length_form (codes "RELEASE") false form kind.Value kind.Value kind.OtherForm kind.OtherForm kind.Condition _ _ _ _ _ _
    (unsaid 129 kind.Value) u.spelled (unsaid 63 kind.Value) (unsaid 63 kind.OtherForm) (unsaid 63 kind.OtherForm) (condition_spelled c))
    refl (whole_is form u.said None None (Some (condition c)) s c u.is refl refl)
whole_operands s family.R true hs r = cc
whole_operands s family.R false hs r =
    let form : Form = form_of family.R false in
    let u = value_spelled s hs in
    form_operands _ operation.Freemain (codes "R") (releasing (codes "R") freemain.register_row family.R false)
    (six_said None u.said None None None None)
    (omega arith) (omega arith) refl (omega arith) refl
    (lv_form (codes "R") false form kind.RegisterLength kind.Value kind.OtherForm kind.OtherForm kind.OtherForm _ _ _ _ _ _
    (unsaid 129 kind.RegisterLength) u.spelled (unsaid 63 kind.Value) (unsaid 63 kind.OtherForm) (unsaid 63 kind.OtherForm) (unsaid 63 kind.OtherForm))
    refl (whole_is form u.said None None None s false u.is refl refl)
whole_operands s family.E c hs r = absurd r
