-- What is read by a form of STORAGE, GETMAIN or FREEMAIN is valid.
use Rattle.std.proofs.Common.{◌≡◌, ℕ, ◌<◌, ◌==◌, Bool, true, false, List, [], ◌∷◌, map, Option, Some, None, Result, Ok, Err, is_some, codes, unwrap_or, option_and_then, if◌then◌else◌, arith, refl, ap, sym, subst, ◌∙◌}
use Rattle.std.specs.Option.{IfSome, option_map}
use Rattle.std.specs.Char.{to_ascii_uppercase}
use Rattle.operand_texts.specs.Words.{is_name, is_word}
use Rattle.operand_texts.specs.Written as written
use Rattle.operand_texts.specs.Written.{Written, Target, in_name, in_register, IsValue, IsTarget}
use Rattle.operand_texts.specs.Values.{value_of, target_of, parts_of}
use Rattle.operand_texts.proofs.Spelling.{spelled_is_valid, spelled_place_is_valid, upper_named}
use Rattle.macro_operands.specs.Rows.{keyword}
use Rattle.macro_operands.specs.Operands.{first_fault, unless_fault, text_at}
use Rattle.macro_operands.specs.Lengths.{both_of, pair_of, is_register_0, is_named, name_of}
use Rattle.macro_operands.specs.Said.{Said, number, register, name, pair, condition, content, size, count, boundary, location, header, anything, said_of, value_said, pair_said, value_or_pair, unless_register_0}
use Rattle.macro_operands.specs.Slots.{Slots, slot, readings, as_value, as_pair, as_place, as_condition, as_boundary, as_location}
use Rattle.macro_operands.proofs.ReadValues.{name_in, value_kept, no_pair, place_kept}
use Rattle.macro_operands.specs.declared.rows.Kind.{Kind}
use Rattle.macro_operands.specs.declared.rows.Kind.TheVariants as kind
use Rattle.macro_operands.specs.declared.faults.FaultKind.{FaultKind}
use Rattle.macro_operands.specs.declared.faults.FaultKind.TheVariants as fault
use Rattle.macro_operands.specs.Requests.{WrittenLength, fixed, IsLength, is_fixed, obtain, release, whole, Asked, act, IsObtainForm, IsReleaseForm, IsWholeForm, IsValidAsked}
use Rattle.macro_statements.specs.Forms.{storage_row, StorageForm, obtaining, releasing, StorageMacro, either_length, as_length, subpool_by, lacks_place, obtain_with, has_whole, release_with, asked_by, form_with, form_for, with_form, macro_of, boundary_by, condition_by, location_by, form_by}
use Rattle.macro_operands.specs.declared.requests.Form.{Form}
use Rattle.vsm_model.specs.declared.causes.Family.{Family}
use Rattle.vsm_model.specs.declared.causes.Family.TheVariants as family
use Rattle.vsm_model.specs.declared.services.Boundary.{Boundary}
use Rattle.vsm_model.specs.declared.services.Boundary.TheVariants.{Doubleword}
use Rattle.vsm_model.specs.declared.services.Location.{Location}

-- what an operand says, by its kind
abbrev pub read : Kind → Option (List ℕ) → Option Said
read k t = option_and_then (said_of k) t

pub some_value : (t : List ℕ) (v : Option Written) → value_of t ≡ v → IfSome v IsValue
some_value t None e = tt
some_value t (Some v) e = spelled_is_valid t v e

text_valid : (t : List ℕ) → IfSome (as_value (value_said t)) IsValue
text_valid t = subst (λ o. IfSome o IsValue) (sym (value_kept t)) (some_value t (value_of t) refl)

pub value_valid : (t : Option (List ℕ)) → IfSome (as_value (read kind.Value t)) IsValue
value_valid None = tt
value_valid (Some t) = text_valid t

-- pairs and lengths
abbrev AreValues : Written × Written → Type 0
AreValues p = IsValue p.0 × IsValue p.1

both_valid : (a b : Option Written) → IfSome a IsValue → IfSome b IsValue → IfSome (both_of a b) AreValues
both_valid None b h k = tt
both_valid (Some a) None h k = tt
both_valid (Some a) (Some b) h k = (h, k)

pair_in_valid : (p : Option (List ℕ × List ℕ)) → IfSome (option_and_then (λ q. both_of (value_of q.0) (value_of q.1)) p) AreValues
pair_in_valid None = tt
pair_in_valid (Some p) = both_valid (value_of p.0) (value_of p.1) (some_value p.0 (value_of p.0) refl) (some_value p.1 (value_of p.1) refl)

pair_valid : (s : Option Said) → IfSome (as_pair s) AreValues
pair_valid None = tt
pair_valid (Some (pair t)) = pair_in_valid (parts_of t)
pair_valid (Some (number n)) = tt
pair_valid (Some (register n)) = tt
pair_valid (Some (name t)) = tt
pair_valid (Some (condition b)) = tt
pair_valid (Some (content t)) = tt
pair_valid (Some (size n)) = tt
pair_valid (Some (count n)) = tt
pair_valid (Some (boundary b)) = tt
pair_valid (Some (location l)) = tt
pair_valid (Some (header t)) = tt
pair_valid (Some anything) = tt

either_valid : (v : Option Written) (p : Option (Written × Written)) → IfSome v IsValue → IfSome p AreValues → IfSome (either_length v p) IsLength
either_valid None None h k = tt
either_valid None (Some p) h k = k
either_valid (Some v) p h k = h

length_valid : (s : Option Said) → IfSome (as_value s) IsValue → IfSome (as_length s) IsLength
length_valid s h = either_valid (as_value s) (as_pair s) h (pair_valid s)

pair_if : (t : List ℕ) (b : Bool) → IfSome (as_value (if b then Some (pair t) else None)) IsValue
pair_if t true = tt
pair_if t false = tt

or_pair_valid : (s : Option Said) (t : List ℕ) → IfSome (as_value s) IsValue → IfSome (as_value (value_or_pair s t)) IsValue
or_pair_valid None t h = pair_if t (is_some (pair_of t))
or_pair_valid (Some s) t h = h

-- a kind whose lengths are valid
abbrev pub HasLengths : Kind → Type 0
HasLengths k = (t : Option (List ℕ)) → IfSome (as_length (read k t)) IsLength

pub values_length : HasLengths kind.Value
values_length None = tt
values_length (Some t) = length_valid (value_said t) (text_valid t)

pub any_length : HasLengths kind.Length
any_length None = tt
any_length (Some t) = length_valid (value_or_pair (value_said t) t) (or_pair_valid (value_said t) t (text_valid t))

pub pairs_length : HasLengths kind.Pair
pairs_length None = tt
pairs_length (Some t) = length_valid (pair_said t) (or_pair_valid None t tt)

-- a value that isn't in register 0
abbrev IsBesides : Written → Type 0
IsBesides v = IsValue v × (is_register_0 v ≡ false)

register_if : (n : ℕ) (b : Bool) → (n == 0) ≡ b → n < 16 → IfSome (as_value (if b then None else Some (register n))) IsBesides
register_if n true e h = tt
register_if n false e h = (h, e)

name_besides : (o : Option (List ℕ)) → IfSome (option_map written.named o) IsValue → IfSome (option_map written.named o) IsBesides
name_besides None h = tt
name_besides (Some n) h = (h, refl)

unless_besides : (s : Option Said) → IfSome (as_value s) IsValue → IfSome (as_value (unless_register_0 s)) IsBesides
unless_besides None h = tt
unless_besides (Some (number n)) h = (h, refl)
unless_besides (Some (register n)) h = register_if n (n == 0) refl h
unless_besides (Some (name t)) h = name_besides (name_of t) h
unless_besides (Some (pair t)) h = tt
unless_besides (Some (condition b)) h = tt
unless_besides (Some (content t)) h = tt
unless_besides (Some (size n)) h = tt
unless_besides (Some (count n)) h = tt
unless_besides (Some (boundary b)) h = tt
unless_besides (Some (location l)) h = tt
unless_besides (Some (header t)) h = tt
unless_besides (Some anything) h = tt

besides_valid : (t : Option (List ℕ)) → IfSome (as_value (read kind.RegisterLength t)) IsBesides
besides_valid None = tt
besides_valid (Some t) = unless_besides (value_said t) (text_valid t)

no_register_pair : (n : ℕ) (b : Bool) → as_pair (if b then None else Some (register n)) ≡ None
no_register_pair n true = refl
no_register_pair n false = refl

no_pair_unless : (s : Option Said) → as_pair s ≡ None → as_pair (unless_register_0 s) ≡ None
no_pair_unless None h = refl
no_pair_unless (Some (register n)) h = no_register_pair n (n == 0)
no_pair_unless (Some (pair t)) h = h
no_pair_unless (Some (number n)) h = refl
no_pair_unless (Some (name t)) h = refl
no_pair_unless (Some (condition b)) h = refl
no_pair_unless (Some (content t)) h = refl
no_pair_unless (Some (size n)) h = refl
no_pair_unless (Some (count n)) h = refl
no_pair_unless (Some (boundary b)) h = refl
no_pair_unless (Some (location l)) h = refl
no_pair_unless (Some (header t)) h = refl
no_pair_unless (Some anything) h = refl

-- a length that isn't in register 0
record IsRegisterLength (l : WrittenLength) : Type 0 where
  valid : IsLength l
  single : is_fixed l ≡ true
  besides : (v : Written) → l ≡ fixed v → is_register_0 v ≡ false

register_of_value : (v : Written) → IsBesides v → IsRegisterLength (fixed v)
register_of_value v h = record {
  valid = h.0;
  single = refl;
  besides = λ w e. (let same : v ≡ w = cc in ap is_register_0 (sym same) ∙ h.1);
}

either_register : (v : Option Written) (p : Option (Written × Written)) → IfSome v IsBesides → p ≡ None → IfSome (either_length v p) IsRegisterLength
either_register None None h e = tt
either_register None (Some p) h e = cc
either_register (Some v) p h e = register_of_value v h

register_length : (t : Option (List ℕ)) → IfSome (as_length (read kind.RegisterLength t)) IsRegisterLength
register_length None = tt
register_length (Some t) =
    either_register (as_value (unless_register_0 (value_said t))) (as_pair (unless_register_0 (value_said t))) (unless_besides (value_said t) (text_valid t))
    (no_pair_unless (value_said t) (no_pair t))

-- a length that is one value
abbrev IsSingle : WrittenLength → Type 0
IsSingle l = IsLength l × (is_fixed l ≡ true)

either_single : (v : Option Written) (p : Option (Written × Written)) → IfSome v IsValue → p ≡ None → IfSome (either_length v p) IsSingle
either_single None None h e = tt
either_single None (Some p) h e = cc
either_single (Some v) p h e = (h, refl)

single_length : (t : Option (List ℕ)) → IfSome (as_length (read kind.Value t)) IsSingle
single_length None = tt
single_length (Some t) = either_single (as_value (value_said t)) (as_pair (value_said t)) (text_valid t) (no_pair t)

-- places
some_place : (t : List ℕ) (p : Option Target) → target_of t ≡ p → IfSome p IsTarget
some_place t None e = tt
some_place t (Some p) e = spelled_place_is_valid t p e

abbrev pub HasPlaces : Kind → Type 0
HasPlaces k = (t : Option (List ℕ)) → IfSome (as_place (read k t)) IsTarget

pub places : HasPlaces kind.Place
places None = tt
places (Some t) = subst (λ o. IfSome o IsTarget) (sym (place_kept t)) (some_place t (target_of t) refl)

pub no_places : HasPlaces kind.OtherForm
no_places None = tt
no_places (Some t) = tt

nowhere : (t : Option (List ℕ)) → as_place (read kind.OtherForm t) ≡ None
nowhere None = refl
nowhere (Some t) = refl

abbrev IsNamedTarget : Target → Type 0
IsNamedTarget p = IsTarget p × ((n : List ℕ) × (p ≡ in_name n))

named_target_if : (t : List ℕ) (b : Bool) → is_name t ≡ b → IfSome (as_place (if b then Some (name t) else None)) IsNamedTarget
named_target_if t true e =
    subst (λ o. IfSome (option_map in_name o) IsNamedTarget) (sym (name_in t e)) (upper_named t e, (map to_ascii_uppercase t, refl))
named_target_if t false e = tt

named_target : (t : Option (List ℕ)) → IfSome (as_place (read kind.Name t)) IsNamedTarget
named_target None = tt
named_target (Some t) = named_target_if t (is_name t) refl

-- values that are names
abbrev IsNamedValue : Written → Type 0
IsNamedValue v = IsValue v × (is_named v ≡ true)

named_value_if : (t : List ℕ) (b : Bool) → is_name t ≡ b → IfSome (as_value (if b then Some (name t) else None)) IsNamedValue
named_value_if t true e = subst (λ o. IfSome (option_map written.named o) IsNamedValue) (sym (name_in t e)) (upper_named t e, refl)
named_value_if t false e = tt

named_value : (t : Option (List ℕ)) → IfSome (as_value (read kind.NamedValue t)) IsNamedValue
named_value None = tt
named_value (Some t) = named_value_if t (is_name t) refl

-- what belongs to another form isn't read
no_boundary : (t : Option (List ℕ)) → boundary_by (as_boundary (read kind.OtherForm t)) ≡ Doubleword
no_boundary None = refl
no_boundary (Some t) = refl

no_location : (f : Family) (t : Option (List ℕ)) → location_by f (as_location (read kind.OtherForm t)) ≡ location_by f None
no_location f None = refl
no_location f (Some t) = refl

no_condition : (t : Option (List ℕ)) → condition_by (as_condition (read kind.OtherForm t)) ≡ false
no_condition None = refl
no_condition (Some t) = refl

pub or_zero : (o : Option Written) → IfSome o IsValue → IsValue (unwrap_or o (written.number 0))
or_zero None h = omega arith
or_zero (Some v) h = h

-- an area that is obtained
obtain_some : (l : Option WrittenLength) (s : Written) (p : Option Target) (y : Boundary) (o : Location) (form : Form) (asked : Asked)
    → IfSome l IsLength → IsValue s → IfSome p IsTarget → ((v : WrittenLength) → l ≡ Some v → IsObtainForm form.family v p y o form.conditional)
    → obtain_with l s p y o form ≡ Ok asked → IsValidAsked asked
obtain_some None s p y o form asked a b c d h = cc
obtain_some (Some l) s p y o form asked a b c d h = let same : act (obtain l s p y o form) ≡ asked = cc in subst IsValidAsked same (a, b, c, d l refl)

obtain_valid : (l : Option WrittenLength) (s : Written) (p : Option Target) (y : Boundary) (o : Location) (form : Form) (asked : Asked)
    → IfSome l IsLength → IsValue s → IfSome p IsTarget
    → ((v : WrittenLength) → l ≡ Some v → lacks_place form.family p ≡ false → IsObtainForm form.family v p y o form.conditional)
    → (if lacks_place form.family p then Err fault.Missing else obtain_with l s p y o form) ≡ Ok asked → IsValidAsked asked
obtain_valid l s p y o form asked a b c d h =
    elim (lacks_place form.family p) as (λ x. lacks_place form.family p ≡ x → (if x then Err fault.Missing else obtain_with l s p y o form) ≡ Ok asked → IsValidAsked asked) [
      | true ↦ λ e k. cc
      | false ↦ λ e k. obtain_some l s p y o form asked a b c (λ v w. d v w e) k
    ] refl h

-- an area that is released, or all of a subpool
release_valid : (l a s : Option Written) (form : Form) (asked : Asked) → IfSome l IsValue → IfSome a IsValue → IfSome s IsValue
    → ((v w : Written) → l ≡ Some v → a ≡ Some w → IsReleaseForm form.family v w form.conditional)
    → (has_whole form.family ≡ true → IsWholeForm form.family form.conditional)
    → release_with l a s form ≡ Ok asked → IsValidAsked asked
release_valid (Some l) (Some a) s form asked u v w d e h =
    let same : act (release l a (subpool_by s) form) ≡ asked = cc in subst IsValidAsked same (u, v, or_zero s w, d l a refl refl)
release_valid (Some l) None s form asked u v w d e h = cc
release_valid None (Some a) s form asked u v w d e h = cc
release_valid None None None form asked u v w d e h = cc
release_valid None None (Some s) form asked u v w d e h =
    elim (has_whole form.family) as (λ x. has_whole form.family ≡ x → (if x then Ok (act (whole s form)) else Err fault.Missing) ≡ Ok asked → IsValidAsked asked) [
      | true ↦ λ f k. (let same : act (whole s form) ≡ asked = cc in subst IsValidAsked same (w, e f))
      | false ↦ λ f k. cc
    ] refl h

-- what a form reads is valid
abbrev pub ReadsValid : StorageForm → Type 0
ReadsValid f = (os : List (List ℕ)) (asked : Asked) → form_with f os ≡ Ok asked → IsValidAsked asked

pub no_fault_is : (f : Option FaultKind) (r : Result Asked FaultKind) (asked : Asked) → unless_fault f r ≡ Ok asked → r ≡ Ok asked
no_fault_is (Some f) r asked h = cc
no_fault_is None r asked h = h

all_weaker : {A : Type 0} (P Q : A → Type 0) (o : Option A) → ((x : A) → P x → Q x) → IfSome o P → IfSome o Q
all_weaker P Q None w h = tt
all_weaker P Q (Some x) w h = w x h

of_some : {A : Type 0} (P : A → Type 0) (o : Option A) (x : A) → IfSome o P → o ≡ Some x → P x
of_some P None x h e = cc
of_some P (Some y) x h e = let same : y ≡ x = cc in subst P same h

-- the family S
pub obtains_s : (word lw aw : List ℕ) (lk ak bk ok ck : Kind) (c : Bool) → HasLengths lk → HasPlaces ak
    → ReadsValid (obtaining word (storage_row lw lk aw ak bk ok ck) family.S c)
obtains_s word lw aw lk ak bk ok ck c hl hp os asked h =
    let f : StorageForm = obtaining word (storage_row lw lk aw ak bk ok ck) family.S c in
    let slots : Slots = readings f.row.entries os in
    let l : Option (List ℕ) = text_at (keyword lw) os in
    let s : Option (List ℕ) = text_at (keyword (codes "SP")) os in
    let a : Option (List ℕ) = text_at (keyword aw) os in
    obtain_valid (as_length (slot slots 0)) (subpool_by (as_value (slot slots 1))) (as_place (slot slots 2)) _ _ (form_by f.form (as_condition (slot slots 5))) asked
    (hl l) (or_zero (as_value (slot slots 1)) (value_valid s)) (hp a) (λ v e k. tt) (no_fault_is (first_fault f.row os) (asked_by f slots) asked h)

pub releases_s : (word lw aw : List ℕ) (bk ok ck : Kind) (c : Bool)
    → ReadsValid (releasing word (storage_row lw kind.Value aw kind.Value bk ok ck) family.S c)
releases_s word lw aw bk ok ck c os asked h =
    let f : StorageForm = releasing word (storage_row lw kind.Value aw kind.Value bk ok ck) family.S c in
    let slots : Slots = readings f.row.entries os in
    let l : Option (List ℕ) = text_at (keyword lw) os in
    let s : Option (List ℕ) = text_at (keyword (codes "SP")) os in
    let a : Option (List ℕ) = text_at (keyword aw) os in
    release_valid (as_value (slot slots 0)) (as_value (slot slots 2)) (as_value (slot slots 1)) (form_by f.form (as_condition (slot slots 5))) asked
    (value_valid l) (value_valid a) (value_valid s) (λ v w e k. tt) (λ e. tt) (no_fault_is (first_fault f.row os) (asked_by f slots) asked h)

-- the family R
pub obtains_r : (word lw aw : List ℕ)
    → ReadsValid (obtaining word (storage_row lw kind.RegisterLength aw kind.OtherForm kind.OtherForm kind.OtherForm kind.OtherForm) family.R false)
obtains_r word lw aw os asked h =
    let f : StorageForm = obtaining word (storage_row lw kind.RegisterLength aw kind.OtherForm kind.OtherForm kind.OtherForm kind.OtherForm) family.R false in
    let slots : Slots = readings f.row.entries os in
    let l : Option (List ℕ) = text_at (keyword lw) os in
    let s : Option (List ℕ) = text_at (keyword (codes "SP")) os in
    let a : Option (List ℕ) = text_at (keyword aw) os in
    let size : IfSome (as_length (slot slots 0)) IsRegisterLength = register_length l in
    obtain_valid (as_length (slot slots 0)) (subpool_by (as_value (slot slots 1))) (as_place (slot slots 2)) _ _ (form_by f.form (as_condition (slot slots 5))) asked
    (all_weaker IsRegisterLength IsLength (as_length (slot slots 0)) (λ v r. r.valid) size) (or_zero (as_value (slot slots 1)) (value_valid s)) (no_places a)
    (λ v e k. (let r = of_some IsRegisterLength (as_length (slot slots 0)) v size e in
    record {
      single = r.single;
      besides = r.besides;
      nowhere = nowhere a;
      bounded = no_boundary (text_at (keyword (codes "BNDRY")) os);
      low = no_location family.R (text_at (keyword (codes "LOC")) os);
      unconditional = no_condition (text_at (keyword (codes "COND")) os);
    }))
    (no_fault_is (first_fault f.row os) (asked_by f slots) asked h)

pub releases_r : (word lw aw : List ℕ) (bk ok : Kind)
    → ReadsValid (releasing word (storage_row lw kind.RegisterLength aw kind.Value bk ok kind.OtherForm) family.R false)
releases_r word lw aw bk ok os asked h =
    let f : StorageForm = releasing word (storage_row lw kind.RegisterLength aw kind.Value bk ok kind.OtherForm) family.R false in
    let slots : Slots = readings f.row.entries os in
    let l : Option (List ℕ) = text_at (keyword lw) os in
    let s : Option (List ℕ) = text_at (keyword (codes "SP")) os in
    let a : Option (List ℕ) = text_at (keyword aw) os in
    let size : IfSome (as_value (slot slots 0)) IsBesides = besides_valid l in
    release_valid (as_value (slot slots 0)) (as_value (slot slots 2)) (as_value (slot slots 1)) (form_by f.form (as_condition (slot slots 5))) asked
    (all_weaker IsBesides IsValue (as_value (slot slots 0)) (λ v r. r.0) size) (value_valid a) (value_valid s)
    (λ v w e k. ((of_some IsBesides (as_value (slot slots 0)) v size e).1, no_condition (text_at (keyword (codes "COND")) os))) (λ e. no_condition (text_at (keyword (codes "COND")) os))
    (no_fault_is (first_fault f.row os) (asked_by f slots) asked h)

-- the family E
has_place : (p : Option Target) → IfSome p IsNamedTarget → lacks_place family.E p ≡ false → (n : List ℕ) × (p ≡ Some (in_name n))
has_place None h e = cc
has_place (Some p) h e = (h.1.0, ap (λ x. Some x) h.1.1)

pub obtains_e : (word lw aw : List ℕ) (bk ck : Kind) (c : Bool)
    → ReadsValid (obtaining word (storage_row lw kind.Value aw kind.Name bk kind.OtherForm ck) family.E c)
obtains_e word lw aw bk ck c os asked h =
    let f : StorageForm = obtaining word (storage_row lw kind.Value aw kind.Name bk kind.OtherForm ck) family.E c in
    let slots : Slots = readings f.row.entries os in
    let l : Option (List ℕ) = text_at (keyword lw) os in
    let s : Option (List ℕ) = text_at (keyword (codes "SP")) os in
    let a : Option (List ℕ) = text_at (keyword aw) os in
    let size : IfSome (as_length (slot slots 0)) IsSingle = single_length l in
    let p : IfSome (as_place (slot slots 2)) IsNamedTarget = named_target a in
    obtain_valid (as_length (slot slots 0)) (subpool_by (as_value (slot slots 1))) (as_place (slot slots 2)) _ _ (form_by f.form (as_condition (slot slots 5))) asked
    (all_weaker IsSingle IsLength (as_length (slot slots 0)) (λ v r. r.0) size) (or_zero (as_value (slot slots 1)) (value_valid s))
    (all_weaker IsNamedTarget IsTarget (as_place (slot slots 2)) (λ v r. r.0) p)
    (λ v e k. record {
      single = (of_some IsSingle (as_length (slot slots 0)) v size e).1;
      place = has_place (as_place (slot slots 2)) p k;
      low = no_location family.E (text_at (keyword (codes "LOC")) os);
    })
    (no_fault_is (first_fault f.row os) (asked_by f slots) asked h)

pub releases_e : (word lw aw : List ℕ) (bk ok ck : Kind) (c : Bool)
    → ReadsValid (releasing word (storage_row lw kind.Value aw kind.NamedValue bk ok ck) family.E c)
releases_e word lw aw bk ok ck c os asked h =
    let f : StorageForm = releasing word (storage_row lw kind.Value aw kind.NamedValue bk ok ck) family.E c in
    let slots : Slots = readings f.row.entries os in
    let l : Option (List ℕ) = text_at (keyword lw) os in
    let s : Option (List ℕ) = text_at (keyword (codes "SP")) os in
    let a : Option (List ℕ) = text_at (keyword aw) os in
    let named : IfSome (as_value (slot slots 2)) IsNamedValue = named_value a in
    release_valid (as_value (slot slots 0)) (as_value (slot slots 2)) (as_value (slot slots 1)) (form_by f.form (as_condition (slot slots 5))) asked
    (value_valid l) (all_weaker IsNamedValue IsValue (as_value (slot slots 2)) (λ v r. r.0) named) (value_valid s)
    (λ v w e k. (of_some IsNamedValue (as_value (slot slots 2)) w named k).1) (λ e. cc)
    (no_fault_is (first_fault f.row os) (asked_by f slots) asked h)

-- a macro whose forms do so
abbrev pub AllReadValid : List StorageForm → Type 0
AllReadValid [] = Unit {0}
AllReadValid (f ∷ forms) = ReadsValid f × AllReadValid forms

pub found_valid : (m : StorageMacro) (word : List ℕ) (os : List (List ℕ)) (asked : Asked) (forms : List StorageForm) → AllReadValid forms
    → with_form m word os (form_for forms word) ≡ Ok asked → IsValidAsked asked
found_valid m word os asked [] v h = cc
found_valid m word os asked (f ∷ forms) v h =
    elim (is_word word f.word) as (λ b. with_form m word os (if b then Some f else form_for forms word) ≡ Ok asked → IsValidAsked asked) [
      | true ↦ λ k. v.0 os asked k
      | false ↦ λ k. found_valid m word os asked forms v.1 k
    ] h

pub macro_valid : (m : StorageMacro) → AllReadValid m.forms → (os : List (List ℕ)) (asked : Asked) → macro_of m os ≡ Ok asked → IsValidAsked asked
macro_valid m v [] asked h = cc
macro_valid m v (word ∷ os) asked h = found_valid m word os asked m.forms v h
