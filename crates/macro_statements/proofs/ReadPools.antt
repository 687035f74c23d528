-- What is read by a form of CPOOL is valid.
use Rattle.std.proofs.Common.{◌≡◌, ℕ, Bool, true, false, ◌&&◌, List, [], ◌∷◌, Option, Some, None, Ok, is_some, codes, if◌then◌else◌, refl, sym, subst}
use Rattle.std.specs.Option.{IfSome}
use Rattle.operand_texts.specs.Words.{is_name}
use Rattle.operand_texts.specs.Values.{enclosed}
use Rattle.operand_texts.specs.Written.{Written, Target, IsValue, IsTarget}
use Rattle.operand_texts.proofs.Spelling.{upper_named}
use Rattle.macro_operands.specs.Rows.{keyword}
use Rattle.macro_operands.specs.Operands.{first_fault, text_at}
use Rattle.macro_operands.specs.Headers.{is_header, is_between_apostrophes, header_of}
use Rattle.macro_operands.specs.Said.{name, header}
use Rattle.macro_operands.specs.Slots.{Slots, readings, as_name, as_header}
use Rattle.macro_operands.specs.declared.rows.Kind.TheVariants as kind
use Rattle.macro_operands.proofs.ReadValues.{name_in}
use Rattle.macro_operands.specs.Requests.{IsName, IsHeader, build, get, free, delete, Asked, act, IsValidAsked}
use Rattle.macro_statements.specs.Forms.{subpool_by, location_by, condition_by}
use Rattle.macro_statements.specs.Cpool.{pool_form_of, pool_form_row, build_with, get_with, free_with, delete_with, pool_by, with_pool_form, cpool_of}
use Rattle.macro_statements.specs.declared.cpool.PoolForm.{PoolForm}
use Rattle.macro_statements.specs.declared.cpool.PoolForm.TheVariants as form
use Rattle.vsm_model.specs.declared.causes.Family.TheVariants as family
use Rattle.vsm_model.specs.declared.services.Location.{Location}
use Rattle.macro_statements.proofs.ReadForms.{read, value_valid, places, or_zero, no_fault_is}

-- names
name_if : (t : List ℕ) (b : Bool) → is_name t ≡ b → IfSome (as_name (if b then Some (name t) else None)) IsName
name_if t true e = subst (λ o. IfSome o IsName) (sym (name_in t e)) (upper_named t e)
name_if t false e = tt

name_valid : (t : Option (List ℕ)) → IfSome (as_name (read kind.Name t)) IsName
name_valid None = tt
name_valid (Some t) = name_if t (is_name t) refl

-- headers
both : (x y : Bool) → (x && y) ≡ true → (x ≡ true) × (y ≡ true)
both true y h = (refl, h)
both false y h = cc

header_is : (t h : List ℕ) (b : Bool) → (is_between_apostrophes t && is_header (enclosed t)) ≡ b → (if b then Some (enclosed t) else None) ≡ Some h → IsHeader h
header_is t h true e k =
    let same : enclosed t ≡ h = cc in
    subst IsHeader same (both (is_between_apostrophes t) (is_header (enclosed t)) e).1
header_is t h false e k = cc

header_if : (t : List ℕ) (o : Option (List ℕ)) → header_of t ≡ o → IfSome (as_header (if is_some o then Some (header t) else None)) IsHeader
header_if t None e = tt
header_if t (Some h) e =
    subst (λ o. IfSome o IsHeader) (sym e) (header_is t h (is_between_apostrophes t && is_header (enclosed t)) refl e)

header_valid : (t : Option (List ℕ)) → IfSome (as_header (read kind.Header t)) IsHeader
header_valid None = tt
header_valid (Some t) = header_if t (header_of t) refl

-- what each form asks for
build_valid : (n h : Option (List ℕ)) (p s z u : Option Written) (o : Option Location) (asked : Asked) → IfSome n IsName → IfSome h IsHeader → IfSome p IsValue
    → IfSome s IsValue → IfSome z IsValue → IfSome u IsValue → build_with n h p s z u o ≡ Ok asked → IsValidAsked asked
build_valid (Some n) h (Some p) s (Some z) u o asked hn hh hp hs hz hu e =
    let same : act (build n h p s z (subpool_by u) (location_by family.S o)) ≡ asked = cc in
    subst IsValidAsked same (hn, hh, hp, hs, hz, or_zero u hu)
build_valid None h None s None u o asked hn hh hp hs hz hu e = cc
build_valid None h None s (Some z) u o asked hn hh hp hs hz hu e = cc
build_valid None h (Some p) s None u o asked hn hh hp hs hz hu e = cc
build_valid None h (Some p) s (Some z) u o asked hn hh hp hs hz hu e = cc
build_valid (Some n) h None s None u o asked hn hh hp hs hz hu e = cc
build_valid (Some n) h None s (Some z) u o asked hn hh hp hs hz hu e = cc
build_valid (Some n) h (Some p) s None u o asked hn hh hp hs hz hu e = cc

get_valid : (n : Option (List ℕ)) (p : Option Target) (c : Option Bool) (asked : Asked) → IfSome n IsName → IfSome p IsTarget
    → get_with n p c ≡ Ok asked → IsValidAsked asked
get_valid None p c asked hn hp e = cc
get_valid (Some n) p c asked hn hp e = let same : act (get n p (condition_by c)) ≡ asked = cc in subst IsValidAsked same (hn, hp)

free_valid : (n : Option (List ℕ)) (c : Option Written) (asked : Asked) → IfSome n IsName → IfSome c IsValue → free_with n c ≡ Ok asked → IsValidAsked asked
free_valid None None asked hn hc e = cc
free_valid None (Some c) asked hn hc e = cc
free_valid (Some n) None asked hn hc e = cc
free_valid (Some n) (Some c) asked hn hc e = let same : act (free n c) ≡ asked = cc in subst IsValidAsked same (hn, hc)

delete_valid : (n : Option (List ℕ)) (asked : Asked) → IfSome n IsName → delete_with n ≡ Ok asked → IsValidAsked asked
delete_valid None asked hn e = cc
delete_valid (Some n) asked hn e = let same : act (delete n) ≡ asked = cc in subst IsValidAsked same hn

abbrev told : PoolForm → List (List ℕ) → Slots
told f os = readings (pool_form_row f).entries os

form_valid : (f : PoolForm) (os : List (List ℕ)) (asked : Asked) → pool_by f (told f os) ≡ Ok asked → IsValidAsked asked
form_valid form.Build os asked h =
    build_valid _ _ _ _ _ _ _ asked (name_valid (text_at (keyword (codes "CPID")) os)) (header_valid (text_at (keyword (codes "HDR")) os))
    (value_valid (text_at (keyword (codes "PCELLCT")) os)) (value_valid (text_at (keyword (codes "SCELLCT")) os))
    (value_valid (text_at (keyword (codes "CSIZE")) os)) (value_valid (text_at (keyword (codes "SP")) os)) h
form_valid form.Get os asked h =
    get_valid _ _ _ asked (name_valid (text_at (keyword (codes "CPID")) os)) (places (text_at (keyword (codes "CELL")) os)) h
form_valid form.Free os asked h =
    free_valid _ _ asked (name_valid (text_at (keyword (codes "CPID")) os)) (value_valid (text_at (keyword (codes "CELL")) os)) h
form_valid form.Delete os asked h = delete_valid _ asked (name_valid (text_at (keyword (codes "CPID")) os)) h

word_valid : (word : List ℕ) (os : List (List ℕ)) (f : Option PoolForm) (asked : Asked) → with_pool_form word os f ≡ Ok asked → IsValidAsked asked
word_valid word os None asked h = cc
word_valid word os (Some f) asked h =
    form_valid f os asked (no_fault_is (first_fault (pool_form_row f) os) (pool_by f (told f os)) asked h)

pub cpool_valid : (os : List (List ℕ)) (asked : Asked) → cpool_of os ≡ Ok asked → IsValidAsked asked
cpool_valid [] asked h = cc
cpool_valid (word ∷ os) asked h = word_valid word os (pool_form_of word) asked h
