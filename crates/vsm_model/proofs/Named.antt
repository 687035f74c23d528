-- What an accepted statement does to the names.
use Rattle.std.proofs.Common.{◌≡◌, ◌⊎◌, ℕ, Bool, true, false, if◌then◌else◌, Option, Some, None, is_some, List, [], ◌∷◌, ◌++◌, map, refl, sym, ◌∙◌, ap, inl, inr, length, ◌≤◌}
use Rattle.vsm_model.specs.declared.causes.Cause.{Cause}
use Rattle.vsm_model.specs.declared.replies.Reply.{Reply}
use Rattle.vsm_model.specs.declared.replies.Reply.TheVariants.{Obtained, Returned, Cell, Attached, Turn, Stored}
use Rattle.vsm_model.specs.Standing.{Outcome, Accepted, Refused}
use Rattle.vsm_model.specs.Names.{NamedState, word_of, same_name, with_name, is_one_too_many, names_after, named, AreDistinct, GivesAddress, NamesKeepTheirOrder, StatementIsItsService, AreaIsNamed, OtherwiseNamesStay}
use Rattle.vsm_model.specs.Step.{step}
use Rattle.vsm_model.proofs.Chosen.{Stepped}
use Rattle.vsm_model.proofs.Rows.{name_stands, others_stand, with_name-distinct, with_name-few}

abbrev Rows : Type 0
Rows = List (List ℕ × ℕ)

named_is : (m n : NamedState) (q r : Reply) → ◌≡◌ {A = Outcome NamedState Reply Cause} (Accepted m q) (Accepted n r) → (m ≡ n) × (q ≡ r)
named_is m n q r e =
    let state : m ≡ n = cc in
    let reply : q ≡ r = cc in
    (state, reply)

named_refused : (cause : Cause) (n : NamedState) (r : Reply) → ◌≡◌ {A = Outcome NamedState Reply Cause} (Refused cause) (Accepted n r) → ⊥
named_refused cause n r e = cc

-- an accepted statement is its service with the names after it
accepted_named : (names : Rows) (name : Option (List ℕ)) (o : Stepped) (n : NamedState) (r : Reply) → named names name o ≡ Accepted n r →
    (o ≡ Accepted n.storage r) × (n.names ≡ names_after names name r)
accepted_named names name (Accepted s q) n r e =
    let is = named_is (record { storage = s; names = names_after names name q }) n q r e in (
      (λ i. Accepted (ap (λ (m : NamedState). m.storage) is.0 i) (is.1 i)),
      sym (ap (λ (m : NamedState). m.names) is.0) ∙ ap (names_after names name) is.1,
    )
accepted_named names name (Refused cause) n r e = absurd (named_refused cause n r e)

pub statement_is_its_service : StatementIsItsService
statement_is_its_service settings m n x r e =
    (accepted_named m.names x.name (step settings (is_one_too_many m.names x.name) m.storage x.service) n r e).0

names_are : (names : Rows) (own : List ℕ) (r : Reply) (address : ℕ) → GivesAddress r address → names_after names (Some own) r ≡ with_name names own address
names_are names own (Obtained at given) address gives = ap (with_name names own) gives
names_are names own (Cell at) address gives = ap (with_name names own) gives
names_are names own (Returned code) address gives = absurd gives
names_are names own (Attached task) address gives = absurd gives
names_are names own (Turn task) address gives = absurd gives
names_are names own Stored address gives = absurd gives

pub area_is_named : AreaIsNamed
area_is_named settings m n x name r address e gives is =
    let after = (accepted_named m.names x.name (step settings (is_one_too_many m.names x.name) m.storage x.service) n r e).1 in
    let rows : n.names ≡ with_name m.names name address = after ∙ ap (λ o. names_after m.names o r) is ∙ names_are m.names name r address gives in (
      ap (λ names. word_of names name) rows ∙ name_stands m.names name address,
      λ other apart. ap (λ names. word_of names other) rows ∙ others_stand m.names name other address apart,
    )

names_stay : (names : Rows) (name : Option (List ℕ)) (r : Reply) → (name ≡ None) ⊎ ((address : ℕ) → GivesAddress r address → ⊥) →
    names_after names name r ≡ names
names_stay names None r none = refl
names_stay names (Some own) r (inl none) = absurd (some_none own none) where
  some_none : (own : List ℕ) → ◌≡◌ {A = Option (List ℕ)} (Some own) None → ⊥
  some_none own e = cc
names_stay names (Some own) (Obtained at given) (inr other) = absurd (other at refl)
names_stay names (Some own) (Cell at) (inr other) = absurd (other at refl)
names_stay names (Some own) (Returned code) (inr other) = refl
names_stay names (Some own) (Attached task) (inr other) = refl
names_stay names (Some own) (Turn task) (inr other) = refl
names_stay names (Some own) Stored (inr other) = refl

pub otherwise_names_stay : OtherwiseNamesStay
otherwise_names_stay settings m n x r e none =
    (accepted_named m.names x.name (step settings (is_one_too_many m.names x.name) m.storage x.service) n r e).1
    ∙ names_stay m.names x.name r none

-- one name before names in their order
behind : (b : Bool) (x name : List ℕ) (xs : List (List ℕ)) →
    x ∷ (if b then xs else xs ++ name ∷ []) ≡ (if b then x ∷ xs else (x ∷ xs) ++ name ∷ [])
behind true x name xs = refl
behind false x name xs = refl

pub names_keep_their_order : NamesKeepTheirOrder
names_keep_their_order [] name word = refl
names_keep_their_order (row ∷ rows) name word =
    elim (same_name row.0 name) as (λ b. map (λ row. row.0) (if b then (row.0, word) ∷ rows else row ∷ with_name rows name word)
    ≡ (if is_some (if b then Some row.1 else word_of rows name) then row.0 ∷ map (λ row. row.0) rows else (row.0 ∷ map (λ row. row.0) rows) ++ name ∷ [])) [
      | true ↦ refl
      | false ↦ ap (λ xs. row.0 ∷ xs) (names_keep_their_order rows name word) ∙ behind (is_some (word_of rows name)) row.0 name (map (λ row. row.0) rows)
    ]

-- names stay distinct and few after a reply, if there is room for the name whenever the reply gives an address
pub names_stay_sound : (names : Rows) (name : Option (List ℕ)) (r : Reply) →
    ((address : ℕ) → GivesAddress r address → is_one_too_many names name ≡ false) → AreDistinct names → length names ≤ 1024 →
    AreDistinct (names_after names name r) × (length (names_after names name r) ≤ 1024)
names_stay_sound names None r room distinct few = (distinct, few)
names_stay_sound names (Some own) (Obtained at given) room distinct few =
    (with_name-distinct names own at distinct, with_name-few names own at few (room at refl))
names_stay_sound names (Some own) (Cell at) room distinct few =
    (with_name-distinct names own at distinct, with_name-few names own at few (room at refl))
names_stay_sound names (Some own) (Returned code) room distinct few = (distinct, few)
names_stay_sound names (Some own) (Attached task) room distinct few = (distinct, few)
names_stay_sound names (Some own) (Turn task) room distinct few = (distinct, few)
names_stay_sound names (Some own) Stored room distinct few = (distinct, few)
