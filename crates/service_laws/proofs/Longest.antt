-- A variable request is given the greatest length that has a place, as a fixed one for that length is.
use Rattle.std.proofs.Common.{◌≡◌, ◌≢◌, ℕ, suc, ◌-◌, ◌*◌, ◌<◌, ◌≤◌, ◌⊎◌, Bool, true, false, not, ◌&&◌, ◌||◌, nat_lt, ◌==◌, if◌then◌else◌, Option, Some, None, [], ◌∷◌, ◌++◌, arith, refl, sym, ◌∙◌, ap, subst, inl, inr}
use Rattle.std.specs.Prelude.{is_none, unwrap_or}
use Rattle.std.proofs.lemmas.Bool.{cond-false, or_from, false_from_ne_true, eqb-true, ltb-true}
use Rattle.vsm_model.specs.declared.causes.Cause.{Cause}
use Rattle.vsm_model.specs.declared.causes.Cause.TheVariants.{UnsupportedSubpool, SubpoolNotAllowed, BadLength, TooManyNames, NoStorage}
use Rattle.vsm_model.specs.declared.limits.Settings.{Settings}
use Rattle.vsm_model.specs.declared.replies.Reply.TheVariants.{Obtained, Returned}
use Rattle.vsm_model.specs.declared.services.Lengths.{Lengths}
use Rattle.vsm_model.specs.declared.services.Lengths.TheVariants.{Fixed, Variable}
use Rattle.vsm_model.specs.declared.services.Obtain.{Obtain}
use Rattle.vsm_model.specs.Regions.{doublewords}
use Rattle.vsm_model.specs.State.{State}
use Rattle.vsm_model.specs.Subpools.{seen_or_own, with_own}
use Rattle.vsm_model.specs.Areas.{is_nowhere, address_of}
use Rattle.vsm_model.specs.Causes.{Causes, first_cause, answers_four}
use Rattle.vsm_model.specs.Registers.{with_registers, registers_set, length_register, named_register}
use Rattle.vsm_model.specs.Services.{obtain, maximum}
use Rattle.vsm_model.specs.Standing.{Accepted, Refused}
use Rattle.vsm_model.specs.Obtaining.{with_area, place_for, longest, obtain_causes}
use Rattle.vsm_model.specs.Step.{step, replied, answered, effect, causes}
use Rattle.vsm_model.proofs.Chosen.{Stepped, accepted_has_its_effect}
use Rattle.vsm_model.proofs.Least.{greatest_by}
use Rattle.service_laws.specs.Granted.{DiffersByRegister0, FixedIsVariableWithOneBound, GreatestLengthIsGiven}
use Rattle.service_laws.proofs.Registers.{kept_there}
use Rattle.service_laws.proofs.Allowed.{ObtainIsAllowed, obtain_allowed, obtain_leaves}
use Rattle.service_laws.proofs.Grants.{is_left, address_is, length_is, other_reply}

-- a length that is also given sets only register 0
zero_alone : (v : State) (lengths : Lengths) (named : Option ℕ) (address given length : ℕ) →
    (with_registers v ((15, 0) ∷ (1, address) ∷ length_register lengths given ++ named_register named address)
    ≡ record (with_registers v ((15, 0) ∷ (1, address) ∷ length_register (Fixed length) given ++ named_register named address)) {
      words = (with_registers v ((15, 0) ∷ (1, address) ∷ length_register lengths given ++ named_register named address)).words;
    })
    × ((task r : ℕ) → (task ≢ v.current) ⊎ (r ≢ 0) →
    (with_registers v ((15, 0) ∷ (1, address) ∷ length_register lengths given ++ named_register named address)).words task r
    ≡ (with_registers v ((15, 0) ∷ (1, address) ∷ length_register (Fixed length) given ++ named_register named address)).words task r)
zero_alone v (Fixed n) None address given length = (refl, λ task r other. refl)
zero_alone v (Fixed n) (Some q) address given length = (refl, λ task r other. refl)
zero_alone v (Variable most least) None address given length =
    (refl, λ task r other. kept_there (with_registers v ((15, 0) ∷ (1, address) ∷ [])) 0 given task r other)
zero_alone v (Variable most least) (Some q) address given length = (
  refl,
  λ task r other. ap (λ old. if (task == v.current) && (r == q) then address else old)
      (kept_there (with_registers v ((15, 0) ∷ (1, address) ∷ [])) 0 given task r other),
)

-- the same of two states that are left by a request and by one for a fixed length
differs : (s v t : State) (lengths : Lengths) (named : Option ℕ) (address given length : ℕ) → v.current ≡ s.current →
    t ≡ with_registers v ((15, 0) ∷ (1, address) ∷ length_register lengths given ++ named_register named address) →
    DiffersByRegister0 s
    (Accepted (with_registers v ((15, 0) ∷ (1, address) ∷ length_register (Fixed length) given ++ named_register named address)) (Obtained address given))
    (Accepted t (Obtained address given))
differs s v t lengths named address given length same is =
    let fixed : State = with_registers v ((15, 0) ∷ (1, address) ∷ length_register (Fixed length) given ++ named_register named address) in
    let h = zero_alone v lengths named address given length in
    subst (λ t. DiffersByRegister0 s (Accepted fixed (Obtained address given)) (Accepted t (Obtained address given))) (sym is) (
      refl,
      h.0,
      λ task r other. h.1 task r (elim other [ inl apart ↦ inl (λ e. apart (e ∙ same)) | inr apart ↦ inr apart ]),
    )

-- a condition that doesn't hold is passed
not_here : (b : Bool) (cause : Cause) (rows : Causes) (o : Option Cause) → b ≡ false → first_cause rows ≡ o → first_cause ((b, cause) ∷ rows) ≡ o
not_here b cause rows o e rest = cond-false b (Some cause) (first_cause rows) e ∙ rest

not_number : (number : ℕ) (rows : Causes) (o : Option Cause) → number ≤ 127 → first_cause rows ≡ o →
    first_cause (((number == 131) || (number == 132), UnsupportedSubpool) ∷ (nat_lt 127 number, SubpoolNotAllowed) ∷ rows) ≡ o
not_number number rows o private rest =
    not_here ((number == 131) || (number == 132)) UnsupportedSubpool ((nat_lt 127 number, SubpoolNotAllowed) ∷ rows) o
    (or_from (number == 131) (number == 132)
    (false_from_ne_true (number == 131) (λ e. let is = eqb-true number 131 e in omega (arith, is, private)))
    (false_from_ne_true (number == 132) (λ e. let is = eqb-true number 132 e in omega (arith, is, private))))
    (not_here (nat_lt 127 number) SubpoolNotAllowed rows o
    (false_from_ne_true (nat_lt 127 number) (λ e. let is = ltb-true 127 number e in omega (arith, is, private))) rest)

-- a fixed length that isn't zero, in private storage and with room for a name, is refused only for lack of storage
fixed_cause : (settings : Settings) (s : State) (o : Obtain) (length : ℕ) (conditional : Bool) (cause : Option Cause) → o.number ≤ 127 → 0 < length →
    first_cause ((is_none (longest settings s (record o { lengths = Fixed length; conditional = conditional })), NoStorage) ∷ []) ≡ cause →
    first_cause (obtain_causes settings false s (record o { lengths = Fixed length; conditional = conditional })) ≡ cause
fixed_cause settings s o length conditional cause private some last =
    let f : Obtain = record o { lengths = Fixed length; conditional = conditional } in
    let storage : Causes = (is_none (longest settings s f), NoStorage) ∷ [] in
    not_number o.number (((length == 0) || nat_lt length length, BadLength) ∷ (false, TooManyNames) ∷ storage) cause private
    (not_here ((length == 0) || nat_lt length length) BadLength ((false, TooManyNames) ∷ storage) cause
    (or_from (length == 0) (nat_lt length length)
    (false_from_ne_true (length == 0) (λ e. let is = eqb-true length 0 e in omega (arith, is, some)))
    (false_from_ne_true (nat_lt length length) (λ e. let is = ltb-true length length e in omega (arith, is))))
    last)

-- what has a place at a fixed length
fixed_longest : (settings : Settings) (s : State) (o : Obtain) (length count : ℕ) → doublewords length ≡ count →
    is_nowhere (place_for settings s o count) ≡ false → longest settings s (record o { lengths = Fixed length }) ≡ Some count
fixed_longest settings s o length count size there =
    sym (greatest_by (λ n. not (is_nowhere (place_for settings s o n))) (doublewords length) (suc (doublewords length) - doublewords length) (Some count) (
      ap not there,
      omega (arith, size),
      omega (arith, size),
      λ k above below. absurd (omega (arith, size, above, below)),
    ))

fixed_none : (settings : Settings) (s : State) (o : Obtain) (length : ℕ) →
    is_nowhere (place_for settings s o (doublewords length)) ≡ true → longest settings s (record o { lengths = Fixed length; conditional = false }) ≡ None
fixed_none settings s o length none =
    sym (greatest_by (λ n. not (is_nowhere (place_for settings s o n))) (doublewords length) (suc (doublewords length) - doublewords length) None
    (λ k from below.
    let is : doublewords length ≡ k = omega (arith, from, below) in
    subst (λ n. not (is_nowhere (place_for settings s o n)) ≡ false) is (ap not none)))

-- a fixed length that has a place is obtained there
fixed_obtained : (settings : Settings) (s : State) (o : Obtain) (count : ℕ) → longest settings s o ≡ Some count →
    replied (obtain o) (effect settings s (obtain o))
    ≡ Accepted (with_registers (with_area (with_own s o.number) (seen_or_own s o.number) count (place_for settings s o count))
    (registers_set (obtain o) (Obtained (address_of (place_for settings s o count)) (8 * count))))
    (Obtained (address_of (place_for settings s o count)) (8 * count))
fixed_obtained settings s o count found =
    let at : ℕ → Stepped =
    λ n. Accepted (with_registers (with_area (with_own s o.number) (seen_or_own s o.number) n (place_for settings s o n))
    (registers_set (obtain o) (Obtained (address_of (place_for settings s o n)) (8 * n))))
    (Obtained (address_of (place_for settings s o n)) (8 * n)) in
    ap (λ f. at (unwrap_or f 0)) found

module _ (settings : Settings) (names_full : Bool) (s t : State) (o : Obtain) (may : ObtainIsAllowed settings names_full s o)
    (is : t ≡ with_registers (with_area (with_own s o.number) (seen_or_own s o.number) may.count (place_for settings s o may.count))
    (registers_set (obtain o) (Obtained (address_of (place_for settings s o may.count)) (8 * may.count)))) where
  some : 0 < may.count
  some = let least = may.least in let min = may.some in omega (arith, least, min)

  -- what is asked for its own length
  own_length : DiffersByRegister0 s (step settings false s (obtain (record o { lengths = Fixed (8 * may.count) })))
      (Accepted t (Obtained (address_of (place_for settings s o may.count)) (8 * may.count)))
  own_length =
      let f : Obtain = record o { lengths = Fixed (8 * may.count) } in
      let found = fixed_longest settings s o (8 * may.count) may.count (omega arith) may.has_place in
      let none : first_cause (causes settings false s (obtain f)) ≡ None =
      fixed_cause settings s o (8 * may.count) o.conditional None may.private (let more = some in omega (arith, more)) (ap (λ l. if is_none l then Some NoStorage else None) found) in
      let goes = place_for settings s o may.count in
      let after : State = with_area (with_own s o.number) (seen_or_own s o.number) may.count goes in
      let left = is_left s after o.number (seen_or_own s o.number) may.count goes [] refl in
      subst (λ r. DiffersByRegister0 s r (Accepted t (Obtained (address_of goes) (8 * may.count))))
      (sym (ap (answered settings s (obtain f)) none ∙ fixed_obtained settings s f may.count found))
      (differs s after t o.lengths o.register (address_of goes) (8 * may.count) (8 * may.count) left.current is)

  -- what is asked for more
  longer_refused : (longer : ℕ) → 8 * may.count < longer → longer ≤ 8 * doublewords (maximum o.lengths) →
      step settings false s (obtain (record o { lengths = Fixed longer; conditional = false })) ≡ Refused NoStorage
  longer_refused longer more most =
      let f : Obtain = record o { lengths = Fixed longer; conditional = false } in
      let none = fixed_none settings s o longer (may.longer_has_none (doublewords longer) (omega (arith, more)) (omega (arith, most))) in
      let cause : first_cause (causes settings false s (obtain f)) ≡ Some NoStorage =
      fixed_cause settings s o longer false (Some NoStorage) may.private (omega (arith, more)) (ap (λ l. if is_none l then Some NoStorage else None) none) in
      ap (answered settings s (obtain f)) cause

pub greatest_length_is_given : GreatestLengthIsGiven
greatest_length_is_given settings names_full s t o address given e =
    elim (accepted_has_its_effect settings names_full s t (obtain o) (Obtained address given) e) [
      | inl done ↦
          let may = obtain_allowed settings names_full s o done.0 in
          let leaves = obtain_leaves settings s t o (Obtained address given) may.count may.found done.1 in
          let at = address_is _ _ _ _ leaves.0 in
          let size = length_is _ _ _ _ leaves.0 in (
            subst (λ full. DiffersByRegister0 s (step settings full s (obtain (record o { lengths = Fixed given }))) (Accepted t (Obtained address given))) (sym may.room)
                (subst (λ n. DiffersByRegister0 s (step settings false s (obtain (record o { lengths = Fixed given }))) (Accepted t (Obtained n given))) (sym at)
                (subst (λ n. DiffersByRegister0 s (step settings false s (obtain (record o { lengths = Fixed n }))) (Accepted t (Obtained (address_of (place_for settings s o may.count)) n))) (sym size)
                (own_length settings names_full s t o may leaves.1))),
            λ longer more most.
                subst (λ full. step settings full s (obtain (record o { lengths = Fixed longer; conditional = false })) ≡ Refused NoStorage) (sym may.room)
                (longer_refused settings names_full s t o may leaves.1 longer (omega (arith, more, size)) most),
          )
      | inr four ↦ absurd (other_reply four.1)
    ]

module _ (settings : Settings) (s : State) (o : Obtain) (length : ℕ) where
  fixed : Obtain
  fixed = record o { lengths = Fixed length }

  variable : Obtain
  variable = record o { lengths = Variable length length }

  same_effect : DiffersByRegister0 s (replied (obtain fixed) (effect settings s (obtain fixed))) (replied (obtain variable) (effect settings s (obtain variable)))
  unfolding fixed variable
  same_effect =
      let count : ℕ = unwrap_or (longest settings s fixed) 0 in
      let goes = place_for settings s o count in
      let after : State = with_area (with_own s o.number) (seen_or_own s o.number) count goes in
      let left = is_left s after o.number (seen_or_own s o.number) count goes [] refl in
      differs s after _ (Variable length length) o.register (address_of goes) (8 * count) length left.current refl

  four_or_refused : (b : Bool) (cause : Cause) →
      DiffersByRegister0 s (if b then replied (obtain fixed) (s, Returned 4) else Refused cause) (if b then replied (obtain variable) (s, Returned 4) else Refused cause)
  four_or_refused true cause = (refl, refl, λ task r other. refl)
  four_or_refused false cause = refl

  either_way : (c : Option Cause) → DiffersByRegister0 s (answered settings s (obtain fixed) c) (answered settings s (obtain variable) c)
  unfolding fixed variable
  either_way None = same_effect
  either_way (Some cause) = four_or_refused (o.conditional && answers_four cause) cause

pub fixed_is_variable_with_one_bound : FixedIsVariableWithOneBound
unfolding fixed variable
fixed_is_variable_with_one_bound settings names_full s o length =
    either_way settings s o length (first_cause (causes settings names_full s (obtain (record o { lengths = Fixed length }))))
