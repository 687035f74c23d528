-- What holds if a service has no cause, and what it then leaves.
use Rattle.std.proofs.Common.{◌≡◌, ℕ, suc, ◌-◌, ◌*◌, ◌/◌, ◌%◌, ◌<◌, ◌≤◌, Bool, true, false, not, ◌||◌, nat_lt, ◌==◌, Option, Some, None, length, List, [], ◌∷◌, refl, sym, ◌∙◌, ap, subst, arith, true≢false}
use Rattle.std.specs.Prelude.{is_none, unwrap_or}
use Rattle.std.proofs.lemmas.Bool.{or_parts, not-false, not-true, eqb-true, eqb-false, ltb-false}
use Rattle.vsm_model.specs.declared.causes.Cause.TheVariants.{UnsupportedSubpool, SubpoolNotAllowed, BadLength, TooManyNames, NoStorage, Misaligned, NotInSubpool, OverlapsFree, OverlapsCells, WholeOfZero, NotOwner, NotAssigned}
use Rattle.vsm_model.specs.declared.limits.Settings.{Settings}
use Rattle.vsm_model.specs.declared.replies.Reply.{Reply}
use Rattle.vsm_model.specs.declared.replies.Reply.TheVariants.{Obtained}
use Rattle.vsm_model.specs.declared.services.Obtain.{Obtain}
use Rattle.vsm_model.specs.declared.services.Release.{Release}
use Rattle.vsm_model.specs.Search.{some_pass, IsGreatestAmong}
use Rattle.vsm_model.specs.Regions.{doublewords}
use Rattle.vsm_model.specs.State.{State}
use Rattle.vsm_model.specs.Subpools.{sees_one, seen_or_own, with_own}
use Rattle.vsm_model.specs.Areas.{is_nowhere, address_of}
use Rattle.vsm_model.specs.Bytes.{are_there, store_causes}
use Rattle.vsm_model.specs.Causes.{Causes, first_cause}
use Rattle.vsm_model.specs.Services.{obtain, minimum, maximum}
use Rattle.vsm_model.specs.Standing.{Accepted}
use Rattle.vsm_model.specs.Registers.{with_registers, registers_set}
use Rattle.vsm_model.specs.Obtaining.{with_area, place_for, longest, obtain_causes, obtained}
use Rattle.vsm_model.specs.Releasing.{is_foreign, is_not_taken, overlaps_cells, release_causes, whole_causes}
use Rattle.vsm_model.specs.Step.{replied}
use Rattle.vsm_model.proofs.Chosen.{past, accepted_state, accepted_reply}
use Rattle.vsm_model.proofs.Least.{greatest_among}

pub not_zero : (n : ℕ) → (n == 0) ≡ false → 0 < n
not_zero n e = let other = eqb-false n 0 e in omega (arith, other)

-- the number is one of private storage, and none of the further causes holds
past_number : (number : ℕ) (rows : Causes) →
    first_cause (((number == 131) || (number == 132), UnsupportedSubpool) ∷ (nat_lt 127 number, SubpoolNotAllowed) ∷ rows) ≡ None →
    (number ≤ 127) × (first_cause rows ≡ None)
past_number number rows none =
    let first = past ((number == 131) || (number == 132)) UnsupportedSubpool ((nat_lt 127 number, SubpoolNotAllowed) ∷ rows) none in
    let second = past (nat_lt 127 number) SubpoolNotAllowed rows first.1 in
    (ltb-false 127 number second.0, second.1)

pub record ObtainIsAllowed (settings : Settings) (names_full : Bool) (s : State) (o : Obtain) : Type 0 where
  pub private : o.number ≤ 127
  pub some : 0 < minimum o.lengths
  pub ordered : minimum o.lengths ≤ maximum o.lengths
  pub room : names_full ≡ false
  pub count : ℕ
  pub found : longest settings s o ≡ Some count
  pub has_place : is_nowhere (place_for settings s o count) ≡ false
  pub least : doublewords (minimum o.lengths) ≤ count
  pub most : count ≤ doublewords (maximum o.lengths)
  pub longer_has_none : (more : ℕ) → count < more → more ≤ doublewords (maximum o.lengths) → is_nowhere (place_for settings s o more) ≡ true

found_from : (o : Option ℕ) → is_none o ≡ false → (n : ℕ) × (o ≡ Some n)
found_from None e = absurd (true≢false e)
found_from (Some n) e = (n, refl)

pub obtain_allowed : (settings : Settings) (names_full : Bool) (s : State) (o : Obtain) → first_cause (obtain_causes settings names_full s o) ≡ None →
    ObtainIsAllowed settings names_full s o
obtain_allowed settings names_full s o none =
    let last : Causes = (is_none (longest settings s o), NoStorage) ∷ [] in
    let names : Causes = (names_full, TooManyNames) ∷ last in
    let lengths : Causes = ((minimum o.lengths == 0) || nat_lt (maximum o.lengths) (minimum o.lengths), BadLength) ∷ names in
    let one = past_number o.number lengths none in
    let two = past ((minimum o.lengths == 0) || nat_lt (maximum o.lengths) (minimum o.lengths)) BadLength names one.1 in
    let three = past names_full TooManyNames last two.1 in
    let four = past (is_none (longest settings s o)) NoStorage [] three.1 in
    let bounds = or_parts (minimum o.lengths == 0) (nat_lt (maximum o.lengths) (minimum o.lengths)) two.0 in
    let ordered : minimum o.lengths ≤ maximum o.lengths = ltb-false (maximum o.lengths) (minimum o.lengths) bounds.1 in
    let found = found_from (longest settings s o) four.0 in
    let first : ℕ = doublewords (minimum o.lengths) in
    let past_last : ℕ = suc (doublewords (maximum o.lengths)) in
    let is = subst (IsGreatestAmong (λ count. not (is_nowhere (place_for settings s o count))) first (past_last - first)) found.1
    (greatest_among (λ count. not (is_nowhere (place_for settings s o count))) first (past_last - first)) in
    let below = is.2 in
    let above = is.1 in
    record {
      private = one.0;
      some = not_zero (minimum o.lengths) bounds.0;
      ordered = ordered;
      room = three.0;
      count = found.0;
      found = found.1;
      has_place = not-true (is_nowhere (place_for settings s o found.0)) is.0;
      least = above;
      most = omega (arith, below, above, ordered);
      longer_has_none = λ more over under. not-false (is_nowhere (place_for settings s o more)) (is.3 more over (omega (arith, under, over, above)));
    }

-- what an obtain without a cause leaves, and its reply
pub obtain_leaves : (settings : Settings) (s t : State) (o : Obtain) (reply : Reply) (count : ℕ) → longest settings s o ≡ Some count →
    replied (obtain o) (obtained settings s o) ≡ Accepted t reply →
    (reply ≡ Obtained (address_of (place_for settings s o count)) (8 * count))
    × (t ≡ with_registers (with_area (with_own s o.number) (seen_or_own s o.number) count (place_for settings s o count))
    (registers_set (obtain o) (Obtained (address_of (place_for settings s o count)) (8 * count))))
obtain_leaves settings s t o reply count found e =
    let at : ℕ → State = λ n. with_registers (with_area (with_own s o.number) (seen_or_own s o.number) n (place_for settings s o n))
    (registers_set (obtain o) (Obtained (address_of (place_for settings s o n)) (8 * n))) in
    let is : unwrap_or (longest settings s o) 0 ≡ count = ap (λ f. unwrap_or f 0) found in (
      sym (accepted_reply _ t _ reply e) ∙ ap (λ n. Obtained (address_of (place_for settings s o n)) (8 * n)) is,
      sym (accepted_state _ t _ reply e) ∙ ap at is,
    )

pub record ReleaseIsAllowed (settings : Settings) (s : State) (r : Release) : Type 0 where
  pub private : r.number ≤ 127
  pub some : 0 < r.length
  pub aligned : r.address % 8 ≡ 0
  pub seen : sees_one s r.number ≡ true
  pub own : some_pass (is_foreign settings s (seen_or_own s r.number)) (r.address / 8) (doublewords r.length) ≡ false
  pub used : some_pass (is_not_taken s (seen_or_own s r.number)) (r.address / 8) (doublewords r.length) ≡ false
  pub apart : overlaps_cells s r.address (8 * doublewords r.length) ≡ false

pub release_allowed : (settings : Settings) (s : State) (r : Release) → first_cause (release_causes settings s r) ≡ None → ReleaseIsAllowed settings s r
release_allowed settings s r none =
    let cells : Bool = overlaps_cells s r.address (8 * doublewords r.length) in
    let free : Bool = some_pass (is_not_taken s (seen_or_own s r.number)) (r.address / 8) (doublewords r.length) in
    let foreign : Bool = some_pass (is_foreign settings s (seen_or_own s r.number)) (r.address / 8) (doublewords r.length) in
    let six : Causes = (cells, OverlapsCells) ∷ [] in
    let five : Causes = (free, OverlapsFree) ∷ six in
    let four : Causes = (foreign, NotInSubpool) ∷ five in
    let three : Causes = (not (sees_one s r.number), NotInSubpool) ∷ four in
    let two : Causes = (not ((r.address % 8) == 0), Misaligned) ∷ three in
    let zero = past_number r.number ((r.length == 0, BadLength) ∷ two) none in
    let length = past (r.length == 0) BadLength two zero.1 in
    let aligned = past (not ((r.address % 8) == 0)) Misaligned three length.1 in
    let seen = past (not (sees_one s r.number)) NotInSubpool four aligned.1 in
    let own = past foreign NotInSubpool five seen.1 in
    let used = past free OverlapsFree six own.1 in
    let apart = past cells OverlapsCells [] used.1 in
    record {
      private = zero.0;
      some = not_zero r.length length.0;
      aligned = eqb-true (r.address % 8) 0 (not-false ((r.address % 8) == 0) aligned.0);
      seen = not-false (sees_one s r.number) seen.0;
      own = own.0;
      used = used.0;
      apart = apart.0;
    }

pub record WholeIsAllowed (s : State) (number : ℕ) : Type 0 where
  pub private : number ≤ 127
  pub some : 0 < number
  pub seen : sees_one s number ≡ true
  pub own : (seen_or_own s number).owner ≡ s.current

pub whole_allowed : (s : State) (number : ℕ) → first_cause (whole_causes s number) ≡ None → WholeIsAllowed s number
whole_allowed s number none =
    let mine : Bool = (seen_or_own s number).owner == s.current in
    let three : Causes = (not mine, NotOwner) ∷ [] in
    let two : Causes = (not (sees_one s number), NotInSubpool) ∷ three in
    let private = past_number number ((number == 0, WholeOfZero) ∷ two) none in
    let some = past (number == 0) WholeOfZero two private.1 in
    let seen = past (not (sees_one s number)) NotInSubpool three some.1 in
    let own = past (not mine) NotOwner [] seen.1 in
    record {
      private = private.0;
      some = not_zero number some.0;
      seen = not-false (sees_one s number) seen.0;
      own = eqb-true (seen_or_own s number).owner s.current (not-false mine own.0);
    }

pub store_allowed : (s : State) (address : ℕ) (bytes : List ℕ) → first_cause (store_causes s address bytes) ≡ None → are_there s address (length bytes) ≡ true
store_allowed s address bytes none =
    not-false (are_there s address (length bytes)) (past (not (are_there s address (length bytes))) NotAssigned [] none).0
