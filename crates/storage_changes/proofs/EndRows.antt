-- The rows of sight that are removed when tasks end, and what is seen then.
use Rattle.std.proofs.Common.{◌≡◌, ◌≢◌, ℕ, ◌<◌, ◌⊎◌, Bool, true, false, not, ◌&&◌, ◌||◌, ◌==◌, if◌then◌else◌, List, [], ◌∷◌, Option, Some, None, refl, sym, ◌∙◌, ap, arith, inl, inr, true≢false}
use Rattle.std.specs.List.{list_any}
use Rattle.std.proofs.lemmas.Bool.{cond-true, cond-false, and_parts, and_left, and_from, or_left, or_right, or_cases, or_parts, eqb-true, eq-eqb, ne_eqb, cases_Bool, cond_both, both_ways, not-true, false_from_ne_true}
use Rattle.vsm_model.specs.declared.Subpool.{Subpool}
use Rattle.vsm_model.specs.declared.limits.Settings.{Settings}
use Rattle.vsm_model.specs.Search.{holds, is_in}
use Rattle.vsm_model.specs.Subpools.{same_subpool}
use Rattle.subpool_set.specs.Pools.{is_owner, sees, sharers, tasks}
use Rattle.subpool_storage.specs.Subpools.{is_there}
use Rattle.storage_changes.specs.Meaning.{IsSound}
use Rattle.storage_changes.specs.State.{StorageState}
use Rattle.storage_changes.proofs.Cases.{same-is, same-self}
use Rattle.storage_changes.proofs.Owned.{there_is_named}
use Rattle.service_laws.proofs.Options.{none_some, same_some}
use Rattle.storage_changes.specs.Ending.{SightRow, seen_by_these, is_own, owned_by_these, sharer_rows, rows_with, rows_unseen}
use Rattle.storage_changes.proofs.EndEach.{Each, Apart, each_all, each_so, each_flat, each_map, each_filter, apart_flat, apart_map, apart_filter, apart_each, some_has, any_none, any_map, any_flat, any_filter, any_so}
use Rattle.storage_changes.proofs.EndSubpools.{is_row, IsOtherRow, IsSeen, in_tasks, tasks_ascend, seen_have, seen_are_apart, seen_list, owned_have, owned_list}
use Rattle.storage_changes.proofs.EndSight.{Sight, without_rows, is_among_rows, without_rows_is, IsShared, IsAlone, own_stays, own_rows, saw}

owner_is : (owner : ℕ) (o : Option ℕ) → is_owner owner o ≡ true → o ≡ Some owner
owner_is owner None e = absurd (true≢false (sym e))
owner_is owner (Some x) e = ap Some (eqb-true x owner e)

-- The task shares the subpool, and it or the owner has ended.
pub record IsUnseeing (f : Sight) (ended : List ℕ) (row : SightRow) : Type 0 where
  pub seen : f row.1 row.0.number ≡ Some row.0.owner
  pub sharer : row.1 ≢ row.0.owner
  pub ends : (is_in ended row.1 || is_in ended row.0.owner) ≡ true

-- Such a row is removed with one of a task that ends: that task is the owner, or shares a subpool of an owner that
-- stays.
pub record GoesWith (f : Sight) (ended : List ℕ) (x row : SightRow) : Type 0 where
  pub unseeing : IsUnseeing f ended row
  pub number : row.0.number ≡ x.0.number
  pub by : (row.0.owner ≡ x.1) ⊎ ((row.1 ≡ x.1) × (is_in ended row.0.owner ≡ false))

module _ (settings : Settings) (m : StorageState) (sound : IsSound settings m) (ended : List ℕ) where
  abbrev sight : Sight
  sight = m.subpools.sight

  abbrev pub rows : List SightRow
  rows = rows_unseen m.subpools ended

  abbrev seen : List SightRow
  seen = seen_by_these m.subpools ended

  sharers_share : (p : Subpool) → Each (λ task. (sight task p.number ≡ Some p.owner) × (task ≢ p.owner)) (sharers sight p.number p.owner)
  sharers_share p =
      each_filter (λ task. Unit {0}) (λ task. (sight task p.number ≡ Some p.owner) × (task ≢ p.owner))
      (λ task. sees sight p.number p.owner task && not (task == p.owner)) tasks
      (λ task passes _.
      let parts = and_parts (sees sight p.number p.owner task) (not (task == p.owner)) passes in
      (owner_is p.owner (sight task p.number) parts.0, λ same. both_ways (task == p.owner) (not-true (task == p.owner) parts.1) (eq-eqb task p.owner same)))
      (each_all (λ task. Unit {0}) tasks (λ _. tt))

  -- what each row that is removed with one of a task that ends has to do with it
  rows_go : (x : SightRow) → IsSeen m.subpools ended x → Each (GoesWith sight ended x) (rows_with m.subpools ended x)
  rows_go x is =
      cond_both (is_own x) (sharer_rows m.subpools x.0) (if is_in ended x.0.owner then [] else x ∷ []) (Each (GoesWith sight ended x))
      (λ own.
      let same = eqb-true x.0.owner x.1 own in
      each_map (GoesWith sight ended x) (λ task. (x.0, task)) (sharers sight x.0.number x.0.owner)
      (each_so (λ task. (sight task x.0.number ≡ Some x.0.owner) × (task ≢ x.0.owner)) (λ task. GoesWith sight ended x (x.0, task)) (sharers sight x.0.number x.0.owner)
      (λ task shares. record {
        unseeing = record { seen = shares.0; sharer = shares.1; ends = or_right (is_in ended task) (is_in ended x.0.owner) (ap (is_in ended) same ∙ is.ends) };
        number = refl;
        by = inl same;
      })
      (sharers_share x.0)))
      (λ other. cond_both (is_in ended x.0.owner) [] (x ∷ []) (Each (GoesWith sight ended x)) (λ _. tt)
      (λ stays. (
        record {
          unseeing = record {
            seen = is.sees;
            sharer = λ same. both_ways (is_own x) other (eq-eqb x.0.owner x.1 (sym same));
            ends = or_left (is_in ended x.1) (is_in ended x.0.owner) is.ends;
          };
          number = refl;
          by = inr (refl, stays);
        },
        tt,
      )))

  rows_have : Each (IsUnseeing sight ended) rows
  rows_have =
      each_flat (IsUnseeing sight ended) (rows_with m.subpools ended) seen
      (each_so (IsSeen m.subpools ended) (λ x. Each (IsUnseeing sight ended) (rows_with m.subpools ended x)) seen
      (λ x is. each_so (GoesWith sight ended x) (IsUnseeing sight ended) (rows_with m.subpools ended x) (λ row goes. goes.unseeing)
      (rows_go x is)) (seen_have m.subpools ended))

  pub rows_are_shared : Each (IsShared sight) rows
  rows_are_shared =
      each_so (IsUnseeing sight ended) (IsShared sight) rows
      (λ row its. record {
        owner_sees = sound.well_formed.sight.owner_sees row.0.number row.0.owner (sound.well_formed.sight.seen_is_there row.1 row.0.number row.0.owner its.seen);
        seen = its.seen;
        sharer = its.sharer;
        range = sound.well_formed.tasks.numbered row.1 (sound.well_formed.sight.seer_is_task row.1 row.0.number row.0.owner its.seen);
      }) rows_have

  -- no row is removed with two of them
  goes_once : (x y u v : SightRow) → IsSeen m.subpools ended x → IsSeen m.subpools ended y → IsOtherRow x y → GoesWith sight ended x u → GoesWith sight ended y v → IsOtherRow u v
  goes_once x y u v first second other at is = false_from_ne_true (is_row u.1 u.0.number v.1 v.0.number) (λ same.
      let parts = and_parts (v.1 == u.1) (v.0.number == u.0.number) same in
      let task = eqb-true v.1 u.1 parts.0 in
      let number = eqb-true v.0.number u.0.number parts.1 in
      let both : Some v.0.owner ≡ Some u.0.owner = sym is.unseeing.seen ∙ (λ i. sight (task i) (number i)) ∙ at.unseeing.seen in
      let owner = same_some v.0.owner u.0.owner both in
      let meet : y.1 ≡ x.1 → ⊥ = λ seer.
      both_ways (is_row x.1 x.0.number y.1 y.0.number) other
      (and_from (y.1 == x.1) (y.0.number == x.0.number) (eq-eqb y.1 x.1 seer) (eq-eqb y.0.number x.0.number (sym is.number ∙ number ∙ at.number))) in
      elim at.by [
        | inl own ↦ elim is.by [
          | inl its ↦ meet (sym its ∙ owner ∙ own)
          | inr foreign ↦ both_ways (is_in ended v.0.owner) foreign.1 (ap (is_in ended) (owner ∙ own) ∙ first.ends)
        ]
        | inr foreign ↦ elim is.by [
          | inl its ↦ both_ways (is_in ended u.0.owner) foreign.1 (ap (is_in ended) (sym owner ∙ its) ∙ second.ends)
          | inr its ↦ meet (sym its.0 ∙ task ∙ foreign.0)
        ]
      ])

  across : (x y : SightRow) → IsOtherRow x y × IsSeen m.subpools ended x × IsSeen m.subpools ended y → Each (λ u. Each (IsOtherRow u) (rows_with m.subpools ended y)) (rows_with m.subpools ended x)
  across x y (other, first, second) =
      each_so (GoesWith sight ended x) (λ u. Each (IsOtherRow u) (rows_with m.subpools ended y)) (rows_with m.subpools ended x)
      (λ u at. each_so (GoesWith sight ended y) (IsOtherRow u) (rows_with m.subpools ended y) (λ v is. goes_once x y u v first second other at is) (rows_go y second))
      (rows_go x first)

  each_apart : (x : SightRow) → Apart IsOtherRow (rows_with m.subpools ended x)
  each_apart x =
      cond_both (is_own x) (sharer_rows m.subpools x.0) (if is_in ended x.0.owner then [] else x ∷ []) (Apart IsOtherRow)
      (λ _. apart_map IsOtherRow (λ j k. j < k) (λ task. (x.0, task)) (sharers sight x.0.number x.0.owner)
      (λ j k less. and_left (k == j) (x.0.number == x.0.number) (ne_eqb k j (λ same. absurd (omega (arith, less, same)))))
      (apart_filter (λ j k. j < k) (λ task. sees sight x.0.number x.0.owner task && not (task == x.0.owner)) tasks tasks_ascend))
      (λ _. cond_both (is_in ended x.0.owner) [] (x ∷ []) (Apart IsOtherRow) (λ _. tt) (λ _. (tt, tt)))

  pub rows_are_apart : Apart IsOtherRow rows
  rows_are_apart =
      apart_flat IsOtherRow (λ x y. IsOtherRow x y × IsSeen m.subpools ended x × IsSeen m.subpools ended y) (rows_with m.subpools ended) seen across
      (each_all (λ x. Apart IsOtherRow (rows_with m.subpools ended x)) seen each_apart)
      (apart_each IsOtherRow (IsSeen m.subpools ended) seen (seen_are_apart m.subpools ended) (seen_have m.subpools ended))

  -- the rows are exactly those of tasks that share a subpool and have ended, or whose owner has
  rows_only : (t n o : ℕ) → sight t n ≡ Some o → (is_in ended t || is_in ended o) ≡ false → is_among_rows rows t n ≡ false
  rows_only t n o at stays = false_from_ne_true (is_among_rows rows t n) (λ any.
      let (row, its, same) = some_has (IsUnseeing sight ended) (λ row. is_row row.1 row.0.number t n) rows rows_have any in
      let parts = and_parts (t == row.1) (n == row.0.number) same in
      let task = eqb-true t row.1 parts.0 in
      let number = eqb-true n row.0.number parts.1 in
      let both : Some o ≡ Some row.0.owner = sym at ∙ (λ i. sight (task i) (number i)) ∙ its.seen in
      let owner = same_some o row.0.owner both in
      true≢false (sym its.ends ∙ sym (λ i. is_in ended (task i) || is_in ended (owner i)) ∙ stays))

  sharers_have : (t n o : ℕ) → sight t n ≡ Some o → t ≢ o → list_any (λ k. k == t) (sharers sight n o) ≡ true
  sharers_have t n o at apart =
      let range = sound.well_formed.tasks.numbered t (sound.well_formed.sight.seer_is_task t n o at) in
      any_filter (λ k. k == t) (λ k. k == t) (λ k. sees sight n o k && not (k == o)) tasks
      (λ k same.
      let is = eqb-true k t same in (
        and_from (sees sight n o k) (not (k == o)) (ap (λ j. sees sight n o j) is ∙ ap (is_owner o) at ∙ eq-eqb o o refl)
            (ap not (ap (λ j. j == o) is ∙ ne_eqb t o apart)),
        same,
      ))
      (in_tasks t range.0 range.1)

  -- this row
  abbrev is_this : SightRow → SightRow → Bool
  is_this x y = same_subpool x.0 y.0 && (y.1 == x.1)

  this_is : (x y : SightRow) → is_this x y ≡ true → x ≡ y
  this_is x y same =
      let parts = and_parts (same_subpool x.0 y.0) (y.1 == x.1) same in
      let p = same-is x.0 y.0 parts.0 in
      let task = sym (eqb-true y.1 x.1 parts.1) in
      λ i. (p i, task i)

  this_one : (x : SightRow) → is_this x x ≡ true
  this_one x = and_from (same_subpool x.0 x.0) (x.1 == x.1) (same-self x.0) (eq-eqb x.1 x.1 refl)

  -- what is removed with a row of a task that ends is among them
  goes_too : (t n : ℕ) (task : ℕ) (p : Subpool) → is_in ended task ≡ true → sight task p.number ≡ Some p.owner → is_among_rows (rows_with m.subpools ended (p, task)) t n ≡ true → is_among_rows rows t n ≡ true
  goes_too t n task p ends sees with =
      let seer = sound.well_formed.tasks.numbered task (sound.well_formed.sight.seer_is_task task p.number p.owner sees) in
      let can = there_is_named settings m sound p (sound.well_formed.sight.seen_is_there task p.number p.owner sees) in
      any_flat (λ row. is_row row.1 row.0.number t n) (is_this (p, task)) (rows_with m.subpools ended) seen
      (λ x same. ap (λ y. is_among_rows (rows_with m.subpools ended y) t n) (sym (this_is (p, task) x same)) ∙ with)
      (seen_list m.subpools ended (is_this (p, task)) task p seer can.0 ends sees (this_one (p, task)))

  of_owner : (t n o : ℕ) → sight t n ≡ Some o → t ≢ o → is_in ended o ≡ true → is_among_rows rows t n ≡ true
  of_owner t n o at apart ends =
      let p : Subpool = record { number = n; owner = o } in
      let sees = sound.well_formed.sight.owner_sees n o (sound.well_formed.sight.seen_is_there t n o at) in
      goes_too t n o p ends sees
      (ap (λ rs. is_among_rows rs t n) (cond-true (o == o) (sharer_rows m.subpools p) (if is_in ended o then [] else (p, o) ∷ []) (eq-eqb o o refl))
      ∙ any_map (λ row. is_row row.1 row.0.number t n) (λ task. (p, task)) (sharers sight n o)
      ∙ any_so (λ k. k == t) (λ k. is_row k n t n) (sharers sight n o)
      (λ k same. and_from (t == k) (n == n) (eq-eqb t k (sym (eqb-true k t same))) (eq-eqb n n refl))
      (sharers_have t n o at apart))

  of_sharer : (t n o : ℕ) → sight t n ≡ Some o → t ≢ o → is_in ended o ≡ false → is_in ended t ≡ true → is_among_rows rows t n ≡ true
  of_sharer t n o at apart stays ends =
      let p : Subpool = record { number = n; owner = o } in
      goes_too t n t p ends at
      (ap (λ rs. is_among_rows rs t n)
      (cond-false (o == t) (sharer_rows m.subpools p) (if is_in ended o then [] else (p, t) ∷ []) (ne_eqb o t (λ same. apart (sym same)))
      ∙ cond-false (is_in ended o) [] ((p, t) ∷ []) stays)
      ∙ or_left (is_row t n t n) false (and_from (t == t) (n == n) (eq-eqb t t refl) (eq-eqb n n refl)))

  rows_all : (t n o : ℕ) → sight t n ≡ Some o → t ≢ o → (is_in ended t || is_in ended o) ≡ true → is_among_rows rows t n ≡ true
  rows_all t n o at apart ends =
      elim (cases_Bool (is_in ended o)) [
        | inl goes ↦ of_owner t n o at apart goes
        | inr stays ↦ elim (or_cases (is_in ended t) (is_in ended o) ends) [
          | inl its ↦ of_sharer t n o at apart stays its
          | inr goes ↦ absurd (both_ways (is_in ended o) stays goes)
        ]
      ]

  -- only their owners see the subpools that are removed
  abbrev pub unshared_sight : Sight
  unshared_sight = without_rows sight rows

  abbrev owned : List Subpool
  owned = owned_by_these m.subpools ended

  unshared_is : (t n : ℕ) → unshared_sight t n ≡ (if is_among_rows rows t n then None else sight t n)
  unshared_is t n = without_rows_is sight rows t n

  own_kept : (p : Subpool) → is_there m.subpools p ≡ true → unshared_sight p.owner p.number ≡ Some p.owner
  own_kept p there =
      let sees = sound.well_formed.sight.owner_sees p.number p.owner there in
      unshared_is p.owner p.number
      ∙ cond-false (is_among_rows rows p.owner p.number) None (sight p.owner p.number)
      (any_none (λ row. is_row row.1 row.0.number p.owner p.number) rows
      (each_so (IsShared sight) (λ row. is_row row.1 row.0.number p.owner p.number ≡ false) rows (λ row shared. own_stays sight row p shared sees) rows_are_shared))
      ∙ sees

  alone_now : (p : Subpool) → is_in ended p.owner ≡ true → (task : ℕ) → unshared_sight task p.number ≡ Some p.owner → task ≡ p.owner
  alone_now p ends task at =
      elim (cases_Bool (task == p.owner)) [
        | inl is ↦ eqb-true task p.owner is
        | inr other ↦
            let seen = saw (is_among_rows rows task p.number) (sight task p.number) p.owner (sym (unshared_is task p.number) ∙ at) in
            let among = rows_all task p.number p.owner seen (λ same. both_ways (task == p.owner) other (eq-eqb task p.owner same)) (or_right (is_in ended task) (is_in ended p.owner) ends) in
            absurd (none_some p.owner (sym (cond-true (is_among_rows rows task p.number) None (sight task p.number) among) ∙ sym (unshared_is task p.number) ∙ at))
      ]

  pub owned_are_alone : (n : StorageState) → ((p : Subpool) (k : ℕ) → is_in ended p.owner ≡ true → n.subpools.pages p k ≡ false)
      → ((p : Subpool) (d : ℕ) → is_in ended p.owner ≡ true → n.subpools.free p d ≡ false) → Each (IsAlone n unshared_sight) owned
  owned_are_alone n no_pages none_free =
      each_so (λ p. (is_in ended p.owner ≡ true) × (is_there m.subpools p ≡ true)) (IsAlone n unshared_sight) owned
      (λ p facts.
      let can = there_is_named settings m sound p facts.1 in
      record {
        owner = (can.1, can.2);
        number = can.0;
        sees = own_kept p facts.1;
        alone = alone_now p facts.0;
        no_pages = λ k. no_pages p k facts.0;
        none_free = λ d. none_free p d facts.0;
      }) (owned_have m.subpools ended)

  -- what is seen at the end
  abbrev pub last_sight : Sight
  last_sight = without_rows unshared_sight (own_rows owned)

  own_only : (t n : ℕ) → is_in ended t ≡ false → is_among_rows (own_rows owned) t n ≡ false
  own_only t n stays =
      any_map (λ row. is_row row.1 row.0.number t n) (λ p. (p, p.owner)) owned
      ∙ any_none (λ p. is_row p.owner p.number t n) owned
      (each_so (λ p. (is_in ended p.owner ≡ true) × (is_there m.subpools p ≡ true)) (λ p. is_row p.owner p.number t n ≡ false) owned
      (λ p facts. and_left (t == p.owner) (n == p.number) (ne_eqb t p.owner (λ same. true≢false (sym facts.0 ∙ sym (ap (is_in ended) same) ∙ stays))))
      (owned_have m.subpools ended))

  own_all : (t n : ℕ) → sight t n ≡ Some t → is_in ended t ≡ true → is_among_rows (own_rows owned) t n ≡ true
  own_all t n at ends =
      let p : Subpool = record { number = n; owner = t } in
      let there = sound.well_formed.sight.seen_is_there t n t at in
      any_map (λ row. is_row row.1 row.0.number t n) (λ p. (p, p.owner)) owned
      ∙ any_so (same_subpool p) (λ p. is_row p.owner p.number t n) owned
      (λ q same.
      let is = same-is p q same in
      and_from (t == q.owner) (n == q.number) (eq-eqb t q.owner (ap (λ r. r.owner) is)) (eq-eqb n q.number (ap (λ r. r.number) is)))
      (owned_list m.subpools ended p (there_is_named settings m sound p there) there ends)

  all_none : (a b c : Bool) → ◌≡◌ {A = Option ℕ} (if a then None else (if b then None else None)) (if c then None else None)
  all_none true b true = refl
  all_none true b false = refl
  all_none false true true = refl
  all_none false true false = refl
  all_none false false true = refl
  all_none false false false = refl

  first_none : (a b : Bool) (o : Option ℕ) → (a || b) ≡ true → (if a then None else (if b then None else o)) ≡ None
  first_none true b o e = refl
  first_none false true o e = refl
  first_none false false o e = absurd (true≢false (sym e))

  last_is : (t n : ℕ) → last_sight t n ≡ (if is_among_rows (own_rows owned) t n then None else (if is_among_rows rows t n then None else sight t n))
  last_is t n =
      without_rows_is unshared_sight (own_rows owned) t n
      ∙ ap (λ o. if is_among_rows (own_rows owned) t n then None else o) (unshared_is t n)

  pub sight_leads : (t n : ℕ) → last_sight t n ≡ (if is_in ended t || holds (is_in ended) (sight t n) then None else sight t n)
  sight_leads t n = last_is t n ∙ go (sight t n) refl where
    one_of : (a b : Bool) → a ≡ b → (a || b) ≡ true → a ≡ true
    one_of true b e ends = refl
    one_of false b e ends = e ∙ ends

    go : (o : Option ℕ) → sight t n ≡ o
        → (if is_among_rows (own_rows owned) t n then None else (if is_among_rows rows t n then None else o)) ≡ (if is_in ended t || holds (is_in ended) o then None else o)
    go None at = all_none (is_among_rows (own_rows owned) t n) (is_among_rows rows t n) (is_in ended t || false)
    go (Some o) at =
        elim (cases_Bool (is_in ended t || is_in ended o)) [
          | inl ends ↦
              first_none (is_among_rows (own_rows owned) t n) (is_among_rows rows t n) (Some o)
              (elim (cases_Bool (t == o)) [
                | inl same ↦
                    let is = eqb-true t o same in
                    or_left (is_among_rows (own_rows owned) t n) _ (own_all t n (at ∙ ap Some (sym is)) (one_of (is_in ended t) (is_in ended o) (ap (is_in ended) is) ends))
                | inr other ↦ or_right (is_among_rows (own_rows owned) t n) (is_among_rows rows t n)
                    (rows_all t n o at (λ same. both_ways (t == o) other (eq-eqb t o same)) ends)
              ])
              ∙ sym (cond-true (is_in ended t || is_in ended o) None (Some o) ends)
          | inr stays ↦
              cond-false (is_among_rows (own_rows owned) t n) None _ (own_only t n (or_parts (is_in ended t) (is_in ended o) stays).0)
              ∙ cond-false (is_among_rows rows t n) None (Some o) (rows_only t n o at stays)
              ∙ sym (cond-false (is_in ended t || is_in ended o) None (Some o) stays)
        ]
