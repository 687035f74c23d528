-- An accepted obtain grants storage that was free.
use Rattle.std.proofs.Common.{◌≡◌, ℕ, ◌*◌, ◌/◌, ◌%◌, Bool, true, false, not, ◌&&◌, ◌||◌, ◌==◌, if◌then◌else◌, Option, Some, None, is_some, List, arith, refl, sym, ◌∙◌, ap, subst, true≢false, inl, inr}
use Rattle.std.specs.Prelude.{unwrap_or}
use Rattle.std.proofs.lemmas.Bool.{cases_Bool, and_parts, cond-true, cond-false, eqb-true, not-true, both_ways, false_from_ne_true, or_left}
use Rattle.vsm_model.specs.declared.Subpool.{Subpool}
use Rattle.vsm_model.specs.declared.limits.Residence.{Residence}
use Rattle.vsm_model.specs.declared.limits.Settings.{Settings}
use Rattle.vsm_model.specs.declared.replies.Reply.{Reply}
use Rattle.vsm_model.specs.declared.replies.Reply.TheVariants.{Obtained, Returned}
use Rattle.vsm_model.specs.declared.services.Boundary.{Boundary}
use Rattle.vsm_model.specs.declared.services.Boundary.TheVariants.{Doubleword, Page}
use Rattle.vsm_model.specs.declared.services.Obtain.{Obtain}
use Rattle.vsm_model.specs.Search.{all_pass}
use Rattle.vsm_model.specs.Regions.{Region, among, within, pages_for, regions_for, side}
use Rattle.vsm_model.specs.State.{State}
use Rattle.vsm_model.specs.Subpools.{with_subpool, sees_one, seen_or_own, with_own}
use Rattle.vsm_model.specs.Areas.{Place, Inside, Fresh, Nowhere, is_free, is_open_run, is_nowhere, address_of, spacing}
use Rattle.vsm_model.specs.Registers.{with_registers, registers_set}
use Rattle.vsm_model.specs.Services.{obtain}
use Rattle.vsm_model.specs.Standing.{Accepted}
use Rattle.vsm_model.specs.Obtaining.{with_taken, with_pages, with_area, place_for}
use Rattle.vsm_model.specs.Step.{replied, effect}
use Rattle.vsm_model.specs.WellFormed.{IsWellFormed}
use Rattle.vsm_model.proofs.Chosen.{accepted_has_its_effect}
use Rattle.vsm_model.proofs.Least.{all_pass_at}
use Rattle.vsm_model.proofs.Registered.{words_alone}
use Rattle.service_laws.specs.Granted.{IsOnSide, AreaIsTaken, SubpoolIsThere, IsGranted, ObtainGrantsFreeStorage, AnswerFourSetsRegister15Alone}
use Rattle.service_laws.specs.StorageLowestAddress.{IsLowestAddress, ObtainTakesTheLowestAddress}
use Rattle.service_laws.proofs.Cases.{same_some, none_some, belongs_is, among_in, in_among}
use Rattle.service_laws.proofs.Places.{Goes, place_goes, regions_on_side}
use Rattle.service_laws.proofs.Registers.{not_both, both_same, code_is_all, same_words, address_is_set}
use Rattle.service_laws.proofs.StorageLowest.{place_is_lowest}
use Rattle.service_laws.proofs.Allowed.{ObtainIsAllowed, obtain_allowed, obtain_leaves}

-- an area in bytes, and the same in doublewords
in_area : (address given d count k : ℕ) → address ≡ 8 * d → given ≡ 8 * count → among (address / 8) (given / 8) k ≡ true → among d count k ≡ true
in_area address given d count k at is e =
    let place = among_in (address / 8) (given / 8) k e in
    let low = place.0 in
    let high = place.1 in
    in_among d count k (omega (arith, at, low)) (omega (arith, at, is, high))

same_area : (address given d count k : ℕ) → address ≡ 8 * d → given ≡ 8 * count → among d count k ≡ among (address / 8) (given / 8) k
same_area address given d count k at is =
    let e : d ≡ address / 8 = omega (arith, at) in
    let f : count ≡ given / 8 = omega (arith, is) in
    λ i. among (e i) (f i) k

module _ (settings : Settings) (residence : Residence) (s : State) (w : IsWellFormed settings s) (its : Subpool) (count : ℕ) where
  -- in free storage of the subpool
  inside : (r : Region) → IsOnSide settings residence r → (d address given : ℕ) → address ≡ 8 * d → given ≡ 8 * count →
      all_pass (λ k. within r (k / 512) && is_free s its k) d count ≡ true → AreaIsTaken settings residence s (with_taken s d count) its address given
  inside r on d address given at is free =
      let here : (k : ℕ) → among (address / 8) (given / 8) k ≡ true → (within r (k / 512) && is_free s its k) ≡ true =
      λ k e. let area = among_in d count k (in_area address given d count k at is e) in
      all_pass_at (λ k. within r (k / 512) && is_free s its k) d count k free area.0 area.1 in
      record {
        region = r;
        on_side = on;
        in_region = λ k e. (and_parts _ _ (here k e)).0;
        was_free = λ k e. not-true (s.taken k) (and_parts _ _ (and_parts _ _ (here k e)).1).1;
        taken = λ k. ap (λ b. b || s.taken k) (same_area address given d count k at is);
        in_subpool = λ k e. belongs_is its (s.pages (k / 512)) (and_parts _ _ (and_parts _ _ (here k e)).1).0;
        others = λ k p e. e;
        needed = λ k none there. absurd (true≢false (sym there ∙ ap (λ (o : Option Subpool). is_some o) none));
        zero_bytes = λ a none there. absurd (true≢false (sym there ∙ ap (λ (o : Option Subpool). is_some o) none));
        same_bytes = λ a _. refl;
      }

  -- in new pages
  fresh : (r : Region) → IsOnSide settings residence r → (page address given : ℕ) → address ≡ 8 * (512 * page) → given ≡ 8 * count →
      is_open_run s r (pages_for count) page ≡ true →
      AreaIsTaken settings residence s (with_taken (with_pages s its page (pages_for count)) (512 * page) count) its address given
  fresh r on page address given at is open_run =
      let new : (k : ℕ) → among (address / 8) (given / 8) k ≡ true → among page (pages_for count) (k / 512) ≡ true =
      λ k e. let area = among_in (512 * page) count k (in_area address given (512 * page) count k at is e) in
      let low = area.0 in
      let high = area.1 in
      in_among page (pages_for count) (k / 512) (omega (arith, low)) (omega (arith, low, high)) in
      let open_at : (j : ℕ) → among page (pages_for count) j ≡ true → (within r j && not (is_some (s.pages j))) ≡ true =
      λ j e. let run = among_in page (pages_for count) j e in
      all_pass_at (λ j. within r j && not (is_some (s.pages j))) page (pages_for count) j open_run run.0 run.1 in
      let unassigned : (j : ℕ) → among page (pages_for count) j ≡ true → is_some (s.pages j) ≡ false =
      λ j e. not-true (is_some (s.pages j)) (and_parts (within r j) (not (is_some (s.pages j))) (open_at j e)).1 in
      record {
        region = r;
        on_side = on;
        in_region = λ k e. (and_parts _ _ (open_at (k / 512) (new k e))).0;
        was_free = λ k e. false_from_ne_true (s.taken k) (λ taken.
            both_ways (is_some (s.pages (k / 512))) (unassigned (k / 512) (new k e)) (w.pages.in_page k taken));
        taken = λ k. ap (λ b. b || s.taken k) (same_area address given (512 * page) count k at is);
        in_subpool = λ k e. cond-true (among page (pages_for count) (k / 512)) (Some its) (s.pages (k / 512)) (new k e);
        others = λ k p e. elim (cases_Bool (among page (pages_for count) k)) [
          | inl own ↦ absurd (both_ways (is_some (s.pages k)) (unassigned k own) (ap (λ (o : Option Subpool). is_some o) e))
          | inr other ↦ cond-false (among page (pages_for count) k) (Some its) (s.pages k) other ∙ e
        ];
        needed = λ k none there. elim (cases_Bool (among page (pages_for count) k)) [
          | inl own ↦
              let run = among_in page (pages_for count) k own in
              let low = run.0 in
              let high = run.1 in
              (512 * k, omega arith, in_among (address / 8) (given / 8) (512 * k) (omega (arith, at, low)) (omega (arith, at, is, high)))
          | inr other ↦ absurd (true≢false (sym there ∙ ap (λ (o : Option Subpool). is_some o)
              (cond-false (among page (pages_for count) k) (Some its) (s.pages k) other ∙ none)))
        ];
        zero_bytes = λ a none there. elim (cases_Bool (among page (pages_for count) (a / 4096))) [
          | inl own ↦ cond-true (among page (pages_for count) (a / 4096)) (Some 0) (s.bytes a) own
          | inr other ↦ absurd (true≢false (sym there ∙ ap (λ (o : Option Subpool). is_some o)
              (cond-false (among page (pages_for count) (a / 4096)) (Some its) (s.pages (a / 4096)) other ∙ none)))
        ];
        same_bytes = λ a same. elim (cases_Bool (among page (pages_for count) (a / 4096))) [
          | inl own ↦ absurd (both_ways (is_some (s.pages (a / 4096))) (unassigned (a / 4096) own)
              (ap (λ (o : Option Subpool). is_some o)
              (sym same ∙ cond-true (among page (pages_for count) (a / 4096)) (Some its) (s.pages (a / 4096)) own)))
          | inr other ↦ cond-false (among page (pages_for count) (a / 4096)) (Some 0) (s.bytes a) other
        ];
      }

  goes_taken : (boundary : ℕ) (goes : Place) → Goes (IsOnSide settings residence) s its count boundary goes → is_nowhere goes ≡ false →
      AreaIsTaken settings residence s (with_area s its count goes) its (address_of goes) (8 * count)
  goes_taken boundary (Inside d) (r, on, fit) there =
      inside r on d (8 * d) (8 * count) refl refl (and_parts ((d % boundary) == 0) (all_pass (λ k. within r (k / 512) && is_free s its k) d count) fit).1
  goes_taken boundary (Fresh page) (r, on, run) there = fresh r on page (4096 * page) (8 * count) (omega arith) refl run
  goes_taken boundary Nowhere goes there = absurd (true≢false there)

-- an area that is taken in one state is taken in one with the same pages, doublewords and bytes
taken_alike : (settings : Settings) (residence : Residence) (s u t : State) (its : Subpool) (address given : ℕ) →
    t.pages ≡ u.pages → t.taken ≡ u.taken → t.bytes ≡ u.bytes → AreaIsTaken settings residence s u its address given → AreaIsTaken settings residence s t its address given
taken_alike settings residence s u t its address given pages taken bytes h =
    subst (λ f. AreaIsTaken settings residence s (record t { pages = f }) its address given) (sym pages)
    (subst (λ f. AreaIsTaken settings residence s (record t { pages = u.pages; taken = f }) its address given) (sym taken)
    (subst (λ f. AreaIsTaken settings residence s (record t { pages = u.pages; taken = u.taken; bytes = f }) its address given) (sym bytes)
    (record {
      region = h.region;
      on_side = h.on_side;
      in_region = h.in_region;
      was_free = h.was_free;
      taken = h.taken;
      in_subpool = h.in_subpool;
      others = h.others;
      needed = h.needed;
      zero_bytes = h.zero_bytes;
      same_bytes = h.same_bytes;
    })))

-- What is left when an area goes to its place and registers are set.
pub record IsLeft (s t : State) (number : ℕ) (its : Subpool) (count : ℕ) (goes : Place) (rows : List (ℕ × ℕ)) : Type 0 where
  pub current : t.current ≡ s.current
  pub parents : t.parents ≡ s.parents
  pub cell_pools : t.cell_pools ≡ s.cell_pools
  pub subpools : t.subpools ≡ (with_own s number).subpools
  pub sight : t.sight ≡ (with_own s number).sight
  pub pages : t.pages ≡ (with_area s its count goes).pages
  pub taken : t.taken ≡ (with_area s its count goes).taken
  pub bytes : t.bytes ≡ (with_area s its count goes).bytes
  pub words : t.words ≡ (with_registers s rows).words

own_else : (s : State) (number : ℕ) → with_own s number ≡ record s { subpools = (with_own s number).subpools; sight = (with_own s number).sight }
own_else s number =
    elim (sees_one s number) as (λ b. (if b then s else with_subpool s number s.current)
    ≡ record s { subpools = (if b then s else with_subpool s number s.current).subpools; sight = (if b then s else with_subpool s number s.current).sight }) [
      | true ↦ refl
      | false ↦ refl
    ]

area_else : (u : State) (its : Subpool) (count : ℕ) (goes : Place) →
    with_area u its count goes ≡ record u { pages = (with_area u its count goes).pages; taken = (with_area u its count goes).taken; bytes = (with_area u its count goes).bytes }
area_else u its count (Inside d) = refl
area_else u its count (Fresh page) = refl
area_else u its count Nowhere = refl

-- a new subpool changes neither pages nor doublewords nor bytes
storage_as : (s v : State) (its : Subpool) (count : ℕ) (goes : Place) → v.pages ≡ s.pages → v.taken ≡ s.taken → v.bytes ≡ s.bytes →
    ((with_area v its count goes).pages ≡ (with_area s its count goes).pages)
    × ((with_area v its count goes).taken ≡ (with_area s its count goes).taken)
    × ((with_area v its count goes).bytes ≡ (with_area s its count goes).bytes)
storage_as s v its count (Inside d) pages taken bytes = (pages, (λ i k. among d count k || taken i k), bytes)
storage_as s v its count (Fresh page) pages taken bytes = (
  (λ i k. if among page (pages_for count) k then Some its else pages i k),
  (λ i k. among (512 * page) count k || taken i k),
  (λ i a. if among page (pages_for count) (a / 4096) then Some 0 else bytes i a),
)
storage_as s v its count Nowhere pages taken bytes = (pages, taken, bytes)

pub is_left : (s t : State) (number : ℕ) (its : Subpool) (count : ℕ) (goes : Place) (rows : List (ℕ × ℕ)) →
    t ≡ with_registers (with_area (with_own s number) its count goes) rows → IsLeft s t number its count goes rows
is_left s t number its count goes rows is =
    let own : State = with_own s number in
    let after : State = with_area own its count goes in
    let whole : t ≡ record after { words = (with_registers after rows).words } = is ∙ words_alone rows after in
    let area = area_else own its count goes in
    let was = own_else s number in
    let storage = storage_as s own its count goes (ap (λ (x : State). x.pages) was) (ap (λ (x : State). x.taken) was) (ap (λ (x : State). x.bytes) was) in
    let current : after.current ≡ s.current = ap (λ (x : State). x.current) area ∙ ap (λ (x : State). x.current) was in
    let words : after.words ≡ s.words = ap (λ (x : State). x.words) area ∙ ap (λ (x : State). x.words) was in
    record {
      current = ap (λ (x : State). x.current) whole ∙ current;
      parents = ap (λ (x : State). x.parents) whole ∙ ap (λ (x : State). x.parents) area ∙ ap (λ (x : State). x.parents) was;
      cell_pools = ap (λ (x : State). x.cell_pools) whole ∙ ap (λ (x : State). x.cell_pools) area ∙ ap (λ (x : State). x.cell_pools) was;
      subpools = ap (λ (x : State). x.subpools) whole ∙ ap (λ (x : State). x.subpools) area;
      sight = ap (λ (x : State). x.sight) whole ∙ ap (λ (x : State). x.sight) area;
      pages = ap (λ (x : State). x.pages) whole ∙ storage.0;
      taken = ap (λ (x : State). x.taken) whole ∙ storage.1;
      bytes = ap (λ (x : State). x.bytes) whole ∙ storage.2;
      words = ap (λ (x : State). x.words) whole ∙ same_words rows s after words current;
    }

-- the subpool that the task saw
seen_there : (settings : Settings) (s t : State) (number owner : ℕ) → IsWellFormed settings s → s.sight s.current number ≡ Some owner → t.sight ≡ s.sight → t.subpools ≡ s.subpools →
    SubpoolIsThere s t number owner
seen_there settings s t number owner w is sight subpools = record {
  seen = ap (λ (f : ℕ → ℕ → Option ℕ). f s.current number) sight ∙ is;
  there = ap (λ (f : ℕ → ℕ → Bool). f number owner) subpools ∙ w.sight.seen_is_there s.current number owner is;
  one_that_it_saw = λ o old. same_some owner o (sym is ∙ old);
  else_its_own = λ none. absurd (none_some owner (sym none ∙ is));
  other_sight = λ task n _. ap (λ (f : ℕ → ℕ → Option ℕ). f task n) sight;
  other_subpools = λ n o _. ap (λ (f : ℕ → ℕ → Bool). f n o) subpools;
}

-- a new one of its own
own_there : (s t : State) (number : ℕ) → s.sight s.current number ≡ None →
    t.sight ≡ (with_subpool s number s.current).sight → t.subpools ≡ (with_subpool s number s.current).subpools → SubpoolIsThere s t number s.current
own_there s t number is sight subpools = record {
  seen = ap (λ (f : ℕ → ℕ → Option ℕ). f s.current number) sight ∙ cond-true _ _ _ (both_same s.current number);
  there = ap (λ (f : ℕ → ℕ → Bool). f number s.current) subpools ∙ or_left _ (s.subpools number s.current) (both_same number s.current);
  one_that_it_saw = λ o old. absurd (none_some o (sym is ∙ old));
  else_its_own = λ _. refl;
  other_sight = λ task n other.
      ap (λ (f : ℕ → ℕ → Option ℕ). f task n) sight
      ∙ cond-false ((task == s.current) && (n == number)) (Some s.current) (s.sight task n) (not_both task s.current n number other);
  other_subpools = λ n o other.
      ap (λ (f : ℕ → ℕ → Bool). f n o) subpools
      ∙ ap (λ b. b || s.subpools n o) (not_both n number o s.current other);
}

pub subpool_is_there : (settings : Settings) (s t : State) (number : ℕ) → IsWellFormed settings s →
    t.sight ≡ (with_own s number).sight → t.subpools ≡ (with_own s number).subpools → SubpoolIsThere s t number (seen_or_own s number).owner
subpool_is_there settings s t number w sight subpools =
    elim (s.sight s.current number) as (λ o. s.sight s.current number ≡ o → t.sight ≡ (if is_some o then s else with_subpool s number s.current).sight →
    t.subpools ≡ (if is_some o then s else with_subpool s number s.current).subpools → SubpoolIsThere s t number (unwrap_or o s.current)) [
      | None ↦ λ none sight subpools. own_there s t number none sight subpools
      | Some owner ↦ λ seen sight subpools. seen_there settings s t number owner w seen sight subpools
    ] refl sight subpools

-- an area begins on its boundary
on_boundary : (P : Region → Type 0) (s : State) (its : Subpool) (count : ℕ) (b : Boundary) (goes : Place) → Goes P s its count (spacing b) goes →
    address_of goes % (8 * spacing b) ≡ 0
on_boundary P s its count Doubleword (Inside d) h = omega arith
on_boundary P s its count Page (Inside d) (r, its_own, fit) =
    let e = eqb-true (d % 512) 0 (and_parts ((d % 512) == 0) _ fit).0 in omega (arith, e)
on_boundary P s its count Doubleword (Fresh page) h = omega arith
on_boundary P s its count Page (Fresh page) h = omega arith
on_boundary P s its count Doubleword Nowhere h = omega arith
on_boundary P s its count Page Nowhere h = omega arith

pub address_is : (a b m n : ℕ) → Obtained a m ≡ Obtained b n → a ≡ b
address_is a b m n e = cc

pub length_is : (a b m n : ℕ) → Obtained a m ≡ Obtained b n → m ≡ n
length_is a b m n e = cc

pub other_reply : {address given code : ℕ} → ◌≡◌ {A = Reply} (Obtained address given) (Returned code) → ⊥
other_reply e = cc

module _ (settings : Settings) (names_full : Bool) (s t : State) (o : Obtain) (may : ObtainIsAllowed settings names_full s o)
    (done : replied (obtain o) (effect settings s (obtain o)) ≡ Accepted t (Obtained (address_of (place_for settings s o may.count)) (8 * may.count)))
    (w : IsWellFormed settings s) where
  its : Subpool
  its = seen_or_own s o.number

  goes : Place
  goes = place_for settings s o may.count

  left : IsLeft s t o.number its may.count goes (registers_set (obtain o) (Obtained (address_of goes) (8 * may.count)))
  unfolding its goes
  left = is_left s t o.number its may.count goes _ (obtain_leaves settings s t o _ may.count may.found done).1

  goes_on_side : Goes (IsOnSide settings (side settings o.location)) s its may.count (spacing o.boundary) goes
  unfolding its goes
  goes_on_side =
      place_goes (IsOnSide settings (side settings o.location)) s its may.count (spacing o.boundary) (regions_for settings (side settings o.location))
      (regions_on_side settings (side settings o.location))

  granted : IsGranted settings s t o (address_of goes) (8 * may.count)
  unfolding its goes
  granted =
      let least = may.least in
      let most = may.most in
      record {
        private = may.private;
        some = may.some;
        ordered = may.ordered;
        long_enough = omega (arith, least);
        no_longer = omega (arith, most);
        whole = omega arith;
        on_boundary = on_boundary (IsOnSide settings (side settings o.location)) s its may.count o.boundary goes goes_on_side;
        owner = its.owner;
        subpool = subpool_is_there settings s t o.number w left.sight left.subpools;
        area = taken_alike settings (side settings o.location) s (with_area s its may.count goes) t its (address_of goes) (8 * may.count) left.pages left.taken left.bytes
            (goes_taken settings (side settings o.location) s w its may.count (spacing o.boundary) goes goes_on_side may.has_place);
        registers = address_is_set s t o.lengths o.register (address_of goes) (8 * may.count) left.words;
        current = left.current;
        parents = left.parents;
        cell_pools = left.cell_pools;
      }

pub obtain_grants_free_storage : ObtainGrantsFreeStorage
unfolding goes
obtain_grants_free_storage settings names_full s t o address given w e =
    elim (accepted_has_its_effect settings names_full s t (obtain o) (Obtained address given) e) [
      | inl done ↦
          let may = obtain_allowed settings names_full s o done.0 in
          let is = (obtain_leaves settings s t o (Obtained address given) may.count may.found done.1).0 in
          let at = address_is _ _ _ _ is in
          let size = length_is _ _ _ _ is in (
            subst (λ n. IsGranted settings s t o n given) (sym at)
                (subst (λ n. IsGranted settings s t o (address_of (place_for settings s o may.count)) n) (sym size)
                (granted settings names_full s t o may (subst (λ r. replied (obtain o) (effect settings s (obtain o)) ≡ Accepted t r) is done.1) w)),
            may.room,
          )
      | inr four ↦ absurd (other_reply four.1)
    ]

pub answer_four_sets_register_15_alone : AnswerFourSetsRegister15Alone
answer_four_sets_register_15_alone settings names_full s t o reply e =
    elim (accepted_has_its_effect settings names_full s t (obtain o) reply e) [
      | inl done ↦
          let may = obtain_allowed settings names_full s o done.0 in
          inl (_, _, (obtain_leaves settings s t o reply may.count may.found done.1).0)
      | inr four ↦ inr (four.0, four.1, code_is_all s t 4 four.2)
    ]

abbrev Lowest : Settings → State → Obtain → ℕ → ℕ → Type 0
Lowest settings s o count address = IsLowestAddress (regions_for settings (side settings o.location)) s (seen_or_own s o.number) count (spacing o.boundary) address

pub obtain_takes_the_lowest_address : ObtainTakesTheLowestAddress
obtain_takes_the_lowest_address settings names_full s t o address given e =
    elim (accepted_has_its_effect settings names_full s t (obtain o) (Obtained address given) e) [
      | inl done ↦
          let may = obtain_allowed settings names_full s o done.0 in
          let is = (obtain_leaves settings s t o (Obtained address given) may.count may.found done.1).0 in
          let at = address_is _ _ _ _ is in
          let size = length_is _ _ _ _ is in
          let count : may.count ≡ given / 8 = omega (arith, size) in
          let least = may.least in
          let min = may.some in
          subst (λ n. Lowest settings s o n address) count (subst (λ a. Lowest settings s o may.count a) (sym at)
          (place_is_lowest s (seen_or_own s o.number) may.count (spacing o.boundary) (omega (arith, least, min)) (regions_for settings (side settings o.location)) may.has_place))
      | inr four ↦ absurd (other_reply four.1)
    ]
