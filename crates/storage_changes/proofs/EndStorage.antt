-- The storage of subpools, with their cell pools, moves into a change that has an empty one parked under each of their
-- names.
use Rattle.std.proofs.Common.{◌≡◌, ℕ, suc, ◌+◌, ◌<◌, Bool, true, false, not, ◌||◌, if◌then◌else◌, List, [], ◌∷◌, ◌++◌, length, Some, None, IsSome, is_some, inl, inr, refl, sym, ◌∙◌, ap, subst, arith, true≢false}
use Rattle.std.specs.Prelude.{◌/◌}
use Rattle.std.specs.List.{flat_map, list_any}
use Rattle.std.proofs.lemmas.Bool.{cond-false, and_right, or_parts, false_from_ne_true}
use Rattle.run_set.specs.Runs.{Run, contains, AreRunsOf}
use Rattle.vsm_model.specs.declared.Subpool.{Subpool}
use Rattle.vsm_model.specs.declared.limits.Settings.{Settings}
use Rattle.vsm_model.specs.Regions.{in_a_region, settings_valid}
use Rattle.vsm_model.specs.Subpools.{same_subpool}
use Rattle.subpool_storage.specs.Extents.{extents}
use Rattle.cell_pool.specs.Pools.{Pool, all_but, only, lies_in, exchanged}
use Rattle.storage_changes.specs.NamedPools.{AreNamed}
use Rattle.subpool_storage.specs.Subpools.{Subpools, is_there, HasPool}
use Rattle.subpool_storage.proofs.ExtentLemmas.{extents_are_runs}
use Rattle.storage_changes.specs.declared.record.Record.{Record}
use Rattle.storage_changes.specs.declared.record.Record.TheVariants.{Queues}
use Rattle.storage_changes.specs.State.{StorageState}
use Rattle.storage_changes.specs.Walk.{Walk}
use Rattle.storage_changes.specs.Steps.{walk, queues_step}
use Rattle.storage_changes.specs.Fits.{QueuesFits, FitInTurn}
use Rattle.storage_changes.specs.Changes.{unassigned_records}
use Rattle.storage_changes.specs.Meaning.{IsSound}
use Rattle.storage_changes.proofs.Cases.{same-is, same-self}
use Rattle.storage_changes.proofs.StorageCells.{same_turned, can_exchange, all_but_was, only_was, goes_from, goes_to_others, not_both}
use Rattle.storage_changes.proofs.Goes.{walk_on, fits_on}
use Rattle.storage_changes.proofs.StorageUnassigned.{CanLeave, Leave, runs_leave}
use Rattle.storage_changes.proofs.Emptying.{below, none_beyond}
use Rattle.storage_changes.specs.Ending.{emptying_records}
use Rattle.storage_changes.proofs.EndEach.{Each, Apart, each_both}
use Rattle.storage_changes.proofs.EndSubpools.{IsAnother, is_listed}
use Rattle.storage_changes.proofs.EndWalk.{Rests, Comes}

-- one of them has the page
abbrev pub have : StorageState → List Subpool → ℕ → Bool
have m ps k = list_any (λ p. m.subpools.pages p k) ps

-- the cell pool lies in one of them
abbrev pub lies_among : List Subpool → Pool → Bool
lies_among ps q = is_listed ps q.settings.subpool

-- the storage without theirs
abbrev pub emptied_of : StorageState → List Subpool → StorageState
emptied_of m ps =
    record m {
      subpools = record m.subpools {
        pages = λ q k. if is_listed ps q then false else m.subpools.pages q k;
        free = λ q d. if is_listed ps q then false else m.subpools.free q d;
        cells = λ id. all_but (lies_among ps) (m.subpools.cells id);
      };
      unassigned = λ k. if have m ps k then true else m.unassigned k;
      bytes = λ a. if have m ps (a / 4096) then None else m.bytes a;
    }

-- an empty subpool is parked under the name
pub record IsParked (u : Subpools) (p : Subpool) : Type 0 where
  pub there : is_there u p ≡ true
  pub no_pages : (k : ℕ) → u.pages p k ≡ false
  pub none_free : (d : ℕ) → u.free p d ≡ false

-- all of them, the last one first
abbrev pub onto : List Subpool → List Subpool → List Subpool
onto done [] = done
onto done (p ∷ left) = onto (p ∷ done) left

any_move : (a b c : Bool) → (b || (a || c)) ≡ ((a || b) || c)
any_move true true c = refl
any_move true false c = refl
any_move false b c = refl

pub any_onto : (f : Subpool → Bool) (done left : List Subpool) → list_any f (onto done left) ≡ (list_any f left || list_any f done)
any_onto f done [] = refl
any_onto f done (p ∷ left) = any_onto f (p ∷ done) left ∙ any_move (f p) (list_any f left) (list_any f done)

-- if these are emptied, and those are yet to be
pub record IsAmid (m : StorageState) (w : Walk) (done left : List Subpool) : Type 0 where
  pub state : w.state ≡ emptied_of m done
  pub none_brought : (a : ℕ) → w.brought a ≡ None
  pub given : (a : ℕ) → have m done (a / 4096) ≡ false → w.given a ≡ None
  pub parked : Each (IsParked w.parked) left
  pub parked_cells : (id : ℕ) → w.parked.cells id ≡ only (lies_among done) (m.subpools.cells id)
  pub others : Each (λ p. Each (IsAnother p) done) left
  pub apart : Apart IsAnother left
  pub there : Each (λ p. is_there m.subpools p ≡ true) left
  pub room : length (flat_map (emptying_records m.subpools) left) < w.spare

either_none : {A : Type 0} (b c : Bool) (x y z : A) → (b ≡ true → x ≡ z) → (if b then x else (if c then z else y)) ≡ (if b || c then z else y)
either_none true c x y z e = e refl
either_none false c x y z e = refl

length_append : {A : Type 0} (xs ys : List A) → length (xs ++ ys) ≡ length xs + length ys
length_append [] ys = omega arith
length_append (x ∷ xs) ys = let e = length_append xs ys in omega (arith, e)

length_records : (rs : List Run) → length (unassigned_records rs) ≡ length rs
length_records [] = refl
length_records (r ∷ rs) = ap suc (length_records rs)

-- a subpool that isn't among others isn't listed
not_listed : (p : Subpool) (done : List Subpool) → Each (IsAnother p) done → is_listed done p ≡ false
not_listed p [] others = refl
not_listed p (q ∷ done) others = ap (λ b. b || is_listed done p) (same_turned p q ∙ others.0) ∙ not_listed p done others.1

module _ (settings : Settings) (m : StorageState) (sound : IsSound settings m) (valid : settings_valid settings ≡ true) (named : AreNamed m.subpools.cells) where
  -- a page of a subpool belongs to none of the others
  not_had : (p : Subpool) (k : ℕ) (done : List Subpool) → Each (IsAnother p) done → m.subpools.pages p k ≡ true → have m done k ≡ false
  not_had p k [] others own = refl
  not_had p k (q ∷ done) others own =
      let not_its : m.subpools.pages q k ≡ false = false_from_ne_true (m.subpools.pages q k)
      (λ its. true≢false (sym (same-self p) ∙ ap (λ r. same_subpool r p) (sound.apart p q k own its) ∙ others.0)) in
      ap (λ b. b || have m done k) not_its ∙ not_had p k done others.1 own

  runs : (p : Subpool) → AreRunsOf (extents m.subpools p) (m.subpools.pages p)
  runs p = extents_are_runs m.subpools p (λ k high. none_beyond settings m p sound valid k (omega (arith, high)))

  -- another subpool
  module _ (w : Walk) (done : List Subpool) (p : Subpool) (left : List Subpool) (amid : IsAmid m w done (p ∷ left)) where
    -- at the state as it is
    abbrev here : Walk
    here = record w { state = emptied_of m done }

    abbrev leaving : List Record
    leaving = unassigned_records (extents m.subpools p)

    abbrev moved : Walk
    moved = queues_step here (record { subpool = p })

    -- a cell pool of others that are already emptied lies in none of its
    cells_apart : (q : Pool) → lies_among done q ≡ true → lies_in p q ≡ false
    cells_apart q among =
        false_from_ne_true (lies_in p q)
        (λ own. true≢false (sym among ∙ ap (is_listed done) (same-is q.settings.subpool p own) ∙ not_listed p done amid.others.0))

    had : (k : ℕ) → contains k (extents m.subpools p) ≡ true → m.subpools.pages p k ≡ true
    had k own = sym ((runs p).holds k) ∙ own

    not_done : (k : ℕ) → contains k (extents m.subpools p) ≡ true → have m done k ≡ false
    not_done k own = not_had p k done amid.others.0 (had k own)

    can_leave : CanLeave moved (extents m.subpools p)
    can_leave = record {
      assigned = λ k own.
          cond-false (have m done k) true (m.unassigned k) (not_done k own)
          ∙ sound.rest k
          ∙ and_right (in_a_region settings k) _ (ap (λ o. not (is_some o)) (sound.named p k (had k own)));
      high = λ k own. below settings m p sound valid k (had k own);
      there = λ a own.
          let stays : (if have m done (a / 4096) then None else m.bytes a) ≡ m.bytes a = cond-false (have m done (a / 4096)) None (m.bytes a) (not_done (a / 4096) own) in
          subst IsSome (sym stays) (sound.well_formed.pages.has_bytes a ∙ ap is_some (sound.named p (a / 4096) (had (a / 4096) own)));
      not_given = λ a own. amid.given a (not_done (a / 4096) own);
      none_brought = amid.none_brought;
    }

    enough : length (extents m.subpools p) + length (flat_map (emptying_records m.subpools) left) < w.spare
    enough =
        let room = amid.room in
        let both = length_append leaving (flat_map (emptying_records m.subpools) left) in
        let count = length_records (extents m.subpools p) in
        omega (arith, room, both, count)

    leave : Leave moved (extents m.subpools p)
    leave = runs_leave 0 moved (extents m.subpools p) (runs p).spaced can_leave (let few = enough in omega (arith, few))

    abbrev after : Walk
    after = walk moved leaving

    state_after : after.state ≡ emptied_of m (p ∷ done)
    state_after = leave.state ∙ (λ i. record m {
      subpools = record m.subpools {
        pages = λ q k. either_none (same_subpool q p) (is_listed done q) (w.parked.pages q k) (m.subpools.pages q k) false
            (λ same. ap (λ r. w.parked.pages r k) (same-is q p same) ∙ amid.parked.0.no_pages k) i;
        free = λ q d. either_none (same_subpool q p) (is_listed done q) (w.parked.free q d) (m.subpools.free q d) false
            (λ same. ap (λ r. w.parked.free r d) (same-is q p same) ∙ amid.parked.0.none_free d) i;
        cells = λ id. (ap (exchanged p (all_but (lies_among done) (m.subpools.cells id))) (amid.parked_cells id)
            ∙ goes_from p (lies_among done) cells_apart (m.subpools.cells id)) i;
      };
      unassigned = λ k. (ap (λ b. if b then true else (if have m done k then true else m.unassigned k)) ((runs p).holds k)
          ∙ either_none (m.subpools.pages p k) (have m done k) true (m.unassigned k) true (λ _. refl)) i;
      bytes = λ a. (ap (λ b. if b then None else (if have m done (a / 4096) then None else m.bytes a)) ((runs p).holds (a / 4096))
          ∙ either_none (m.subpools.pages p (a / 4096)) (have m done (a / 4096)) None (m.bytes a) None (λ _. refl)) i;
    })

    given_after : (a : ℕ) → have m (p ∷ done) (a / 4096) ≡ false → after.given a ≡ None
    given_after a other =
        let both = or_parts (m.subpools.pages p (a / 4096)) (have m done (a / 4096)) other in
        leave.given_elsewhere a ((runs p).holds (a / 4096) ∙ both.0) ∙ amid.given a both.1

    -- what is parked under another name stays
    parked_after : Each (IsParked after.parked) left
    parked_after =
        let P : Subpools → Type 0 = λ u. Each (IsParked u) left in
        subst P (sym leave.parked)
        (each_both (IsAnother p) (IsParked w.parked) (IsParked moved.parked) left
        (λ q other parked. record {
          there = parked.there;
          no_pages = λ k. cond-false (same_subpool q p) _ (w.parked.pages q k) other ∙ parked.no_pages k;
          none_free = λ d. cond-false (same_subpool q p) _ (w.parked.free q d) other ∙ parked.none_free d;
        })
        amid.apart.0 amid.parked.1)

    cells_after : (id : ℕ) → after.parked.cells id ≡ only (lies_among (p ∷ done)) (m.subpools.cells id)
    cells_after id =
        ap (λ (u : Subpools). u.cells id) leave.parked
        ∙ ap (λ x. exchanged p x (all_but (lies_among done) (m.subpools.cells id))) (amid.parked_cells id)
        ∙ goes_to_others p (lies_among done) cells_apart (m.subpools.cells id)

    others_after : Each (λ q. Each (IsAnother q) (p ∷ done)) left
    others_after =
        each_both (IsAnother p) (λ q. Each (IsAnother q) done) (λ q. Each (IsAnother q) (p ∷ done)) left
        (λ q other others. (turned q other, others)) amid.apart.0 amid.others.1 where
          turned : (q : Subpool) → IsAnother p q → IsAnother q p
          turned q other = false_from_ne_true (same_subpool p q) (λ same. true≢false (sym (same-self p) ∙ ap (λ r. same_subpool r p) (same-is p q same) ∙ other))

    amid_after : IsAmid m after (p ∷ done) left
    amid_after = record {
      state = state_after;
      none_brought = leave.none_brought;
      given = given_after;
      parked = parked_after;
      parked_cells = cells_after;
      others = others_after;
      apart = amid.apart.1;
      there = amid.there.1;
      room = let few = enough in let kept = leave.spare in omega (arith, few, kept);
    }

    -- what exists or is parked existed at first
    was : (id : ℕ) (x : Pool) → HasPool here.state.subpools w.parked id x → m.subpools.cells id ≡ Some x
    was id x (inl at) = all_but_was (lies_among done) (m.subpools.cells id) x at
    was id x (inr at) = only_was (lies_among done) (m.subpools.cells id) x (sym (amid.parked_cells id) ∙ at)

    fits_queues : QueuesFits here (record { subpool = p })
    fits_queues = record {
      there = amid.there.0;
      parked = amid.parked.0.there;
      apart = λ id some. amid.parked_cells id ∙ not_both (lies_among done) (m.subpools.cells id) some;
      names = can_exchange m.subpools.cells here.state.subpools w.parked p named was;
    }

    fits_here : FitInTurn here (Queues (record { subpool = p }) ∷ leaving)
    fits_here = (fits_queues, leave.fits)

    fits_one : FitInTurn w (emptying_records m.subpools p)
    fits_one =
        let P : Walk → Type 0 = λ v. FitInTurn v (emptying_records m.subpools p) in
        let there : here ≡ w = ap (λ (s : StorageState). record w { state = s }) (sym amid.state) in
        subst P there fits_here

    amid_one : IsAmid m (walk w (emptying_records m.subpools p)) (p ∷ done) left
    amid_one =
        let P : Walk → Type 0 = λ v. IsAmid m (walk v (emptying_records m.subpools p)) (p ∷ done) left in
        let there : here ≡ w = ap (λ (s : StorageState). record w { state = s }) (sym amid.state) in
        subst P there amid_after

  pub empties_go : (w : Walk) (done left : List Subpool) → IsAmid m w done left → Comes w (flat_map (emptying_records m.subpools) left) (emptied_of m (onto done left))
  empties_go w done [] amid = record { fits = tt; rests = record { state = amid.state; none_brought = amid.none_brought; spare = let room = amid.room in omega (arith, room) } }
  empties_go w done (p ∷ left) amid =
      let first = emptying_records m.subpools p in
      let later = flat_map (emptying_records m.subpools) left in
      let rest = empties_go (walk w first) (p ∷ done) left (amid_one w done p left amid) in
      record {
        fits = fits_on w first later (fits_one w done p left amid) rest.fits;
        rests = let P : Walk → Type 0 = λ v. Rests v (emptied_of m (onto (p ∷ done) left)) in subst P (sym (walk_on w first later)) rest.rests;
      }
