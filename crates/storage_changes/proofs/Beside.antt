-- Records that give storage back do the same with more blank elements, whichever frames the change was given before,
-- and whatever it has parked.
use Rattle.std.proofs.Common.{◌≡◌, ℕ, zero, suc, ◌+◌, ◌-◌, ◌<◌, Bool, true, false, not, if◌then◌else◌, List, [], ◌∷◌, ◌++◌, Option, Some, None, IsSome, refl, sym, ◌∙◌, ap, subst, arith, true≢false}
use Rattle.std.specs.Prelude.{◌/◌, ◌*◌}
use Rattle.run_set.specs.Runs.{inside}
use Rattle.run_set.specs.Counts.{joins}
use Rattle.vsm_model.specs.declared.Subpool.{Subpool}
use Rattle.subpool_storage.specs.Subpools.{Subpools}
use Rattle.storage_changes.specs.declared.record.AreaRecord.{AreaRecord}
use Rattle.storage_changes.specs.declared.record.ExtentRecord.{ExtentRecord}
use Rattle.storage_changes.specs.declared.record.PagesRecord.{PagesRecord}
use Rattle.storage_changes.specs.declared.record.Record.{Record}
use Rattle.storage_changes.specs.declared.record.Record.TheVariants.{Area, Extent, Pages, Own, Queues, Register, Bytes}
use Rattle.storage_changes.specs.declared.record.Record.TheVariants.{Registers, Task, Turn, Sharer, Pass, CellPool, CellExtent, Cell, Obtain}
use Rattle.storage_changes.specs.Fits.{Fits, FitInTurn}
use Rattle.storage_changes.specs.State.{StorageState}
use Rattle.storage_changes.specs.Steps.{step, walk, area_spare, extent_spare, pages_spare}
use Rattle.storage_changes.specs.Walk.{Walk, spare_joined, spare_left}
use Rattle.storage_changes.specs.StorageActions.{area_records, give_back_records, returned_records}

-- these frames are of unassigned pages
abbrev pub IsAway : StorageState → (ℕ → Option ℕ) → Type 0
IsAway m given = (a : ℕ) → IsSome (given a) → m.unassigned (a / 4096) ≡ true

abbrev pub beside : Walk → (ℕ → Option ℕ) → Subpools → ℕ → Walk
beside w given parked more = record w { given = given; parked = parked; spare = w.spare + more }

-- a record of these kinds assigns no page
abbrev pub IsReturn : Record → Type 0
IsReturn (Area r) = Unit {0}
IsReturn (Extent r) = Unit {0}
IsReturn (Pages r) = r.assigned ≡ false
IsReturn (Own r) = ⊥
IsReturn (Register r) = ⊥
IsReturn (Registers r) = ⊥
IsReturn (Queues r) = ⊥
IsReturn (Task r) = ⊥
IsReturn (Turn r) = ⊥
IsReturn (Sharer r) = ⊥
IsReturn (Pass r) = ⊥
IsReturn (CellPool r) = ⊥
IsReturn (CellExtent r) = ⊥
IsReturn (Cell r) = ⊥
IsReturn (Bytes r) = ⊥
IsReturn (Obtain r) = ⊥

abbrev pub AreReturns : List Record → Type 0
AreReturns [] = Unit {0}
AreReturns (r ∷ rs) = IsReturn r × AreReturns rs

returns_on : (rs ss : List Record) → AreReturns rs → AreReturns ss → AreReturns (rs ++ ss)
returns_on [] ss h k = k
returns_on (r ∷ rs) ss h k = (h.0, returns_on rs ss h.1 k)

area_returns : (p : Subpool) (start count : ℕ) (free : Bool) → AreReturns (area_records p start count free)
area_returns p start zero free = tt
area_returns p start (suc n) free = (tt, tt)

pub gives_back : (p : Subpool) (d count page n : ℕ) → AreReturns (give_back_records p d count page n)
gives_back p d count page zero = area_returns p d count true
gives_back p d count page (suc n) =
    let past = 512 * (page + suc n) in
    let freeing = area_records p d (512 * page - d) true in
    let taking = area_records p (512 * page) (d - 512 * page) false in
    let freeing_behind = area_records p past (d + count - past) true in
    let taking_behind = area_records p (d + count) (past - (d + count)) false in
    returns_on (freeing ++ taking ++ freeing_behind ++ taking_behind) (returned_records p page (suc n))
    (returns_on (freeing ++ taking ++ freeing_behind) taking_behind
    (returns_on (freeing ++ taking) freeing_behind
    (returns_on freeing taking (area_returns p d (512 * page - d) true) (area_returns p (512 * page) (d - 512 * page) false))
    (area_returns p past (d + count - past) true))
    (area_returns p (d + count) (past - (d + count)) false))
    (tt, (refl, tt))

-- an element is left after them, if there was one before them
pub one_left : (w : Walk) (rs : List Record) → AreReturns rs → FitInTurn w rs → 0 < w.spare → 0 < (walk w rs).spare
one_left w [] are f some = some
one_left w (Area r ∷ rs) are f some = one_left (step w (Area r)) rs are.1 f.1 f.0.room_after
one_left w (Extent r ∷ rs) are f some = one_left (step w (Extent r)) rs are.1 f.1 f.0.room_after
one_left w (Pages r ∷ rs) are f some = one_left (step w (Pages r)) rs are.1 f.1 f.0.room_after
one_left w (Own r ∷ rs) are f some = absurd are.0
one_left w (Register r ∷ rs) are f some = absurd are.0
one_left w (Registers r ∷ rs) are f some = absurd are.0
one_left w (Queues r ∷ rs) are f some = absurd are.0
one_left w (Task r ∷ rs) are f some = absurd are.0
one_left w (Turn r ∷ rs) are f some = absurd are.0
one_left w (Sharer r ∷ rs) are f some = absurd are.0
one_left w (Pass r ∷ rs) are f some = absurd are.0
one_left w (CellPool r ∷ rs) are f some = absurd are.0
one_left w (CellExtent r ∷ rs) are f some = absurd are.0
one_left w (Cell r ∷ rs) are f some = absurd are.0
one_left w (Bytes r ∷ rs) are f some = absurd are.0
one_left w (Obtain r ∷ rs) are f some = absurd are.0

-- each record takes or gives the same number of blank elements
spare_more : (b : Bool) (s n more : ℕ) → 0 < s → 0 < (if b then spare_joined s n else spare_left s n)
    → (if b then spare_joined (s + more) n else spare_left (s + more) n) ≡ (if b then spare_joined s n else spare_left s n) + more
spare_more true s n more room after = omega (arith, room)
spare_more false s n more room after = omega (arith, after)

spare_less : (b : Bool) (s n more : ℕ) → 0 < s → 0 < (if b then spare_left s n else spare_joined s n)
    → (if b then spare_left (s + more) n else spare_joined (s + more) n) ≡ (if b then spare_left s n else spare_joined s n) + more
spare_less true s n more room after = omega (arith, after)
spare_less false s n more room after = omega (arith, room)

pub record OneBeside (w : Walk) (r : Record) (given : ℕ → Option ℕ) (parked : Subpools) (more : ℕ) : Type 0 where
  pub then_given : ℕ → Option ℕ
  pub fits : Fits (beside w given parked more) r
  pub there : step (beside w given parked more) r ≡ beside (step w r) then_given parked more
  pub away : IsAway (step w r).state then_given

module _ (w : Walk) (given : ℕ → Option ℕ) (parked : Subpools) (more : ℕ) (away : IsAway w.state given) where
  area_beside : (r : AreaRecord) → Fits w (Area r) → OneBeside w (Area r) given parked more
  area_beside r f =
      let after : area_spare (beside w given parked more) r ≡ area_spare w r + more =
      spare_more r.free w.spare (joins (w.state.subpools.free r.subpool) r.area) more f.room f.room_after in
      let room = f.room in
      let room_after = f.room_after in
      record {
        then_given = given;
        fits = record {
          there = f.there;
          some = f.some;
          high = f.high;
          other = f.other;
          room = omega (arith, room);
          room_after = omega (arith, after, room_after);
        };
        there = λ i. record (beside (step w (Area r)) given parked more) { spare = after i };
        away = away;
      }

  extent_beside : (r : ExtentRecord) → Fits w (Extent r) → OneBeside w (Extent r) given parked more
  extent_beside r f =
      let after : extent_spare (beside w given parked more) r ≡ extent_spare w r + more =
      spare_more r.present w.spare (joins (w.state.subpools.pages r.subpool) r.run) more f.room f.room_after in
      let room = f.room in
      let room_after = f.room_after in
      record {
        then_given = given;
        fits = record {
          there = f.there;
          some = f.some;
          high = f.high;
          other = f.other;
          room = omega (arith, room);
          room_after = omega (arith, after, room_after);
        };
        there = λ i. record (beside (step w (Extent r)) given parked more) { spare = after i };
        away = away;
      }

  -- a frame that was given before isn't one that is given now
  not_given : (a : ℕ) (o : Option ℕ) → given a ≡ o → w.state.unassigned (a / 4096) ≡ false → o ≡ None
  not_given a None e assigned = refl
  not_given a (Some byte) e assigned = absurd (true≢false (sym (away a (let P : Option ℕ → Type 0 = λ o. IsSome o in subst P (sym e) refl)) ∙ assigned))

  away_then : (a : ℕ) (b assigned : Bool) (x : Option ℕ) → assigned ≡ false → IsSome (if b then x else given a)
      → (if b then not assigned else w.state.unassigned (a / 4096)) ≡ true
  away_then a true assigned x e some = ap not e
  away_then a false assigned x e some = away a some

  pages_beside : (r : PagesRecord) → r.assigned ≡ false → Fits w (Pages r) → OneBeside w (Pages r) given parked more
  pages_beside r leave f =
      let after : pages_spare (beside w given parked more) r ≡ pages_spare w r + more =
      spare_less r.assigned w.spare (joins w.state.unassigned r.run) more f.room f.room_after in
      let room = f.room in
      let room_after = f.room_after in
      let left : ℕ → Option ℕ = λ a. if inside (a / 4096) r.run then (if r.assigned then None else w.state.bytes a) else given a in
      record {
        then_given = left;
        fits = record {
          some = f.some;
          high = f.high;
          other = f.other;
          frame = λ a own. record {
            there = (f.frame a own).there;
            not_with_other = (f.frame a own).not_with_other;
            not_given = not_given a (given a) refl (f.other (a / 4096) own ∙ leave);
          };
          room = omega (arith, room);
          room_after = omega (arith, after, room_after);
        };
        there = λ i. record (beside (step w (Pages r)) left parked more) { spare = after i };
        away = λ a. away_then a (inside (a / 4096) r.run) r.assigned (if r.assigned then None else w.state.bytes a) leave;
      }

  one_beside : (r : Record) → IsReturn r → Fits w r → OneBeside w r given parked more
  one_beside (Area r) h f = area_beside r f
  one_beside (Extent r) h f = extent_beside r f
  one_beside (Pages r) h f = pages_beside r h f
  one_beside (Own r) h f = absurd h
  one_beside (Register r) h f = absurd h
  one_beside (Registers r) h f = absurd h
  one_beside (Queues r) h f = absurd h
  one_beside (Task r) h f = absurd h
  one_beside (Turn r) h f = absurd h
  one_beside (Sharer r) h f = absurd h
  one_beside (Pass r) h f = absurd h
  one_beside (CellPool r) h f = absurd h
  one_beside (CellExtent r) h f = absurd h
  one_beside (Cell r) h f = absurd h
  one_beside (Bytes r) h f = absurd h
  one_beside (Obtain r) h f = absurd h

-- records in turn
pub record AllBeside (w : Walk) (rs : List Record) (given : ℕ → Option ℕ) (parked : Subpools) (more : ℕ) : Type 0 where
  pub then_given : ℕ → Option ℕ
  pub fits : FitInTurn (beside w given parked more) rs
  pub there : walk (beside w given parked more) rs ≡ beside (walk w rs) then_given parked more
  pub away : IsAway (walk w rs).state then_given

pub all_beside : (w : Walk) (rs : List Record) → AreReturns rs → FitInTurn w rs → (given : ℕ → Option ℕ) (parked : Subpools) (more : ℕ) → IsAway w.state given
    → AllBeside w rs given parked more
all_beside w [] are f given parked more away = record { then_given = given; fits = tt; there = refl; away = away }
all_beside w (r ∷ rs) are f given parked more away =
    let one = one_beside w given parked more away r are.0 f.0 in
    let rest = all_beside (step w r) rs are.1 f.1 one.then_given parked more one.away in
    record {
      then_given = rest.then_given;
      fits = (one.fits, let P : Walk → Type 0 = λ v. FitInTurn v rs in subst P (sym one.there) rest.fits);
      there = ap (λ (v : Walk). walk v rs) one.there ∙ rest.there;
      away = rest.away;
    }
