-- Runs of pages that become unassigned, one record each.
use Rattle.std.proofs.Common.{◌≡◌, ℕ, ◌+◌, ◌-◌, ◌<◌, ◌≤◌, Bool, true, false, ◌||◌, if◌then◌else◌, List, [], ◌∷◌, length, Option, None, IsSome, refl, sym, ◌∙◌, arith, subst, true≢false}
use Rattle.std.specs.Prelude.{◌^◌, ◌/◌}
use Rattle.std.proofs.lemmas.Bool.{cond-false, or_left, or_right, or_parts, false_from_ne_true}
use Rattle.run_set.specs.Runs.{Run, inside, contains, Spaced}
use Rattle.run_set.proofs.RunLemmas.{inside_true, true_inside}
use Rattle.run_set.proofs.PartLemmas.{before}
use Rattle.storage_changes.specs.declared.record.PagesRecord.{PagesRecord}
use Rattle.storage_changes.specs.State.{StorageState}
use Rattle.storage_changes.specs.Walk.{Walk}
use Rattle.storage_changes.specs.Steps.{walk, pages_step}
use Rattle.storage_changes.specs.Fits.{PagesFits, FitInTurn}
use Rattle.storage_changes.specs.Changes.{unassigned_records}

-- a state in which the pages of a set are also unassigned
abbrev pub without_pages_in : StorageState → (ℕ → Bool) → StorageState
without_pages_in m set =
    record m {
      unassigned = λ k. if set k then true else m.unassigned k;
      bytes = λ a. if set (a / 4096) then None else m.bytes a;
    }

-- the pages of the runs are assigned pages of the regions, with their bytes, and no frame is brought
pub record CanLeave (w : Walk) (rs : List Run) : Type 0 where
  pub assigned : (k : ℕ) → contains k rs ≡ true → w.state.unassigned k ≡ false
  pub high : (k : ℕ) → contains k rs ≡ true → k < 2 ^ 20
  pub there : (a : ℕ) → contains (a / 4096) rs ≡ true → IsSome (w.state.bytes a)
  pub not_given : (a : ℕ) → contains (a / 4096) rs ≡ true → w.given a ≡ None
  pub none_brought : (a : ℕ) → w.brought a ≡ None

-- their records fit, and lead to the state without them
pub record Leave (w : Walk) (rs : List Run) : Type 0 where
  pub fits : FitInTurn w (unassigned_records rs)
  pub state : (walk w (unassigned_records rs)).state ≡ without_pages_in w.state (λ k. contains k rs)
  pub none_brought : (a : ℕ) → (walk w (unassigned_records rs)).brought a ≡ None
  -- no other frame is given, what is parked stays, and each run takes one blank element at most
  pub given_elsewhere : (a : ℕ) → contains (a / 4096) rs ≡ false → (walk w (unassigned_records rs)).given a ≡ w.given a
  pub parked : (walk w (unassigned_records rs)).parked ≡ w.parked
  pub spare : w.spare ≤ (walk w (unassigned_records rs)).spare + length rs

none_either : (b : Bool) (o : Option ℕ) → o ≡ None → (if b then None else o) ≡ None
none_either true o e = refl
none_either false o e = e

one_or_other : {A : Type 0} (c b : Bool) (x y : A) → (if c then x else (if b then x else y)) ≡ (if b || c then x else y)
one_or_other true true x y = refl
one_or_other true false x y = refl
one_or_other false true x y = refl
one_or_other false false x y = refl

-- the first run
module _ (low : ℕ) (w : Walk) (r : Run) (rs : List Run) (spaced : Spaced low (r ∷ rs)) (can : CanLeave w (r ∷ rs)) (enough : length (r ∷ rs) < w.spare) where
  abbrev first : PagesRecord
  first = record { run = r; assigned = false }

  abbrev next : Walk
  next = pages_step w first

  here : (k : ℕ) → inside k r ≡ true → contains k (r ∷ rs) ≡ true
  here k own = or_left (inside k r) (contains k rs) own

  behind : (k : ℕ) → contains k rs ≡ true → contains k (r ∷ rs) ≡ true
  behind k own = or_right (inside k r) (contains k rs) own

  -- no page is in two runs
  apart : (k : ℕ) → contains k rs ≡ true → inside k r ≡ false
  apart k own = false_from_ne_true (inside k r) (λ is.
      let place = inside_true k r is in
      true≢false (sym own ∙ before (r.start + r.len + 1) k rs spaced.3 (omega (arith, place.1))))

  last : r.start + r.len - 1 < 2 ^ 20
  last = can.high (r.start + r.len - 1) (here (r.start + r.len - 1) (true_inside (r.start + r.len - 1) r (omega (arith, spaced.1)) (omega (arith, spaced.1))))

  fits_first : PagesFits w first
  fits_first = record {
    some = spaced.1;
    high = omega (arith, last);
    other = λ k own. can.assigned k (here k own);
    frame = λ a own. record {
      there = can.there a (here (a / 4096) own);
      not_with_other = can.none_brought a;
      not_given = can.not_given a (here (a / 4096) own);
    };
    room = omega (arith, enough);
    room_after = omega (arith, enough);
  }

  can_next : CanLeave next rs
  can_next = record {
    assigned = λ k own. cond-false (inside k r) true (w.state.unassigned k) (apart k own) ∙ can.assigned k (behind k own);
    high = λ k own. can.high k (behind k own);
    there = λ a own. subst IsSome (sym (cond-false (inside (a / 4096) r) None (w.state.bytes a) (apart (a / 4096) own))) (can.there a (behind (a / 4096) own));
    not_given = λ a own. cond-false (inside (a / 4096) r) (w.state.bytes a) (w.given a) (apart (a / 4096) own) ∙ can.not_given a (behind (a / 4096) own);
    none_brought = λ a. none_either (inside (a / 4096) r) (w.brought a) (can.none_brought a);
  }

  enough_next : length rs < next.spare
  enough_next = omega (arith, enough)

  state_next : without_pages_in next.state (λ k. contains k rs) ≡ without_pages_in w.state (λ k. contains k (r ∷ rs))
  state_next = λ i. record w.state {
    unassigned = λ k. one_or_other (contains k rs) (inside k r) true (w.state.unassigned k) i;
    bytes = λ a. one_or_other (contains (a / 4096) rs) (inside (a / 4096) r) None (w.state.bytes a) i;
  }

pub runs_leave : (low : ℕ) (w : Walk) (rs : List Run) → Spaced low rs → CanLeave w rs → length rs < w.spare → Leave w rs
runs_leave low w [] spaced can enough = record {
  fits = tt;
  state = refl;
  none_brought = can.none_brought;
  given_elsewhere = λ a other. refl;
  parked = refl;
  spare = omega arith;
}
runs_leave low w (r ∷ rs) spaced can enough =
    let rest = runs_leave (r.start + r.len + 1) (next low w r rs spaced can enough) rs spaced.3 (can_next low w r rs spaced can enough) (enough_next low w r rs spaced can enough) in
    record {
      fits = (fits_first low w r rs spaced can enough, rest.fits);
      state = rest.state ∙ state_next low w r rs spaced can enough;
      none_brought = rest.none_brought;
      given_elsewhere = λ a other.
          let both = or_parts (inside (a / 4096) r) (contains (a / 4096) rs) other in
          rest.given_elsewhere a both.1 ∙ cond-false (inside (a / 4096) r) (w.state.bytes a) (w.given a) both.0;
      parked = rest.parked;
      spare = let less = rest.spare in omega (arith, less);
    }
