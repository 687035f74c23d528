-- Extents that are given back one after the other.
use Rattle.std.proofs.Common.{◌≡◌, ℕ, zero, suc, ◌+◌, ◌-◌, ◌*◌, ◌/◌, ◌<◌, ◌≤◌, Bool, true, false, not, ◌&&◌, if◌then◌else◌, List, [], ◌∷◌, ◌++◌, map, length, Option, Some, None, refl, sym, ◌∙◌, ap, subst, arith}
use Rattle.std.proofs.Math.Nat.{mul-pos}
use Rattle.std.proofs.lemmas.Bool.{not-true}
use Rattle.std.proofs.lemmas.List.Elements.{All-nil}
use Rattle.run_set.specs.Runs.{Run, inside}
use Rattle.vsm_model.specs.declared.Subpool.{Subpool}
use Rattle.vsm_model.specs.declared.limits.Settings.{Settings}
use Rattle.vsm_model.specs.CellPools.{CellPools, extent_doublewords}
use Rattle.vsm_model.specs.Cells.{without_extents}
use Rattle.vsm_model.specs.Regions.{settings_valid, pages_for}
use Rattle.vsm_model.specs.Releasing.{is_idle, without_area, without_taken}
use Rattle.vsm_model.specs.Search.{all_pass, holds}
use Rattle.vsm_model.specs.State.{State}
use Rattle.vsm_model.specs.Subpools.{same_subpool}
use Rattle.vsm_model.specs.WellFormed.{IsInSubpool}
use Rattle.service_laws.proofs.Words.{low_page}
use Rattle.cell_pool.specs.declared.settings.Extent.{Extent}
use Rattle.cell_pool.specs.Pools.{Pool}
use Rattle.storage_changes.specs.PoolTable.{cell_pool_of, extent_of}
use Rattle.subpool_storage.specs.Subpools.{Subpools, with_free}
use Rattle.storage_changes.specs.declared.record.Record.{Record}
use Rattle.storage_changes.specs.Changes.{change_of, outset, overlay}
use Rattle.storage_changes.specs.Fits.{FitInTurn}
use Rattle.storage_changes.specs.Meaning.{model_of, subpool_of, is_taken, IsSound}
use Rattle.storage_changes.specs.State.{StorageState}
use Rattle.storage_changes.specs.Steps.{walk}
use Rattle.storage_changes.specs.Walk.{Walk}
use Rattle.std.specs.Prelude.{◌^◌}
use Rattle.storage_changes.proofs.Cases.{same-self}
use Rattle.storage_changes.proofs.MeaningLemmas.{named_pages_are_there}
use Rattle.storage_changes.specs.StorageActions.{run_of, give_back_records, emptied_pages, first_emptied, past_emptied, give_back_blanks}
use Rattle.storage_changes.specs.Leads.{Leads}
use Rattle.storage_changes.proofs.ActionCases.{in_inside}
use Rattle.storage_changes.proofs.GivingBack.{giving_back_leads, blanks_few}
use Rattle.storage_changes.proofs.Goes.{walk_on, fits_on}
use Rattle.storage_changes.proofs.Idle.{emptied_pages_are_a_run}
use Rattle.storage_changes.proofs.Rows.{none_brought}
use Rattle.storage_changes.specs.CellActions.{extents_given_back}
use Rattle.storage_changes.proofs.Beside.{IsAway, beside, all_beside, gives_back, one_left}
use Rattle.storage_changes.proofs.Places.{zeros_for}
use Rattle.storage_changes.proofs.Ready.{AreReady, IsClear, kept, still_ready}

-- a walk that brings no frame
abbrev pub walk_at : StorageState → (ℕ → Option ℕ) → Subpools → ℕ → Walk
walk_at m given parked spare =
    record { state = m; brought = zeros_for (run_of 0 0); given = given; parked = parked; spare = spare }

-- The records fit in turn, and lead to this state.
pub record Reaches (w : Walk) (rs : List Record) (n : StorageState) (parked : Subpools) : Type 0 where
  pub given : ℕ → Option ℕ
  pub fits : FitInTurn w rs
  pub there : walk w rs ≡ walk_at n given parked (walk w rs).spare

reach_on :
    (w v : Walk) (rs ss : List Record) (n : StorageState) (parked : Subpools) → FitInTurn w rs → walk w rs ≡ v → Reaches v ss n parked → Reaches w (rs ++ ss) n parked
reach_on w v rs ss n parked fits e next =
    let full : walk w (rs ++ ss) ≡ walk v ss = walk_on w rs ss ∙ ap (λ (x : Walk). walk x ss) e in
    record {
      given = next.given;
      fits = fits_on w rs ss fits (let P : Walk → Type 0 = λ x. FitInTurn x ss in subst P (sym e) next.fits);
      there = full ∙ next.there ∙ ap (λ (x : Walk). walk_at n next.given parked x.spare) (sym full);
    }

plainly :
    (u : Walk) (given : ℕ → Option ℕ) (parked : Subpools) (more : ℕ) (x : Walk) → x ≡ beside u given parked more → ((a : ℕ) → u.brought a ≡ None)
    → x ≡ walk_at u.state given parked (u.spare + more)
plainly u given parked more x e none =
    e ∙ (λ i. record (walk_at u.state given parked (u.spare + more)) { brought = λ a. (none a ∙ sym (none_brought a)) i })

nothing_more : (rs : List Record) → rs ++ [] ≡ rs
nothing_more [] = refl
nothing_more (r ∷ rs) = ap (λ x. r ∷ x) (nothing_more rs)

all_pass_same : (f g : ℕ → Bool) (a n : ℕ) → ((k : ℕ) → a ≤ k → k < a + n → f k ≡ g k) → all_pass f a n ≡ all_pass g a n
all_pass_same f g a zero h = refl
all_pass_same f g a (suc n) h = λ i. h a (omega arith) (omega arith) i && all_pass_same f g (suc a) n (λ k low high. h k (omega (arith, low)) (omega (arith, high))) i

kept_page : (p : Subpool) (b : Bool) (o : Option Subpool) → ◌≡◌ {A = Option Subpool} (if b then None else o) (Some p) → o ≡ Some p
kept_page p true o e = cc
kept_page p false o e = e

freed_then : (same own was now : Bool) → same ≡ true → not now ≡ (not own && not was) → (if same && own then true else was) ≡ now
freed_then true true was true e f = refl
freed_then true true was false e f = cc
freed_then true false true true e f = refl
freed_then true false true false e f = cc
freed_then true false false true e f = cc
freed_then true false false false e f = refl
freed_then false own was now e f = cc

-- One extent, if the free storage of the subpool's pages is also that of `u`.
module _ (settings : Settings) (valid : settings_valid settings ≡ true) (p : Pool) (size : 0 < p.settings.size) (m : StorageState) (sound : IsSound settings m)
    (u : Subpools) (same : (k : ℕ) → m.subpools.pages p.settings.subpool (k / 512) ≡ true → u.free p.settings.subpool k ≡ m.subpools.free p.settings.subpool k)
    (x : Extent) (its : IsInSubpool (model_of m) (cell_pool_of p) (extent_of x)) (clear : IsClear (model_of m).cell_pools (cell_pool_of p) x) where
  abbrev sub : Subpool
  sub = p.settings.subpool

  abbrev d : ℕ
  d = x.start / 8

  abbrev count : ℕ
  count = extent_doublewords (cell_pool_of p) x.count

  abbrev run : Run
  run = emptied_pages u sub d count

  abbrev give : Run → List Record
  give r = give_back_records sub d count r.start r.len

  abbrev pub left : State
  left = without_area (model_of m) sub d count

  more : 0 < count
  more = let some : 0 < x.count * p.settings.size = mul-pos its.has_cells size in omega (arith, some)

  held : (k : ℕ) → inside k (run_of d count) ≡ true → (m.subpools.pages sub (k / 512) ≡ true) × (m.subpools.free sub k ≡ false)
  held k own =
      let page = its.in_pages k own in (
        (named_pages_are_there m.subpools (k / 512)).0 sub page,
        not-true (m.subpools.free sub k) (sym (ap (λ o. is_taken m.subpools o k) page) ∙ its.is_taken k own),
      )

  high : d + count ≤ 2 ^ 29
  high =
      let last = d + count - 1 in
      let own : inside last (run_of d count) ≡ true = in_inside d count last (omega (arith, more)) (omega (arith, more)) in
      let low = low_page settings (last / 512) valid (sound.well_formed.pages.in_region (last / 512) sub (its.in_pages last own)) in
      omega (arith, low, more)

  agree : (j k : ℕ) → inside j (run_of d count) ≡ true → k / 512 ≡ j / 512 → u.free sub k ≡ m.subpools.free sub k
  agree j k own e = same k (ap (m.subpools.pages sub) e ∙ (held j own).0)

  first_same : first_emptied u sub d ≡ first_emptied m.subpools sub d
  first_same =
      ap (λ b. if b then d / 512 else d / 512 + 1)
      (all_pass_same (u.free sub) (m.subpools.free sub) (512 * (d / 512)) (d - 512 * (d / 512))
      (λ k from below. agree d k (in_inside d count d (omega arith) (omega (arith, more))) (omega (arith, from, below))))

  past_same : past_emptied u sub (d + count) ≡ past_emptied m.subpools sub (d + count)
  past_same =
      ap (λ b. if b then pages_for (d + count) else pages_for (d + count) - 1)
      (all_pass_same (u.free sub) (m.subpools.free sub) (d + count) (512 * pages_for (d + count) - (d + count))
      (λ k from below. agree (d + count - 1) k (in_inside d count (d + count - 1) (omega (arith, more)) (omega (arith, more))) (omega (arith, from, below, more))))

  runs : emptied_pages m.subpools sub d count ≡ run
  runs = λ i. run_of (sym first_same i) (sym past_same i - sym first_same i)

  abbrev blanks : ℕ
  blanks = give_back_blanks run.len

  pub leads : Leads settings m (change_of (give run) blanks (run_of 0 0)) left
  leads =
      let idle = emptied_pages_are_a_run settings m sub d count sound more high held in
      let its_run = emptied_pages m.subpools sub d count in
      let formed = kept settings (model_of m) sound.well_formed (cell_pool_of p) x its clear in
      let one = giving_back_leads settings m sub d count its_run.start its_run.len [] sound (All-nil (λ row. row.0 < 16)) more high idle.1 held idle.0 formed in
      let P : Run → List Record → Type 0 = λ r rs. Leads settings m (change_of rs (give_back_blanks r.len) (run_of 0 0)) left in
      subst (λ r. P r (give r)) runs (subst (P its_run) (nothing_more (give its_run)) one)

  abbrev pub then_there : StorageState
  then_there = overlay m (change_of (give run) blanks (run_of 0 0))

  -- and then it is that of `u` with the extent
  pub same_then : (k : ℕ) → then_there.subpools.pages sub (k / 512) ≡ true → (with_free u sub (run_of d count) true).free sub k ≡ then_there.subpools.free sub k
  same_then k own =
      let now = leads.sound.named sub (k / 512) own in
      let was = kept_page sub (holds (same_subpool sub) (subpool_of m.subpools (k / 512)) && is_idle (without_taken (model_of m) d count).taken (k / 512))
      (subpool_of m.subpools (k / 512)) (sym (ap (λ (t : State). t.pages (k / 512)) leads.leads) ∙ now) in
      let page = (named_pages_are_there m.subpools (k / 512)).0 sub was in
      freed_then (same_subpool sub sub) (inside k (run_of d count)) (u.free sub k) (then_there.subpools.free sub k) (same-self sub)
      (sym (ap (λ o. is_taken then_there.subpools o k) now) ∙ ap (λ (t : State). t.taken k) leads.leads
      ∙ ap (λ b. not (inside k (run_of d count)) && b) (ap (λ o. is_taken m.subpools o k) was ∙ ap not (sym (same k page))))

  pub reaches_next :
      (g : ℕ → Option ℕ) (parked : Subpools) (s : ℕ) (rest : List Record) (n : StorageState) → IsAway m g → 5 ≤ s
      → ((h : ℕ → Option ℕ) (t : ℕ) → IsAway then_there h → s ≤ t + 4 → Reaches (walk_at then_there h parked t) rest n parked)
      → Reaches (walk_at m g parked s) (give run ++ rest) n parked
  reaches_next g parked s rest n away less next =
      let w = outset m (change_of (give run) blanks (run_of 0 0)) in
      let few = blanks_few run.len in
      let more = s - blanks in
      let all = all_beside w (give run) (gives_back sub d count run.start run.len) leads.fits.in_turn g parked more away in
      let spare = (walk w (give run)).spare + more in
      let still = one_left w (give run) (gives_back sub d count run.start run.len) leads.fits.in_turn (omega (arith, few.0)) in
      let v = walk_at then_there all.then_given parked spare in
      let there : walk (walk_at m g parked (blanks + more)) (give run) ≡ v =
      plainly (walk w (give run)) all.then_given parked more (walk (walk_at m g parked (blanks + more)) (give run)) all.there leads.fits.brought in
      let e : blanks + more ≡ s = omega (arith, less, few.1) in
      subst (λ k. Reaches (walk_at m g parked k) (give run ++ rest) n parked) e
      (reach_on (walk_at m g parked (blanks + more)) v (give run) rest n parked all.fits there (next all.then_given spare all.away (omega (arith, less, still, few.1))))

-- All of them.
pub record GivesBack (settings : Settings) (p : Pool) (m : StorageState) (u : Subpools) (xs : List Extent) : Type 0 where
  pub now : StorageState
  pub sound : IsSound settings now
  pub leads : model_of now ≡ without_extents (model_of m) (cell_pool_of p) (map extent_of xs)
  pub go : (g : ℕ → Option ℕ) (parked : Subpools) (s : ℕ) → IsAway m g → 4 * length xs + 1 ≤ s
      → Reaches (walk_at m g parked s) (extents_given_back u p.settings.subpool p.settings.size xs) now parked

pub all_given_back :
    (settings : Settings) → settings_valid settings ≡ true → (p : Pool) → 0 < p.settings.size → (table : CellPools) (xs : List Extent) (m : StorageState) (u : Subpools)
    → IsSound settings m → (model_of m).cell_pools ≡ table → AreReady (model_of m) table (cell_pool_of p) xs
    → ((k : ℕ) → m.subpools.pages p.settings.subpool (k / 512) ≡ true → u.free p.settings.subpool k ≡ m.subpools.free p.settings.subpool k)
    → GivesBack settings p m u xs
all_given_back settings valid p size table [] m u sound tabled ready same =
    record { now = m; sound = sound; leads = refl; go = λ g parked s away less. record { given = g; fits = tt; there = refl } }
all_given_back settings valid p size table (x ∷ xs) m u sound tabled ready same =
    let pool = cell_pool_of p in
    let clear = subst (λ t. IsClear t pool x) (sym tabled) ready.1 in
    let one = leads settings valid p size m sound u same x ready.0 clear in
    let n = then_there settings valid p size m sound u same x ready.0 clear in
    let later = still_ready settings (model_of m) sound.well_formed pool x table xs ready.2 ready.3 in
    let rest = all_given_back settings valid p size table xs n (with_free u p.settings.subpool (run_of (x.start / 8) (extent_doublewords pool x.count)) true) one.sound
    (ap (λ (t : State). t.cell_pools) one.leads ∙ tabled) (subst (λ t. AreReady t table pool xs) (sym one.leads) later)
    (same_then settings valid p size m sound u same x ready.0 clear) in
    record {
      now = rest.now;
      sound = rest.sound;
      leads = rest.leads ∙ ap (λ t. without_extents t pool (map extent_of xs)) one.leads;
      go = λ g parked s away less.
          reaches_next settings valid p size m sound u same x ready.0 clear g parked s
          (extents_given_back (with_free u p.settings.subpool (run_of (x.start / 8) (extent_doublewords pool x.count)) true) p.settings.subpool p.settings.size xs)
          rest.now away (omega (arith, less))
          (λ h t away_then enough. rest.go h parked t away_then (omega (arith, less, enough)));
    }
