-- What holds at a number of a sound storage at which a task sees and owns nothing, and the subpools that are made, that
-- pass and that are shared there.
use Rattle.std.proofs.Common.{◌≡◌, ◌≢◌, ℕ, ◌-◌, ◌≤◌, Bool, true, false, not, ◌&&◌, ◌==◌, if◌then◌else◌, Option, Some, None, [], ◌∷◌, refl, sym, ◌∙◌, ap, arith, true≢false}
use Rattle.std.specs.Prelude.{◌/◌}
use Rattle.std.proofs.lemmas.Bool.{cond-true, cond-false, and_left, and_right, and_parts, eqb-true, eq-eqb, both_ways, false_from_ne_true}
use Rattle.vsm_model.specs.declared.Subpool.{Subpool}
use Rattle.vsm_model.specs.declared.limits.Settings.{Settings}
use Rattle.vsm_model.specs.Passing.{with_gift}
use Rattle.vsm_model.specs.Search.{holds}
use Rattle.vsm_model.specs.State.{is_task}
use Rattle.vsm_model.specs.Subpools.{same_subpool, with_sight, with_subpool}
use Rattle.cell_pool.specs.Pools.{Pool}
use Rattle.storage_changes.specs.TableLaws.{PoolsAreFound, AllRowsChange}
use Rattle.storage_changes.specs.NamedPools.{AreNamed}
use Rattle.subpool_storage.specs.Subpools.{Subpools, is_there, owned_by, with_sharer}
use Rattle.storage_changes.specs.declared.record.Record.TheVariants.{Pass}
use Rattle.storage_changes.specs.Meaning.{model_of, IsSound}
use Rattle.storage_changes.specs.State.{StorageState}
use Rattle.storage_changes.proofs.Cases.{same-is}
use Rattle.storage_changes.proofs.StorageCells.{has_subpool, handed_are_named}
use Rattle.storage_changes.proofs.Goes.{goes_step}
use Rattle.storage_changes.proofs.Owned.{owned_leads}
use Rattle.storage_changes.proofs.Records.{owned, own_goes}
use Rattle.storage_changes.proofs.Rows.{Stands}
use Rattle.service_laws.proofs.Numbers.{other_way}
use Rattle.service_laws.proofs.Options.{none_some}
use Rattle.storage_changes.specs.Attaching.{subpool, made, shared}
use Rattle.storage_changes.proofs.AttachCells.{elsewhere}
use Rattle.storage_changes.proofs.AttachPassed.{passed, none_free, passed_stands, passed_leads}
use Rattle.storage_changes.proofs.AttachSteps.{AreSameAt, Steps}

-- The task sees and owns no subpool of the number; what is seen of the number is seen by its owner, and so is each
-- subpool whose pages or cell pools exist.
pub record IsOpen (u : Subpools) (task number : ℕ) : Type 0 where
  pub unseen : u.sight task number ≡ None
  pub unowned : (other : ℕ) → u.sight other number ≢ Some task
  pub seen : (other owner : ℕ) → u.sight other number ≡ Some owner → u.sight owner number ≡ Some owner
  pub there : (owner page : ℕ) → u.pages (subpool number owner) page ≡ true → u.sight owner number ≡ Some owner
  pub has_cells :
      (id : ℕ) (q : Pool) → u.cells id ≡ Some q → q.settings.subpool.number ≡ number
      → u.sight q.settings.subpool.owner number ≡ Some q.settings.subpool.owner

-- a test of the owner that is seen
owner_seen : (o : Option ℕ) (owner : ℕ) → holds (λ x. x == owner) o ≡ true → o ≡ Some owner
owner_seen None owner e = absurd (true≢false (sym e))
owner_seen (Some x) owner e = ap Some (eqb-true x owner e)

none_of : (o : Option ℕ) → ((x : ℕ) → o ≡ Some x → ⊥) → o ≡ None
none_of None h = refl
none_of (Some x) h = absurd (h x refl)

is_there_at : (u : Subpools) (number owner : ℕ) → u.sight owner number ≡ Some owner → is_there u (subpool number owner) ≡ true
is_there_at u number owner e = ap (holds (λ x. x == owner)) e ∙ eq-eqb owner owner refl

-- it's so of a task that doesn't exist
pub open_of : PoolsAreFound → (settings : Settings) (m : StorageState) → IsSound settings m → AreNamed m.subpools.cells → (task : ℕ)
    → is_task (model_of m) task ≡ false → (number : ℕ) → IsOpen m.subpools task number
open_of found settings m sound named task free number =
    let sight = sound.well_formed.sight in
    let owns : (other owner : ℕ) → m.subpools.sight other number ≡ Some owner → m.subpools.sight owner number ≡ Some owner =
    λ other owner e. sight.owner_sees number owner (sight.seen_is_there other number owner e) in
    record {
      unseen = none_of (m.subpools.sight task number) (λ owner e. both_ways (is_task (model_of m) task) free (sight.seer_is_task task number owner e));
      unowned = λ other e. both_ways (is_task (model_of m) task) free (sight.owner_is_task number task (sight.seen_is_there other number task e));
      seen = owns;
      there = λ owner page e.
          owner_seen (m.subpools.sight owner number) owner (sound.well_formed.pages.has_subpool page (subpool number owner) (sound.named (subpool number owner) page e));
      has_cells = λ id q at is.
          ap (m.subpools.sight q.settings.subpool.owner) (sym is)
          ∙ owner_seen (m.subpools.sight q.settings.subpool.owner q.settings.subpool.number) q.settings.subpool.owner
          (has_subpool found settings m sound named id q at);
    }

pub open_on : (u v : Subpools) (task number : ℕ) → AreSameAt u v number → IsOpen u task number → IsOpen v task number
open_on u v task number same opened = record {
  unseen = same.sight task ∙ opened.unseen;
  unowned = λ other e. opened.unowned other (sym (same.sight other) ∙ e);
  seen = λ other owner e. same.sight owner ∙ opened.seen other owner (sym (same.sight other) ∙ e);
  there = λ owner page e. same.sight owner ∙ opened.there owner page (sym (same.pages owner page) ∙ e);
  has_cells = λ id q at is. same.sight q.settings.subpool.owner ∙ opened.has_cells id q (same.cells id q at is) is;
}

module _ (settings : Settings) (n : StorageState) (number : ℕ) (stands : Stands settings n.subpools n.unassigned) (named : AreNamed n.subpools.cells) where
  -- A task that sees none of the number sees another's subpool.
  abbrev sharing : ℕ → ℕ → StorageState
  sharing owner task = record n { subpools = with_sharer n.subpools (subpool number owner) task true }

  sharing_leads : (owner task k t : ℕ) (b : Bool) → n.subpools.sight task number ≡ None → task ≢ owner → ((t == task) && (k == number)) ≡ b
      → holds (λ o. o == t) (if b then Some owner else n.subpools.sight t k) ≡ holds (λ o. o == t) (n.subpools.sight t k)
  sharing_leads owner task k t false unseen other e = refl
  sharing_leads owner task k t true unseen other e =
      let parts = and_parts (t == task) (k == number) e in
      let own = eqb-true t task parts.0 in
      false_from_ne_true (owner == t) (λ is. other (sym own ∙ sym (eqb-true owner t is)))
      ∙ sym (ap (holds (λ o. o == t)) (ap (λ x. n.subpools.sight x k) own ∙ ap (n.subpools.sight task) (eqb-true k number parts.1) ∙ unseen))

  pub share_steps :
      (owner task : ℕ) → (1 ≤ task) × (task ≤ 64) → n.subpools.sight owner number ≡ Some owner → n.subpools.sight task number ≡ None → task ≢ owner
      → Steps settings n (shared number owner task ∷ []) (with_sight (model_of n) task number owner) 1 (λ k. number == k)
  share_steps owner task range at_owner unseen other = record {
    after = sharing owner task;
    goes = λ b g spare left some less.
        goes_step n (sharing owner task) b g b g spare (spare - 1) left (shared number owner task)
        (record { there = is_there_at n.subpools number owner at_owner; range = range; sharer = other; other = unseen; room = omega (arith, less) })
        refl (omega (arith, less));
    stands = record { apart = stands.apart; named = stands.named; rest = stands.rest; free = stands.free };
    named = named;
    tasks = refl;
    leads = λ i. record (with_sight (model_of n) task number owner) {
      subpools = λ k t. sharing_leads owner task k t ((t == task) && (k == number)) unseen other refl i;
    };
    others = λ k e. record {
      sight = λ t. cond-false ((t == task) && (k == number)) (Some owner) (n.subpools.sight t k) (and_right (t == task) (k == number) (other_way number k e));
      pages = λ owner page. refl;
      cells = λ id q at is. at;
    };
  }

  module _ (task : ℕ) (low : number ≤ 127) (opened : IsOpen n.subpools task number) where
    pub alone : (owner other : ℕ) → n.subpools.sight owner number ≡ None → n.subpools.sight other number ≡ Some owner → ⊥
    alone owner other none e = none_some owner (sym none ∙ opened.seen other owner e)

    pub no_page : (owner page : ℕ) → n.subpools.sight owner number ≡ None → n.subpools.pages (subpool number owner) page ≡ false
    no_page owner page none = false_from_ne_true (n.subpools.pages (subpool number owner) page) (λ e. none_some owner (sym none ∙ opened.there owner page e))

    pub nothing_free : (owner d : ℕ) → n.subpools.sight owner number ≡ None → n.subpools.free (subpool number owner) d ≡ false
    nothing_free owner d none =
        false_from_ne_true (n.subpools.free (subpool number owner) d)
        (λ e. both_ways (n.subpools.pages (subpool number owner) (d / 512)) (no_page owner (d / 512) none) (stands.free (subpool number owner) d e))

    -- A task that sees none of the number has a new one.
    abbrev pub made_steps :
        (owner : ℕ) → (1 ≤ owner) × (owner ≤ 64) → n.subpools.sight owner number ≡ None
        → Steps settings n (made number owner ∷ []) (with_subpool (model_of n) number owner) 1 (λ k. number == k)
    made_steps owner range none = record {
      after = owned n (subpool number owner) true;
      goes = λ b g spare left some less.
          own_goes n b g spare left (subpool number owner) range low none (λ other e. absurd (alone owner other none e)) (λ page. no_page owner page none)
          (λ d. nothing_free owner d none) some less;
      stands = record { apart = stands.apart; named = stands.named; rest = stands.rest; free = stands.free };
      named = named;
      tasks = refl;
      leads = owned_leads n (subpool number owner) true;
      others = λ k e. record {
        sight = λ t. cond-false ((t == owner) && (k == number)) (Some owner) (n.subpools.sight t k) (and_right (t == owner) (k == number) (other_way number k e));
        pages = λ owner page. refl;
        cells = λ id q at is. at;
      };
    }

    -- no cell pool lies in a subpool that nobody sees
    pub no_cells : (owner : ℕ) → n.subpools.sight owner number ≡ None → (id : ℕ) (q : Pool) → n.subpools.cells id ≡ Some q
        → same_subpool q.settings.subpool (subpool number owner) ≡ false
    no_cells owner none id q at =
        false_from_ne_true (same_subpool q.settings.subpool (subpool number owner))
        (λ own.
        let is = same-is q.settings.subpool (subpool number owner) own in
        none_some q.settings.subpool.owner
        (sym none ∙ ap (λ r. n.subpools.sight r.owner number) (sym is) ∙ opened.has_cells id q at (ap (λ r. r.number) is)))

    -- The subpool of an owner passes to the task.
    pub pass_steps :
        AllRowsChange → (owner : ℕ) → (1 ≤ owner) × (owner ≤ 64) → (1 ≤ task) × (task ≤ 64) → n.subpools.sight owner number ≡ Some owner → task ≢ owner
        → Steps settings n (Pass (record { subpool = subpool number owner; to = task }) ∷ []) (with_gift (model_of n) owner task number) 1 (λ k. number == k)
    pass_steps change owner range to at_owner other =
        let old : Subpool = subpool number owner in
        let none : (page : ℕ) → n.subpools.pages (owned_by old task) page ≡ false = λ page. no_page task page opened.unseen in
        record {
          after = passed n old task;
          goes = λ b g spare left some less.
              goes_step n (passed n old task) b g b g spare spare left (Pass (record { subpool = old; to = task }))
              (record {
                there = is_there_at n.subpools number owner at_owner;
                owner = range;
                to = to;
                unseen = opened.unseen;
                unowned = opened.unowned;
                no_pages = none;
                none_free = none_free settings n old task stands (low, to.0, to.1) none;
                no_cells = no_cells task opened.unseen;
              })
              refl (omega (arith, less));
          stands = passed_stands settings n old task stands (low, to.0, to.1) none;
          named = handed_are_named old task n.subpools.cells named;
          tasks = refl;
          leads = passed_leads settings n old task stands (low, to.0, to.1) none change named other;
          others = λ k e.
              let away = other_way number k e in
              record {
                sight = λ t. cond-true (not (k == number)) (n.subpools.sight t k) _ (ap not away);
                pages = λ t page.
                    cond-false (same_subpool (subpool k t) (owned_by old task)) (n.subpools.pages old page) _ (and_left (k == number) (t == task) away)
                    ∙ cond-false (same_subpool (subpool k t) old) false (n.subpools.pages (subpool k t) page) (and_left (k == number) (t == owner) away);
                cells = λ id q at is. elsewhere old task (n.subpools.cells id) q at (ap (λ x. x == number) is ∙ away);
              };
        }
