-- Empty subpools are parked, and all of them are removed.
use Rattle.std.proofs.Common.{◌≡◌, ℕ, Bool, true, false, ◌&&◌, ◌==◌, if◌then◌else◌, List, [], ◌∷◌, Option, Some, None, refl, sym, ◌∙◌, ap, subst, arith}
use Rattle.std.specs.Prelude.{◌/◌}
use Rattle.std.proofs.lemmas.Bool.{cond_both, and_parts, eqb-true, eq-eqb}
use Rattle.vsm_model.specs.declared.Subpool.{Subpool}
use Rattle.vsm_model.specs.declared.limits.Settings.{Settings}
use Rattle.vsm_model.specs.Regions.{settings_valid}
use Rattle.vsm_model.specs.Search.{holds, is_in}
use Rattle.vsm_model.specs.Subpools.{same_subpool}
use Rattle.cell_pool.specs.Pools.{Pool, all_but, only}
use Rattle.storage_changes.specs.TableLaws.{PoolsAreFound}
use Rattle.storage_changes.specs.NamedPools.{AreNamed}
use Rattle.subpool_storage.specs.Subpools.{Subpools, is_there, with_own}
use Rattle.storage_changes.specs.State.{StorageState}
use Rattle.storage_changes.specs.Changes.{empties, change_parking, outset}
use Rattle.storage_changes.specs.Meaning.{subpool_of, IsSound}
use Rattle.storage_changes.specs.declared.record.Record.{Record}
use Rattle.storage_changes.proofs.Cases.{same-is}
use Rattle.storage_changes.proofs.MeaningLemmas.{named_pages_are_there}
use Rattle.storage_changes.proofs.ActionCases.{same_answers}
use Rattle.storage_changes.proofs.StorageCells.{has_subpool}
use Rattle.storage_changes.proofs.Owned.{has_pages, there_is_named, own_is_there}
use Rattle.storage_changes.proofs.Rows.{none_brought}
use Rattle.service_laws.proofs.Options.{held}
use Rattle.storage_changes.specs.Ending.{owned_by_these, released_records, end_blanks}
use Rattle.storage_changes.proofs.EndLists.{or_nothing}
use Rattle.storage_changes.proofs.EndEach.{Each, each_all, each_so, some_has, any_so}
use Rattle.storage_changes.proofs.EndSubpools.{IsAnother, is_listed, owned_have, owned_are_apart, owned_list}
use Rattle.storage_changes.proofs.EndModel.{left, unassigned}
use Rattle.storage_changes.proofs.EndStorage.{have, lies_among, emptied_of, onto, any_onto, IsParked, IsAmid, empties_go}
use Rattle.storage_changes.proofs.EndWalk.{Comes}

empties_have_none : (ps : List Subpool) (q : Subpool) (k : ℕ) → (empties ps).pages q k ≡ false
empties_have_none [] q k = refl
empties_have_none (p ∷ ps) q k = empties_have_none ps q k

none_is_free : (ps : List Subpool) (q : Subpool) (d : ℕ) → (empties ps).free q d ≡ false
none_is_free [] q d = refl
none_is_free (p ∷ ps) q d = none_is_free ps q d

-- another subpool leaves those that exist
there_still : (u : Subpools) (p q : Subpool) → is_there u q ≡ true → is_there (with_own u p true) q ≡ true
there_still u p q there =
    cond_both ((q.owner == p.owner) && (q.number == p.number)) (Some p.owner) (u.sight q.owner q.number) (λ o. holds (λ owner. owner == q.owner) o ≡ true)
    (λ same. eq-eqb p.owner q.owner (sym (eqb-true q.owner p.owner (and_parts (q.owner == p.owner) (q.number == p.number) same).0)))
    (λ _. there)

empties_are_parked : (ps : List Subpool) → Each (IsParked (empties ps)) ps
empties_are_parked [] = tt
empties_are_parked (p ∷ ps) = (
  record { there = own_is_there (empties ps) p; no_pages = empties_have_none ps p; none_free = none_is_free ps p },
  each_so (IsParked (empties ps)) (IsParked (empties (p ∷ ps))) ps
      (λ q parked. record { there = there_still (empties ps) p q parked.there; no_pages = parked.no_pages; none_free = parked.none_free })
      (empties_are_parked ps),
)

none_either : (b c x : Bool) → x ≡ false → (if b then false else x) ≡ (if c then false else x)
none_either true true x e = refl
none_either true false x e = sym e
none_either false true x e = e
none_either false false x e = refl

no_cells : (ps : List Subpool) (id : ℕ) → (empties ps).cells id ≡ None
no_cells [] id = refl
no_cells (p ∷ ps) id = no_cells ps id

-- if no subpool is removed all cell pools stay, and none is parked
all_stay : (x : Option Pool) → x ≡ all_but (lies_among []) x
all_stay None = refl
all_stay (Some q) = refl

none_goes : (x : Option Pool) → only (lies_among []) x ≡ None
none_goes None = refl
none_goes (Some q) = refl

module _ (settings : Settings) (m : StorageState) (sound : IsSound settings m) (valid : settings_valid settings ≡ true) (found : PoolsAreFound)
    (named : AreNamed m.subpools.cells) (ended : List ℕ) where
  abbrev pub owned : List Subpool
  owned = owned_by_these m.subpools ended

  abbrev pub gone : Subpool → Bool
  gone p = is_in ended p.owner

  -- the storage without what they own
  abbrev pub released : StorageState
  released =
      record m {
        subpools = left settings m sound gone m.subpools.sight;
        unassigned = unassigned settings m sound gone m.subpools.sight;
        bytes = λ a. if holds gone (subpool_of m.subpools (a / 4096)) then None else m.bytes a;
      }

  amid : (records : List Record) → IsAmid m (outset m (change_parking owned records (end_blanks m ended))) [] owned
  amid records = record {
    state = λ i. record m { subpools = record m.subpools { cells = λ id. all_stay (m.subpools.cells id) i } };
    none_brought = none_brought;
    given = λ a _. refl;
    parked = empties_are_parked owned;
    parked_cells = λ id. no_cells owned id ∙ sym (none_goes (m.subpools.cells id));
    others = each_all (λ p. Each (IsAnother p) []) owned (λ _. tt);
    apart = owned_are_apart m.subpools ended;
    there = each_so (λ p. (is_in ended p.owner ≡ true) × (is_there m.subpools p ≡ true)) (λ p. is_there m.subpools p ≡ true) owned (λ p h. h.1) (owned_have m.subpools ended);
    room = omega arith;
  }

  listed : (q : Subpool) → is_there m.subpools q ≡ true → is_listed (onto [] owned) q ≡ gone q
  listed q there =
      any_onto (same_subpool q) [] owned ∙ or_nothing (is_listed owned q)
      ∙ same_answers (is_listed owned q) (gone q)
      (λ any.
      let (p, facts, same) = some_has (λ p. (is_in ended p.owner ≡ true) × (is_there m.subpools p ≡ true)) (same_subpool q) owned (owned_have m.subpools ended) any in
      ap gone (same-is q p same) ∙ facts.0)
      (owned_list m.subpools ended q (there_is_named settings m sound q there) there)

  pages_same : (q : Subpool) (k : ℕ) → (if is_listed (onto [] owned) q then false else m.subpools.pages q k) ≡ (if gone q then false else m.subpools.pages q k)
  pages_same q k = go (m.subpools.pages q k) refl where
    go : (x : Bool) → m.subpools.pages q k ≡ x → (if is_listed (onto [] owned) q then false else m.subpools.pages q k) ≡ (if gone q then false else m.subpools.pages q k)
    go true own = ap (λ b. if b then false else m.subpools.pages q k) (listed q (has_pages settings m sound q k own))
    go false none = none_either (is_listed (onto [] owned) q) (gone q) (m.subpools.pages q k) none

  free_same : (q : Subpool) (d : ℕ) → (if is_listed (onto [] owned) q then false else m.subpools.free q d) ≡ (if gone q then false else m.subpools.free q d)
  free_same q d = go (m.subpools.free q d) refl where
    go : (x : Bool) → m.subpools.free q d ≡ x → (if is_listed (onto [] owned) q then false else m.subpools.free q d) ≡ (if gone q then false else m.subpools.free q d)
    go true own = ap (λ b. if b then false else m.subpools.free q d) (listed q (has_pages settings m sound q (d / 512) (sound.free q d own)))
    go false none = none_either (is_listed (onto [] owned) q) (gone q) (m.subpools.free q d) none

  cells_same : (id : ℕ) → all_but (lies_among (onto [] owned)) (m.subpools.cells id) ≡ all_but (λ q. gone q.settings.subpool) (m.subpools.cells id)
  cells_same id = go (m.subpools.cells id) refl where
    go : (x : Option Pool) → m.subpools.cells id ≡ x → all_but (lies_among (onto [] owned)) x ≡ all_but (λ q. gone q.settings.subpool) x
    go None at = refl
    go (Some q) at = ap (λ b. if b then None else Some q) (listed q.settings.subpool (has_subpool found settings m sound named id q at))

  have_same : (k : ℕ) → have m (onto [] owned) k ≡ holds gone (subpool_of m.subpools k)
  have_same k =
      any_onto (λ p. m.subpools.pages p k) [] owned ∙ or_nothing (have m owned k)
      ∙ same_answers (have m owned k) (holds gone (subpool_of m.subpools k))
      (λ any.
      let (p, facts, own) = some_has (λ p. (is_in ended p.owner ≡ true) × (is_there m.subpools p ≡ true)) (λ p. m.subpools.pages p k) owned (owned_have m.subpools ended) any in
      ap (holds gone) (sound.named p k own) ∙ facts.0)
      (λ theirs.
      let (p, at, ends) = held gone (subpool_of m.subpools k) theirs in
      let own = (named_pages_are_there m.subpools k).0 p at in
      let there = has_pages settings m sound p k own in
      any_so (same_subpool p) (λ q. m.subpools.pages q k) owned (λ q same. ap (λ r. m.subpools.pages r k) (sym (same-is p q same)) ∙ own)
      (owned_list m.subpools ended p (there_is_named settings m sound p there) there ends))

  released_is : emptied_of m (onto [] owned) ≡ released
  released_is = λ i. record m {
    subpools = record m.subpools { pages = λ q k. pages_same q k i; free = λ q d. free_same q d i; cells = λ id. cells_same id i };
    unassigned = λ k. ap (λ b. if b then true else m.unassigned k) (have_same k) i;
    bytes = λ a. ap (λ b. if b then None else m.bytes a) (have_same (a / 4096)) i;
  }

  pub released_go : (records : List Record) → Comes (outset m (change_parking owned records (end_blanks m ended))) (released_records m.subpools ended) released
  released_go records =
      let start = outset m (change_parking owned records (end_blanks m ended)) in
      let P : StorageState → Type 0 = λ n. Comes start (released_records m.subpools ended) n in
      subst P released_is (empties_go settings m sound valid named start [] owned (amid records))
