-- A cell pool that is created, with its first extent.
use Rattle.std.proofs.Common.{◌≡◌, inl, inr, ℕ, ◌*◌, ◌/◌, ◌<◌, Bool, true, false, ◌==◌, if◌then◌else◌, List, ◌++◌, Option, Some, None, is_some, refl, sym, ◌∙◌, ap, subst, arith}
use Rattle.std.proofs.Math.Nat.{mul-pos}
use Rattle.std.proofs.lemmas.Bool.{cond-true, eqb-true, eq-eqb}
use Rattle.run_set.specs.Runs.{Run, inside}
use Rattle.vsm_model.specs.Cells.{with_pool}
use Rattle.vsm_model.specs.Obtaining.{with_area}
use Rattle.cell_pool.specs.Pools.{Pool}
use Rattle.storage_changes.specs.TableLaws.{NewPoolsHaveARow}
use Rattle.storage_changes.specs.PoolTable.{cell_pool_of}
use Rattle.subpool_storage.specs.Subpools.{no_subpools, IsUnnamed}
use Rattle.storage_changes.specs.declared.record.CellPoolRecord.{CellPoolRecord}
use Rattle.storage_changes.specs.declared.record.Record.{Record}
use Rattle.storage_changes.specs.declared.record.Record.TheVariants.{CellPool}
use Rattle.storage_changes.specs.Changes.{Change, change_of, change_building, outset, arrival, overlay}
use Rattle.storage_changes.specs.Fits.{Fits, FitInTurn}
use Rattle.storage_changes.specs.Meaning.{model_of}
use Rattle.storage_changes.specs.State.{StorageState}
use Rattle.storage_changes.specs.Steps.{step, walk}
use Rattle.storage_changes.specs.Walk.{Walk}
use Rattle.storage_changes.specs.StorageActions.{own_records, register_records}
use Rattle.storage_changes.specs.Leads.{with_new}
use Rattle.storage_changes.proofs.Goes.{at, Goes, goes_on}
use Rattle.storage_changes.proofs.Rows.{with_rows, rows_go, task_is_there, leads_to, fresh_of}
use Rattle.storage_changes.specs.CellActions.{area_records, area_blanks, area_pages, doublewords_for}
use Rattle.storage_changes.specs.CellLaws.{BuildingLeads}
use Rattle.storage_changes.proofs.Changed.{some_is, listed_too}
use Rattle.storage_changes.proofs.Elsewhere.{with_cells, goes_with, elsewhere_on, own_elsewhere, area_elsewhere}
use Rattle.storage_changes.proofs.Places.{takes, with_parts, zeros_for, nothing}

-- a change that first creates a cell pool
module _ (m : StorageState) (p : Pool) (records : List Record) (blanks : ℕ) (fresh : Run) (absent : m.subpools.cells p.id ≡ None) (unnamed : IsUnnamed m.subpools p.name) where
  abbrev r : CellPoolRecord
  r = record { pool = p.id; present = true }

  abbrev d : Change
  d = change_building p (change_of records blanks fresh)

  -- the cell pool that is parked, and those that exist then
  abbrev parked : ℕ → Option Pool
  parked id = if id == p.id then Some p else None

  abbrev pub joined : ℕ → Option Pool
  joined id = if id == p.id then Some p else m.subpools.cells id

  is_parked : parked p.id ≡ Some p
  is_parked = cond-true (p.id == p.id) (Some p) None (eq-eqb p.id p.id refl)

  only_it : (id : ℕ) (q : Pool) → parked id ≡ Some q → id ≡ p.id
  only_it id q e = go (id == p.id) refl e where
    go : (b : Bool) → (id == p.id) ≡ b → (if b then Some p else None) ≡ Some q → id ≡ p.id
    go true own f = eqb-true id p.id own
    go false other f = cc

  fits : Fits (outset m d) (CellPool r)
  fits = record {
    here = ap is_some is_parked;
    not_there = absent;
    single = λ q e i x has same. elim has [
      | inl there ↦ absurd (unnamed i x there (same ∙ ap (λ (z : Pool). z.name) (some_is q p (sym e ∙ is_parked))))
      | inr away ↦ only_it i x away
    ];
  }

  come : (b : Bool) (x : Option Pool) → (if b then (if b then Some p else None) else x) ≡ (if b then Some p else x)
  come true x = refl
  come false x = refl

  left_none : (id : ℕ) (b : Bool) → (id == p.id) ≡ b → ◌≡◌ {A = Option Pool} (if b then m.subpools.cells id else (if b then Some p else None)) None
  left_none id true e = ap m.subpools.cells (eqb-true id p.id e) ∙ absent
  left_none id false e = refl

  -- nothing is parked after its record
  comes : step (outset m d) (CellPool r) ≡ at (with_cells m joined) (zeros_for fresh) nothing blanks
  comes = λ i. record {
    state = with_cells m (λ id. come (id == p.id) (m.subpools.cells id) i);
    brought = zeros_for fresh;
    given = nothing;
    parked = record no_subpools { cells = λ id. left_none id (id == p.id) refl i };
    spare = blanks;
  }

  module _ (n : StorageState) (b g : ℕ → Option ℕ) (left : ℕ) (go : Goes (at (with_cells m joined) (zeros_for fresh) nothing blanks) records n b g left) where
    pub fit_building : FitInTurn (outset m d) d.records
    fit_building = (fits, let P : Walk → Type 0 = λ v. FitInTurn v records in subst P (sym comes) go.fits)

    arrives : walk (outset m d) d.records ≡ at n b g (walk (at (with_cells m joined) (zeros_for fresh) nothing blanks) records).spare
    arrives = ap (λ (v : Walk). walk v records) comes ∙ go.there

    pub leads_there : overlay m d ≡ n
    leads_there = ap (λ (v : Walk). v.state) arrives

    pub brings_none : ((a : ℕ) → b a ≡ None) → (a : ℕ) → (arrival m d).brought a ≡ None
    brings_none none a = ap (λ (v : Walk). v.brought a) arrives ∙ none a

pub building_leads : NewPoolsHaveARow → BuildingLeads
building_leads row settings m p is_new count goes rows sound named absent small unnamed own some size extents cells room are formed =
    let sub = p.settings.subpool in
    let length = doublewords_for p count in
    let bytes : 0 < count * p.settings.size = mul-pos some size in
    let more : 0 < length = omega (arith, bytes) in
    let taking = takes settings m sub is_new length goes sound own more room in
    let fresh = area_pages length goes in
    let frames = zeros_for fresh in
    let blanks = area_blanks goes in
    let area = own_records sub is_new ++ area_records sub length goes in
    let registers = register_records m rows in
    let all = joined m p (area ++ registers) blanks fresh absent unnamed in
    let n = with_parts m taking.parts in
    let end = with_cells n all in
    let b = taking.brought in
    let g = taking.given in
    let go = goes_on (at (with_cells m all) frames nothing blanks) area registers end (with_rows end rows) b g b g 1 0
    (goes_with m n frames nothing b g blanks 1 area all
    (elsewhere_on (own_records sub is_new) (area_records sub length goes) (own_elsewhere sub is_new) (area_elsewhere sub length goes))
    (taking.go blanks 1 (omega arith) (omega arith)))
    (λ s less. rows_go end b g s 0 rows (task_is_there settings m sound) are (omega arith)) in
    let pool = cell_pool_of p in
    let leads = with_area (with_new (model_of m) sub is_new) sub length goes in
    let table = row m.subpools.cells p.id p named small absent (λ i q e same. unnamed i q e same) in
    let listed : model_of end ≡ with_pool (model_of n) p.name pool = λ i. record (model_of n) { cell_pools = table i } in
    leads_to settings m end (change_building p (change_of (area ++ registers) blanks fresh)) rows
    (with_pool leads p.name pool)
    (fit_building m p (area ++ registers) blanks fresh absent unnamed (with_rows end rows) b g 0 go)
    (leads_there m p (area ++ registers) blanks fresh absent unnamed (with_rows end rows) b g 0 go) (brings_none m p (area ++ registers) blanks fresh absent unnamed (with_rows end rows) b g 0 go taking.none)
    (λ a. fresh_of m fresh a (inside (a / 4096) fresh) refl (taking.fresh (a / 4096)))
    (record { apart = taking.stands.apart; named = taking.stands.named; rest = taking.stands.rest; free = taking.stands.free })
    (listed_too (model_of end) (model_of n) leads p.name pool listed taking.leads) formed
