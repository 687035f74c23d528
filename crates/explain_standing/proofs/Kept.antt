-- What is known after another statement.
use Rattle.std.proofs.Common.{◌≡◌, ◌≢◌, ◌⊎◌, ℕ, ◌/◌, ◌^◌, ◌<◌, ◌≤◌, ◌==◌, Bool, true, false, not, ◌&&◌, if◌then◌else◌, Option, Some, List, ◌∷◌, refl, sym, ap, subst, ◌∙◌, arith, inl, inr}
use Rattle.std.proofs.Props.{props}
use mathlib.Core.Logic.{∥∥₁_elim}
use Rattle.std.proofs.lemmas.Bool.{and_parts, eq-eqb, ne_eqb}
use Rattle.bench_core.specs.Machine.{name_asked, service_asked, statement_step}
use Rattle.bench_core.specs.Stands.{bench_of, settings_in}
use Rattle.macro_statements.specs.Requests.{Act}
use Rattle.vsm_model.specs.declared.limits.Settings.{Settings}
use Rattle.vsm_model.specs.declared.replies.Reply.{Reply}
use Rattle.vsm_model.specs.declared.replies.Reply.TheVariants.{Obtained, Returned, Cell, Attached, Turn, Stored}
use Rattle.vsm_model.specs.CellPools.{CellPool, cell_pool_in, cells_of}
use Rattle.vsm_model.specs.Map.{total_bytes}
use Rattle.vsm_model.specs.Names.{NamedState, is_one_too_many, names_after}
use Rattle.vsm_model.specs.Search.{is_in as is_among}
use Rattle.vsm_model.specs.Services.{Service}
use Rattle.vsm_model.specs.Standing.{Accepted, reply_in, state_after}
use Rattle.vsm_model.specs.State.{State, is_task}
use Rattle.vsm_model.specs.Step.{step}
use Rattle.vsm_model.specs.WellFormed.{IsWellFormed}
use Rattle.service_laws.specs.InUse.{LieApart}
use Rattle.service_laws.proofs.Apart.{cell_is_taken, cells_of_a_pool_lie_apart, cells_of_two_pools_lie_apart, same_or_other}
use Rattle.service_laws.proofs.Cases.{some_from}
use Rattle.service_laws.proofs.CellLists.{cell_bounds}
use Rattle.service_laws.proofs.CellTables.{same_pool}
use Rattle.service_laws.proofs.Pools.{sound_of}
use Rattle.service_laws.proofs.Words.{low_page}
use Rattle.storage_core.specs.declared.storage.Storage.{Storage}
use Rattle.storage_core.specs.Meaning.{settings_of, state_of}
use Rattle.vsm_bench.proofs.Served.{accepted_is_its_service}
use Rattle.explain_standing.specs.Carried.{IsCarried, IsCellTaken, IsPutAt, IsTaskBegun, is_get, taken_in, taken_when}
use Rattle.explain_standing.specs.Newly.{CellIsInTheReply, TakenByTheReply, TaskIsInTheReply, is_in, newly_between, taken_by}
use Rattle.explain_standing.specs.NumberMaps.{number_in}
use Rattle.explain_standing.specs.Since.{began_since, got_since, is_cell_in_use, machine_after, reply_to, since, taken_since}
use Rattle.explain_standing.specs.declared.carried.Carried.{Carried}
use Rattle.explain_standing.proofs.CellsByReply.{given_is_used}
use Rattle.explain_standing.proofs.NewRuns.{newly_has}
use Rattle.explain_standing.proofs.Served.{taken_by_some}
use Rattle.explain_standing.proofs.UsedCells.{named_used}

-- ---- a storage

-- A taken doubleword lies in a region.
low_taken : (b : Storage) (d : ℕ) → (state_of b).taken d ≡ true → d < 2 ^ 28
low_taken b d e =
    ∥∥₁_elim b.held.sound (hlevel props)
    (λ sound. let at = some_from ((state_of b).pages (d / 512)) (sound.well_formed.pages.in_page d e) in
    let low = low_page (settings_of b) (d / 512) b.held.valid (sound.well_formed.pages.in_region (d / 512) at.0 at.1) in
    omega (arith, low))

-- A cell in use is one of a cell pool.
record IsOfPool (s : State) (cell : ℕ) : Type 0 where
  name : List ℕ
  pool : CellPool
  found : cell_pool_in s.cell_pools name ≡ Some pool
  its : is_among (cells_of pool) cell ≡ true
  size : 4 ≤ pool.size
  taken : s.taken (cell / 8) ≡ true

of_pool : (settings : Settings) (s : State) (cell : ℕ) → IsWellFormed settings s → is_cell_in_use s cell ≡ true → IsOfPool s cell
of_pool settings s cell w used =
    let (name, (pool, found, busy)) = named_used s.cell_pools cell w.cell_pools.ascending used in
    let sound = sound_of s name pool w.cell_pools found in
    let its = (and_parts (is_among (cells_of pool) cell) (not (is_among pool.free cell)) busy).0 in
    record {
      name = name;
      pool = pool;
      found = found;
      its = its;
      size = (cell_bounds pool.size pool.primary sound.bounds.0).0;
      taken = cell_is_taken s pool cell sound its;
    }

lie_apart : (settings : Settings) (s : State) (cell other : ℕ) → IsWellFormed settings s → (a : IsOfPool s cell) (b : IsOfPool s other) → cell ≢ other →
    LieApart cell a.pool.size other b.pool.size
lie_apart settings s cell other w a b ne = elim (same_or_other a.name b.name) [
  | inl same ↦
      let is : b.pool ≡ a.pool = same_pool b.pool a.pool (sym b.found ∙ ap (cell_pool_in s.cell_pools) (sym same) ∙ a.found) in
      subst (λ (p : CellPool). LieApart cell a.pool.size other p.size) (sym is)
      (cells_of_a_pool_lie_apart settings s a.name a.pool cell other w a.found a.its (ap (λ (p : CellPool). is_among (cells_of p) other) (sym is) ∙ b.its) ne)
  | inr apart ↦ cells_of_two_pools_lie_apart settings s a.name b.name a.pool b.pool cell other w apart a.found b.found a.its b.its
]

too_near : (cell size other other_size : ℕ) → 4 ≤ size → 4 ≤ other_size → LieApart cell size other other_size → cell / 4 ≡ other / 4 → ⊥
too_near cell size other other_size some also (inl before) same = omega (arith, before, same, some)
too_near cell size other other_size some also (inr after) same = omega (arith, after, same, also)

-- Two cells in use have no fullword in common.
apart_in : (b : Storage) (cell other : ℕ) → is_cell_in_use (state_of b) cell ≡ true → is_cell_in_use (state_of b) other ≡ true → cell ≢ other → cell / 4 ≡ other / 4 → ⊥
apart_in b cell other used used_too ne same =
    ∥∥₁_elim b.held.sound (hlevel props)
    (λ sound.
    let w = sound.well_formed in
    let one = of_pool (settings_of b) (state_of b) cell w used in
    let two = of_pool (settings_of b) (state_of b) other w used_too in
    too_near cell one.pool.size other two.pool.size one.size two.size (lie_apart (settings_of b) (state_of b) cell other w one two ne) same)

low_cell : (b : Storage) (cell : ℕ) → is_cell_in_use (state_of b) cell ≡ true → cell / 4 < 2 ^ 32
low_cell b cell used =
    let low : cell / 8 < 2 ^ 28 =
    ∥∥₁_elim b.held.sound (hlevel props) (λ sound. low_taken b (cell / 8) (of_pool (settings_of b) (state_of b) cell sound.well_formed used).taken) in
    omega (arith, low)

low_task : (b : Storage) (task : ℕ) → is_task (state_of b) task ≡ true → task < 2 ^ 32
low_task b task there = ∥∥₁_elim b.held.sound (hlevel props) (λ sound. let most = (sound.well_formed.tasks.numbered task there).1 in omega (arith, most))

-- ---- numbers that stay

module _ (line : ℕ) (old new : ℕ → Option ℕ) (n : ℕ) (low : n < 2 ^ 32) where
  is_put : (place : ℕ) → IsPutAt place line old new → n ≡ place → new n ≡ Some line
  is_put place put here = put n low ∙ ap (λ b. if b then Some line else old n) (eq-eqb n place here)

  not_put : (place : ℕ) → IsPutAt place line old new → n ≢ place → new n ≡ old n
  not_put place put there = put n low ∙ ap (λ b. if b then Some line else old n) (ne_eqb n place there)

  cell_stays : (reply : Reply) → IsCellTaken reply line old new → ((address : ℕ) → reply ≡ Cell address → n ≢ address / 4) → new n ≡ old n
  cell_stays (Cell address) is other = not_put (address / 4) is (other address refl)
  cell_stays (Obtained address length) is other = is n
  cell_stays (Returned code) is other = is n
  cell_stays (Attached task) is other = is n
  cell_stays (Turn task) is other = is n
  cell_stays Stored is other = is n

  task_stays : (reply : Reply) → IsTaskBegun reply line old new → ((task : ℕ) → reply ≡ Attached task → n ≢ task) → new n ≡ old n
  task_stays (Attached task) is other = not_put task is (other task refl)
  task_stays (Cell address) is other = is n
  task_stays (Obtained address length) is other = is n
  task_stays (Returned code) is other = is n
  task_stays (Turn task) is other = is n
  task_stays Stored is other = is n

-- ---- another statement

module _ (settings : Settings) (older : List (ℕ × Act)) (x : ℕ × Act) (c after : Carried) (reply : Reply) (known : IsCarried settings older c)
    (under : settings_in after.bench ≡ settings_in c.bench)
    (accepted : statement_step (settings_in c.bench) (bench_of c.bench).present x.1 ≡ Accepted (bench_of after.bench).present reply) where
  abbrev m : NamedState
  m = machine_after settings older

  abbrev before : State
  before = m.storage

  abbrev now : State
  now = (machine_after settings (x ∷ older)).storage

  abbrev b : Storage
  b = c.bench.machine.storage

  abbrev d : Storage
  d = after.bench.machine.storage

  abbrev full : Bool
  full = is_one_too_many m.names (name_asked x.1)

  steps : statement_step settings m x.1 ≡ Accepted (bench_of after.bench).present reply
  steps = (λ i. statement_step (sym known.under i) (sym known.present i) x.1) ∙ accepted

  present_is : (bench_of after.bench).present ≡ machine_after settings (x ∷ older)
  present_is = ap (state_after m) (sym steps)

  pub reply_is : reply_to settings older x.1 ≡ Some reply
  reply_is = ap reply_in steps

  storage_was : state_of b ≡ before
  storage_was = ap (λ (k : NamedState). k.storage) known.present

  storage_is : state_of d ≡ now
  storage_is = ap (λ (k : NamedState). k.storage) present_is

  its_service : (service : Service) × (service_asked m x.1 ≡ Some service)
      × (step settings full before service ≡ Accepted (bench_of after.bench).present.storage reply)
      × ((bench_of after.bench).present.names ≡ names_after m.names (name_asked x.1) reply)
  its_service = accepted_is_its_service settings m (bench_of after.bench).present x.1 reply steps

  abbrev service : Service
  service = its_service.0

  -- under the settings of the bench, from the state before to the one after
  service_steps : step (settings_of b) full before service ≡ Accepted now reply
  service_steps = ap (λ k. step k full before service) known.under ∙ its_service.2 ∙ ap (λ s. Accepted s reply) storage_is

  -- ---- the doublewords that it took

  runs_are : TakenByTheReply → taken_by reply (taken_when (is_get x.1) c.bench) (taken_when (is_get x.1) after.bench) ≡ newly_between before now
  runs_are law =
      taken_by_some settings full m (bench_of after.bench).present.storage x.1 service reply (taken_in c.bench) (taken_in after.bench) its_service.1 its_service.2
      ∙ (λ i. taken_by reply (total_bytes (settings_in c.bench) (storage_was i) true) (total_bytes (under i) (storage_is i) true))
      ∙ ∥∥₁_elim b.held.sound (hlevel props)
      (λ sound. law (settings_of b) full before now service reply b.held.valid (subst (IsWellFormed (settings_of b)) storage_was sound.well_formed) service_steps)

  lines_kept : (runs : List (ℕ × ℕ)) → runs ≡ newly_between before now →
      ((k : ℕ) → k < 2 ^ 32 → number_in after.lines k ≡ (if is_in k runs then Some x.0 else number_in c.lines k)) →
      (k : ℕ) → now.taken k ≡ true → number_in after.lines k ≡ taken_since settings (x ∷ older) k
  lines_kept runs are took k here =
      let below : k < 2 ^ 28 = low_taken d k (ap (λ (s : State). s.taken k) storage_is ∙ here) in
      let in_map : k < 2 ^ 32 = omega (arith, below) in
      took k in_map ∙ ap (λ rs. if is_in k rs then Some x.0 else number_in c.lines k) are
      ∙ ap (λ t. if t then Some x.0 else number_in c.lines k) (newly_has before now k below) ∙ go (before.taken k) refl
    where
      go : (t : Bool) → before.taken k ≡ t → (if now.taken k && not (before.taken k) then Some x.0 else number_in c.lines k) ≡ taken_since settings (x ∷ older) k
      go true was =
          (λ i. if here i && not (was i) then Some x.0 else number_in c.lines k) ∙ known.lines k was
          ∙ sym (λ i. since (here i) (was i) x.0 (taken_since settings older k))
      go false was =
          (λ i. if here i && not (was i) then Some x.0 else number_in c.lines k) ∙ sym (λ i. since (here i) (was i) x.0 (taken_since settings older k))

  -- ---- the cell that it got

  module _ (law : CellIsInTheReply) (taken : IsCellTaken reply x.0 (number_in c.cells) (number_in after.cells)) (cell : ℕ) (here : is_cell_in_use now cell ≡ true) where
    here_too : is_cell_in_use (state_of d) cell ≡ true
    here_too = ap (λ s. is_cell_in_use s cell) storage_is ∙ here

    low : cell / 4 < 2 ^ 32
    low = low_cell d cell here_too

    -- no other cell that the reply gives has its fullword
    elsewhere : IsWellFormed (settings_of b) before → (address : ℕ) → reply ≡ Cell address → address ≢ cell → cell / 4 ≢ address / 4
    elsewhere w address gives other same =
        apart_in d address cell (ap (λ s. is_cell_in_use s address) storage_is ∙ given_is_used (settings_of b) full before now service reply address w service_steps gives) here_too other (sym same)

    cell_known : IsWellFormed (settings_of b) before →
        ((reply ≡ Cell cell) × (is_cell_in_use before cell ≡ false))
        ⊎ (is_cell_in_use before cell ≡ true) × ((address : ℕ) → reply ≡ Cell address → address ≢ cell) →
        number_in after.cells (cell / 4) ≡ got_since settings (x ∷ older) cell
    cell_known w (inl (gives, was)) =
        is_put x.0 (number_in c.cells) (number_in after.cells) (cell / 4) low (cell / 4) (subst (λ r. IsCellTaken r x.0 (number_in c.cells) (number_in after.cells)) gives taken) refl
        ∙ sym (λ i. since (here i) (was i) x.0 (got_since settings older cell))
    cell_known w (inr (was, others)) =
        cell_stays x.0 (number_in c.cells) (number_in after.cells) (cell / 4) low reply taken (λ address gives. elsewhere w address gives (others address gives))
        ∙ known.cells cell was ∙ sym (λ i. since (here i) (was i) x.0 (got_since settings older cell))

    cells_kept : number_in after.cells (cell / 4) ≡ got_since settings (x ∷ older) cell
    cells_kept =
        ∥∥₁_elim b.held.sound (hlevel props)
        (λ sound.
        let w = subst (IsWellFormed (settings_of b)) storage_was sound.well_formed in
        cell_known w (law (settings_of b) full before now service reply b.held.valid w service_steps cell here))

  -- ---- the task that it began

  module _ (law : TaskIsInTheReply) (begun : IsTaskBegun reply x.0 (number_in c.births) (number_in after.births)) (task : ℕ) (here : is_task now task ≡ true) where
    low_number : task < 2 ^ 32
    low_number = low_task d task (ap (λ s. is_task s task) storage_is ∙ here)

    task_known : ((reply ≡ Attached task) × (is_task before task ≡ false))
        ⊎ (is_task before task ≡ true) × ((other : ℕ) → reply ≡ Attached other → other ≢ task) →
        number_in after.births task ≡ began_since settings (x ∷ older) task
    task_known (inl (gives, was)) =
        is_put x.0 (number_in c.births) (number_in after.births) task low_number task (subst (λ r. IsTaskBegun r x.0 (number_in c.births) (number_in after.births)) gives begun) refl
        ∙ sym (λ i. since (here i) (was i) x.0 (began_since settings older task))
    task_known (inr (was, others)) =
        task_stays x.0 (number_in c.births) (number_in after.births) task low_number reply begun (λ other gives same. others other gives (sym same))
        ∙ known.births task was ∙ sym (λ i. since (here i) (was i) x.0 (began_since settings older task))

    births_kept : number_in after.births task ≡ began_since settings (x ∷ older) task
    births_kept =
        ∥∥₁_elim b.held.sound (hlevel props)
        (λ sound.
        let w = subst (IsWellFormed (settings_of b)) storage_was sound.well_formed in
        task_known (law (settings_of b) full before now service reply b.held.valid w service_steps task here))

  -- ---- all of it

  pub carries_more : TakenByTheReply → CellIsInTheReply → TaskIsInTheReply → (runs : List (ℕ × ℕ)) (current : ℕ) →
      runs ≡ taken_by reply (taken_when (is_get x.1) c.bench) (taken_when (is_get x.1) after.bench) →
      ((k : ℕ) → k < 2 ^ 32 → number_in after.lines k ≡ (if is_in k runs then Some x.0 else number_in c.lines k)) →
      IsCellTaken reply x.0 (number_in c.cells) (number_in after.cells) →
      IsTaskBegun reply x.0 (number_in c.births) (number_in after.births) →
      current ≡ (state_of b).current → IsPutAt x.0 current (number_in c.askers) (number_in after.askers) →
      IsCarried settings (x ∷ older) after
  carries_more takes cells tasks runs current runs_taken took taken begun was_current put = record {
    present = present_is;
    under = under ∙ known.under;
    lines = lines_kept runs (runs_taken ∙ runs_are takes) took;
    cells = λ cell here. cells_kept cells taken cell here;
    askers = λ line low.
        put line low ∙ (λ i. if line == x.0 then Some ((was_current ∙ ap (λ (s : State). s.current) storage_was) i) else known.askers line low i);
    births = λ task here. births_kept tasks begun task here;
  }
