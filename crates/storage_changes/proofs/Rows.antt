-- Registers that are set, and what a change whose last records set them leads to.
use Rattle.std.proofs.Common.{◌≡◌, ◌≢◌, ℕ, suc, ◌≤◌, Bool, true, false, not, ◌&&◌, ◌==◌, if◌then◌else◌, List, [], ◌∷◌, ◌++◌, length, map, Option, Some, None, IsSome, is_some, refl, sym, ◌∙◌, ap, arith, subst}
use Rattle.std.specs.Prelude.{◌/◌}
use Rattle.std.proofs.lemmas.Bool.{and_parts, cond-false, eq-eqb, eqb-true, ne_eqb}
use Rattle.std.proofs.lemmas.List.{append_assoc, length-map}
use Rattle.run_set.specs.Runs.{Run, inside}
use Rattle.vsm_model.specs.declared.Subpool.{Subpool}
use Rattle.vsm_model.specs.declared.limits.Settings.{Settings}
use Rattle.vsm_model.specs.Regions.{in_a_region}
use Rattle.vsm_model.specs.State.{State}
use Rattle.vsm_model.specs.Registers.{with_registers}
use Rattle.vsm_model.specs.WellFormed.{IsWellFormed}
use Rattle.subpool_storage.specs.Subpools.{Subpools}
use Rattle.storage_changes.specs.declared.record.Record.{Record}
use Rattle.storage_changes.specs.State.{StorageState}
use Rattle.storage_changes.specs.Walk.{Walk}
use Rattle.storage_changes.specs.Steps.{walk}
use Rattle.storage_changes.specs.Fits.{FitInTurn}
use Rattle.storage_changes.specs.Changes.{Change, outset, arrival, overlay}
use Rattle.storage_changes.specs.Meaning.{model_of, subpool_of, IsSound}
use Rattle.storage_changes.specs.StorageActions.{register_record, register_records, run_of, set_records}
use Rattle.storage_changes.specs.Changes.{change_of}
use Rattle.storage_changes.specs.Leads.{Leads, AreRegisters}
use Rattle.storage_changes.specs.StorageLaws.{SettingLeads}
use Rattle.storage_changes.proofs.ActionCases.{inside_in, not_inside}
use Rattle.storage_changes.proofs.Goes.{at, Goes}

-- the state once the registers of the current task have these words
abbrev pub with_word : StorageState → ℕ → ℕ → StorageState
with_word m register word =
    record m {
      tasks = record m.tasks {
        words = λ t r. if (t == m.tasks.current) && (r == register) then word else m.tasks.words t r;
      };
    }

abbrev pub with_rows : StorageState → List (ℕ × ℕ) → StorageState
with_rows m [] = m
with_rows m (row ∷ rows) = with_rows (with_word m row.0 row.1) rows

-- a register that has the word already
with_its_word : (m : StorageState) (register word : ℕ) → m.tasks.words m.tasks.current register ≡ word → with_word m register word ≡ m
with_its_word m register word e = λ i. record m { tasks = record m.tasks { words = λ t r. same t r ((t == m.tasks.current) && (r == register)) refl i } } where
  same : (t r : ℕ) (b : Bool) → ((t == m.tasks.current) && (r == register)) ≡ b → (if b then word else m.tasks.words t r) ≡ m.tasks.words t r
  same t r false e2 = refl
  same t r true e2 =
      let both = and_parts (t == m.tasks.current) (r == register) e2 in
      sym e ∙ λ i. m.tasks.words (sym (eqb-true t m.tasks.current both.0) i) (sym (eqb-true r register both.1) i)

-- on any walk a record for each register fits, and they set only the registers,
each_fit : (w : Walk) (rows : List (ℕ × ℕ)) → IsSome (w.state.tasks.parents w.state.tasks.current) → AreRegisters rows
    → FitInTurn w (map (register_record w.state.tasks.current) rows)
each_fit w [] task are = tt
each_fit w (row ∷ rows) task are = (
  record { task = task; register = are 0 row (omega arith) },
  each_fit (record w { state = with_word w.state row.0 row.1 }) rows task (λ j d below. are (suc j) d (omega (arith, below))),
)

each_walk : (w : Walk) (rows : List (ℕ × ℕ)) → walk w (map (register_record w.state.tasks.current) rows) ≡ record w { state = with_rows w.state rows }
each_walk w [] = refl
each_walk w (row ∷ rows) = each_walk (record w { state = with_word w.state row.0 row.1 }) rows

-- and so without one for the first, if it has its word
pub rows_fit : (w : Walk) (rows : List (ℕ × ℕ)) → IsSome (w.state.tasks.parents w.state.tasks.current) → AreRegisters rows → FitInTurn w (register_records w.state rows)
rows_fit w [] task are = tt
rows_fit w (row ∷ rows) task are = go (w.state.tasks.words w.state.tasks.current row.0 == row.1) where
  go : (b : Bool) → FitInTurn w ((if b then [] else register_record w.state.tasks.current row ∷ []) ++ map (register_record w.state.tasks.current) rows)
  go true = each_fit w rows task (λ j d below. are (suc j) d (omega (arith, below)))
  go false = each_fit w (row ∷ rows) task are

pub rows_walk : (w : Walk) (rows : List (ℕ × ℕ)) → walk w (register_records w.state rows) ≡ record w { state = with_rows w.state rows }
rows_walk w [] = refl
rows_walk w (row ∷ rows) = go (w.state.tasks.words w.state.tasks.current row.0 == row.1) refl where
  go : (b : Bool) → (w.state.tasks.words w.state.tasks.current row.0 == row.1) ≡ b
      → walk w ((if b then [] else register_record w.state.tasks.current row ∷ []) ++ map (register_record w.state.tasks.current) rows) ≡ record w { state = with_rows w.state (row ∷ rows) }
  go true e =
      let is = eqb-true (w.state.tasks.words w.state.tasks.current row.0) row.1 e in
      each_walk w rows ∙ ap (λ (m : StorageState). record w { state = with_rows m rows }) (sym (with_its_word w.state row.0 row.1 is))
  go false e = each_walk w (row ∷ rows)

-- The records of another state are the same, if it has the same words of the same current task.
pub same_rows : (m n : StorageState) (rows : List (ℕ × ℕ)) → n.tasks.current ≡ m.tasks.current
    → ((r : ℕ) → n.tasks.words m.tasks.current r ≡ m.tasks.words m.tasks.current r) → register_records n rows ≡ register_records m rows
same_rows m n rows current words =
    ap (λ c. set_records c (n.tasks.words c) rows) current ∙ (λ i. set_records m.tasks.current (λ r. words r i) rows)

-- a return code that register 15 has, or gets
pub code_stays : (task : ℕ) (words : ℕ → ℕ) (code : ℕ) → words 15 ≡ code → set_records task words ((15, code) ∷ []) ≡ []
code_stays task words code e = ap (λ b. (if b then [] else register_record task (15, code) ∷ []) ++ []) (eq-eqb (words 15) code e)

pub code_changes : (task : ℕ) (words : ℕ → ℕ) (code : ℕ) → words 15 ≢ code → set_records task words ((15, code) ∷ []) ≡ register_record task (15, code) ∷ []
code_changes task words code e = ap (λ b. (if b then [] else register_record task (15, code) ∷ []) ++ []) (ne_eqb (words 15) code e)

-- after the first register each has a record
pub rows_behind : (task : ℕ) (words : ℕ → ℕ) (row : ℕ × ℕ) (rows : List (ℕ × ℕ))
    → set_records task words (row ∷ []) ++ map (register_record task) rows ≡ set_records task words (row ∷ rows)
rows_behind task words row rows = append_assoc (if words row.0 == row.1 then [] else register_record task row ∷ []) [] (map (register_record task) rows)

pub few_records : (task : ℕ) (words : ℕ → ℕ) (row : ℕ × ℕ) (rows : List (ℕ × ℕ)) → length (set_records task words (row ∷ rows)) ≤ suc (length rows)
few_records task words row rows = go (words row.0 == row.1) where
  go : (b : Bool) → length ((if b then [] else register_record task row ∷ []) ++ map (register_record task) rows) ≤ suc (length rows)
  go true = omega (arith, length-map rows (register_record task))
  go false = omega (arith, length-map rows (register_record task))

goes_walked :
    (m n : StorageState) (b g : ℕ → Option ℕ) (s left : ℕ) (rs : List Record) → FitInTurn (at m b g s) rs → walk (at m b g s) rs ≡ at n b g s → left ≤ s
    → Goes (at m b g s) rs n b g left
goes_walked m n b g s left rs fits walks less = record {
  fits = fits;
  there = walks ∙ ap (λ (v : Walk). at n b g v.spare) (sym walks);
  spare = let P : Walk → Type 0 = λ v. left ≤ v.spare in subst P (sym walks) less;
}

pub each_goes :
    (m : StorageState) (b g : ℕ → Option ℕ) (s left : ℕ) (rows : List (ℕ × ℕ)) → IsSome (m.tasks.parents m.tasks.current) → AreRegisters rows → left ≤ s
    → Goes (at m b g s) (map (register_record m.tasks.current) rows) (with_rows m rows) b g left
each_goes m b g s left rows task are =
    goes_walked m (with_rows m rows) b g s left (map (register_record m.tasks.current) rows) (each_fit (at m b g s) rows task are) (each_walk (at m b g s) rows)

pub rows_go :
    (m : StorageState) (b g : ℕ → Option ℕ) (s left : ℕ) (rows : List (ℕ × ℕ)) → IsSome (m.tasks.parents m.tasks.current) → AreRegisters rows → left ≤ s
    → Goes (at m b g s) (register_records m rows) (with_rows m rows) b g left
rows_go m b g s left rows task are =
    goes_walked m (with_rows m rows) b g s left (register_records m rows) (rows_fit (at m b g s) rows task are) (rows_walk (at m b g s) rows)

rows_lead : (m : StorageState) (rows : List (ℕ × ℕ)) → model_of (with_rows m rows) ≡ with_registers (model_of m) rows
rows_lead m [] = refl
rows_lead m (row ∷ rows) = rows_lead (with_word m row.0 row.1) rows

-- what a sound storage has in addition to a well-formed state on the plain machine
pub record Stands (settings : Settings) (u : Subpools) (unassigned : ℕ → Bool) : Type 0 where
  pub apart : (p q : Subpool) (page : ℕ) → u.pages p page ≡ true → u.pages q page ≡ true → p ≡ q
  pub named : (p : Subpool) (page : ℕ) → u.pages p page ≡ true → subpool_of u page ≡ Some p
  pub rest : (page : ℕ) → unassigned page ≡ (in_a_region settings page && not (is_some (subpool_of u page)))
  pub free : (p : Subpool) (d : ℕ) → u.free p d ≡ true → u.pages p (d / 512) ≡ true

pub stands_of : (settings : Settings) (m : StorageState) → IsSound settings m → Stands settings m.subpools m.unassigned
stands_of settings m h = record { apart = h.apart; named = h.named; rest = h.rest; free = h.free }

rows_stand : (settings : Settings) (m : StorageState) (rows : List (ℕ × ℕ)) → Stands settings m.subpools m.unassigned
    → Stands settings (with_rows m rows).subpools (with_rows m rows).unassigned
rows_stand settings m [] h = h
rows_stand settings m (row ∷ rows) h = rows_stand settings (with_word m row.0 row.1) rows h

-- the current task exists
pub task_is_there : (settings : Settings) (m : StorageState) → IsSound settings m → IsSome (m.tasks.parents m.tasks.current)
task_is_there settings m h = h.well_formed.tasks.current_is_task

sound_of : (settings : Settings) (m : StorageState) → Stands settings m.subpools m.unassigned → IsWellFormed settings (model_of m) → IsSound settings m
sound_of settings m h w = record { apart = h.apart; named = h.named; rest = h.rest; free = h.free; well_formed = w }

pub fresh_of : (m : StorageState) (fresh : Run) (a : ℕ) (b : Bool) → inside (a / 4096) fresh ≡ b → (inside (a / 4096) fresh ≡ true → m.unassigned (a / 4096) ≡ true)
    → IsSome {T = ℕ} (if b then Some 0 else None) → m.unassigned (a / 4096) ≡ true
fresh_of m fresh a true e h s = h e
fresh_of m fresh a false e h s = cc

-- a change whose last records set registers leads to what the others lead to, with the registers set
pub leads_to :
    (settings : Settings) (m n : StorageState) (d : Change) (rows : List (ℕ × ℕ)) (s : State) → FitInTurn (outset m d) d.records
    → overlay m d ≡ with_rows n rows → ((a : ℕ) → (arrival m d).brought a ≡ None) → ((a : ℕ) → IsSome (d.frames a) → m.unassigned (a / 4096) ≡ true)
    → Stands settings n.subpools n.unassigned → model_of n ≡ s → IsWellFormed settings (with_registers s rows) → Leads settings m d (with_registers s rows)
leads_to settings m n d rows s fits there none fresh stands leads formed =
    let model : model_of (with_rows n rows) ≡ with_registers s rows = rows_lead n rows ∙ ap (λ t. with_registers t rows) leads in
    let sound : IsSound settings (with_rows n rows) = sound_of settings (with_rows n rows) (rows_stand settings n rows stands) (subst (IsWellFormed settings) (sym model) formed) in
    record {
      fits = record { in_turn = fits; fresh = fresh; brought = none };
      sound = subst (IsSound settings) (sym there) sound;
      leads = ap model_of there ∙ model;
    }

-- a change of these records and new frames, if they lead there
pub leads_with_rows :
    (settings : Settings) (m n : StorageState) (records : List Record) (blanks : ℕ) (fresh : Run) (b g : ℕ → Option ℕ) (left : ℕ) (rows : List (ℕ × ℕ))
    (s : State) → Goes (outset m (change_of records blanks fresh)) records (with_rows n rows) b g left → ((a : ℕ) → b a ≡ None)
    → ((k : ℕ) → inside k fresh ≡ true → m.unassigned k ≡ true) → Stands settings n.subpools n.unassigned → model_of n ≡ s
    → IsWellFormed settings (with_registers s rows) → Leads settings m (change_of records blanks fresh) (with_registers s rows)
leads_with_rows settings m n records blanks fresh b g left rows s go none new stands leads formed =
    leads_to settings m n (change_of records blanks fresh) rows s go.fits (ap (λ v. v.state) go.there) (λ a. ap (λ v. v.brought a) go.there ∙ none a)
    (λ a. fresh_of m fresh a (inside (a / 4096) fresh) refl (new (a / 4096))) stands leads formed

-- no page is in an empty run
pub none_fresh : (m : StorageState) (k : ℕ) → inside k (run_of 0 0) ≡ true → m.unassigned k ≡ true
none_fresh m k e = let at = inside_in 0 0 k e in absurd (omega (arith, at.1))

-- and brings no frame
pub none_brought : (a : ℕ) → ◌≡◌ {A = Option ℕ} (if inside (a / 4096) (run_of 0 0) then Some 0 else None) None
none_brought a = cond-false (inside (a / 4096) (run_of 0 0)) (Some 0) None (not_inside 0 0 (a / 4096) (λ low high. omega (arith, high)))

pub setting_leads : SettingLeads
setting_leads settings m rows sound are formed =
    let d = change_of (register_records m rows) 0 (run_of 0 0) in
    leads_with_rows settings m m (register_records m rows) 0 (run_of 0 0) d.frames (λ a. None) 0 rows (model_of m)
    (rows_go m d.frames (λ a. None) 0 0 rows (task_is_there settings m sound) are (omega arith))
    none_brought (none_fresh m) (stands_of settings m sound) refl formed
