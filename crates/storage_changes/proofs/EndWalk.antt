-- Records that lead from one state to another, whatever is parked, with a blank element left.
use Rattle.std.proofs.Common.{◌≡◌, ℕ, ◌≤◌, List, [], ◌∷◌, ◌++◌, None, IsSome, refl, sym, ap, subst}
use Rattle.storage_changes.specs.declared.record.Record.{Record}
use Rattle.storage_changes.specs.State.{StorageState}
use Rattle.storage_changes.specs.Walk.{Walk}
use Rattle.storage_changes.specs.Steps.{step, walk}
use Rattle.storage_changes.specs.Fits.{Fits, FitInTurn}
use Rattle.storage_changes.specs.StorageActions.{register_records}
use Rattle.storage_changes.specs.Leads.{AreRegisters}
use Rattle.storage_changes.proofs.Goes.{walk_on, fits_on}
use Rattle.storage_changes.proofs.Rows.{with_rows, rows_fit, rows_walk}

-- no frame is yet to be brought, and there is a blank element
pub record Rests (w : Walk) (m : StorageState) : Type 0 where
  pub state : w.state ≡ m
  pub none_brought : (a : ℕ) → w.brought a ≡ None
  pub spare : 1 ≤ w.spare

-- the records fit, and lead there
pub record Comes (w : Walk) (rs : List Record) (m : StorageState) : Type 0 where
  pub fits : FitInTurn w rs
  pub rests : Rests (walk w rs) m

-- at this state
abbrev pub with_state : Walk → StorageState → Walk
with_state w m = record w { state = m }

-- from each walk that rests at a state they lead to another
abbrev pub LeadsOn : StorageState → List Record → StorageState → Type 0
LeadsOn m rs n = (w : Walk) → Rests w m → Comes (with_state w m) rs n

pub comes_on : (w : Walk) (rs ss : List Record) (m n : StorageState) → Comes w rs m → LeadsOn m ss n → Comes w (rs ++ ss) n
comes_on w rs ss m n first behind =
    let next = behind (walk w rs) first.rests in
    let there : with_state (walk w rs) m ≡ walk w rs = ap (with_state (walk w rs)) (sym first.rests.state) in
    let P : Walk → Type 0 = λ v. Comes v ss n in
    let later : Comes (walk w rs) ss n = subst P there next in
    record {
      fits = fits_on w rs ss first.fits later.fits;
      rests = let Q : Walk → Type 0 = λ v. Rests v n in subst Q (sym (walk_on w rs ss)) later.rests;
    }

pub leads_then : (m n o : StorageState) (rs ss : List Record) → LeadsOn m rs n → LeadsOn n ss o → LeadsOn m (rs ++ ss) o
leads_then m n o rs ss first behind w rests = comes_on (with_state w m) rs ss n o (first w rests) behind

pub leads_nowhere : (m : StorageState) → LeadsOn m [] m
leads_nowhere m w rests = record { fits = tt; rests = record { state = refl; none_brought = rests.none_brought; spare = rests.spare } }

-- one record that others follow
pub leads_first : (m n o : StorageState) (r : Record) (rs : List Record)
    → ((w : Walk) → Rests w m → Fits (with_state w m) r × Rests (step (with_state w m) r) n) → LeadsOn n rs o → LeadsOn m (r ∷ rs) o
leads_first m n o r rs one behind w rests =
    let (fits, next) = one w rests in
    let later = behind (step (with_state w m) r) next in
    let there : with_state (step (with_state w m) r) n ≡ step (with_state w m) r = ap (with_state (step (with_state w m) r)) (sym next.state) in
    let P : Walk → Type 0 = λ v. Comes v rs o in
    let rest : Comes (step (with_state w m) r) rs o = subst P there later in
    record { fits = (fits, rest.fits); rests = rest.rests }

-- registers of the current task are set after them
pub rows_then : (w : Walk) (rs : List Record) (n : StorageState) (rows : List (ℕ × ℕ)) → IsSome (n.tasks.parents n.tasks.current) → AreRegisters rows
    → Comes w rs n → Comes w (rs ++ register_records n rows) (with_rows n rows)
rows_then w rs n rows task are comes = comes_on w rs (register_records n rows) n (with_rows n rows) comes (λ v rests. record {
  fits = rows_fit (with_state v n) rows task are;
  rests =
      let P : Walk → Type 0 = λ u. Rests u (with_rows n rows) in
      subst P (sym (rows_walk (with_state v n) rows)) (record { state = refl; none_brought = rests.none_brought; spare = rests.spare });
})
