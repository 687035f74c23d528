-- Between two sound states, the pages that become assigned are exactly those that the plain machine newly assigns.
use Rattle.std.specs.Prelude.{◌≡◌, ℕ, true, false, not, ◌&&◌, is_some}
use Rattle.run_set.specs.Runs.{Run, inside}
use Rattle.vsm_model.specs.declared.limits.Settings.{Settings}
use Rattle.storage_changes.specs.State.{StorageState}
use Rattle.storage_changes.specs.Meaning.{model_of, IsSound}

abbrev pub FreshIsNew : Type 0
FreshIsNew = (settings : Settings) (m n : StorageState) (run : Run) → IsSound settings m → IsSound settings n
    → ((page : ℕ) → inside page run ≡ true → m.unassigned page ≡ true)
    → ((page : ℕ) → inside page run ≡ true → n.unassigned page ≡ false)
    → ((page : ℕ) → m.unassigned page ≡ true → n.unassigned page ≡ false → inside page run ≡ true)
    → (page : ℕ) → inside page run
    ≡ (not (is_some ((model_of m).pages page)) && is_some ((model_of n).pages page))
