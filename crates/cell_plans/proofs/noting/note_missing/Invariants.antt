use Rattle.std.proofs.Common.{◌≡◌, ℕ, ◌+◌, ◌-◌, ◌≤◌, ◌||◌}
use Rattle.vsm_elements.specs.Ownership.{Leaves}
use Rattle.run_set.specs.Runs.{inside}
use Rattle.free_queue.specs.FreeQueue.{is_free, owned, IsFreeQueue}
use Rattle.storage_changes.specs.StorageActions.{run_of}
use Rattle.cell_plans.proofs.noting.note_missing.Given as goal

abbrev pub invariant-loop-doubleword : goal.invariant-loop-doubleword
invariant-loop-doubleword l =
    let start = l.fn.area.start in
    record {
      queue : IsFreeQueue l.elements l.noted;
      set : (d : ℕ) → is_free l.elements l.noted d ≡ (inside d (run_of start (l.doubleword - start)) || is_free l.fn.elements l.fn.noted d);
      leaves : Leaves l.fn.elements l.elements (owned l.fn.elements l.fn.noted) (owned l.elements l.noted);
      spares : l.fn.elements.spare ≤ l.elements.spare + 1;
      first : l.doubleword ≡ start → l.elements.spare ≡ l.fn.elements.spare;
      from : start ≤ l.doubleword;
      within : l.doubleword ≤ start + l.fn.area.len;
    }
