-- How much is made if something has to grow.
use Rattle.std.specs.Prelude.{ℕ, ◌+◌, ◌-◌, ◌≤◌, max}
use Rattle.vsm_elements.specs.Store.{Store, made, live_count}
use Rattle.raw_region.specs.Pages.{Pages, MakesTables}
use Rattle.run_set.specs.Runs.{Run}

-- For n elements at most a block is made beyond what these and the live ones need, or no more than before.
abbrev pub MakesElements : Store → Store → ℕ → Type 0
MakesElements old new n = made new ≤ max (made old) (live_count old + n + 128)

-- For the pages of a run no more frames are made than one for each and those that weren't spare, or no more than
-- before, and a table only for each of their segments.
pub record MakesForPages (old new : Pages) (run : Run) : Type 0 where
  pub frames : new.made ≤ max old.made (old.made - old.spare + run.len)
  pub tables : MakesTables old new run.start run.len
