-- What is made for the pages of a run, next to calls that make nothing.
use Rattle.std.proofs.Common.{◌≡◌, ℕ, ap, arith}
use Rattle.raw_region.specs.Pages.{Pages, has_table}
use Rattle.raw_region.proofs.ForCallers.{made-none, made-before}
use Rattle.run_set.specs.Runs.{Run}
use Rattle.storage_swap.specs.Growth.{MakesForPages}

-- nothing is made if as many frames are there, and the same tables
pub pages-none : (p t : Pages) (run : Run) → t.made ≡ p.made → ((page : ℕ) → has_table t page ≡ has_table p page) → MakesForPages p t run
pages-none p t run made same = record { frames = omega (arith, made); tables = made-none p t run.start run.len same }

pub pages-stay : (p t : Pages) (run : Run) → t ≡ p → MakesForPages p t run
pages-stay p t run e = pages-none p t run (ap (λ (z : Pages). z.made) e) (λ page. ap (λ (z : Pages). has_table z page) e)

pub pages-still : (p m t : Pages) (run : Run) → MakesForPages p m run → t.made ≡ m.made → ((page : ℕ) → has_table t page ≡ has_table m page) → MakesForPages p t run
pages-still p m t run h made same = record {
  frames = omega (arith, h.frames, made);
  tables = made-before p m t run.start run.len h.tables same;
}
