-- That elements hold extents, or unassigned pages, has at most one proof.
use Rattle.vsm_elements.specs.Store.{Store}
use Rattle.run_set.specs.Props.{IsRunSet-prop}
use Rattle.descriptor_queue.specs.declared.extents.Extents.{Extents}
use Rattle.descriptor_queue.specs.declared.pages.Pages.{Pages}
use Rattle.descriptor_queue.specs.Extents.{IsExtents}
use Rattle.descriptor_queue.specs.Pages.{IsPages}

pub IsExtents-prop : (s : Store) (q : Extents) → IsProp (IsExtents s q)
IsExtents-prop s q = IsRunSet-prop s q.set

pub IsPages-prop : (s : Store) (q : Pages) → IsProp (IsPages s q)
IsPages-prop s q = IsRunSet-prop s q.set
