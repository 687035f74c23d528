-- What is made for a change, and what is no longer made once it exists.
use Rattle.std.proofs.Common.{ℕ, ◌≤◌, refl, ◌∙◌, arith}
use Rattle.run_set.specs.Runs.{Run}
use Rattle.storage_swap.specs.declared.storage.Parts.{Parts}
use Rattle.storage_swap.specs.declared.change.Change.{Change}
use Rattle.storage_swap.specs.Swap.{Swaps, Discards}
use Rattle.storage_swap.proofs.GrowthLemmas.{pages-still}
use Rattle.storage_core.specs.Memory.{MakesNone, Makes}

pub makes_more : (p t : Parts) (n most : ℕ) (run : Run) → n ≤ most → Makes p t n run → Makes p t most run
makes_more p t n most run within m = record { elements = omega (arith, within, m.elements); pages = m.pages }

pub makes_still : (p t u : Parts) (n : ℕ) (run : Run) → Makes p t n run → MakesNone t u → Makes p u n run
makes_still p t u n run m none = record {
  elements = omega (arith, m.elements, none.elements);
  pages = pages-still p.region t.region u.region run m.pages none.frames none.tables;
}

pub none_made : (p : Parts) → MakesNone p p
none_made p = record { elements = refl; frames = refl; tables = λ page. refl }

pub none_follow : (p t u : Parts) → MakesNone p t → MakesNone t u → MakesNone p u
none_follow p t u a b = record { elements = b.elements ∙ a.elements; frames = b.frames ∙ a.frames; tables = λ page. b.tables page ∙ a.tables page }

pub none_swapped : (p t : Parts) (c d : Change) → Swaps p c t d → MakesNone p t
none_swapped p t c d s = record { elements = s.as_many; frames = s.frames.made; tables = s.tables.tables }

pub none_discarded : (p t : Parts) (c : Change) → Discards p c t → MakesNone p t
none_discarded p t c d = record { elements = d.as_many; frames = d.made; tables = d.tables.tables }
