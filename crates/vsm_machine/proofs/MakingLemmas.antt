-- What is made for a statement.
use Rattle.std.proofs.Common.{inl, ◌≡◌, ◌+◌, ◌*◌, List, [], ◌∷◌, refl, subst, sym, ap, ◌∙◌, arith}
use Rattle.storage_swap.proofs.GrowthLemmas.{pages-stay}
use Rattle.storage_core.proofs.Making.{makes_more, makes_still, none_made, none_follow, none_swapped, none_discarded}
use Rattle.storage_core.specs.Memory.{Makes, MakesNone}
use Rattle.step_history.specs.Walk.{DiscardsAll}
use Rattle.macro_statements.specs.Requests.{Act}
use Rattle.vsm_machine.specs.declared.machine.Machine.{Machine}
use Rattle.vsm_machine.specs.declared.machine.MachineChange.{MachineChange}
use Rattle.vsm_machine.specs.declared.plans.Planned.{Planned}
use Rattle.vsm_machine.specs.Changes.{shown, Swaps, Discards}
use Rattle.vsm_machine.specs.NameTable.{names_of, GetsOnly}
use Rattle.vsm_machine.proofs.TableRows.{knows-same}
use Rattle.vsm_machine.specs.Planned.{defined_by, elements_needed, fresh_pages, step_planned, weight_asked, CanCarryOut}
use Rattle.vsm_machine.specs.Supplies.{MakesFor}

-- discarded changes make nothing
discards_make : (cs : List MachineChange) (s t : Machine) → DiscardsAll Discards cs s t → MakesNone s.storage.parts t.storage.parts
discards_make [] s t e = let P : Machine → Type 0 = λ u. MakesNone s.storage.parts u.storage.parts in subst P (sym e) (none_made s.storage.parts)
discards_make (c ∷ cs) s t (m, all, one) =
    none_follow s.storage.parts m.storage.parts t.storage.parts (discards_make cs s m all) (none_discarded m.storage.parts t.storage.parts c.storage one.storage)

-- nor do they change the table of names
discards_names : (cs : List MachineChange) (s t : Machine) → DiscardsAll Discards cs s t → t.names ≡ s.names
discards_names [] s t e = ap (λ (m : Machine). m.names) e
discards_names (c ∷ cs) s t (m, all, one) = one.names ∙ discards_names cs s m all

-- what was made for the change of a plan is all, once it's exchanged and others are discarded
pub makes_in_all : (m r t u : Machine) (x : Act) (p : Planned) (c d : MachineChange) (cs : List MachineChange) → CanCarryOut (shown m) x p
    → Makes m.storage.parts r.storage.parts (elements_needed (shown m).storage p.plan) (fresh_pages p.plan) → GetsOnly m.names r.names (defined_by (step_planned p))
    → Swaps r c t d → DiscardsAll Discards cs t u → MakesFor m x p u
makes_in_all m r t u x p c d cs can made gets swaps all = record {
  storage =
      makes_still m.storage.parts r.storage.parts u.storage.parts (32 + 8 * weight_asked (shown m) x) (fresh_pages p.plan)
      (makes_more m.storage.parts r.storage.parts (elements_needed (shown m).storage p.plan) (32 + 8 * weight_asked (shown m) x) (fresh_pages p.plan) can.light made)
      (none_follow r.storage.parts t.storage.parts u.storage.parts (none_swapped r.storage.parts t.storage.parts c.storage d.storage swaps.storage) (discards_make cs t u all));
  names = λ name h. gets name (sym (knows-same r.names u.names (ap names_of (discards_names cs t u all) ∙ swaps.same) name) ∙ h);
}

-- nothing was made yet
pub made_none : (m : Machine) (x : Act) (p : Planned) → MakesFor m x p m
made_none m x p = record {
  storage = record { elements = omega arith; pages = pages-stay m.storage.parts.region m.storage.parts.region (fresh_pages p.plan) refl };
  names = λ name h. inl h;
}

-- for one that is refused because memory runs out, it's what was made before that
pub makes_wanting : (m r : Machine) (x : Act) (p : Planned) → CanCarryOut (shown m) x p
    → Makes m.storage.parts r.storage.parts (elements_needed (shown m).storage p.plan) (fresh_pages p.plan) → GetsOnly m.names r.names (defined_by (step_planned p)) → MakesFor m x p r
makes_wanting m r x p can made gets = record {
  storage = makes_more m.storage.parts r.storage.parts (elements_needed (shown m).storage p.plan) (32 + 8 * weight_asked (shown m) x) (fresh_pages p.plan) can.light made;
  names = gets;
}
