-- There is memory for a plan if there is memory for the state that the plain machine reaches.
use Rattle.std.proofs.Common.{ℕ, Option, Some, None, IsSome, IfSome, List}
use Rattle.vsm_model.specs.Names.{word_of}
use Rattle.macro_statements.specs.Requests.{Act}
use Rattle.vsm_machine.specs.declared.names.NameTable.{NameTable}
use Rattle.vsm_machine.specs.NameChanges.{NameStep, define, undefine, reword}
use Rattle.vsm_machine.specs.NameTable.{rows_of, HasRoom}
use Rattle.vsm_machine.proofs.TableRows.{last-stands}
use Rattle.storage_changes.specs.Fresh.{FreshIsNew}
use Rattle.vsm_machine.proofs.FreshLemmas.{plan_assigns, zero_is_free}
use Rattle.vsm_machine.specs.Meaning.{state_in_place, settings_of}
use Rattle.vsm_machine.specs.NameSteps.{stepped_by}
use Rattle.vsm_machine.specs.declared.machine.Machine.{Machine}
use Rattle.vsm_machine.specs.declared.plans.Planned.{Planned}
use Rattle.vsm_machine.specs.Changes.{named_of, overlay, shown}
use Rattle.vsm_machine.specs.Planned.{defined_by, difference_in, fresh_pages, reply_of, step_planned, CanCarryOut}
use Rattle.vsm_machine.specs.Supplies.{HasMemoryFor, IsSupplied, NeedsNoMore}
use Rattle.bench_core.proofs.Accepted.{accepted_of, fits_of}

-- a name that a step defines is one after it
room_for : (t : NameTable) (names : List (List ℕ × ℕ)) (step : Option NameStep)
    → ((name : List ℕ) → IsSome (word_of (stepped_by names step) name) → HasRoom t name) → IfSome (defined_by step) (HasRoom t)
room_for t names None room = tt
room_for t names (Some (define place name word)) room = room name (last-stands names name word)
room_for t names (Some undefine) room = tt
room_for t names (Some (reword place word)) room = tt

pub needs_no_more : FreshIsNew → (s : Machine) (x : Act) (p : Planned) → CanCarryOut (shown s) x p → IsSupplied s x → NeedsNoMore s p
needs_no_more fresh_is_new s x p h supplied =
    let free = zero_is_free s.storage p.plan in
    let next = named_of (overlay (shown s) (difference_in (shown s) 0 p)) in
    let memory : HasMemoryFor s next = supplied.next next (reply_of p.plan) (accepted_of (shown s) x p h 0 free) in
    let fits = fits_of (shown s) x p h 0 free in
    record {
      named = room_for s.names (rows_of s.names) (step_planned p) memory.names;
      pages =
          memory.pages (fresh_pages p.plan)
          (plan_assigns fresh_is_new (settings_of s.storage) (state_in_place s.storage) p.plan 0 h.can (h.assigned 0) (h.only 0 free) fits.before fits.after);
    }
