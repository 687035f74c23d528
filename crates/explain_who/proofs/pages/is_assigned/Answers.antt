use Rattle.std.proofs.Common.{sym, ◌∙◌}
use Rattle.storage_core.specs.Meaning.{settings_of, state_in_place, state_of}
use Rattle.explain_who.proofs.AssignedPages.{assigned_with_bytes, loaded, not_loaded}
use Rattle.explain_who.proofs.pages.is_assigned.Goals as goal

pub returns-in-Ok : goal.returns-in-Ok
returns-in-Ok c =
    let s = c.args.storage.now in
    sym (loaded (state_of s) c.args.address c.load.new.out c.in-Ok.ensures.ok) ∙ assigned_with_bytes (settings_of s) (state_in_place s) s.held.sound c.args.address

pub returns-in-Err : goal.returns-in-Err
returns-in-Err c =
    let s = c.args.storage.now in
    sym (not_loaded (state_of s) c.args.address c.in-Err.ensures.err) ∙ assigned_with_bytes (settings_of s) (state_in_place s) s.held.sound c.args.address
