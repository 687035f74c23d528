use Rattle.std.proofs.Common.{◌∙◌}
use Rattle.storage_core.specs.Meaning.{settings_of, state_of}
use Rattle.explain_why.proofs.Asked.{has_room, room_refused}
use Rattle.explain_why.proofs.obstacles.lacks_room.Goals as goal

pub returns-in-Ok : goal.returns-in-Ok
returns-in-Ok c =
    let s = c.args.storage.now in
    has_room (settings_of s) (state_of s) c.args.o c.in-Ok.ensures.accepts

pub returns-in-Err : goal.returns-in-Err
returns-in-Err c =
    let s = c.args.storage.now in
    c.is_no_storage.ensures ∙ room_refused (settings_of s) (state_of s) c.args.o c.in-Err.cause c.in-Err.ensures
