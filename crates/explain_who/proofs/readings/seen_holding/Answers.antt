use Rattle.std.proofs.Common.{ap, ◌∙◌}
use Rattle.explain_who.specs.Readings.{holding_owned}
use Rattle.storage_core.specs.Meaning.{settings_of, state_of}
use Rattle.explain_who.proofs.readings.seen_holding.Goals as goal

pub returns-in-Some : goal.returns-in-Some
returns-in-Some c =
    let s = c.args.storage.now in
    c.holding_of.ensures ∙ ap (holding_owned (settings_of s) (state_of s) c.args.number) c.in-Some.ensures

pub returns-in-None : goal.returns-in-None
returns-in-None c =
    let s = c.args.storage.now in
    ap (holding_owned (settings_of s) (state_of s) c.args.number) c.in-None.ensures
