use Rattle.std.proofs.Common.{◌∙◌}
use Rattle.std.proofs.lemmas.List.{take_rest}
use Rattle.explain_who.proofs.OneLine.{after_is}
use Rattle.explain_who.proofs.one_line.after_feed.Goals as goal

pub returns : goal.returns
returns c =
    take_rest c.args.begins.now c.min.result
    ∙ after_is c.args.begins.now c.feed_of-end.result c.min.result c.feed_of-end.ensures.place c.min.ensures
