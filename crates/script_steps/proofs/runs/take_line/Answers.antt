use Rattle.std.proofs.Common.{◌+◌, ◌<◌, ◌++◌, length, take, drop, subst, arith}
use Rattle.std.proofs.lemmas.List.{take-append-drop}
use Rattle.script_steps.specs.Run.{Runs, Passes}
use Rattle.script_steps.proofs.Feeds.{feed_behind}
use Rattle.script_steps.proofs.Outcomes.{passes_behind, line_past}
use Rattle.script_steps.proofs.runs.take_line.Goals as goal

pub returns-in_err-take_bytes-clause-takes : goal.returns-in_err-take_bytes-clause-takes
returns-in_err-take_bytes-clause-takes g c = λ settings first given h.
    let n = c.before_feed-size.result in
    let rest = c.args.rest.now in
    let now = g.W.Write.contents c.args.writer.now in
    line_past settings first now c.args.gathered.now given rest c.take_bytes.new.self c.from_residual-in_err-take_bytes.result c.from_residual-in_err-take_bytes.ensures.0
    (subst (λ r. Passes settings first now c.args.gathered.now (given ++ r)) (take-append-drop n rest)
    (passes_behind settings first now c.args.gathered.now given (take n rest) (drop n rest)
    (record { answers = h.answers; past = c.in_err-take_bytes.ensures settings given h.answers h.took; out = h.out })))

pub returns-clause-takes : goal.returns-clause-takes
returns-clause-takes g c = λ settings first given h.
    let n = c.before_feed-size.result in
    let rest = c.args.rest.now in
    let inside : n < length rest = omega (arith, c.before_feed-size.ensures.within, c.if-size-rest.false) in
    let taken : Runs settings first (g.W.Write.contents c.args.writer.now) c.args.gathered.now (given ++ take n rest) c.take_bytes.new.self =
    record { answers = h.answers; took = c.in_ok-take_bytes.ensures settings given h.answers h.took; out = h.out } in
    subst (λ x. Runs settings first (g.W.Write.contents c.take_feed.new.writer) c.take_feed.new.gathered x c.take_feed.new.session)
    (feed_behind given rest n inside (c.before_feed-size.ensures.feed inside))
    (c.in_ok-take_feed.ensures settings first (given ++ take n rest) taken)

pub returns-in_err-take_feed-clause-takes : goal.returns-in_err-take_feed-clause-takes
returns-in_err-take_feed-clause-takes g c = λ settings first given h.
    let n = c.before_feed-size.result in
    let rest = c.args.rest.now in
    let now = g.W.Write.contents c.take_feed.new.writer in
    let gathered = c.take_feed.new.gathered in
    let inside : n < length rest = omega (arith, c.before_feed-size.ensures.within, c.if-size-rest.false) in
    let taken : Runs settings first (g.W.Write.contents c.args.writer.now) c.args.gathered.now (given ++ take n rest) c.take_bytes.new.self =
    record { answers = h.answers; took = c.in_ok-take_bytes.ensures settings given h.answers h.took; out = h.out } in
    let past = subst (λ x. Passes settings first now gathered x) (feed_behind given rest n inside (c.before_feed-size.ensures.feed inside))
    (c.in_err-take_feed.ensures settings first (given ++ take n rest) taken) in
    line_past settings first now gathered given rest c.take_feed.new.session c.from_residual-in_err-take_feed.result c.from_residual-in_err-take_feed.ensures.0
    (subst (λ r. Passes settings first now gathered (given ++ r)) (take-append-drop (n + 1) rest)
    (passes_behind settings first now gathered given (take (n + 1) rest) (drop (n + 1) rest) past))

pub returns-then-is_whole-clause-takes : goal.returns-then-is_whole-clause-takes
returns-then-is_whole-clause-takes g c = λ settings first given h.
    let n = c.before_feed-size.result in
    let rest = c.args.rest.now in
    let whole = c.is_whole.ensures.0 c.if-is_whole.true in
    subst (λ x. Runs settings first (g.W.Write.contents c.take_whole.new.writer) c.take_whole.new.gathered x c.take_whole.new.session)
    (feed_behind given rest n whole.0 (c.before_feed-size.ensures.feed whole.0))
    (c.in_ok-take_whole.ensures settings first given h)

pub returns-in_err-take_whole-clause-takes : goal.returns-in_err-take_whole-clause-takes
returns-in_err-take_whole-clause-takes g c = λ settings first given h.
    let n = c.before_feed-size.result in
    let rest = c.args.rest.now in
    let now = g.W.Write.contents c.take_whole.new.writer in
    let gathered = c.take_whole.new.gathered in
    let whole = c.is_whole.ensures.0 c.if-is_whole.true in
    let past = subst (λ x. Passes settings first now gathered x) (feed_behind given rest n whole.0 (c.before_feed-size.ensures.feed whole.0))
    (c.in_err-take_whole.ensures settings first given h) in
    line_past settings first now gathered given rest c.take_whole.new.session c.from_residual.result c.from_residual.ensures.0
    (subst (λ r. Passes settings first now gathered (given ++ r)) (take-append-drop (n + 1) rest)
    (passes_behind settings first now gathered given (take (n + 1) rest) (drop (n + 1) rest) past))
