use Rattle.std.proofs.Common.{◌+◌, ◌<◌, [], ◌++◌, length, take, drop, arith, subst, ◌∙◌, refl}
use Rattle.std.proofs.lemmas.List.{append-nil, length-drop}
use Rattle.macro_statements.specs.Requests.{asked_in}
use Rattle.script_steps.specs.Taken.{PassesBound, Took}
use Rattle.script_steps.proofs.Takes.{past_lines}
use Rattle.script_steps.proofs.LineEnds.{behind_line, rest_of, step_asks_none, whole_script, step_past, step_brings_none, step_shows_none, step_taken}
use Rattle.script_steps.proofs.session.Session.take_line_into.Goals as goal

pub returns-in_err-take_bytes-clause-takes : goal.returns-in_err-take_bytes-clause-takes
returns-in_err-take_bytes-clause-takes c = λ settings answers h.
    let n = c.before_feed-size.result in
    let script = c.args.script.now in
    let at = c.args.at in
    step_past settings script at answers c.take_bytes.new.self c.from_residual.result c.from_residual.ensures.0
    (subst (λ given. PassesBound settings given answers) (whole_script script at n)
    (c.in_err-take_bytes.ensures settings (take at script) answers h (drop n (rest_of script at n))))

pub returns-then-self-ge-LINES-clause-takes : goal.returns-then-self-ge-LINES-clause-takes
returns-then-self-ge-LINES-clause-takes c = λ settings answers h.
    let n = c.before_feed-size.result in
    let script = c.args.script.now in
    let at = c.args.at in
    let rest = rest_of script at n in
    let front = take at script ++ take n rest in
    let size = length-drop n rest in
    let some : 0 < length (drop n rest) = omega (arith, size, c.before_feed-size.ensures.within, c.if-size-rest.false) in
    let taken = c.in_ok-take_bytes.ensures settings (take at script) answers h in
    subst (λ given. PassesBound settings given answers) (append-nil (front ++ drop n rest) ∙ whole_script script at n)
    (past_lines settings front answers c.take_bytes.new.self taken (drop n rest) [] some c.if-self-ge-LINES.true)

pub returns-clause-takes : goal.returns-clause-takes
returns-clause-takes c = λ settings answers h.
    let n = c.before_feed-size.result in
    let script = c.args.script.now in
    let at = c.args.at in
    let rest = rest_of script at n in
    let inside : n < length rest = omega (arith, c.before_feed-size.ensures.within, c.if-size-rest.false) in
    let feed = c.before_feed-size.ensures.feed inside in
    let taken = c.in_ok-take_bytes.ensures settings (take at script) answers h in
    let e = c.end_line_into-told.ensures settings (take at script ++ take n rest) answers taken in
    (step_taken settings script at n answers c.end_line_into-told.new.self (record { start = at; next = at + n + 1; told = c.end_line_into-told.result }) c.end_line_into-told.result refl refl inside feed
    (e.0, e.1, e.2, e.3, e.4)).0

pub returns-clause-brings : goal.returns-clause-brings
returns-clause-brings c = λ settings answers h.
    let n = c.before_feed-size.result in
    let script = c.args.script.now in
    let at = c.args.at in
    let rest = rest_of script at n in
    let inside : n < length rest = omega (arith, c.before_feed-size.ensures.within, c.if-size-rest.false) in
    let feed = c.before_feed-size.ensures.feed inside in
    let taken = c.in_ok-take_bytes.ensures settings (take at script) answers h in
    let e = c.end_line_into-told.ensures settings (take at script ++ take n rest) answers taken in
    (step_taken settings script at n answers c.end_line_into-told.new.self (record { start = at; next = at + n + 1; told = c.end_line_into-told.result }) c.end_line_into-told.result refl refl inside feed
    (e.0, e.1, e.2, e.3, e.4)).1

pub returns-in_err-take_bytes-clause-brings : goal.returns-in_err-take_bytes-clause-brings
returns-in_err-take_bytes-clause-brings c = λ settings answers h.
    step_brings_none settings c.args.script.now answers c.take_bytes.new.self c.from_residual.result c.from_residual.ensures.0

pub returns-clause-shows : goal.returns-clause-shows
returns-clause-shows c = λ settings answers h.
    let n = c.before_feed-size.result in
    let script = c.args.script.now in
    let at = c.args.at in
    let rest = rest_of script at n in
    let inside : n < length rest = omega (arith, c.before_feed-size.ensures.within, c.if-size-rest.false) in
    let feed = c.before_feed-size.ensures.feed inside in
    let taken = c.in_ok-take_bytes.ensures settings (take at script) answers h in
    let e = c.end_line_into-told.ensures settings (take at script ++ take n rest) answers taken in
    (step_taken settings script at n answers c.end_line_into-told.new.self (record { start = at; next = at + n + 1; told = c.end_line_into-told.result }) c.end_line_into-told.result refl refl inside feed
    (e.0, e.1, e.2, e.3, e.4)).2

pub returns-in_err-take_bytes-clause-shows : goal.returns-in_err-take_bytes-clause-shows
returns-in_err-take_bytes-clause-shows c = λ settings answers h.
    step_shows_none settings c.args.script.now answers c.take_bytes.new.self c.from_residual.result c.from_residual.ensures.0

pub returns-clause-asks : goal.returns-clause-asks
returns-clause-asks c = λ settings answers h.
    let n = c.before_feed-size.result in
    let script = c.args.script.now in
    let at = c.args.at in
    let rest = rest_of script at n in
    let inside : n < length rest = omega (arith, c.before_feed-size.ensures.within, c.if-size-rest.false) in
    let feed = c.before_feed-size.ensures.feed inside in
    let taken = c.in_ok-take_bytes.ensures settings (take at script) answers h in
    let e = c.end_line_into-told.ensures settings (take at script ++ take n rest) answers taken in
    (e.0, e.2, e.4, e.5, subst (λ given. Took settings given (answers ++ e.0) c.end_line_into-told.new.self) (behind_line script at n inside feed) e.3)

pub returns-in_err-take_bytes-clause-asks : goal.returns-in_err-take_bytes-clause-asks
returns-in_err-take_bytes-clause-asks c = λ settings answers h.
    step_asks_none settings c.args.script.now answers c.take_bytes.new.self c.from_residual.result (asked_in c.args.request.now) c.from_residual.ensures.0
