use Rattle.std.proofs.Common.{◌∙◌, ap, length, subst, take}
use Rattle.bench_core.specs.Stands.{bench_of, settings_in}
use Rattle.explain_why.specs.Defined.{IsItsDefinition}
use Rattle.explain_why.specs.Details.{WritesDetail}
use Rattle.explain_why.specs.Obstacles.{IsItsBringer}
use Rattle.explain_why.specs.Answers.{WritesAnswer}
use Rattle.explain_why.specs.Explained.{IsExplained, WritesAhead}
use Rattle.explain_why.proofs.Faulted.{other_says_nothing}
use Rattle.explain_why.proofs.Found.{all_ok, explained}
use Rattle.explain_why.proofs.lines.why_text.Goals as goal

pub returns-clause-explained : goal.returns-clause-explained
returns-clause-explained g c =
    let settings = c.args.settings in
    let script = c.args.script.now in
    let line = c.args.line in
    let old = g.W.Write.contents c.args.out.now in
    let new = g.W.Write.contents c.tell.new.out in
    let s = c.seek.new.session in
    let place = c.in_ok-place.place in
    let asked = place.ahead.asked in
    let m = (bench_of s.bench).present in
    let d = c.in_ok-definition.definition in
    let b = c.in_ok-bringer.bringer in
    let found = c.in_ok-place.ensures.found settings c.in_ok-session.ensures.took in
    let own = found.its.statement.ahead.lines in
    let defined : IsItsDefinition settings m (take place.at script) asked d =
    subst (λ b. IsItsDefinition settings (bench_of b).present (take place.at script) asked d) c.bench.ensures c.in_ok-definition.ensures.its in
    let under = ap settings_in c.bench-2.ensures ∙ found.took.under in
    let brought : IsItsBringer settings m (take place.at script) asked b =
    subst (λ x. IsItsBringer settings (bench_of x).present (take place.at script) asked b) c.bench-2.ensures (c.in_ok-bringer.ensures.its under) in
    all_ok (WritesAhead (settings_in s.bench) m (length (bench_of s.bench).past) (length (bench_of s.bench).later) asked old new) (WritesDetail place.first own m asked d b old new)
    (WritesAnswer settings script found.before place.first line old new) (IsExplained settings script line old new) c.tell.result
    (λ refused told detail answer. explained settings script line s place d b old new c.in_ok-place.ensures.within found refused told detail defined brought answer)
    c.tell.ensures.told (c.tell.ensures.detail own found.its.statement.ahead.cards) (c.tell.ensures.answer settings found.before found.took)

pub returns-clause-fault : goal.returns-clause-fault
returns-clause-fault g c = other_says_nothing c.args.script.now c.args.line c.tell.result c.tell.ensures.other
