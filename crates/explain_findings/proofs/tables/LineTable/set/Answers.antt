use Rattle.std.proofs.Common.{ap, ◌∙◌, arith, slice_get, slice_set}
use Rattle.explain_findings.specs.Tables.{at_place}
use Rattle.explain_findings.proofs.TableLemmas.{set_on}
use Rattle.explain_findings.proofs.tables.LineTable.set.Goals as goal

pub returns : goal.returns
returns c = λ n.
    let t = c.args.self.now in
    let places = c.lengthen.new.places.items in
    ap (λ fs. at_place fs (slice_get (slice_set places c.args.line c.len.result) n)) c.in_ok-push.ensures.items
    ∙ set_on t.found.items c.args.finding places t.places.items c.args.line c.len.result n (omega (arith, c.len.ensures, c.in_ok-push.ensures.len))
    (omega (arith, c.in_ok-lengthen.ensures.room)) (c.lengthen.ensures.same n) (let few = t.within n in omega (arith, few, t.found.ok.0))
