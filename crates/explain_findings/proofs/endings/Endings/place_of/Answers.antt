use Rattle.std.proofs.Common.{sym, ◌∙◌, arith}
use Rattle.explain_findings.proofs.NameEntries.{place_here, place_passed, same_bytes-is}
use Rattle.explain_findings.proofs.endings.Endings.place_of.Goals as goal

pub returns-then-eq : goal.returns-then-eq
returns-then-eq c =
    let es = c.args.self.now.names.items in
    let x = c.index.result.now in
    let name = c.args.name.now.bytes in
    let here = place_here es name c.loop-i.i x (omega arith) c.index.ensures (sym (same_bytes-is x.name.bytes name) ∙ sym c.eq.ensures ∙ c.if-eq.true) in
    omega (arith, here)

pub loop-i-preserved : goal.loop-i-preserved
loop-i-preserved c =
    let es = c.args.self.now.names.items in
    let x = c.index.result.now in
    let name = c.args.name.now.bytes in
    let passed = place_passed es name c.loop-i.i x (omega arith) c.index.ensures (sym (same_bytes-is x.name.bytes name) ∙ sym c.eq.ensures ∙ c.if-eq.false) in
    omega (arith, passed)
