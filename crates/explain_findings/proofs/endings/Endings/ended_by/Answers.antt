use Rattle.std.proofs.Common.{get_or, sym, ap, ◌∙◌, arith}
use Rattle.explain_findings.specs.NameEndings.{ended_in}
use Rattle.explain_findings.proofs.NameEntries.{entry_there, no_entry}
use Rattle.explain_findings.proofs.endings.Endings.ended_by.Goals as goal

pub returns-then-place-len : goal.returns-then-place-len
returns-then-place-len c =
    let es = c.args.self.now.names.items in
    let x = c.index.result.now in
    let name = c.args.name.now.bytes in
    ap (λ e. e.ended) c.index.ensures
    ∙ ap (λ n. (get_or es n x).ended) c.place_of-place.ensures
    ∙ sym (ap ended_in (entry_there es name x (omega arith)))

pub returns-else-place-len : goal.returns-else-place-len
returns-else-place-len c =
    let es = c.args.self.now.names.items in
    let name = c.args.name.now.bytes in
    sym (ap ended_in (no_entry es name (omega arith)))
