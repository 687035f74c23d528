use Rattle.std.proofs.Common.{◌≡◌, ◌<◌, length, set, sym, ap, ◌∙◌, arith}
use Rattle.std.proofs.lemmas.List.{get_or_default}
use Rattle.std.proofs.lemmas.List.Edits.{map_over_more}
use Rattle.storage_core.specs.Meaning.{state_of}
use Rattle.explain_findings.specs.NameEndings.{ended_after, ended_in, entry_of, word_in}
use Rattle.explain_findings.proofs.NameEntries.{after, ended_in-after, entry_of-after, length-front, mapped, nothing_ends, word_in-after}
use Rattle.explain_findings.proofs.endings.Endings.end.Goals as goal

pub loop-i-preserved : goal.loop-i-preserved
loop-i-preserved c =
    let es = c.args.self.now.names.items in
    let now = c.loop-i.self.names.items in
    let s = state_of c.args.storage.now in
    let x = c.index.result.now in
    let y = c.index_mut.result.now in
    let i = c.loop-i.i in
    let lengths : length now ≡ length es = ap length c.loop-i.invariant ∙ length-front (after s c.args.can_end c.args.line) es i in
    let within : i < length now = omega arith in
    let same : x ≡ y = c.index.ensures ∙ get_or_default now i x y within ∙ sym c.index_mut.ensures.value in
    ap (λ ended. set now i (record { name = y.name; word = y.word; ended = ended }))
    (c.ended_after-ended.ensures ∙ ap (ended_after s c.args.can_end c.args.line) same)
    ∙ map_over_more (after s c.args.can_end c.args.line) es now i y (omega arith) c.loop-i.invariant c.index_mut.ensures.value

pub returns-clause-ended : goal.returns-clause-ended
returns-clause-ended c name =
    let es = c.args.self.now.names.items in
    let s = state_of c.args.storage.now in
    ap (λ l. ended_in (entry_of l name))
    (c.loop-i.invariant ∙ mapped (after s c.args.can_end c.args.line) es c.loop-i.i (omega arith))
    ∙ ap ended_in (entry_of-after s c.args.can_end c.args.line es name)
    ∙ ended_in-after s c.args.can_end c.args.line (entry_of es name)

pub returns-clause-words : goal.returns-clause-words
returns-clause-words c name =
    let es = c.args.self.now.names.items in
    let s = state_of c.args.storage.now in
    ap (λ l. word_in (entry_of l name))
    (c.loop-i.invariant ∙ mapped (after s c.args.can_end c.args.line) es c.loop-i.i (omega arith))
    ∙ ap word_in (entry_of-after s c.args.can_end c.args.line es name)
    ∙ word_in-after s c.args.can_end c.args.line (entry_of es name)

pub returns-in-Nothing-clause-ended : goal.returns-in-Nothing-clause-ended
returns-in-Nothing-clause-ended c name =
    let es = c.args.self.now.names.items in
    nothing_ends (state_of c.args.storage.now) c.args.can_end c.args.line (ended_in (entry_of es name)) (word_in (entry_of es name)) c.in-Nothing.is
