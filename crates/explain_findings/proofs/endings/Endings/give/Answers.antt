use Rattle.std.proofs.Common.{set, refl, ap, ◌∙◌, arith, None}
use Rattle.vsm_model.specs.Names.{same_name}
use Rattle.explain_findings.specs.declared.endings.NameEnding.{NameEnding}
use Rattle.explain_findings.specs.NameEndings.{entry_of, ended_in, word_in}
use Rattle.explain_findings.proofs.NameEntries.{ended_in-cond, entry_of-push, entry_of-set, word_in-cond}
use Rattle.explain_findings.proofs.endings.Endings.give.Goals as goal

pub returns-then-place-len-clause-ended : goal.returns-then-place-len-clause-ended
returns-then-place-len-clause-ended c other =
    let es = c.args.self.now.names.items in
    let name = c.args.name.now.bytes in
    let e : NameEnding = record { name = c.args.name.now; word = c.args.word; ended = None } in
    ap (λ n. ended_in (entry_of (set es n e) other)) c.place_of-place.ensures
    ∙ ap ended_in (entry_of-set es name other e refl (omega arith))
    ∙ ended_in-cond (same_name name other) e (entry_of es other)

pub returns-then-place-len-clause-words : goal.returns-then-place-len-clause-words
returns-then-place-len-clause-words c other =
    let es = c.args.self.now.names.items in
    let name = c.args.name.now.bytes in
    let e : NameEnding = record { name = c.args.name.now; word = c.args.word; ended = None } in
    ap (λ n. word_in (entry_of (set es n e) other)) c.place_of-place.ensures
    ∙ ap word_in (entry_of-set es name other e refl (omega arith))
    ∙ word_in-cond (same_name name other) e (entry_of es other)

pub returns-in_ok-push-clause-ended : goal.returns-in_ok-push-clause-ended
returns-in_ok-push-clause-ended c other =
    let es = c.args.self.now.names.items in
    let name = c.args.name.now.bytes in
    let e : NameEnding = record { name = c.args.name.now; word = c.args.word; ended = None } in
    ap (λ l. ended_in (entry_of l other)) c.in_ok-push.ensures.items
    ∙ ap ended_in (entry_of-push es name other e refl (omega arith))
    ∙ ended_in-cond (same_name name other) e (entry_of es other)

pub returns-in_ok-push-clause-words : goal.returns-in_ok-push-clause-words
returns-in_ok-push-clause-words c other =
    let es = c.args.self.now.names.items in
    let name = c.args.name.now.bytes in
    let e : NameEnding = record { name = c.args.name.now; word = c.args.word; ended = None } in
    ap (λ l. word_in (entry_of l other)) c.in_ok-push.ensures.items
    ∙ ap word_in (entry_of-push es name other e refl (omega arith))
    ∙ word_in-cond (same_name name other) e (entry_of es other)
