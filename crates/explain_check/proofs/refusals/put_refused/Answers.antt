use Rattle.std.proofs.Common.{Some, refl, subst, sym}
use Rattle.macro_statements.specs.Requests.{asked_in}
use Rattle.operand_texts.specs.Words.{after_blanks}
use Rattle.bench_core.specs.Stands.{bench_of, settings_in}
use Rattle.explain_check.specs.Reasons.{IsReason, first_line}
use Rattle.explain_check.proofs.Reasons.{plain_up_to}
use Rattle.explain_check.proofs.refusals.put_refused.Goals as goal

pub returns-in-Abend : goal.returns-in-Abend
returns-in-Abend g c =
    let b = c.args.answered.now.bench.now in
    let e = c.put_cause.ensures in
    let words = first_line e.0 in
    (words, subst (λ w. IsReason (settings_in b) (bench_of b).present (asked_in c.args.answered.now.request.now) (Some w) words) (sym c.in-Abend.is) (e.0, e.1, refl), plain_up_to (after_blanks e.0), e.2)

pub returns-in-Name : goal.returns-in-Name
returns-in-Name g c =
    let b = c.args.answered.now.bench.now in
    let e = c.put_undefined.ensures in
    (e.0, subst (λ w. IsReason (settings_in b) (bench_of b).present (asked_in c.args.answered.now.request.now) (Some w) e.0) (sym c.in-Name.is) tt, e.1, e.2)

pub returns-in-NoMemory : goal.returns-in-NoMemory
returns-in-NoMemory g c =
    let b = c.args.answered.now.bench.now in
    let words = c.one_line-words.result.now in
    (words, subst (λ w. IsReason (settings_in b) (bench_of b).present (asked_in c.args.answered.now.request.now) (Some w) words) (sym c.in-NoMemory.is) tt, c.one_line-words.ensures, c.put_words.ensures)
