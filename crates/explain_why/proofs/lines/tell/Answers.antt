use Rattle.std.proofs.Common.{◌≡◌, ℕ, List, length, map, sym, subst}
use Rattle.macro_reader.specs.Columns.{used}
use Rattle.explain_faults.specs.Places.{card_in}
use Rattle.bench_core.specs.Stands.{bench_of, settings_in}
use Rattle.explain_reasons.proofs.Endings.{some_both}
use Rattle.explain_why.specs.Answers.{first_text}
use Rattle.explain_why.specs.Details.{PutsDetail}
use Rattle.explain_why.specs.Told.{TellsAhead}
use Rattle.explain_why.proofs.Answered.{answer_written, begins_more, some_begun}
use Rattle.explain_why.proofs.Detailed.{detail_written}
use Rattle.explain_why.proofs.Found.{ahead_written}
use Rattle.explain_why.proofs.lines.tell.Goals as goal

pub returns-in-Ok-clause-told : goal.returns-in-Ok-clause-told
returns-in-Ok-clause-told g c =
    let b = c.args.session.bench in
    let asked = c.args.place.now.ahead.asked in
    let old = g.W.Write.contents c.args.out.now in
    let now = g.W.Write.contents c.put_why.new.writer in
    let then = g.W.Write.contents c.put_detail.new.writer in
    let later = g.W.Write.contents c.put_answer_at.new.writer in
    let new = g.W.Write.contents c.finish.new.writer in
    let first = c.new-gathered.result in
    let second = c.put_why.new.gathered in
    let third = c.put_detail.new.gathered in
    let last = c.put_answer_at.new.gathered in
    ahead_written (settings_in b) (bench_of b).present (length (bench_of b).past) (length (bench_of b).later) asked old now later new first second last c.new-gathered.ensures
    (subst (λ x. TellsAhead (settings_in x) (bench_of x).present (length (bench_of x).past) (length (bench_of x).later) asked old now first second) c.bench.ensures c.put_why.ensures.told)
    (some_both now then later second third last c.put_detail.ensures.some c.in_ok-refused.ensures.some) c.in-Ok.ensures

pub returns-in-Ok-clause-detail : goal.returns-in-Ok-clause-detail
returns-in-Ok-clause-detail g c = λ own cards.
    let asked = c.args.place.now.ahead.asked in
    let number = c.args.place.now.first in
    let old = g.W.Write.contents c.args.out.now in
    let now = g.W.Write.contents c.put_why.new.writer in
    let then = g.W.Write.contents c.put_detail.new.writer in
    let later = g.W.Write.contents c.put_answer_at.new.writer in
    let new = g.W.Write.contents c.finish.new.writer in
    let first = c.new-gathered.result in
    let second = c.put_why.new.gathered in
    let third = c.put_detail.new.gathered in
    let last = c.put_answer_at.new.gathered in
    detail_written number own (bench_of c.args.session.bench).present asked c.args.definition c.args.bringer old now then later new first second third last c.new-gathered.ensures
    (some_begun (first_text number c.args.line) old now first second c.put_why.ensures.begins)
    (subst (λ x. PutsDetail number own (bench_of x).present asked c.args.definition c.args.bringer now then second third) c.bench-2.ensures
    (c.put_detail.ensures.detail own
    (subst (λ (t : List ℕ). map (card_in t) c.args.place.now.ahead.places.lines.items ≡ map used own) (sym c.rest_from-text.ensures) cards)))
    c.in_ok-refused.ensures.some c.in-Ok.ensures

pub returns-in-Ok-clause-answer : goal.returns-in-Ok-clause-answer
returns-in-Ok-clause-answer g c = λ settings before took.
    let old = g.W.Write.contents c.args.out.now in
    let now = g.W.Write.contents c.put_why.new.writer in
    let then = g.W.Write.contents c.put_detail.new.writer in
    let first = c.new-gathered.result in
    let second = c.put_why.new.gathered in
    let third = c.put_detail.new.gathered in
    answer_written settings c.args.script.now before c.args.place.now.first c.args.line c.in_ok-refused.refused
    old then (g.W.Write.contents c.put_answer_at.new.writer) (g.W.Write.contents c.finish.new.writer)
    first third c.put_answer_at.new.gathered c.new-gathered.ensures
    (begins_more (first_text c.args.place.now.first c.args.line) old now then first second third c.put_why.ensures.begins c.put_detail.ensures.some)
    (c.in_ok-refused.ensures.answer settings before took) c.in-Ok.ensures
