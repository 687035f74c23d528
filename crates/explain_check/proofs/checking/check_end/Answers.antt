use Rattle.std.proofs.Common.{◌≡◌, ◌++◌, ◌∙◌, nat_lt, inl, refl}
use Rattle.std.specs.Prelude.{◌||◌}
use Rattle.macro_statements.specs.Requests.{asked_in}
use Rattle.bench_core.specs.Stands.{bench_of, settings_in}
use Rattle.vsm_model.specs.Standing.{nothing_stands}
use Rattle.script_steps.specs.Output.{refusals}
use Rattle.explain_check.specs.Findings.{finds_wrong}
use Rattle.explain_list.specs.Pages.{fault_told, marks_in, shown_of}
use Rattle.explain_list.proofs.Lines.{end_follow}
use Rattle.explain_list.proofs.Marked.{page_marks}
use Rattle.explain_check.proofs.Checks.{checks_page, page_under, wrong_more}
use Rattle.explain_list.proofs.Steps.{end_page, open_page}
use Rattle.explain_check.specs.Checked.{found_by_source, sum_by_source}
use Rattle.explain_check.specs.Lines.{manner_of}
use Rattle.explain_check.proofs.checking.check_end.Goals as goal

pub returns-in-Ok : goal.returns-in-Ok
returns-in-Ok g c = λ settings first h.
    let manner = manner_of c.args.source.now.manner in
    let script = c.args.source.now.script.now in
    let found = found_by_source c.args.source.now in
    let ending = c.end_into-ending.result in
    let b = bench_of ending.bench in
    let its = settings_in ending.bench in
    let under : its ≡ settings = c.end_into-ending.ensures.settings ∙ h.took.under in
    let asks = c.end_into-ending.ensures.asks settings script h.answers h.took in
    let asked = asked_in c.end_into-ending.new.request in
    let e = asks.brings in
    let last = c.take_last.new.self in
    let rest = c.show_open.new.self in
    let shown = c.take_last.ensures.page h.last h.lines in
    let also = c.show_open.ensures.page shown.lines in
    let all = end_follow script c.args.last.line c.args.page.now last h.listed (shown_of rest) (c.take_last.ensures.whole h.room) c.show_open.ensures.whole h.follow h.ends h.last.order in
    let paged = end_page settings script h.answers c.args.session h.listed c.args.page.now last c.args.last.line c.stand-before.result ending h.took e h.last h.ends h.follow h.carries h.room c.stand-before.ensures c.take_last.ensures.keeps in
    let opens = open_page settings script h.answers (h.listed ++ shown_of last) last rest ending e paged.carries c.show_open.ensures.whole c.show_open.ensures.carried in
    let one = page_under settings its manner found (marks_in (shown_of last) last.fault) b b asked ending.last _ _ _ _ under refl c.put_page-one.ensures.puts in
    let two = page_under settings its manner found (marks_in (shown_of rest) rest.fault) b b asked ending.open_statement _ _ _ _ under refl c.put_page-two.ensures.puts in
    let some = wrong_more settings found h.answers e.more ending.last c.args.last.wrong c.put_page-one.result c.either-some.result e.last h.wrongs c.put_page-one.ensures.wrong c.either-some.ensures in
    let finds = wrong_more settings found (h.answers ++ e.more) e.also ending.open_statement c.either-some.result c.put_page-two.result c.either-finds.result e.unended some c.put_page-two.ensures.wrong c.either-finds.ensures in
    let wrongs : c.either-wrong.result ≡ (nat_lt 0 (refusals settings nothing_stands ((h.answers ++ e.more) ++ e.also)) || finds_wrong found ((h.answers ++ e.more) ++ e.also)) =
    c.either-wrong.ensures ∙ (λ i. nat_lt 0 (e.counts.1 i) || finds i) in
    let held = checks_page settings manner script found first _ _ _ _ (h.answers ++ e.more) e.also b ending.open_statement asked (h.listed ++ shown_of last) (shown_of rest) (marks_in (shown_of rest) rest.fault)
    e.unended asks.unended e.led_on (page_marks script (fault_told ending.open_statement) rest also opens.1) two
    (checks_page settings manner script found first _ _ _ _ h.answers e.more b ending.last asked h.listed (shown_of last) (marks_in (shown_of last) last.fault) e.last asks.last e.led
    (page_marks script (fault_told ending.last) last shown paged.whole) one h.held) in
    ((h.answers ++ e.more) ++ e.also, (h.listed ++ shown_of last) ++ shown_of rest, e.ended, all, wrongs, (held.0, held.1, c.in-Ok.ensures.writes first _ (c.put_sum.ensures first _ held.2)))

pub returns-in-Err : goal.returns-in-Err
returns-in-Err g c = λ settings first h.
    let manner = manner_of c.args.source.now.manner in
    let script = c.args.source.now.script.now in
    let found = found_by_source c.args.source.now in
    let ending = c.end_into-ending.result in
    let b = bench_of ending.bench in
    let its = settings_in ending.bench in
    let under : its ≡ settings = c.end_into-ending.ensures.settings ∙ h.took.under in
    let asks = c.end_into-ending.ensures.asks settings script h.answers h.took in
    let asked = asked_in c.end_into-ending.new.request in
    let e = asks.brings in
    let last = c.take_last.new.self in
    let rest = c.show_open.new.self in
    let shown = c.take_last.ensures.page h.last h.lines in
    let also = c.show_open.ensures.page shown.lines in
    let all = end_follow script c.args.last.line c.args.page.now last h.listed (shown_of rest) (c.take_last.ensures.whole h.room) c.show_open.ensures.whole h.follow h.ends h.last.order in
    let paged = end_page settings script h.answers c.args.session h.listed c.args.page.now last c.args.last.line c.stand-before.result ending h.took e h.last h.ends h.follow h.carries h.room c.stand-before.ensures c.take_last.ensures.keeps in
    let opens = open_page settings script h.answers (h.listed ++ shown_of last) last rest ending e paged.carries c.show_open.ensures.whole c.show_open.ensures.carried in
    let one = page_under settings its manner found (marks_in (shown_of last) last.fault) b b asked ending.last _ _ _ _ under refl c.put_page-one.ensures.puts in
    let two = page_under settings its manner found (marks_in (shown_of rest) rest.fault) b b asked ending.open_statement _ _ _ _ under refl c.put_page-two.ensures.puts in
    let held = checks_page settings manner script found first _ _ _ _ (h.answers ++ e.more) e.also b ending.open_statement asked (h.listed ++ shown_of last) (shown_of rest) (marks_in (shown_of rest) rest.fault)
    e.unended asks.unended e.led_on (page_marks script (fault_told ending.open_statement) rest also opens.1) two
    (checks_page settings manner script found first _ _ _ _ h.answers e.more b ending.last asked h.listed (shown_of last) (marks_in (shown_of last) last.fault) e.last asks.last e.led
    (page_marks script (fault_told ending.last) last shown paged.whole) one h.held) in
    c.write_fault.ensures settings script manner found (sum_by_source c.args.source.now) first _
    ((h.answers ++ e.more) ++ e.also, (h.listed ++ shown_of last) ++ shown_of rest, inl e.ended, inl (all, (held.0, held.1, c.in-Err.ensures.writes first _ (c.put_sum.ensures first _ held.2))))
