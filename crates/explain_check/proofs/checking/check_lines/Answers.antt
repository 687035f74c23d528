use Rattle.std.proofs.Common.{◌≡◌, ◌≤◌, ◌+◌, ◌-◌, ◌++◌, ◌∙◌, length, ap, inr, sym, subst, arith}
use Rattle.macro_statements.specs.Requests.{asked_in}
use Rattle.bench_core.specs.Stands.{bench_of, settings_in}
use Rattle.explain_list.specs.Listing.{Carries}
use Rattle.explain_list.specs.Pages.{Follow, fault_told, marks_in, open_of, shown_of}
use Rattle.explain_list.specs.declared.pages.ListingPage.{ListingPage}
use Rattle.explain_check.proofs.Checks.{checks_page, page_under, wrong_more}
use Rattle.explain_list.proofs.Lines.{first_lines, step_follow}
use Rattle.explain_list.proofs.Marked.{page_marks}
use Rattle.explain_list.proofs.Rests.{rest_none}
use Rattle.explain_list.proofs.Steps.{same_page, step_page}
use Rattle.explain_check.specs.Checked.{found_by_source}
use Rattle.explain_check.specs.Lines.{manner_of}
use Rattle.explain_check.proofs.checking.check_lines.Goals as goal

pub loop-at-init : goal.loop-at-init
loop-at-init g c = (omega arith, λ settings first h. h)

pub loop-at-preserved : goal.loop-at-preserved
loop-at-preserved g c =
    let asks = rw c.in-Ok-Some.field-0-is at c.in-Ok-Some.ensures.asks in
    let page = rw c.in-Ok-Some.field-0-is at c.in-Ok-Some.ensures.page in
    let place = rw c.in-Ok-Some.field-0-is at c.in-Ok-Some.ensures.place in
    let whole = rw c.in-Ok-Some.field-0-is at c.in-Ok-Some.ensures.whole in
    let keeps = rw c.in-Ok-Some.field-0-is at c.in-Ok-Some.ensures.keeps in (
      place.1.within,
      λ settings first held.
          let h = c.loop-at.invariant.1 settings first held in
          let script = c.args.source.now.script.now in
          let manner = manner_of c.args.source.now.manner in
          let found = found_by_source c.args.source.now in
          let e = asks settings h.answers h.took in
          let its = c.take_line.new.self in
          let more = whole.1 h.room in
          let told = c.in-Ok-Some.step.told in
          let asked = asked_in c.take_line.new.request in
          let next : c.in-Ok-Some.step.next - 1 + 1 ≡ c.in-Ok-Some.step.next = omega (arith, place.1.some) in
          let shown = page settings h.answers h.took h.starts h.lines in
          let paged = step_page settings script c.loop-at.at h.answers e.0 c.loop-at.session c.take_line.new.session h.listed c.loop-at.page its c.in-Ok-Some.step h.took e.4 h.starts c.loop-at.invariant.0 place h.follow h.carries h.room e.1 keeps in
          record {
            answers = h.answers ++ e.0;
            took = e.4;
            listed = h.listed ++ shown_of its;
            held = checks_page settings manner script found first _ _ _ _ h.answers e.0 (bench_of c.take_line.new.session.bench) told asked h.listed (shown_of its)
                (marks_in (shown_of its) its.fault) e.1 e.3 e.4.led (page_marks script (fault_told told) its shown paged.whole)
                (page_under settings (settings_in c.bench-bench.result.now) manner found (marks_in (shown_of its) its.fault) (bench_of c.bench-bench.result.now) (bench_of c.take_line.new.session.bench) asked told _ _ _ _
                (ap settings_in c.bench-bench.ensures ∙ e.4.under) (ap bench_of c.bench-bench.ensures) c.put_page-its.ensures.puts) h.held;
            wrongs = wrong_more settings found h.answers e.0 told c.loop-at.wrong c.put_page-its.result c.either-wrong.result e.1 h.wrongs c.put_page-its.ensures.wrong c.either-wrong.ensures;
            follow = step_follow h.listed (shown_of its) (open_of its) (open_of c.loop-at.page) more.0 c.loop-at.at c.in-Ok-Some.step.next more.3 (more.1 ∙ place.0)
                (ap (λ k. k + 1) more.2 ∙ next) h.follow;
            starts = inr place.1.feed;
            lines = shown.lines;
            room = whole.0;
            carries = paged.carries;
          },
    )

pub returns-in-Err : goal.returns-in-Err
returns-in-Err g c = record {
  checks = λ settings first held.
      let h = c.loop-at.invariant.1 settings first held in
      (h.answers, h.listed, c.in-Err.ensures.takes settings h.answers h.took, first_lines c.loop-at.at h.listed (open_of c.loop-at.page) h.follow, h.held);
  rest = tt;
}

pub returns-in-Ok-None : goal.returns-in-Ok-None
returns-in-Ok-None g c =
    let place = rw c.in-Ok-None.field-0-is at c.in-Ok-None.ensures.place in
    let takes = rw c.in-Ok-None.field-0-is at c.in-Ok-None.ensures.takes in
    let page = rw c.in-Ok-None.field-0-is at c.in-Ok-None.ensures.page in
    let same = rw c.in-Ok-None.field-0-is at c.in-Ok-None.ensures.whole in
    record {
      checks = λ settings first held.
          let h = c.loop-at.invariant.1 settings first held in
          record {
            answers = h.answers;
            took = takes settings h.answers h.took;
            listed = h.listed;
            held = h.held;
            wrongs = h.wrongs;
            follow = subst (λ (p : ListingPage). Follow 0 (h.listed ++ open_of p) c.loop-at.at) (sym same) h.follow;
            starts = h.starts;
            lines = page settings h.answers h.took h.starts h.lines;
            room = subst (λ (p : ListingPage). length (open_of p) ≤ 9) (sym same) h.room;
            carries = subst (λ (p : ListingPage). Carries c.args.source.now.script.now h.listed p c.take_line.new.session.reader.mode) (sym same)
                (same_page settings c.args.source.now.script.now c.loop-at.at h.answers c.loop-at.session c.take_line.new.session h.listed c.loop-at.page h.took (takes settings h.answers h.took) h.starts c.loop-at.invariant.0 h.follow h.carries);
          };
      rest = (c.loop-at.invariant.0, place);
    }

pub returns : goal.returns
returns g c = record {
  checks = c.loop-at.invariant.1;
  rest = (c.loop-at.invariant.0, rest_none c.args.source.now.script.now c.loop-at.at c.loop-at-test.false);
}
