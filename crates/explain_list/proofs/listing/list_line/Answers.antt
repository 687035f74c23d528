use Rattle.std.proofs.Common.{◌≡◌, ◌≤◌, ◌+◌, ◌-◌, ◌++◌, ◌∙◌, length, ap, inr, sym, subst, arith}
use Rattle.macro_statements.specs.Requests.{asked_in}
use Rattle.bench_core.specs.Stands.{bench_of, settings_in}
use Rattle.explain_list.specs.Listing.{Carries}
use Rattle.explain_list.specs.Pages.{losses_shown, open_of, shown_of}
use Rattle.explain_list.specs.Pages.{Follow}
use Rattle.explain_list.specs.Rows.{IsLineAt}
use Rattle.explain_list.specs.declared.pages.ListingPage.{ListingPage}
use Rattle.explain_list.proofs.Answered.{holds_page, page_of}
use Rattle.explain_list.proofs.Lines.{first_lines, step_follow, step_line}
use Rattle.explain_list.proofs.Steps.{same_page, step_page}
use Rattle.explain_list.proofs.listing.list_line.Goals as goal

pub returns-in-Err-clause-lists : goal.returns-in-Err-clause-lists
returns-in-Err-clause-lists g c = λ settings first h.
    (h.answers, h.listed, c.in-Err.ensures.takes settings h.answers h.took, first_lines c.args.at h.listed (open_of c.args.page.now) h.follow, h.held)

pub returns-in-Ok-None-clause-lists : goal.returns-in-Ok-None-clause-lists
returns-in-Ok-None-clause-lists g c =
    let takes = rw c.in-Ok-None.field-0-is at c.in-Ok-None.ensures.takes in
    let page = rw c.in-Ok-None.field-0-is at c.in-Ok-None.ensures.page in
    let same = rw c.in-Ok-None.field-0-is at c.in-Ok-None.ensures.whole in
    λ settings first h. record {
      carries = subst (λ (p : ListingPage). Carries c.args.script.now h.listed p c.take_line.new.session.reader.mode) (sym same)
          (same_page settings c.args.script.now c.args.at h.answers c.args.session.now c.take_line.new.session h.listed c.args.page.now h.took (takes settings h.answers h.took) h.starts c.requires h.follow h.carries);
      answers = h.answers;
      took = takes settings h.answers h.took;
      listed = h.listed;
      held = h.held;
      follow = subst (λ (p : ListingPage). Follow 0 (h.listed ++ open_of p) c.args.at) (sym same) h.follow;
      starts = h.starts;
      lines = page settings h.answers h.took h.starts h.lines;
      room = subst (λ (p : ListingPage). length (open_of p) ≤ 9) (sym same) h.room;
    }

pub returns-in-Ok-Some-clause-lists : goal.returns-in-Ok-Some-clause-lists
returns-in-Ok-Some-clause-lists g c =
    let asks = rw c.in-Ok-Some.field-0-is at c.in-Ok-Some.ensures.asks in
    let page = rw c.in-Ok-Some.field-0-is at c.in-Ok-Some.ensures.page in
    let place = rw c.in-Ok-Some.field-0-is at c.in-Ok-Some.ensures.place in
    let whole = rw c.in-Ok-Some.field-0-is at c.in-Ok-Some.ensures.whole in
    let keeps = rw c.in-Ok-Some.field-0-is at c.in-Ok-Some.ensures.keeps in
    λ settings first h.
    let layout = c.args.layout in
    let script = c.args.script.now in
    let e = asks settings h.answers h.took in
    let session = c.take_line.new.session in
    let its = c.take_line.new.self in
    let more = whole.1 h.room in
    let next : c.in-Ok-Some.step.next - 1 + 1 ≡ c.in-Ok-Some.step.next = omega (arith, place.1.some) in
    let shown = page settings h.answers h.took h.starts h.lines in
    let told = c.in-Ok-Some.step.told in
    let asked = asked_in c.take_line.new.request in
    let line = step_line settings script c.args.at h.answers c.args.session.now c.saturating_add-number.result c.in-Ok-Some.step h.took h.starts c.requires
    (λ few. omega (arith, c.lines.ensures)) place in
    let paged = step_page settings script c.args.at h.answers e.0 c.args.session.now session h.listed c.args.page.now its c.in-Ok-Some.step h.took e.4 h.starts c.requires place h.follow h.carries h.room e.1 keeps in
    let put = page_of layout script (shown_of its) (losses_shown its) told asked _ _ _ _ (settings_in c.bench.result.now) settings (bench_of c.bench.result.now) (bench_of session.bench) c.shown.result.now session.shown.items
    (ap settings_in c.bench.ensures ∙ e.4.under) (ap bench_of c.bench.ensures) c.shown.ensures
    (c.put_page.ensures shown paged.whole (subst (IsLineAt script) (sym c.line_of.ensures) line)) in
    record {
      answers = h.answers ++ e.0;
      took = e.4;
      listed = h.listed ++ shown_of its;
      held = holds_page settings layout script first _ _ _ _ h.answers e.0 (bench_of session.bench) session.shown.items told asked h.listed (shown_of its) (losses_shown its) paged.groups.roles paged.groups.together paged.groups.losses paged.groups.split e.1 e.2 e.3 e.4.led put h.held;
      follow = step_follow h.listed (shown_of its) (open_of its) (open_of c.args.page.now) more.0 c.args.at c.in-Ok-Some.step.next more.3 (more.1 ∙ place.0)
          (ap (λ k. k + 1) more.2 ∙ next) h.follow;
      starts = inr place.1.feed;
      lines = shown.lines;
      room = whole.0;
      carries = paged.carries;
    }
