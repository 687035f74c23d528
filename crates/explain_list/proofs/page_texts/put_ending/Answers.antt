use Rattle.std.proofs.Common.{refl}
use Rattle.bench_core.specs.Stands.{bench_of, settings_in}
use Rattle.macro_statements.specs.Requests.{asked_in}
use Rattle.explain_list.specs.Pages.{losses_shown, shown_of}
use Rattle.explain_list.proofs.Answered.{page_of}
use Rattle.explain_list.proofs.page_texts.put_ending.Goals as goal

pub returns : goal.returns
returns g c = λ page whole at.
    let ending = c.args.ending.now in
    let s = settings_in ending.bench in
    let b = bench_of ending.bench in
    page_of c.args.layout c.args.script.now (shown_of c.args.page.now) (losses_shown c.args.page.now) c.args.told.now (asked_in c.args.request.now) _ _ _ _ s s b b c.as_slice.result.now ending.shown.items refl refl c.as_slice.ensures.value
    (c.put_page.ensures page whole (c.last_line.ensures c.args.script.now page.lines at))
