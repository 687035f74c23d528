use Rattle.std.proofs.Common.{◌≡◌, ◌++◌, ◌∙◌, refl, ap, nat_lt, inl}
use Rattle.macro_statements.specs.Requests.{asked_in}
use Rattle.bench_core.specs.Stands.{bench_of, settings_in}
use Rattle.explain_list.specs.Pages.{losses_shown, shown_of}
use Rattle.explain_list.proofs.Answered.{holds_page, page_of}
use Rattle.explain_list.proofs.Lines.{end_follow}
use Rattle.explain_list.proofs.Steps.{end_page, open_page}
use Rattle.explain_list.proofs.listing.list_end.Goals as goal

pub returns-in-Ok : goal.returns-in-Ok
returns-in-Ok g c = λ settings first h.
    let layout = c.args.layout in
    let script = c.args.script.now in
    let ending = c.end_into-ending.result in
    let b = bench_of ending.bench in
    let bytes = ending.shown.items in
    let under : settings_in ending.bench ≡ settings = c.end_into-ending.ensures.settings ∙ h.took.under in
    let asks = c.end_into-ending.ensures.asks settings script h.answers h.took in
    let asked = asked_in c.end_into-ending.new.request in
    let e = asks.brings in
    let shown = c.take_last.ensures.page h.last h.lines in
    let all = end_follow script c.args.line c.args.page.now c.take_last.new.self h.listed (shown_of c.show_open.new.self) (c.take_last.ensures.whole h.room) c.show_open.ensures.whole h.follow h.ends h.last.order in
    let last = c.take_last.new.self in
    let opens = c.show_open.new.self in
    let paged = end_page settings script h.answers c.args.session h.listed c.args.page.now last c.args.line c.stand-before.result ending h.took e h.last h.ends h.follow h.carries h.room c.stand-before.ensures c.take_last.ensures.keeps in
    let also = open_page settings script h.answers (h.listed ++ shown_of last) last opens ending e paged.carries c.show_open.ensures.whole c.show_open.ensures.carried in
    let one = page_of layout script (shown_of c.take_last.new.self) (losses_shown last) ending.last asked _ _ _ _ (settings_in ending.bench) settings b b bytes bytes under refl refl (c.put_ending.ensures shown paged.whole h.last) in
    let two = page_of layout script (shown_of c.show_open.new.self) (losses_shown opens) ending.open_statement asked _ _ _ _ (settings_in ending.bench) settings b b bytes bytes under refl refl
    (c.put_ending-2.ensures (c.show_open.ensures.page shown.lines) also.1 h.last) in
    let held = holds_page settings layout script first _ _ _ _ (h.answers ++ e.more) e.also b bytes ending.open_statement asked (h.listed ++ shown_of c.take_last.new.self) (shown_of c.show_open.new.self) (losses_shown opens) also.0.roles also.0.together also.0.losses also.0.split e.unended e.shows_on asks.unended e.led_on two
    (holds_page settings layout script first _ _ _ _ h.answers e.more b bytes ending.last asked h.listed (shown_of c.take_last.new.self) (losses_shown last) paged.groups.roles paged.groups.together paged.groups.losses paged.groups.split e.last e.shows asks.last e.led one h.held) in
    ((h.answers ++ e.more) ++ e.also, (h.listed ++ shown_of c.take_last.new.self) ++ shown_of c.show_open.new.self, e.ended, all, ap (nat_lt 0) e.counts.1, (held.0, held.1, c.in-Ok.ensures.writes first _ held.2))

pub returns-in-Err : goal.returns-in-Err
returns-in-Err g c = λ settings first h.
    let layout = c.args.layout in
    let script = c.args.script.now in
    let ending = c.end_into-ending.result in
    let b = bench_of ending.bench in
    let bytes = ending.shown.items in
    let under : settings_in ending.bench ≡ settings = c.end_into-ending.ensures.settings ∙ h.took.under in
    let asks = c.end_into-ending.ensures.asks settings script h.answers h.took in
    let asked = asked_in c.end_into-ending.new.request in
    let e = asks.brings in
    let shown = c.take_last.ensures.page h.last h.lines in
    let all = end_follow script c.args.line c.args.page.now c.take_last.new.self h.listed (shown_of c.show_open.new.self) (c.take_last.ensures.whole h.room) c.show_open.ensures.whole h.follow h.ends h.last.order in
    let last = c.take_last.new.self in
    let opens = c.show_open.new.self in
    let paged = end_page settings script h.answers c.args.session h.listed c.args.page.now last c.args.line c.stand-before.result ending h.took e h.last h.ends h.follow h.carries h.room c.stand-before.ensures c.take_last.ensures.keeps in
    let also = open_page settings script h.answers (h.listed ++ shown_of last) last opens ending e paged.carries c.show_open.ensures.whole c.show_open.ensures.carried in
    let one = page_of layout script (shown_of c.take_last.new.self) (losses_shown last) ending.last asked _ _ _ _ (settings_in ending.bench) settings b b bytes bytes under refl refl (c.put_ending.ensures shown paged.whole h.last) in
    let two = page_of layout script (shown_of c.show_open.new.self) (losses_shown opens) ending.open_statement asked _ _ _ _ (settings_in ending.bench) settings b b bytes bytes under refl refl
    (c.put_ending-2.ensures (c.show_open.ensures.page shown.lines) also.1 h.last) in
    let held = holds_page settings layout script first _ _ _ _ (h.answers ++ e.more) e.also b bytes ending.open_statement asked (h.listed ++ shown_of c.take_last.new.self) (shown_of c.show_open.new.self) (losses_shown opens) also.0.roles also.0.together also.0.losses also.0.split e.unended e.shows_on asks.unended e.led_on two
    (holds_page settings layout script first _ _ _ _ h.answers e.more b bytes ending.last asked h.listed (shown_of c.take_last.new.self) (losses_shown last) paged.groups.roles paged.groups.together paged.groups.losses paged.groups.split e.last e.shows asks.last e.led one h.held) in
    c.write_fault.ensures layout settings script first _
    ((h.answers ++ e.more) ++ e.also, (h.listed ++ shown_of c.take_last.new.self) ++ shown_of c.show_open.new.self, inl e.ended, inl all, (held.0, held.1, c.in-Err.ensures.writes first _ held.2))
