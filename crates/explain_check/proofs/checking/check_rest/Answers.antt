use Rattle.std.proofs.Common.{◌++◌, take, subst, sym, arith}
use Rattle.script_steps.specs.Script.{NoFeed}
use Rattle.script_steps.specs.Taken.{Took}
use Rattle.explain_list.specs.Pages.{Follow, open_of}
use Rattle.explain_list.proofs.Lines.{first_lines, rest_line}
use Rattle.explain_list.proofs.Rests.{whole_script, script_past}
use Rattle.explain_list.proofs.Steps.{rest_page}
use Rattle.explain_check.specs.Checked.{found_by_source, sum_by_source}
use Rattle.explain_check.specs.Lines.{manner_of}
use Rattle.explain_check.proofs.checking.check_rest.Goals as goal

pub take_bytes-requires : goal.take_bytes-requires
take_bytes-requires g c = record { plain = subst NoFeed (sym c.rest_from-rest.ensures) c.requires.plain }

pub returns-in-Ok : goal.returns-in-Ok
returns-in-Ok g c = λ settings first h.
    let script = c.args.source.now.script.now in
    let taken = c.in-Ok.ensures settings (take c.args.checked.at script) h.answers h.took in
    let took = subst (λ x. Took settings x h.answers c.take_bytes.new.self) (whole_script script c.args.checked.at _ c.rest_from-rest.ensures) taken in
    let line = rest_line settings script c.args.checked.at h.answers c.args.session c.rest_line-line.result h.took h.starts c.requires.within c.rest_line-line.ensures.start c.rest_line-line.ensures.end
    (λ few. omega (arith, c.lines.ensures, c.rest_line-line.ensures.number)) c.requires.plain in
    c.check_end.ensures settings first (record {
      answers = h.answers;
      took = took;
      listed = h.listed;
      held = h.held;
      wrongs = h.wrongs;
      follow = subst (λ k. Follow 0 (h.listed ++ open_of c.args.page.now) k) (sym c.rest_line-line.ensures.start) h.follow;
      last = line;
      ends = c.rest_line-line.ensures.end;
      lines = h.lines;
      room = h.room;
      carries = rest_page settings script c.args.checked.at h.answers c.args.session c.take_bytes.new.self h.listed c.args.page.now c.rest_line-line.result h.took took h.starts c.requires.within
          c.rest_line-line.ensures.start line c.rest_line-line.ensures.end h.follow h.carries;
    })

pub returns-in-Err : goal.returns-in-Err
returns-in-Err g c = λ settings first h.
    let script = c.args.source.now.script.now in
    let past = c.in-Err.ensures settings (take c.args.checked.at script) h.answers h.took in
    c.stop.ensures settings script (manner_of c.args.source.now.manner) (found_by_source c.args.source.now) (sum_by_source c.args.source.now) first (h.answers, h.listed, script_past settings script c.args.checked.at _ h.answers c.rest_from-rest.ensures past, first_lines c.args.checked.at h.listed (open_of c.args.page.now) h.follow, h.held)
