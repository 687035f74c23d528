use Rattle.std.proofs.Common.{◌≤◌, List, [], length, refl, inl, sym, subst, arith}
use Rattle.std.proofs.KnownBytes.{Appends-nil}
use Rattle.text_output.proofs.Gathering.{empty_holds}
use Rattle.explain_faults.specs.declared.lines.SourceLine.{SourceLine}
use Rattle.explain_list.specs.Pages.{Follow}
use Rattle.explain_check.proofs.Checks.{holds_file}
use Rattle.explain_list.proofs.Steps.{first_page}
use Rattle.explain_check.specs.Checked.{found_by_source, sum_by_source}
use Rattle.explain_check.specs.Lines.{manner_of}
use Rattle.explain_check.proofs.checking.check_on.Goals as goal

pub returns-in-Ok : goal.returns-in-Ok
returns-in-Ok g c = λ new.
    let settings = c.args.settings in
    let manner = manner_of c.args.source.now.manner in
    let script = c.args.source.now.script.now in
    let found = found_by_source c.args.source.now in
    let first = g.W.Write.contents c.args.out.now in
    let held = holds_file settings manner script found first _ _ _ _ c.put_file_check.ensures (c.put_head_in.ensures first [] (empty_holds _ _ _ [] c.new-gathered.ensures (Appends-nil _))) in
    let checks = c.in-Ok.ensures.checks settings first (record {
      answers = [];
      took = c.new-session.ensures settings new;
      listed = [];
      held = held;
      wrongs = refl;
      follow = subst (λ ls. Follow 0 ls 0) (sym c.new-page.ensures.open) refl;
      starts = inl refl;
      lines = c.new-page.ensures.lines script;
      room = subst (λ (ls : List SourceLine). length ls ≤ 9) (sym c.new-page.ensures.open) (omega arith);
      carries = first_page settings script c.new-page.result c.new-session.result c.new-page.ensures.open c.new-page.ensures.current (c.new-session.ensures settings new);
    }) in
    c.check_rest.ensures settings first checks

pub returns-in-Err : goal.returns-in-Err
returns-in-Err g c = λ new.
    let settings = c.args.settings in
    let manner = manner_of c.args.source.now.manner in
    let script = c.args.source.now.script.now in
    let found = found_by_source c.args.source.now in
    let first = g.W.Write.contents c.args.out.now in
    let held = holds_file settings manner script found first _ _ _ _ c.put_file_check.ensures (c.put_head_in.ensures first [] (empty_holds _ _ _ [] c.new-gathered.ensures (Appends-nil _))) in
    let checks = c.in-Err.ensures.checks settings first (record {
      answers = [];
      took = c.new-session.ensures settings new;
      listed = [];
      held = held;
      wrongs = refl;
      follow = subst (λ ls. Follow 0 ls 0) (sym c.new-page.ensures.open) refl;
      starts = inl refl;
      lines = c.new-page.ensures.lines script;
      room = subst (λ (ls : List SourceLine). length ls ≤ 9) (sym c.new-page.ensures.open) (omega arith);
      carries = first_page settings script c.new-page.result c.new-session.result c.new-page.ensures.open c.new-page.ensures.current (c.new-session.ensures settings new);
    }) in
    c.stop.ensures settings script manner found (sum_by_source c.args.source.now) first checks
