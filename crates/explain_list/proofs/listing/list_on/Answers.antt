use Rattle.std.proofs.Common.{◌≤◌, List, [], length, refl, inl, sym, subst, arith}
use Rattle.std.proofs.KnownBytes.{Appends-nil}
use Rattle.text_output.proofs.Gathering.{empty_holds}
use Rattle.explain_faults.specs.declared.lines.SourceLine.{SourceLine}
use Rattle.explain_list.specs.Pages.{Follow}
use Rattle.explain_list.proofs.Items.{holds_file, holds_head}
use Rattle.explain_list.proofs.Steps.{first_page}
use Rattle.explain_list.proofs.listing.list_on.Goals as goal

pub returns-in-Ok : goal.returns-in-Ok
returns-in-Ok g c = λ new.
    let settings = c.args.settings in
    let layout = c.args.layout in
    let script = c.args.script.now in
    let first = g.W.Write.contents c.args.out.now in
    let held = holds_file layout settings script first _ _ _ _ c.put_file_page.ensures
    (holds_head layout settings script first _ _ _ _ c.put_listing_head.ensures (empty_holds _ _ _ [] c.new-gathered.ensures (Appends-nil _))) in
    c.list_rest.ensures settings first
    (c.in-Ok.ensures.lists settings first (record {
      answers = [];
      took = c.new-session.ensures settings new;
      listed = [];
      held = held;
      follow = subst (λ ls. Follow 0 ls 0) (sym c.new-page.ensures.open) refl;
      starts = inl refl;
      lines = c.new-page.ensures.lines c.args.script.now;
      room = subst (λ (ls : List SourceLine). length ls ≤ 9) (sym c.new-page.ensures.open) (omega arith);
      carries = first_page settings script c.new-page.result c.new-session.result c.new-page.ensures.open c.new-page.ensures.current (c.new-session.ensures settings new);
    }))

pub returns-in-Err : goal.returns-in-Err
returns-in-Err g c = λ new.
    let settings = c.args.settings in
    let layout = c.args.layout in
    let script = c.args.script.now in
    let first = g.W.Write.contents c.args.out.now in
    let held = holds_file layout settings script first _ _ _ _ c.put_file_page.ensures
    (holds_head layout settings script first _ _ _ _ c.put_listing_head.ensures (empty_holds _ _ _ [] c.new-gathered.ensures (Appends-nil _))) in
    c.stop.ensures layout settings first script
    (c.in-Err.ensures.lists settings first (record {
      answers = [];
      took = c.new-session.ensures settings new;
      listed = [];
      held = held;
      follow = subst (λ ls. Follow 0 ls 0) (sym c.new-page.ensures.open) refl;
      starts = inl refl;
      lines = c.new-page.ensures.lines c.args.script.now;
      room = subst (λ (ls : List SourceLine). length ls ≤ 9) (sym c.new-page.ensures.open) (omega arith);
      carries = first_page settings script c.new-page.result c.new-session.result c.new-page.ensures.open c.new-page.ensures.current (c.new-session.ensures settings new);
    }))
