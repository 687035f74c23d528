use Rattle.std.proofs.Common.{subst}
use Rattle.storage_core.specs.Meaning.{settings_of, state_of}
use Rattle.storage_core.specs.Walks.{subpools_left}
use Rattle.explain_report.specs.Tables.{AreRowsOf}
use Rattle.explain_report.proofs.Shown.{subpools_shown}
use Rattle.explain_report.proofs.Remaining.{rows_remain, rows_less, rows_all, shorter}
use Rattle.explain_report.proofs.forms.put_rows.Goals as goal

pub loop-subpool-init : goal.loop-subpool-init
loop-subpool-init g c =
    let s = c.args.storage.now in
    record {
      place = c.first_subpool_place-place.ensures.place s;
      rows = rows_remain c.args.form s _ _ _ _ (c.first_subpool_place-place.ensures.all s);
    }

pub loop-subpool-smaller : goal.loop-subpool-smaller
loop-subpool-smaller g c =
    let s = c.args.storage.now in
    shorter (subpools_left s c.loop-subpool.place) (subpools_left s c.in-Some.behind) c.in-Some.subpool c.in-Some.ensures.next

pub loop-subpool-preserved : goal.loop-subpool-preserved
loop-subpool-preserved g c = record {
  place = c.in-Some.ensures.place;
  rows = rows_less c.args.form c.args.storage.now _ _ _ _ _ _ _ _ _ c.in-Some.subpool c.loop-subpool.invariant.rows c.in-Some.ensures.next c.put_row.ensures;
}

pub returns : goal.returns
returns g c =
    let s = c.args.storage.now in
    let all = rows_all c.args.form s _ _ _ _ _ _ c.loop-subpool.invariant.rows c.in_default.ensures.none in
    (all.0, subst (λ ps. AreRowsOf (settings_of s) c.args.form (state_of s) ps all.0) (subpools_shown s) all.1, all.2)
