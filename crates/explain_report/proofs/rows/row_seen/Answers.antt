use Rattle.std.proofs.Common.{◌∙◌, ap, subst}
use Rattle.std.specs.Prelude.{unwrap_or}
use Rattle.storage_core.specs.Meaning.{state_of, settings_of}
use Rattle.explain_report.specs.Figures.{IsRowOf}
use Rattle.explain_report.proofs.rows.row_seen.Goals as goal

pub returns : goal.returns
returns c =
    let s = c.args.storage.now in
    let k = c.row_of.ensures in
    let owner = c.unwrap_or-owner.ensures ∙ ap (λ o. unwrap_or o c.args.task) c.owner_seen.ensures in
    let its : IsRowOf (settings_of s) (state_of s) (record { number = c.args.number; owner = c.unwrap_or-owner.result }) c.row_of.result =
    record {
      subpool = k.subpool;
      low_pages = k.low_pages;
      high_pages = k.high_pages;
      low_free = k.low_free;
      high_free = k.high_free;
      low_largest = k.low_largest;
      high_largest = k.high_largest;
      low_unassigned = k.low_unassigned;
      high_unassigned = k.high_unassigned;
    } in
    subst (λ n. IsRowOf (settings_of s) (state_of s) (record { number = c.args.number; owner = n }) c.row_of.result) owner its
