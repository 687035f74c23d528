use Rattle.std.proofs.Common.{◌++◌, [], refl, subst}
use Rattle.text_output.specs.Writing.{Puts}
use Rattle.text_output.proofs.Gathering.{empty_holds, puts_both}
use Rattle.text_output.proofs.Known.{appends_nothing}
use Rattle.bench_core.specs.Stands.{bench_of}
use Rattle.storage_core.specs.Meaning.{settings_of, state_of}
use Rattle.explain_report.specs.Figures.{IsMomentOf}
use Rattle.explain_report.specs.Forms.{table_in}
use Rattle.explain_report.specs.Said.{said_by}
use Rattle.explain_report.specs.SaidTexts.{head_in, said_in, said_of_answer}
use Rattle.explain_report.specs.Tables.{IsTable}
use Rattle.explain_report.proofs.Told.{wrote}
use Rattle.explain_report.proofs.runs.write_report.Goals as goal

pub returns : goal.returns
returns g c =
    let old = g.W.Write.contents c.args.out.now in
    let mid = g.W.Write.contents c.put_said.new.writer in
    let new = g.W.Write.contents c.put_table.new.writer in
    let form = c.args.form in
    let last = c.args.last.now in
    let said = head_in form ++ said_in form (said_by last) in
    let m = c.moment_of-moment.result in
    let table = table_in form c.put_table.ensures.0 m (state_of c.storage-storage.result.now).cell_pools in
    let first_line = subst (λ bytes. Puts old mid c.new-gathered.result c.put_said.new.gathered (head_in form ++ said_in form (said_of_answer bytes last.told))) c.as_slice.ensures.value c.put_said.ensures in
    let puts = puts_both old mid new c.new-gathered.result c.put_said.new.gathered c.put_table.new.gathered said table first_line c.put_table.ensures.2 in
    let held = puts old [] (empty_holds old old c.new-gathered.result [] c.new-gathered.ensures (appends_nothing old)) in
    let storage = c.storage-storage.result.now in
    let moment : IsMomentOf (settings_of storage) (state_of storage) m = record {
      totals = c.moment_of-moment.ensures.totals;
      low = c.moment_of-moment.ensures.low;
      high = c.moment_of-moment.ensures.high;
      free = c.moment_of-moment.ensures.free;
      pools = c.moment_of-moment.ensures.pools;
    } in
    let is_table : IsTable (settings_of storage) form (state_of storage) table = (c.put_table.ensures.0, m, c.put_table.ensures.1, moment, refl) in
    let of_bench =
    subst (λ k. IsTable k form (bench_of c.args.bench.now).present.storage table) c.storage-storage.ensures.settings
    (subst (λ s. IsTable (settings_of storage) form s table) c.storage-storage.ensures.state is_table) in
    wrote _ form _ (said_by last) (said ++ table) old _ _ (table, of_bench, refl) (c.end_text.ensures old (said ++ table) held)
