use Rattle.std.proofs.Common.{◌<◌, length, sym, subst, arith}
use Rattle.std.proofs.lemmas.Option.{slice_get_within}
use Rattle.vsm_machine.specs.NameTable.{rows_of, row_of}
use Rattle.text_output.specs.Writing.{Puts}
use Rattle.vsm_model.specs.Map.{name_lines}
use Rattle.text_output.proofs.Gathering.{puts_none}
use Rattle.bench_core.proofs.NameLines.{name_put, take_past}
use Rattle.bench_core.proofs.maps.put_names.Goals as goal

pub loop-row-init : goal.loop-row-init
loop-row-init g c = puts_none (g.W.Write.contents c.args.writer.now) c.args.gathered.now

pub loop-row-smaller : goal.loop-row-smaller
loop-row-smaller g c =
    let rows = rows_of c.args.names.now in
    let within : c.loop-row.index < length rows =
    slice_get_within rows c.loop-row.index _ (sym c.in-Some.ensures.row) in
    omega (arith, within)

pub loop-row-preserved : goal.loop-row-preserved
loop-row-preserved g c =
    name_put (g.W.Write.contents c.args.writer.now) (g.W.Write.contents c.loop-row.writer) (g.W.Write.contents c.put_name.new.writer)
    c.args.gathered.now c.loop-row.gathered c.put_name.new.gathered
    (rows_of c.args.names.now) c.loop-row.index (row_of c.in-Some.row) (sym c.in-Some.ensures.row)
    c.loop-row.invariant c.put_name.ensures

pub returns : goal.returns
returns g c =
    subst
    (λ rows. Puts (g.W.Write.contents c.args.writer.now) (g.W.Write.contents c.loop-row.writer) c.args.gathered.now c.loop-row.gathered (name_lines rows))
    (take_past (rows_of c.args.names.now) c.loop-row.index (sym c.in_default.ensures.row))
    c.loop-row.invariant
