use Rattle.std.proofs.Common.{◌≤◌, sym, ap, length, arith}
use Rattle.std.specs.Prelude.{nat_le}
use Rattle.std.proofs.lemmas.List.{length-take-le}
use Rattle.vsm_machine.specs.NameTable.{all_rows}
use Rattle.vsm_machine.proofs.Entries.{length-rows}
use Rattle.vsm_machine.proofs.names.NameTable.is_full.Goals as goal

pub returns : goal.returns
returns c =
    let t = c.args.self.now in
    let within : t.defined ≤ length (all_rows t) = omega (arith, t.within, length-rows t.table.entries) in
    ap (λ n. nat_le 1024 n) (sym (length-take-le t.defined (all_rows t) within))
