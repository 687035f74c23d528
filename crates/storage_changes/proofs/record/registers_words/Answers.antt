use Rattle.std.proofs.Common.{rules, ◌≡◌, ◌%◌, ◌<◌, length, arith}
use Rattle.storage_changes.proofs.RegistersSteps.{four-of}
use Rattle.storage_changes.proofs.record.registers_words.Goals as goal

pub returns-clause-registers : goal.returns-clause-registers
returns-clause-registers c =
    let four : length c.args.r.words ≡ 4 = search rules in
    let low_task : c.args.r.task < 256 = search rules in
    let low_first : c.args.r.first < 256 = search rules in
    let task : c.from.result % 256 ≡ c.args.r.task = omega (arith, c.from.ensures, low_task) in
    let first : c.from-2.result % 256 ≡ c.args.r.first = omega (arith, c.from-2.ensures, low_first) in
    λ i. record { task = task i; first = first i; words = four-of c.args.r.words four i }
