use Rattle.std.proofs.Common.{◌<◌, length, arith}
use Rattle.std.proofs.lemmas.Bool.Decides.{nat_tests}
use Rattle.script_steps.proofs.Takes.{past_lines, past_length}
use Rattle.script_steps.proofs.session.Session.take_bytes.Goals as goal

pub returns-then-self-ge-LINES : goal.returns-then-self-ge-LINES
returns-then-self-ge-LINES c = λ settings given answers h.
    let some : 0 < length c.args.bytes.now = grind (arith, nat_tests, c.if-is_empty.ensures) in
    λ behind. past_lines settings given answers c.args.self.now h c.args.bytes.now behind some c.if-self-ge-LINES.true

pub returns-then-bytes-self : goal.returns-then-bytes-self
returns-then-bytes-self c = λ settings given answers h.
    λ behind. past_length settings given answers c.args.self.now h c.args.bytes.now behind c.requires.plain c.if-self-ge-LINES.false c.if-bytes-self.true
