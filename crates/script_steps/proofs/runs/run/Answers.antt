use Rattle.std.proofs.Common.{◌≡◌, [], ◌++◌, take, arith}
use Rattle.std.proofs.KnownBytes.{Consumes-trans, Consumes-nil, Appends-nil}
use Rattle.std.proofs.lemmas.List.{append-nil}
use Rattle.text_output.proofs.Gathering.{empty_holds}
use Rattle.script_steps.proofs.Outcomes.{finished}
use Rattle.script_steps.proofs.runs.run.Goals as goal

pub reads-init : goal.reads-init
reads-init g c = (
  [],
  Consumes-nil _,
  record {
    answers = [];
    took = c.new-session.ensures c.args.settings c.in-Ok.ensures;
    out = empty_holds _ _ _ [] c.new-gathered.ensures (Appends-nil _);
  },
  c.new-gathered.ensures,
)

pub returns-then-n-eq0 : goal.returns-then-n-eq0
returns-then-n-eq0 g c =
    let before = c.reads.invariant in
    let settings = c.args.settings in
    let first = g.W.Write.contents c.args.writer.now in
    let piece = take c.in-Ok-read.n c.read.new.buf in
    let none : before.0 ++ piece ≡ before.0 = rw c.if-n-eq0.true (append-nil before.0) in
    let end = c.in-Ok-read.ensures.bytes.1 c.if-n-eq0.true (omega (arith, c.read.auto.buf)) in
    finished settings first _ _ _ before.0 c.finish.result
    (rw none at (Consumes-trans _ _ _ before.0 piece before.1 c.in-Ok-read.ensures.bytes.0))
    end
    (c.finish.ensures settings _ first before.0 end before.2)

pub reads-preserved : goal.reads-preserved
reads-preserved g c =
    let before = c.reads.invariant in
    let first = g.W.Write.contents c.args.writer.now in
    let piece = take c.in-Ok-read.n c.read.new.buf in (
      before.0 ++ piece,
      Consumes-trans _ _ _ before.0 piece before.1 c.in-Ok-read.ensures.bytes.0,
      c.in_default-take_read.ensures.takes c.args.settings first before.0 before.2,
      c.in_default-take_read.ensures.empty,
    )

pub returns-in-Err-take_read : goal.returns-in-Err-take_read
returns-in-Err-take_read g c =
    let before = c.reads.invariant in
    let first = g.W.Write.contents c.args.writer.now in
    let piece = take c.in-Ok-read.n c.read.new.buf in (
      before.0 ++ piece,
      Consumes-trans _ _ _ before.0 piece before.1 c.in-Ok-read.ensures.bytes.0,
      c.in-Err-take_read.ensures.takes c.args.settings first before.0 before.2 _,
    )
