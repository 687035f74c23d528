use Rattle.std.proofs.Common.{◌≡◌, ◌+◌, ◌==◌, if◌then◌else◌, take, get_or, sym, ap, ◌∙◌, arith}
use Rattle.explain_report.specs.Lines.{feeds}
use Rattle.explain_areas.proofs.LineCounts.{feeds_more, one_at_most, open_more, twice}
use Rattle.explain_areas.proofs.line_counts.line_count.Goals as goal

pub loop-byte-preserved : goal.loop-byte-preserved
loop-byte-preserved c =
    let script = c.args.script.now in
    let i = c.loop-byte.byte-index in
    let below = c.loop-byte-test.true in
    let n = get_or script i 0 in
    let more : c.from-lines.result ≡ (if n == 10 then 1 else 0) = c.from-lines.ensures ∙ twice (n == 10) in
    record {
      ended = ap (λ k. k + c.from-lines.result) c.loop-byte.invariant.ended ∙ ap (λ k. feeds (take i script) + k) more ∙ sym (feeds_more script i 0 below);
      last = sym (open_more script i 0 below);
      few = omega (arith, c.loop-byte.invariant.few, one_at_most (n == 10), more);
    }
