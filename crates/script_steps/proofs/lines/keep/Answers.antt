use Rattle.std.proofs.Common.{◌≡◌, ◌-◌, ◌++◌, min, length, take, ap, ◌∙◌}
use Rattle.script_steps.proofs.Takes.{kept_more}
use Rattle.script_steps.proofs.lines.keep.Goals as goal

pub returns : goal.returns
returns c = λ line e.
    let count : c.min-count.result ≡ min (length c.args.bytes.now) (80 - length c.args.kept.now.items) =
    c.min-count.ensures ∙ ap (λ n. min (length c.args.bytes.now) (80 - n)) c.len.ensures.value in
    (rw c.unwrap.ensures at c.try_extend_from_slice.ensures.ok) ∙ ap (λ n. c.args.kept.now.items ++ take n c.args.bytes.now) count ∙ kept_more line c.args.kept.now.items c.args.bytes.now e
