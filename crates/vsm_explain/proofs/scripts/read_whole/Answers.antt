use Rattle.std.proofs.Common.{◌≡◌, ◌<◌, ◌≤◌, [], ap, arith, length, subst, sym, true≢false, ◌∙◌}
use Rattle.std.proofs.lemmas.Grind.{common_steps}
use Rattle.vsm_explain.proofs.Whole.{all_taken}
use Rattle.vsm_explain.specs.Scripts.{IsAll, has_zero}
use Rattle.vsm_explain.proofs.scripts.read_whole.Goals as goal
use Rattle.vsm_explain.proofs.scripts.read_whole.Goals.{then-not-listed+else-has_zero, else-not-listed}

pub returns-in-Ok-clause-unread : goal.returns-in-Ok-clause-unread
returns-in-Ok-clause-unread g c =
    let left = g.S.Read.remaining c.args.script.now in
    let bytes = c.read_to_end.new.buf.items in
    let few : length bytes ≤ 268435456 = grind (arith, common_steps) in
    let empty : bytes ≡ [] = grind (arith, common_steps) in
    subst (IsAll left) empty
    (all_taken left _ c.take-limited.result.limit c.new-bytes.result.items bytes c.new-bytes.ensures.items c.take-limited.ensures.limit
    (ap (λ r. g.S.Read.remaining r.now) c.take-limited.ensures.inner) c.in-Ok.ensures.bytes few)

pub returns-in-Ok-3-clause-unread : goal.returns-in-Ok-3-clause-unread
returns-in-Ok-3-clause-unread g c =
    let left = g.S.Read.remaining c.args.script.now in
    let bytes = c.read_to_end.new.buf.items in
    let few : length bytes ≤ 268435456 = grind (arith, common_steps) in (
      c.if-not-listed.true,
      (
        bytes,
        all_taken left _ c.take-limited.result.limit c.new-bytes.result.items bytes c.new-bytes.ensures.items c.take-limited.ensures.limit
            (ap (λ r. g.S.Read.remaining r.now) c.take-limited.ensures.inner) c.in-Ok-3.ensures.bytes few,
        ap has_zero (sym c.as_slice.ensures.value) ∙ sym c.has_zero.ensures ∙ c.if-has_zero.true,
      ),
    )

pub returns-in-Ok-4-clause-script : goal.returns-in-Ok-4-clause-script
returns-in-Ok-4-clause-script g c =
    let left = g.S.Read.remaining c.args.script.now in
    let bytes = c.read_to_end.new.buf.items in
    let few : length bytes ≤ 268435456 = grind (arith, common_steps) in
    let some : 0 < length bytes = grind (arith, common_steps) in (
      all_taken left _ c.take-limited.result.limit c.new-bytes.result.items bytes c.new-bytes.ensures.items c.take-limited.ensures.limit
          (ap (λ r. g.S.Read.remaining r.now) c.take-limited.ensures.inner) c.in-Ok-4.ensures.bytes few,
      some,
      few,
      λ unlisted. elim c.if-not-listed.branch [
        | then-not-listed+else-has_zero w ↦ ap has_zero (sym w.as_slice.ensures.value) ∙ sym w.has_zero.ensures ∙ w.if-has_zero.false
        | else-not-listed w ↦ absurd (true≢false (sym w.if-not-listed.false ∙ unlisted))
      ],
    )
