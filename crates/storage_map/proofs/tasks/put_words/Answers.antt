use Rattle.std.proofs.Common.{ℕ, ◌+◌, flat_map, refl, ap, subst}
use Rattle.storage_core.specs.Meaning.{state_of}
use Rattle.text_output.specs.Writing.{Puts}
use Rattle.vsm_model.specs.Map.{hex_field}
use Rattle.storage_map.specs.Lines.{register_words}
use Rattle.storage_map.proofs.Remaining.{remains_all, remains_less, all_put}
use Rattle.storage_map.proofs.Shown.{numbers_next, numbers_end}
use Rattle.storage_map.proofs.tasks.put_words.Goals as goal

pub loop-register-init : goal.loop-register-init
loop-register-init g c =
    let all = register_words (state_of c.args.storage.now) c.args.row.task c.args.row.first (c.args.row.first + 8) in
    remains_all (g.W.Write.contents c.args.writer.now) c.args.gathered.now all all refl

pub loop-register-preserved : goal.loop-register-preserved
loop-register-preserved g c =
    let s = state_of c.args.storage.now in
    let task = c.args.row.task in
    let end = c.args.row.first + 8 in
    let k = c.loop-register.register in
    let now = g.W.Write.contents c.loop-register.writer in
    let new = g.W.Write.contents c.put_hex_field.new.writer in
    remains_less (g.W.Write.contents c.args.writer.now) now new c.args.gathered.now c.loop-register.gathered c.put_hex_field.new.gathered
    (register_words s task c.args.row.first end) (register_words s task k end) (hex_field (s.words task k)) (register_words s task (k + 1) end)
    c.loop-register.invariant (ap (flat_map (λ (r : ℕ). hex_field (s.words task r))) (numbers_next k end c.loop-register-test.true))
    (subst (λ (n : ℕ). Puts now new c.loop-register.gathered c.put_hex_field.new.gathered (hex_field n)) c.register.ensures c.put_hex_field.ensures)

pub returns : goal.returns
returns g c =
    let s = state_of c.args.storage.now in
    let end = c.args.row.first + 8 in
    let k = c.loop-register.register in
    all_put (g.W.Write.contents c.args.writer.now) (g.W.Write.contents c.loop-register.writer) c.args.gathered.now c.loop-register.gathered
    (register_words s c.args.row.task c.args.row.first end) (register_words s c.args.row.task k end)
    c.loop-register.invariant (ap (flat_map (λ (r : ℕ). hex_field (s.words c.args.row.task r))) (numbers_end k end c.loop-register-test.false))
