use Rattle.std.proofs.Common.{◌∷◌, [], replicate, sym, subst}
use Rattle.std.proofs.lemmas.Grind.{replicate_next}
use Rattle.text_output.specs.Writing.{Puts}
use Rattle.text_output.proofs.Gathering.{puts_both, puts_none}
use Rattle.explain_text.proofs.puts.put_blanks.Goals as goal

pub loop-init : goal.loop-init
loop-init g c = puts_none _ _

pub loop-preserved : goal.loop-preserved
loop-preserved g c =
    let l = c.loop in
    let old = g.W.Write.contents c.args.writer.now in
    let now = g.W.Write.contents l.writer in
    let new = g.W.Write.contents c.put.new.writer in
    subst (Puts old new c.args.gathered.now c.put.new.self) (sym (replicate_next l.counter 32))
    (puts_both old now new c.args.gathered.now l.gathered c.put.new.self (replicate l.counter 32) (32 ∷ []) l.invariant c.put.ensures.puts)
