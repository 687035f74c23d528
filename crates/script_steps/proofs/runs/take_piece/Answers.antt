use Rattle.std.proofs.Common.{[], ◌++◌, take, sym, subst, ◌∙◌, ap, append_assoc, refl}
use Rattle.std.proofs.lemmas.List.{append-nil}
use Rattle.script_steps.specs.Run.{Runs, Passes}
use Rattle.text_output.proofs.Known.{front_more}
use Rattle.script_steps.proofs.Outcomes.{piece_past}
use Rattle.script_steps.proofs.runs.take_piece.Goals as goal

pub loop-rest-init : goal.loop-rest-init
loop-rest-init g c = (
  [],
  refl,
  λ settings first given h. subst (λ x. Runs settings first (g.W.Write.contents c.args.writer.now) c.args.gathered.now x c.args.session.now) (sym (append-nil given)) h,
)

pub loop-rest-preserved : goal.loop-rest-preserved
loop-rest-preserved g c =
    let before = c.loop-rest.invariant in
    let rest = c.loop-rest.rest.now in
    let n = c.in_ok-n.n in (
      before.0 ++ take n rest,
      front_more c.args.piece.now before.0 rest n before.1,
      λ settings first given h.
          subst (λ x. Runs settings first (g.W.Write.contents c.take_line.new.writer) c.take_line.new.gathered x c.take_line.new.session)
          (append_assoc given before.0 (take n rest))
          (c.in_ok-n.ensures.takes settings first (given ++ before.0) (before.2 settings first given h)),
    )

pub returns-in_err-n : goal.returns-in_err-n
returns-in_err-n g c = λ settings first given h.
    let before = c.loop-rest.invariant in
    piece_past settings first (g.W.Write.contents c.take_line.new.writer) c.take_line.new.gathered (given ++ c.args.piece.now) c.take_line.new.session
    c.from_residual.result c.from_residual.ensures.0
    (subst (λ x. Passes settings first (g.W.Write.contents c.take_line.new.writer) c.take_line.new.gathered x)
    (append_assoc given before.0 c.loop-rest.rest.now ∙ ap (λ x. given ++ x) (sym before.1))
    (c.in_err-n.ensures.takes settings first (given ++ before.0) (before.2 settings first given h)))
