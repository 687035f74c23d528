use Rattle.std.proofs.Common.{◌≡◌, length, arith, refl}
use Rattle.vsm_model.specs.Names.{first_named_state}
use Rattle.vsm_model.specs.Standing.{new_bench}
use Rattle.vsm_model.specs.Forms.{formed_step}
use Rattle.vsm_model.proofs.Steps.{back_then_forward}
use Rattle.worked_examples.specs.Calls.{standard, bench_after}
use Rattle.worked_examples.specs.Steps.{three_areas}
use Rattle.worked_examples.proofs.steps.forward_gives_the_bench_back.Goals as goal

pub returns : goal.returns
returns c =
    let kept : length (bench_after standard three_areas).past ≡ 3 = refl in
    back_then_forward (formed_step standard) 1024 2 (new_bench first_named_state) three_areas (omega (arith, kept))
