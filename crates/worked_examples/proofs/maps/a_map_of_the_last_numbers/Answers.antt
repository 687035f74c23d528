use Rattle.std.proofs.Common.{refl}
use Rattle.std.specs.Fmt.{padded_integral, digits, char_count}
use Rattle.vsm_model.specs.Releasing.{is_idle}
use Rattle.worked_examples.proofs.maps.a_map_of_the_last_numbers.Goals as goal

pub returns : goal.returns
unfolding is_idle padded_integral digits char_count
returns c = refl
