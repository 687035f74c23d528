-- The map of a bench: the text of its storage, its names and its history.
use Rattle.std.proofs.Common.{ℕ, List, Option, ◌++◌}
use Rattle.vsm_model.specs.declared.limits.Settings.{Settings}
use Rattle.vsm_model.specs.Names.{NamedState}
use Rattle.vsm_model.specs.Map.{history_line, map_text, name_lines, storage_map}
use Rattle.text_output.specs.Writing.{Puts}
use Rattle.text_output.specs.declared.writing.Gathered.{Gathered}
use Rattle.text_output.proofs.Gathering.{puts_both}

three : (old first second new : Option (List ℕ)) (a b c d : Gathered) (x y z : List ℕ)
    → Puts old first a b x → Puts first second b c y → Puts second new c d z → Puts old new a d (x ++ y ++ z)
three old first second new a b c d x y z p q r =
    puts_both old second new a c d (x ++ y) z (puts_both old first second a b c x y p q) r

pub whole_map : (old first second new : Option (List ℕ)) (a b c d : Gathered) (settings : Settings) (m : NamedState)
    (kept : ℕ) → Puts old first a b (storage_map settings m.storage) → Puts first second b c (name_lines m.names)
    → Puts second new c d (history_line kept settings.history) → Puts old new a d (map_text settings m kept)
whole_map old first second new a b c d settings m kept =
    three old first second new a b c d (storage_map settings m.storage) (name_lines m.names)
    (history_line kept settings.history)
