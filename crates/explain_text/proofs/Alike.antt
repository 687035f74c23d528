-- Texts that are put, by equations on them.
use Rattle.std.proofs.Common.{◌≡◌, ℕ, List, Option, subst}
use Rattle.text_output.specs.Writing.{Puts}
use Rattle.text_output.specs.declared.writing.Gathered.{Gathered}

-- an equal text is put
pub alike : (old new : Option (List ℕ)) (a b : Gathered) (x y : List ℕ) → x ≡ y → Puts old new a b x → Puts old new a b y
alike old new a b x y e h = subst (Puts old new a b) e h
