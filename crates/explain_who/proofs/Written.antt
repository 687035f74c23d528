-- What was gathered is written.
use Rattle.std.proofs.Common.{ℕ, List, [], Option, Result}
use Rattle.text_output.specs.Writing.{Holds, IsEmpty, Puts, Writes}
use Rattle.text_output.specs.declared.writing.Gathered.{Gathered}
use Rattle.text_output.specs.declared.writing.WriteFault.{WriteFault}
use Rattle.text_output.proofs.Gathering.{empty_holds}
use Rattle.text_output.proofs.Known.{appends_nothing}

-- What is put is written, if nothing was gathered before.
pub all_written : (old now new : Option (List ℕ)) (g h : Gathered) (text : List ℕ) (r : Result (Unit {0}) WriteFault) → IsEmpty g → Puts old now g h text →
    ((at_first : Option (List ℕ)) (t : List ℕ) → Holds at_first now h t → Writes at_first new t r) → Writes old new text r
all_written old now new g h text r empty put out = out old text (put old [] (empty_holds old old g [] empty (appends_nothing old)))
