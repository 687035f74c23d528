-- The words of a record that changed sides with the storage.
use Rattle.std.specs.Prelude.{ℕ, ◌<◌, List}
use Rattle.storage_changes.specs.InWords.{with_placed}
use Rattle.storage_swap.specs.declared.exchange.TurnedWords.{TurnedWords}
use Rattle.storage_swap.specs.declared.exchange.TurnedWords.TheVariants.{One, Two, All}

-- the words with the one or the two that changed, or all of them
abbrev pub words_after : List ℕ → TurnedWords → List ℕ
words_after words (One changed) = with_placed words changed
words_after words (Two one other) = with_placed (with_placed words one) other
words_after words (All turned) = turned

-- those that changed are of the seven
abbrev pub HasPlace : TurnedWords → Type 0
HasPlace (One changed) = changed.place < 7
HasPlace (Two one other) = (one.place < 7) × (other.place < 7)
HasPlace (All turned) = Unit {0}
