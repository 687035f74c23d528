-- An element with some words changed in place.
use Rattle.std.specs.Prelude.{ℕ, ◌+◌, List, ◌++◌, take, drop, slice_set}
use Rattle.vsm_elements.specs.declared.element.Element.{Element}

abbrev pub with_next : Element → ℕ → Element
with_next e next = record e { next = next }

abbrev pub with_word : Element → ℕ → ℕ → Element
with_word e k word = record e { words = slice_set e.words k word }

-- these four words, from a place on
abbrev pub with_four : Element → ℕ → List ℕ → Element
with_four e from four = record e { words = take from e.words ++ four ++ drop (from + 4) e.words }
