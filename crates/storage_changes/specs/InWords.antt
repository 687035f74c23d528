-- A record of an area, in words, and words of which one changes.
use Rattle.std.specs.Prelude.{ℕ, List, ◌==◌, slice_set}
use Rattle.storage_changes.specs.declared.record.AreaRecord.{AreaRecord}
use Rattle.storage_changes.specs.declared.in_words.PlacedWord.{PlacedWord}
use Rattle.storage_changes.specs.Records.{word, subpool_in, run_in}

-- the doublewords of a subpool in a run, and whether they become free
abbrev pub area_in : List ℕ → AreaRecord
area_in words = record { subpool = subpool_in words; area = run_in words; free = word words 5 == 1 }

-- the words, with another one at a place
abbrev pub with_placed : List ℕ → PlacedWord → List ℕ
with_placed words changed = slice_set words changed.place changed.word
