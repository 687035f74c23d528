-- Lemmas on a script that is followed, and on what its statements took.
pub mod Moves
pub mod LineLemmas
mod AnswerMarks
mod KeptReadings
mod StandingNotes
mod StandingFollowed
mod StandingWhole
mod SingleRun
mod Grown
mod ByReply
mod Effects
pub mod UsedCells
mod CellsByReply
mod TasksByReply
mod NumberMaps
mod NewRuns
mod Served
pub mod Firsts
mod TaskEnds
mod Kept
mod Whole
