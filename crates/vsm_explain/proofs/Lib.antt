-- Lemmas on what clap reads of the words.
mod CommandWords
mod CommandLines
mod Answered
mod Whole
