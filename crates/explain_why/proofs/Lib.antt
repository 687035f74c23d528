-- Lemmas on the lines of a statement, and on what is said of first causes.
mod Cards
mod Reading
mod Turns
mod Detailed
mod Answered
mod FirstCause
mod Asked
mod Bringers
mod Found
mod Counts
mod Faulted
mod Written
