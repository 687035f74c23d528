-- Lemmas on the lines of checks.
mod Checks
mod Names
mod Reasons
mod Said
mod SaidFound
