-- Lemmas for the tests.
mod Exchanged
mod ObtainLemmas
mod ComeLemmas
