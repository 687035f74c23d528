-- What a row's words say of its pool, and tests of numbers.
use Rattle.std.proofs.Common.{◌≡◌, ℕ, ◌==◌, true, false, List, [], ◌∷◌, length, Option, None, inl, inr, refl, sym, arith}
use Rattle.std.specs.Prelude.{slice_get}
use Rattle.std.proofs.lemmas.Bool.Decides.{eqb_tells}
use Rattle.vsm_elements.proofs.ChainLemmas.{not_both}
use Rattle.list_table.specs.Entries.{Entry, word}
use Rattle.cell_pool.specs.Names.{spelled}
use Rattle.cell_pool.specs.Items.{item, settings_in, subpool_in, pool_of, label_of}

pub pool_id : (e : Entry) → (pool_of e).id ≡ e.id
unfolding pool_of
pool_id e = refl

pub eqb_refl : (a : ℕ) → (a == a) ≡ true
eqb_refl a = elim (eqb_tells a a) [
  | inl p ↦ p.0
  | inr p ↦ absurd (p.1 refl)
]

pub eqb_false : (a b : ℕ) → (a ≡ b → ⊥) → (b == a) ≡ false
eqb_false a b h = elim (eqb_tells b a) [
  | inl p ↦ absurd (h (sym p.1))
  | inr p ↦ p.0
]

pub no_cells : (ns : List ℕ) → length ns ≡ 0 → ◌≡◌ {A = Option ℕ} None (slice_get ns 0)
no_cells [] h = refl
no_cells (n ∷ ns) h = absurd (omega arith)

pub pool_size : (e : Entry) → (pool_of e).settings.size ≡ word (item e.items 4) 5
unfolding pool_of
pool_size e = refl

pub pool_name : (e : Entry) → (pool_of e).name ≡ spelled (label_of e.items)
unfolding pool_of
pool_name e = refl

pub pool_subpool : (e : Entry) → (pool_of e).settings.subpool ≡ subpool_in e.words
unfolding pool_of
pool_subpool e = refl

pub eqb_same : (a b : ℕ) → (a == b) ≡ true → a ≡ b
eqb_same a b h = elim (eqb_tells a b) [
  | inl p ↦ p.1
  | inr p ↦ absurd (not_both (a == b) h p.0)
]

pub pool_settings : (e : Entry) → (pool_of e).settings ≡ settings_in e.words (item e.items 4)
unfolding pool_of
pool_settings e = refl
