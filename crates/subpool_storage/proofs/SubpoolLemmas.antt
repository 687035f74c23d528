-- Subpools as functions, if one of them gets other pages and other free storage.
use Rattle.std.proofs.Common.{◌≡◌, ℕ, Bool, true, false, ◌&&◌, inl, inr, refl, sym, ap, ◌∙◌}
use Rattle.std.proofs.lemmas.Bool.{cond-false, cond-true}
use Rattle.std.specs.Prelude.{if◌then◌else◌}
use Rattle.run_set.specs.Runs.{Run, inside}
use Rattle.vsm_model.specs.declared.Subpool.{Subpool}
use Rattle.vsm_model.specs.Subpools.{same_subpool}
use Rattle.subpool_set.proofs.KeyLemmas.{either, same_parts}
use Rattle.subpool_storage.specs.Subpools.{Subpools, with_pages, with_free}

-- the subpool has these pages and this free storage
abbrev pub with_queues : Subpools → Subpool → (ℕ → Bool) → (ℕ → Bool) → Subpools
with_queues m p pages free = record m {
  pages = λ q x. if same_subpool q p then pages x else m.pages q x;
  free = λ q d. if same_subpool q p then free d else m.free q d;
}

-- equal at every place
pub same_subpools : (m k : Subpools) → ((t n : ℕ) → m.sight t n ≡ k.sight t n) → ((q : Subpool) (x : ℕ) → m.pages q x ≡ k.pages q x) → ((q : Subpool) (d : ℕ) → m.free q d ≡ k.free q d) → ((id : ℕ) → m.cells id ≡ k.cells id) → m ≡ k
same_subpools m k sight pages free cells = λ i. record { sight = λ t n. sight t n i; pages = λ q x. pages q x i; free = λ q d. free q d i; cells = λ id. cells id i }

pub one_subpool : (q p : Subpool) → same_subpool q p ≡ true → q ≡ p
one_subpool q p e = let u : (q.number ≡ p.number) × (q.owner ≡ p.owner) = same_parts q.number q.owner p.number p.owner e in λ i. record { number = u.0 i; owner = u.1 i }

-- what is the subpool's own is kept
kept_at : (f : Subpool → ℕ → Bool) (q p : Subpool) (x : ℕ) → (if same_subpool q p then f p x else f q x) ≡ f q x
kept_at f q p x = elim (either (same_subpool q p)) [
  | inl e ↦ cond-true (same_subpool q p) (f p x) (f q x) e ∙ ap (λ (z : Subpool). f z x) (sym (one_subpool q p e))
  | inr e ↦ cond-false (same_subpool q p) (f p x) (f q x) e
]

-- within a run it is v
put_at : (f : Subpool → ℕ → Bool) (q p : Subpool) (x : ℕ) (b v : Bool) → (if same_subpool q p then (if b then v else f p x) else f q x) ≡ (if same_subpool q p && b then v else f q x)
put_at f q p x b v = go (same_subpool q p) b refl where
  go : (a c : Bool) → same_subpool q p ≡ a → (if a then (if c then v else f p x) else f q x) ≡ (if a && c then v else f q x)
  go false c e = refl
  go true true e = refl
  go true false e = ap (λ (z : Subpool). f z x) (sym (one_subpool q p e))

-- another's, at this subpool
pub other_at : (f g : Subpool → ℕ → Bool) (q p : Subpool) (x : ℕ) → (if same_subpool q p then g p x else f q x) ≡ (if same_subpool q p then g q x else f q x)
other_at f g q p x = go (same_subpool q p) refl where
  go : (a : Bool) → same_subpool q p ≡ a → (if a then g p x else f q x) ≡ (if a then g q x else f q x)
  go false e = refl
  go true e = ap (λ (z : Subpool). g z x) (sym (one_subpool q p e))

pub as_free : (m : Subpools) (p : Subpool) (area : Run) (v : Bool) → with_queues m p (m.pages p) (λ d. if inside d area then v else m.free p d) ≡ with_free m p area v
as_free m p area v = same_subpools (with_queues m p (m.pages p) (λ d. if inside d area then v else m.free p d)) (with_free m p area v) (λ t n. refl) (λ q x. kept_at m.pages q p x) (λ q d. put_at m.free q p d (inside d area) v) (λ id. refl)

pub as_pages : (m : Subpools) (p : Subpool) (run : Run) (v : Bool) → with_queues m p (λ x. if inside x run then v else m.pages p x) (m.free p) ≡ with_pages m p run v
as_pages m p run v = same_subpools (with_queues m p (λ x. if inside x run then v else m.pages p x) (m.free p)) (with_pages m p run v) (λ t n. refl) (λ q x. put_at m.pages q p x (inside x run) v) (λ q d. kept_at m.free q p d) (λ id. refl)
