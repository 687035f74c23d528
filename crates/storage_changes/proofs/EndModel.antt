-- What is left of a storage without the pages, the free storage and the cell pools of some subpools, on the plain
-- machine.
use Rattle.std.proofs.Common.{◌≡◌, ℕ, Bool, true, false, not, ◌&&◌, if◌then◌else◌, Option, Some, None, is_some, refl, sym, ◌∙◌, ap, true≢false}
use Rattle.std.specs.Prelude.{◌/◌}
use Rattle.std.proofs.lemmas.Bool.{and_from, false_from_ne_true, cond-false}
use Rattle.vsm_model.specs.declared.Subpool.{Subpool}
use Rattle.vsm_model.specs.declared.limits.Settings.{Settings}
use Rattle.vsm_model.specs.Regions.{in_a_region}
use Rattle.vsm_model.specs.Search.{holds}
use Rattle.cell_pool.specs.Pools.{all_but}
use Rattle.subpool_storage.specs.Subpools.{Subpools}
use Rattle.storage_changes.specs.State.{StorageState}
use Rattle.storage_changes.specs.Meaning.{first_of, all_subpools, subpool_of, is_taken, IsSound}
use Rattle.storage_changes.proofs.MeaningLemmas.{named_pages_are_there}
use Rattle.storage_changes.proofs.Rows.{Stands}
use Rattle.service_laws.proofs.Options.{held}

module _ (settings : Settings) (m : StorageState) (sound : IsSound settings m) (gone : Subpool → Bool) (sight : ℕ → ℕ → Option ℕ) where
  abbrev pub left : Subpools
  left =
      record {
        sight = sight;
        pages = λ q k. if gone q then false else m.subpools.pages q k;
        free = λ q d. if gone q then false else m.subpools.free q d;
        cells = λ id. all_but (λ q. gone q.settings.subpool) (m.subpools.cells id);
      }

  -- the page was one of theirs
  abbrev pub theirs : ℕ → Bool
  theirs k = holds gone (subpool_of m.subpools k)

  abbrev pub unassigned : ℕ → Bool
  unassigned k = if theirs k then true else m.unassigned k

  was : (b x : Bool) → (if b then false else x) ≡ true → (b ≡ false) × (x ≡ true)
  was true x e = absurd (true≢false (sym e))
  was false x e = (refl, e)

  -- a page that a subpool still has, it had before
  kept : (q : Subpool) (k : ℕ) → left.pages q k ≡ true → (gone q ≡ false) × (m.subpools.pages q k ≡ true)
  kept q k e = was (gone q) (m.subpools.pages q k) e

  pub kept_is_not_theirs : (q : Subpool) (k : ℕ) → left.pages q k ≡ true → theirs k ≡ false
  kept_is_not_theirs q k e = let at = kept q k e in ap (holds gone) (sound.named q k at.1) ∙ at.0

  pages_stay : (q : Subpool) (k : ℕ) → theirs k ≡ false → left.pages q k ≡ m.subpools.pages q k
  pages_stay q k other = go (gone q) refl where
    go : (b : Bool) → gone q ≡ b → (if b then false else m.subpools.pages q k) ≡ m.subpools.pages q k
    go true ends = sym (false_from_ne_true (m.subpools.pages q k) (λ own. true≢false (sym ends ∙ sym (ap (holds gone) (sound.named q k own)) ∙ other)))
    go false stays = refl

  named_out : (k : ℕ) → theirs k ≡ false → subpool_of left k ≡ subpool_of m.subpools k
  named_out k other = ap (λ (passes : Subpool → Bool). first_of passes all_subpools) (λ i q. pages_stay q k other i)

  named_in : (k : ℕ) → theirs k ≡ true → subpool_of left k ≡ None
  named_in k own = go (subpool_of left k) refl where
    go : (o : Option Subpool) → subpool_of left k ≡ o → o ≡ None
    go None e = refl
    go (Some q) e = absurd (true≢false (sym own ∙ kept_is_not_theirs q k ((named_pages_are_there left k).0 q e)))

  pages_lead_at : (k : ℕ) (b : Bool) → theirs k ≡ b → subpool_of left k ≡ (if b then None else subpool_of m.subpools k)
  pages_lead_at k true own = named_in k own
  pages_lead_at k false other = named_out k other

  pub pages_lead : (k : ℕ) → subpool_of left k ≡ (if theirs k then None else subpool_of m.subpools k)
  pages_lead k = pages_lead_at k (theirs k) refl

  -- the free storage of the others stays
  free_stays : (q : Subpool) (d : ℕ) (b : Bool) → gone q ≡ b → theirs (d / 512) ≡ false → (if b then false else m.subpools.free q d) ≡ m.subpools.free q d
  free_stays q d true ends other =
      sym (false_from_ne_true (m.subpools.free q d)
      (λ e. true≢false (sym ends ∙ sym (ap (holds gone) (sound.named q (d / 512) (sound.free q d e))) ∙ other)))
  free_stays q d false stays other = refl

  taken_stays : (d : ℕ) (o : Option Subpool) → theirs (d / 512) ≡ false → is_taken left o d ≡ is_taken m.subpools o d
  taken_stays d None other = refl
  taken_stays d (Some q) other = ap not (free_stays q d (gone q) refl other)

  taken_lead_at : (d : ℕ) (b : Bool) → theirs (d / 512) ≡ b
      → is_taken left (subpool_of left (d / 512)) d ≡ (not b && is_taken m.subpools (subpool_of m.subpools (d / 512)) d)
  taken_lead_at d true own = ap (λ o. is_taken left o d) (named_in (d / 512) own)
  taken_lead_at d false other = ap (λ o. is_taken left o d) (named_out (d / 512) other) ∙ taken_stays d (subpool_of m.subpools (d / 512)) other

  pub taken_lead : (d : ℕ) → is_taken left (subpool_of left (d / 512)) d
      ≡ (not (theirs (d / 512)) && is_taken m.subpools (subpool_of m.subpools (d / 512)) d)
  taken_lead d = taken_lead_at d (theirs (d / 512)) refl

  -- `Stands` holds
  rest_at : (k : ℕ) (b : Bool) → theirs k ≡ b
      → (if b then true else m.unassigned k) ≡ (in_a_region settings k && not (is_some (subpool_of left k)))
  rest_at k true own =
      let (p, at, _) = held gone (subpool_of m.subpools k) own in
      sym (and_from (in_a_region settings k) (not (is_some (subpool_of left k)))
      (sound.well_formed.pages.in_region k p at) (ap (λ o. not (is_some o)) (named_in k own)))
  rest_at k false other = sound.rest k ∙ ap (λ o. in_a_region settings k && not (is_some o)) (sym (named_out k other))

  free_at : (q : Subpool) (d : ℕ) → left.free q d ≡ true → left.pages q (d / 512) ≡ true
  free_at q d e =
      let at = was (gone q) (m.subpools.free q d) e in
      cond-false (gone q) false (m.subpools.pages q (d / 512)) at.0 ∙ sound.free q d at.1

  pub stands : Stands settings left unassigned
  stands = record {
    apart = λ q r k e f. sound.apart q r k (kept q k e).1 (kept r k f).1;
    named = λ q k e. named_out k (kept_is_not_theirs q k e) ∙ sound.named q k (kept q k e).1;
    rest = λ k. rest_at k (theirs k) refl;
    free = free_at;
  }
