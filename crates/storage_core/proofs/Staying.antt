-- A change that was made and discarded, or that could not be made, leaves all as it was.
use Rattle.std.proofs.Common.{◌≡◌, ℕ, [], ◌∷◌, List, IsSome, Option, Result, Ok, Err, IfErr, OnErr, refl, ap, sym, subst, ◌∙◌, arith}
use Rattle.vsm_elements.specs.declared.element.Element.{Element}
use Rattle.vsm_elements.specs.Owners.{Moves}
use Rattle.vsm_elements.proofs.MoveLemmas.{moves-none, moves-follow}
use Rattle.storage_changes.specs.State.{StorageState}
use Rattle.storage_changes.specs.Changes.{Change as Meaning}
use Rattle.storage_swap.specs.declared.storage.Parts.{Parts}
use Rattle.storage_swap.specs.Storage.{hold, state_of, Stand}
use Rattle.storage_swap.specs.declared.change.Change.{Change}
use Rattle.storage_swap.specs.Reserve.{Grown, Reserves}
use Rattle.storage_swap.specs.Swap.{change_holds, Discards}
use Rattle.storage_swap.specs.Apart.{AreApart, AreWhole}
use Rattle.storage_swap.specs.HistoryKept.{moved-hold, moved-stand, moved-state, left, AllLeft, all-left}
use Rattle.storage_swap.specs.ReservedFit.{reserve-others, reserve-apart, reserve-whole}
use Rattle.storage_swap.specs.Steps.{storage_steps}
use Rattle.storage_core.specs.Stays.{Stays}

pub discard_stays : (p t u : Parts) (d : Meaning) (c : Change) → Reserves p d c t → Discards t c u → Stays p u
discard_stays p t u d c made gone = record {
  shows = storage_steps.discard_shows t u c gone ∙ made.shows;
  elements = λ i. (moves-follow p.elements t.elements u.elements (λ j. 0) (change_holds t.elements c) (λ j. 0) made.moves gone.moves).others i refl refl;
  meaning = λ x h.
      storage_steps.discard_others t u c x (reserve-apart p t d c made (x ∷ []) h) gone
      ∙ reserve-others p t d c made x h;
  apart = λ xs h. storage_steps.discard_apart t u c xs (reserve-apart p t d c made xs h) gone;
  whole = λ xs h. storage_steps.discard_whole [] xs c t u (reserve-whole p t d c made xs h) gone;
}

-- spare elements, spare frames and tables that were made

module _ (p t : Parts) (stands : Stand p) (grown : Grown p t) where
  -- no element moved
  unmoved : Moves p.elements t.elements (λ i. 0) (λ i. 0)
  unmoved = moves-none p.elements t.elements (λ i. 0) grown.elements

  same-hold : (i : ℕ) → hold t i ≡ hold p i
  same-hold i = ap (λ (z : Parts). hold z i) grown.same
      ∙ moved-hold p t.elements t.region stands (λ j own. grown.elements j) i

  same-stand : Stand t
  same-stand =
      let P : Parts → Type 0 = λ z. Stand z in
      subst P (sym grown.same) (moved-stand p t.elements t.region stands (λ j own. grown.elements j))

  same-state : state_of t ≡ state_of p
  same-state = ap state_of grown.same
      ∙ moved-state p t.elements t.region stands (λ j own. grown.elements j) grown.pages

  module _ (xs : List Change) (h : AreApart p xs) where
    others-left : AllLeft p t (λ i. 0) (λ i. 0) unmoved grown.tables.tables xs
    others-left = all-left p t (λ i. 0) (λ i. 0) unmoved grown.tables.tables xs h.changes
        (λ i. omega (arith, h.once i))

    same-apart : AreApart t xs
    same-apart = record {
      storage = same-stand;
      changes = others-left.stand;
      once = λ i. omega (arith, h.once i, same-hold i, others-left.held i);
      frameless = λ page e.
          grown.pages page ∙ h.frameless page (sym (ap (λ (m : StorageState). m.unassigned page) same-state) ∙ e);
      aside = omega (arith, h.aside, grown.aside);
      out = omega (arith, h.out, grown.out);
    }

  same-whole : (xs : List Change) → AreWhole p xs → AreWhole t xs
  same-whole xs h = record {
    apart = same-apart xs h.apart;
    all = λ i live.
        let P : Option Element → Type 0 = λ o. IsSome o in
        omega (
          arith,
          h.all i (subst P (grown.elements i) live),
          same-hold i,
          (others-left xs h.apart).held i,
        );
    all_aside = omega (arith, h.all_aside, grown.aside);
    all_out = omega (arith, h.all_out, grown.out);
  }

  pub grown_stays : Stays p t
  grown_stays = record {
    shows = same-state;
    elements = grown.elements;
    meaning = λ x h.
        (left p t (λ i. 0) (λ i. 0) unmoved grown.tables.tables x h.changes.0 (λ i. omega (arith, h.once i))).meant;
    apart = same-apart;
    whole = same-whole;
  }

-- a change that could not be made left all as it was
pub left_as_it_was : {R E : Type 0} (p t : Parts) → Stand p → (r : Result R E) → Grown p t → OnErr r (Stays p t)
left_as_it_was p t stands (Ok c) grown = tt
left_as_it_was p t stands (Err e) grown = grown_stays p t stands grown

pub failed_stays : {E : Type 0} (p t : Parts) → Stand p → (r : Result Change E) → IfErr r (λ _. Grown p t)
    → OnErr r (Stays p t)
failed_stays p t stands (Ok c) grown = tt
failed_stays p t stands (Err e) grown = grown_stays p t stands grown
