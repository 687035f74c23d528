-- Which subpool a page is assigned to, and what an area that is taken or freed is on the plain machine.
use Rattle.std.proofs.Common.{◌≡◌, ℕ, ◌/◌, Bool, true, false, not, ◌&&◌, ◌||◌, if◌then◌else◌, map, Option, Some, None, is_some, refl, sym, ap, ◌∙◌, arith}
use Rattle.std.specs.List.{range_with_len}
use Rattle.run_set.specs.Runs.{Run, inside}
use Rattle.vsm_model.specs.declared.Subpool.{Subpool}
use Rattle.vsm_model.specs.Subpools.{same_subpool}
use Rattle.vsm_model.specs.declared.limits.Settings.{Settings}
use Rattle.vsm_model.specs.Search.{holds}
use Rattle.subpool_storage.specs.Subpools.{Subpools, with_pages, with_free}
use Rattle.storage_changes.specs.State.{StorageState}
use Rattle.storage_changes.specs.Meaning.{first_of, all_subpools, subpool_of, is_taken, model_of, IsSound}
use Rattle.storage_changes.specs.Laws.{CanBe, PagesAreNamed, NamedPagesAreThere, JoinedPagesAreNamed, LeftPagesAreNobodys, AreasAreTaken, AreasAreFreed, FreeStorageIsFree, UnassignedPagesAreNobodys}
use Rattle.storage_changes.proofs.Cases.{cond-in, cond-out, and-both, and-false, not-not, same-self, same-is}
use Rattle.storage_changes.proofs.FirstLemmas.{IsIn, in-range, in-map, in-flat_map, first-passes, first-found, first-missed, first-nothing}

-- a subpool is among all possible ones
is-one : (p : Subpool) → CanBe p → IsIn p all_subpools
unfolding all_subpools
is-one p h = in-flat_map (λ (number : ℕ). map (λ (owner : ℕ). let q : Subpool = record { number = number; owner = owner } in q) (range_with_len 1 64)) p.number p (range_with_len 0 128)
    (in-range p.number 0 128 (omega arith) (omega (arith, h.0)))
    (in-map (λ (owner : ℕ). let q : Subpool = record { number = p.number; owner = owner } in q) p.owner (range_with_len 1 64) (in-range p.owner 1 64 h.1 (omega (arith, h.2))))

found : (m : Subpools) (page : ℕ) (p : Subpool) → CanBe p → m.pages p page ≡ true → ((q : Subpool) → m.pages q page ≡ true → q ≡ p) → subpool_of m page ≡ Some p
found m page p h has only =
    let t = is-one p h in
    ap (λ xs. first_of (λ q. m.pages q page) xs) t.2 ∙ first-found Subpool (λ q. m.pages q page) p has only t.0 t.1

pub pages_are_named : PagesAreNamed
pages_are_named m apart p page h has = found m page p h has (λ q k. apart q p page k has)

pub named_pages_are_there : NamedPagesAreThere
named_pages_are_there m page = (
  λ p e. first-passes Subpool (λ q. m.pages q page) all_subpools p e,
  λ p e h. (let t = is-one p h in first-missed Subpool (λ q. m.pages q page) p t.0 t.1 (sym (ap (λ xs. first_of (λ q. m.pages q page) xs) t.2) ∙ e)),
)

-- outside of a run that joins or leaves a subpool a page is named as before
named-outside : (m : Subpools) (p : Subpool) (run : Run) (b : Bool) (page : ℕ) → inside page run ≡ false → subpool_of (with_pages m p run b) page ≡ subpool_of m page
named-outside m p run b page o =
    let same : (q : Subpool) → (with_pages m p run b).pages q page ≡ m.pages q page = λ q. cond-out (same_subpool q p && inside page run) b (m.pages q page) (and-false (same_subpool q p) (inside page run) o) in
    ap (λ (passes : Subpool → Bool). first_of passes all_subpools) (λ i q. same q i)

pub joined_pages_are_named : JoinedPagesAreNamed
joined_pages_are_named m p run can nobodys page = go (inside page run) refl where
  has-it : inside page run ≡ true → (with_pages m p run true).pages p page ≡ true
  has-it i = cond-in (same_subpool p p && inside page run) true (m.pages p page) (and-both (same_subpool p p) (inside page run) (same-self p) i)

  only : inside page run ≡ true → (q : Subpool) → (with_pages m p run true).pages q page ≡ true → q ≡ p
  only i q e = at (same_subpool q p) refl where
    at : (b : Bool) → same_subpool q p ≡ b → q ≡ p
    at true h = same-is q p h
    at false h =
        let not_it : (same_subpool q p && inside page run) ≡ false = ap (λ (x : Bool). x && inside page run) h in
        let not_had : (with_pages m p run true).pages q page ≡ false = cond-out (same_subpool q p && inside page run) true (m.pages q page) not_it ∙ nobodys q page i in
        absurd (let f : true ≡ false = sym e ∙ not_had in cc)

  go : (b : Bool) → inside page run ≡ b → subpool_of (with_pages m p run true) page ≡ (if b then Some p else subpool_of m page)
  go true i = found (with_pages m p run true) page p can (has-it i) (only i)
  go false o = named-outside m p run true page o

pub left_pages_are_nobodys : LeftPagesAreNobodys
left_pages_are_nobodys m p run apart had page = go (inside page run) refl where
  none : inside page run ≡ true → (q : Subpool) → (with_pages m p run false).pages q page ≡ false
  none i q = at (same_subpool q p) (m.pages q page) refl refl where
    at : (b held : Bool) → same_subpool q p ≡ b → m.pages q page ≡ held → (with_pages m p run false).pages q page ≡ false
    at true held h k = cond-in (same_subpool q p && inside page run) false (m.pages q page) (and-both (same_subpool q p) (inside page run) h i)
    at false true h k =
        let same : same_subpool q p ≡ true = ap (λ (x : Subpool). same_subpool x p) (apart q p page k (had page i)) ∙ same-self p in
        absurd (let f : true ≡ false = sym same ∙ h in cc)
    at false false h k = cond-out (same_subpool q p && inside page run) false (m.pages q page) (ap (λ (x : Bool). x && inside page run) h) ∙ k

  go : (b : Bool) → inside page run ≡ b → subpool_of (with_pages m p run false) page ≡ (if b then None else subpool_of m page)
  go true i = first-nothing Subpool (λ q. (with_pages m p run false).pages q page) (none i) all_subpools
  go false o = named-outside m p run false page o

-- an area that joins the free storage of its subpool, or leaves it

module _ (m : Subpools) (p : Subpool) (area : Run) (free : Bool) (d : ℕ) where
  abbrev after : Subpools
  after = with_free m p area free

  taken-inside : (o : Option Subpool) → o ≡ Some p → inside d area ≡ true → is_taken after o d ≡ not free
  taken-inside o e i =
      ap (λ (x : Option Subpool). is_taken after x d) e
      ∙ ap not (cond-in (same_subpool p p && inside d area) free (m.free p d) (and-both (same_subpool p p) (inside d area) (same-self p) i))

  taken-outside : (o : Option Subpool) → inside d area ≡ false → is_taken after o d ≡ is_taken m o d
  taken-outside None out = refl
  taken-outside (Some q) out = ap not (cond-out (same_subpool q p && inside d area) free (m.free q d) (and-false (same_subpool q p) (inside d area) out))

pub areas_are_taken : AreasAreTaken
areas_are_taken m p area named = λ i. record (model_of m) { taken = λ d. at d (inside d area) refl i } where
  at : (d : ℕ) (b : Bool) → inside d area ≡ b
      → is_taken (with_free m.subpools p area false) (subpool_of m.subpools (d / 512)) d ≡ (inside d area || is_taken m.subpools (subpool_of m.subpools (d / 512)) d)
  at d true e = taken-inside m.subpools p area false d (subpool_of m.subpools (d / 512)) (named d e) e
      ∙ sym (ap (λ (x : Bool). x || is_taken m.subpools (subpool_of m.subpools (d / 512)) d) e)
  at d false e = taken-outside m.subpools p area false d (subpool_of m.subpools (d / 512)) e
      ∙ sym (ap (λ (x : Bool). x || is_taken m.subpools (subpool_of m.subpools (d / 512)) d) e)

pub areas_are_freed : AreasAreFreed
areas_are_freed m p area named = λ i. record (model_of m) { taken = λ d. at d (inside d area) refl i } where
  at : (d : ℕ) (b : Bool) → inside d area ≡ b
      → is_taken (with_free m.subpools p area true) (subpool_of m.subpools (d / 512)) d ≡ (not (inside d area) && is_taken m.subpools (subpool_of m.subpools (d / 512)) d)
  at d true e = taken-inside m.subpools p area true d (subpool_of m.subpools (d / 512)) (named d e) e
      ∙ sym (ap (λ (x : Bool). not x && is_taken m.subpools (subpool_of m.subpools (d / 512)) d) e)
  at d false e = taken-outside m.subpools p area true d (subpool_of m.subpools (d / 512)) e
      ∙ sym (ap (λ (x : Bool). not x && is_taken m.subpools (subpool_of m.subpools (d / 512)) d) e)

-- a sound state

module _ (settings : Settings) (m : StorageState) (sound : IsSound settings m) (p : Subpool) (d : ℕ) where
  -- a doubleword of a page that isn't the subpool's isn't in its free storage
  not-free : (o : Option Subpool) → subpool_of m.subpools (d / 512) ≡ o → (o ≡ Some p → ⊥) → m.subpools.free p d ≡ false
  not-free o e other = go (m.subpools.free p d) refl where
    go : (b : Bool) → m.subpools.free p d ≡ b → m.subpools.free p d ≡ false
    go true h = absurd (other (sym e ∙ sound.named p (d / 512) (sound.free p d h)))
    go false h = h

  free-in : (o : Option Subpool) → subpool_of m.subpools (d / 512) ≡ o → (holds (same_subpool p) o && not (is_taken m.subpools o d)) ≡ m.subpools.free p d
  free-in None e = sym (not-free None e (λ s. cc))
  free-in (Some q) e = go (same_subpool p q) refl where
    go : (b : Bool) → same_subpool p q ≡ b → (same_subpool p q && not (not (m.subpools.free q d))) ≡ m.subpools.free p d
    go true h =
        ap (λ (x : Bool). x && not (not (m.subpools.free q d))) h ∙ not-not (m.subpools.free q d) ∙ ap (λ (x : Subpool). m.subpools.free x d) (sym (same-is p q h))
    go false h =
        ap (λ (x : Bool). x && not (not (m.subpools.free q d))) h
        ∙ sym (not-free (Some q) e (λ s. (let same : q ≡ p = cc in let k : true ≡ false = sym (same-self p) ∙ ap (λ (x : Subpool). same_subpool p x) (sym same) ∙ h in cc)))

pub free_storage_is_free : FreeStorageIsFree
free_storage_is_free settings m sound p d = free-in settings m sound p d (subpool_of m.subpools (d / 512)) refl

pub unassigned_pages_are_nobodys : UnassignedPagesAreNobodys
unassigned_pages_are_nobodys settings m sound page i =
    sound.rest page ∙ ap (λ (x : Bool). x && not (is_some (subpool_of m.subpools page))) i
