-- The lines of a page, and the caret on one of them.
use Rattle.std.proofs.Common.{◌≡◌, ◌⊎◌, inl, inr, ◌<◌, ℕ, ◌+◌, zero, suc, Bool, true, false, if◌then◌else◌, is_some, append-nil, List, [], ◌∷◌, ◌++◌, length, take, get_or, replicate, Option, Some, None, IfSome, refl, sym, ap, subst, ◌∙◌, arith}
use Rattle.std.specs.Prelude.{◌==◌, slice_get, unwrap_or}
use Rattle.std.proofs.lemmas.Bool.{cases_lt}
use Rattle.std.proofs.lemmas.Bool.Decides.{eqb_tells}
use Rattle.std.proofs.lemmas.List.{length-take-le, take_more}
use Rattle.std.proofs.lemmas.Option.{slice_get_past}
use Rattle.std.specs.List.{AllByRecursion}
use Rattle.macro_operands.specs.declared.faults.FaultKind.{FaultKind}
use Rattle.script_steps.proofs.Feeds.{each_push}
use Rattle.explain_faults.specs.Places.{first_card, further_cards, HasFault, IsCaretOf, IsHeadPlace}
use Rattle.explain_faults.specs.declared.carets.Caret.{Caret}
use Rattle.explain_faults.specs.declared.lines.SourceLine.{SourceLine}
use Rattle.explain_faults.specs.declared.roles.Role.{Role}
use Rattle.macro_reader.specs.declared.reading.ReaderState.TheVariants as stand
use Rattle.explain_faults.specs.Roles.{role_in}
use Rattle.script_steps.specs.declared.responses.Response.{Response}
use Rattle.explain_list.specs.Groups.{is_lost}
use Rattle.explain_list.specs.Pages.{AreLinesOf, IsPage, IsWholePage, Precedes, ends_lost, fault_at, lost_by, mark_at, marks_in, open_of, shown_of, stand_at_end}
use Rattle.explain_list.specs.Rows.{AreMarksOf, IsLineAt, IsLineBefore, LacksMark, marks_on}
use Rattle.explain_list.specs.declared.pages.ListingPage.{ListingPage}

each_get : {X : Type 0} (P : X → Type 0) (xs : List X) (i : ℕ) (d : X) → i < length xs → AllByRecursion P xs → P (get_or xs i d)
each_get P [] i d inside h = absurd (omega arith)
each_get P (x ∷ xs) zero d inside h = h.0
each_get P (x ∷ xs) (suc i) d inside h = each_get P xs i d (omega arith) h.1

pub if_some : {X : Type 0} (P Q : X → Type 0) (o : Option X) → ((x : X) → P x → Q x) → IfSome o P → IfSome o Q
if_some P Q None f h = tt
if_some P Q (Some x) f h = f x h

get_last : (xs : List SourceLine) (x : SourceLine) → slice_get (xs ++ x ∷ []) (length xs) ≡ Some x
get_last [] x = refl
get_last (y ∷ xs) x = get_last xs x

get_other : (xs : List SourceLine) (x : SourceLine) (i : ℕ) → (i ≡ length xs → ⊥) → slice_get (xs ++ x ∷ []) i ≡ slice_get xs i
get_other [] x zero h = absurd (h refl)
get_other [] x (suc i) h = refl
get_other (y ∷ xs) x zero h = refl
get_other (y ∷ xs) x (suc i) h = get_other xs x i (λ e. h (ap (λ n. suc n) e))

-- lines that exist, or none
pub none_of : (script : List ℕ) (lines : List SourceLine) → lines ≡ [] → AllByRecursion (IsLineAt script) lines
none_of script lines is = subst (AllByRecursion (IsLineAt script)) (sym is) tt

pub one_more : (script : List ℕ) (before after : List SourceLine) (line : SourceLine) → (after ≡ before ++ line ∷ []) ⊎ (after ≡ before) → IsLineAt script line
    → AllByRecursion (IsLineAt script) before → AllByRecursion (IsLineAt script) after
one_more script before after line (inl is) at h = subst (AllByRecursion (IsLineAt script)) (sym is) (each_push (IsLineAt script) before line h at)
one_more script before after line (inr is) at h = subst (AllByRecursion (IsLineAt script)) (sym is) h

-- where no lines are shown no fault has a caret, nor where they haven't the fault
pub none_lacks : (script : List ℕ) (kind : Option FaultKind) → LacksMark script [] kind
none_lacks script None = tt
none_lacks script (Some kind) = tt

pub lacks_of : (script : List ℕ) (lines : List SourceLine) (kind : FaultKind) → (HasFault (first_card script lines) (further_cards script lines) kind → ⊥)
    → LacksMark script lines (Some kind)
lacks_of script [] kind h = tt
lacks_of script (line ∷ lines) kind h = h

either_of : (b : Bool) (xs : List SourceLine) → ((if b then xs else []) ≡ xs) ⊎ ((if b then xs else []) ≡ [])
either_of true xs = inl refl
either_of false xs = inr refl

pub shown_either : (page : ListingPage) (shown : List SourceLine) → shown ≡ shown_of page → (shown ≡ page.lines.lines.items) ⊎ (shown ≡ [])
shown_either page shown is =
    elim (either_of (is_some page.last) page.lines.lines.items) [ inl e ↦ inl (is ∙ e) | inr e ↦ inr (is ∙ e) ]

-- what is shown and what isn't
both_of : (b : Bool) (xs : List SourceLine) → (if b then xs else []) ++ (if b then [] else xs) ≡ xs
both_of true xs = append-nil xs
both_of false xs = refl

pub whole_of : (page : ListingPage) → shown_of page ++ open_of page ≡ page.lines.lines.items
whole_of page = both_of (is_some page.last) page.lines.lines.items

pub open_none : (page : ListingPage) → page.last ≡ None → open_of page ≡ page.lines.lines.items
open_none page none = ap (λ l. if is_some l then [] else page.lines.lines.items) none

pub shown_none : (page : ListingPage) → page.last ≡ None → shown_of page ≡ []
shown_none page none = ap (λ l. if is_some l then page.lines.lines.items else []) none

-- a page that shows nothing
pub plain_page : (script : List ℕ) (kind : Option FaultKind) (page : ListingPage) → AreLinesOf script page → page.fault ≡ None → page.last ≡ None
    → IsPage script kind page
plain_page script kind page lines none last = record {
  lines = lines;
  on = subst (λ f. IfSome f (λ (x : Caret × FaultKind). 0 < length page.lines.lines.items → x.0.place.line < length page.lines.lines.items)) (sym none) tt;
  head = subst (λ f. IfSome f (λ (x : Caret × FaultKind). IsHeadPlace (first_card script page.lines.lines.items) x.1 x.0.place)) (sym none) tt;
  lacks = λ e. subst (λ ls. LacksMark script ls kind) (sym (shown_none page last)) (none_lacks script kind);
  marks = subst (λ f. IfSome f (λ x. (kind ≡ Some x.1) × IsCaretOf (first_card script page.lines.lines.items) (further_cards script page.lines.lines.items) x.1 x.0)) (sym none) tt;
}

pub open_some : (page : ListingPage) (role : Role) → page.last ≡ Some role → open_of page ≡ []
open_some page role some = ap (λ l. if is_some l then [] else page.lines.lines.items) some

pub shown_some : (page : ListingPage) (role : Role) → page.last ≡ Some role → shown_of page ≡ page.lines.lines.items
shown_some page role some = ap (λ l. if is_some l then page.lines.lines.items else []) some

-- the lines that are shown are lines of the script
pub shown_line : (script : List ℕ) (kind : Option FaultKind) (page : ListingPage) (shown : List SourceLine) (i : ℕ) (d : SourceLine) → IsPage script kind page
    → (shown ≡ page.lines.lines.items) ⊎ (shown ≡ []) → i < length shown → IsLineAt script (get_or shown i d)
shown_line script kind page shown i d h (inl is) inside =
    each_get (IsLineAt script) shown i d inside (subst (AllByRecursion (IsLineAt script)) (sym is) h.lines.each)
shown_line script kind page shown i d h (inr is) inside =
    each_get (IsLineAt script) shown i d inside (none_of script shown is)

pub shown_are : (script : List ℕ) (kind : Option FaultKind) (page : ListingPage) → IsPage script kind page → AllByRecursion (IsLineAt script) (shown_of page)
shown_are script kind page h =
    elim (either_of (is_some page.last) page.lines.lines.items) [
      | inl e ↦ subst (AllByRecursion (IsLineAt script)) (sym e) h.lines.each
      | inr e ↦ none_of script (shown_of page) e
    ]

-- the carets on some lines and on one more
marks_more : (lines : List SourceLine) (line : SourceLine) (fault : Option (Caret × FaultKind))
    → marks_in lines fault ++ marks_on line (fault_at fault (length lines)) ≡ marks_in (lines ++ line ∷ []) fault
marks_more lines line None = refl
marks_more lines line (Some f) =
    let i = f.0.place.line in
    elim (eqb_tells i (length lines)) [
      | inl e ↦
          let past : slice_get lines i ≡ None = slice_get_past lines i (omega (arith, e.1)) in
          let here : slice_get (lines ++ line ∷ []) i ≡ Some line = ap (slice_get (lines ++ line ∷ [])) e.1 ∙ get_last lines line in
          ap (λ l. mark_at f l ++ marks_on line (if i == length lines then Some f else None)) past
          ∙ ap (λ b. marks_on line (if b then Some f else None)) e.0
          ∙ sym (ap (mark_at f) here)
      | inr e ↦
          ap (λ b. mark_at f (slice_get lines i) ++ marks_on line (if b then Some f else None)) e.0
          ∙ append-nil (mark_at f (slice_get lines i))
          ∙ sym (ap (mark_at f) (get_other lines line i e.1))
    ]

pub marks_next : (lines : List SourceLine) (d : SourceLine) (i : ℕ) (fault : Option (Caret × FaultKind)) → i < length lines
    → marks_in (take i lines) fault ++ marks_on (get_or lines i d) (fault_at fault i) ≡ marks_in (take (i + 1) lines) fault
marks_next lines d i fault inside =
    let size : length (take i lines) ≡ i = length-take-le i lines (omega (arith, inside)) in
    ap (λ k. marks_in (take i lines) fault ++ marks_on (get_or lines i d) (fault_at fault k)) (sym size)
    ∙ marks_more (take i lines) (get_or lines i d) fault
    ∙ ap (λ ls. marks_in ls fault) (sym (take_more lines i d inside))

-- before the first line there is none
pub marks_none : (fault : Option (Caret × FaultKind)) → [] ≡ marks_in [] fault
marks_none None = refl
marks_none (Some f) = refl

-- that of a page is its fault's
got_inside : {X : Type 0} (xs : List X) (i : ℕ) → i < length xs → slice_get xs i ≡ None → ⊥
got_inside [] i inside is = absurd (omega arith)
got_inside (x ∷ xs) zero inside is = cc
got_inside (x ∷ xs) (suc i) inside is = got_inside xs i (omega (arith, inside)) is

mark_is : (script : List ℕ) (lines : List SourceLine) (kind : FaultKind) (f : Caret × FaultKind) (o : Option SourceLine) → kind ≡ f.1
    → IsCaretOf (first_card script lines) (further_cards script lines) f.1 f.0 → IsHeadPlace (first_card script lines) f.1 f.0.place → f.0.place.line < length lines
    → slice_get lines f.0.place.line ≡ o → AreMarksOf script lines (Some kind) (mark_at f o)
mark_is script lines kind f None its own head within on = absurd (got_inside lines f.0.place.line within on)
mark_is script lines kind f (Some line) its own head within on = (its, record { caret = f.0; own = own; head = head; on = on; column = refl; width = refl })

never_lacks : (script : List ℕ) (lines : List SourceLine) (kind : FaultKind) → 0 < length lines → HasFault (first_card script lines) (further_cards script lines) kind
    → LacksMark script lines (Some kind) → ⊥
never_lacks script [] kind some has lacks = absurd (omega (arith, some))
never_lacks script (line ∷ lines) kind some has lacks = lacks has

abbrev pub HasIts : List ℕ → List SourceLine → Option FaultKind → Type 0
HasIts script lines kind = IfSome kind (λ k. (0 < length lines) × HasFault (first_card script lines) (further_cards script lines) k)

marks_are : (script : List ℕ) (lines : List SourceLine) (kind : Option FaultKind) (fault : Option (Caret × FaultKind)) → HasIts script lines kind
    → IfSome fault (λ f. (kind ≡ Some f.1) × IsCaretOf (first_card script lines) (further_cards script lines) f.1 f.0)
    → IfSome fault (λ f. IsHeadPlace (first_card script lines) f.1 f.0.place)
    → IfSome fault (λ f. 0 < length lines → f.0.place.line < length lines) → (fault ≡ None → LacksMark script lines kind)
    → AreMarksOf script lines kind (marks_in lines fault)
marks_are script lines None None has h head within lacks = tt
marks_are script lines None (Some f) has h head within lacks = (let bad : None ≡ Some f.1 = h.0 in cc)
marks_are script lines (Some k) None has h head within lacks = absurd (never_lacks script lines k has.0 has.1 (lacks refl))
marks_are script lines (Some k) (Some f) has h head within lacks = (let same : k ≡ f.1 = (let e : Some k ≡ Some f.1 = h.0 in cc) in mark_is script lines k f (slice_get lines f.0.place.line) same h.1 head (within has.0) refl)

no_marks : (script : List ℕ) (kind : Option FaultKind) (fault : Option (Caret × FaultKind)) → HasIts script [] kind → AreMarksOf script [] kind (marks_in [] fault)
no_marks script None None has = tt
no_marks script None (Some f) has = tt
no_marks script (Some k) fault has = absurd (omega (arith, has.0))

pub page_marks : (script : List ℕ) (kind : Option FaultKind) (page : ListingPage) → IsPage script kind page → IsWholePage script kind page
    → AreMarksOf script (shown_of page) kind (marks_in (shown_of page) page.fault)
page_marks script kind page h w =
    elim (either_of (is_some page.last) page.lines.lines.items) [
      | inl e ↦
          marks_are script (shown_of page) kind page.fault w.has
          (subst (λ ls. IfSome page.fault (λ f. (kind ≡ Some f.1) × IsCaretOf (first_card script ls) (further_cards script ls) f.1 f.0)) (sym e) h.marks)
          (subst (λ ls. IfSome page.fault (λ f. IsHeadPlace (first_card script ls) f.1 f.0.place)) (sym e) h.head)
          (subst (λ (ls : List SourceLine). IfSome page.fault (λ f. 0 < length ls → f.0.place.line < length ls)) (sym e) h.on) h.lacks
      | inr e ↦
          subst (λ ls. AreMarksOf script ls kind (marks_in ls page.fault)) (sym e) (no_marks script kind page.fault (subst (λ ls. HasIts script ls kind) e w.has))
    ]

-- ---- what the last of the lines is

ends_by_last : (page : ListingPage) (its : Role) (index : ℕ) (l : Option Role) → page.last ≡ l → index + 1 ≡ length (shown_of page)
    → ((last : Role) → page.last ≡ Some last → index + 1 ≡ length (shown_of page) → its ≡ last) → is_lost (role_in its) ≡ ends_lost l
ends_by_last page its index None e at f = absurd (omega (arith, at, ap (λ (ls : List SourceLine). length ls) (shown_none page e)))
ends_by_last page its index (Some last) e at f = ap (λ (r : Role). is_lost (role_in r)) (f last e at)

pub ends_of : (page : ListingPage) (its : Role) (index : ℕ) → index + 1 ≡ length (shown_of page)
    → ((last : Role) → page.last ≡ Some last → index + 1 ≡ length (shown_of page) → its ≡ last) → is_lost (role_in its) ≡ ends_lost page.last
ends_of page its index at f = ends_by_last page its index page.last refl at f

-- and the state of a reader at the end
pub open_stands : (told : Option (ℕ × Response)) (b : Bool) → is_some told ≡ b → (if b then stand.Gathering else stand.Awaiting) ≡ stand_at_end told
open_stands None true e = cc
open_stands None false e = refl
open_stands (Some told) true e = refl
open_stands (Some told) false e = cc

-- ---- which of the lines isn't carried out

pub lost_last : (last : Bool) (lines : List SourceLine) (i : ℕ) → i + 1 ≡ length lines → get_or (lost_by last lines) i false ≡ last
lost_last last [] i at = absurd (omega (arith, at))
lost_last last (line ∷ []) zero at = refl
lost_last last (line ∷ []) (suc i) at = absurd (omega (arith, at))
lost_last last (line ∷ next ∷ lines) zero at = absurd (omega (arith, at))
lost_last last (line ∷ next ∷ lines) (suc i) at = lost_last last (next ∷ lines) i (omega (arith, at))

pub lost_other : (last : Bool) (lines : List SourceLine) (i : ℕ) → i + 1 < length lines → get_or (lost_by last lines) i false ≡ false
lost_other last [] i at = absurd (omega (arith, at))
lost_other last (line ∷ []) i at = absurd (omega (arith, at))
lost_other last (line ∷ next ∷ lines) zero at = refl
lost_other last (line ∷ next ∷ lines) (suc i) at = lost_other last (next ∷ lines) i (omega (arith, at))

pub length_lost : (last : Bool) (lines : List SourceLine) → length (lost_by last lines) ≡ length lines
length_lost last [] = refl
length_lost last (line ∷ []) = refl
length_lost last (line ∷ next ∷ lines) = ap (λ n. suc n) (length_lost last (next ∷ lines))

pub lost_push : (last : Bool) (lines : List SourceLine) (line : SourceLine) → lost_by last (lines ++ line ∷ []) ≡ replicate (length lines) false ++ last ∷ []
lost_push last [] line = refl
lost_push last (x ∷ []) line = refl
lost_push last (x ∷ y ∷ lines) line = ap (λ t. false ∷ t) (lost_push last (y ∷ lines) line)

-- the last of some lines, by where it is
pub as_last : {X : Type 0} (xs : List X) (i : ℕ) (d : X) → i + 1 ≡ length xs → xs ≡ take i xs ++ get_or xs i d ∷ []
as_last [] i d at = absurd (omega (arith, at))
as_last (x ∷ []) zero d at = refl
as_last (x ∷ []) (suc i) d at = absurd (omega (arith, at))
as_last (x ∷ y ∷ xs) zero d at = absurd (omega (arith, at))
as_last (x ∷ y ∷ xs) (suc i) d at = ap (λ t. x ∷ t) (as_last (y ∷ xs) i d (omega (arith, at)))

pub lost_at : (script : List ℕ) (kind : Option FaultKind) (page : ListingPage) (shown : List SourceLine) (i : ℕ) (d : SourceLine) (o : Option SourceLine) → IsWholePage script kind page
    → shown ≡ shown_of page → i < length shown → (i + 1 ≡ length (shown_of page) → Precedes page (get_or shown i d) → is_some o ≡ ends_lost page.last)
    → (i + 1 < length (shown_of page) → is_some o ≡ false) → is_some o ≡ get_or (lost_by (ends_lost page.last) shown) i false
lost_at script kind page shown i d o w same inside last other =
    let size : length shown ≡ length (shown_of page) = ap (λ (ls : List SourceLine). length ls) same in
    elim (cases_lt (i + 1) (length shown)) [
      | inl less ↦ other (omega (arith, less, size)) ∙ sym (lost_other (ends_lost page.last) shown i less)
      | inr more ↦
          let at : i + 1 ≡ length shown = omega (arith, more, inside) in
          last (omega (arith, at, size)) (w.before (take i shown) (get_or shown i d) (sym same ∙ as_last shown i d at))
          ∙ sym (lost_last (ends_lost page.last) shown i at)
    ]

-- the line before the last, if it's kept
pub precedes_at : (script : List ℕ) (page : ListingPage) (line none : SourceLine) → AreLinesOf script page
    → (before : SourceLine) × (page.before ≡ Some before) × (before.number + 1 ≡ line.number) → IsLineBefore script line (unwrap_or page.before none)
precedes_at script page line none are (before, is, number) =
    let at : IsLineAt script before = subst (λ o. IfSome o (IsLineAt script)) is are.before in
    subst (λ o. IsLineBefore script line (unwrap_or o none)) (sym is) (at, number)
