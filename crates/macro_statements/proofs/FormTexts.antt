-- A text for each operand that a valid request of STORAGE, GETMAIN or FREEMAIN has, and what they are read as together.
use Rattle.std.proofs.Common.{◌≡◌, ℕ, ◌+◌, ◌≤◌, Bool, true, false, ◌&&◌, List, [], ◌∷◌, length, map, Option, Some, None, is_some, codes, option_and_then, nat_le, slice_index, if◌then◌else◌, arith, refl, ap, ◌∙◌}
use Rattle.std.specs.List.{AllByRecursion, list_all}
use Rattle.std.proofs.lemmas.Bool.Decides.{nat_tests}
use Rattle.std.specs.Option.{IfSome, option_map}
use Rattle.std.specs.Char.{to_ascii_uppercase}
use Rattle.std.proofs.lemmas.List.{length-append}
use Rattle.std.proofs.lemmas.Slice.Eq.{bytes_eq-Decides}
use Rattle.operand_texts.specs.Field.{outside}
use Rattle.operand_texts.specs.Words.{is_letter, is_name_byte, is_name, is_word}
use Rattle.operand_texts.specs.Written.{Written, named, Target, in_name, is_upper_name, IsValue, IsTarget}
use Rattle.operand_texts.proofs.OperandTexts.{IsOperand, goes_plain, plain_name, joined}
use Rattle.operand_texts.proofs.ValueTexts.{value_text_of, place_text_of}
use Rattle.macro_operands.specs.Rows.{Key, keyword, is_among, Entry, entry, Row}
use Rattle.macro_operands.specs.Operands.{entry_for, is_excluded, unless_fault}
use Rattle.macro_operands.specs.Lengths.{is_register_0, name_of}
use Rattle.macro_operands.specs.Said.{Said, name, pair, condition, boundary, location, value_said, place_said, name_said, said_of, value_or_pair}
use Rattle.macro_operands.specs.Slots.{Slots, readings, as_value, as_pair, as_place}
use Rattle.macro_operands.specs.declared.rows.Kind.{Kind}
use Rattle.macro_operands.specs.declared.rows.Kind.TheVariants as kind
use Rattle.macro_operands.proofs.PairTexts.{pair_text_of}
use Rattle.macro_operands.proofs.ReadValues.{value_kept, no_pair, some_kept, place_kept, some_place_kept, besides_kept}
use Rattle.macro_operands.proofs.WrittenOperands.{keyed, Item, item, operand_text, Fits, AllFit, no_fault_from, lookup, stand, AllFew, long_first, read_back}
use Rattle.macro_operands.proofs.WrittenOperands as operands
use Rattle.macro_operands.specs.Requests.{WrittenLength, fixed, between, IsLength}
use Rattle.macro_statements.specs.Forms.{storage_row, StorageForm, asked_by, form_with, as_length, either_length}
use Rattle.macro_operands.specs.declared.requests.Form.{Form}
use Rattle.vsm_model.specs.declared.services.Boundary.{Boundary}
use Rattle.vsm_model.specs.declared.services.Boundary.TheVariants.{Doubleword, Page}
use Rattle.vsm_model.specs.declared.services.Location.{Location}
use Rattle.vsm_model.specs.declared.services.Location.TheVariants.{Low, Either, Caller}

-- an operand that is written or left out, and what is read of it
pub record Spelled (most : ℕ) (k : Kind) (said : Option Said) : Type 0 where
  pub text : Option (List ℕ)
  pub says : option_and_then (said_of k) text ≡ said
  pub stands : IfSome text (λ t. (is_some (said_of k t) ≡ true) × IsOperand t)
  pub few : IfSome text (λ t. length t ≤ most)

pub spelled_as : (most : ℕ) (k : Kind) (s : Said) (t : List ℕ) → said_of k t ≡ Some s → IsOperand t → length t ≤ most → Spelled most k (Some s)
spelled_as most k s t e o f = record { text = Some t; says = e; stands = (ap is_some e, o); few = f }

pub unsaid : (most : ℕ) (k : Kind) → Spelled most k None
unsaid most k = record { text = None; says = refl; stands = tt; few = tt }

-- a value
pub record SpelledValue (most : ℕ) (k : Kind) (v : Written) : Type 0 where
  pub said : Option Said
  pub spelled : Spelled most k said
  pub is : as_value said ≡ Some v
  pub single : as_pair said ≡ None

kept : (most : ℕ) (k : Kind) (v : Written) (s : Option Said) (t : List ℕ) → said_of k t ≡ s → as_value s ≡ Some v → as_pair s ≡ None → IsOperand t → length t ≤ most
    → SpelledValue most k v
kept most k v s t e a p o f = record {
  said = s;
  spelled = record { text = Some t; says = e; stands = (ap is_some e ∙ some_kept s v a, o); few = f };
  is = a;
  single = p;
}

pub value_spelled : (v : Written) → IsValue v → SpelledValue 63 kind.Value v
value_spelled v h =
    let t = value_text_of v h in
    kept 63 kind.Value v (value_said t.text) t.text refl (value_kept t.text ∙ t.spells) (no_pair t.text) (t.neat.goes 0) t.neat.few

-- lengths
pub fixed_spelled : (v : Written) → IsValue v → SpelledValue 129 kind.Value v
fixed_spelled v h =
    let t = value_text_of v h in
    let few : length t.text ≤ 63 = t.neat.few in
    kept 129 kind.Value v (value_said t.text) t.text refl (value_kept t.text ∙ t.spells) (no_pair t.text) (t.neat.goes 0) (omega (arith, few))

pub besides_0_spelled : (v : Written) → IsValue v → is_register_0 v ≡ false → SpelledValue 129 kind.RegisterLength v
besides_0_spelled v h n =
    let t = value_text_of v h in
    let few : length t.text ≤ 63 = t.neat.few in
    let is : as_value (value_said t.text) ≡ Some v = value_kept t.text ∙ t.spells in
    kept 129 kind.RegisterLength v (value_said t.text) t.text (besides_kept (value_said t.text) v is n) is (no_pair t.text) (t.neat.goes 0) (omega (arith, few))

pub record SpelledLength (l : WrittenLength) : Type 0 where
  pub said : Option Said
  pub spelled : Spelled 129 kind.Length said
  pub is : as_length said ≡ Some l

pub one_length : (s : Option Said) (v : Written) → as_value s ≡ Some v → as_length s ≡ Some (fixed v)
one_length s v h = ap (λ x. either_length x (as_pair s)) h

value_first : (s : Option Said) (v : Written) (t : List ℕ) → as_value s ≡ Some v → value_or_pair s t ≡ s
value_first None v t h = cc
value_first (Some s) v t h = refl

pub length_spelled : (l : WrittenLength) → IsLength l → SpelledLength l
length_spelled (fixed v) h =
    let t = value_text_of v h in
    let few : length t.text ≤ 63 = t.neat.few in
    let is : as_value (value_said t.text) ≡ Some v = value_kept t.text ∙ t.spells in
    let x = kept 129 kind.Length v (value_said t.text) t.text (value_first (value_said t.text) v t.text is) is (no_pair t.text) (t.neat.goes 0) (omega (arith, few)) in
    record { said = x.said; spelled = x.spelled; is = one_length x.said v x.is }
length_spelled (between a b) h =
    let t = pair_text_of a b h.0 h.1 in
    record {
      said = Some (pair t.text);
      spelled = spelled_as 129 kind.Length (pair t.text) t.text
          (ap (λ x. value_or_pair x t.text) t.other ∙ ap (λ x. if is_some x then Some (pair t.text) else None) t.spells) t.stands t.few;
      is = ap (λ x. either_length None x) t.spells;
    }

-- places, and plain names
pub record SpelledPlace (k : Kind) (p : Option Target) : Type 0 where
  pub said : Option Said
  pub spelled : Spelled 63 k said
  pub is : as_place said ≡ p

pub place_spelled : (p : Option Target) → IfSome p IsTarget → SpelledPlace kind.Place p
place_spelled None h = record { said = None; spelled = unsaid 63 kind.Place; is = refl }
place_spelled (Some p) h =
    let t = place_text_of p h in
    let is : as_place (place_said t.text) ≡ Some p = place_kept t.text ∙ t.spells in
    record {
      said = place_said t.text;
      spelled = record { text = Some t.text; says = refl; stands = (some_place_kept (place_said t.text) p is, t.neat.goes 0); few = t.neat.few };
      is = is;
    }

both : (x y : Bool) → (x && y) ≡ true → (x ≡ true) × (y ≡ true)
both true y h = (refl, h)
both false y h = cc

pub name_is : (n : List ℕ) → is_upper_name n ≡ true → name_of n ≡ Some n
name_is n h =
    let b = both (is_name n) (is_word n n) h in
    ap (λ x. if x then Some (map to_ascii_uppercase n) else None) b.0 ∙ ap (λ x. Some x) ((bytes_eq-Decides (map to_ascii_uppercase n) n).0 b.1)

pub name_few : (n : List ℕ) → is_name n ≡ true → length n ≤ 63
name_few n h = let t = (both (nat_le 1 (length n)) (nat_le (length n) 63) (both _ (is_letter (slice_index n 0)) (both _ (list_all is_name_byte n) h).0).0).1 in grind (arith, nat_tests, t)

pub name_stands : (n : List ℕ) → is_name n ≡ true → IsOperand n
name_stands n h = goes_plain outside n (plain_name n h)

pub name_kept : (n : List ℕ) → is_name n ≡ true → name_said n ≡ Some (name n)
name_kept n h = ap (λ b. if b then Some (name n) else None) h

pub named_value_spelled : (n : List ℕ) → is_upper_name n ≡ true → SpelledValue 63 kind.NamedValue (named n)
named_value_spelled n h =
    let b = both (is_name n) (is_word n n) h in
    kept 63 kind.NamedValue (named n) (Some (name n)) n (name_kept n b.0) (ap (λ x. option_map named x) (name_is n h)) refl (name_stands n b.0) (name_few n b.0)

pub named_place_spelled : (n : List ℕ) → is_upper_name n ≡ true → SpelledPlace kind.Name (Some (in_name n))
named_place_spelled n h =
    let b = both (is_name n) (is_word n n) h in
    record {
      said = Some (name n);
      spelled = spelled_as 63 kind.Name (name n) n (name_kept n b.0) (name_stands n b.0) (name_few n b.0);
      is = ap (λ x. option_map in_name x) (name_is n h);
    }

-- words
pub condition_spelled : (c : Bool) → Spelled 63 kind.Condition (Some (condition c))
condition_spelled true = spelled_as 63 kind.Condition (condition true) (codes "YES") refl (name_stands (codes "YES") refl) (omega arith)
condition_spelled false = spelled_as 63 kind.Condition (condition false) (codes "NO") refl (name_stands (codes "NO") refl) (omega arith)

pub boundary_spelled : (b : Boundary) → Spelled 63 kind.Boundary (Some (boundary b))
boundary_spelled Doubleword = spelled_as 63 kind.Boundary (boundary Doubleword) (codes "DBLWD") refl (name_stands (codes "DBLWD") refl) (omega arith)
boundary_spelled Page = spelled_as 63 kind.Boundary (boundary Page) (codes "PAGE") refl (name_stands (codes "PAGE") refl) (omega arith)

pub location_spelled : (l : Location) → Spelled 63 kind.Location (Some (location l))
location_spelled Low = spelled_as 63 kind.Location (location Low) (codes "BELOW") refl (name_stands (codes "BELOW") refl) (omega arith)
location_spelled Either = spelled_as 63 kind.Location (location Either) (codes "ANY") refl (name_stands (codes "ANY") refl) (omega arith)
location_spelled Caller = spelled_as 63 kind.Location (location Caller) (codes "RES") refl (name_stands (codes "RES") refl) (omega arith)

-- the operands of a form, each with its key and its text or none
abbrev pub other_items : List ℕ → Option (List ℕ) → Option (List ℕ) → Option (List ℕ) → Option (List ℕ) → Option (List ℕ) → List Item
other_items address_word s a b o c =
    item (keyword (codes "SP")) s ∷ item (keyword address_word) a ∷ item (keyword (codes "BNDRY")) b ∷ item (keyword (codes "LOC")) o
    ∷ item (keyword (codes "COND")) c ∷ []

abbrev pub form_items : List ℕ → List ℕ → Option (List ℕ) → Option (List ℕ) → Option (List ℕ) → Option (List ℕ) → Option (List ℕ) → Option (List ℕ) → List Item
form_items length_word address_word l s a b o c = item (keyword length_word) l ∷ other_items address_word s a b o c

pub with_keyword : (row : Row) (before : List Key) (i : ℕ) (k : List ℕ) (e : Entry) (t : Option (List ℕ)) → is_name k ≡ true → map to_ascii_uppercase k ≡ k
    → entry_for row.entries (keyword k) ≡ Some e → is_excluded before e.excluded ≡ false → is_among before (keyword k) ≡ false
    → IfSome t (λ t. (is_some (said_of e.kind t) ≡ true) × IsOperand t) → Fits row before i (keyword k) t
with_keyword row before i k e None n u has free once says = record { entry = e; has = has; free = free; once = once; says = tt }
with_keyword row before i k e (Some t) n u has free once says =
    record { entry = e; has = has; free = free; once = once; says = (says.0, keyed i k t n u says.1) }

-- those of STORAGE
abbrev length_row : Kind → Kind → Kind → Kind → Kind → Row
length_row lk ak bk ok ck = storage_row (codes "LENGTH") lk (codes "ADDR") ak bk ok ck

length_fit : (lk ak bk ok ck : Kind) (ls ss ps bs os cs : Option Said)
    (l : Spelled 129 lk ls) (s : Spelled 63 kind.Value ss) (a : Spelled 63 ak ps) (b : Spelled 63 bk bs) (o : Spelled 63 ok os) (c : Spelled 63 ck cs)
    → AllFit (length_row lk ak bk ok ck) [] 0 (form_items (codes "LENGTH") (codes "ADDR") l.text s.text a.text b.text o.text c.text)
length_fit lk ak bk ok ck ls ss ps bs os cs l s a b o c =
    let row : Row = length_row lk ak bk ok ck in (
      with_keyword row _ _ (codes "LENGTH") (entry (keyword (codes "LENGTH")) lk) l.text refl refl refl refl refl l.stands,
      (
        with_keyword row _ _ (codes "SP") (entry (keyword (codes "SP")) kind.Value) s.text refl refl refl refl refl s.stands,
        (
          with_keyword row _ _ (codes "ADDR") (entry (keyword (codes "ADDR")) ak) a.text refl refl refl refl refl a.stands,
          (
            with_keyword row _ _ (codes "BNDRY") (entry (keyword (codes "BNDRY")) bk) b.text refl refl refl refl refl b.stands,
            (
              with_keyword row _ _ (codes "LOC") (entry (keyword (codes "LOC")) ok) o.text refl refl refl refl refl o.stands,
              (with_keyword row _ _ (codes "COND") (entry (keyword (codes "COND")) ck) c.text refl refl refl refl refl c.stands, tt),
            ),
          ),
        ),
      ),
    )

-- those of GETMAIN and FREEMAIN
abbrev lv_row : Kind → Kind → Kind → Kind → Kind → Row
lv_row lk ak bk ok ck = storage_row (codes "LV") lk (codes "A") ak bk ok ck

lv_fit : (lk ak bk ok ck : Kind) (ls ss ps bs os cs : Option Said)
    (l : Spelled 129 lk ls) (s : Spelled 63 kind.Value ss) (a : Spelled 63 ak ps) (b : Spelled 63 bk bs) (o : Spelled 63 ok os) (c : Spelled 63 ck cs)
    → AllFit (lv_row lk ak bk ok ck) [] 0 (form_items (codes "LV") (codes "A") l.text s.text a.text b.text o.text c.text)
lv_fit lk ak bk ok ck ls ss ps bs os cs l s a b o c =
    let row : Row = lv_row lk ak bk ok ck in (
      with_keyword row _ _ (codes "LV") (entry (keyword (codes "LV")) lk) l.text refl refl refl refl refl l.stands,
      (
        with_keyword row _ _ (codes "SP") (entry (keyword (codes "SP")) kind.Value) s.text refl refl refl refl refl s.stands,
        (
          with_keyword row _ _ (codes "A") (entry (keyword (codes "A")) ak) a.text refl refl refl refl refl a.stands,
          (
            with_keyword row _ _ (codes "BNDRY") (entry (keyword (codes "BNDRY")) bk) b.text refl refl refl refl refl b.stands,
            (
              with_keyword row _ _ (codes "LOC") (entry (keyword (codes "LOC")) ok) o.text refl refl refl refl refl o.stands,
              (with_keyword row _ _ (codes "COND") (entry (keyword (codes "COND")) ck) c.text refl refl refl refl refl c.stands, tt),
            ),
          ),
        ),
      ),
    )

-- how long they are
pub keyed_few : (k : List ℕ) (most all : ℕ) (t : Option (List ℕ)) → length k + most + 1 ≤ all → IfSome t (λ t. length t ≤ most)
    → IfSome t (λ t. length (operand_text (keyword k) t) ≤ all)
keyed_few k most all None h few = tt
keyed_few k most all (Some t) h few = let a = length-append k (61 ∷ t) in omega (arith, a, h, few)

-- what is written, and what a form with these operands asks for
pub record WrittenForm (f : StorageForm) (slots : Slots) : Type 0 where
  pub rest : List (List ℕ)
  pub stand : AllByRecursion IsOperand rest
  pub reads : form_with f rest ≡ asked_by f slots
  pub few : (o : List ℕ) → length (joined o rest) ≤ length o + 501

abbrev pub six_said : Option Said → Option Said → Option Said → Option Said → Option Said → Option Said → Slots
six_said l s a b o c = l ∷ s ∷ a ∷ b ∷ o ∷ c ∷ None ∷ None ∷ None ∷ []

same_slots : (l s a b o c l' s' a' b' o' c' : Option Said) → l ≡ l' → s ≡ s' → a ≡ a' → b ≡ b' → o ≡ o' → c ≡ c'
    → six_said l s a b o c ≡ six_said l' s' a' b' o' c'
same_slots l s a b o c l' s' a' b' o' c' h₁ h₂ h₃ h₄ h₅ h₆ = rw (h₁, h₂, h₃, h₄, h₅, h₆) refl

form_reads : (f : StorageForm) (items : List Item) (slots : Slots) → AllFit f.row [] 0 items
    → map (λ (e : Entry). option_and_then (said_of e.kind) (lookup e.key items)) f.row.entries ≡ slots
    → form_with f (operands.written items) ≡ asked_by f slots
form_reads f items slots h e =
    ap (λ w. unless_fault w (asked_by f (readings f.row.entries (operands.written items)))) (no_fault_from f.row [] [] (λ k e. e) 0 items h)
    ∙ ap (λ r. asked_by f r) (read_back f.row items h f.row.entries ∙ e)

abbrev form_of : List ℕ → Bool → Row → Form → StorageForm
form_of word obtains row form = record { word = word; obtains = obtains; row = row; form = form }

pub length_form : (word : List ℕ) (obtains : Bool) (form : Form) (lk ak bk ok ck : Kind) (ls ss ps bs os cs : Option Said)
    (l : Spelled 129 lk ls) (s : Spelled 63 kind.Value ss) (a : Spelled 63 ak ps) (b : Spelled 63 bk bs) (o : Spelled 63 ok os) (c : Spelled 63 ck cs)
    → WrittenForm (form_of word obtains (length_row lk ak bk ok ck) form) (six_said ls ss ps bs os cs)
length_form word obtains form lk ak bk ok ck ls ss ps bs os cs l s a b o c =
    let items : List Item = form_items (codes "LENGTH") (codes "ADDR") l.text s.text a.text b.text o.text c.text in
    let fit = length_fit lk ak bk ok ck ls ss ps bs os cs l s a b o c in
    record {
      rest = operands.written items;
      stand = stand (length_row lk ak bk ok ck) [] 0 items fit;
      reads = form_reads (form_of word obtains (length_row lk ak bk ok ck) form) items (six_said ls ss ps bs os cs) fit
          (same_slots _ _ _ _ _ _ _ _ _ _ _ _ l.says s.says a.says b.says o.says c.says);
      few = λ w. (let all = long_first w (keyword (codes "LENGTH")) l.text (other_items (codes "ADDR") s.text a.text b.text o.text c.text) (keyed_few (codes "LENGTH") 129 140 l.text (omega arith) l.few) (
        keyed_few (codes "SP") 63 71 s.text (omega arith) s.few,
        (
          keyed_few (codes "ADDR") 63 71 a.text (omega arith) a.few,
          (
            keyed_few (codes "BNDRY") 63 71 b.text (omega arith) b.few,
            (
              keyed_few (codes "LOC") 63 71 o.text (omega arith) o.few,
              (keyed_few (codes "COND") 63 71 c.text (omega arith) c.few, tt),
            ),
          ),
        ),
      ) in omega (arith, all));
    }

pub lv_form : (word : List ℕ) (obtains : Bool) (form : Form) (lk ak bk ok ck : Kind) (ls ss ps bs os cs : Option Said)
    (l : Spelled 129 lk ls) (s : Spelled 63 kind.Value ss) (a : Spelled 63 ak ps) (b : Spelled 63 bk bs) (o : Spelled 63 ok os) (c : Spelled 63 ck cs)
    → WrittenForm (form_of word obtains (lv_row lk ak bk ok ck) form) (six_said ls ss ps bs os cs)
lv_form word obtains form lk ak bk ok ck ls ss ps bs os cs l s a b o c =
    let items : List Item = form_items (codes "LV") (codes "A") l.text s.text a.text b.text o.text c.text in
    let fit = lv_fit lk ak bk ok ck ls ss ps bs os cs l s a b o c in
    record {
      rest = operands.written items;
      stand = stand (lv_row lk ak bk ok ck) [] 0 items fit;
      reads = form_reads (form_of word obtains (lv_row lk ak bk ok ck) form) items (six_said ls ss ps bs os cs) fit
          (same_slots _ _ _ _ _ _ _ _ _ _ _ _ l.says s.says a.says b.says o.says c.says);
      few = λ w. (let all = long_first w (keyword (codes "LV")) l.text (other_items (codes "A") s.text a.text b.text o.text c.text) (keyed_few (codes "LV") 129 140 l.text (omega arith) l.few) (
        keyed_few (codes "SP") 63 71 s.text (omega arith) s.few,
        (
          keyed_few (codes "A") 63 71 a.text (omega arith) a.few,
          (
            keyed_few (codes "BNDRY") 63 71 b.text (omega arith) b.few,
            (
              keyed_few (codes "LOC") 63 71 o.text (omega arith) o.few,
              (keyed_few (codes "COND") 63 71 c.text (omega arith) c.few, tt),
            ),
          ),
        ),
      ) in omega (arith, all));
    }
