-- Operands for each valid request on cell pools.
use Rattle.std.proofs.Common.{◌≡◌, ℕ, ◌≤◌, Bool, true, false, ◌&&◌, List, [], ◌∷◌, length, map, Option, Some, None, is_some, Ok, codes, option_and_then, if◌then◌else◌, arith, refl, ap, ◌∙◌}
use Rattle.std.specs.Option.{IfSome}
use Rattle.operand_texts.specs.Words.{is_name, is_word}
use Rattle.operand_texts.specs.Written.{Written, Target, IsValue, IsTarget}
use Rattle.operand_texts.proofs.OperandTexts.{plain_name}
use Rattle.operand_texts.proofs.ValueTexts.{without_equals}
use Rattle.macro_operands.specs.Rows.{position, keyword, Entry, entry, Row}
use Rattle.macro_operands.specs.Operands.{unless_fault}
use Rattle.macro_operands.specs.Said.{Said, name, condition, header, location, said_of}
use Rattle.macro_operands.specs.Slots.{Slots, readings, as_name, as_header, as_value, as_place, as_location}
use Rattle.macro_operands.specs.declared.rows.Kind.{Kind}
use Rattle.macro_operands.specs.declared.rows.Kind.TheVariants as kind
use Rattle.macro_operands.proofs.HeaderTexts.{header_text_of}
use Rattle.macro_operands.proofs.WrittenOperands.{Keyed, placed, Item, item, AllFit, no_fault_from, lookup, stand, long, read_back}
use Rattle.macro_operands.proofs.WrittenOperands as operands
use Rattle.macro_operands.specs.Requests.{IsName, IsHeader, build, get, free, delete, Asked, act}
use Rattle.macro_statements.specs.Forms.{location_by}
use Rattle.macro_statements.specs.Cpool.{pool_row, pool_form_row, pool_by, pool_form_with}
use Rattle.macro_statements.specs.Statements.{asked_of}
use Rattle.macro_statements.specs.declared.cpool.PoolForm.{PoolForm}
use Rattle.macro_statements.specs.declared.cpool.PoolForm.TheVariants as form
use Rattle.macro_statements.specs.declared.statements.Operation.TheVariants as operation
use Rattle.vsm_model.specs.declared.causes.Family.TheVariants as family
use Rattle.vsm_model.specs.declared.services.Location.{Location}
use Rattle.macro_statements.proofs.FormTexts.{Spelled, spelled_as, unsaid, value_spelled, place_spelled, name_is, name_few, name_stands, name_kept, location_spelled, with_keyword, keyed_few}
use Rattle.macro_statements.proofs.SpelledOperands.{Operands}

both : (x y : Bool) → (x && y) ≡ true → (x ≡ true) × (y ≡ true)
both true y h = (refl, h)
both false y h = cc

-- names, headers and numbers that may be left out
record SpelledName (n : List ℕ) : Type 0 where
  said : Option Said
  spelled : Spelled 63 kind.Name said
  is : as_name said ≡ Some n

name_spelled : (n : List ℕ) → IsName n → SpelledName n
name_spelled n h =
    let b = both (is_name n) (is_word n n) h in
    record {
      said = Some (name n);
      spelled = spelled_as 63 kind.Name (name n) n (name_kept n b.0) (name_stands n b.0) (name_few n b.0);
      is = name_is n h;
    }

record SpelledHeader (h : Option (List ℕ)) : Type 0 where
  said : Option Said
  spelled : Spelled 26 kind.Header said
  is : as_header said ≡ h

header_spelled : (h : Option (List ℕ)) → IfSome h IsHeader → SpelledHeader h
header_spelled None h = record { said = None; spelled = unsaid 26 kind.Header; is = refl }
header_spelled (Some x) h =
    let t = header_text_of x h in
    record {
      said = Some (header t.text);
      spelled = spelled_as 26 kind.Header (header t.text) t.text (ap (λ o. if is_some o then Some (header t.text) else None) t.spells) t.stands t.few;
      is = t.spells;
    }

record SpelledNumber (v : Option Written) : Type 0 where
  said : Option Said
  spelled : Spelled 63 kind.Value said
  is : as_value said ≡ v

number_spelled : (v : Option Written) → IfSome v IsValue → SpelledNumber v
number_spelled None h = record { said = None; spelled = unsaid 63 kind.Value; is = refl }
number_spelled (Some v) h = let x = value_spelled v h in record { said = x.said; spelled = x.spelled; is = x.is }

-- a word in the position after the form, or none
record SpelledWord (k : Kind) (said : Option Said) : Type 0 where
  text : Option (List ℕ)
  says : option_and_then (said_of k) text ≡ said
  stands : IfSome text (λ t. (is_some (said_of k t) ≡ true) × Keyed 0 t (position 0) t)
  few : IfSome text (λ t. length t ≤ 71)

no_word : (k : Kind) → SpelledWord k None
no_word k = record { text = None; says = refl; stands = tt; few = tt }

word_stands : (t : List ℕ) → 1 ≤ length t → is_name t ≡ true → Keyed 0 t (position 0) t
word_stands t some n = placed 0 t some (without_equals t (plain_name t n)) (name_stands t n)

condition_word : (c : Bool) → SpelledWord kind.ConditionWord (Some (condition c))
condition_word true =
    record { text = Some (codes "COND"); says = refl; stands = (refl, word_stands (codes "COND") (omega arith) refl); few = omega arith }
condition_word false =
    record { text = Some (codes "UNCOND"); says = refl; stands = (refl, word_stands (codes "UNCOND") (omega arith) refl); few = omega arith }

-- what a form with operands in its row asks for
form_reads : (f : PoolForm) (items : List Item) (slots : Slots) → AllFit (pool_form_row f) [] 0 items
    → map (λ (e : Entry). option_and_then (said_of e.kind) (lookup e.key items)) (pool_form_row f).entries ≡ slots
    → pool_form_with f (operands.written items) ≡ pool_by f slots
form_reads f items slots h e =
    ap (λ w. unless_fault w (pool_by f (readings (pool_form_row f).entries (operands.written items)))) (no_fault_from (pool_form_row f) [] [] (λ k e. e) 0 items h)
    ∙ ap (λ r. pool_by f r) (read_back (pool_form_row f) items h (pool_form_row f).entries ∙ e)

-- BUILD
abbrev build_items : (n p s z u o h : Option (List ℕ)) → List Item
build_items n p s z u o h =
    item (keyword (codes "CPID")) n ∷ item (keyword (codes "PCELLCT")) p ∷ item (keyword (codes "SCELLCT")) s ∷ item (keyword (codes "CSIZE")) z
    ∷ item (keyword (codes "SP")) u ∷ item (keyword (codes "LOC")) o ∷ item (keyword (codes "HDR")) h ∷ []

abbrev build_said : (n p s z u o h : Option Said) → Slots
build_said n p s z u o h = n ∷ p ∷ s ∷ z ∷ u ∷ o ∷ h ∷ None ∷ None ∷ None ∷ None ∷ None ∷ []

same_build : (n p s z u o h n' p' s' z' u' o' h' : Option Said) → n ≡ n' → p ≡ p' → s ≡ s' → z ≡ z' → u ≡ u' → o ≡ o' → h ≡ h'
    → build_said n p s z u o h ≡ build_said n' p' s' z' u' o' h'
same_build n p s z u o h n' p' s' z' u' o' h' e₁ e₂ e₃ e₄ e₅ e₆ e₇ = rw (e₁, e₂, e₃, e₄, e₅, e₆, e₇) refl

build_fit : (ns ps ss zs us os hs : Option Said) (n : Spelled 63 kind.Name ns) (p : Spelled 63 kind.Value ps) (s : Spelled 63 kind.Value ss)
    (z : Spelled 63 kind.Value zs) (u : Spelled 63 kind.Value us) (o : Spelled 63 kind.Location os) (h : Spelled 26 kind.Header hs)
    → AllFit (pool_form_row form.Build) [] 0 (build_items n.text p.text s.text z.text u.text o.text h.text)
build_fit ns ps ss zs us os hs n p s z u o h =
    let row : Row = pool_form_row form.Build in (
      with_keyword row _ _ (codes "CPID") (entry (keyword (codes "CPID")) kind.Name) n.text refl refl refl refl refl n.stands,
      (
        with_keyword row _ _ (codes "PCELLCT") (entry (keyword (codes "PCELLCT")) kind.Value) p.text refl refl refl refl refl p.stands,
        (
          with_keyword row _ _ (codes "SCELLCT") (entry (keyword (codes "SCELLCT")) kind.Value) s.text refl refl refl refl refl s.stands,
          (
            with_keyword row _ _ (codes "CSIZE") (entry (keyword (codes "CSIZE")) kind.Value) z.text refl refl refl refl refl z.stands,
            (
              with_keyword row _ _ (codes "SP") (entry (keyword (codes "SP")) kind.Value) u.text refl refl refl refl refl u.stands,
              (
                with_keyword row _ _ (codes "LOC") (entry (keyword (codes "LOC")) kind.Location) o.text refl refl refl refl refl o.stands,
                (with_keyword row _ _ (codes "HDR") (entry (keyword (codes "HDR")) kind.Header) h.text refl refl refl refl refl h.stands, tt),
              ),
            ),
          ),
        ),
      ),
    )

build_is : (ns ps ss zs us os hs : Option Said) (n : List ℕ) (h : Option (List ℕ)) (p z u : Written) (s : Option Written) (o : Location)
    → as_name ns ≡ Some n → as_value ps ≡ Some p → as_value ss ≡ s → as_value zs ≡ Some z → as_value us ≡ Some u → location_by family.S (as_location os) ≡ o
    → as_header hs ≡ h → pool_by form.Build (build_said ns ps ss zs us os hs) ≡ Ok (act (build n h p s z u o))
build_is ns ps ss zs us os hs n h p z u s o e₁ e₂ e₃ e₄ e₅ e₆ e₇ = rw (e₁, e₂, e₃, e₄, e₅, e₆, e₇) refl

pub build_operands : (n : List ℕ) (h : Option (List ℕ)) (p : Written) (s : Option Written) (z u : Written) (o : Location) → IsName n → IfSome h IsHeader
    → IsValue p → IfSome s IsValue → IsValue z → IsValue u → Operands (act (build n h p s z u o))
build_operands n h p s z u o hn hh hp hs hz hu =
    let a = name_spelled n hn in
    let b = value_spelled p hp in
    let c = number_spelled s hs in
    let d = value_spelled z hz in
    let e = value_spelled u hu in
    let f = location_spelled o in
    let g = header_spelled h hh in
    let items : List Item = build_items a.spelled.text b.spelled.text c.spelled.text d.spelled.text e.spelled.text f.text g.spelled.text in
    let fit = build_fit _ _ _ _ _ _ _ a.spelled b.spelled c.spelled d.spelled e.spelled f g.spelled in
    record {
      operation = operation.Cpool;
      has = refl;
      first = codes "BUILD";
      rest = operands.written items;
      some = omega arith;
      stands = name_stands (codes "BUILD") refl;
      stand = stand (pool_form_row form.Build) [] 0 items fit;
      reads = form_reads form.Build items (build_said a.said b.said c.said d.said e.said (Some (location o)) g.said) fit
          (same_build _ _ _ _ _ _ _ _ _ _ _ _ _ _ a.spelled.says b.spelled.says c.spelled.says d.spelled.says e.spelled.says f.says g.spelled.says)
          ∙ build_is a.said b.said c.said d.said e.said (Some (location o)) g.said n h p z u s o a.is b.is c.is d.is e.is refl g.is;
      fits = λ r. (let all = long (codes "BUILD") items (
        keyed_few (codes "CPID") 63 71 a.spelled.text (omega arith) a.spelled.few,
        (
          keyed_few (codes "PCELLCT") 63 71 b.spelled.text (omega arith) b.spelled.few,
          (
            keyed_few (codes "SCELLCT") 63 71 c.spelled.text (omega arith) c.spelled.few,
            (
              keyed_few (codes "CSIZE") 63 71 d.spelled.text (omega arith) d.spelled.few,
              (
                keyed_few (codes "SP") 63 71 e.spelled.text (omega arith) e.spelled.few,
                (keyed_few (codes "LOC") 63 71 f.text (omega arith) f.few, (keyed_few (codes "HDR") 26 71 g.spelled.text (omega arith) g.spelled.few, tt)),
              ),
            ),
          ),
        ),
      ) in omega (arith, all));
    }

-- GET, FREE and DELETE: a word, a name and CELL
abbrev cell_items : (w n c : Option (List ℕ)) → List Item
cell_items w n c = item (position 0) w ∷ item (keyword (codes "CPID")) n ∷ item (keyword (codes "CELL")) c ∷ []

abbrev cell_said : (w n c : Option Said) → Slots
cell_said w n c = n ∷ None ∷ None ∷ None ∷ None ∷ None ∷ None ∷ w ∷ c ∷ None ∷ None ∷ None ∷ []

same_cell : (w n c w' n' c' : Option Said) → w ≡ w' → n ≡ n' → c ≡ c' → cell_said w n c ≡ cell_said w' n' c'
same_cell w n c w' n' c' e₁ e₂ e₃ = rw (e₁, e₂, e₃) refl

abbrev cell_row : Kind → Kind → Row
cell_row wk ck = pool_row kind.OtherForm kind.OtherForm kind.OtherForm wk ck

cell_fit : (wk ck : Kind) (ws ns cs : Option Said) (w : SpelledWord wk ws) (n : Spelled 63 kind.Name ns) (c : Spelled 63 ck cs)
    → AllFit (cell_row wk ck) [] 0 (cell_items w.text n.text c.text)
cell_fit wk ck ws ns cs w n c =
    let row : Row = cell_row wk ck in (
      record { entry = entry (position 0) wk; has = refl; free = refl; once = refl; says = w.stands },
      (
        with_keyword row _ _ (codes "CPID") (entry (keyword (codes "CPID")) kind.Name) n.text refl refl refl refl refl n.stands,
        (with_keyword row _ _ (codes "CELL") (entry (keyword (codes "CELL")) ck) c.text refl refl refl refl refl c.stands, tt),
      ),
    )

-- such a form's word with its operands
cell_operands : (asked : Asked) (f : PoolForm) (first : List ℕ) (wk ck : Kind) (ws ns cs : Option Said) (w : SpelledWord wk ws) (n : Spelled 63 kind.Name ns)
    (c : Spelled 63 ck cs) → 1 ≤ length first → length first ≤ 8 → is_name first ≡ true → pool_form_row f ≡ cell_row wk ck
    → ((os : List (List ℕ)) → asked_of operation.Cpool (first ∷ os) ≡ pool_form_with f os) → pool_by f (cell_said ws ns cs) ≡ Ok asked → Operands asked
cell_operands asked f first wk ck ws ns cs w n c some few neat row leads asks =
    let items : List Item = cell_items w.text n.text c.text in
    let fit : AllFit (pool_form_row f) [] 0 items = rw row (cell_fit wk ck ws ns cs w n c) in
    record {
      operation = operation.Cpool;
      has = refl;
      first = first;
      rest = operands.written items;
      some = some;
      stands = name_stands first neat;
      stand = stand (pool_form_row f) [] 0 items fit;
      reads = leads (operands.written items)
          ∙ form_reads f items (cell_said ws ns cs) fit (rw row (same_cell _ _ _ _ _ _ w.says n.says c.says)) ∙ asks;
      fits = λ r. (let all = long first items (
        w.few,
        (keyed_few (codes "CPID") 63 71 n.text (omega arith) n.few, (keyed_few (codes "CELL") 63 71 c.text (omega arith) c.few, tt)),
      ) in omega (arith, all, few));
    }

get_is : (c : Bool) (ns ps : Option Said) (n : List ℕ) (p : Option Target) → as_name ns ≡ Some n → as_place ps ≡ p
    → pool_by form.Get (cell_said (Some (condition c)) ns ps) ≡ Ok (act (get n p c))
get_is c ns ps n p e f = rw (e, f) refl

pub get_operands : (n : List ℕ) (p : Option Target) (c : Bool) → IsName n → IfSome p IsTarget → Operands (act (get n p c))
get_operands n p c hn hp =
    let a = name_spelled n hn in
    let q = place_spelled p hp in
    cell_operands _ form.Get (codes "GET") kind.ConditionWord kind.Place _ _ _ (condition_word c) a.spelled q.spelled (omega arith) (omega arith) refl refl
    (λ os. refl) (get_is c a.said q.said n p a.is q.is)

free_is : (ns cs : Option Said) (n : List ℕ) (c : Written) → as_name ns ≡ Some n → as_value cs ≡ Some c
    → pool_by form.Free (cell_said None ns cs) ≡ Ok (act (free n c))
free_is ns cs n c e f = rw (e, f) refl

pub free_operands : (n : List ℕ) (c : Written) → IsName n → IsValue c → Operands (act (free n c))
free_operands n c hn hc =
    let a = name_spelled n hn in
    let x = value_spelled c hc in
    cell_operands _ form.Free (codes "FREE") kind.OtherForm kind.Value _ _ _ (no_word kind.OtherForm) a.spelled x.spelled (omega arith) (omega arith) refl refl
    (λ os. refl) (free_is a.said x.said n c a.is x.is)

delete_is : (ns : Option Said) (n : List ℕ) → as_name ns ≡ Some n → pool_by form.Delete (cell_said None ns None) ≡ Ok (act (delete n))
delete_is ns n e = rw e refl

pub delete_operands : (n : List ℕ) → IsName n → Operands (act (delete n))
delete_operands n hn =
    let a = name_spelled n hn in
    cell_operands _ form.Delete (codes "DELETE") kind.OtherForm kind.OtherForm _ _ _ (no_word kind.OtherForm) a.spelled (unsaid 63 kind.OtherForm)
    (omega arith) (omega arith) refl refl (λ os. refl) (delete_is a.said n a.is)
