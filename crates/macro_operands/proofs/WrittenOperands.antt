-- Operands as they are written: what each is read as, that they have no fault together, and that its key finds each.
use Rattle.std.proofs.Common.{◌≡◌, ℕ, ◌+◌, ◌*◌, ◌≤◌, ◌==◌, Bool, true, false, ◌&&◌, ◌||◌, List, [], ◌∷◌, ◌++◌, length, map, take, drop, Option, Some, None, is_some, if◌then◌else◌, option_and_then, arith, refl, ap, ◌∙◌}
use Rattle.std.proofs.Math.Seq.{take-append_seam, drop-append-add}
use Rattle.std.specs.List.{AllByRecursion, position_or_len}
use Rattle.std.specs.Option.{IfSome}
use Rattle.std.specs.Char.{to_ascii_uppercase}
use Rattle.std.proofs.lemmas.List.{length-append}
use Rattle.std.proofs.lemmas.Bool.Decides.{nat_tests}
use Rattle.operand_texts.specs.Field.{outside}
use Rattle.operand_texts.specs.Words.{is_name}
use Rattle.operand_texts.proofs.OperandTexts.{IsPlain, IsOperand, goes_append, goes_plain, plain_name, joined}
use Rattle.macro_operands.specs.Rows.{Key, position, keyword, same_key, is_among, Entry, Row}
use Rattle.macro_operands.specs.Operands.{entry_for, is_excluded, entry_fault, operand_fault, earlier, with_key, fault_from, text_or, text_from}
use Rattle.macro_operands.specs.Keywords.{has_equals, key_text, value_text, is_keyword_operand, Operand, operand_at}
use Rattle.macro_operands.specs.Said.{said_of, unsaid_fault, value_fault}
use Rattle.macro_operands.specs.declared.faults.FaultKind.TheVariants as fault
use Rattle.macro_operands.specs.Slots.{readings}
use Rattle.macro_operands.proofs.ReadSlots.{key_is, same_self}

-- the equals sign after a name
at_equals : (k t : List ℕ) → AllByRecursion IsPlain k → position_or_len (λ c. c == 61) (k ++ 61 ∷ t) ≡ length k
at_equals [] t h = refl
at_equals (c ∷ cs) t h = rw (h.0.equals, at_equals cs t h.1) (omega arith)

has_one : (k t : List ℕ) → AllByRecursion IsPlain k → has_equals (k ++ 61 ∷ t) ≡ true
has_one k t h =
    let long : length (k ++ 61 ∷ t) ≡ length k + length (61 ∷ t) = length-append k (61 ∷ t) in
    rw (at_equals k t h) (grind (arith, nat_tests, long))

in_front : (k t : List ℕ) → AllByRecursion IsPlain k → key_text (k ++ 61 ∷ t) ≡ k
in_front k t h = ap (λ n. take n (k ++ 61 ∷ t)) (at_equals k t h) ∙ take-append_seam k (61 ∷ t)

behind : (k t : List ℕ) → AllByRecursion IsPlain k → value_text (k ++ 61 ∷ t) ≡ t
behind k t h = ap (λ n. drop (n + 1) (k ++ 61 ∷ t)) (at_equals k t h) ∙ drop-append-add k (61 ∷ t) 1

abbrev operand : Key → List ℕ → Operand
operand key t = record { key = key; text = t }

abbrev otherwise : ℕ → List ℕ → Option Operand
otherwise i o = if length o == 0 then None else Some (operand (position i) o)

-- an operand that is read with this key and the text of its value
pub record Keyed (i : ℕ) (o : List ℕ) (key : Key) (t : List ℕ) : Type 0 where
  pub reads : operand_at i o ≡ Some (operand key t)
  pub stands : IsOperand o

keyword_reads : (i : ℕ) (o k t : List ℕ) → has_equals o ≡ true → key_text o ≡ k → value_text o ≡ t → is_name k ≡ true → map to_ascii_uppercase k ≡ k
    → operand_at i o ≡ Some (operand (keyword k) t)
keyword_reads i o k t h e v n u =
    ap {B = Option Operand} (λ b. if b && is_name (key_text o) then Some (operand (keyword (map to_ascii_uppercase (key_text o))) (value_text o)) else otherwise i o) h
    ∙ ap {B = Option Operand} (λ x. if is_name x then Some (operand (keyword (map to_ascii_uppercase x)) (value_text o)) else otherwise i o) e
    ∙ ap {B = Option Operand} (λ b. if b then Some (operand (keyword (map to_ascii_uppercase k)) (value_text o)) else otherwise i o) n
    ∙ ap {B = Option Operand} (λ x. Some (operand (keyword x) (value_text o))) u
    ∙ ap {B = Option Operand} (λ x. Some (operand (keyword k) x)) v

pub keyed : (i : ℕ) (k t : List ℕ) → is_name k ≡ true → map to_ascii_uppercase k ≡ k → IsOperand t → Keyed i (k ++ 61 ∷ t) (keyword k) t
keyed i k t n u h =
    let plain : AllByRecursion IsPlain k = plain_name k n in
    record {
      reads = keyword_reads i (k ++ 61 ∷ t) k t (has_one k t plain) (in_front k t plain) (behind k t plain) n u;
      stands = goes_append outside outside outside k (61 ∷ t) (goes_plain outside k plain) (refl, refl, refl, h);
    }

-- an operand without an equals sign is no keyword operand
none_before : (xs : List ℕ) → AllByRecursion (λ c. (c == 61) ≡ false) xs → position_or_len (λ c. c == 61) xs ≡ length xs
none_before [] h = refl
none_before (c ∷ cs) h = rw (h.0, none_before cs h.1) (omega arith)

no_equals : (xs : List ℕ) → AllByRecursion (λ c. (c == 61) ≡ false) xs → has_equals xs ≡ false
no_equals xs h = rw (none_before xs h) (grind (arith, nat_tests))

pub no_keyword : (xs : List ℕ) → AllByRecursion (λ c. (c == 61) ≡ false) xs → is_keyword_operand xs ≡ false
no_keyword xs h = ap (λ b. b && is_name (key_text xs)) (no_equals xs h)

pub placed : (i : ℕ) (t : List ℕ) → 1 ≤ length t → AllByRecursion (λ c. (c == 61) ≡ false) t → IsOperand t → Keyed i t (position i) t
placed i [] some p h = absurd (omega (arith, some))
placed i (c ∷ cs) some p h =
    let full : (length (c ∷ cs) == 0) ≡ false = grind (arith, nat_tests) in
    record {
      reads = ap {B = Option Operand} (λ b. if b then Some (operand (keyword (map to_ascii_uppercase (key_text (c ∷ cs)))) (value_text (c ∷ cs))) else otherwise i (c ∷ cs)) (no_keyword (c ∷ cs) p)
          ∙ ap {B = Option Operand} (λ b. if b then None else Some (operand (position i) (c ∷ cs))) full;
      stands = h;
    }

-- an operand that may be written: its key, and the text of its value if it is present
pub data Item : Type 0 where
  item : Key → Option (List ℕ) → Item

abbrev pub operand_text : Key → List ℕ → List ℕ
operand_text (position i) t = t
operand_text (keyword k) t = k ++ 61 ∷ t

abbrev pub written_or : Key → Option (List ℕ) → List (List ℕ) → List (List ℕ)
written_or key None rest = rest
written_or key (Some t) rest = operand_text key t ∷ rest

abbrev pub written : List Item → List (List ℕ)
written [] = []
written (item key text ∷ items) = written_or key text (written items)

abbrev pub past : ℕ → Option (List ℕ) → ℕ
past i None = i
past i (Some t) = i + 1

-- the row has it, after others with these keys that may be written, and its text, if present, is of its kind
pub record Fits (row : Row) (before : List Key) (i : ℕ) (key : Key) (text : Option (List ℕ)) : Type 0 where
  pub entry : Entry
  pub has : entry_for row.entries key ≡ Some entry
  pub free : is_excluded before entry.excluded ≡ false
  pub once : is_among before key ≡ false
  pub says : IfSome text (λ t. (is_some (said_of entry.kind t) ≡ true) × Keyed i (operand_text key t) key t)

-- so the row has all of them, in any order
abbrev pub AllFit : Row → List Key → ℕ → List Item → Type 0
AllFit row before i [] = Unit {0}
AllFit row before i (item key text ∷ items) = Fits row before i key text × AllFit row (key ∷ before) (past i text) items

excluded_less : (more less : List Key) → ((k : Key) → is_among more k ≡ false → is_among less k ≡ false) → (key : Option Key)
    → is_excluded more key ≡ false → is_excluded less key ≡ false
excluded_less more less h None e = refl
excluded_less more less h (Some key) e = h key e

either : (p q : Bool) → (p || q) ≡ false → (p ≡ false) × (q ≡ false)
either true q h = cc
either false q h = (refl, h)

neither : (p q : Bool) → p ≡ false → q ≡ false → (p || q) ≡ false
neither p q h k = ap (λ b. b || q) h ∙ k

good : (row : Row) (now : List Key) (o : Option Operand) (key : Key) (t : List ℕ) (e : Entry) → o ≡ Some (operand key t) → entry_for row.entries key ≡ Some e
    → is_excluded now e.excluded ≡ false → is_among now key ≡ false → is_some (said_of e.kind t) ≡ true → operand_fault row now o ≡ None
good row now o key t e r h x a s =
    ap (operand_fault row now) r ∙ ap (entry_fault row.left_out now (operand key t)) h
    ∙ ap (λ b. if b then Some fault.Operand else if is_among now key then Some fault.Repeated else value_fault e.kind t) x
    ∙ ap (λ b. if b then Some fault.Repeated else value_fault e.kind t) a
    ∙ ap (λ b. if b then None else Some (unsaid_fault e.kind t)) s

pub no_fault_from : (row : Row) (more less : List Key) → ((k : Key) → is_among more k ≡ false → is_among less k ≡ false) → (i : ℕ) (items : List Item)
    → AllFit row more i items → fault_from row less i (written items) ≡ None
no_fault_from row more less sub i [] h = refl
no_fault_from row more less sub i (item key None ∷ items) h =
    no_fault_from row (key ∷ more) less (λ k j. sub k (either (same_key key k) (is_among more k) j).1) i items h.1
no_fault_from row more less sub i (item key (Some t) ∷ items) h =
    let f = h.0 in
    let o = operand_at i (operand_text key t) in
    let none : operand_fault row less o ≡ None =
    good row less o key t f.entry f.says.1.reads f.has (excluded_less more less sub f.entry.excluded f.free) (sub key f.once) f.says.0 in
    ap (λ g. earlier g (fault_from row (with_key less o) (i + 1) (written items))) none
    ∙ ap (λ p. fault_from row (with_key less p) (i + 1) (written items)) f.says.1.reads
    ∙ no_fault_from row (key ∷ more) (key ∷ less)
    (λ k j. (let w = either (same_key key k) (is_among more k) j in neither (same_key key k) (is_among less k) w.0 (sub k w.1))) (i + 1) items h.1

-- an operand is found by its key
abbrev pub lookup : Key → List Item → Option (List ℕ)
lookup key [] = None
lookup key (item other text ∷ items) = if same_key key other then text else lookup key items

among_true : (keys : List Key) (key other : Key) → is_among keys key ≡ true → is_among keys other ≡ false → same_key key other ≡ false
among_true keys key other h k =
    elim (same_key key other) as (λ b. same_key key other ≡ b → b ≡ false) [
      | true ↦ λ p. (let w : is_among keys key ≡ is_among keys other = ap (is_among keys) (key_is key other p) in cc)
      | false ↦ λ p. refl
    ] refl

or_right : (p q : Bool) → q ≡ true → (p || q) ≡ true
or_right true q h = refl
or_right false q h = h

not_found : (row : Row) (before : List Key) (key : Key) (i : ℕ) (items : List Item) → is_among before key ≡ true → AllFit row before i items
    → text_from key i (written items) ≡ None
not_found row before key i [] a h = refl
not_found row before key i (item other None ∷ items) a h =
    not_found row (other ∷ before) key i items (or_right (same_key other key) (is_among before key) a) h.1
not_found row before key i (item other (Some t) ∷ items) a h =
    let f = h.0 in
    ap (λ o. text_or key o (text_from key (i + 1) (written items))) f.says.1.reads
    ∙ ap (λ b. if b then Some t else text_from key (i + 1) (written items)) (among_true before key other a f.once)
    ∙ not_found row (other ∷ before) key (i + 1) items (or_right (same_key other key) (is_among before key) a) h.1

now_among : (before : List Key) (key other : Key) → same_key key other ≡ true → is_among (other ∷ before) key ≡ true
now_among before key other p = ap (λ b. b || is_among before key) (ap (same_key other) (key_is key other p) ∙ same_self other)

pub finds : (row : Row) (before : List Key) (key : Key) (i : ℕ) (items : List Item) → AllFit row before i items
    → text_from key i (written items) ≡ lookup key items
finds row before key i [] h = refl
finds row before key i (item other None ∷ items) h =
    elim (same_key key other) as (λ b. same_key key other ≡ b → text_from key i (written items) ≡ (if b then None else lookup key items)) [
      | true ↦ λ p. not_found row (other ∷ before) key i items (now_among before key other p) h.1
      | false ↦ λ p. finds row (other ∷ before) key i items h.1
    ] refl
finds row before key i (item other (Some t) ∷ items) h =
    ap (λ o. text_or key o (text_from key (i + 1) (written items))) h.0.says.1.reads
    ∙ ap (λ r. if same_key key other then Some t else r) (finds row (other ∷ before) key (i + 1) items h.1)

-- each can be an operand
pub stand : (row : Row) (before : List Key) (i : ℕ) (items : List Item) → AllFit row before i items → AllByRecursion IsOperand (written items)
stand row before i [] h = tt
stand row before i (item key None ∷ items) h = stand row (key ∷ before) i items h.1
stand row before i (item key (Some t) ∷ items) h = (h.0.says.1.stands, stand row (key ∷ before) (i + 1) items h.1)

-- how long they are
abbrev pub AllFew : List Item → Type 0
AllFew [] = Unit {0}
AllFew (item key text ∷ items) = IfSome text (λ t. length (operand_text key t) ≤ 71) × AllFew items

pub long : (o : List ℕ) (items : List Item) → AllFew items → length (joined o (written items)) ≤ length o + 72 * length items
long o [] h = omega arith
long o (item key None ∷ items) h = let rest = long o items h.1 in omega (arith, rest)
long o (item key (Some t) ∷ items) h =
    let few : length (operand_text key t) ≤ 71 = h.0 in
    let rest = long (operand_text key t) items h.1 in
    let all = length-append o (44 ∷ joined (operand_text key t) (written items)) in
    omega (arith, few, rest, all)

-- so they are if the first is a pair
pub long_first : (o : List ℕ) (key : Key) (text : Option (List ℕ)) (items : List Item) → IfSome text (λ t. length (operand_text key t) ≤ 140) → AllFew items
    → length (joined o (written (item key text ∷ items))) ≤ length o + 141 + 72 * length items
long_first o key None items h few = let rest = long o items few in omega (arith, rest)
long_first o key (Some t) items h few =
    let first : length (operand_text key t) ≤ 140 = h in
    let rest = long (operand_text key t) items few in
    let all = length-append o (44 ∷ joined (operand_text key t) (written items)) in
    omega (arith, first, rest, all)

-- what is read of them for the entries of a row
pub read_back : (row : Row) (items : List Item) → AllFit row [] 0 items → (es : List Entry)
    → readings es (written items) ≡ map (λ (e : Entry). option_and_then (said_of e.kind) (lookup e.key items)) es
read_back row items h [] = refl
read_back row items h (e ∷ es) =
    ap (λ t. option_and_then (said_of e.kind) t ∷ readings es (written items)) (finds row [] e.key 0 items h)
    ∙ ap (λ rest. option_and_then (said_of e.kind) (lookup e.key items) ∷ rest) (read_back row items h es)
