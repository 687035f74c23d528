-- What operands are read into, by the places of a row's entries, is what they say, and their first fault is the same.
use Rattle.std.proofs.Common.{◌≡◌, ◌≢◌, ℕ, zero, suc, ◌+◌, ◌<◌, ◌≤◌, Bool, true, false, not, ◌&&◌, ◌||◌, List, [], ◌∷◌, Option, Some, None, is_some, Result, Ok, Err, length, map, get_or, if◌then◌else◌, refl, sym, ap, ◌∙◌, arith, eqb-true, option_and_then}
use Rattle.std.specs.Prelude.{slice_set}
use Rattle.std.proofs.lemmas.Slice.Eq.{bytes_eq-Decides}
use Rattle.std.proofs.lemmas.Bool.{eq-eqb}
use Rattle.std.proofs.lemmas.List.{get_or-set_same, get_or-set_other, length-set, length-map, get_or-map, ext_get_or}
use Rattle.macro_operands.specs.Rows.{Key, position, keyword, same_key, is_among, Entry, Row}
use Rattle.macro_operands.specs.Operands.{entry_for, is_excluded, entry_fault, operand_fault, earlier, with_key, fault_from, first_fault, text_or, text_from, text_at}
use Rattle.macro_operands.specs.Keywords.{Operand, operand_at}
use Rattle.macro_operands.specs.Said.{Said, said_of, unsaid_fault, value_fault}
use Rattle.macro_operands.specs.Slots.{Slots, found, slot, is_filled, is_barred, filled, with_entry, with_operand, with_operands, no_slots, readings, are_apart, answered}
use Rattle.macro_operands.specs.declared.faults.FaultKind.{FaultKind}
use Rattle.macro_operands.specs.declared.faults.FaultKind.TheVariants as fault

pub key_is : (a b : Key) → same_key a b ≡ true → a ≡ b
key_is (position i) (position j) h = ap position (eqb-true i j h)
key_is (position i) (keyword w) h = cc
key_is (keyword v) (position j) h = cc
key_is (keyword v) (keyword w) h = ap keyword (sym ((bytes_eq-Decides w v).0 h))

pub same_self : (a : Key) → same_key a a ≡ true
same_self (position i) = eq-eqb i i refl
same_self (keyword w) = (bytes_eq-Decides w w).1 refl

both : (x y : Bool) → (x && y) ≡ true → (x ≡ true) × (y ≡ true)
both true y h = (refl, h)
both false y h = cc

not_true : (b : Bool) → not b ≡ true → b ≡ false
not_true true h = cc
not_true false h = refl

not_both : (b : Bool) → b ≡ true → b ≡ false → ⊥
not_both b h k = cc

some_is : (p q : ℕ × Entry) → Some p ≡ Some q → p ≡ q
some_is p q h = cc

place_is : (i k : ℕ) (f e : Entry) → ◌≡◌ {A = Option (ℕ × Entry)} (Some (i, f)) (Some (k, e)) → i ≡ k
place_is i k f e h = ap (λ (x : ℕ × Entry). x.0) (some_is (i, f) (k, e) h)

entry_is : (i k : ℕ) (f e : Entry) → ◌≡◌ {A = Option (ℕ × Entry)} (Some (i, f)) (Some (k, e)) → f ≡ e
entry_is i k f e h = ap (λ (x : ℕ × Entry). x.1) (some_is (i, f) (k, e) h)

ok_is : (a b : Slots) → ◌≡◌ {A = Result Slots FaultKind} (Ok a) (Ok b) → a ≡ b
ok_is a b h = cc

no_ok : (wrong : FaultKind) (a : Slots) → ◌≡◌ {A = Result Slots FaultKind} (Err wrong) (Ok a) → ⊥
no_ok wrong a h = cc

-- the entry that was found
found_key : (i : ℕ) (es : List Entry) (key : Key) (k : ℕ) (e : Entry) → found i es key ≡ Some (k, e) → same_key e.key key ≡ true
found_key i [] key k e h = cc
found_key i (f ∷ es) key k e h =
    elim (same_key f.key key) as (λ b. same_key f.key key ≡ b → (if b then Some (i, f) else found (i + 1) es key) ≡ Some (k, e) → same_key e.key key ≡ true) [
      | true ↦ λ p q. (let w : f ≡ e = entry_is i k f e q in ap (λ (x : Entry). same_key x.key key) (sym w) ∙ p)
      | false ↦ λ p q. found_key (i + 1) es key k e q
    ] refl h

found_least : (i : ℕ) (es : List Entry) (key : Key) (k : ℕ) (e : Entry) → found i es key ≡ Some (k, e) → i ≤ k
found_least i [] key k e h = cc
found_least i (f ∷ es) key k e h =
    elim (same_key f.key key) as (λ b. (if b then Some (i, f) else found (i + 1) es key) ≡ Some (k, e) → i ≤ k) [
      | true ↦ λ q. (let w : i ≡ k = place_is i k f e q in omega (arith, w))
      | false ↦ λ q. (let least : i + 1 ≤ k = found_least (i + 1) es key k e q in omega (arith, least))
    ] h

found_below : (i : ℕ) (es : List Entry) (key : Key) (k : ℕ) (e : Entry) → found i es key ≡ Some (k, e) → k < i + length es
found_below i [] key k e h = cc
found_below i (f ∷ es) key k e h =
    elim (same_key f.key key) as (λ b. (if b then Some (i, f) else found (i + 1) es key) ≡ Some (k, e) → k < i + length (f ∷ es)) [
      | true ↦ λ q. (let w : i ≡ k = place_is i k f e q in omega (arith, w))
      | false ↦ λ q. (let below : k < i + 1 + length es = found_below (i + 1) es key k e q in omega (arith, below))
    ] h

-- keys with an entry at the same place are the same
found_same : (i : ℕ) (es : List Entry) (a b : Key) (k : ℕ) (e g : Entry) → found i es a ≡ Some (k, e) → found i es b ≡ Some (k, g) → a ≡ b
found_same i [] a b k e g h j = cc
found_same i (f ∷ es) a b k e g h j =
    elim (same_key f.key a) as (λ v. same_key f.key a ≡ v → (if v then Some (i, f) else found (i + 1) es a) ≡ Some (k, e) → a ≡ b) [
      | true ↦ λ p q. (elim (same_key f.key b) as (λ v. same_key f.key b ≡ v → (if v then Some (i, f) else found (i + 1) es b) ≡ Some (k, g) → a ≡ b) [
        | true ↦ λ r s. sym (key_is f.key a p) ∙ key_is f.key b r
        | false ↦ λ r s. (let w : i ≡ k = place_is i k f e q in let least : i + 1 ≤ k = found_least (i + 1) es b k g s in absurd (omega (arith, w, least)))
      ] refl j)
      | false ↦ λ p q. (elim (same_key f.key b) as (λ v. (if v then Some (i, f) else found (i + 1) es b) ≡ Some (k, g) → a ≡ b) [
        | true ↦ λ s. (let w : i ≡ k = place_is i k f g s in let least : i + 1 ≤ k = found_least (i + 1) es a k e q in absurd (omega (arith, w, least)))
        | false ↦ λ s. found_same (i + 1) es a b k e g q s
      ] j)
    ] refl h

abbrev entry_in_found : Option (ℕ × Entry) → Option Entry
entry_in_found None = None
entry_in_found (Some f) = Some f.1

entry_found : (i : ℕ) (es : List Entry) (key : Key) → entry_for es key ≡ entry_in_found (found i es key)
entry_found i [] key = refl
entry_found i (f ∷ es) key =
    elim (same_key f.key key) as (λ b. (if b then Some f else entry_for es key) ≡ entry_in_found (if b then Some (i, f) else found (i + 1) es key)) [
      | true ↦ refl
      | false ↦ entry_found (i + 1) es key
    ]

-- slots in which nothing was read
abbrev nothing : Entry → Option Said
nothing e = None

none_slot : (es : List Entry) (k : ℕ) → slot (no_slots es) k ≡ None
none_slot [] k = refl
none_slot (e ∷ es) zero = refl
none_slot (e ∷ es) (suc k) = none_slot es k

-- what was read belongs to the keys before
record IsSeen (es : List Entry) (slots : Slots) (before : List Key) : Type 0 where
  each : (key : Key) → is_filled slots (found 0 es key) ≡ is_among before key

none_filled : (es : List Entry) (f : Option (ℕ × Entry)) → is_filled (no_slots es) f ≡ false
none_filled es None = refl
none_filled es (Some f) = ap is_some (none_slot es f.0)

none_seen : (es : List Entry) → IsSeen es (no_slots es) []
none_seen es = record { each = λ key. none_filled es (found 0 es key) }

-- an operand that was read
record Taken (row : Row) (slots : Slots) (o : Option Operand) (more : Slots) : Type 0 where
  operand : Operand
  is : o ≡ Some operand
  place : ℕ
  entry : Entry
  found : found 0 row.entries operand.key ≡ Some (place, entry)
  empty : slot slots place ≡ None
  said : Said
  says : said_of entry.kind operand.text ≡ Some said
  filled : more ≡ slice_set slots place (Some said)

no_some : (s : Option Said) → is_some s ≡ false → s ≡ None
no_some None h = refl
no_some (Some s) h = cc

taken_filled : (row : Row) (slots : Slots) (o : Operand) (place : ℕ) (entry : Entry) (more : Slots) → found 0 row.entries o.key ≡ Some (place, entry)
    → slot slots place ≡ None → (s : Option Said) → said_of entry.kind o.text ≡ s → filled slots place (unsaid_fault entry.kind o.text) s ≡ Ok more
    → Taken row slots (Some o) more
taken_filled row slots o place entry more f e None s h = cc
taken_filled row slots o place entry more f e (Some said) s h = record {
  operand = o;
  is = refl;
  place = place;
  entry = entry;
  found = f;
  empty = e;
  said = said;
  says = s;
  filled = cc;
}

taken_entry : (row : Row) (slots : Slots) (o : Operand) (more : Slots) (f : Option (ℕ × Entry)) → found 0 row.entries o.key ≡ f
    → with_entry row slots o f ≡ Ok more → Taken row slots (Some o) more
taken_entry row slots o more None f h = cc
taken_entry row slots o more (Some g) f h =
    elim (is_barred row.entries slots g.1.excluded) as (λ b. (if b then Err fault.Operand else if is_some (slot slots g.0) then Err fault.Repeated
    else filled slots g.0 (unsaid_fault g.1.kind o.text) (said_of g.1.kind o.text)) ≡ Ok more → Taken row slots (Some o) more) [
      | true ↦ λ k. cc
      | false ↦ λ k. (elim (is_some (slot slots g.0)) as (λ b. is_some (slot slots g.0) ≡ b → (if b then Err fault.Repeated
          else filled slots g.0 (unsaid_fault g.1.kind o.text) (said_of g.1.kind o.text)) ≡ Ok more → Taken row slots (Some o) more) [
            | true ↦ λ p q. cc
            | false ↦ λ p q. taken_filled row slots o g.0 g.1 more f (no_some (slot slots g.0) p) (said_of g.1.kind o.text) refl q
          ] refl k)
    ] h

taken_with : (row : Row) (slots : Slots) (o : Option Operand) (more : Slots) → with_operand row slots o ≡ Ok more → Taken row slots o more
taken_with row slots None more h = cc
taken_with row slots (Some o) more h = taken_entry row slots o more (found 0 row.entries o.key) refl h

-- its key is seen then
seen_found : (es : List Entry) (slots : Slots) (before : List Key) (key : Key) (k : ℕ) (e : Entry) (s : Said) → IsSeen es slots before
    → found 0 es key ≡ Some (k, e) → k < length slots → (other : Key) (f : Option (ℕ × Entry)) → found 0 es other ≡ f
    → is_filled (slice_set slots k (Some s)) f ≡ (same_key key other || is_among before other)
seen_found es slots before key k e s h g below other None f =
    elim (same_key key other) as (λ b. same_key key other ≡ b → false ≡ (b || is_among before other)) [
      | true ↦ λ p. (let w : key ≡ other = key_is key other p in let x : found 0 es key ≡ None = ap (λ x. found 0 es x) w ∙ f in cc)
      | false ↦ λ p. sym (ap (is_filled slots) f) ∙ h.each other
    ] refl
seen_found es slots before key k e s h g below other (Some j) f =
    elim (same_key key other) as (λ b. same_key key other ≡ b → is_some (slot (slice_set slots k (Some s)) j.0) ≡ (b || is_among before other)) [
      | true ↦ λ p. (
          let w : key ≡ other = key_is key other p in
          let x : Some (k, e) ≡ Some j = sym g ∙ ap (λ x. found 0 es x) w ∙ f in
          let y : k ≡ j.0 = place_is k j.0 e j.1 x in
          ap (λ n. is_some (slot (slice_set slots k (Some s)) n)) (sym y)
          ∙ ap is_some (get_or-set_same slots k (Some s) None below)
          )
      | false ↦ λ p. (
          let apart : j.0 ≢ k = λ w. not_both (same_key key other) (ap (λ x. same_key x other) (found_same 0 es key other k e j.1 g (f ∙ ap (λ n. Some (n, j.1)) w)) ∙ same_self other) p in
          ap is_some (get_or-set_other slots k j.0 (Some s) None apart) ∙ sym (ap (is_filled slots) f) ∙ h.each other
          )
    ] refl

seen_taken : (row : Row) (slots : Slots) (before : List Key) (o : Option Operand) (more : Slots) → length slots ≡ length row.entries
    → IsSeen row.entries slots before → Taken row slots o more → IsSeen row.entries more (with_key before o)
seen_taken row slots before o more l h u =
    let below : u.place < 0 + length row.entries = found_below 0 row.entries u.operand.key u.place u.entry u.found in
    let within : u.place < length slots = omega (arith, below, l) in
    rw (u.is, u.filled) (record {
      each = λ other. seen_found row.entries slots before u.operand.key u.place u.entry u.said h u.found within other (found 0 row.entries other) refl;
    })

long_taken : (row : Row) (slots : Slots) (o : Option Operand) (more : Slots) → length slots ≡ length row.entries → Taken row slots o more
    → length more ≡ length row.entries
long_taken row slots o more l u = ap length u.filled ∙ length-set slots u.place (Some u.said) ∙ l

-- the fault of an operand
abbrev pub fault_in : Result Slots FaultKind → Option FaultKind
fault_in (Ok slots) = None
fault_in (Err wrong) = Some wrong

filled_fault : (slots : Slots) (k : ℕ) (wrong : FaultKind) (s : Option Said) → fault_in (filled slots k wrong s) ≡ (if is_some s then None else Some wrong)
filled_fault slots k wrong None = refl
filled_fault slots k wrong (Some s) = refl

barred : (es : List Entry) (slots : Slots) (before : List Key) (key : Option Key) → IsSeen es slots before → is_barred es slots key ≡ is_excluded before key
barred es slots before None h = refl
barred es slots before (Some key) h = h.each key

entry_faults : (row : Row) (slots : Slots) (before : List Key) (o : Operand) (f : Option (ℕ × Entry)) → IsSeen row.entries slots before → found 0 row.entries o.key ≡ f
    → fault_in (with_entry row slots o f) ≡ entry_fault row.left_out before o (entry_in_found f)
entry_faults row slots before o None h f = refl
entry_faults row slots before o (Some g) h f =
    let again : is_some (slot slots g.0) ≡ is_among before o.key = sym (ap (is_filled slots) f) ∙ h.each o.key in
    rw (barred row.entries slots before g.1.excluded h, again) (
    elim (is_excluded before g.1.excluded) as (λ b. fault_in (if b then Err fault.Operand else if is_among before o.key then Err fault.Repeated
    else filled slots g.0 (unsaid_fault g.1.kind o.text) (said_of g.1.kind o.text))
    ≡ (if b then Some fault.Operand else if is_among before o.key then Some fault.Repeated else value_fault g.1.kind o.text)) [
      | true ↦ refl
      | false ↦ (elim (is_among before o.key) as (λ b. fault_in (if b then Err fault.Repeated else filled slots g.0 (unsaid_fault g.1.kind o.text) (said_of g.1.kind o.text))
          ≡ (if b then Some fault.Repeated else value_fault g.1.kind o.text)) [
            | true ↦ refl
            | false ↦ filled_fault slots g.0 (unsaid_fault g.1.kind o.text) (said_of g.1.kind o.text)
          ])
    ]
    )

one_fault : (row : Row) (slots : Slots) (before : List Key) (o : Option Operand) → IsSeen row.entries slots before
    → fault_in (with_operand row slots o) ≡ operand_fault row before o
one_fault row slots before None h = refl
one_fault row slots before (Some o) h =
    entry_faults row slots before o (found 0 row.entries o.key) h refl
    ∙ ap (λ e. entry_fault row.left_out before o e) (sym (entry_found 0 row.entries o.key))

-- the operands from left to right
faults_from : (row : Row) (slots : Slots) (before : List Key) (place : ℕ) (texts : List (List ℕ)) → length slots ≡ length row.entries
    → IsSeen row.entries slots before → fault_in (with_operands row slots place texts) ≡ fault_from row before place texts
faults_from row slots before place [] l h = refl
faults_from row slots before place (text ∷ texts) l h =
    elim (with_operand row slots (operand_at place text)) as (λ (r : Result Slots FaultKind). with_operand row slots (operand_at place text) ≡ r
    → fault_in (elim r [ Ok more ↦ with_operands row more (place + 1) texts | Err wrong ↦ Err wrong ])
    ≡ earlier (operand_fault row before (operand_at place text)) (fault_from row (with_key before (operand_at place text)) (place + 1) texts)) [
      | Ok more ↦ λ e. (
          let u = taken_with row slots (operand_at place text) more e in
          let good : operand_fault row before (operand_at place text) ≡ None = sym (one_fault row slots before (operand_at place text) h) ∙ ap fault_in e in
          faults_from row more (with_key before (operand_at place text)) (place + 1) texts (long_taken row slots (operand_at place text) more l u)
          (seen_taken row slots before (operand_at place text) more l h u)
          ∙ ap (λ f. earlier f (fault_from row (with_key before (operand_at place text)) (place + 1) texts)) (sym good)
          )
      | Err wrong ↦ λ e. (
          let bad : operand_fault row before (operand_at place text) ≡ Some wrong = sym (one_fault row slots before (operand_at place text) h) ∙ ap fault_in e in
          ap (λ f. earlier f (fault_from row (with_key before (operand_at place text)) (place + 1) texts)) (sym bad)
          )
    ] refl

pub same_fault : (row : Row) (texts : List (List ℕ)) → fault_in (with_operands row (no_slots row.entries) 0 texts) ≡ first_fault row texts
same_fault row texts = faults_from row (no_slots row.entries) [] 0 texts (length-map row.entries nothing) (none_seen row.entries)

-- what was read for a key
abbrev or_said : Option Said → Option Said → Option Said
or_said None other = other
or_said (Some s) other = Some s

or_none : (s : Option Said) → s ≡ or_said s None
or_none None = refl
or_none (Some s) = refl

said_from : (row : Row) (slots : Slots) (place : ℕ) (texts : List (List ℕ)) (end : Slots) → length slots ≡ length row.entries
    → with_operands row slots place texts ≡ Ok end → (key : Key) (k : ℕ) (e : Entry) → found 0 row.entries key ≡ Some (k, e)
    → slot end k ≡ or_said (slot slots k) (option_and_then (said_of e.kind) (text_from key place texts))
said_from row slots place [] end l h key k e f =
    let w : slots ≡ end = ok_is slots end h in ap (λ s. slot s k) (sym w) ∙ or_none (slot slots k)
said_from row slots place (text ∷ texts) end l h key k e f =
    elim (with_operand row slots (operand_at place text)) as (λ (r : Result Slots FaultKind). with_operand row slots (operand_at place text) ≡ r
    → ◌≡◌ {A = Result Slots FaultKind} (elim r as (λ (x : Result Slots FaultKind). Result Slots FaultKind) [ Ok more ↦ with_operands row more (place + 1) texts | Err wrong ↦ Err wrong ]) (Ok end)
    → slot end k ≡ or_said (slot slots k) (option_and_then (said_of e.kind) (text_or key (operand_at place text) (text_from key (place + 1) texts)))) [
      | Ok more ↦ λ r s. (
          let u = taken_with row slots (operand_at place text) more r in
          said_from row more (place + 1) texts end (long_taken row slots (operand_at place text) more l u) s key k e f
          ∙ step (operand_at place text) more u (text_from key (place + 1) texts)
          )
      | Err wrong ↦ λ r s. absurd (no_ok wrong end s)
    ] refl h
  where
    step : (o : Option Operand) (more : Slots) → Taken row slots o more → (other : Option (List ℕ))
        → or_said (slot more k) (option_and_then (said_of e.kind) other) ≡ or_said (slot slots k) (option_and_then (said_of e.kind) (text_or key o other))
    step o more u other =
        rw (u.is, u.filled) (
        elim (same_key key u.operand.key) as (λ b. same_key key u.operand.key ≡ b
        → or_said (slot (slice_set slots u.place (Some u.said)) k) (option_and_then (said_of e.kind) other)
        ≡ or_said (slot slots k) (option_and_then (said_of e.kind) (if b then Some u.operand.text else other))) [
          | true ↦ λ p. (
              let w : key ≡ u.operand.key = key_is key u.operand.key p in
              let x : ◌≡◌ {A = Option (ℕ × Entry)} (Some (k, e)) (Some (u.place, u.entry)) = sym f ∙ ap (λ x. found 0 row.entries x) w ∙ u.found in
              let at : k ≡ u.place = place_is k u.place e u.entry x in
              let of : e ≡ u.entry = entry_is k u.place e u.entry x in
              let below : u.place < 0 + length row.entries = found_below 0 row.entries u.operand.key u.place u.entry u.found in
              let within : u.place < length slots = omega (arith, below, l) in
              ap (λ n. or_said (slot (slice_set slots u.place (Some u.said)) n) (option_and_then (said_of e.kind) other)) at
              ∙ ap (λ s. or_said s (option_and_then (said_of e.kind) other)) (get_or-set_same slots u.place (Some u.said) None within)
              ∙ sym u.says ∙ ap (λ (g : Entry). said_of g.kind u.operand.text) (sym of)
              ∙ ap (λ s. or_said s (said_of e.kind u.operand.text)) (sym (ap (λ n. slot slots n) at ∙ u.empty))
              )
          | false ↦ λ p. (
              let apart : k ≢ u.place = λ w. not_both (same_key key u.operand.key) (ap (λ x. same_key x u.operand.key)
              (found_same 0 row.entries key u.operand.key k e u.entry f (u.found ∙ ap (λ n. Some (n, u.entry)) (sym w))) ∙ same_self u.operand.key) p in
              ap (λ s. or_said s (option_and_then (said_of e.kind) other)) (get_or-set_other slots u.place k (Some u.said) None apart)
              )
        ] refl
        )

-- entries with keys of their own are found at their places
not_among : (keys : List Key) (a : Key) (es : List Entry) (k : ℕ) (d : Entry) → keys ≡ map (λ e. e.key) es → is_among keys a ≡ false → k < length es
    → same_key a (get_or es k d).key ≡ false
not_among keys a [] k d w h b = absurd (omega (arith, b))
not_among [] a (e ∷ es) k d w h b = cc
not_among (x ∷ keys) a (e ∷ es) zero d w h b =
    let y : x ≡ e.key = cc in
    elim (same_key a e.key) as (λ v. same_key a e.key ≡ v → v ≡ false) [
      | true ↦ λ p. (let z : a ≡ e.key = key_is a e.key p in
          absurd (not_both (same_key x a) (ap (λ q. same_key x q) (z ∙ sym y) ∙ same_self x) (or_false (same_key x a) (is_among keys a) h).0))
      | false ↦ λ p. refl
    ] refl
  where
    or_false : (p q : Bool) → (p || q) ≡ false → (p ≡ false) × (q ≡ false)
    or_false true q h = cc
    or_false false q h = (refl, h)
not_among (x ∷ keys) a (e ∷ es) (suc k) d w h b =
    not_among keys a es k d (cc) (or_false (same_key x a) (is_among keys a) h) (omega (arith, b))
  where
    or_false : (p q : Bool) → (p || q) ≡ false → q ≡ false
    or_false true q h = cc
    or_false false q h = h

found_at : (i : ℕ) (es : List Entry) (k : ℕ) (d : Entry) → are_apart es ≡ true → k < length es
    → found i es (get_or es k d).key ≡ Some (i + k, get_or es k d)
found_at i [] k d h b = absurd (omega (arith, b))
found_at i (f ∷ es) zero d h b =
    let zero_more : i ≡ i + zero = omega arith in
    ap (λ v. if v then Some (i, f) else found (i + 1) es f.key) (same_self f.key) ∙ ap (λ n. Some (n, f)) zero_more
found_at i (f ∷ es) (suc k) d h b =
    let p = both (not (is_among (map (λ g. g.key) es) f.key)) (are_apart es) h in
    let within : k < length es = omega (arith, b) in
    let one_more : i + 1 + k ≡ i + suc k = omega arith in
    ap (λ v. if v then Some (i, f) else found (i + 1) es (get_or es k d).key)
    (not_among (map (λ g. g.key) es) f.key es k d refl (not_true (is_among (map (λ g. g.key) es) f.key) p.0) within)
    ∙ found_at (i + 1) es k d p.1 within ∙ ap (λ n. Some (n, get_or es k d)) one_more

-- how many slots there are at the end
long_from : (row : Row) (slots : Slots) (place : ℕ) (texts : List (List ℕ)) (end : Slots) → length slots ≡ length row.entries
    → with_operands row slots place texts ≡ Ok end → length end ≡ length row.entries
long_from row slots place [] end l h = let w : slots ≡ end = ok_is slots end h in ap length (sym w) ∙ l
long_from row slots place (text ∷ texts) end l h =
    elim (with_operand row slots (operand_at place text)) as (λ (r : Result Slots FaultKind). with_operand row slots (operand_at place text) ≡ r
    → ◌≡◌ {A = Result Slots FaultKind} (elim r as (λ (x : Result Slots FaultKind). Result Slots FaultKind) [ Ok more ↦ with_operands row more (place + 1) texts | Err wrong ↦ Err wrong ]) (Ok end) → length end ≡ length row.entries) [
      | Ok more ↦ λ r s. long_from row more (place + 1) texts end (long_taken row slots (operand_at place text) more l (taken_with row slots (operand_at place text) more r)) s
      | Err wrong ↦ λ r s. absurd (no_ok wrong end s)
    ] refl h

pub same_readings : (row : Row) (texts : List (List ℕ)) (end : Slots) → are_apart row.entries ≡ true
    → with_operands row (no_slots row.entries) 0 texts ≡ Ok end → end ≡ readings row.entries texts
same_readings row texts end apart h =
    let none : length (no_slots row.entries) ≡ length row.entries = length-map row.entries nothing in
    let long : length end ≡ length row.entries = long_from row (no_slots row.entries) 0 texts end none h in
    ext_get_or None end (readings row.entries texts) (long ∙ sym (length-map row.entries (λ (e : Entry). option_and_then (said_of e.kind) (text_at e.key texts))))
    (λ k b. at row.entries refl k (omega (arith, b, long)))
  where
    at : (es : List Entry) → es ≡ row.entries → (k : ℕ) → k < length row.entries → get_or end k None ≡ get_or (readings row.entries texts) k None
    at [] w k b = (let z : length row.entries ≡ 0 = ap length (sym w) in absurd (omega (arith, z, b)))
    at (d ∷ ds) w k b =
        let e = get_or row.entries k d in
        let none : length (no_slots row.entries) ≡ length row.entries = length-map row.entries nothing in
        said_from row (no_slots row.entries) 0 texts end none h e.key k e (found_at 0 row.entries k d apart b ∙ ap (λ n. Some (n, e)) (omega arith))
        ∙ ap (λ s. or_said s (option_and_then (said_of e.kind) (text_at e.key texts))) (none_slot row.entries k)
        ∙ sym (get_or-map (λ (e : Entry). option_and_then (said_of e.kind) (text_at e.key texts)) row.entries k d None b)

-- as the code reads them
answered_fault : (r : Option FaultKind) (slots : Slots) → fault_in (answered r slots) ≡ r
answered_fault None slots = refl
answered_fault (Some wrong) slots = refl

pub fault_read : (row : Row) (slots end : Slots) (texts : List (List ℕ)) (r : Option FaultKind) → slots ≡ no_slots row.entries
    → answered r end ≡ with_operands row slots 0 texts → r ≡ first_fault row texts
fault_read row slots end texts r w h =
    sym (answered_fault r end) ∙ ap fault_in h ∙ ap (λ s. fault_in (with_operands row s 0 texts)) w ∙ same_fault row texts

pub said_read : (row : Row) (slots end : Slots) (texts : List (List ℕ)) (r : Option FaultKind) → slots ≡ no_slots row.entries
    → are_apart row.entries ≡ true → answered r end ≡ with_operands row slots 0 texts → r ≡ None → end ≡ readings row.entries texts
said_read row slots end texts r w apart h none =
    same_readings row texts end apart (ap (λ s. with_operands row s 0 texts) (sym w) ∙ sym h ∙ ap (λ x. answered x end) none)
