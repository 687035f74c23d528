-- The requests that operand fields spell are those that are valid.
use Rattle.std.proofs.Common.{◌≡◌, ℕ, ◌^◌, ◌<◌, ◌≤◌, ◌↔◌, Bool, true, false, ◌&&◌, List, [], ◌∷◌, length, Option, Some, None, Result, Ok, Err, is_some, nat_le, codes, option_and_then, if◌then◌else◌, decimal, arith, refl, ap, sym, subst, ◌∙◌, ◌+◌, ◌⊎◌, inl, inr}
use Rattle.std.specs.Option.{IfSome, option_map}
use Rattle.std.specs.Prelude.{OnOk}
use Rattle.std.proofs.lemmas.Bool.Decides.{nat_tests}
use Rattle.std.proofs.lemmas.List.{length-append}
use Rattle.operand_texts.specs.Field.{outside, is_balanced, operands}
use Rattle.operand_texts.specs.Written.{Written, number, named, register, Stored, spelled, word, IsValue, IsStored, HasBytes}
use Rattle.operand_texts.specs.Values.{number_of, value_of, content_of, within_size, size_of}
use Rattle.macro_operands.specs.Rows.{position, keyword, entry}
use Rattle.macro_operands.specs.Operands.{first_fault, text_at, value_at, unless_fault}
use Rattle.macro_operands.specs.Said.{content, size, count}
use Rattle.macro_operands.specs.declared.faults.FaultKind.{FaultKind}
use Rattle.macro_operands.specs.declared.faults.FaultKind.TheVariants as fault
use Rattle.macro_operands.specs.declared.rows.Behind.TheVariants as behind
use Rattle.macro_operands.specs.declared.rows.Kind.TheVariants as kind
use Rattle.macro_operands.specs.Requests.{obtain, release, whole, build, get, free, delete, WrittenSubpools, IsSubpools, attach, detach, run, end_task, poke, Asked, act, peek, map_asked, back, forward, IsValidAsked, AskedHasBytes, HasRoom, asked_in}
use Rattle.macro_statements.specs.Rooms.{left}
use Rattle.macro_statements.specs.Forms.{obtaining, releasing}
use Rattle.macro_statements.specs.Storage.{storage_macro}
use Rattle.macro_statements.specs.Getmain as getmain
use Rattle.macro_statements.specs.Getmain.{getmain_macro}
use Rattle.macro_statements.specs.Freemain as freemain
use Rattle.macro_statements.specs.Freemain.{freemain_macro}
use Rattle.macro_statements.specs.Poke.{poke_row, poke_of, poke_with}
use Rattle.macro_statements.specs.Peek.{peek_row, peek_of, peek_with}
use Rattle.macro_statements.specs.Attach.{attach_row, subpools_by}
use Rattle.macro_statements.specs.Detach.{detach_row, detach_with}
use Rattle.macro_statements.specs.Run.{run_row, run_with}
use Rattle.macro_statements.specs.Steps.{steps_row, count_with, step_with, count_in}
use Rattle.macro_statements.specs.Statements.{asked_of, behind_of, SpellsRequest}
use Rattle.macro_operands.specs.declared.requests.Request.{Request}
use Rattle.macro_statements.specs.declared.statements.Operation.{Operation}
use Rattle.macro_statements.specs.declared.statements.Operation.TheVariants as operation
use Rattle.vsm_model.specs.declared.causes.Family.TheVariants as family
use Rattle.operand_texts.proofs.OperandTexts.{joined, balanced_joined, operands_joined}
use Rattle.operand_texts.proofs.ValueTexts.{ValueText, ContentText, value_text_of, content_text_of, number_text}
use Rattle.operand_texts.proofs.Spelling.{written, below}
use Rattle.operand_texts.proofs.SpelledBytes.{spelled_content_is_valid}
use Rattle.macro_operands.proofs.WrittenOperands.{placed, Item, item, Fits, AllFit, no_fault_from, lookup, finds}
use Rattle.macro_operands.proofs.WrittenOperands as operands
use Rattle.macro_statements.proofs.ReadForms.{some_value, ReadsValid, AllReadValid, macro_valid, obtains_s, releases_s, obtains_r, releases_r, obtains_e, releases_e, any_length, values_length, pairs_length, places, no_places}
use Rattle.macro_statements.proofs.SpelledOperands.{Good, no_fault, text, in_position, Operands, Remarks, value_says}
use Rattle.macro_statements.proofs.StorageTexts.{obtain_operands, release_operands, whole_operands}
use Rattle.macro_statements.proofs.ReadPools.{cpool_valid}
use Rattle.macro_statements.proofs.PoolTexts.{build_operands, get_operands, free_operands, delete_operands}
use Rattle.macro_statements.proofs.TaskTexts.{attach_operands, detach_operands, run_operands}

poke_is : (os : List (List ℕ)) (a : Written) (c : Stored) → first_fault poke_row os ≡ None
    → value_at (position 0) os ≡ Some a → option_and_then content_of (text_at (position 1) os) ≡ Some c → poke_of os ≡ Ok (act (poke a c))
poke_is os a c f e d = rw (f, e, d) refl

peek_is : (os : List (List ℕ)) (a : Written) (n : ℕ) → first_fault peek_row os ≡ None
    → value_at (position 0) os ≡ Some a → option_and_then size_of (text_at (position 1) os) ≡ Some n → peek_of os ≡ Ok (peek a n)
peek_is os a n f e d = rw (f, e, d) refl

count_is : (os : List (List ℕ)) (n : ℕ) → first_fault steps_row os ≡ None → option_and_then number_of (text_at (position 0) os) ≡ Some n
    → count_in os ≡ Ok n
count_is os n f e = rw (f, e) refl

size_is : (n : ℕ) → 1 ≤ n → n ≤ 256 → size_of (decimal n) ≡ Some n
size_is n h k =
    let least : nat_le 1 n ≡ true = grind (arith, nat_tests) in
    let most : nat_le n 256 ≡ true = grind (arith, nat_tests) in
    rw (written n (omega (arith, k)), least, most) refl

-- how long they are
two_long : (o p : List ℕ) → length (joined o (p ∷ [])) ≡ length o + length p + 1
two_long o p = let a = length-append o (44 ∷ p) in omega (arith, a)

poke_fits : (a : Written) (c : Stored) (ta : ValueText a) (tc : ContentText c) → IsStored c → HasRoom (act (poke a c))
    → length (joined ta.text (tc.text ∷ [])) ≤ 569
poke_fits (number n) (spelled bytes) ta tc h r =
    let e = two_long ta.text tc.text in let f = ta.size in let g = tc.size in let k = h.1 in omega (arith, e, f, g, k)
poke_fits (register n) (spelled bytes) ta tc h r =
    let e = two_long ta.text tc.text in let f = ta.size in let g = tc.size in let k = h.1 in omega (arith, e, f, g, k)
poke_fits (named name) (spelled bytes) ta tc h r =
    let e = two_long ta.text tc.text in let f = ta.size in let g = tc.size in omega (arith, e, f, g, r)
poke_fits a (word v) ta tc h r =
    let e = two_long ta.text tc.text in let f = ta.neat.few in let g = tc.size in omega (arith, e, f, g)

poke_operands : (a : Written) (c : Stored) → HasBytes c → IsValidAsked (act (poke a c)) → Operands (act (poke a c))
poke_operands a c b h =
    let ta = value_text_of a h.0 in
    let tc = content_text_of c b h.1 in
    let items : List Item = item (position 0) (Some ta.text) ∷ item (position 1) (Some tc.text) ∷ [] in
    let fit : Good poke_row items = (
      in_position poke_row _ 0 (entry (position 0) kind.Value) ta.text refl refl refl (value_says ta.text a ta.spells) ta.neat.some ta.neat.no_equals (ta.neat.goes 0),
      (in_position poke_row _ 1 (entry (position 1) kind.Content) tc.text refl refl refl (ap (λ x. is_some (if is_some x then Some (content tc.text) else None)) tc.spells) tc.some tc.no_equals tc.stands, tt),
    ) in
    record {
      operation = operation.Poke;
      has = refl;
      first = ta.text;
      rest = tc.text ∷ [];
      some = ta.neat.some;
      stands = ta.neat.goes 0;
      stand = (tc.stands, tt);
      reads = poke_is (operands.written items) a c (no_fault poke_row items fit)
          (ap (λ t. option_and_then value_of t) (text poke_row (position 0) items fit) ∙ ta.spells)
          (ap (λ t. option_and_then content_of t) (text poke_row (position 1) items fit) ∙ tc.spells);
      fits = λ r. poke_fits a c ta tc h.1 r;
    }

peek_operands : (a : Written) (n : ℕ) → IsValidAsked (peek a n) → Operands (peek a n)
peek_operands a n h =
    let ta = value_text_of a h.0 in
    let spells = size_is n h.1 h.2 in
    let most : n ≤ 256 = h.2 in
    let neat = number_text n (omega (arith, most)) in
    let items : List Item = item (position 0) (Some ta.text) ∷ item (position 1) (Some (decimal n)) ∷ [] in
    let fit : Good peek_row items = (
      in_position peek_row _ 0 (entry (position 0) kind.Value) ta.text refl refl refl (value_says ta.text a ta.spells) ta.neat.some ta.neat.no_equals (ta.neat.goes 0),
      (in_position peek_row _ 1 (entry (position 1) kind.Size) (decimal n) refl refl refl (ap (λ x. is_some (option_map size x)) spells) neat.some neat.no_equals (neat.goes 0), tt),
    ) in
    record {
      operation = operation.Peek;
      has = refl;
      first = ta.text;
      rest = decimal n ∷ [];
      some = ta.neat.some;
      stands = ta.neat.goes 0;
      stand = (neat.goes 0, tt);
      reads = peek_is (operands.written items) a n (no_fault peek_row items fit)
          (ap (λ t. option_and_then value_of t) (text peek_row (position 0) items fit) ∙ ta.spells)
          (ap (λ t. option_and_then size_of t) (text peek_row (position 1) items fit) ∙ spells);
      fits = λ r. (let e = two_long ta.text (decimal n) in let f = ta.neat.few in let g = neat.few in omega (arith, e, f, g));
    }

counted : (n : ℕ) → n < 2 ^ 32 → count_in (decimal n ∷ []) ≡ Ok n
counted n h =
    let neat = number_text n h in
    let items : List Item = item (position 0) (Some (decimal n)) ∷ [] in
    let fit : Good steps_row items = (
      in_position steps_row _ 0 (entry (position 0) kind.Count) (decimal n) refl refl refl (ap (λ x. is_some (option_map count x)) (written n h)) neat.some neat.no_equals (neat.goes 0),
      tt,
    ) in
    count_is (operands.written items) n (no_fault steps_row items fit) (ap (λ t. option_and_then number_of t) (text steps_row (position 0) items fit) ∙ written n h)

step_operands : (o : Operation) (n : ℕ) (asked : Asked) → behind_of (Some o) ≡ behind.Operands → n < 2 ^ 32 → asked_of o (decimal n ∷ []) ≡ Ok asked → Operands asked
step_operands o n asked has h e =
    let neat = number_text n h in
    record { operation = o; has = has; first = decimal n; rest = []; some = neat.some; stands = neat.goes 0; stand = tt; reads = e; fits = λ r. (let few = neat.few in omega (arith, few)) }

-- an operation with only remarks asks for a request, or some operands do
pub operands_of : (asked : Asked) → AskedHasBytes asked → IsValidAsked asked → Remarks asked ⊎ Operands asked
operands_of (act (obtain l s p y o form)) b h = inr (obtain_operands l s p y o form.family form.conditional h.0 h.1 h.2 h.3)
operands_of (act (release l a s form)) b h = inr (release_operands l a s form.family form.conditional h.0 h.1 h.2 h.3)
operands_of (act (whole s form)) b h = inr (whole_operands s form.family form.conditional h.0 h.1)
operands_of (act (build n d p s z u o)) b h = inr (build_operands n d p s z u o h.0 h.1 h.2 h.3 h.4 h.5)
operands_of (act (get n p c)) b h = inr (get_operands n p c h.0 h.1)
operands_of (act (free n c)) b h = inr (free_operands n c h.0 h.1)
operands_of (act (delete n)) b h = inr (delete_operands n h)
operands_of (act (attach g s z)) b h = inr (attach_operands g s z h.0 h.1)
operands_of (act (detach t)) b h = inr (detach_operands t h)
operands_of (act (run t)) b h = inr (run_operands t h)
operands_of (act end_task) b h = inl (record { operation = operation.EndTask; has = refl; asks = refl })
operands_of (act (poke a c)) b h = inr (poke_operands a c b h)
operands_of (peek a n) b h = inr (peek_operands a n h)
operands_of map_asked b h = inl (record { operation = operation.Map; has = refl; asks = refl })
operands_of (back n) b h = inr (step_operands operation.Back n (back n) refl h (ap (λ r. step_with back r) (counted n h)))
operands_of (forward n) b h = inr (step_operands operation.Forward n (forward n) refl h (ap (λ r. step_with forward r) (counted n h)))

pub field_reads : (asked : Asked) (o : Operands asked) → SpellsRequest o.operation (joined o.first o.rest) asked
field_reads asked o = rw (balanced_joined o.first o.rest o.stands o.stand, operands_joined o.first o.rest o.some o.stands o.stand) o.reads

-- what a field spells is valid
value_valid : (o : Option (List ℕ)) → IfSome (option_and_then value_of o) IsValue
value_valid None = tt
value_valid (Some t) = some_value t (value_of t) refl

some_content : (t : List ℕ) (c : Option Stored) → content_of t ≡ c → IfSome c IsStored
some_content t None e = tt
some_content t (Some c) e = spelled_content_is_valid t c e

content_valid : (o : Option (List ℕ)) → IfSome (option_and_then content_of o) IsStored
content_valid None = tt
content_valid (Some t) = some_content t (content_of t) refl

some_number : (t : List ℕ) (n : Option ℕ) → number_of t ≡ n → IfSome n (λ m. m < 2 ^ 32)
some_number t None e = tt
some_number t (Some n) e = below t n e

number_valid : (o : Option (List ℕ)) → IfSome (option_and_then number_of o) (λ m. m < 2 ^ 32)
number_valid None = tt
number_valid (Some t) = some_number t (number_of t) refl

if_size : (n m : ℕ) → (if nat_le 1 m && nat_le m 256 then Some m else None) ≡ Some n → (1 ≤ n) × (n ≤ 256)
if_size n m h = (grind (arith, nat_tests, h), grind (arith, nat_tests, h))

some_size : (o s : Option ℕ) → within_size o ≡ s → IfSome s (λ n. (1 ≤ n) × (n ≤ 256))
some_size o None e = tt
some_size None (Some n) e = cc
some_size (Some m) (Some n) e = if_size n m e

size_valid : (o : Option (List ℕ)) → IfSome (option_and_then size_of o) (λ n. (1 ≤ n) × (n ≤ 256))
size_valid None = tt
size_valid (Some t) = some_size (number_of t) (size_of t) refl

poke_valid : (f : Option FaultKind) (a : Option Written) (c : Option Stored) (asked : Asked) → IfSome a IsValue → IfSome c IsStored
    → unless_fault f (poke_with a c) ≡ Ok asked → IsValidAsked asked
poke_valid (Some f) a c asked v w h = cc
poke_valid None None c asked v w h = cc
poke_valid None (Some a) None asked v w h = cc
poke_valid None (Some a) (Some c) asked v w h = let same : act (poke a c) ≡ asked = cc in subst IsValidAsked same (v, w)

peek_valid : (f : Option FaultKind) (a : Option Written) (n : Option ℕ) (asked : Asked) → IfSome a IsValue → IfSome n (λ n. (1 ≤ n) × (n ≤ 256))
    → unless_fault f (peek_with a n) ≡ Ok asked → IsValidAsked asked
peek_valid (Some f) a n asked v w h = cc
peek_valid None None n asked v w h = cc
peek_valid None (Some a) None asked v w h = cc
peek_valid None (Some a) (Some n) asked v w h = let same : peek a n ≡ asked = cc in subst IsValidAsked same (v, w.0, w.1)

back_valid : (f : Option FaultKind) (n : Option ℕ) (asked : Asked) → IfSome n (λ m. m < 2 ^ 32)
    → step_with back (unless_fault f (count_with n)) ≡ Ok asked → IsValidAsked asked
back_valid (Some f) n asked v h = cc
back_valid None None asked v h = cc
back_valid None (Some n) asked v h = let same : back n ≡ asked = cc in subst IsValidAsked same v

forward_valid : (f : Option FaultKind) (n : Option ℕ) (asked : Asked) → IfSome n (λ m. m < 2 ^ 32)
    → step_with forward (unless_fault f (count_with n)) ≡ Ok asked → IsValidAsked asked
forward_valid (Some f) n asked v h = cc
forward_valid None None asked v h = cc
forward_valid None (Some n) asked v h = let same : forward n ≡ asked = cc in subst IsValidAsked same v

subpools_valid : (n l : Option Written) → IfSome n IsValue → IfSome l IsValue → IsSubpools (subpools_by n l)
subpools_valid (Some n) l h k = h
subpools_valid None (Some l) h k = k
subpools_valid None None h k = tt

attach_valid : (f : Option FaultKind) (g s : WrittenSubpools) (z : Bool) (asked : Asked) → IsSubpools g → IsSubpools s
    → unless_fault f (Ok (act (attach g s z))) ≡ Ok asked → IsValidAsked asked
attach_valid (Some f) g s z asked v w h = cc
attach_valid None g s z asked v w h = let same : act (attach g s z) ≡ asked = cc in subst IsValidAsked same (v, w)

detach_valid : (f : Option FaultKind) (t : Option Written) (asked : Asked) → IfSome t IsValue → unless_fault f (detach_with t) ≡ Ok asked → IsValidAsked asked
detach_valid (Some f) t asked v h = cc
detach_valid None None asked v h = cc
detach_valid None (Some t) asked v h = let same : act (detach t) ≡ asked = cc in subst IsValidAsked same v

run_valid : (f : Option FaultKind) (t : Option Written) (asked : Asked) → IfSome t IsValue → unless_fault f (run_with t) ≡ Ok asked → IsValidAsked asked
run_valid (Some f) t asked v h = cc
run_valid None None asked v h = cc
run_valid None (Some t) asked v h = let same : act (run t) ≡ asked = cc in subst IsValidAsked same v

end_task_valid : (asked : Asked) → asked_of operation.EndTask [] ≡ Ok asked → IsValidAsked asked
end_task_valid asked h = let same : act end_task ≡ asked = cc in subst IsValidAsked same tt

map_valid : (asked : Asked) → asked_of operation.Map [] ≡ Ok asked → IsValidAsked asked
map_valid asked h = let same : map_asked ≡ asked = cc in subst IsValidAsked same tt

-- the forms of each macro read what is valid
storage_forms : AllReadValid storage_macro.forms
storage_forms = (
  obtains_s (codes "OBTAIN") (codes "LENGTH") (codes "ADDR") kind.Length kind.Place kind.Boundary kind.Location kind.Condition false any_length places,
  (releases_s (codes "RELEASE") (codes "LENGTH") (codes "ADDR") kind.OtherForm kind.OtherForm kind.Condition false, tt),
)

fixed_valid : (first : List ℕ) (c : Bool) → ReadsValid (obtaining first getmain.fixed_row family.S c)
fixed_valid first c = obtains_s first (codes "LV") (codes "A") kind.Value kind.OtherForm kind.Boundary kind.Location kind.OtherForm c values_length no_places

variable_valid : (first : List ℕ) (c : Bool) → ReadsValid (obtaining first getmain.variable_row family.S c)
variable_valid first c = obtains_s first (codes "LV") (codes "A") kind.Pair kind.OtherForm kind.Boundary kind.Location kind.OtherForm c pairs_length no_places

named_valid : (first : List ℕ) (c : Bool) → ReadsValid (obtaining first getmain.named_row family.E c)
named_valid first c = obtains_e first (codes "LV") (codes "A") kind.Boundary kind.OtherForm c

getmain_forms : AllReadValid getmain_macro.forms
getmain_forms = (
  obtains_r (codes "R") (codes "LV") (codes "A"),
  (
    fixed_valid (codes "RC") true,
    (
      fixed_valid (codes "RU") false,
      (
        variable_valid (codes "VRC") true,
        (
          variable_valid (codes "VRU") false,
          (named_valid (codes "EC") true, (named_valid (codes "EU") false, tt)),
        ),
      ),
    ),
  ),
)

fixed_freed : (first : List ℕ) (c : Bool) → ReadsValid (releasing first freemain.fixed_row family.S c)
fixed_freed first c = releases_s first (codes "LV") (codes "A") kind.OtherForm kind.OtherForm kind.OtherForm c

named_freed : (first : List ℕ) (c : Bool) → ReadsValid (releasing first freemain.named_row family.E c)
named_freed first c = releases_e first (codes "LV") (codes "A") kind.OtherForm kind.OtherForm kind.OtherForm c

freemain_forms : AllReadValid freemain_macro.forms
freemain_forms = (
  releases_r (codes "R") (codes "LV") (codes "A") kind.OtherForm kind.OtherForm,
  (
    fixed_freed (codes "RC") true,
    (
      fixed_freed (codes "RU") false,
      (
        named_freed (codes "E") false,
        (
          named_freed (codes "EC") true,
          (named_freed (codes "EU") false, tt),
        ),
      ),
    ),
  ),
)

asked_valid : (o : Operation) (os : List (List ℕ)) (asked : Asked) → asked_of o os ≡ Ok asked → IsValidAsked asked
asked_valid operation.Storage os asked h = macro_valid storage_macro storage_forms os asked h
asked_valid operation.Getmain os asked h = macro_valid getmain_macro getmain_forms os asked h
asked_valid operation.Freemain os asked h = macro_valid freemain_macro freemain_forms os asked h
asked_valid operation.Cpool os asked h = cpool_valid os asked h
asked_valid operation.Attach os asked h =
    attach_valid (first_fault attach_row os) _ _ _ asked (subpools_valid _ _ (value_valid (text_at (keyword (codes "GSPV")) os)) (value_valid (text_at (keyword (codes "GSPL")) os)))
    (subpools_valid _ _ (value_valid (text_at (keyword (codes "SHSPV")) os)) (value_valid (text_at (keyword (codes "SHSPL")) os))) h
asked_valid operation.Detach os asked h = detach_valid (first_fault detach_row os) _ asked (value_valid (text_at (position 0) os)) h
asked_valid operation.Run os asked h = run_valid (first_fault run_row os) _ asked (value_valid (text_at (position 0) os)) h
asked_valid operation.EndTask os asked h = end_task_valid asked h
asked_valid operation.Poke os asked h =
    poke_valid (first_fault poke_row os) _ _ asked (value_valid (text_at (position 0) os)) (content_valid (text_at (position 1) os)) h
asked_valid operation.Peek os asked h =
    peek_valid (first_fault peek_row os) _ _ asked (value_valid (text_at (position 0) os)) (size_valid (text_at (position 1) os)) h
asked_valid operation.Map os asked h = map_valid asked h
asked_valid operation.Back os asked h = back_valid (first_fault steps_row os) _ asked (number_valid (text_at (position 0) os)) h
asked_valid operation.Forward os asked h = forward_valid (first_fault steps_row os) _ asked (number_valid (text_at (position 0) os)) h

balanced_if : (b : Bool) (o : Operation) (os : List (List ℕ)) (wrong : FaultKind) (asked : Asked)
    → (if b then asked_of o os else Err wrong) ≡ Ok asked → IsValidAsked asked
balanced_if true o os wrong asked h = asked_valid o os asked h
balanced_if false o os wrong asked h = cc

pub spelled_request_is_valid : (o : Operation) (field : List ℕ) (asked : Asked) → SpellsRequest o field asked → IsValidAsked asked
spelled_request_is_valid o field asked h = balanced_if (is_balanced outside field) o (operands field) fault.Operand asked h

spelled_by : (asked : Asked) → Remarks asked ⊎ Operands asked → (operation : Operation) × (field : List ℕ) × SpellsRequest operation field asked
spelled_by asked (inl r) = (r.operation, [], r.asks)
spelled_by asked (inr o) = (o.operation, joined o.first o.rest, field_reads asked o)

pub valid_request_is_spelled : (asked : Asked) → AskedHasBytes asked
    → IsValidAsked asked ↔ ((operation : Operation) × (field : List ℕ) × SpellsRequest operation field asked)
valid_request_is_spelled asked b = (
  λ h. spelled_by asked (operands_of asked b h),
  λ s. spelled_request_is_valid s.0 s.1 asked s.2,
)

-- so is what the code leaves in a room
pub left_is_valid : (o : Operation) (os : List (List ℕ)) (r : Result (Unit {0}) FaultKind) (q : Request) → left r q ≡ asked_of o os → OnOk r (IsValidAsked (asked_in q))
left_is_valid o os (Ok u) q h = asked_valid o os (asked_in q) (sym h)
left_is_valid o os (Err wrong) q h = tt
