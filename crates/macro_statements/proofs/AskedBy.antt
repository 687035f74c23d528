-- What a statement asks for by each thing that was read.
use Rattle.std.proofs.Common.{◌≡◌, ℕ, ◌-◌, ◌<◌, ◌&&◌, Bool, true, false, not, nat_lt, List, length, take, drop, Option, Some, None, Result, Ok, Err, if◌then◌else◌, refl, sym, ap, ◌∙◌, arith}
use Rattle.std.proofs.Math.Seq.{take-length}
use Rattle.std.proofs.lemmas.Grind.{common_steps}
use Rattle.std.proofs.lemmas.List.{length-drop}
use Rattle.operand_texts.specs.Field.{operands, is_balanced, outside}
use Rattle.operand_texts.specs.Words.{is_name, word, word_len, after_blanks}
use Rattle.operand_texts.specs.Written.{Written, Target}
use Rattle.macro_operands.specs.declared.faults.FaultKind.{FaultKind}
use Rattle.macro_operands.specs.declared.faults.FaultKind.TheVariants as fault
use Rattle.macro_operands.specs.declared.rows.Behind.{Behind}
use Rattle.macro_operands.specs.Requests.{listed, build, get, peek, Asked, act}
use Rattle.macro_operands.specs.declared.requests.Form.{Form}
use Rattle.macro_statements.specs.Attach.{subpools_by}
use Rattle.macro_statements.specs.Cpool.{build_with, get_with}
use Rattle.macro_statements.specs.Forms.{subpool_by, location_by, condition_by, release_with}
use Rattle.macro_statements.specs.Peek.{peek_with}
use Rattle.macro_statements.specs.Statements.{operation_of, asked_of, of_operation, from_operation, from_operands, behind_of, operands_in, is_misplaced, statement_with}
use Rattle.macro_statements.specs.declared.statements.Operation.{Operation}
use Rattle.vsm_model.specs.declared.causes.Family.TheVariants as family
use Rattle.vsm_model.specs.declared.services.Location.{Location}

abbrev Answer : Type 0
Answer = Result Asked FaultKind

pub listed_by : (n l : Option Written) (a : Written) → None ≡ n → Some a ≡ l → listed a ≡ subpools_by n l
listed_by n l a none some = ap (λ x. subpools_by None x) some ∙ ap (λ x. subpools_by x l) none

pub built_by : (name : List ℕ) (header : Option (List ℕ)) (primary : Written) (secondary : Option Written) (size subpool : Written) (location : Location)
    (n h : Option (List ℕ)) (p s z u : Option Written) (l : Option Location)
    → Some name ≡ n → header ≡ h → Some primary ≡ p → secondary ≡ s → Some size ≡ z → subpool ≡ subpool_by u → location ≡ location_by family.S l
    → ◌≡◌ {A = Answer} (Ok (act (build name header primary secondary size subpool location))) (build_with n h p s z u l)
built_by name header primary secondary size subpool location n h p s z u l a b c d e f g = rw (← a, b, ← c, d, ← e, f, g) refl

pub got_by : (name : List ℕ) (place : Option Target) (conditional : Bool) (n : Option (List ℕ)) (t : Option Target) (b : Option Bool)
    → Some name ≡ n → place ≡ t → conditional ≡ condition_by b → ◌≡◌ {A = Answer} (Ok (act (get name place conditional))) (get_with n t b)
got_by name place conditional n t b d e f = rw (← d, e, f) refl

pub shown_by : (address : Written) (size : ℕ) (a : Option Written) (s : Option ℕ) → Some address ≡ a → Some size ≡ s → ◌≡◌ {A = Answer} (Ok (peek address size)) (peek_with a s)
shown_by address size a s d e = rw (← d, ← e) refl

-- without a subpool no form releases all of one
pub not_whole : (address subpool : Option Written) (form : Form) → None ≡ subpool → ◌≡◌ {A = Answer} (Err fault.Missing) (release_with None address subpool form)
not_whole None None form h = refl
not_whole (Some a) subpool form h = refl
not_whole None (Some s) form h = cc

pub misplaced_by : (card : List ℕ) (size : ℕ) (named : Bool) → size ≡ word_len card → 0 < size → named ≡ is_name (word card) → not named ≡ is_misplaced card
misplaced_by card size named d some e =
    let long : nat_lt 0 (word_len card) ≡ true = tested (word_len card) (omega arith) in
    ap not e ∙ sym (ap (λ b. b && not (is_name (word card))) long) where
      tested : (n : ℕ) → 0 < n → nat_lt 0 n ≡ true
      tested n h = grind (arith, common_steps)

whole : (size : ℕ) (from : List ℕ) → take (length from - size) (drop size from) ≡ drop size from
whole size from = ap (λ n. take n (drop size from)) (sym (length-drop size from)) ∙ take-length (drop size from)

pub rest_is : (card from behind rest : List ℕ) (size : ℕ) (o : Option Operation) (b : Behind) → from ≡ from_operation card → size ≡ word_len from
    → o ≡ operation_of (take size from) → b ≡ behind_of o → behind ≡ after_blanks (take (length from - size) (drop size from)) → rest ≡ operands_in b behind → rest ≡ from_operands card
rest_is card from behind rest size o b e f g h i j = rw (j, i, whole size from, h, g, f, e) refl

pub stated_by : (card text : List ℕ) (misplaced : Bool) (operation : Option Operation) (o : Operation) (balanced : Bool) (answer : Answer)
    → misplaced ≡ is_misplaced card → misplaced ≡ false → operation ≡ operation_of (word (from_operation card)) → operation ≡ Some o
    → balanced ≡ is_balanced outside text → balanced ≡ true → answer ≡ asked_of o (operands text) → answer ≡ statement_with card text
stated_by card text misplaced operation o balanced answer m placed op is b closed a =
    a ∙ sym (
    ap (λ x. if x then Err fault.Column else of_operation (operation_of (word (from_operation card))) text) (sym m ∙ placed)
    ∙ ap (λ x. of_operation x text) (sym op ∙ is)
    ∙ ap (λ x. if x then asked_of o (operands text) else Err fault.Operand) (sym b ∙ closed))
