-- Four registers of a task get their words one after the other.
use Rattle.std.proofs.Common.{◌≡◌, ℕ, ◌+◌, ◌-◌, ◌<◌, ◌≤◌, Bool, true, false, ◌&&◌, ◌||◌, ◌==◌, if◌then◌else◌, List, [], ◌∷◌, slice_index_or, refl, ap, sym, ◌∙◌, arith}
use Rattle.std.specs.Prelude.{nat_lt}
use Rattle.std.proofs.lemmas.Bool.{eqb-true, lt-ltb}
use Rattle.std.proofs.lemmas.Bool.Decides.{nat_tests}
use Rattle.run_set.specs.Runs.{inside}
use Rattle.vsm_elements.specs.Store.{Store}
use Rattle.vsm_elements.specs.Ownership.{Leaves}
use Rattle.vsm_elements.proofs.ChainFrame.{Leaves-trans}
use Rattle.task_tree.specs.declared.tree.TaskTree.{TaskTree as Tree}
use Rattle.task_tree.specs.TaskTree.{word}
use Rattle.task_tree.specs.TaskTree
use Rattle.storage_changes.specs.Turned.{four_words}
use Rattle.storage_changes.proofs.Cases.{cond-in, cond-out, and-false}

-- this many registers of a task, from the first on, have words of a list
abbrev pub FirstWritten : (ℕ → ℕ → ℕ) → (ℕ → ℕ → ℕ) → ℕ → ℕ → List ℕ → ℕ → Type 0
FirstWritten old now task first ws count =
    (t k : ℕ) → k < 16 → now t k ≡ (if (t == task) && inside k (record { start = first; len = count }) then slice_index_or ws (k - first) 0 else old t k)

or-true : (b : Bool) → (b || true) ≡ true
or-true true = refl
or-true false = refl

or-false : (b : Bool) → (b || false) ≡ b
or-false true = refl
or-false false = refl

-- another one that is written
chosen : (t j e i : Bool) (v x o : ℕ) → j ≡ (i || e) → (e ≡ true → v ≡ x) → (if t && e then v else (if t && i then x else o)) ≡ (if t && j then x else o)
chosen false j e i v x o is same = refl
chosen true j true i v x o is same = same refl ∙ sym (cond-in j x o (is ∙ or-true i))
chosen true j false i v x o is same = ap (λ (b : Bool). if b then x else o) (sym (is ∙ or-false i))

inside-next : (first count k : ℕ) → inside k (record { start = first; len = count + 1 }) ≡ (inside k (record { start = first; len = count }) || (k == first + count))
inside-next first count k = grind (arith, nat_tests)

inside-none : (first count k : ℕ) → first + count ≤ k → inside k (record { start = first; len = count }) ≡ false
inside-none first count k past = grind (arith, nat_tests)

inside-empty : (first k : ℕ) → inside k (record { start = first; len = 0 }) ≡ false
inside-empty first k = grind (arith, nat_tests)

module _ (old : ℕ → ℕ → ℕ) (task first : ℕ) (ws : List ℕ) where
  none-written : FirstWritten old old task first ws 0
  none-written t k low =
      sym (cond-out ((t == task) && inside k (record { start = first; len = 0 })) (slice_index_or ws (k - first) 0) (old t k)
      (and-false (t == task) (inside k (record { start = first; len = 0 })) (inside-empty first k)))

  next-written : (one two : ℕ → ℕ → ℕ) (count register v : ℕ) → register ≡ first + count → v ≡ slice_index_or ws count 0
      → FirstWritten old one task first ws count → ((t k : ℕ) → k < 16 → two t k ≡ (if (t == task) && (k == register) then v else one t k))
      → FirstWritten old two task first ws (count + 1)
  next-written one two count register v at is written h t k low =
      h t k low ∙ ap (λ (z : ℕ). if (t == task) && (k == register) then v else z) (written t k low)
      ∙ chosen (t == task) (inside k (record { start = first; len = count + 1 })) (k == register) (inside k (record { start = first; len = count })) v (slice_index_or ws (k - first) 0) (old t k)
      (inside-next first count k ∙ ap (λ (n : ℕ). inside k (record { start = first; len = count }) || (k == n)) (sym at)) same where
        same : (k == register) ≡ true → v ≡ slice_index_or ws (k - first) 0
        same e =
            let place : count ≡ k - first = omega (arith, eqb-true k register e, at) in
            is ∙ ap (λ (n : ℕ). slice_index_or ws n 0) place

  -- the next one isn't written yet
  not-written : (now : ℕ → ℕ → ℕ) (count register : ℕ) → register ≡ first + count → register < 16 → FirstWritten old now task first ws count → now task register ≡ old task register
  not-written now count register at low written =
      written task register low
      ∙ cond-out ((task == task) && inside register (record { start = first; len = count })) (slice_index_or ws (register - first) 0) (old task register)
      (and-false (task == task) (inside register (record { start = first; len = count })) (inside-none first count register (omega (arith, at))))

-- four calls, one after the other
module _ (q : Tree) (s e f g t : Store) (task first : ℕ) (ws : List ℕ)
    (one : (x k : ℕ) → k < 16 → word e q x k ≡ (if (x == task) && (k == first) then slice_index_or ws 0 0 else word s q x k))
    (two : (x k : ℕ) → k < 16 → word f q x k ≡ (if (x == task) && (k == first + 1) then slice_index_or ws 1 0 else word e q x k))
    (three : (x k : ℕ) → k < 16 → word g q x k ≡ (if (x == task) && (k == first + 2) then slice_index_or ws 2 0 else word f q x k))
    (four : (x k : ℕ) → k < 16 → word t q x k ≡ (if (x == task) && (k == first + 3) then slice_index_or ws 3 0 else word g q x k)) where
  abbrev words-of : Store → ℕ → ℕ → ℕ
  words-of store = λ x k. word store q x k

  behind-one : FirstWritten (words-of s) (words-of e) task first ws 1
  behind-one = next-written (words-of s) task first ws (words-of s) (words-of e) 0 first (slice_index_or ws 0 0) (omega arith) refl (none-written (words-of s) task first ws) one

  behind-two : FirstWritten (words-of s) (words-of f) task first ws 2
  behind-two = next-written (words-of s) task first ws (words-of e) (words-of f) 1 (first + 1) (slice_index_or ws 1 0) refl refl behind-one two

  behind-three : FirstWritten (words-of s) (words-of g) task first ws 3
  behind-three = next-written (words-of s) task first ws (words-of f) (words-of g) 2 (first + 2) (slice_index_or ws 2 0) refl refl behind-two three

  pub all-written : FirstWritten (words-of s) (words-of t) task first ws 4
  all-written = next-written (words-of s) task first ws (words-of g) (words-of t) 3 (first + 3) (slice_index_or ws 3 0) refl refl behind-three four

  -- the words that they return are those that were there before
  module _ (high : first + 4 ≤ 16) where
    abbrev register-had : ℕ → ℕ
    register-had k = if nat_lt k 16 then word s q task k else 0

    was-there : (k : ℕ) → k < 16 → word s q task k ≡ register-had k
    was-there k low = sym (cond-in (nat_lt k 16) (word s q task k) 0 (lt-ltb k 16 low))

    pub words-answered : (a b c d : ℕ) → a ≡ word s q task first → b ≡ word e q task (first + 1) → c ≡ word f q task (first + 2) → d ≡ word g q task (first + 3)
        → a ∷ b ∷ c ∷ d ∷ [] ≡ four_words register-had first
    words-answered a b c d at bt ct dt =
        let first-is : a ≡ register-had first = at ∙ was-there first (omega (arith, high)) in
        let second-is : b ≡ register-had (first + 1) =
        bt ∙ not-written (words-of s) task first ws (words-of e) 1 (first + 1) refl (omega (arith, high)) behind-one ∙ was-there (first + 1) (omega (arith, high)) in
        let third-is : c ≡ register-had (first + 2) =
        ct ∙ not-written (words-of s) task first ws (words-of f) 2 (first + 2) refl (omega (arith, high)) behind-two ∙ was-there (first + 2) (omega (arith, high)) in
        let fourth-is : d ≡ register-had (first + 3) =
        dt ∙ not-written (words-of s) task first ws (words-of g) 3 (first + 3) refl (omega (arith, high)) behind-three ∙ was-there (first + 3) (omega (arith, high)) in
        λ i. first-is i ∷ second-is i ∷ third-is i ∷ fourth-is i ∷ []

-- what they leave unchanged
pub four-leave : (q : Tree) (s e f g t : Store) → Leaves s e (TaskTree.owned s q) (TaskTree.owned e q) → Leaves e f (TaskTree.owned e q) (TaskTree.owned f q)
    → Leaves f g (TaskTree.owned f q) (TaskTree.owned g q) → Leaves g t (TaskTree.owned g q) (TaskTree.owned t q) → Leaves s t (TaskTree.owned s q) (TaskTree.owned t q)
four-leave q s e f g t one two three four =
    Leaves-trans s e t (TaskTree.owned s q) (TaskTree.owned e q) (TaskTree.owned t q) one
    (Leaves-trans e f t (TaskTree.owned e q) (TaskTree.owned f q) (TaskTree.owned t q) two
    (Leaves-trans f g t (TaskTree.owned f q) (TaskTree.owned g q) (TaskTree.owned t q) three four))
