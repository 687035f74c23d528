-- What holds of each two elements of a list, in parts of the list.
use Rattle.std.proofs.Common.{suc, List, [], ◌∷◌, ◌++◌, arith}
use Rattle.std.specs.Prelude.{All, AllPairs}
use Rattle.std.proofs.lemmas.List.Elements.{All-head, All-tail, All-cons, All-append, All-weaker, All-nil}
use Rattle.std.proofs.lemmas.List.Kept.{AllPairs-cons}

module _ {X : Type 0} (P : X → Type 0) where
  pub all_left : (xs ys : List X) → All P (xs ++ ys) → All P xs
  all_left [] ys h = All-nil P
  all_left (x ∷ xs) ys h = All-cons P x xs (All-head P x (xs ++ ys) h) (all_left xs ys (All-tail P x (xs ++ ys) h))

  pub all_right : (xs ys : List X) → All P (xs ++ ys) → All P ys
  all_right [] ys h = h
  all_right (x ∷ xs) ys h = all_right xs ys (All-tail P x (xs ++ ys) h)

  -- what holds of each element holds of that in the middle and of the others, and the other way round
  pub all_but_one : (before : List X) (x : X) (after : List X) → All P (before ++ x ∷ after) → (P x) × All P (before ++ after)
  all_but_one before x after h =
      let rest = all_right before (x ∷ after) h in
      (All-head P x after rest, All-append P before after (all_left before (x ∷ after) h) (All-tail P x after rest))

  pub all_with_one : (before : List X) (x : X) (after : List X) → P x → All P (before ++ after) → All P (before ++ x ∷ after)
  all_with_one before x after here h =
      All-append P before (x ∷ after) (all_left before after h) (All-cons P x after here (all_right before after h))

module _ {X : Type 0} (R : X → X → Type 0) where
  -- each element of the first list with each of the second
  abbrev pub Across : List X → List X → Type 0
  Across xs ys = All (λ x. All (R x) ys) xs

  pub pairs_head : (x : X) (xs : List X) → AllPairs R (x ∷ xs) → All (R x) xs
  pairs_head x xs h k d below = h 0 (suc k) d (omega arith) (omega (arith, below))

  pub pairs_tail : (x : X) (xs : List X) → AllPairs R (x ∷ xs) → AllPairs R xs
  pairs_tail x xs h i j d less below = h (suc i) (suc j) d (omega (arith, less)) (omega (arith, below))

  pub pairs_nil : AllPairs R []
  pairs_nil i j d less below = absurd (omega (arith, below))

  pub pairs_append : (xs ys : List X) → AllPairs R xs → AllPairs R ys → Across xs ys → AllPairs R (xs ++ ys)
  pairs_append [] ys h g c = g
  pairs_append (x ∷ xs) ys h g c =
      AllPairs-cons R x (xs ++ ys)
      (All-append (R x) xs ys (pairs_head x xs h) (All-head (λ x. All (R x) ys) x xs c))
      (pairs_append xs ys (pairs_tail x xs h) g (All-tail (λ x. All (R x) ys) x xs c))

  pub pairs_parts : (xs ys : List X) → AllPairs R (xs ++ ys) → AllPairs R xs × AllPairs R ys × Across xs ys
  pairs_parts [] ys h = (pairs_nil, h, All-nil (λ x. All (R x) ys))
  pairs_parts (x ∷ xs) ys h =
      let rest = pairs_parts xs ys (pairs_tail x (xs ++ ys) h) in
      let first = pairs_head x (xs ++ ys) h in (
        AllPairs-cons R x xs (all_left (R x) xs ys first) rest.0,
        rest.1,
        All-cons (λ x. All (R x) ys) x xs (all_right (R x) xs ys first) rest.2,
      )

  module _ (turned : (x y : X) → R x y → R y x) where
    pub across_turned : (xs ys : List X) → Across xs ys → Across ys xs
    across_turned xs ys h k d below j e under = turned _ _ (h j e under k d below)

    -- the elements in the middle are apart from each other and from the others, and the others from each other
    pub middle_out : (before here after : List X) → AllPairs R (before ++ (here ++ after)) →
        AllPairs R here × AllPairs R (before ++ after) × Across here (before ++ after)
    middle_out before here after h =
        let outer = pairs_parts before (here ++ after) h in
        let inner = pairs_parts here after outer.1 in
        let left : Across before here = All-weaker (λ x. All (R x) (here ++ after)) (λ x. All (R x) here) (λ x e. all_left (R x) here after e) before outer.2 in
        let right : Across before after = All-weaker (λ x. All (R x) (here ++ after)) (λ x. All (R x) after) (λ x e. all_right (R x) here after e) before outer.2 in (
          inner.0,
          pairs_append before after outer.0 inner.1 right,
          λ k d below. All-append (R _) before after (across_turned before here left k d below) (inner.2 k d below),
        )

    pub middle_in : (before here after : List X) → AllPairs R here → AllPairs R (before ++ after) → Across here (before ++ after) →
        AllPairs R (before ++ (here ++ after))
    middle_in before here after h g c =
        let outer = pairs_parts before after g in
        let left : Across here before = All-weaker (λ x. All (R x) (before ++ after)) (λ x. All (R x) before) (λ x e. all_left (R x) before after e) here c in
        let right : Across here after = All-weaker (λ x. All (R x) (before ++ after)) (λ x. All (R x) after) (λ x e. all_right (R x) before after e) here c in
        pairs_append before (here ++ after) outer.0 (pairs_append here after h outer.1 right)
        (λ k d below. All-append (R _) here after (across_turned here before left k d below) (outer.2 k d below))
