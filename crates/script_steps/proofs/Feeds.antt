-- Bytes up to the first line feed.
use Rattle.std.proofs.Common.{◌≡◌, ◌≢◌, ℕ, ◌+◌, ◌<◌, List, [], ◌∷◌, ◌++◌, length, take, get_or, slice_index, append_assoc, ap, ◌∙◌, subst, sym}
use Rattle.std.proofs.lemmas.List.{take_more}
use Rattle.std.specs.List.{AllByRecursion}
use Rattle.script_steps.specs.Script.{NoFeed}

pub each_push : {X : Type 0} (P : X → Type 0) (xs : List X) (x : X) → AllByRecursion P xs → P x → AllByRecursion P (xs ++ x ∷ [])
each_push P [] x h k = (k, tt)
each_push P (y ∷ xs) x h k = (h.0, each_push P xs x h.1 k)

pub each_append : {X : Type 0} (P : X → Type 0) (xs ys : List X) → AllByRecursion P xs → AllByRecursion P ys → AllByRecursion P (xs ++ ys)
each_append P [] ys h k = k
each_append P (x ∷ xs) ys h k = (h.0, each_append P xs ys h.1 k)

pub no_feed_more : (bytes : List ℕ) (i : ℕ) → i < length bytes → NoFeed (take i bytes) → get_or bytes i 0 ≢ 10 → NoFeed (take (i + 1) bytes)
no_feed_more bytes i inside h ne = subst NoFeed (sym (take_more bytes i 0 inside)) (each_push (λ c. c ≢ 10) (take i bytes) (get_or bytes i 0) h ne)

-- the bytes up to and with a line feed
pub feed_behind : (given rest : List ℕ) (n : ℕ) → n < length rest → slice_index rest n ≡ 10 → (given ++ take n rest) ++ 10 ∷ [] ≡ given ++ take (n + 1) rest
feed_behind given rest n inside is =
    append_assoc given (take n rest) (10 ∷ [])
    ∙ ap (λ x. given ++ (take n rest ++ x ∷ [])) (sym is)
    ∙ ap (λ x. given ++ x) (sym (take_more rest n 0 inside))
