-- The states along a history, listed from the newest past one, move as those of the plain machine.
use Rattle.std.proofs.Common.{◌≡◌, ℕ, zero, suc, ◌+◌, ◌-◌, ◌≤◌, List, [], ◌∷◌, ◌++◌, length, map, take, drop, reverse, sym, ◌∙◌, ap, refl, arith, inl, inr}
use Rattle.std.proofs.lemmas.Bool.{cases_lt}
use Rattle.std.proofs.lemmas.List.{reverse-append, reverse-reverse, length-reverse, append_assoc, length-append, take_all, take-append-le, take-map}
use Rattle.std.proofs.lemmas.Grind.{reverse_onto}
use Rattle.vsm_model.specs.Standing.{Bench, moved_back, moved_forward}
use Rattle.bench_core.specs.Stands.{bench_in, bench_as}
use Rattle.step_history.specs.Log.{latest}
use Rattle.step_history.specs.Trail.{Trail, trail, line, MovesBack, forward_again}

module _ {M : Type 0} where
  abbrev trail_in : Bench M → Trail M
  trail_in b = trail (reverse b.past) b.present b.later

  reverse_cons : (x : M) (xs ys : List M) → reverse (x ∷ xs) ++ ys ≡ reverse xs ++ x ∷ ys
  reverse_cons x xs ys = ap (λ zs. zs ++ ys) (reverse_onto xs x []) ∙ append_assoc (reverse xs) (x ∷ []) ys

  back_line : (n : ℕ) (past : List M) (s : M) (later : List M) → n ≤ length past →
      line (trail_in (moved_back n past s later)) ≡ reverse past ++ s ∷ later
  back_line zero past s later few = refl
  back_line (suc n) [] s later few = absurd (omega arith)
  back_line (suc n) (p ∷ past) s later few = back_line n past p (s ∷ later) (omega arith) ∙ sym (reverse_cons p past (s ∷ later))

  back_count : (n : ℕ) (past : List M) (s : M) (later : List M) → n ≤ length past → length (moved_back n past s later).past + n ≡ length past
  back_count zero past s later few = omega arith
  back_count (suc n) [] s later few = absurd (omega arith)
  back_count (suc n) (p ∷ past) s later few = let e = back_count n past p (s ∷ later) (omega arith) in omega (arith, e)

  forward_line : (n : ℕ) (past : List M) (s : M) (later : List M) → n ≤ length later →
      line (trail_in (moved_forward n past s later)) ≡ reverse past ++ s ∷ later
  forward_line zero past s later few = refl
  forward_line (suc n) past s [] few = absurd (omega arith)
  forward_line (suc n) past s (t ∷ later) few = forward_line n (s ∷ past) t later (omega arith) ∙ reverse_cons s past (t ∷ later)

  forward_count : (n : ℕ) (past : List M) (s : M) (later : List M) → n ≤ length later → length (moved_forward n past s later).past ≡ length past + n
  forward_count zero past s later few = omega arith
  forward_count (suc n) past s [] few = absurd (omega arith)
  forward_count (suc n) past s (t ∷ later) few = let e = forward_count n (s ∷ past) t later (omega arith) in omega (arith, e)

  -- the same number of past states, among the same ones
  same_trail : (t u : Trail M) → line t ≡ line u → length t.past ≡ length u.past → t ≡ u
  same_trail t u e n = forward_again 0 t u u (sym e, omega (arith, n)) (refl, omega arith)

  bench_of_trail : (t : Trail M) (b : Bench M) → t ≡ trail_in b → bench_in t ≡ b
  bench_of_trail t b e = ap bench_in e ∙ ap (λ past. record { past = past; present = b.present; later = b.later }) (reverse-reverse b.past)

  line_in : (t : Trail M) → reverse (reverse t.past) ++ t.present ∷ t.later ≡ line t
  line_in t = ap (λ past. past ++ t.present ∷ t.later) (reverse-reverse t.past)

  moves_back : (n : ℕ) (t u : Trail M) → MovesBack n t u → bench_in u ≡ moved_back n (reverse t.past) t.present t.later
  moves_back n t u h =
      let long = length-reverse t.past in
      let few : n ≤ length (reverse t.past) = omega (arith, long, h.1) in
      let b = moved_back n (reverse t.past) t.present t.later in
      let count = back_count n (reverse t.past) t.present t.later few in
      let turned = length-reverse b.past in
      bench_of_trail u b
      (same_trail u (trail_in b) (h.0 ∙ sym (line_in t) ∙ sym (back_line n (reverse t.past) t.present t.later few)) (omega (arith, long, h.1, count, turned)))

  moves_forward : (n : ℕ) (t u : Trail M) → MovesBack n u t → bench_in u ≡ moved_forward n (reverse t.past) t.present t.later
  moves_forward n t u h =
      let whole : length t.past + suc (length t.later) ≡ length u.past + suc (length u.later) =
      sym (length-append t.past (t.present ∷ t.later)) ∙ ap length h.0 ∙ length-append u.past (u.present ∷ u.later) in
      let few : n ≤ length t.later = omega (arith, h.1, whole) in
      let long = length-reverse t.past in
      let b = moved_forward n (reverse t.past) t.present t.later in
      let count = forward_count n (reverse t.past) t.present t.later few in
      let turned = length-reverse b.past in
      bench_of_trail u b
      (same_trail u (trail_in b) (sym h.0 ∙ sym (line_in t) ∙ sym (forward_line n (reverse t.past) t.present t.later few)) (omega (arith, long, h.1, count, turned)))

  drop_reverse : (k n : ℕ) (xs : List M) → length xs ≡ k + n → reverse (drop k xs) ≡ take n (reverse xs)
  drop_reverse zero n xs e = sym (take_all n (reverse xs) (omega (arith, e, length-reverse xs)))
  drop_reverse (suc k) n [] e = absurd (omega arith)
  drop_reverse (suc k) n (x ∷ xs) e =
      drop_reverse k n xs (omega arith)
      ∙ sym (take-append-le n (reverse xs) (x ∷ []) (omega (arith, length-reverse xs)))
      ∙ ap (take n) (sym (reverse_onto xs x []))

  latest_reverse : (limit : ℕ) (xs : List M) → reverse (latest limit xs) ≡ take limit (reverse xs)
  latest_reverse limit xs = elim (cases_lt (length xs) limit) [
    | inl less ↦
        let none : length xs - limit ≡ 0 = omega arith in
        ap (λ k. reverse (drop k xs)) none
        ∙ sym (take_all limit (reverse xs) (omega (arith, length-reverse xs)))
    | inr more ↦ drop_reverse (length xs - limit) limit xs (omega arith)
  ]

  -- The newest states, up to the limit.
  newest_states : (limit : ℕ) (past : List M) (s t : M) →
      bench_in (trail (latest limit (past ++ s ∷ [])) t []) ≡ record { past = take limit (s ∷ reverse past); present = t; later = [] }
  newest_states limit past s t =
      ap (λ p. record { past = p; present = t; later = [] })
      (latest_reverse limit (past ++ s ∷ []) ∙ ap (take limit) (reverse-append past (s ∷ [])))

-- the same of what the states become
module _ {M N : Type 0} (f : M → N) where
  back_as : (n : ℕ) (past : List M) (s : M) (later : List M) → bench_as f (moved_back n past s later) ≡ moved_back n (map f past) (f s) (map f later)
  back_as zero past s later = refl
  back_as (suc n) [] s later = refl
  back_as (suc n) (p ∷ past) s later = back_as n past p (s ∷ later)

  forward_as : (n : ℕ) (past : List M) (s : M) (later : List M) → bench_as f (moved_forward n past s later) ≡ moved_forward n (map f past) (f s) (map f later)
  forward_as zero past s later = refl
  forward_as (suc n) past s [] = refl
  forward_as (suc n) past s (t ∷ later) = forward_as n (s ∷ past) t later

  pub moves_back_as : (n : ℕ) (t u : Trail M) → MovesBack n t u → bench_as f (bench_in u) ≡ moved_back n (map f (reverse t.past)) (f t.present) (map f t.later)
  moves_back_as n t u h = ap (bench_as f) (moves_back n t u h) ∙ back_as n (reverse t.past) t.present t.later

  pub moves_forward_as : (n : ℕ) (t u : Trail M) → MovesBack n u t → bench_as f (bench_in u) ≡ moved_forward n (map f (reverse t.past)) (f t.present) (map f t.later)
  moves_forward_as n t u h = ap (bench_as f) (moves_forward n t u h) ∙ forward_as n (reverse t.past) t.present t.later

  pub newest_as : (limit : ℕ) (past : List M) (s t : M) →
      bench_as f (bench_in (trail (latest limit (past ++ s ∷ [])) t [])) ≡ record { past = take limit (f s ∷ map f (reverse past)); present = f t; later = [] }
  newest_as limit past s t =
      ap (bench_as f) (newest_states limit past s t)
      ∙ ap (λ (p : List N). record { past = p; present = f t; later = [] }) (sym (take-map f limit (s ∷ reverse past)))
