-- What the free areas on both sides of an area say of it, and of the doublewords next to it.
use Rattle.std.proofs.Common.{◌≡◌, ℕ, ◌+◌, ◌-◌, ◌<◌, ◌≤◌, Bool, true, false, nat_le, nat_lt, Option, Some, None, sym, ap, ◌∙◌, arith, inl, inr, true≢false}
use Rattle.std.specs.Prelude.{IfSome}
use Rattle.std.proofs.lemmas.Bool.{cases_lt, leb-true, le-leb, ltb-true, lt-ltb}
use Rattle.run_set.specs.Runs.{Run, inside, NoneIn, IsMaximalRun, IsGap}
use Rattle.run_set.specs.declared.run.Gap.{Gap}
use Rattle.vsm_model.specs.Search.{all_pass, holds}
use Rattle.vsm_model.proofs.Least.{all_pass_at, all_pass_from}
use Rattle.storage_plans.specs.Releases.{HasFree, AreSides}
use Rattle.storage_plans.proofs.OwnedAreas.{both_answers, inside_from, in_inside}

-- a run that begins in a free area lies in it if it ends in it
pub part_of : (r : Run) (o : Option Run) (start len : ℕ) → o ≡ Some r → 0 < len → r.start ≤ start → nat_le (start + len - r.start) r.len ≡ all_pass (λ d. holds (inside d) o) start len
part_of r o start len is some low =
    both_answers (nat_le (start + len - r.start) r.len) (all_pass (λ d. inside d r) start len)
    (λ e.
    let short = leb-true (start + len - r.start) r.len e in
    all_pass_from (λ d. inside d r) start len (λ k from below. inside_from r.start r.len k (omega (arith, from, low)) (omega (arith, short, below, low))))
    (λ all.
    let at = in_inside r (start + len - 1) (all_pass_at (λ d. inside d r) start len (start + len - 1) all (omega (arith, some)) (omega (arith, some))) in
    le-leb (start + len - r.start) r.len (omega (arith, at.1, some, low)))
    ∙ ap (λ (x : Option Run). all_pass (λ d. holds (inside d) x) start len) (sym is)

module _ (free : ℕ → Bool) where
  not_both : (k : ℕ) → free k ≡ true → free k ≡ false → ⊥
  not_both k e f = true≢false (sym e ∙ f)

  -- what ends up to a number ends up to a later one, and what begins after it begins after an earlier one
  up_to : (o : Option Run) (n k : ℕ) → IfSome o (λ r. IsMaximalRun free r × (r.start + r.len ≤ n)) → n ≤ k → IfSome o (λ r. r.start + r.len ≤ k)
  up_to None n k h low = tt
  up_to (Some r) n k h low = omega (arith, h.1, low)

  from : (o : Option Run) (n k : ℕ) → IfSome o (λ r. IsMaximalRun free r × (n < r.start)) → k ≤ n → IfSome o (λ r. k < r.start)
  from None n k h low = tt
  from (Some r) n k h low = omega (arith, h.1, low)

  -- what is in a free area is free
  is_free : (r : Run) (k : ℕ) → IsMaximalRun free r → r.start ≤ k → k < r.start + r.len → free k ≡ true
  is_free r k h low high = h.held k (inside_from r.start r.len k low high)

  in_before : (o : Option Run) (n k : ℕ) → IfSome o (λ r. IsMaximalRun free r × (r.start + r.len ≤ n)) → holds (inside k) o ≡ true → free k ≡ true
  in_before None n k h e = absurd (true≢false (sym e))
  in_before (Some r) n k h e = h.0.held k e

  in_after : (o : Option Run) (n k : ℕ) → IfSome o (λ r. IsMaximalRun free r × (n < r.start)) → holds (inside k) o ≡ true → free k ≡ true
  in_after None n k h e = absurd (true≢false (sym e))
  in_after (Some r) n k h e = h.0.held k e

  module _ (area : Run) where
    -- a free area that begins in it
    has_free : (o : Option Run) → IfSome o (λ r. IsMaximalRun free r × (area.start < r.start)) → holds (λ r. nat_lt r.start (area.start + area.len)) o ≡ true → HasFree free area
    has_free None h e = absurd (true≢false (sym e))
    has_free (Some r) h e =
        let high = ltb-true r.start (area.start + area.len) e in
        (r.start, inside_from area.start area.len r.start (omega (arith, h.1)) high, is_free r r.start h.0 (omega arith) (omega (arith, h.0.some)))

    none_begins : (o : Option Run) (k : ℕ) → k < area.start + area.len → holds (λ r. nat_lt r.start (area.start + area.len)) o ≡ false → IfSome o (λ r. k < r.start)
    none_begins None k high e = tt
    none_begins (Some r) k high e =
        elim (cases_lt k r.start) [
          | inl below ↦ below
          | inr from ↦ absurd (true≢false (sym (lt-ltb r.start (area.start + area.len) (omega (arith, from, high))) ∙ e))
        ]

    module _ (sides : Gap) (gap : IsGap free area.start sides) where
      pub begins_in : holds (λ r. nat_lt r.start (area.start + area.len)) sides.after ≡ true → HasFree free area
      begins_in e = has_free sides.after gap.after e

      pub are_sides : holds (λ r. nat_lt r.start (area.start + area.len)) sides.after ≡ false → AreSides free area sides
      are_sides e = record {
        taken = λ k i.
            let at = in_inside area k i in
            gap.between k (up_to sides.before area.start k gap.before at.0) (none_begins sides.after k at.1 e);
        gap = gap;
      }

  module _ (area : Run) (sides : Gap) (h : AreSides free area sides) where
    -- doublewords up to the area that are all free are in the free area before it
    module _ (start len : ℕ) (up : start + len ≡ area.start) (all : all_pass free start len ≡ true) (k : ℕ) (low : start ≤ k) (high : k < start + len) where
      its : free k ≡ true
      its = all_pass_at free start len k all low high

      begins_up_to : (r : Run) → IsMaximalRun free r → r.start + r.len ≤ area.start → r.start ≤ k
      begins_up_to r m ends = elim (cases_lt k r.start) [
        | inl below ↦ absurd (not_both (r.start - 1) (all_pass_at free start len (r.start - 1) all (omega (arith, low, below)) (omega (arith, ends, up, below, m.some))) (m.before (r.start - 1) (omega (arith, below))))
        | inr from ↦ from
      ]

      before_has : (o : Option Run) → IfSome o (λ r. IsMaximalRun free r × (r.start + r.len ≤ area.start)) → (IfSome o (λ r. r.start + r.len ≤ k) → free k ≡ false) → holds (inside k) o ≡ true
      before_has None m none = absurd (not_both k its (none tt))
      before_has (Some r) m none = elim (cases_lt k (r.start + r.len)) [
        | inl below ↦ inside_from r.start r.len k (begins_up_to r m.0 m.1) below
        | inr past ↦ absurd (not_both k its (none past))
      ]

      in_the_first : holds (inside k) sides.before ≡ true
      in_the_first = before_has sides.before h.gap.before (λ ends. h.gap.between k ends (from sides.after area.start k h.gap.after (omega (arith, high, up))))

    pub free_before : (start len : ℕ) → start + len ≡ area.start → all_pass (λ d. holds (inside d) sides.before) start len ≡ all_pass free start len
    free_before start len up =
        both_answers (all_pass (λ d. holds (inside d) sides.before) start len) (all_pass free start len)
        (λ e. all_pass_from free start len (λ k low high. in_before sides.before area.start k h.gap.before (all_pass_at (λ d. holds (inside d) sides.before) start len k e low high)))
        (λ all. all_pass_from (λ d. holds (inside d) sides.before) start len (λ k low high. in_the_first start len up all k low high))

    -- and those from its end on in the one after it
    module _ (start len : ℕ) (up : start ≡ area.start + area.len) (all : all_pass free start len ≡ true) (k : ℕ) (low : start ≤ k) (high : k < start + len) where
      own : free k ≡ true
      own = all_pass_at free start len k all low high

      begins_past : (r : Run) → IsMaximalRun free r → area.start < r.start → start ≤ r.start
      begins_past r m after = elim (cases_lt r.start start) [
        | inl within ↦ absurd (not_both r.start (is_free r r.start m (omega arith) (omega (arith, m.some))) (h.taken r.start (inside_from area.start area.len r.start (omega (arith, after)) (omega (arith, within, up)))))
        | inr from ↦ from
      ]

      ends_past : (r : Run) → IsMaximalRun free r → area.start < r.start → k < r.start + r.len
      ends_past r m after = elim (cases_lt k (r.start + r.len)) [
        | inl below ↦ below
        | inr past ↦ absurd (not_both (r.start + r.len) (all_pass_at free start len (r.start + r.len) all (omega (arith, begins_past r m after)) (omega (arith, past, high))) m.behind)
      ]

      after_has : (o : Option Run) → IfSome o (λ r. IsMaximalRun free r × (area.start < r.start)) → (IfSome o (λ r. k < r.start) → free k ≡ false) → holds (inside k) o ≡ true
      after_has None m none = absurd (not_both k own (none tt))
      after_has (Some r) m none = elim (cases_lt k r.start) [
        | inl below ↦ absurd (not_both k own (none below))
        | inr from ↦ inside_from r.start r.len k from (ends_past r m.0 m.1)
      ]

      in_the_last : holds (inside k) sides.after ≡ true
      in_the_last = after_has sides.after h.gap.after (λ begins. h.gap.between k (up_to sides.before area.start k h.gap.before (omega (arith, low, up))) begins)

    pub free_after : (start len : ℕ) → start ≡ area.start + area.len → all_pass (λ d. holds (inside d) sides.after) start len ≡ all_pass free start len
    free_after start len up =
        both_answers (all_pass (λ d. holds (inside d) sides.after) start len) (all_pass free start len)
        (λ e. all_pass_from free start len (λ k low high. in_after sides.after area.start k h.gap.after (all_pass_at (λ d. holds (inside d) sides.after) start len k e low high)))
        (λ all. all_pass_from (λ d. holds (inside d) sides.after) start len (λ k low high. in_the_last start len up all k low high))
