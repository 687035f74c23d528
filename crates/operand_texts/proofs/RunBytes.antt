-- Runs of bytes above one: what the mask of a load says of them, and facts that they keep.
use Rattle.std.proofs.Common.{◌≡◌, ℕ, zero, suc, ◌+◌, ◌%◌, ◌^◌, ◌<◌, ◌≤◌, leb, cond, not, List, length, map, replicate, w8, ap, ◌∙◌, subst, arith, inl, inr}
use Rattle.std.proofs.Math.Numerals.{add-one}
use Rattle.std.proofs.lemmas.Bool.{cases_eq, cases_lt}
use Rattle.std.proofs.lemmas.Simd.{length-chunk, bitmask_splat, first_set_mask_l}
use Rattle.std.specs.List.{prefix_len}
use lib.Lanes.{chunk, zip2, mask_l, top}
use Rattle.operand_texts.specs.Runs.{AreAbove, IsRun, lowest_or}

-- how many bytes of a load are above this one, by the lowest bit of its mask
pub counted : (text : List ℕ) (i most n : ℕ) → i + 16 ≤ length text
    → n ≡ lowest_or (mask_l (map (top 7) (zip2 (λ a b. cond (leb a b) 255 0) (chunk i 16 text) (replicate 16 most))) % 2 ^ 64) 16
    → n ≡ prefix_len (λ x. not (leb x most)) (chunk i 16 text)
counted text i most n room h =
    let v = chunk i 16 text in
    let long = length-chunk i 16 text room in
    h ∙ ap (λ m. lowest_or m 16) (bitmask_splat w8 leb v 16 most long (omega arith)) ∙ first_set_mask_l (λ x. leb x most) v 16 long (omega arith)

-- a fact that each place from one up to another passes on
pub handed_on : (P : ℕ → Type 0) (i j : ℕ) → i ≤ j → ((k : ℕ) → i ≤ k → k < j → P k → P (k + 1)) → P i → P j
handed_on P i zero h step p =
    let same : i ≡ 0 = omega arith in
    subst P same p
handed_on P i (suc j) h step p =
    elim (cases_eq i (suc j)) [
      | inl same ↦ subst P same p
      | inr less ↦ subst P (add-one j) (step j (omega arith) (omega arith) (handed_on P i j (omega arith) (λ k from to q. step k from (omega arith) q) p))
    ]

-- a run after bytes above
pub run_on : (most : ℕ) (text : List ℕ) (from i end : ℕ) → from ≤ i → AreAbove most text from i → IsRun most text i end → IsRun most text from end
run_on most text from i end h above run = record {
  ordered = omega (arith, run.ordered);
  within = run.within;
  above = λ k least below. elim (cases_lt k i) [ inl early ↦ above k least early | inr late ↦ run.above k late below ];
  ends = run.ends;
}
