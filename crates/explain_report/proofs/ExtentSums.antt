-- Numbers that are summed up to 2^64 - 1, and what remains of the lists.
use Rattle.std.proofs.Common.{◌≡◌, ℕ, suc, ◌+◌, ◌*◌, ◌<◌, ◌≤◌, List, [], ◌∷◌, length, map, Option, Some, None, ap, ◌∙◌, subst, arith}
use Rattle.std.specs.Prelude.{IfSome}
use Rattle.cell_pool.specs.declared.settings.Extent.{Extent}
use Rattle.cell_pool.specs.Pools.{Pool}
use Rattle.storage_changes.specs.PoolTable.{cell_pool_of, extent_of}
use Rattle.vsm_model.specs.Regions.{doublewords}
use Rattle.explain_report.specs.PoolFigures.{HasExtents, bytes_in, cells_in, free_in, shown}
use Rattle.explain_report.specs.declared.pool_figures.PoolFigures.{PoolFigures}

pub shorter : {A : Type 0} (xs ys : List A) (x : A) → xs ≡ x ∷ ys → length ys < length xs
shorter xs ys x e = (let k = ap length e in omega (arith, k))

-- these figures and those of the extents that remain are those of all
pub record Remain (size : ℕ) (f : PoolFigures) (rest all : List Extent) : Type 0 where
  pub extents : shown (f.extents + length (map extent_of rest)) ≡ shown (length (map extent_of all))
  pub bytes : shown (f.bytes + bytes_in size (map extent_of rest)) ≡ shown (bytes_in size (map extent_of all))
  pub cells : shown (f.cells + cells_in (map extent_of rest)) ≡ shown (cells_in (map extent_of all))

step : (sum more rest : ℕ) → shown (shown (sum + more) + rest) ≡ shown (sum + (more + rest))
step sum more rest = omega arith

step_one : (sum rest : ℕ) → shown (shown (sum + 1) + rest) ≡ shown (sum + suc rest)
step_one sum rest = omega arith

pub one_more : (size : ℕ) (f g : PoolFigures) (x : Extent) (left rest all : List Extent) → left ≡ x ∷ rest → Remain size f left all
    → g.extents ≡ shown (f.extents + 1) → g.bytes ≡ shown (f.bytes + 8 * doublewords (x.count * size)) → g.cells ≡ shown (f.cells + x.count)
    → Remain size g rest all
one_more size f g x left rest all is h e b c =
    let k : Remain size f (x ∷ rest) all = subst (λ xs. Remain size f xs all) is h in
    record {
      extents = ap (λ n. shown (n + length (map extent_of rest))) e ∙ step_one f.extents (length (map extent_of rest)) ∙ k.extents;
      bytes = ap (λ n. shown (n + bytes_in size (map extent_of rest))) b ∙ step f.bytes (8 * doublewords (x.count * size)) (bytes_in size (map extent_of rest)) ∙ k.bytes;
      cells = ap (λ n. shown (n + cells_in (map extent_of rest))) c ∙ step f.cells x.count (cells_in (map extent_of rest)) ∙ k.cells;
    }

pub all_summed : (size : ℕ) (f : PoolFigures) (left all : List Extent) → left ≡ [] → Remain size f left all → f.extents ≤ 18446744073709551615 → f.bytes ≤ 18446744073709551615
    → f.cells ≤ 18446744073709551615 → HasExtents size (map extent_of all) f
all_summed size f left all is h e b c =
    let k : Remain size f [] all = subst (λ xs. Remain size f xs all) is h in
    record {
      extents = (let same : f.extents ≡ shown (f.extents + 0) = omega (arith, e) in same ∙ k.extents);
      bytes = (let same : f.bytes ≡ shown (f.bytes + 0) = omega (arith, b) in same ∙ k.bytes);
      cells = (let same : f.cells ≡ shown (f.cells + 0) = omega (arith, c) in same ∙ k.cells);
    }

-- the same of a number that counts
abbrev pub CountRemains : ℕ → List ℕ → List ℕ → Type 0
CountRemains n rest all = shown (n + length rest) ≡ shown (length all)

pub one_counted : (n m x : ℕ) (left rest all : List ℕ) → left ≡ x ∷ rest → CountRemains n left all → m ≡ shown (n + 1) → CountRemains m rest all
one_counted n m x left rest all is h e =
    let k : CountRemains n (x ∷ rest) all = subst (λ xs. CountRemains n xs all) is h in
    ap (λ n. shown (n + length rest)) e ∙ step_one n (length rest) ∙ k

pub all_counted : (n : ℕ) (left all : List ℕ) → left ≡ [] → CountRemains n left all → n ≤ 18446744073709551615 → n ≡ shown (length all)
all_counted n left all is h small =
    let k : CountRemains n [] all = subst (λ xs. CountRemains n xs all) is h in
    let same : n ≡ shown (n + 0) = omega (arith, small) in
    same ∙ k

-- and of a cell pool, if it exists
pub all_of_it : (size : ℕ) (o : Option Pool) (f : PoolFigures) (left : List Extent) → left ≡ [] → IfSome o (λ p. Remain size f left p.extents) → f.extents ≤ 18446744073709551615
    → f.bytes ≤ 18446744073709551615 → f.cells ≤ 18446744073709551615 → IfSome o (λ p. HasExtents size (cell_pool_of p).extents f)
all_of_it size None f left is h e b c = h
all_of_it size (Some p) f left is h e b c = all_summed size f left p.extents is h e b c

pub counted : (o : Option Pool) (n : ℕ) (left : List ℕ) → left ≡ [] → IfSome o (λ p. CountRemains n left p.cells) → n ≤ 18446744073709551615 → IfSome o (λ p. n ≡ free_in (cell_pool_of p))
counted None n left is h small = h
counted (Some p) n left is h small = all_counted n left p.cells is h small
