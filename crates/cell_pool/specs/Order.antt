-- Cell pools in the byte order of their names.
use Rattle.std.specs.Prelude.{◌≡◌, ℕ, Bool, true, false, ◌&&◌, List, Option, Some, None, IsSome}
use Rattle.std.specs.Ordering.{nat_cmp, is_lt}
use Rattle.std.specs.Cmp.Lexicographic.{slice_cmp}
use Rattle.cell_pool.specs.Pools.{Pool}

-- a name comes before another, in byte order
abbrev pub is_before : List ℕ → List ℕ → Bool
is_before name other = is_lt (slice_cmp nat_cmp name other)

-- a name comes after one that is given, or none is given
abbrev pub is_after : Option (List ℕ) → List ℕ → Bool
is_after None name = true
is_after (Some low) name = is_before low name

-- A name comes after `low`, and before `high` if there is one. No public clause cites it.
abbrev pub is_between : Option (List ℕ) → Option (List ℕ) → List ℕ → Bool
is_between low None name = is_after low name
is_between low (Some high) name = is_after low name && is_before name high

-- A pool has the name `next`, which comes after, and no pool's name that comes after comes before it.
pub record IsNext (pools : List ℕ → Option Pool) (low : Option (List ℕ)) (next : List ℕ) : Type 0 where
  pub there : IsSome (pools next)
  pub behind : is_after low next ≡ true
  pub first : (n : List ℕ) → IsSome (pools n) → is_after low n ≡ true → is_before n next ≡ false

-- no pool's name comes after
abbrev pub IsLast : (List ℕ → Option Pool) → Option (List ℕ) → Type 0
IsLast pools behind = (n : List ℕ) → IsSome (pools n) → is_after behind n ≡ false
