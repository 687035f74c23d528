-- The columns of a listing.
use Rattle.std.specs.Prelude.{ℕ, ◌-◌, List, ◌++◌, length, replicate}
use Rattle.std.specs.Fmt.{decimal}

-- decimal digits, after blanks if there are fewer than the width
abbrev pub column : ℕ → ℕ → List ℕ
column width n = replicate (width - length (decimal n)) 32 ++ decimal n
