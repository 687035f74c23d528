-- Optional values: what they have, and what a change or a test makes of them.
use Rattle.std.proofs.Common.{◌≡◌, Bool, true, false, Option, Some, None, is_some, refl, sym, true≢false}
use Rattle.std.specs.Option.{option_map}
use Rattle.vsm_model.specs.Search.{holds}

pub none_some : {A : Type 0} (x : A) → ◌≡◌ {A = Option A} None (Some x) → ⊥
none_some x e = cc

pub some_none : {A : Type 0} (x : A) → ◌≡◌ {A = Option A} (Some x) None → ⊥
some_none x e = cc

pub same_some : {A : Type 0} (x y : A) → ◌≡◌ {A = Option A} (Some x) (Some y) → x ≡ y
same_some x y e = cc

-- there is a value, or there is none
pub some_there : {A : Type 0} (o : Option A) → is_some o ≡ true → (x : A) × (o ≡ Some x)
some_there None e = absurd (true≢false (sym e))
some_there (Some x) e = (x, refl)

pub none_there : {A : Type 0} (o : Option A) → is_some o ≡ false → o ≡ None
none_there None e = refl
none_there (Some x) e = absurd (true≢false e)

-- a test of an optional value that holds is one of a value
pub held : {A : Type 0} (f : A → Bool) (o : Option A) → holds f o ≡ true → (x : A) × (o ≡ Some x) × (f x ≡ true)
held f None e = absurd (true≢false (sym e))
held f (Some x) e = (x, refl, e)

-- a value that a change leads to was another before it
pub mapped : {A B : Type 0} (f : A → B) (o : Option A) (x : B) → option_map f o ≡ Some x → (y : A) × (o ≡ Some y) × (f y ≡ x)
mapped f None x e = absurd (none_some x e)
mapped f (Some y) x e = (y, refl, same_some (f y) x e)

pub some_mapped : {A B : Type 0} (f : A → B) (o : Option A) → is_some (option_map f o) ≡ is_some o
some_mapped f None = refl
some_mapped f (Some x) = refl
