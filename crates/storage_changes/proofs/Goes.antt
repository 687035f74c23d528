-- Records that lead from one walk to another.
use Rattle.std.proofs.Common.{◌≡◌, ℕ, ◌≤◌, List, [], ◌∷◌, ◌++◌, Option, refl, sym, ◌∙◌, ap, subst}
use Rattle.subpool_storage.specs.Subpools.{no_subpools}
use Rattle.storage_changes.specs.declared.record.Record.{Record}
use Rattle.storage_changes.specs.State.{StorageState}
use Rattle.storage_changes.specs.Walk.{Walk}
use Rattle.storage_changes.specs.Steps.{step, walk}
use Rattle.storage_changes.specs.Fits.{Fits, FitInTurn}

-- a walk with nothing parked
abbrev pub at : StorageState → (ℕ → Option ℕ) → (ℕ → Option ℕ) → ℕ → Walk
at m brought given spare = record { state = m; brought = brought; given = given; parked = no_subpools; spare = spare }

-- The records fit in turn, and lead to this state and these frames, with at least this many blank elements left.
pub record Goes (w : Walk) (rs : List Record) (m : StorageState) (brought given : ℕ → Option ℕ) (left : ℕ) : Type 0 where
  pub fits : FitInTurn w rs
  pub there : walk w rs ≡ at m brought given (walk w rs).spare
  pub spare : left ≤ (walk w rs).spare

pub walk_on : (w : Walk) (rs ss : List Record) → walk w (rs ++ ss) ≡ walk (walk w rs) ss
walk_on w [] ss = refl
walk_on w (r ∷ rs) ss = walk_on (step w r) rs ss

pub fits_on : (w : Walk) (rs ss : List Record) → FitInTurn w rs → FitInTurn (walk w rs) ss → FitInTurn w (rs ++ ss)
fits_on w [] ss h k = k
fits_on w (r ∷ rs) ss h k = (h.0, fits_on (step w r) rs ss h.1 k)

-- records after others
pub goes_on :
    (w : Walk) (rs ss : List Record) (m n : StorageState) (b g c h : ℕ → Option ℕ) (left less : ℕ) → Goes w rs m b g left
    → ((s : ℕ) → left ≤ s → Goes (at m b g s) ss n c h less) → Goes w (rs ++ ss) n c h less
goes_on w rs ss m n b g c h left less first behind =
    let next = behind (walk w rs).spare first.spare in
    let there : walk w (rs ++ ss) ≡ walk (at m b g (walk w rs).spare) ss = walk_on w rs ss ∙ ap (λ (v : Walk). walk v ss) first.there in
    record {
      fits = fits_on w rs ss first.fits (let P : Walk → Type 0 = λ v. FitInTurn v ss in subst P (sym first.there) next.fits);
      there = there ∙ next.there ∙ ap (λ (v : Walk). at n c h v.spare) (sym there);
      spare = let P : Walk → Type 0 = λ v. less ≤ v.spare in subst P (sym there) next.spare;
    }

pub goes_nowhere : (m : StorageState) (b g : ℕ → Option ℕ) (s left : ℕ) → left ≤ s → Goes (at m b g s) [] m b g left
goes_nowhere m b g s left less = record { fits = tt; there = refl; spare = less }

-- one record whose step is this
pub goes_step :
    (m n : StorageState) (b g c h : ℕ → Option ℕ) (s t left : ℕ) (r : Record) → Fits (at m b g s) r → step (at m b g s) r ≡ at n c h t → left ≤ t
    → Goes (at m b g s) (r ∷ []) n c h left
goes_step m n b g c h s t left r fits steps less = record {
  fits = (fits, tt);
  there = steps ∙ ap (λ (v : Walk). at n c h v.spare) (sym steps);
  spare = let P : Walk → Type 0 = λ v. left ≤ v.spare in subst P (sym steps) less;
}

-- to a state that is equal
pub goes_to : (w : Walk) (rs : List Record) (m n : StorageState) (b g : ℕ → Option ℕ) (left : ℕ) → m ≡ n → Goes w rs m b g left → Goes w rs n b g left
goes_to w rs m n b g left e go = let P : StorageState → Type 0 = λ x. Goes w rs x b g left in subst P e go
