-- The bytes of a region and of frames, page by page and address by address.
use Rattle.std.proofs.Common.{◌≡◌, ℕ, ◌+◌, ◌*◌, ◌/◌, ◌%◌, ◌<◌, ◌≤◌, Bool, true, false, List, Option, Some, None, IsSome, is_some, refl, sym, ap, ◌∙◌, arith}
use Rattle.std.specs.Option.{option_or}
use Rattle.run_set.specs.Runs.{inside}
use Rattle.run_set.proofs.RunLemmas.{inside_true}
use Rattle.raw_region.specs.Frames.{PageFrame}
use Rattle.raw_region.specs.Pages.{Pages, byte_of, bytes_at, byte_at}
use Rattle.raw_region.specs.Parked.{held_at}
use Rattle.raw_region.proofs.ForCallers.{byte_at-assigned}
use Rattle.storage_changes.specs.Changes.{no_pages}
use Rattle.storage_swap.specs.Storage.{byte_held}

pub nowhere : (page : ℕ) → inside page no_pages ≡ false
nowhere page = go (inside page no_pages) refl where
  go : (b : Bool) → inside page no_pages ≡ b → b ≡ false
  go true i = (let h : (0 ≤ page) × (page < 0 + 0) = inside_true page no_pages i in absurd (omega (arith, h.1)))
  go false i = refl

pub none-some : {A : Type 0} (o : Option A) → o ≡ None → IsSome o → ⊥
none-some None e h = cc
none-some (Some y) e h = cc

pub none-if : {A : Type 0} (o : Option A) → (IsSome o → ⊥) → o ≡ None
none-if None h = refl
none-if (Some y) h = absurd (h refl)

pub in-both : (b x : Option (List ℕ)) → x ≡ None → option_or b x ≡ b
in-both None x e = e
in-both (Some y) x e = refl

-- the first address of a page is the page's
pub first-address : (page : ℕ) → (4096 * page) / 4096 ≡ page
first-address page = omega arith

byte-some : (b : Option (List ℕ)) (k : ℕ) → is_some (byte_of b k) ≡ is_some b
byte-some None k = refl
byte-some (Some bs) k = refl

-- a frame that is held has each byte of its page
pub held-some : (frames : List PageFrame) (page : ℕ) → IsSome (held_at frames page) → IsSome (byte_held frames (4096 * page))
held-some frames page h =
    byte-some (held_at frames ((4096 * page) / 4096)) ((4096 * page) % 4096) ∙ ap (λ (x : ℕ). is_some (held_at frames x)) (first-address page) ∙ h

pub byte-held-some : (frames : List PageFrame) (a : ℕ) → IsSome (byte_held frames a) → IsSome (held_at frames (a / 4096))
byte-held-some frames a h = sym (byte-some (held_at frames (a / 4096)) (a % 4096)) ∙ h

-- if the page has the frame's bytes, the address has the frame's byte
pub byte-is-held : (s : Pages) (frames : List PageFrame) (a : ℕ) → bytes_at s (a / 4096) ≡ held_at frames (a / 4096) → byte_at s a ≡ byte_held frames a
unfolding byte_at
byte-is-held s frames a h = ap (λ (b : Option (List ℕ)). byte_of b (a % 4096)) h

-- a page whose first address has no byte has none
pub page-none : (s : Pages) (page : ℕ) → byte_at s (4096 * page) ≡ None → bytes_at s page ≡ None
page-none s page h = none-if (bytes_at s page) (λ k.
    none-some (byte_at s (4096 * page)) h (byte_at-assigned s (4096 * page) ∙ ap (λ (x : ℕ). is_some (bytes_at s x)) (first-address page) ∙ k))
