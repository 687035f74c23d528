-- A counter of 32 bits that steps wrap around: what the states mean on which kept changes are tested. S is a state that
-- shows a number.
use Rattle.std.specs.Prelude.{◌≡◌, ℕ, ◌+◌, ◌-◌, ◌%◌, ◌^◌, ◌<◌, List, refl}
use Rattle.std.proofs.Common.{arith}
use Rattle.step_history.specs.Laws.{ReversibleLaws}
use Rattle.step_history.specs.Chain.{Inverts}
use Rattle.step_history.specs.Single.{SingleSteps, steps_fit, steps_states, steps_laws}

-- counter and step are numbers of 32 bits
abbrev pub CanStep : ℕ → ℕ → Type 0
CanStep n step = (n < 2 ^ 32) × (step < 2 ^ 32)

-- where the step leads
abbrev pub stepped : ℕ → ℕ → ℕ
stepped n step = (n + step) % 2 ^ 32

-- the step that leads back
abbrev pub opposite : ℕ → ℕ → ℕ
opposite n step = (2 ^ 32 - step) % 2 ^ 32

-- the opposite step leads back, and its own opposite is the step
counter_inverts : Inverts CanStep stepped opposite
counter_inverts = record {
  fits_back = λ n step h. (omega arith, omega arith);
  leads_back = λ n step h. omega (arith, h.0, h.1);
  turns_back = λ n step h. omega (arith, h.0, h.1);
}

module _ {S : Type 0} (count_of : S → ℕ) where
  -- a step means its number
  abbrev pub step_of : S → ℕ → ℕ
  step_of s step = step

  -- steps hold nothing, so that they are always apart and whole
  abbrev pub hold_nothing : S → List ℕ → Type 0
  hold_nothing s steps = Unit {0}

  -- the step can be taken
  abbrev pub counter_can : S → ℕ → Type 0
  counter_can s step = CanStep (count_of s) step

  -- the step is taken, and turned round
  abbrev pub counter_swap : S → ℕ → S → ℕ → Type 0
  counter_swap s step t back = (count_of t ≡ stepped (count_of s) step) × (back ≡ opposite (count_of s) step)

  -- a step that is discarded leaves the counter as it was
  abbrev pub counter_discard : S → ℕ → S → Type 0
  counter_discard s step t = count_of t ≡ count_of s

  -- steps fit if they are numbers of 32 bits
  abbrev pub counter_fits : List ℕ → S → List ℕ → Type 0
  counter_fits = steps_fit CanStep stepped count_of step_of hold_nothing

  -- the numbers that steps lead to
  abbrev pub counter_states : List ℕ → S → List ℕ → List ℕ
  counter_states = steps_states CanStep stepped count_of step_of hold_nothing

  -- what a single step does
  pub counter_steps : SingleSteps CanStep stepped opposite count_of step_of hold_nothing hold_nothing counter_can
      counter_swap counter_discard
  counter_steps = record {
    inverts = counter_inverts;
    can = λ s c f h. f;
    swap_shows = λ s t c d w. w.0;
    swap_means = λ s t c d w. w.1;
    swap_others = λ s t c d x h w. refl;
    swap_apart = λ s t c d xs h w. tt;
    swap_whole = λ xs ys c d s t h w. tt;
    discard_shows = λ s t c w. w;
    discard_others = λ s t c x h w. refl;
    discard_apart = λ s t c xs h w. tt;
    discard_whole = λ xs ys c s t h w. tt;
    pick = λ xs ys c s h. tt;
    put = λ xs ys c s h. tt;
    rest = λ xs c s h. tt;
  }

  -- the laws of lists of steps
  pub counter_laws : ReversibleLaws count_of counter_fits counter_states hold_nothing hold_nothing counter_can
      counter_swap counter_discard
  counter_laws = steps_laws CanStep stepped count_of step_of hold_nothing counter_steps
