-- Which answers may change the figures, and the figures after each.
use Rattle.std.specs.Prelude.{◌≡◌, ℕ, Bool, true, false, Option, Some, None}
use Rattle.vsm_model.specs.declared.replies.Reply.TheVariants as reply
use Rattle.script_steps.specs.declared.responses.Response.{Response}
use Rattle.script_steps.specs.declared.responses.Response.TheVariants as response
use Rattle.vsm_model.specs.State.{State}
use Rattle.vsm_model.specs.declared.limits.Settings.{Settings}
use Rattle.explain_report.specs.Figures.{IsFiguresOf, seen_in}
use Rattle.explain_report.specs.declared.times.Figures.{Figures}

-- Each accepted statement except a POKE may change pages, free storage and cells, and so may each step.
abbrev pub may_change : Response → Bool
may_change (response.Replied reply.Stored) = false
may_change (response.Replied _) = true
may_change (response.Kept n) = true
may_change _ = false

-- These states have the same subpools, which tasks see alike, with the same pages and the same taken doublewords, and
-- the same cell pools.
pub record HaveSameAreas (s t : State) : Type 0 where
  pub subpools : s.subpools ≡ t.subpools
  pub sight : s.sight ≡ t.sight
  pub pages : s.pages ≡ t.pages
  pub taken : s.taken ≡ t.taken
  pub cell_pools : s.cell_pools ≡ t.cell_pools

-- After an answer the figures are those of the state then, if it may have changed them, else those before it. They stay
-- of the same subpool.
pub record IsAsBefore (settings : Settings) (state : State) (before : Figures) (r : Response) (after : Figures) :
    Type 0 where
  pub changed : may_change r ≡ true → IsFiguresOf settings state after
  pub unchanged : may_change r ≡ false → after ≡ before
  pub seen : seen_in after ≡ seen_in before

-- after the answer of a line, if it has one
abbrev pub AreFiguresAfter : Settings → State → Figures → Option (ℕ × Response) → Figures → Type 0
AreFiguresAfter settings state before None after = after ≡ before
AreFiguresAfter settings state before (Some told) after = IsAsBefore settings state before told.1 after
