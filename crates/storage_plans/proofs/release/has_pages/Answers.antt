use Rattle.std.proofs.Common.{◌≡◌, ℕ, Bool}
use Rattle.vsm_model.specs.Search.{all_pass}
use Rattle.vsm_model.proofs.Least.{all_pass_at, all_pass_from}
use Rattle.storage_swap.specs.Storage.{state_of}
use Rattle.storage_plans.proofs.OwnedAreas.{both_answers, inside_from, in_inside}
use Rattle.storage_plans.proofs.release.has_pages.Goals as goal

pub returns : goal.returns
returns c =
    let set : ℕ → Bool = (state_of c.args.storage.now).subpools.pages c.args.subpool in
    let pages = c.args.pages in
    both_answers c.has_pages.result (all_pass set pages.start pages.len)
    (λ e. all_pass_from set pages.start pages.len (λ k low high. c.has_pages.ensures.0 e k (inside_from pages.start pages.len k low high)))
    (λ all. c.has_pages.ensures.1 (λ k i. let at = in_inside pages k i in all_pass_at set pages.start pages.len k all at.0 at.1))
