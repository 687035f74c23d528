use Rattle.std.proofs.Common.{◌≡◌, ◌<◌, ◌^◌, ℕ, if◌then◌else◌, Some, length, sym, ap, subst, ◌∙◌, arith}
use Rattle.std.proofs.lemmas.Result.{on_ok_weaker}
use Rattle.vsm_model.specs.Regions.{among}
use Rattle.explain_standing.specs.NumberMaps.{number_in}
use Rattle.explain_findings.specs.LeftTables.{at_place}
use Rattle.explain_findings.proofs.LeftPlaces.{put_kept, put_own, put_within}
use Rattle.explain_findings.proofs.left.LeftTable.put.Goals as goal

pub returns-clause-left : goal.returns-clause-left
returns-clause-left c =
    let t = c.args.self.now in
    let place_is : c.in-Ok.place ≡ length t.left.items = omega (arith, c.in-Ok.ensures, c.len.ensures) in
    on_ok_weaker c.take.result
    (λ took n low.
    ap (λ items. at_place items (number_in c.take.new.self n)) c.in_ok-push.ensures.items
    ∙ put_kept t c.requires c.args.line c.args.left c.take.new.self
    (λ k below. took k below ∙ ap (λ p. if among c.args.line 1 k then Some p else number_in t.places k) place_is) n low)
    c.take.ensures

pub returns-clause-placed : goal.returns-clause-placed
returns-clause-placed c =
    let t = c.args.self.now in
    let place_is : c.in-Ok.place ≡ length t.left.items = omega (arith, c.in-Ok.ensures, c.len.ensures) in
    on_ok_weaker c.take.result
    (λ took.
    let took_in : (k : ℕ) → k < 2 ^ 32 → number_in c.take.new.self k ≡ (if among c.args.line 1 k then Some (length t.left.items) else number_in t.places k) =
    λ k below. took k below ∙ ap (λ p. if among c.args.line 1 k then Some p else number_in t.places k) place_is in
    record {
      within = λ line place low is.
          subst (λ items. place < length items) (sym c.in_ok-push.ensures.items) (put_within t c.requires c.args.line c.args.left c.take.new.self took_in line place low is);
      own = put_own t c.requires c.args.line c.args.left c.take.new.self took_in;
    })
    c.take.ensures
