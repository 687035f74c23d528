use Rattle.std.proofs.Common.{◌≡◌, is_some, false, rules}
use Rattle.explain_reasons.proofs.Endings.{side_told}
use Rattle.explain_reasons.proofs.sides.put_side.Goals as goal

pub returns : goal.returns
returns g c =
    let none : is_some c.args.reason.inside ≡ false = cc in
    record {
      place =
          side_told (g.W.Write.contents c.args.writer.now) (g.W.Write.contents c.put_inside.new.writer) (g.W.Write.contents c.put_fresh.new.writer)
          c.args.gathered.now c.put_inside.new.gathered c.put_fresh.new.gathered c.args.reason.inside c.args.reason.fresh none
          c.put_inside.ensures.some c.put_fresh.ensures.some c.put_fresh.ensures.place;
      found = search rules;
    }
