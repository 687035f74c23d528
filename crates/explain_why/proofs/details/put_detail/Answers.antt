use Rattle.std.proofs.Common.{[], ◌++◌, ap, subst, sym}
use Rattle.std.proofs.lemmas.List.{append-nil}
use Rattle.std.specs.Option.{option_map}
use Rattle.bench_core.specs.Stands.{bench_of}
use Rattle.text_output.specs.Writing.{Puts}
use Rattle.text_output.proofs.Gathering.{puts_both}
use Rattle.explain_why.specs.Details.{PutsDetail, at_text, name_text}
use Rattle.explain_why.specs.Obstacles.{bringer_text}
use Rattle.explain_why.proofs.Detailed.{fault_place}
use Rattle.explain_why.proofs.details.put_detail.Goals as goal

pub returns-in-Request-clause-detail : goal.returns-in-Request-clause-detail
returns-in-Request-clause-detail g c = λ own cards.
    let old = g.W.Write.contents c.args.writer.now in
    let now = g.W.Write.contents c.put_undefined.new.writer in
    let new = g.W.Write.contents c.put_bringer.new.writer in
    let before = c.args.gathered.now in
    let then = c.put_undefined.new.gathered in
    let after = c.put_bringer.new.gathered in
    let m = (bench_of c.args.bench.now).present in
    let d = c.args.definition in
    let b = c.args.bringer in
    let name = name_text (option_map (λ name. name.bytes) c.undefined_name-name.result) d in
    let its = name ++ bringer_text b in
    subst (λ x. PutsDetail c.args.first own m x d b old new before after) (sym c.in-Request.is) (
      its,
      ap (λ o. name_text o d ++ bringer_text b) c.undefined_name-name.ensures,
      (
        [],
        subst (Puts old new before after) (sym (append-nil its))
            (puts_both old now new before then after name (bringer_text b) c.put_undefined.ensures c.put_bringer.ensures),
      ),
    )

pub returns-in-Request-clause-some : goal.returns-in-Request-clause-some
returns-in-Request-clause-some g c =
    let name = name_text (option_map (λ name. name.bytes) c.undefined_name-name.result) c.args.definition in
    let last = bringer_text c.args.bringer in (
      name ++ last,
      puts_both (g.W.Write.contents c.args.writer.now) (g.W.Write.contents c.put_undefined.new.writer) (g.W.Write.contents c.put_bringer.new.writer)
          c.args.gathered.now c.put_undefined.new.gathered c.put_bringer.new.gathered name last c.put_undefined.ensures c.put_bringer.ensures,
    )

pub returns-in-Fault-clause-detail : goal.returns-in-Fault-clause-detail
returns-in-Fault-clause-detail g c = λ own cards.
    let kind = c.in-Fault.kind in
    let puts = c.put_fault_place.ensures in
    subst (λ x. PutsDetail c.args.first own (bench_of c.args.bench.now).present x c.args.definition c.args.bringer (g.W.Write.contents c.args.writer.now)
    (g.W.Write.contents c.put_fault_place.new.writer) c.args.gathered.now c.put_fault_place.new.gathered) (sym c.in-Fault.is) (
      at_text c.args.first puts.0.place,
      fault_place c.args.text.now c.args.ahead.now.places.lines.items own kind c.args.first puts.0 cards puts.1,
      puts.2,
    )

pub returns-in-Open-clause-detail : goal.returns-in-Open-clause-detail
returns-in-Open-clause-detail g c = λ own cards.
    let puts = c.put_fault_place-in-Open.ensures in
    subst (λ x. PutsDetail c.args.first own (bench_of c.args.bench.now).present x c.args.definition c.args.bringer (g.W.Write.contents c.args.writer.now)
    (g.W.Write.contents c.put_fault_place-in-Open.new.writer) c.args.gathered.now c.put_fault_place-in-Open.new.gathered) (sym c.in-Open.is)
    (at_text c.args.first puts.0.place, tt, puts.2)
