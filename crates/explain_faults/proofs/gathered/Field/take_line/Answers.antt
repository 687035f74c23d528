use Rattle.std.proofs.Common.{◌∙◌, ap, sym}
use Rattle.macro_reader.specs.Continuation.{with_part}
use Rattle.explain_faults.specs.Places.{joined_of}
use Rattle.explain_faults.proofs.FieldPlaces.{goes_on}
use Rattle.explain_faults.proofs.gathered.Field.take_line.Goals as goal

pub returns-clause-joined : goal.returns-clause-joined
returns-clause-joined c =
    goes_on (joined_of c.args.self.now) (joined_of c.take_part.new.self) c.args.card.now (sym c.is_blank.ensures ∙ c.if-not-is_blank.false)
    c.if-not-self.false (sym c.stops.ensures ∙ c.if-stops.false) (c.take_part.ensures.joined ∙ ap (with_part c.args.self.now.text.items c.args.self.now.at) c.part_of.ensures.value)

pub returns-clause-places : goal.returns-clause-places
returns-clause-places c = c.take_part.ensures.places
