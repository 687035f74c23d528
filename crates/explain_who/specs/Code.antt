-- Changes as the definitions see them.
use Rattle.explain_who.specs.Who.{Difference}
use Rattle.explain_who.specs.declared.found.NamedChange.{NamedChange}

abbrev pub difference_in : NamedChange → Difference
difference_in c =
    record {
      line = c.line;
      before = c.before.now;
      after = c.after.now;
      taken_before = c.taken_before;
      taken_after = c.taken_after;
    }
