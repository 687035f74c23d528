use Rattle.std.proofs.Common.{◌∙◌, ◌/◌, ap}
use Rattle.bench_core.specs.Stands.{bench_of}
use Rattle.explain_who.specs.Taken.{taken_on}
use Rattle.explain_who.proofs.readings.read_place.Goals as goal

pub returns : goal.returns
returns c =
    let s = (bench_of c.args.bench.now).present.storage in
    let address = c.args.address in
    let state = c.storage-storage.ensures.state in
    let page = c.subpool_at-subpool.ensures ∙ ap (λ s. s.pages (address / 4096)) state in
    let taken = c.taken_on.ensures ∙ (λ i. taken_on (state i) address (page i)) in
    λ i. record {
      address = address;
      count = c.args.count;
      bytes = c.read_bytes.ensures i;
      subpool = page i;
      taken = taken i;
    }
