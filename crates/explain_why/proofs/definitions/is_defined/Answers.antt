use Rattle.std.proofs.Common.{◌∙◌, ap, is_some, sym}
use Rattle.vsm_model.specs.Names.{word_of}
use Rattle.bench_core.specs.Stands.{bench_of}
use Rattle.explain_why.proofs.Turns.{word_is}
use Rattle.explain_why.proofs.definitions.is_defined.Goals as goal

pub returns : goal.returns
returns c = λ settings given answers took.
    let name = c.args.name.now.bytes in
    sym (c.is_some.ensures ∙ ap is_some (c.name.ensures ∙ ap (λ b. word_of (bench_of b).present.names name) c.bench.ensures
    ∙ word_is settings name given answers c.args.session.now took))
