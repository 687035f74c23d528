-- A storage before the first request, as the beginning of a history.
use Rattle.std.specs.Prelude.{[]}
use Rattle.std.proofs.Common.{arith}
use Rattle.vsm_model.specs.declared.limits.Settings.{Settings}
use Rattle.storage_swap.specs.declared.storage.Parts.{Parts}
use Rattle.storage_swap.specs.Fresh.{IsFresh}
use Rattle.storage_swap.specs.Apart.{AreWhole}

-- it is whole without any change
abbrev pub FreshStoragesAreWhole : Type 0
FreshStoragesAreWhole = (settings : Settings) (p : Parts) → IsFresh settings p → AreWhole p []

pub fresh-storages-are-whole : FreshStoragesAreWhole
fresh-storages-are-whole settings p fresh = record {
  apart = record {
    storage = fresh.stands;
    changes = tt;
    once = λ i. omega (arith, fresh.once i);
    frameless = fresh.frameless;
    aside = omega arith;
    out = omega arith;
  };
  all = λ i live. omega (arith, fresh.all i live);
  all_aside = omega (arith, fresh.aside);
  all_out = omega (arith, fresh.out);
}
