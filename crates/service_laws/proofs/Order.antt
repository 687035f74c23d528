-- DELETE releases the extents in any order.
use Rattle.std.proofs.Common.{sym, ◌∙◌, ap}
use Rattle.service_laws.specs.Promises.{OrderIsWithoutMeaning}
use Rattle.service_laws.proofs.Emptied.{emptied, extents_given_back}

pub order_is_without_meaning : OrderIsWithoutMeaning
order_is_without_meaning settings s pool xs ys w alike =
    extents_given_back settings s w.pages pool xs
    ∙ ap (emptied s pool.subpool) (λ i d. alike d i)
    ∙ sym (extents_given_back settings s w.pages pool ys)
