use Rattle.storage_changes.proofs.MapTotalsSummed.{pages_are_counted, bytes_are_counted, totals_are_few}
use Rattle.storage_changes.proofs.maps.totals_are_sums.Goals as goal

pub returns-clause-pages : goal.returns-clause-pages
returns-clause-pages c = pages_are_counted

pub returns-clause-bytes : goal.returns-clause-bytes
returns-clause-bytes c = bytes_are_counted

pub returns-clause-few : goal.returns-clause-few
returns-clause-few c = totals_are_few
