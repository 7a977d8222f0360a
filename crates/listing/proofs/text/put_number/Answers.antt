-- A number is put as std prints it. Assumes nothing.
use Rattle.std.proofs.Common.{rules}
use Rattle.listing.proofs.Laws.Text.{printed_decimal}
use Rattle.listing.proofs.text.put_number.Goals as goal

pub returns-clause-put : goal.returns-clause-put
returns-clause-put c =
    rw (printed_decimal c.args.n c.ranges.n.fits) (search rules)
