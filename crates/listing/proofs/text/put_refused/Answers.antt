-- One text after the other. Assumes nothing.
use Rattle.std.proofs.Common.{arith}
use Rattle.listing.proofs.Laws.Text.{put_then}
use Rattle.listing.proofs.text.put_refused.Goals as goal

pub returns : goal.returns
returns c = record {
  put = put_then (put_then (put_then c.put_number-at.ensures.put c.put-at.ensures) c.put_number-at-2.ensures.put) c.put.ensures;
  upper_bound = omega arith;
}
