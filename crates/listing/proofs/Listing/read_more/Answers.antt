-- The bytes that are kept are the front, and the read changes those after it. Assumes nothing.
use Rattle.std.proofs.Common.{◌≡◌, length, take, refl, arith, length-append, length-drop, length-take-le}
use Rattle.listing.proofs.Laws.Buffer.{front_kept}
use Rattle.listing.proofs.Listing.read_more.Goals as goal

pub returns-in-Err : goal.returns-in-Err
returns-in-Err g c =
    let m = c.move_to_front-kept.ensures in
    let n = c.move_to_front-kept.result in
    let front : length (take n c.move_to_front-kept.new.buf) ≡ n = length-take-le _ _ (omega arith) in
    record {
      window = (omega arith, rw (length-append, length-append, front) (omega arith), refl, refl);
      kept = front_kept c.read.new.buf _ _ _ _ _ m.count (omega arith) m.bytes;
      lines = (refl, rw (length-append, length-append, front, length-drop, length-drop) (omega arith));
    }

pub returns-in-Ok : goal.returns-in-Ok
returns-in-Ok g c =
    let m = c.move_to_front-kept.ensures in
    let n = c.move_to_front-kept.result in
    let more = c.in-Ok.ensures.bound.0 in
    let front : length (take n c.move_to_front-kept.new.buf) ≡ n = length-take-le _ _ (omega arith) in
    record {
      window = (omega arith, rw (length-append, length-append, front) (omega (arith, more)), refl, refl);
      kept = front_kept c.read.new.buf _ _ _ _ _ m.count (omega arith) m.bytes;
      lines = (refl, rw (length-append, length-append, front, length-drop, length-drop) (omega arith));
    }
