-- A message that is shown lies in the bytes that are not listed yet. Assumes nothing.
use Rattle.std.proofs.Common.{sym, refl, arith}
use Rattle.message_recording.proofs.Laws.Listing.{message_size}
use Rattle.listing.proofs.show.Goals as goal

pub overflow_add-state : goal.overflow_add-state
overflow_add-state c =
    let m = message_size _ _ _ (sym c.in-Message.ensures) in
    omega (arith, m.1)

pub returns-in-Message : goal.returns-in-Message
returns-in-Message c =
    let m = message_size _ _ _ (sym c.in-Message.ensures) in
    record {
      state = rw (← c.in-Message.ensures) refl;
      window = (omega (arith, m.1), refl);
      room = c.put_line.ensures.upper_bound;
      text = rw (← c.first_line-line.ensures) c.put_line.ensures.put;
    }

pub returns-in-Refused : goal.returns-in-Refused
returns-in-Refused c =
    record {
      state = rw (← c.in-Refused.ensures) refl;
      window = (omega arith, refl);
      room = c.put_line.ensures.upper_bound;
      text = rw (← c.first_line-line.ensures) c.put_line.ensures.put;
    }

pub returns-in-End : goal.returns-in-End
returns-in-End c =
    record {
      state = rw (← c.in-End.ensures) refl;
      window = (omega arith, refl);
      room = c.put_line.ensures.upper_bound;
      text = rw (← c.first_line-line.ensures) c.put_line.ensures.put;
    }
