-- The numbers of the verdicts. Assumes nothing.
use Rattle.std.specs.Prelude.{ℕ}
use Rattle.listing.specs.declared.Verdict.{Verdict}
use Rattle.listing.specs.declared.Verdict.TheVariants as verdict

-- the recording is whole; a message of it was refused; it was not read to its end, or its lines were not written; nobody read them any more
abbrev pub verdict_number : Verdict → ℕ
verdict_number verdict.Whole = 0
verdict_number verdict.Refused = 1
verdict_number verdict.Failed = 2
verdict_number verdict.Unread = 141
