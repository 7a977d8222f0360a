-- An answer by the paper's number (01, "Language forms": "When an answer is an enum, a definition specifies this paper's number and values for
-- each of its cases. The promises use that definition."), for each of them at once. Assumes nothing.
use Rattle.std.specs.Prelude.{ℕ, Result, Ok, Err}
use Rattle.wire.specs.declared.status.Refused.{Refused}
use Rattle.wire.specs.Status.{refusal_number}

-- the number, 0 where the answer accepts, and the place of a refusal
pub record Numbered : Type 0 where
  pub number : ℕ
  pub place : ℕ

abbrev pub accepted_as : Numbered
accepted_as = record { number = 0; place = 0 }

abbrev pub refused_as : Refused → Numbered
refused_as r = record { number = refusal_number (r.refusal); place = r.place }

-- of an answer with a value of any type
abbrev pub numbered : {A : Type 0} → Result A Refused → Numbered
numbered (Ok x) = accepted_as
numbered (Err r) = refused_as r
