-- Whether a picture is complete, as a host answers it. Assumes nothing.
use Rattle.std.specs.Prelude.{ℕ, Bool, false, Result, Ok, Err}
use Rattle.host_answers.specs.declared.Yes.{Yes}

-- the call's answer: an answer is accepted, and a refusal has its number, with no
abbrev pub asked_as : Result Bool ℕ → Yes
asked_as (Ok b) = record { status = 0; yes = b }
asked_as (Err n) = record { status = n; yes = false }
