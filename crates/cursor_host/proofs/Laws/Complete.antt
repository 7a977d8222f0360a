-- Where the question is refused, the call's answer is no. Assumes nothing.
use Rattle.std.proofs.Common.{◌≡◌, ℕ, Bool, false, List, Result, Ok, Err, refl, sym, subst, ◌∙◌, leb, length}
use Rattle.wire.specs.declared.status.Refused.{Refused}
use Rattle.wire.proofs.Laws.Bool.{by_test}
use Rattle.cursor_picture.specs.Completeness.{completeness}
use Rattle.cursor_layout.specs.PictureLayout.{picture_length, picture_of}
use Rattle.cursor_calls.specs.CursorCalls.{cursor_complete}
use Rattle.host_answers.specs.declared.Yes.{Yes}
use Rattle.host_answers.specs.Answers.{yes_of}

abbrev pub says_no : Yes → Type 0
says_no a = (a.status ≡ 0 → ⊥) → record { status = a.status; yes = false } ≡ a

answered : (x : Result Bool Refused) → says_no (yes_of x)
answered (Ok b) h = absurd (h refl)
answered (Err r) h = refl

complete : (qs image marks : List ℕ) → says_no (cursor_complete qs image marks)
unfolding cursor_complete
complete qs image marks =
    by_test says_no (leb picture_length (length qs)) _ _ (λ e. answered (completeness (picture_of qs) (length image) marks)) (λ e h. refl)

pub refused_no
    : (qs image marks : List ℕ) (y : Yes) → y ≡ cursor_complete qs image marks → (y.status ≡ 0 → ⊥)
    → record { status = y.status; yes = false } ≡ cursor_complete qs image marks
refused_no qs image marks y e h = subst says_no (sym e) (complete qs image marks) h ∙ e
