-- Each line is put after the others, and leaves less to do. Assumes nothing.
use Rattle.std.proofs.Common.{sym, refl, not, ap, ◌∙◌, arith}
use Rattle.wire.proofs.Laws.Bool.{not_both}
use Rattle.listing.proofs.Laws.Lines.{lines_none, lines_more, line_less}
use Rattle.listing.proofs.show_lines.Goals as goal

pub loop-state-init : goal.loop-state-init
loop-state-init c = let a = c.args in
    (c.requires, refl, lines_none a.buf.now a.out.now a.state)

pub returns-then-out-state-lt64 : goal.returns-then-out-state-lt64
returns-then-out-state-lt64 c =
    let l = c.loop-state.invariant in
    record { within = l.0; lines = l.2; all = λ g r. absurd (omega arith) }

pub returns-then-not-is_decided : goal.returns-then-not-is_decided
returns-then-not-is_decided c =
    let l = c.loop-state.invariant in
    record { within = l.0; lines = l.2; all = λ g r. sym c.is_decided.ensures ∙ c.if-not-is_decided.true }

pub loop-state-smaller : goal.loop-state-smaller
loop-state-smaller c = line_less _ _ c.loop-state.state c.show-state.result c.loop-state.invariant.0 (c.is_none.ensures ∙ ap not c.loop-state-test.true) c.show-state.ensures.state

pub loop-state-preserved : goal.loop-state-preserved
loop-state-preserved c =
    let w = c.show-state.ensures in
    let l = c.loop-state.invariant in
    let enough = sym c.is_decided.ensures ∙ c.if-not-is_decided.false in (
      record {
        ordered = w.window.0;
        inside = omega (arith, w.window.1, l.0.inside);
        large = l.0.large;
        fits = omega (arith, w.room);
        room = omega (arith, l.0.room);
      },
      omega arith,
      lines_more l.2 enough w.state w.text,
    )

pub returns : goal.returns
returns c =
    let l = c.loop-state.invariant in
    record { within = l.0; lines = l.2; all = λ g r. not_both _ (c.is_none.ensures ∙ ap not c.loop-state-test.false) g }
