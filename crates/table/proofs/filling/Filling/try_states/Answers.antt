use Rattle.std.proofs.Common.{◌∙◌, arith}
use Rattle.table.proofs.Trying.{length_seen}
use Rattle.table.proofs.Closing.{closing_more, closing_over, closing_all}
use Rattle.table.proofs.filling.Filling.try_states.Goals as goal

pub returns-in_err-try_state : goal.returns-in_err-try_state
returns-in_err-try_state c =
    let f = c.loop-i.self.found in
    let keeps = c.loop-i.invariant.keeps in
    let over = rw (keeps.moves, keeps.columns) at c.in_err-try_state.ensures.tried in
    rw c.from_residual.ensures (closing_over _ _ _ _ _ _ (omega (arith, f.within)) (omega (arith, length_seen f)) over c.loop-i.invariant.closing)

pub loop-i-preserved : goal.loop-i-preserved
loop-i-preserved c =
    let f = c.loop-i.self.found in
    let keeps = c.loop-i.invariant.keeps in
    let now = c.in_ok-try_state.ensures.keeps in
    let more = rw (keeps.moves, keeps.columns) at c.in_ok-try_state.ensures.tried in
    record {
      keeps = record { moves = now.moves ∙ keeps.moves; columns = now.columns ∙ keeps.columns };
      closing = closing_more _ _ _ _ _ _ _ _ (omega (arith, f.within)) (omega (arith, length_seen f)) more.0 more.1 c.loop-i.invariant.closing;
    }

pub returns : goal.returns
returns c = closing_all _ _ _ _ _ _ (omega (arith, length_seen c.loop-i.self.found)) c.loop-i.invariant.closing
