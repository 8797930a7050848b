use Rattle.std.proofs.Common.{◌≡◌, Some, None, Ok, rules, refl, subst, arith}
use Rattle.rows.specs.Pieces.{fault_after}
use Rattle.rows.specs.Places.{stored, Based}
use Rattle.reading.specs.Reading.{fault_in}
use Rattle.rows.proofs.Steps.{state-of, close-step, mismatch-step}
use Rattle.reading.proofs.Readers.{put-row, closed-chain}
use Rattle.reading.proofs.reading.Reader.close.Goals as goal

pub returns-in_err-close_base-clause-put : goal.returns-in_err-close_base-clause-put
returns-in_err-close_base-clause-put g c p =
    let a = c.args in
    let s = a.source.now in
    let m = stored (g.M.Machine.model s.machine.now) in
    let was = a.lists.now in
    let n = a.self.now.rows in
    let b = subst (Based was.rows.now n) c.requires.base c.requires.ready.based in
    let did = c.in_err-close_base.ensures in
    let fault : fault_in c.from_residual.result ≡ fault_after (Some a.row.place) None = search rules in
    put-row s.file.now m was c.close_base.new.self a.self.now a.self.now c.from_residual.result n (Some a.row.place) a.row p (omega arith) refl fault refl
    (state-of n n _ did.mismatch.2 did.actions (mismatch-step s.file.now m was.rows.now was.actions.now was.beside n n c.requires.room (omega arith) a.row a.i b p c.requires.closes did.mismatch.1))

pub base_below-self-requires-clause-chain : goal.base_below-self-requires-clause-chain
base_below-self-requires-clause-chain g c =
    let a = c.args in
    closed-chain a.lists.now.rows.now c.close_base.new.self.rows.now a.self.now a.i c.requires.ready.chain c.requires.base c.in_ok-close_base.ensures.closed.1

pub returns-clause-put : goal.returns-clause-put
returns-clause-put g c p =
    let a = c.args in
    let s = a.source.now in
    let m = stored (g.M.Machine.model s.machine.now) in
    let was = a.lists.now in
    let n = a.self.now.rows in
    let b = subst (Based was.rows.now n) c.requires.base c.requires.ready.based in
    let did = c.in_ok-close_base.ensures in
    put-row s.file.now m was c.close_base.new.self a.self.now a.self.now (Ok tt) n None a.row p (omega arith) refl refl refl
    (state-of n n _ did.closed.1 did.actions (close-step s.file.now m was.rows.now was.actions.now was.beside n n c.requires.room (omega arith) a.row a.i b p c.requires.closes did.closed.0))
