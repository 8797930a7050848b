use Rattle.std.proofs.Common.{◌≡◌, false, take, Some, None, refl, ap, ◌∙◌, is_some, arith}
use Rattle.rows.specs.Pieces.{seal}
use Rattle.rows.specs.Places.{stored, paired}
use Rattle.rows.proofs.Puts.{put-bad, put_one}
use Rattle.joining.proofs.Firsts.{no-fault}
use Rattle.joining.proofs.joining.put_stretch.Goals as goal

pub returns-in-Err-clause-put : goal.returns-in-Err-clause-put
returns-in-Err-clause-put g c =
    let none = no-fault c.args.x.fault (let e : is_some c.args.x.fault ≡ false = cc in e) in
    let m = stored (g.M.Machine.model c.args.source.now.machine.now) in
    put-bad c.args.source.now.file.now m _ _ _ _ none c.in-Err.ensures.made c.seal.ensures.sealed

pub returns-in-Added-clause-put : goal.returns-in-Added-clause-put
returns-in-Added-clause-put g c =
    let none = no-fault c.args.x.fault (let e : is_some c.args.x.fault ≡ false = cc in e) in
    let m = stored (g.M.Machine.model c.args.source.now.machine.now) in
    put_one c.args.source.now.file.now m _ _ _ _ None _ _ _ _ _ none (omega arith) c.in-Ok.ensures.made c.in-Added.ensures.taken refl

pub returns-in-Closed-clause-put : goal.returns-in-Closed-clause-put
returns-in-Closed-clause-put g c =
    let none = no-fault c.args.x.fault (let e : is_some c.args.x.fault ≡ false = cc in e) in
    let m = stored (g.M.Machine.model c.args.source.now.machine.now) in
    let z = paired c.put_entry.new.lists.rows.now c.put_entry.new.lists.actions.now in
    put_one c.args.source.now.file.now m _ _ _ _ None _ _ _ _ _ none (omega arith) c.in-Ok.ensures.made c.in-Closed.ensures.taken (ap (λ f. record { rows = take c.args.x.rows z; fault = f }) none)

pub returns-in-Mismatch-clause-put : goal.returns-in-Mismatch-clause-put
returns-in-Mismatch-clause-put g c =
    let none = no-fault c.args.x.fault (let e : is_some c.args.x.fault ≡ false = cc in e) in
    let m = stored (g.M.Machine.model c.args.source.now.machine.now) in
    let z = paired c.put_entry.new.lists.rows.now c.put_entry.new.lists.actions.now in
    put_one c.args.source.now.file.now m _ _ _ _ (Some c.in-Ok.made.0.place) _ _ _ _ _ none (omega arith) c.in-Ok.ensures.made c.in-Mismatch.ensures.taken (c.seal-in-Mismatch.ensures.sealed ∙ ap (λ f. seal (take c.args.x.rows z) (Some f)) c.mismatch.ensures)
