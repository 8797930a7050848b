use Rattle.std.proofs.Common.{◌≡◌, ◌<◌, length, Some, None, refl, ap, ◌∙◌, ⊎_elim, arith}
use Rattle.joining.proofs.Loops.{running_none, renamed, added_more, closed-more, same_more, stopped_more, own-here, running-all}
use Rattle.joining.proofs.joining.take_rows.Goals as goal

pub loop-row-init : goal.loop-row-init
loop-row-init g c =
    let it = c.into_iter-row-iterator.ensures.into_iter_gives in
    let rows-are = ap (λ x. x.a.rest.now) it ∙ ap (λ x. x.rest.now) c.zip-row-items.ensures.first ∙ c.iter.ensures.rest in
    let acts-are = ap (λ x. x.b.rest.now) it ∙ c.zip-row-items.ensures.second.0 in
    record {
      running = renamed rows-are acts-are (running_none c.args.lists.now.beside (omega arith) (omega arith) c.args.more.now.beside c.base_of-base.ensures c.requires.names c.requires.own);
      same = (refl, refl, refl);
    }

pub put_entry-requires : goal.put_entry-requires
put_entry-requires g c =
    let i = c.loop-row.invariant.running in
    let s = c.in-Some.ensures.steps in
    let room : c.loop-row.n < length c.loop-row.lists.rows.now = let k = ap length s.0 in omega (arith, i.high, c.loop-row.invariant.same.2, c.requires.room) in
    record {
      room = room;
      within = i.low;
      based = i.based;
      names = i.names;
      own = own-here i s.0 s.1;
    }

pub returns-in-Mismatch : goal.returns-in-Mismatch
returns-in-Mismatch g c =
    let i = c.loop-row.invariant.running in
    let s = c.in-Some.ensures.steps in
    record {
      taken = record { stop = Some c.in-Some.row.now.place; taken = stopped_more i s.0 s.1 _ _ c.in-Mismatch.ensures.taken; fault = ap (λ f. Some f) c.mismatch.ensures };
      within = (i.low, omega (arith, i.high));
      same = (cc, cc, cc);
    }

pub loop-row-preserved-in-Added : goal.loop-row-preserved-in-Added
loop-row-preserved-in-Added g c =
    let s = c.in-Some.ensures.steps in
    let did = c.in-Added.ensures in
    record { running = added_more c.loop-row.invariant.running s.0 s.1 _ _ did.taken did.rows; same = (cc, cc, cc) }

pub loop-row-preserved-in-Some-base : goal.loop-row-preserved-in-Some-base
loop-row-preserved-in-Some-base g c =
    let s = c.in-Some.ensures.steps in
    let did = c.in-Closed.ensures in
    record { running = closed-more c.loop-row.invariant.running s.0 s.1 _ _ c.in-Some-base.is (omega (arith, c.loop-row.invariant.same.2)) did.taken did.rows c.base_of-base-in-Some-base.ensures; same = (cc, cc, cc) }

pub loop-row-preserved : goal.loop-row-preserved
loop-row-preserved g c =
    let s = c.in-Some.ensures.steps in
    let did = c.in-Closed.ensures in
    record { running = same_more c.loop-row.invariant.running s.0 s.1 _ _ c.in_default.is did.taken did.rows; same = (cc, cc, cc) }

pub returns : goal.returns
returns g c =
    let i = c.loop-row.invariant.running in
    let none : length c.loop-row.row-iterator.a.rest.now ≡ 0 = ⊎_elim (λ e. e.1.0) (λ e. let k = e.1.0 in omega (arith, i.beside)) c.in-None.ensures.steps in
    record {
      taken = record { stop = None; taken = running-all _ i none; fault = refl };
      within = (i.low, omega (arith, i.high));
      same = c.loop-row.invariant.same;
    }
