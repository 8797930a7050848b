use Rattle.std.proofs.Common.{◌++◌, length, refl, sym, ap, inl, inr, ◌∙◌, ⊎_elim, arith}
use Rattle.rows.specs.Places.{stored, paired}
use Rattle.answers.specs.Own.{matches_at}
use Rattle.answers.specs.Finish.{row_matches}
use Rattle.std.proofs.lemmas.List.{length-append}
use Rattle.finishing.proofs.Matches.{all-pending, pending-as, pending-moved, part-written, written-all, next-row, same-matches, paired-ended}
use Rattle.finishing.proofs.matching.write_matches.Goals as goal

pub loop-row-init : goal.loop-row-init
loop-row-init g c =
    let it = c.into_iter-row-iterator.ensures.into_iter_gives in
    let rows-are = ap (λ x. x.a.rest.now) it ∙ ap (λ x. x.rest.now) c.zip-row-items.ensures.first ∙ c.iter.ensures.rest in
    let acts-are = ap (λ x. x.b.rest.now) it ∙ c.zip-row-items.ensures.second.0 in
    pending-as (sym (same-matches (stored (g.M.Machine.model c.args.m.now)) rows-are acts-are)) (all-pending c.args.at _ _ _ refl c.requires)

pub write_set-n-requires : goal.write_set-n-requires
write_set-n-requires g c =
    let m = stored (g.M.Machine.model c.args.m.now) in
    let s = c.in-Some.ensures.steps in
    let p = pending-as (next-row m c.in-Some.row.now c.in-Some.plain.now s.0 s.1) c.loop-row.invariant in
    let own = ap (λ x. length (matches_at c.in-Some.row.now.place 0 x)) c.marked.ensures in
    let sum = length-append (matches_at c.in-Some.row.now.place 0 (m.marks c.in-Some.plain.now)) (row_matches m (paired c.next.new.self.a.rest.now c.next.new.self.b.rest.now)) in
    omega (arith, own, sum, p.ends, p.room)

pub loop-row-preserved : goal.loop-row-preserved
loop-row-preserved g c =
    let m = stored (g.M.Machine.model c.args.m.now) in
    let s = c.in-Some.ensures.steps in
    let w = c.write_set-n in
    let own = ap (λ x. matches_at c.in-Some.row.now.place 0 x) c.marked.ensures in
    let p = pending-as (next-row m c.in-Some.row.now c.in-Some.plain.now s.0 s.1 ∙ ap (λ x. x ++ row_matches m (paired c.next.new.self.a.rest.now c.next.new.self.b.rest.now)) (sym own)) c.loop-row.invariant in
    pending-moved w.ensures.end refl (part-written (matches_at c.in-Some.row.now.place 0 c.marked.result) p w.ensures.written w.auto.matches)

pub returns : goal.returns
returns g c =
    let l = c.loop-row in
    let m = stored (g.M.Machine.model c.args.m.now) in
    let none = paired-ended l.row-iterator.a.rest.now l.row-iterator.b.rest.now (⊎_elim (λ e. inl e.1.0) (λ e. inr e.1.0) c.in-None.ensures.steps) in
    let all = written-all (pending-as (ap (row_matches m) none) l.invariant) in
    record { written = all.0; end = all.1 }
