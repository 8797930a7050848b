use Rattle.std.proofs.Common.{◌≡◌, sym, ap, ◌∙◌, arith}
use Rattle.std.specs.List.{sum_by, count_by}
use Rattle.std.proofs.lemmas.List.{take_all}
use Rattle.std.proofs.lemmas.List.Sums.{sum_by_more}
use Rattle.rows.specs.Places.{stored}
use Rattle.finishing.proofs.Matches.{counted, count-rows}
use Rattle.finishing.proofs.matching.count_matches.Goals as goal

pub loop-plain-preserved : goal.loop-plain-preserved
loop-plain-preserved g c =
    let m = stored (g.M.Machine.model c.args.m.now) in
    let l = c.loop-plain in
    let p = c.plain-item in
    let number = λ (x : _). count_by (λ b. b) (m.marks x) in
    let own : c.count_set-n.result ≡ count_by (λ b. b) (m.marks p.result) = c.count_set-n.ensures.number ∙ counted 0 0 c.marked.result ∙ ap (count_by (λ b. b)) c.marked.ensures in
    let here = ap number p.is in
    let more = sum_by_more number c.args.entries.now.actions.now l.plain-index p.result (omega arith) in
    (omega (arith, own, here, more, l.invariant.0), omega (arith, c.count_set-n.ensures.few, l.invariant.1))

pub returns : goal.returns
returns g c =
    let m = stored (g.M.Machine.model c.args.m.now) in
    let l = c.loop-plain in
    let entries = c.args.entries.now in
    record {
      number = l.invariant.0 ∙ ap (sum_by (λ p. count_by (λ b. b) (m.marks p))) (take_all l.plain-index entries.actions.now (omega arith)) ∙ sym (count-rows m entries.rows.now entries.actions.now entries.beside);
      few = omega (arith, l.invariant.1, entries.beside);
    }
