use denote.Enum.Bare.{same_false}
use Rattle.rows.specs.contracts.row.RowKind.{the_type}
use Rattle.std.proofs.Common.{◌≡◌, ◌<◌, length, take, drop, get_or, set, sym, ap, ◌∙◌, rules, arith}
use Rattle.std.proofs.lemmas.List.{drop-set-lt}
use Rattle.rows.specs.Pieces.{closes}
use Rattle.rows.specs.Places.{paired, no_row}
use Rattle.rows.proofs.Keeps.{keep-more, keep-less}
use Rattle.rows.proofs.lists.Lists.keep_closes.Goals.{then-eq, else-eq}
use Rattle.rows.proofs.lists.Lists.keep_closes.Goals as goal

pub loop-i-preserved : goal.loop-i-preserved
loop-i-preserved g c =
    let l = c.loop-i in
    let was = l.self in
    let i = l.invariant in
    let here : l.i < length was.rows.now = omega arith in
    let z = paired c.args.self.now.rows.now c.args.self.now.actions.now in
    let n = c.args.n in
    let below : l.k < n = omega (arith, i.filters.behind) in
    elim c.if-eq.branch [
      | then-eq w ↦
          let rows-are : c.if-eq.self.rows.now ≡ set was.rows.now l.k (get_or was.rows.now l.i no_row) = cc in
          let actions-are : c.if-eq.self.actions.now ≡ set was.actions.now l.k w.index-self-i.result = cc in
          record {
            filters = keep-more z was.rows.now was.actions.now was.beside l.k l.i i.filters here _ _ _ w.index-self-i.result w.index-self-i.is (search rules) rows-are actions-are w.k-is;
            rows = ap (drop n) rows-are ∙ drop-set-lt n was.rows.now l.k _ below ∙ i.rows;
            actions = ap (drop n) actions-are ∙ drop-set-lt n was.actions.now l.k _ below ∙ i.actions;
            same = (cc, cc, cc);
          }
      | else-eq w ↦ record {
        filters = keep-less z was.rows.now was.actions.now was.beside l.k l.i i.filters here _ _ _ (same_false the_type _ _ (sym c.eq.ensures ∙ w.if-eq.false)) (ap (λ s. s.rows.now) w.self-is) (ap (λ s. s.actions.now) w.self-is) w.k-is;
        rows = ap (λ s. drop n s.rows.now) w.self-is ∙ i.rows;
        actions = ap (λ s. drop n s.actions.now) w.self-is ∙ i.actions;
        same = (cc, cc, cc);
      }
    ]

pub returns : goal.returns
returns g c =
    let l = c.loop-i in
    let e : l.i ≡ c.args.n = omega arith in
    let z = paired c.args.self.now.rows.now c.args.self.now.actions.now in
    record {
      kept = l.invariant.filters.front ∙ ap (λ x. closes (take x z)) e;
      within = omega (arith, l.invariant.filters.behind);
      rest = (l.invariant.rows, l.invariant.actions);
      same = l.invariant.same;
    }
