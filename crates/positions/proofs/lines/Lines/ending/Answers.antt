use Rattle.std.proofs.Common.{refl, rules}
use Rattle.positions.specs.Tabs.{from_fn-tab}
use Rattle.positions.proofs.Lining.{lining, first_of, last_of}
use Rattle.positions.proofs.lines.Lines.ending.Goals as goal

pub invariant_of-result : goal.invariant_of-result
invariant_of-result c =
    let xs = c.args.lasts.now in
    let f = from_fn-tab _ _ (first_of xs) 8 (λ i x q l k. search rules) c.from_fn-first.result 0 c.from_fn-first.ensures.items in
    let l = from_fn-tab _ _ (last_of xs) 8 (λ i x q l k. search rules) c.from_fn-last.result 0 c.from_fn-last.ensures.items in
    let h = lining xs c.from_fn-first.result c.from_fn-last.result c.requires.few c.requires.low c.requires.rising f l in
    record { firsts = c.from_fn-first.ensures.items.long; lasts = c.from_fn-last.ensures.items.long; begin = λ k _. h.begin k; end = λ k _. h.end k; within = c.requires.few }

pub returns : goal.returns
returns c =
    let xs = c.args.lasts.now in
    let f = from_fn-tab _ _ (first_of xs) 8 (λ i x q l k. search rules) c.from_fn-first.result 0 c.from_fn-first.ensures.items in
    let l = from_fn-tab _ _ (last_of xs) 8 (λ i x q l k. search rules) c.from_fn-last.result 0 c.from_fn-last.ensures.items in
    let h = lining xs c.from_fn-first.result c.from_fn-last.result c.requires.few c.requires.low c.requires.rising f l in
    record { count = refl; last = h.last; first = h.first; rest = h.rest }
