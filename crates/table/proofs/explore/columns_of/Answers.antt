use Rattle.std.proofs.Common.{ℕ, ◌+◌, ◌*◌, ◌/◌, ◌%◌, get_or, ap, ◌∙◌, rules}
use Rattle.positions.specs.Tabs.{get_or-tab, from_fn-tab}
use Rattle.table.proofs.explore.columns_of.Goals as goal

pub returns : goal.returns
returns c =
    let at = λ (k : ℕ). get_or c.args.next.now (k % 32 * 16 + k / 32) 0 in
    let e = from_fn-tab _ _ at 512 (λ i x q l k. search rules) c.from_fn.result 0 c.from_fn.ensures.items in
    (c.from_fn.ensures.items.long, λ k l. ap (λ xs. get_or xs k 0) e ∙ get_or-tab at 512 k 0 l)
