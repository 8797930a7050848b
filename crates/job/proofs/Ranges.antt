-- A range of the lists.
use Rattle.std.proofs.Common.{◌≡◌, ℕ, ◌+◌, ◌-◌, ◌<◌, ◌≤◌, List, length, take, drop, sym, ap, ◌∙◌, subst, arith}
use Rattle.std.specs.List.{between}
use Rattle.std.proofs.lemmas.List.Edits.{length-between, get_or-between}
use Rattle.rows.specs.declared.row.Row.{Row}
use Rattle.rows.specs.Pieces.{Inside}
use Rattle.rows.specs.Places.{paired, at, no_row}
use Rattle.rows.specs.Lists.{RowRule}
use Rattle.rows.proofs.Pairs.{take-paired}

-- a part of the lists, paired, is that part of the pairs
pub part-paired : {P : Type 0} (rs : List Row) (ps : List P) (a n : ℕ) → paired (between a (a + n) rs) (between a (a + n) ps) ≡ take n (paired (drop a rs) (drop a ps))
part-paired rs ps a n =
    let e : (a + n) - a ≡ n = omega arith in
    take-paired ((a + n) - a) (drop a rs) (drop a ps) ∙ ap (λ k. take k (paired (drop a rs) (drop a ps))) e

pub part-rule : (file : List ℕ) (rs : List Row) (a n : ℕ) → a + n ≤ length rs → RowRule file rs a n → (k : ℕ) → k < length (between a (a + n) rs) → Inside file (at (between a (a + n) rs) k)
part-rule file rs a n h rule k l =
    let e = length-between rs a (a + n) h in
    subst (Inside file) (sym (get_or-between rs a (a + n) k no_row (omega arith))) (rule k (omega arith))
