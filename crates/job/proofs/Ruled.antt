-- Rows that keep the row rule, one by one.
use Rattle.std.proofs.Common.{◌≡◌, ℕ, zero, suc, ◌+◌, ◌<◌, ◌≤◌, true, List, [], ◌∷◌, length, take, drop, ◌∙◌, subst, arith}
use Rattle.std.proofs.lemmas.Bool.{leb-true, and_parts}
use Rattle.std.proofs.lemmas.List.{get_or-drop, get_or-take, length-take, length-drop}
use Rattle.rows.specs.declared.row.Row.{Row}
use Rattle.rows.specs.Pieces.{Inside}
use Rattle.rows.specs.Places.{at, no_row}
use Rattle.rows.specs.Lists.{RowRule}
use Rattle.job.specs.State.{inside, all_inside}

module _ (file : List ℕ) where
  each-inside : (rs : List Row) → all_inside file rs ≡ true → (k : ℕ) → k < length rs → Inside file (at rs k)
  each-inside [] e k h = absurd (omega arith)
  each-inside (r ∷ rs) e zero h = leb-true _ _ (and_parts (inside file r) (all_inside file rs) e).0
  each-inside (r ∷ rs) e (suc k) h = each-inside rs (and_parts (inside file r) (all_inside file rs) e).1 k (omega arith)

  -- the rows from a place on
  pub rule-of : (rs : List Row) (from n : ℕ) → from + n ≤ length rs → all_inside file (take n (drop from rs)) ≡ true → RowRule file rs from n
  rule-of rs from n h e k less =
      let size : k < length (take n (drop from rs)) = simp (length-take, length-drop) (omega arith) in
      subst (Inside file) (get_or-take n (drop from rs) k no_row less ∙ get_or-drop from rs k no_row) (each-inside (take n (drop from rs)) e k size)
