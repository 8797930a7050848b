-- What the machine of relations means.
use Rattle.std.specs.Prelude.{◌≡◌, ℕ, ◌^◌, ◌<◌, Bool, List, map, slice_index}
use Rattle.std.proofs.Common.{sym, subst}
use Rattle.std.proofs.lemmas.Nat.{pow_below}
use Rattle.machine.specs.Model.{Model}
use Rattle.machine.specs.Queries.{column}
use Rattle.machine.specs.Views.{names_of}
use Rattle.positions.specs.Tabs.{tab, length_tab, get_or-tab, length-along, bound-along}
use Rattle.positions.specs.Sets.{picked, moved_on, run_by, marked}
use Rattle.positions.proofs.Columns.{column-few}
use Rattle.positions.proofs.Pickings.{picked-lt}
use Rattle.positions.proofs.Unions.{moved-lt}
use Rattle.relation.specs.declared.action.RelationAction.{RelationAction}
use Rattle.relation.specs.declared.relation.RelationMachine.{RelationMachine}

-- the relation whose row k is f k
abbrev pub by_rows : (f : ℕ → ℕ) → ((k : ℕ) → k < 32 → f k < 2 ^ 32) → RelationAction
by_rows f low = record {
  rows = tab f 32;
  size = length_tab f 32;
  low = λ k h. subst (λ x. x < 2 ^ 32) (sym (get_or-tab f 32 k 0 h)) (low k h);
}

-- each position leads to itself
abbrev pub staying : RelationAction
staying = by_rows (λ k. 2 ^ k) (λ k h. pow_below k 32 h)

-- where a leads, and b from there
abbrev pub then_rows : RelationAction → RelationAction → RelationAction
then_rows a b = by_rows (λ k. picked (slice_index a.rows k) b.rows) (λ k h. picked-lt 32 (slice_index a.rows k) b.rows (λ j l. b.low j (subst (λ n. j < n) b.size l)))

-- a name's column
abbrev pub column_of : RelationMachine → List ℕ → ℕ
column_of m n = column (names_of m.names) n

-- the set after a name's column
abbrev pub moves_of : RelationMachine → ℕ → ℕ → ℕ
moves_of m = moved_on m.moves.fits m.moves.stays

pub moves_lt : (m : RelationMachine) (n : List ℕ) (set : ℕ) → moves_of m set (column_of m n) < 2 ^ 32
unfolding moved_on
moves_lt m n set = moved-lt 31 (slice_index m.moves.fits (column_of m n)) m.moves.stays set (m.moves.low (column_of m n) (column-few m.names n)) m.moves.within

-- where each position leads on a name
abbrev pub naming : RelationMachine → List ℕ → RelationAction
naming m n = by_rows (λ k. moves_of m (2 ^ k) (column_of m n)) (λ k h. moves_lt m n (2 ^ k))

-- the queries whose position 0 leads to their last
abbrev pub marking : RelationMachine → RelationAction → List Bool
marking m a = marked m.lines (λ q. slice_index a.rows (slice_index m.lines.first q))

-- the queries whose last position is in the set that the path's names lead to, one by one, from their position 0
abbrev pub verdict_of : RelationMachine → List (List ℕ) → List Bool
verdict_of m path = marked m.lines (λ q. run_by (moves_of m) (2 ^ slice_index m.lines.first q) (map (column_of m) path))

abbrev pub related : RelationMachine → Model RelationAction RelationAction
related m = record {
  stay = staying;
  action = naming m;
  then = then_rows;
  marks = marking m;
  plain = λ a. a;
  back = λ a. a;
  verdict = verdict_of m;
}

pub same-action : (a b : RelationAction) → a.rows ≡ b.rows → a ≡ b
same-action a b e = λ i. record { rows = e i; size = length-along 32 e a.size b.size i; low = bound-along 32 (2 ^ 32) e a.low b.low i }
