-- What the table machine means.
use Rattle.std.specs.Prelude.{◌≡◌, ℕ, ◌+◌, ◌*◌, ◌%◌, ◌<◌, Bool, List, [], ◌∷◌, map, slice_index}
use Rattle.std.proofs.Common.{sym, subst, arith}
use Rattle.machine.specs.Model.{Model}
use Rattle.machine.specs.Queries.{column}
use Rattle.machine.specs.Views.{names_of}
use Rattle.positions.specs.Tabs.{tab, length_tab, get_or-tab, length-along, bound-along}
use Rattle.positions.specs.Sets.{marked}
use Rattle.positions.proofs.Columns.{column-few}
use Rattle.table.specs.declared.action.TableAction.{TableAction}
use Rattle.table.specs.declared.found.Found.{Found}
use Rattle.table.specs.declared.table.TableMachine.{TableMachine}
use Rattle.table.specs.Filling.{seen}

-- the action that leads each state k to f k
abbrev pub by_states : (f : ℕ → ℕ) → ((k : ℕ) → k < 32 → f k < 32) → TableAction
by_states f ok = record {
  to = tab f 32;
  size = length_tab f 32;
  ok = λ k h. subst (λ x. x < 32) (sym (get_or-tab f 32 k 0 h)) (ok k h);
}

abbrev pub staying : TableAction
staying = by_states (λ k. k) (λ k h. h)

-- where a leads, and b from there
abbrev pub then_states : TableAction → TableAction → TableAction
then_states a b = by_states (λ k. slice_index b.to (slice_index a.to k)) (λ k h. b.ok (slice_index a.to k) (a.ok k h))

-- a name's column
abbrev pub column_of : TableMachine → List ℕ → ℕ
column_of m n = column (names_of m.names) n

-- the state after a column, by the table
abbrev pub next_state : List ℕ → ℕ → ℕ → ℕ
next_state table state c = slice_index table (state * 16 + c)

pub next_few : (m : TableMachine) (state c : ℕ) → state < 32 → c < 16 → next_state m.states.next state c < 32
next_few m state c s h = m.states.ok (state * 16 + c) (omega arith)

-- where each state leads on a name
abbrev pub naming : TableMachine → List ℕ → TableAction
naming m n = by_states (λ k. next_state m.states.next k (column_of m n)) (λ k h. next_few m k (column_of m n) h (column-few m.names n))

-- the set of a state, and none for an unused one
abbrev pub set_at : Found → ℕ → ℕ
set_at f state = slice_index (seen f) state

-- the queries whose last position is in the set that state 0 leads to
abbrev pub marking : TableMachine → TableAction → List Bool
marking m a = marked m.lines (λ q. set_at m.states.found (slice_index a.to 0))

-- any 32 bytes, each modulo 32
abbrev pub backing : List ℕ → TableAction
backing p = by_states (λ k. slice_index p k % 32) (λ k h. omega arith)

-- the state after columns, one by one
abbrev pub walk : List ℕ → ℕ → List ℕ → ℕ
walk table state [] = state
walk table state (c ∷ cs) = walk table (next_state table state c) cs

-- the queries whose last position is in the set of the state that the path's names lead to, one by one, from state 0
abbrev pub verdict_of : TableMachine → List (List ℕ) → List Bool
verdict_of m path = marked m.lines (λ q. set_at m.states.found (walk m.states.next 0 (map (column_of m) path)))

abbrev pub tabled : TableMachine → Model TableAction (List ℕ)
tabled m = record {
  stay = staying;
  action = naming m;
  then = then_states;
  marks = marking m;
  plain = λ a. a.to;
  back = backing;
  verdict = verdict_of m;
}

pub same-action : (a b : TableAction) → a.to ≡ b.to → a ≡ b
same-action a b e = λ i. record { to = e i; size = length-along 32 e a.size b.size i; ok = bound-along 32 32 e a.ok b.ok i }
