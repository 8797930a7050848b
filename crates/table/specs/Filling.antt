-- The states and their table.
use Rattle.std.specs.Prelude.{◌≡◌, ℕ, ◌+◌, ◌*◌, ◌<◌, ◌≤◌, List, [], ◌∷◌, length, take, slice_index}
use Rattle.machine.specs.declared.position.Position.{Position}
use Rattle.machine.specs.Queries.{Query, positions, begins}
use Rattle.machine.specs.Masks.{mask, deep_mask}
use Rattle.positions.specs.declared.moves.Moves.{Moves}
use Rattle.positions.specs.Sets.{moved_on, fit_masks}
use Rattle.table.specs.declared.filling.Filling.{Filling}
use Rattle.table.specs.declared.found.Found.{Found}
use Rattle.table.specs.declared.states.States.{States}
use Rattle.table.specs.Closure.{place, closure}

-- the states found
unfoldable pub seen : Found → List ℕ
seen f = take f.count f.sets

abbrev pub by_moves : Moves → ℕ → ℕ → ℕ
by_moves m = moved_on m.fits m.stays

-- the table so far: at each place below `upto` whose column is used, the state that the column leads to; else the state itself
pub record Filled (next : ℕ → ℕ → ℕ) (columns upto : ℕ) (sets table : List ℕ) : Type 0 where
  pub size : length table ≡ 512
  pub done : (a b : ℕ) → b < columns → a * 16 + b < upto → slice_index table (a * 16 + b) ≡ place (next (slice_index sets a) b) sets
  pub found : (a b : ℕ) → b < columns → a * 16 + b < upto → place (next (slice_index sets a) b) sets < length sets
  pub rest : (a b : ℕ) → a < 32 → b < 16 → (b < columns → upto ≤ a * 16 + b) → slice_index table (a * 16 + b) ≡ a

-- the same moves on the same columns
pub record KeepsMoves (old new : Filling) : Type 0 where
  pub moves : new.moves ≡ old.moves
  pub columns : new.columns ≡ old.columns

-- where the positions of queries lead on a column
abbrev pub leads : List Position → ℕ → ℕ → ℕ
leads ps = moved_on (fit_masks ps) (deep_mask ps)

-- the states of queries: the sets that arise from the set of all positions 0, as far as `limit` states tried give them.
-- Column 0 is the unlisted name's, and the names follow in order of first use
abbrev pub states_of : ℕ → List (List ℕ) → List Query → List ℕ
states_of limit names qs = closure (leads (positions names qs)) (length names + 1) limit 0 (mask (begins qs) ∷ [])

-- the states are those that arise from the start, and the table has where each column leads
pub record Made (next : ℕ → ℕ → ℕ) (columns start : ℕ) (s : States) : Type 0 where
  pub all : seen s.found ≡ closure next columns 32 0 (start ∷ [])
  pub filled : Filled next columns (length (seen s.found) * 16) (seen s.found) s.next
