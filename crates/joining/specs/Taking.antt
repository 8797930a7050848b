-- Rows taken in order after those at the start of a list.
use Rattle.std.specs.Prelude.{◌≡◌, ℕ, ◌<◌, List, None, Option, take}
use Rattle.machine.specs.Model.{Model}
use Rattle.rows.specs.declared.row.Row.{Row}
use Rattle.rows.specs.declared.part.Kept.{Kept}
use Rattle.rows.specs.Pieces.{Entry, Inside, run, fault_after}
use Rattle.rows.specs.Places.{at, state}

-- the first n rows keep the row rule
abbrev pub FirstInside : List ℕ → List Row → ℕ → Type 0
FirstInside file rows n = (k : ℕ) → k < n → Inside file (at rows k)

-- the entries `more` were taken after the first `left` of the entries z, which became z'; a mismatch where it stopped is kept as the fault
pub record Takes {P Q : Type 0} (file : List ℕ) (m : Model P Q) (left : ℕ) (more z z' : List (Entry P)) (kept : Kept) : Type 0 where
  pub stop : Option ℕ
  pub taken : state z' left kept.rows stop ≡ run file m (take left z) more
  pub fault : kept.fault ≡ fault_after stop None
