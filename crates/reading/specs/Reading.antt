-- What is known while the rows of a part of the file are read.
use Rattle.std.specs.Prelude.{◌≡◌, ℕ, ◌<◌, true, List, [], take, Some, None, Ok, Err, Option, Result}
use Rattle.rows.specs.declared.row.Row.{Row}
use Rattle.rows.specs.declared.row.PieceFault.{PieceFault}
use Rattle.rows.specs.declared.lists.Lists.{Lists}
use Rattle.reading.specs.declared.opens.Opens.{Opens}
use Rattle.reading.specs.declared.reading.Reader.{Reader}
use Rattle.rows.specs.Pieces.{Content, Inside, seal}
use Rattle.rows.specs.Places.{paired, at, Based}
use Rattle.reading.specs.Opens.{items, Pushed, ChainAt}

-- the rows read so far
abbrev pub so_far : {P : Type 0} → Lists P → Reader → Content P
so_far lists r = record { rows = take r.rows (paired lists.rows.now lists.actions.now); fault = None }

abbrev pub fault_in : Result (Unit {0}) PieceFault → Option PieceFault
fault_in (Ok x) = None
fault_in (Err f) = Some f

-- the same after a step that may have met a fault
abbrev pub sealed : {P : Type 0} → Lists P → Reader → Result (Unit {0}) PieceFault → Content P
sealed lists r result = seal (take r.rows (paired lists.rows.now lists.actions.now)) (fault_in result)

-- the reader knows the base of the rows read so far and the open rows below it, and the rows keep the row rule
pub record Ready (file : List ℕ) (rows : List Row) (r : Reader) : Type 0 where
  pub based : Based rows r.rows r.base
  pub chain : ChainAt rows r.base r.opens
  pub names : (k : ℕ) → k < r.rows → Inside file (at rows k)

-- the open rows below a new base: the old base on top of those below it
abbrev pub Under : Opens → Opens → Option ℕ → Type 0
Under was is None = (items is ≡ []) × (is.complete ≡ true)
Under was is (Some i) = Pushed was is i
