-- Contents as they stand in the lists of rows and of plain forms.
use Rattle.std.specs.Prelude.{◌≡◌, ℕ, ◌+◌, ◌<◌, ◌≤◌, List, ◌++◌, map, length, take, drop}
use Rattle.rows.specs.declared.row.Row.{Row}
use Rattle.rows.specs.declared.part.Kept.{Kept}
use Rattle.rows.specs.declared.part.Part.{Part}
use Rattle.rows.specs.Pieces.{Content, Inside}
use Rattle.rows.specs.Places.{paired, at}

-- what is kept from a place on
abbrev pub kept_at : {P : Type 0} → List Row → List P → ℕ → Kept → Content P
kept_at rows actions from k = record { rows = take k.rows (paired (drop from rows) (drop from actions)); fault = k.fault }

-- what a piece holds
abbrev pub held : {P : Type 0} → List Row → List P → Part → Content P
held rows actions p = kept_at rows actions p.at p.kept

-- its first mark, its last and how many there are
abbrev pub ends_of : Part → ℕ × ℕ × ℕ
ends_of p = (p.first, p.last, p.marks)

-- its rows keep the row rule
abbrev pub RowRule : List ℕ → List Row → ℕ → ℕ → Type 0
RowRule file rows from n = (k : ℕ) → k < n → Inside file (at rows (from + k))

abbrev pub rows_of : {P : Type 0} → Content P → List Row
rows_of c = map (λ e. e.row) c.rows

abbrev pub actions_of : {P : Type 0} → Content P → List P
actions_of c = map (λ e. e.act) c.rows

-- how many rows a content has, and its fault
abbrev pub kept_of : {P : Type 0} → Content P → Kept
kept_of c = record { rows = length c.rows; fault = c.fault }

-- a list with others put in at a place, over what stood there
abbrev pub splice : {X : Type 0} → ℕ → List X → List X → List X
splice n new old = take n old ++ (new ++ drop (n + length new) old)

-- the made ones stand from a place on, and after them, up to as many as there are marks, anything; all else is as it was
pub record Written {X : Type 0} (from marks : ℕ) (made old new : List X) : Type 0 where
  pub free : List X
  pub fits : length made + length free ≤ marks
  pub is : new ≡ splice from (made ++ free) old

-- the answer and the lists after a content was written from a place on
pub record Leaves {P : Type 0} (from marks : ℕ) (c : Content P) (answer : Kept) (rows rows' : List Row) (actions actions' : List P) : Type 0 where
  pub kept : answer ≡ kept_of c
  pub rows_are : Written from marks (rows_of c) rows rows'
  pub actions_are : Written from marks (actions_of c) actions actions'
