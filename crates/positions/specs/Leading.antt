-- Which position leads to which.
use Rattle.std.specs.Prelude.{◌≡◌, ℕ, ◌+◌, ◌^◌, ◌<◌, ◌≤◌, Bool, true, false, ◌⊎◌, List, length, Decides, slice_index, slice_index_or}
use Rattle.machine.specs.declared.position.Position.{Position}
use Rattle.machine.specs.declared.position.Position.TheVariants.{End}
use Rattle.machine.specs.Queries.{QueryStep, fits, column, position, fits_at, deep_at, ListedTest}
use Rattle.machine.specs.Masks.{mask, has, deep_mask}
use Rattle.positions.specs.Sets.{picked, moved_on, rest_mask, fit_masks}

-- on a name of the column c the position i leads to j: to the next one if the step after it fits, and to itself if that step is `//`
abbrev pub LeadsTo : List Position → ℕ → ℕ → ℕ → Type 0
LeadsTo ps c i j = ((j ≡ i + 1) × (fits_at (slice_index_or ps i End) c ≡ true)) ⊎ ((j ≡ i) × (deep_at (slice_index_or ps i End) ≡ true))

-- the same of n positions, of which those that no query uses lead to themselves
abbrev pub LeadsOrRests : ℕ → List Position → ℕ → ℕ → ℕ → Type 0
LeadsOrRests n ps c i j = LeadsTo ps c i j ⊎ ((j ≡ i) × (length ps ≤ i) × (i < n))

-- a position is in the set after a name exactly if one that was in the set leads to it
abbrev pub MovesByPosition : Type 0
MovesByPosition = (ps : List Position) (set c j : ℕ) → c < 16
    → Decides (has (moved_on (fit_masks ps) (deep_mask ps) set c) j) ((i : ℕ) × (has set i ≡ true) × LeadsTo ps c i j)

abbrev pub RestsByPosition : Type 0
RestsByPosition = (n : ℕ) (ps : List Position) (set c j : ℕ) → c < 16
    → Decides (has (moved_on (fit_masks ps) (rest_mask n ps) set c) j) ((i : ℕ) × (has set i ≡ true) × LeadsOrRests n ps c i j)

-- a position is in what a set picks from rows exactly if it is in the row of one in the set
abbrev pub PicksByPosition : Type 0
PicksByPosition = (set : ℕ) (rows : List ℕ) (j : ℕ) → Decides (has (picked set rows) j) ((i : ℕ) × (has set i ≡ true) × (has (slice_index rows i) j ≡ true))

-- a mask has the positions that are listed as true, and 2 ^ k the position k alone
abbrev pub MasksByPosition : Type 0
MasksByPosition = ((bs : List Bool) (j : ℕ) → has (mask bs) j ≡ slice_index_or bs j false) × ((k j : ℕ) → Decides (has (2 ^ k) j) (j ≡ k))

-- a step whose name is listed fits a name's column exactly if its test fits the name, and its position is before `//` exactly if the step is
abbrev pub ColumnsFit : Type 0
ColumnsFit = (names : List (List ℕ)) (s : QueryStep) (n : List ℕ) → ListedTest names s.test
    → (fits_at (position names s) (column names n) ≡ fits s.test n) × (deep_at (position names s) ≡ s.deep)
