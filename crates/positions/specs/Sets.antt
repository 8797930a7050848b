-- How sets of positions move on names.
use Rattle.std.specs.Prelude.{ℕ, ◌+◌, ◌-◌, ◌/◌, ◌%◌, Bool, true, cond, ◌&&◌, List, [], ◌∷◌, ◌++◌, map, length, replicate, ◌==◌, bit_or, nat_lt, slice_index}
use Rattle.machine.specs.declared.position.Position.{Position}
use Rattle.machine.specs.Queries.{Query, deep_at}
use Rattle.machine.specs.Masks.{mask, has, moved, fit_mask}
use Rattle.machine.specs.Views.{is_end}
use Rattle.positions.specs.declared.lines.Lines.{Lines}
use Rattle.positions.specs.Tabs.{tab}

-- the rows that the bits of `set` name, lowest first, in one
abbrev pub picked : ℕ → List ℕ → ℕ
picked set [] = 0
picked set (row ∷ rows) = bit_or (cond ((set % 2) == 1) row 0) (picked (set / 2) rows)

-- the set after a name of the column c: `fits` has the mask of each column, `stays` the positions that lead to themselves
unfoldable pub moved_on : List ℕ → ℕ → ℕ → ℕ → ℕ
moved_on fits stays set c = moved (slice_index fits c) stays set

-- the set after names, given by their columns
abbrev pub run_by : (ℕ → ℕ → ℕ) → ℕ → List ℕ → ℕ
run_by next set [] = set
run_by next set (c ∷ cs) = run_by next (next set c) cs

-- the first position of each query, that of the first query being o
abbrev pub firsts : ℕ → List Query → List ℕ
firsts o [] = []
firsts o (q ∷ qs) = o ∷ firsts (o + length q + 1) qs

-- the positions, of n in all, that lead to themselves: those before `//`, and the unused ones
abbrev pub rest_mask : ℕ → List Position → ℕ
rest_mask n ps = mask (map deep_at ps ++ replicate (n - length ps) true)

-- the mask of each of the 16 columns
abbrev pub fit_masks : List Position → List ℕ
fit_masks ps = tab (fit_mask ps) 16

-- the queries whose last position is in their set
abbrev pub marked : Lines → (ℕ → ℕ) → List Bool
marked l setOf = tab (λ q. nat_lt q l.count && has (setOf q) (slice_index l.last q)) 8

-- which positions are a query's 0: the first if `zero`, and each that follows an end
abbrev pub start_bits : Bool → List Position → List Bool
start_bits zero [] = []
start_bits zero (p ∷ ps) = zero ∷ start_bits (is_end p) ps
