-- Queries over names, and their positions over columns.
use Rattle.std.specs.Prelude.{ℕ, suc, ◌+◌, ◌<◌, Bool, true, false, cond, List, [], ◌∷◌, ◌++◌, map, length, replicate, ◌==◌}
use Rattle.std.specs.List.{AllByRecursion}
use Rattle.std.specs.Str.{bytes_eq}
use Rattle.machine.specs.declared.position.Position.{Position}
use Rattle.machine.specs.declared.position.Position.TheVariants.{End, Any, Name}
use Rattle.machine.specs.Paths.{Step}

-- what a step asks of a name: nothing, or to be this one
pub data Test : Type 0 where
  any : Test
  named : List ℕ → Test

-- a step: whether it is `//`, and its test
pub record QueryStep : Type 0 where
  pub deep : Bool
  pub test : Test

abbrev pub step : Bool → Test → QueryStep
step d t = record { deep = d; test = t }

abbrev pub Query : Type 0
Query = List QueryStep

abbrev pub fits : Test → List ℕ → Bool
fits any n = true
fits (named m) n = bytes_eq m n

-- the step over names
abbrev pub asked : QueryStep → Step (List ℕ)
asked s = record { deep = s.deep; fits = fits s.test }

-- a name's column: 0 if it is unlisted, else one more than its place
abbrev pub column : List (List ℕ) → List ℕ → ℕ
column [] n = 0
column (m ∷ ms) n = cond (bytes_eq m n) 1 (cond (column ms n == 0) 0 (suc (column ms n)))

abbrev pub position_of : List (List ℕ) → Bool → Test → Position
position_of names deep any = Any deep
position_of names deep (named n) = Name deep (column names n)

-- the position before a step
abbrev pub position : List (List ℕ) → QueryStep → Position
position names s = position_of names s.deep s.test

-- the positions of all queries, query by query
abbrev pub positions : List (List ℕ) → List Query → List Position
positions names [] = []
positions names (q ∷ qs) = map (position names) q ++ End ∷ positions names qs

-- how many these are: steps plus queries
abbrev pub size : List Query → ℕ
size [] = 0
size (q ∷ qs) = length q + suc (size qs)

-- the set of all the queries' positions 0
abbrev pub begins : List Query → List Bool
begins [] = []
begins (q ∷ qs) = (true ∷ replicate (length q) false) ++ begins qs

-- the last position of each query, the first query's first position being o
abbrev pub ends : ℕ → List Query → List ℕ
ends o [] = []
ends o (q ∷ qs) = (o + length q) ∷ ends (o + length q + 1) qs

-- the names of the steps are listed
abbrev pub ListedTest : List (List ℕ) → Test → Type 0
ListedTest names any = Unit {0}
ListedTest names (named n) = 0 < column names n

abbrev pub Listed : List (List ℕ) → Query → Type 0
Listed names q = AllByRecursion (λ s. ListedTest names s.test) q

-- the list with a name at its end, unless the name stands there already
abbrev pub noted : List (List ℕ) → List ℕ → List (List ℕ)
noted names n = cond (column names n == 0) (names ++ n ∷ []) names

abbrev pub noted_test : List (List ℕ) → Test → List (List ℕ)
noted_test names any = names
noted_test names (named n) = noted names n

abbrev pub noted_steps : List (List ℕ) → Query → List (List ℕ)
noted_steps names [] = names
noted_steps names (s ∷ q) = noted_steps (noted_test names s.test) q

abbrev pub noted_all : List (List ℕ) → List Query → List (List ℕ)
noted_all names [] = names
noted_all names (q ∷ qs) = noted_all (noted_steps names q) qs

-- the names that the queries use, in the order of first use
abbrev pub names_used : List Query → List (List ℕ)
names_used qs = noted_all [] qs

-- whether the step after a position fits the names of a column, and whether it is `//`; after an end there is none
abbrev pub fits_at : Position → ℕ → Bool
fits_at End c = false
fits_at (Any deep) c = true
fits_at (Name deep k) c = k == c

abbrev pub deep_at : Position → Bool
deep_at End = false
deep_at (Any deep) = deep
deep_at (Name deep k) = deep

-- the step after a position, over columns; after an end, one that fits nothing
abbrev pub as_step : Position → Step ℕ
as_step p = record { deep = deep_at p; fits = fits_at p }
