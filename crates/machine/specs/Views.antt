-- What the code's values stand for.
use Rattle.std.specs.Prelude.{ℕ, ◌-◌, Bool, true, false, ◌&&◌, List, [], ◌∷◌, map, take, ◌==◌, nat_lt, slice_index_or}
use Rattle.machine.specs.declared.name.Name as the-name
use Rattle.machine.specs.declared.names.Names.{Names}
use Rattle.machine.specs.declared.plan.Plan.{Plan}
use Rattle.machine.specs.declared.position.Position.{Position}
use Rattle.machine.specs.declared.position.Position.TheVariants.{End, Any, Name}
use Rattle.machine.specs.Queries.{any, named, QueryStep, step, Query, column}

abbrev pub bytes_of : the-name.Name → List ℕ
bytes_of n = take n.len n.bytes

abbrev pub names_of : Names → List (List ℕ)
names_of ns = map bytes_of (take ns.count ns.list)

abbrev pub places_of : Plan → List Position
places_of p = take p.count p.list

abbrev pub lasts_of : Plan → List ℕ
lasts_of p = take p.lines p.lasts

-- a step before the first query
abbrev pub before : QueryStep → List Query → List Query
before s [] = []
before s (q ∷ qs) = (s ∷ q) ∷ qs

-- the queries that have these positions, a name going by its column
abbrev pub decoded : List (List ℕ) → List Position → List Query
decoded names [] = []
decoded names (End ∷ ps) = [] ∷ decoded names ps
decoded names (Any d ∷ ps) = before (step d any) (decoded names ps)
decoded names (Name d k ∷ ps) = before (step d (named (slice_index_or names (k - 1) []))) (decoded names ps)

-- the last position, if any, is an end
abbrev pub is_end : Position → Bool
is_end End = true
is_end (Any d) = false
is_end (Name d k) = false

abbrev pub complete : List Position → Bool
complete [] = true
complete (p ∷ []) = is_end p
complete (p ∷ r ∷ ps) = complete (r ∷ ps)

-- the name of a position's column has this column
abbrev pub listed_at : List (List ℕ) → Position → Bool
listed_at names End = true
listed_at names (Any d) = true
listed_at names (Name d k) = nat_lt 0 k && column names (slice_index_or names (k - 1) []) == k

abbrev pub are_all_listed : List (List ℕ) → List Position → Bool
are_all_listed names [] = true
are_all_listed names (p ∷ ps) = listed_at names p && are_all_listed names ps
