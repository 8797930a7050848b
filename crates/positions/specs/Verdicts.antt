-- What a verdict by the path rule is.
use Rattle.std.specs.Prelude.{◌≡◌, ℕ, zero, suc, ◌+◌, ◌<◌, ◌≤◌, Bool, false, List, [], map, length, Decides, slice_index, slice_index_or}
use Rattle.machine.specs.Paths.{Meets}
use Rattle.machine.specs.Limits.{most_bytes, most_positions, NamesFit}
use Rattle.machine.specs.Queries.{Query, asked, ends, size, names_used}
use Rattle.machine.specs.Text.{Parses}
use Rattle.positions.specs.declared.lines.Lines.{Lines}
use Rattle.positions.specs.Sets.{firsts}

-- the path meets the query k, which is there
pub record MeetsQuery (qs : List Query) (k : ℕ) (path : List (List ℕ)) : Type 0 where
  pub line : k < length qs
  pub meets : Meets (map asked (slice_index_or qs k [])) path

-- of eight queries the verdict on a path says exactly which the path meets; none without a line is met
pub record ByRule (qs : List Query) (verdict : List (List ℕ) → List Bool) : Type 0 where
  pub eight : (path : List (List ℕ)) → length (verdict path) ≡ 8
  pub tells : (path : List (List ℕ)) (k : ℕ) → Decides (slice_index_or (verdict path) k false) (MeetsQuery qs k path)

-- the first four questions on the text are answered yes, and these are its queries
pub record Passes (text : List ℕ) (qs : List Query) : Type 0 where
  pub short : length text ≤ most_bytes
  pub parses : Parses text qs
  pub few : size qs ≤ most_positions
  pub fitting : NamesFit (names_used qs)

-- the first position of the query k, given the last ones
abbrev pub begun : List ℕ → ℕ → ℕ
begun lasts zero = 0
begun lasts (suc k) = slice_index lasts k + 1

-- where the queries begin and end, as their positions are numbered
pub record LinesOf (qs : List Query) (l : Lines) : Type 0 where
  pub count : l.count ≡ length qs
  pub first : (k : ℕ) → k < length qs → slice_index l.first k ≡ slice_index (firsts 0 qs) k
  pub last : (k : ℕ) → k < length qs → slice_index l.last k ≡ slice_index (ends 0 qs) k
  pub rest : (k : ℕ) → length qs ≤ k → (slice_index l.first k ≡ 0) × (slice_index l.last k ≡ 0)
