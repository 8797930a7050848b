-- The sets that arise from a start by moving on columns, whatever moves them, and what it is to find them all.
use Rattle.std.specs.Prelude.{◌≡◌, ℕ, ◌<◌, ◌≤◌, List, [], ◌∷◌, length, slice_index}
use Rattle.std.specs.List.{AllByRecursion}
use Rattle.positions.specs.Sets.{run_by}
use Rattle.table.specs.Closure.{closure}

-- some path of columns leads from the start to the set
pub record Arises (next : ℕ → ℕ → ℕ) (columns start set : ℕ) : Type 0 where
  pub path : List ℕ
  pub used : AllByRecursion (λ c. c < columns) path
  pub there : run_by next start path ≡ set

-- different sets that arise, more than `limit` of them
pub record MoreArise (next : ℕ → ℕ → ℕ) (columns start limit : ℕ) : Type 0 where
  pub sets : List ℕ
  pub many : limit < length sets
  pub arise : (k : ℕ) → k < length sets → Arises next columns start (slice_index sets k)
  pub apart : (j k : ℕ) → j < length sets → k < length sets → slice_index sets j ≡ slice_index sets k → j ≡ k

-- the sets are those that arise, each once
pub record AllArising (next : ℕ → ℕ → ℕ) (columns start : ℕ) (sets : List ℕ) : Type 0 where
  pub arise : (k : ℕ) → k < length sets → Arises next columns start (slice_index sets k)
  pub apart : (j k : ℕ) → j < length sets → k < length sets → slice_index sets j ≡ slice_index sets k → j ≡ k
  pub every : (set : ℕ) → Arises next columns start set → (k : ℕ) × (k < length sets) × (slice_index sets k ≡ set)

-- the closure finds all sets that arise if these are at most `limit`, and else more than that many
abbrev pub ClosureFinds : Type 0
ClosureFinds = (next : ℕ → ℕ → ℕ) (columns start limit : ℕ)
    → (length (closure next columns limit 0 (start ∷ [])) ≤ limit → AllArising next columns start (closure next columns limit 0 (start ∷ [])))
    × (limit < length (closure next columns limit 0 (start ∷ [])) → MoreArise next columns start limit)

-- no more than `limit` sets arise where all of them are at most that many
abbrev pub NeverBoth : Type 0
NeverBoth = (next : ℕ → ℕ → ℕ) (columns start limit : ℕ) (sets : List ℕ) → AllArising next columns start sets → length sets ≤ limit → MoreArise next columns start limit → ⊥
