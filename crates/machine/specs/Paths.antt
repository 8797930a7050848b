-- When a path meets a query, and the stepping of sets of positions that decides it.
use Rattle.std.specs.Prelude.{◌≡◌, ℕ, ◌+◌, ◌-◌, ◌<◌, ◌≤◌, Bool, true, false, ◌&&◌, ◌||◌, List, [], ◌∷◌, length, replicate, Decides, slice_index_or}

-- one step over names of the type N: `//` is deep, and `fits` says which names the test fits
pub record Step (N : Type 0) : Type 0 where
  pub deep : Bool
  pub fits : N → Bool

-- the step s stands at the place p of the path (places count from 1); the step before it stands at `before`, 0 for none
pub record Placed {N : Type 0} (before : ℕ) (s : Step N) (p : ℕ) (path : List N) : Type 0 where
  pub later : before < p
  pub inside : p ≤ length path
  pub right_after : s.deep ≡ false → p ≡ before + 1
  pub fitting : (d : N) → s.fits (slice_index_or path (p - 1) d) ≡ true

-- the steps stand at the places, one by one, and the last at the path's end
abbrev pub Stand : {N : Type 0} → ℕ → List (Step N) → List ℕ → List N → Type 0
Stand before [] [] path = before ≡ length path
Stand before [] (p ∷ ps) path = ⊥
Stand before (s ∷ ss) [] path = ⊥
Stand before (s ∷ ss) (p ∷ ps) path = Placed before s p path × Stand p ss ps path

-- the path meets the steps
pub record Meets {N : Type 0} (steps : List (Step N)) (path : List N) : Type 0 where
  pub places : List ℕ
  pub stand : Stand 0 steps places path

-- the decision: the steps that are left against the names that are left
abbrev pub is_met : {N : Type 0} → List (Step N) → List N → Bool
is_met [] [] = true
is_met [] (n ∷ ns) = false
is_met (s ∷ ss) [] = false
is_met (s ∷ ss) (n ∷ ns) = (s.fits n && is_met ss ns) || (s.deep && is_met (s ∷ ss) ns)

-- a set of positions, as whether each is in it. Position j stands before the step j + 1. On the name n it leads to j + 1 if that step's
-- test fits, and to itself if that step is deep; `came` says that the position before leads to the first one
abbrev pub stepped : {N : Type 0} → List (Step N) → N → Bool → List Bool → List Bool
stepped ss n came [] = []
stepped [] n came (b ∷ bs) = came ∷ []
stepped (s ∷ ss) n came (b ∷ bs) = (came || (b && s.deep)) ∷ stepped ss n (b && s.fits n) bs

-- the set after a path
abbrev pub run : {N : Type 0} → List (Step N) → List Bool → List N → List Bool
run ss set [] = set
run ss set (n ∷ ns) = run ss (stepped ss n false set) ns

-- the set of position 0 alone
abbrev pub begin : {N : Type 0} → List (Step N) → List Bool
begin ss = true ∷ replicate (length ss) false

-- whether the last position is in the set that a path leads to from position 0
abbrev pub reached : {N : Type 0} → List (Step N) → List N → Bool
reached ss path = slice_index_or (run ss (begin ss) path) (length ss) false

-- for every query and path over the names N, the decision and the stepping tell whether the path meets the query
abbrev pub PathRule : Type 0 → Type 0
PathRule N = (ss : List (Step N)) (path : List N) → Decides (is_met ss path) (Meets ss path) × (reached ss path ≡ is_met ss path)
