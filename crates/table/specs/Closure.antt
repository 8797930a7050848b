-- The sets that arise, in the order in which they are found.
use Rattle.std.specs.Prelude.{ℕ, zero, suc, ◌+◌, cond, List, [], ◌∷◌, ◌++◌, length, ◌==◌, nat_lt, slice_index}

-- where x stands first in the list, and the list's length where it does not
abbrev pub place : ℕ → List ℕ → ℕ
place x [] = 0
place x (y ∷ ys) = cond (x == y) 0 (suc (place x ys))

-- the list with x at its end, unless it stands there already
abbrev pub added : List ℕ → ℕ → List ℕ
added xs x = cond (nat_lt (place x xs) (length xs)) xs (xs ++ x ∷ [])

-- the n columns from c on, tried in one set
abbrev pub tried : (ℕ → ℕ → ℕ) → ℕ → ℕ → ℕ → List ℕ → List ℕ
tried next set c zero sets = sets
tried next set c (suc n) sets = tried next set (c + 1) n (added sets (next set c))

-- the sets found once the states from i on have been tried, n of them at most
unfoldable pub closure : (ℕ → ℕ → ℕ) → ℕ → ℕ → ℕ → List ℕ → List ℕ
closure next columns zero i sets = sets
closure next columns (suc n) i sets = cond (nat_lt i (length sets)) (closure next columns n (i + 1) (tried next (slice_index sets i) 0 columns sets)) sets
