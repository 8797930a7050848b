-- The last open rows, by their places.
use Rattle.std.specs.Prelude.{◌≡◌, ◌↔◌, ℕ, zero, suc, ◌+◌, ◌<◌, ◌≤◌, Bool, true, cond, List, [], ◌∷◌, ◌++◌, length, Some, None, Option, ◌==◌, slice_index}
use Rattle.reading.specs.declared.opens.Opens.{Opens}
use Rattle.rows.specs.declared.row.Row.{Row}
use Rattle.rows.specs.Places.{NoneOpen, BaseAt}

-- the cell before another in the ring, and the one after it
abbrev pub back : ℕ → ℕ
back zero = 4095
back (suc t) = t

abbrev pub forth : ℕ → ℕ
forth t = cond (t == 4095) 0 (t + 1)

-- what the n cells before t hold, the nearest first
abbrev pub ring : List ℕ → ℕ → ℕ → List ℕ
ring cells t zero = []
ring cells t (suc n) = slice_index cells (back t) ∷ ring cells (back t) n

-- the places held, innermost first
abbrev pub items : Opens → List ℕ
items o = ring o.cells o.top o.count

-- one more in front, and perhaps some at the end forgotten
pub record Pushed (was is : Opens) (i : ℕ) : Type 0 where
  pub kept : List ℕ
  pub lost : List ℕ
  pub all : items was ≡ kept ++ lost
  pub items_is : items is ≡ i ∷ kept
  -- complete as long as nothing was forgotten
  pub whole : (is.complete ≡ true) ↔ ((was.complete ≡ true) × (lost ≡ []))
  -- only a full ring forgets, and only the outermost
  pub fits : was.count < 4096 → lost ≡ []
  pub one : length lost ≤ 1

-- below top the last open rows stand at these places, innermost first; if complete, there are no more
abbrev pub Chain : List Row → ℕ → List ℕ → Bool → Type 0
Chain rows top [] complete = complete ≡ true → NoneOpen rows 0 top
Chain rows top (i ∷ is) complete = BaseAt rows top i × Chain rows i is complete

-- the open rows below the base
abbrev pub ChainAt : List Row → Option ℕ → Opens → Type 0
ChainAt rows None o = Unit {0}
ChainAt rows (Some i) o = Chain rows i (items o) o.complete
