-- Queries worked through: their states, and the paths that they meet.
use Rattle.std.specs.Prelude.{◌≡◌, ℕ, ◌+◌, true, false, List, [], ◌∷◌, map, length, codes}
use Rattle.machine.specs.declared.refusal.Refusal.{Refusal}
use Rattle.machine.specs.declared.refusal.Refusal.TheVariants.{TooManySets}
use Rattle.machine.specs.Asked.{Refused}
use Rattle.machine.specs.Masks.{mask}
use Rattle.machine.specs.Paths.{Meets}
use Rattle.machine.specs.Queries.{any, named, QueryStep, Query, asked, positions, begins, names_used}
use Rattle.positions.specs.Verdicts.{Passes}
use Rattle.table.specs.Arising.{AllArising}
use Rattle.table.specs.Filling.{leads, states_of}
use Rattle.table.specs.Making.{TableRefused}

-- `/*`, `/n` and `//n`
abbrev pub star : QueryStep
star = record { deep = false; test = any }

abbrev pub slash : List ℕ → QueryStep
slash n = record { deep = false; test = named n }

abbrev pub slashes : List ℕ → QueryStep
slashes n = record { deep = true; test = named n }

abbrev pub four : Query
four = slashes (codes "a") ∷ star ∷ star ∷ star ∷ star ∷ []

abbrev pub five : Query
five = slashes (codes "a") ∷ star ∷ star ∷ star ∷ star ∷ star ∷ []

abbrev pub two_days : List (List ℕ)
two_days = codes "day" ∷ codes "day" ∷ []

-- the states of one query, once at most `limit` states have been tried
abbrev pub states_of_one : ℕ → Query → List ℕ
states_of_one limit q = states_of limit (names_used (q ∷ [])) (q ∷ [])

-- the sets are all that arise of one query
abbrev pub AllOfOne : Query → List ℕ → Type 0
AllOfOne q sets = AllArising (leads (positions (names_used (q ∷ [])) (q ∷ []))) (length (names_used (q ∷ [])) + 1) (mask (begins (q ∷ []))) sets

pub record QueryExamples : Type 0 where
  -- `//a/*/*/*/*` has 32 states
  pub four_passes : Passes (codes "//a/*/*/*/*") (four ∷ [])
  pub four_states : length (states_of_one 32 four) ≡ 32
  pub four_all : AllOfOne four (states_of_one 32 four)
  -- one more `/*` has 64: the table machine refuses it by the fifth question, and the machine of relations takes it, since no question of its own refuses it
  pub five_passes : Passes (codes "//a/*/*/*/*/*") (five ∷ [])
  pub five_states : length (states_of_one 64 five) ≡ 64
  pub five_all : AllOfOne five (states_of_one 64 five)
  pub five_refused : TableRefused (codes "//a/*/*/*/*/*") TooManySets
  pub five_taken : (why : Refusal) → Refused (codes "//a/*/*/*/*/*") why → ⊥
  -- `/day` misses the path day, day, and `//day` meets it
  pub day_misses : Meets (map asked (slash (codes "day") ∷ [])) two_days → ⊥
  pub day_meets : Meets (map asked (slashes (codes "day") ∷ [])) two_days
