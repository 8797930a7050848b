-- Which matches a file has, and in which order.
use Rattle.std.specs.Prelude.{◌≡◌, ℕ, ◌<◌, Bool, true, false, ◌⊎◌, List, [], ◌∷◌, Ok, slice_index_or}
use Rattle.grammar.specs.Laws.{Iff}
use Rattle.answers.specs.declared.matches.Match.{Match}
use Rattle.answers.specs.Own.{Element, own}
use Rattle.answers.specs.Exact.{Holds}

pub data Among {X : Type 0} (x : X) : List X → Type 0 where
  first : {xs : List X} → Among x (x ∷ xs)
  later : {y : X} {xs : List X} → Among x xs → Among x (y ∷ xs)

-- by place, then by query
abbrev pub Earlier : Match → Match → Type 0
Earlier x y = (x.place < y.place) ⊎ ((x.place ≡ y.place) × (x.query < y.query))

abbrev pub EarlierThanFirst : Match → List Match → Type 0
EarlierThanFirst x [] = Unit {0}
EarlierThanFirst x (y ∷ ys) = Earlier x y

-- each match comes before the next
abbrev pub InOrder : List Match → Type 0
InOrder [] = Unit {0}
InOrder (x ∷ xs) = EarlierThanFirst x xs × InOrder xs

-- the matches of elements: one for each element and each query in the verdict on its path, in order
pub record Listed (verdict : List (List ℕ) → List Bool) (es : List Element) (ms : List Match) : Type 0 where
  pub each : (x : Match) → Iff (Among x ms) ((e : Element) × Among e es × (x.place ≡ e.place) × (slice_index_or (verdict e.path) x.query false ≡ true))
  pub ordered : InOrder ms

-- the matches of an accepted file are those of its elements
abbrev pub Listing : Type 0
Listing = (verdict : List (List ℕ) → List Bool) (file : List ℕ) (ms : List Match) → own verdict file ≡ Ok ms → (es : List Element) × Holds [] 0 file es × Listed verdict es ms
