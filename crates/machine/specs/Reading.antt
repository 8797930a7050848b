-- How a text of queries is read, a byte at a time.
use Rattle.std.specs.Prelude.{ℕ, Bool, true, false, cond, ◌||◌, List, [], ◌∷◌, ◌++◌, fold, ◌==◌}
use Rattle.tags.specs.Bytes.{letter, name_byte}
use Rattle.machine.specs.declared.reader.State.{State}
use Rattle.machine.specs.declared.reader.State.TheVariants.{Line, Slash, Deep, Inside, Star, Bad}
use Rattle.machine.specs.declared.reader.Turn.{Turn}
use Rattle.machine.specs.declared.reader.Turn.TheVariants.{On, Starred, Named}
use Rattle.machine.specs.Queries.{any, named, step, Query}

-- what a byte does in each state
abbrev pub turn : State → ℕ → State × Turn
turn Line b = cond (b == 47) (Slash, On) (Bad, On)
turn Slash b = cond (letter b) (Inside false, On) (cond (b == 47) (Deep, On) (cond (b == 42) (Star, Starred false) (Bad, On)))
turn Deep b = cond (letter b) (Inside true, On) (cond (b == 42) (Star, Starred true) (Bad, On))
turn (Inside d) b = cond (name_byte b) (Inside d, On) (cond (b == 47) (Slash, Named d) (cond (b == 10) (Line, Named d) (Bad, On)))
turn Star b = cond (b == 47) (Slash, On) (cond (b == 10) (Line, On) (Bad, On))
turn Bad b = (Bad, On)

-- the byte that led here ended a line
abbrev pub closes : State → Bool
closes Line = true
closes Slash = false
closes Deep = false
closes (Inside d) = false
closes Star = false
closes Bad = false

-- what has been read: the bytes since the last `/` or line's end, the steps of the line, and the lines before it
pub record Draft : Type 0 where
  pub state : State
  pub since : List ℕ
  pub steps : Query
  pub lines : List Query

abbrev pub draft : State → List ℕ → Query → List Query → Draft
draft s n q qs = record { state = s; since = n; steps = q; lines = qs }

abbrev pub steps_after : Turn → List ℕ → Query → Query
steps_after On n q = q
steps_after (Starred d) n q = q ++ step d any ∷ []
steps_after (Named d) n q = q ++ step d (named n) ∷ []

-- a byte that parts names
abbrev pub parts : ℕ → Bool
parts b = b == 47 || b == 10

abbrev pub since_after : ℕ → List ℕ → List ℕ
since_after b n = cond (parts b) [] (n ++ b ∷ [])

-- the steps so far go on, or are a line
abbrev pub lined : State → List ℕ → Query → List Query → Draft
lined s n q qs = cond (closes s) (draft s n [] (qs ++ q ∷ [])) (draft s n q qs)

abbrev pub next : Draft → ℕ → Draft
next D b = lined (turn D.state b).0 (since_after b D.since) (steps_after (turn D.state b).1 D.since D.steps) D.lines

abbrev pub start : Draft
start = draft Line [] [] []

-- what the text is read as; each line has an end, the last one too
unfoldable pub reads_as : List ℕ → Draft
reads_as text = fold next start (text ++ 10 ∷ [])
