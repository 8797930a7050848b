-- Positions, names and ends of queries, as they are put together.
use Rattle.std.specs.Prelude.{ℕ, ◌+◌, cond, List, [], ◌∷◌, ◌++◌, map, length}
use Rattle.machine.specs.declared.plan.Plan.{Plan}
use Rattle.machine.specs.declared.position.Position.{Position}
use Rattle.machine.specs.declared.position.Position.TheVariants.{End, Any, Name}
use Rattle.machine.specs.declared.reader.State.{State}
use Rattle.machine.specs.declared.reader.Turn.{Turn}
use Rattle.machine.specs.declared.reader.Turn.TheVariants.{On, Starred, Named}
use Rattle.machine.specs.Queries.{column, noted, noted_steps, names_used, position, positions, size, ends}
use Rattle.machine.specs.Reading.{closes, Draft}
use Rattle.machine.specs.Views.{places_of, lasts_of, names_of}

pub record Sketch : Type 0 where
  pub places : List Position
  pub names : List (List ℕ)
  pub lasts : List ℕ

abbrev pub drawing : List Position → List (List ℕ) → List ℕ → Sketch
drawing ps ns js = record { places = ps; names = ns; lasts = js }

abbrev pub sketch : Plan → Sketch
sketch p = drawing (places_of p) (names_of p.names) (lasts_of p)

abbrev pub pushed : Position → Sketch → Sketch
pushed p S = drawing (S.places ++ p ∷ []) S.names S.lasts

-- a line has ended
abbrev pub ended : Sketch → Sketch
ended S = drawing (S.places ++ End ∷ []) S.names (S.lasts ++ length S.places ∷ [])

-- a step has ended, or none
abbrev pub taken : Turn → List ℕ → Sketch → Sketch
taken On n S = S
taken (Starred d) n S = pushed (Any d) S
taken (Named d) n S = drawing (S.places ++ Name d (column (noted S.names n) n) ∷ []) (noted S.names n) S.lasts

-- how many steps have ended
abbrev pub counted : Turn → ℕ
counted On = 0
counted (Starred d) = 1
counted (Named d) = 1

-- and how many lines
abbrev pub line_count : State → ℕ
line_count s = cond (closes s) 1 0

abbrev pub drawn : State → Turn → List ℕ → Sketch → Sketch
drawn s t n S = cond (closes s) (ended (taken t n S)) (taken t n S)

-- the names that a draft uses
abbrev pub names_in : Draft → List (List ℕ)
names_in D = noted_steps (names_used D.lines) D.steps

-- the positions that a draft has
abbrev pub size_in : Draft → ℕ
size_in D = size D.lines + length D.steps

-- the sketch of a draft
abbrev pub sketch_of : Draft → Sketch
sketch_of D = drawing (positions (names_in D) D.lines ++ map (position (names_in D)) D.steps) (names_in D) (ends 0 D.lines)
