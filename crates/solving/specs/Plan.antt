-- The calls that read a file in pieces from the last back, and join each to what lies on its right.
use Rattle.std.specs.Prelude.{ℕ, ◌+◌, ◌-◌, ◌*◌, cond, nat_lt, List, [], ◌∷◌, ◌++◌, map, length}
use Rattle.runs.specs.declared.steps.Call.{Call}
use Rattle.runs.specs.declared.steps.Call.TheVariants.{Read, Join, Finish}
use Rattle.runs.specs.declared.steps.Reply.TheVariants.{Unanswered}
use Rattle.runs.specs.declared.steps.Step.{Step}

-- the calls for the bytes from `start` up to `size`: those from the first cut on come first, and make two pieces for each later cut and one more;
-- then the piece up to the first cut is read, and joined to the last one made
abbrev pub reading : ℕ → List ℕ → ℕ → List Call
reading start [] size = Read start size ∷ []
reading start (c ∷ cs) size = reading c cs size ++ (Read start c ∷ Join (2 * length cs + 1) (2 * length cs) ∷ [])

-- all the calls for a file: the last piece made is the whole file
abbrev pub planned : List ℕ → ℕ → List Call
planned cuts size = reading 0 cuts size ++ (Finish (2 * length cuts) ∷ [])

abbrev pub unanswered : Call → Step
unanswered c = record { call = c; reply = Unanswered }

abbrev pub plan_of : List ℕ → ℕ → List Step
plan_of cuts size = map unanswered (planned cuts size)

-- the calls that read a piece, and join it to the piece that was made last of so many, if there is one
abbrev pub piece_steps : ℕ → ℕ → ℕ → List Step
piece_steps made from to = unanswered (Read from to) ∷ cond (nat_lt 0 made) (unanswered (Join made (made - 1)) ∷ []) []
