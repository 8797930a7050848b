-- What comes of reading a file in pieces by a plan.
use Rattle.std.specs.Prelude.{◌≡◌, ℕ, List, [], ◌∷◌, map, length, Some, Ok, Err, Result}
use Rattle.machine.specs.Model.{Model}
use Rattle.rows.specs.declared.row.Row.{Row}
use Rattle.answers.specs.declared.matches.Match.{Match}
use Rattle.answers.specs.Own.{own}
use Rattle.job.specs.declared.answer.Answer.{Answer}
use Rattle.runs.specs.declared.steps.Call.{Call}
use Rattle.runs.specs.declared.steps.Call.TheVariants.{Read, Join, Finish}
use Rattle.runs.specs.declared.steps.Step.{Step}
use Rattle.job.specs.State.{asked_open, Turns, Ended}
use Rattle.runs.specs.Runs.{Stage, begun, Run}
use Rattle.machine.specs.declared.refusal.Refusal.{Refusal}
use Rattle.solving.specs.Outcomes.{outcome_of}

-- the last call is a finish, and no other is
abbrev pub FinishesLast : List Call → Type 0
FinishesLast [] = ⊥
FinishesLast (Read from to ∷ cs) = FinishesLast cs
FinishesLast (Join l r ∷ cs) = FinishesLast cs
FinishesLast (Finish p ∷ cs) = cs ≡ []

abbrev pub calls_of : List Step → List Call
calls_of steps = map (λ (s : Step). s.call) steps

-- The steps that were asked for are run with these lists, and the outcome is the first refusal or answer.
-- An answer is the file's own by the machine's verdict, with the matches in order from the match list's start.
pub record Solved {A P : Type 0} (m : Model A P) (asked : List Step) (file : List ℕ) (rs : List Row) (ps : List P) (ms : List Match) (o : Result Answer Refusal) (rs' : List Row) (ps' : List P) (ns : List Match) : Type 0 where
  pub steps : List Step
  pub last : Stage P
  pub run : Run m file (begun file rs ps ms) asked steps last
  pub outcome : Some o ≡ outcome_of steps
  pub found : ns ≡ last.found
  -- the lists are left as the last call leaves them
  pub rows : rs' ≡ last.held.rows
  pub actions : ps' ≡ last.held.actions
  pub answers : (a : Answer) → o ≡ Ok a → Ended (own m.verdict file) ms (Ok a) ns

-- a file that no job is opened for is refused
abbrev pub SolveSays : {A P : Type 0} → Model A P → List Step → List ℕ → List Row → List P → List Match → Result Answer Refusal → List Row → List P → List Match → Type 0
SolveSays m asked file rs ps ms o rs' ps' ns = Turns (asked_open (length file)) (λ why. (o ≡ Err why) × (ns ≡ ms) × (rs' ≡ rs) × (ps' ≡ ps)) (Solved m asked file rs ps ms o rs' ps' ns)
