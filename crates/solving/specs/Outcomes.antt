-- What the steps of a plan come to.
use Rattle.std.specs.Prelude.{List, [], ◌∷◌, Some, None, Ok, Err, Option, Result}
use Rattle.runs.specs.declared.steps.Reply.{Reply}
use Rattle.runs.specs.declared.steps.Reply.TheVariants as reply
use Rattle.runs.specs.declared.steps.Step.{Step}
use Rattle.job.specs.declared.answer.Answer.{Answer}
use Rattle.machine.specs.declared.refusal.Refusal.{Refusal}

-- a refusal or an answer decides; a piece's number does not
abbrev pub decided : Reply → Option (Result Answer Refusal)
decided reply.Unanswered = None
decided (reply.Made (Ok n)) = None
decided (reply.Made (Err why)) = Some (Err why)
decided (reply.Answered outcome) = Some outcome

abbrev pub first_of : Option (Result Answer Refusal) → Option (Result Answer Refusal) → Option (Result Answer Refusal)
first_of (Some o) later = Some o
first_of None later = later

-- the first reply that decides
abbrev pub outcome_of : List Step → Option (Result Answer Refusal)
outcome_of [] = None
outcome_of (s ∷ ss) = first_of (decided s.reply) (outcome_of ss)
