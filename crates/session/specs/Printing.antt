-- What the program prints for an input.
use Rattle.std.specs.Prelude.{◌≡◌, ℕ, List, length, Result}
use Rattle.answers.specs.declared.matches.Match.{Match}
use Rattle.request.specs.Asked.{request}
use Rattle.machine.specs.declared.refusal.Refusal.{Refusal}
use Rattle.job.specs.declared.answer.Answer.{Answer}
use Rattle.listing.specs.Listing.{listing}
use Rattle.session.specs.Answering.{room, Said}

-- the listing of what comes of the input, with a match list of so many places, which may hold anything before
pub record Printed (input text : List ℕ) : Type 0 where
  pub outcome : Result Answer Refusal
  pub before : List Match
  pub after : List Match
  pub places : length before ≡ room
  pub said : Said (request input) before outcome after
  pub is : text ≡ listing outcome after
