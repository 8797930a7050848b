use Rattle.answers.proofs.Past.{past}
use Rattle.answers.proofs.Rules.{accepts, exactly}
use Rattle.answers.proofs.Listings.{listing}
use Rattle.answers.proofs.laws.content_rule.Goals as goal

pub returns : goal.returns
returns c = record { accepted = accepts; exactly = exactly; listing = listing; past = past }
