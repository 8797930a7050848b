use Rattle.request.proofs.Written.{reads-back}
use Rattle.request.proofs.forms.input_forms.Goals as goal

pub returns : goal.returns
returns c = reads-back
