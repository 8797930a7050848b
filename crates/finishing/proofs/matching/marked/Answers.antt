use Rattle.std.proofs.Common.{◌≡◌, refl, ap, ◌∙◌}
use Rattle.machine.specs.Model.{Model}
use Rattle.rows.specs.Places.{stored}
use Rattle.finishing.proofs.matching.marked.Goals as goal

stored-marks : {A P : Type 0} (m : Model A P) (p : P) → m.marks (m.back p) ≡ (stored m).marks p
unfolding stored
stored-marks m p = refl

pub returns : goal.returns
returns g c = c.marks.ensures ∙ ap (g.M.Machine.model c.args.m.now).marks c.back-action.ensures ∙ stored-marks (g.M.Machine.model c.args.m.now) c.args.plain.now
