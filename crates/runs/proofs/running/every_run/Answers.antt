use Rattle.runs.proofs.Faithful.{always, sound-begun, step}
use Rattle.runs.proofs.running.every_run.Goals as goal

pub returns : goal.returns
returns g c = record {
  runs = λ m laws file. always m file laws;
  steps = λ m laws. record { begins = λ file. sound-begun m file; goes = λ file. step m file laws };
}
