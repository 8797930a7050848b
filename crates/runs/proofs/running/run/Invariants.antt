use Rattle.std.proofs.Common.{◌≡◌, map, take}
use Rattle.runs.specs.declared.steps.Step.{Step}
use Rattle.runs.specs.Runs.{Chain, Faithfully, begun, stage, Sound}
use Rattle.runs.proofs.running.run.Given as goal

-- the calls are the asked ones; those made so far were faithful, and what they left is sound
abbrev pub invariant-loop-step : goal.invariant-loop-step
invariant-loop-step g l =
    let m = g.M.Machine.model l.m in
    let here = stage l.job l.rows l.actions l.matches in
    (map (λ (s : Step). s.call) l.steps ≡ map (λ (s : Step). s.call) l.initial.steps)
    × Chain (Faithfully m l.file) (begun l.file l.initial.rows l.initial.actions l.initial.matches) (take l.step-index l.steps) here
    × Sound m l.file here.held
