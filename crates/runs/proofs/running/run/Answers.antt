use Rattle.std.proofs.Common.{◌<◌, List, [], length, get_or, sym, refl, ◌∙◌, subst, arith}
use Rattle.std.proofs.lemmas.List.{take_more_set, take_all}
use Rattle.runs.specs.declared.steps.Call.TheVariants.{Read}
use Rattle.runs.specs.declared.steps.Reply.TheVariants.{Unanswered}
use Rattle.runs.specs.declared.steps.Step.{Step}
use Rattle.job.specs.State.{State, seen, asked_open}
use Rattle.runs.specs.Runs.{Chain, none, Faithfully, begun, stage, answered, Sound}
use Rattle.job.proofs.Asked.{turns_none}
use Rattle.runs.proofs.Faithful.{sound-begun, opened-now, step, a-run, chain_push, same-calls}
use Rattle.runs.proofs.running.run.Goals as goal

pub loop-step-init : goal.loop-step-init
loop-step-init g c =
    let a = c.args in
    let m = g.M.Machine.model a.m.now in
    let file = a.file.now in
    let e = sym (opened-now (length file) (seen a.job.now) c.open.result (seen c.open.new.self) c.open.ensures.says c.in_ok-open.was).1 in (
      refl,
      subst (λ (j : State). Chain (Faithfully m file) (begun file a.rows.now a.actions.now a.matches.now) [] (record { held = record { job = j; rows = a.rows.now; actions = a.actions.now }; found = a.matches.now })) e none,
      subst (λ (j : State). Sound m file (record { job = j; rows = a.rows.now; actions = a.actions.now })) e (sound-begun m file a.rows.now a.actions.now a.matches.now),
    )

pub loop-step-preserved : goal.loop-step-preserved
loop-step-preserved g c =
    let a = c.args in
    let m = g.M.Machine.model a.m.now in
    let laws = g.met.M.Machine.lawful a.m.now in
    let file = a.file.now in
    let i = c.loop-step.step-index in
    let ss = c.loop-step.steps in
    let d : Step = answered (Read 0 0) Unanswered in
    let s : Step = answered (get_or ss i d).call c.make-step.result in
    let w = stage c.loop-step.job c.loop-step.rows c.loop-step.actions c.loop-step.matches in
    let v = stage c.make-step.new.job c.make-step.new.rows c.make-step.new.actions c.make-step.new.matches in
    let next = step m file laws w s v c.loop-step.invariant.2 c.make-step.ensures in
    let h : i < length ss = omega arith in (
      same-calls ss i d s h refl ∙ c.loop-step.invariant.0,
      subst (λ (xs : List Step). Chain (Faithfully m file) (begun file a.rows.now a.actions.now a.matches.now) xs v) (sym (take_more_set ss i s h)) (chain_push c.loop-step.invariant.1 next.0),
      next.1,
    )

pub returns : goal.returns
returns g c =
    let a = c.args in
    let m = g.M.Machine.model a.m.now in
    let laws = g.met.M.Machine.lawful a.m.now in
    let file = a.file.now in
    let ss = c.loop-step.steps in
    let w = begun file a.rows.now a.actions.now a.matches.now in
    let v = stage c.loop-step.job c.loop-step.rows c.loop-step.actions c.loop-step.matches in
    let o = opened-now (length file) (seen a.job.now) c.open.result (seen c.open.new.self) c.open.ensures.says c.in_ok-open.was in
    let ran = subst (λ (xs : List Step). Chain (Faithfully m file) w xs v) (take_all c.loop-step.step-index ss (omega arith)) c.loop-step.invariant.1 in
    turns_none (asked_open (length file)) _ _ o.0 (refl, a-run m file laws w a.steps.now ss v c.loop-step.invariant.0 ran c.loop-step.invariant.2)
