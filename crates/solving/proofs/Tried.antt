-- From a run to what comes of it.
use Rattle.std.proofs.Common.{◌≡◌, ℕ, true, List, length, is_some, Some, None, Ok, Err, Option, Result, sym, refl, ap, ◌∙◌}
use Rattle.machine.specs.declared.refusal.Refusal.{Refusal}
use Rattle.machine.specs.Model.{Model}
use Rattle.answers.specs.Own.{own}
use Rattle.job.specs.declared.answer.Answer.{Answer}
use Rattle.job.specs.State.{asked_open, Turns}
use Rattle.job.specs.State as state
use Rattle.runs.specs.Runs.{stage, begun, Run, Lent, RunSays}
use Rattle.solving.specs.Outcomes.{outcome_of}
use Rattle.solving.specs.Solving.{FinishesLast, calls_of, Solved, SolveSays}
use Rattle.solving.proofs.Deciding.{Decision, run-decides}

module _ {A P : Type 0} (m : Model A P) (file : List ℕ) (a b : Lent P) where
  abbrev Ran : Type 0
  Ran = Run m file (begun file a.rows a.actions a.matches) a.steps b.steps (stage b.job b.rows b.actions b.matches)

  -- what a run says, by the question that it asks
  abbrev Says : Option Refusal → Result (Unit {0}) Refusal → Type 0
  Says q r = Turns q (λ why. state.Refused why a r b) ((r ≡ Ok tt) × Ran)

  abbrev Solves : Option Refusal → Result Answer Refusal → Type 0
  Solves q o = Turns q (λ why. (o ≡ Err why) × (b.matches ≡ a.matches) × (b.rows ≡ a.rows) × (b.actions ≡ a.actions)) (Solved m a.steps file a.rows a.actions a.matches o b.rows b.actions b.matches)

  ran : (q : Option Refusal) → Says q (Ok tt) → Ran
  ran (Some why) h = let e = h.reply in cc
  ran None h = h.1

  module _ (ends : FinishesLast (calls_of a.steps)) (says : RunSays file m a (Ok tt) b) where
    run : Ran
    run = ran (asked_open (length file)) says

    decision : Decision (own m.verdict file) a.matches b.matches (outcome_of b.steps)
    decision = run-decides m file (begun file a.rows a.actions a.matches) (stage b.job b.rows b.actions b.matches) a.steps b.steps ends run

    pub decides : is_some (outcome_of b.steps) ≡ true
    decides = ap is_some (sym decision.is)

    solved : (o : Result Answer Refusal) → Some o ≡ outcome_of b.steps → Solved m a.steps file a.rows a.actions a.matches o b.rows b.actions b.matches
    solved o e =
        let same : decision.what ≡ o = let d = decision.is in cc in
        record {
          steps = b.steps;
          last = stage b.job b.rows b.actions b.matches;
          run = run;
          outcome = e;
          found = refl;
          rows = refl;
          actions = refl;
          answers = λ x h. decision.answers x (same ∙ h);
        }

    turned : (q : Option Refusal) (o : Result Answer Refusal) → Solved m a.steps file a.rows a.actions a.matches o b.rows b.actions b.matches → Says q (Ok tt) → Solves q o
    turned (Some why) o s h = let e = h.reply in cc
    turned None o s h = s

    pub solve-ok : (o : Result Answer Refusal) → Some o ≡ outcome_of b.steps → SolveSays m a.steps file a.rows a.actions a.matches o b.rows b.actions b.matches
    solve-ok o e = turned (asked_open (length file)) o (solved o e) says

  turned-away : (q : Option Refusal) (why : Refusal) → Says q (Err why) → Solves q (Err why)
  turned-away (Some w) why h = let e = h.reply in let same : why ≡ w = cc in (ap (λ x. Err x) same, ap (λ l. l.matches) h.same, ap (λ l. l.rows) h.same, ap (λ l. l.actions) h.same)
  turned-away None why h = let e = h.0 in cc

  pub solve-refused : (why : Refusal) → RunSays file m a (Err why) b → SolveSays m a.steps file a.rows a.actions a.matches (Err why) b.rows b.actions b.matches
  solve-refused why says = turned-away (asked_open (length file)) why says
