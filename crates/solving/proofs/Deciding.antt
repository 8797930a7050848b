-- A plan that is run decides: its last step is a finish, and there is no other.
use Rattle.std.proofs.Common.{◌≡◌, ℕ, ◌+◌, ◌*◌, List, [], ◌∷◌, ◌++◌, map, length, Some, Ok, Err, Option, Result, sym, refl, ap, subst, append_assoc}
use Rattle.machine.specs.declared.refusal.Refusal.{Refusal}
use Rattle.machine.specs.Model.{Model}
use Rattle.answers.specs.declared.fault.Fault.{Fault}
use Rattle.answers.specs.declared.matches.Match.{Match}
use Rattle.answers.specs.Own.{own}
use Rattle.job.specs.declared.answer.Answer.{Answer}
use Rattle.runs.specs.declared.steps.Call.{Call}
use Rattle.runs.specs.declared.steps.Call.TheVariants.{Read, Join, Finish}
use Rattle.runs.specs.declared.steps.Reply.TheVariants as reply
use Rattle.runs.specs.declared.steps.Step.{Step}
use Rattle.job.specs.State.{Ended}
use Rattle.runs.specs.Runs.{Stage, Does, reads, joins, finishes, Chain, none, more, Faithfully, Run}
use Rattle.solving.specs.Plan.{reading, planned, plan_of, unanswered}
use Rattle.solving.specs.Solving.{FinishesLast, calls_of}
use Rattle.solving.specs.Outcomes.{decided, first_of, outcome_of}

reading-then : (start : ℕ) (cuts : List ℕ) (size : ℕ) (cs : List Call) → FinishesLast cs → FinishesLast (reading start cuts size ++ cs)
reading-then start [] size cs h = h
reading-then start (c ∷ cuts) size cs h =
    let more = Read start c ∷ Join (2 * length cuts + 1) (2 * length cuts) ∷ [] in
    subst FinishesLast (sym (append_assoc (reading c cuts size) more cs)) (reading-then c cuts size (more ++ cs) h)

plan_finishes : (cuts : List ℕ) (size : ℕ) → FinishesLast (planned cuts size)
plan_finishes cuts size = reading-then 0 cuts size (Finish (2 * length cuts) ∷ []) refl

same-calls : (cs : List Call) → calls_of (map unanswered cs) ≡ cs
same-calls [] = refl
same-calls (c ∷ cs) = ap (λ l. c ∷ l) (same-calls cs)

pub plan_ends : (cuts : List ℕ) (size : ℕ) → FinishesLast (calls_of (plan_of cuts size))
plan_ends cuts size = subst FinishesLast (sym (same-calls (planned cuts size))) (plan_finishes cuts size)

-- an outcome, of which an answer is `whole`
pub record Decision (whole : Result (List Match) Fault) (ms ns : List Match) (o : Option (Result Answer Refusal)) : Type 0 where
  pub what : Result Answer Refusal
  pub is : Some what ≡ o
  pub answers : (a : Answer) → what ≡ Ok a → Ended whole ms (Ok a) ns

module _ (whole : Result (List Match) Fault) (ms ns : List Match) where
  by-made : (r : Result ℕ Refusal) (later : Option (Result Answer Refusal)) → Decision whole ms ns later → Decision whole ms ns (first_of (decided (reply.Made r)) later)
  by-made (Ok n) later d = d
  by-made (Err why) later d = record { what = Err why; is = refl; answers = λ a e. cc }

  by_answer : (r : Result Answer Refusal) (later : Option (Result Answer Refusal)) → ((a : Answer) → reply.Answered r ≡ reply.Answered (Ok a) → Ended whole ms (Ok a) ns) → Decision whole ms ns (first_of (decided (reply.Answered r)) later)
  by_answer r later h = record { what = r; is = refl; answers = λ a e. h a (ap (λ x. reply.Answered x) e) }

module _ {A P : Type 0} (m : Model A P) (file : List ℕ) where
  abbrev whole : Result (List Match) Fault
  whole = own m.verdict file

  abbrev Decides : Stage P → List Step → Stage P → Type 0
  Decides w ss v = FinishesLast (calls_of ss) → Decision whole w.found v.found (outcome_of ss)

  nothing-after : (t v : Stage P) (xs : List Step) → Chain (Faithfully m file) t xs v → calls_of xs ≡ [] → t.found ≡ v.found
  nothing-after t v xs none e = refl
  nothing-after t v xs (more f fs) e = cc

  step-decides : (w t v : Stage P) (x : Step) (xs : List Step) → Does m file w x t → ((a : Answer) → x.reply ≡ reply.Answered (Ok a) → Ended whole w.found (Ok a) t.found) →
      Chain (Faithfully m file) t xs v → Decides t xs v → Decides w (x ∷ xs) v
  step-decides w t v x xs (reads {r = r} says) answers rest later last = by-made whole w.found v.found r (outcome_of xs) (later last)
  step-decides w t v x xs (joins {r = r} says) answers rest later last = by-made whole w.found v.found r (outcome_of xs) (later last)
  step-decides w t v x xs (finishes {r = r} {ns = ns} says) answers rest later last =
      let e = nothing-after t v xs rest last in
      by_answer whole w.found v.found r (outcome_of xs) (λ a h. subst (λ ms. Ended whole w.found (Ok a) ms) e (answers a h))

  chain-decides : (w v : Stage P) (ss : List Step) → Chain (Faithfully m file) w ss v → Decides w ss v
  chain-decides w v ss none last = absurd last
  chain-decides w v ss (more {t = t} {x = x} {xs = xs} f fs) last = step-decides w t v x xs f.does f.answers fs (chain-decides t v xs fs) last

  pub run-decides : (w v : Stage P) (asked steps : List Step) → FinishesLast (calls_of asked) → Run m file w asked steps v → Decision whole w.found v.found (outcome_of steps)
  run-decides w v asked steps ends run = chain-decides w v steps run.ran (subst FinishesLast (sym run.calls) ends)
