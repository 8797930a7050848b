-- What the first reply that decides is.
use Rattle.std.proofs.Common.{◌≡◌, ℕ, zero, suc, ◌<◌, List, [], ◌∷◌, length, get_or, Some, None, Option, Result, sym, refl, ap, ◌∙◌, arith}
use Rattle.std.specs.Option.{MatchOption}
use Rattle.machine.specs.declared.refusal.Refusal.{Refusal}
use Rattle.job.specs.declared.answer.Answer.{Answer}
use Rattle.runs.specs.declared.steps.Call.TheVariants.{Read}
use Rattle.runs.specs.declared.steps.Step.{Step}
use Rattle.solving.specs.Plan.{unanswered}
use Rattle.solving.specs.Outcomes.{decided, first_of, outcome_of}

-- what a read past a list's end gives
abbrev pub no_step : Step
no_step = unanswered (Read 0 0)

abbrev pub NoneDecides : List Step → ℕ → Type 0
NoneDecides steps n = (k : ℕ) → k < n → decided (get_or steps k no_step).reply ≡ None

pub none-told : (steps : List Step) → NoneDecides steps (length steps) → None ≡ outcome_of steps
none-told [] h = refl
none-told (s ∷ ss) h = let e = h 0 (omega arith) in let f = none-told ss (λ k l. h (suc k) (omega arith)) in f ∙ ap (λ d. first_of d (outcome_of ss)) (sym e)

pub first-told : (steps : List Step) (i : ℕ) (o : Result Answer Refusal) → i < length steps → decided (get_or steps i no_step).reply ≡ Some o → NoneDecides steps i → Some o ≡ outcome_of steps
first-told [] i o l e h = absurd (omega arith)
first-told (s ∷ ss) zero o l e h = ap (λ d. first_of d (outcome_of ss)) (sym e)
first-told (s ∷ ss) (suc i) o l e h = first-told ss i o (omega arith) e (λ k m. h (suc k) (omega arith)) ∙ ap (λ d. first_of d (outcome_of ss)) (sym (h 0 (omega arith)))

pub told : (steps : List Step) (r : Option (Result Answer Refusal)) → MatchOption r (NoneDecides steps (length steps)) (λ o. (i : ℕ) × (i < length steps) × (decided (get_or steps i no_step).reply ≡ Some o) × NoneDecides steps i) → r ≡ outcome_of steps
told steps None h = none-told steps h
told steps (Some o) h = first-told steps h.0 o h.1 h.2 h.3
