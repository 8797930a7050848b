use Rattle.std.proofs.Common.{◌≡◌, eqb, sym, refl, ap, ◌∙◌, subst, None, Err, rules}
use Rattle.std.specs.Option.{ok_or}
use Rattle.std.proofs.lemmas.Iterator.Splits.{YieldsList-from_slice_split}
use Rattle.std.proofs.lemmas.Result.{err_from_is_err_and}
use Rattle.std.proofs.iter.Serving.{serving}
use borrow.Author.Tests.{tests}
use Rattle.request.specs.declared.refusal.InputRefusal.TheVariants.{BadCuts}
use Rattle.request.specs.declared.stop.Stop.TheVariants.{Refused}
use Rattle.request.specs.Places.{cuts_of}
use Rattle.request.specs.Asked.{LineSays, Wants}
use Rattle.request.proofs.Placing.{all-left, none_left, no_place, first_place, words_left}
use Rattle.request.proofs.cuts.cuts_of.Goals as goal

pub loop-word-init : goal.loop-word-init
loop-word-init c = (
  grind serving,
  tt,
  let words = YieldsList-from_slice_split _ (λ b. eqb b 32) c.args.line.now (cc) (cc) refl (λ x b q k. search (rules, tests)) in
      all-left words.runs c.new-cuts.ensures.items (sym c.if-is_empty.ensures),
)

pub returns-in_err-place-clause-cuts : goal.returns-in_err-place-clause-cuts
returns-in_err-place-clause-cuts c =
    let none : cuts_of c.args.line.now ≡ None = no_place c.loop-word.invariant.2 c.next.new.self c.in-Some.word c.in-Some.ensures.steps (sym c.place_from.ensures ∙ c.in_err-place.ensures.ok_part) in
    let bad = c.in_err-place.ensures.value ∙ ap (λ p. ok_or p BadCuts) c.in_err-place.ensures.ok_part in
    let e = err_from_is_err_and c.from_residual.result c.from_residual.ensures.1 in
    let is : c.from_residual.result ≡ Err (Refused BadCuts) = cc in
    subst (λ r. LineSays r (cuts_of c.args.line.now)) (sym is) (refl, none)

pub returns-in_err-push-clause-memory : goal.returns-in_err-push-clause-memory
returns-in_err-push-clause-memory c =
    let e = err_from_is_err_and c.from_residual-in_err-push.result c.from_residual-in_err-push.ensures.1 in
    let first = first_place c.loop-word.invariant.2 c.next.new.self c.in-Some.word c.in-Some.ensures.steps (sym c.in_ok-place.ensures.ok_part ∙ c.place_from.ensures) in
    subst (λ r. Wants r c.args.line.now) (sym (e.1 ∙ ap Err e.2)) first

pub loop-word-preserved : goal.loop-word-preserved
loop-word-preserved c = (search rules, tt, words_left c.loop-word.invariant.2 c.next.new.self c.in-Some.word c.in-Some.ensures.steps (sym c.in_ok-place.ensures.ok_part ∙ c.place_from.ensures) c.in_ok-push.ensures.items)

pub returns-clause-cuts : goal.returns-clause-cuts
returns-clause-cuts c = none_left c.loop-word.invariant.2 c.next.new.self c.in-None.ensures.steps
