use Rattle.std.proofs.Common.{◌≡◌, suc, cond, sym, refl, ap, ◌∙◌, rules, add-one}
use Rattle.std.proofs.lemmas.Iterator.{YieldsList-from_slice, IsFirst-from_position, index_from_first}
use Rattle.std.proofs.lemmas.Bool.{eq-eqb, ne_eqb}
use borrow.Author.Tests.{tests}
use Rattle.request.specs.Lines.{ahead}
use Rattle.request.proofs.lines.bytes_before.Goals as goal

pub returns-clause-before : goal.returns-clause-before
returns-clause-before c =
    let a = c.args in
    c.unwrap_or.ensures ∙ sym (index_from_first (ahead a.c) (λ b. b ≡ a.c) (λ b. b ≡ a.c → ⊥) refl
    (λ x xs e. ap (λ t. cond t 0 (suc (ahead a.c xs))) (eq-eqb x a.c e))
    (λ x xs e. rw add-one (ap (λ t. cond t 0 (suc (ahead a.c xs))) (ne_eqb x a.c e)))
    a.bytes.now c.position.result
    (IsFirst-from_position _ _ _ (λ b. b ≡ a.c) (λ b. b ≡ a.c → ⊥) c.position.ensures.ran (YieldsList-from_slice a.bytes.now cc) (λ x q k. search (rules, tests)) (λ x q k. search (rules, tests))))
