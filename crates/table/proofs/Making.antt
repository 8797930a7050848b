-- From what was explored to the table of queries.
use Rattle.std.proofs.Common.{◌≡◌, ℕ, ◌+◌, ◌<◌, true, List, [], ◌∷◌, length, sym, ap, ◌∙◌, subst, ap₂, arith}
use Rattle.machine.specs.Masks.{mask, deep_mask}
use Rattle.machine.specs.Queries.{Query, positions, begins}
use Rattle.positions.specs.declared.moves.Moves.{Moves}
use Rattle.positions.specs.Sets.{moved_on, fit_masks, start_bits}
use Rattle.positions.proofs.Rule.{starts_are}
use Rattle.table.specs.declared.states.States.{States}
use Rattle.table.specs.Arising.{AllArising}
use Rattle.table.specs.Closure.{closure}
use Rattle.table.specs.Filling.{seen, by_moves, leads, Made}
use Rattle.table.specs.Making.{TooMany}
use Rattle.table.proofs.Arise.{closure-finds}
use Rattle.table.proofs.Trying.{length_seen}

module _ (names : List (List ℕ)) (qs : List Query) (m : Moves) (start cols : ℕ) (fits : m.fits ≡ fit_masks (positions names qs))
    (stays : m.stays ≡ deep_mask (positions names qs)) (begin : start ≡ mask (start_bits true (positions names qs))) (all : cols ≡ length names + 1) where
  next_is : by_moves m ≡ leads (positions names qs)
  next_is = ap₂ moved_on fits stays

  start_is : start ≡ mask (begins qs)
  start_is = begin ∙ ap mask (starts_are names qs)

  pub made_of : (s : States) → Made (by_moves m) cols start s → Made (leads (positions names qs)) (length names + 1) (mask (begins qs)) s
  made_of s h = subst (λ f. Made f (length names + 1) (mask (begins qs)) s) next_is (subst (λ x. Made (by_moves m) (length names + 1) x s) start_is (subst (λ n. Made (by_moves m) n start s) all h))

  pub arising-of : (s : States) → Made (by_moves m) cols start s → AllArising (leads (positions names qs)) (length names + 1) (mask (begins qs)) (seen s.found)
  arising-of s h =
      let t = made_of s h in
      subst (AllArising (leads (positions names qs)) (length names + 1) (mask (begins qs))) (sym t.all)
      ((closure-finds (leads (positions names qs)) (length names + 1) (mask (begins qs)) 32).0 (omega (arith, ap length t.all, length_seen s.found, s.found.within)))

  pub many-of : 32 < length (closure (by_moves m) cols 32 0 (start ∷ [])) → TooMany names qs
  many-of h =
      (closure-finds (leads (positions names qs)) (length names + 1) (mask (begins qs)) 32).1
      (subst (λ f. 32 < length (closure f (length names + 1) 32 0 (mask (begins qs) ∷ []))) next_is
      (subst (λ x. 32 < length (closure (by_moves m) (length names + 1) 32 0 (x ∷ []))) start_is (subst (λ n. 32 < length (closure (by_moves m) n 32 0 (start ∷ []))) all h)))
