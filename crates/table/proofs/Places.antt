-- The place of a set among others.
use Rattle.std.proofs.Common.{◌≡◌, ℕ, ◌+◌, ◌<◌, ◌≤◌, List, [], ◌∷◌, ◌++◌, length, get_or, take, set, MatchOption, Option, Some, None, Bool, true, false, not, cond, eqb, ltb, suc, refl, subst, sym, ap, ◌∙◌, inl, inr, append-nil, arith}
use Rattle.std.proofs.lemmas.Bool.{cases_lt, lt-ltb, le-ltb, cond-true, cond-false}
use Rattle.std.specs.List.{position, position_or_len}
use Rattle.std.proofs.lemmas.Bool.Decides.{nat_tests}
use Rattle.std.proofs.lemmas.List.{take_more_set, length-take-le, length_push}
use Rattle.table.specs.Closure.{place, added}

pub place-le : (x : ℕ) (xs : List ℕ) → place x xs ≤ length xs
place-le x [] = omega arith
place-le x (y ∷ ys) = let h = place-le x ys in grind (arith, nat_tests)

-- the set at its place
pub place_at : (x : ℕ) (xs : List ℕ) (d : ℕ) → place x xs < length xs → get_or xs (place x xs) d ≡ x
place_at x [] d h = absurd (omega arith)
place_at x (y ∷ ys) d h = grind (arith, nat_tests, place_at x ys d)

pub place-append : (x : ℕ) (xs ys : List ℕ) → place x xs < length xs → place x (xs ++ ys) ≡ place x xs
place-append x [] ys h = absurd (omega arith)
place-append x (y ∷ xs) ys h = grind (arith, nat_tests, place-append x xs ys)

pub place_push : (x : ℕ) (xs : List ℕ) → length xs ≤ place x xs → place x (xs ++ x ∷ []) ≡ length xs
place_push x [] h = grind (arith, nat_tests)
place_push x (y ∷ xs) h = grind (arith, nat_tests, place_push x xs)

place-first : (x : ℕ) (xs : List ℕ) → place x xs ≡ position_or_len (eqb x) xs
place-first x [] = refl
place-first x (y ∷ ys) = next (eqb x y) (position_or_len (eqb x) ys) (place-first x ys)
  where
    next : (b : Bool) (n : ℕ) → place x ys ≡ n → cond b 0 (suc (place x ys)) ≡ cond (not b) (1 + n) 0
    next true n e = refl
    next false n e = omega arith

-- the place as a search finds it
pub place-position : (x : ℕ) (xs : List ℕ) → MatchOption (position (eqb x) xs) (place x xs ≡ length xs) (λ at. (at ≡ place x xs) × (at < length xs))
place-position x xs =
    let n = position_or_len (eqb x) xs in
    let e = place-first x xs in
    let P : Option ℕ → Type 0 = λ r. MatchOption r (place x xs ≡ length xs) (λ at. (at ≡ place x xs) × (at < length xs)) in
    elim (cases_lt n (length xs)) [
      | inl h ↦ subst P (sym (cond-true (ltb n (length xs)) (Some n) None (lt-ltb n (length xs) h))) (sym e, h)
      | inr h ↦ subst P (sym (cond-false (ltb n (length xs)) (Some n) None (le-ltb n (length xs) h))) (omega (arith, place-le x xs))
    ]

pub added-old : (xs : List ℕ) (x : ℕ) → place x xs < length xs → added xs x ≡ xs
added-old xs x h = grind (arith, nat_tests)

pub added_new : (xs : List ℕ) (x : ℕ) → length xs ≤ place x xs → added xs x ≡ xs ++ x ∷ []
added_new xs x h = grind (arith, nat_tests)

-- one more set in the array
pub added-write : (sets : List ℕ) (n x : ℕ) → n < length sets → n ≤ place x (take n sets) → take (n + 1) (set sets n x) ≡ added (take n sets) x
added-write sets n x l h = take_more_set sets n x l ∙ sym (added_new (take n sets) x (omega (arith, length-take-le n sets (omega arith))))

pub added-length : (sets : List ℕ) (n x : ℕ) → n ≤ length sets → n ≤ place x (take n sets) → length (added (take n sets) x) ≡ n + 1
added-length sets n x l h =
    let e = length-take-le n sets l in
    ap length (added_new (take n sets) x (omega arith)) ∙ length_push (take n sets) x ∙ ap (λ k. k + 1) e

pub place-added : (x : ℕ) (xs : List ℕ) → place x (added xs x) ≡ place x xs
place-added x xs = elim (cases_lt (place x xs) (length xs)) [
  | inl h ↦ ap (place x) (added-old xs x h)
  | inr h ↦ ap (place x) (added_new xs x h) ∙ place_push x xs h ∙ omega (arith, place-le x xs)
]

pub place-added_lt : (x : ℕ) (xs : List ℕ) → place x xs < length (added xs x)
place-added_lt x xs = elim (cases_lt (place x xs) (length xs)) [
  | inl h ↦ omega (arith, ap length (added-old xs x h))
  | inr h ↦ omega (arith, place-le x xs, ap length (added_new xs x h), length_push xs x)
]

-- what a added list is: the list, with something more
pub added_more : (xs : List ℕ) (x : ℕ) → (ys : List ℕ) × (added xs x ≡ xs ++ ys)
added_more xs x = elim (cases_lt (place x xs) (length xs)) [
  | inl h ↦ ([], added-old xs x h ∙ sym (append-nil xs))
  | inr h ↦ (x ∷ [], added_new xs x h)
]
