-- Columns of names.
use Rattle.std.proofs.Common.{◌≡◌, ℕ, zero, suc, ◌+◌, ◌-◌, ◌<◌, ◌≤◌, true, false, eqb, List, [], ◌∷◌, ◌++◌, map, length, get_or, Option, None, Some, sym, refl, ap, ◌∙◌, inl, inr, arith}
use Rattle.std.specs.List.{AllWithin, HoldsAt}
use Rattle.std.specs.Option.{MatchOption}
use Rattle.std.specs.Str.{bytes_eq}
use Rattle.std.proofs.ByRecursion.{All-get_or}
use Rattle.std.proofs.lemmas.Slice.Eq.{bytes_eq-Decides}
use Rattle.std.proofs.lemmas.Bool.{cases_Bool, cases_eq, cond-true, cond-false, eq-eqb, ne_eqb}
use Rattle.std.proofs.lemmas.Bool.Decides.{nat_tests}
use Rattle.machine.specs.Queries.{column, noted}
use Rattle.machine.specs.Limits.{longest_name, NamesFit}

-- the first name that is this one
column-at : (xs : List (List ℕ)) (m : List ℕ) (ys : List (List ℕ)) (n : List ℕ) → column xs n ≡ 0 → bytes_eq m n ≡ true → column (xs ++ m ∷ ys) n ≡ length xs + 1
column-at [] m ys n e s = grind (arith, nat_tests, s)
column-at (x ∷ xs) m ys n e s = let ih = column-at xs m ys n in grind (arith, nat_tests, ih, s)

-- more names keep the columns of those before
pub column-append : (xs ys : List (List ℕ)) (n : List ℕ) → 0 < column xs n → column (xs ++ ys) n ≡ column xs n
column-append [] ys n h = absurd (omega arith)
column-append (x ∷ xs) ys n h = let ih = column-append xs ys n in grind (arith, nat_tests, ih)

pub column-le : (xs : List (List ℕ)) (n : List ℕ) → column xs n < length xs + 1
column-le [] n = omega arith
column-le (x ∷ xs) n = let ih = column-le xs n in grind (arith, nat_tests, ih)

pub same_refl : (n : List ℕ) → bytes_eq n n ≡ true
same_refl n = (bytes_eq-Decides n n).1 refl

pub apart : (m n : List ℕ) → (m ≡ n → ⊥) → bytes_eq m n ≡ false
apart m n h = elim (cases_Bool (bytes_eq m n)) [ inl t ↦ absurd (h ((bytes_eq-Decides m n).0 t)) | inr f ↦ f ]

-- the name of a column
pub name-at : (xs : List (List ℕ)) (n : List ℕ) → 0 < column xs n → get_or xs (column xs n - 1) [] ≡ n
name-at [] n h = absurd (omega arith)
name-at (x ∷ xs) n h =
    elim (cases_Bool (bytes_eq x n)) [
      | inl t ↦
          let c : column (x ∷ xs) n ≡ 1 = grind (arith, nat_tests, t) in
          ap (λ k. get_or (x ∷ xs) (k - 1) []) c ∙ (bytes_eq-Decides x n).0 t
      | inr f ↦
          let k = column xs n in
          let p : 0 < k = grind (arith, nat_tests, f) in
          let c : column (x ∷ xs) n - 1 ≡ suc (k - 1) = grind (arith, nat_tests, f) in
          ap (λ j. get_or (x ∷ xs) j []) c ∙ name-at xs n p
    ]

pub noted-new : (ns : List (List ℕ)) (n : List ℕ) → column ns n ≡ 0 → noted ns n ≡ ns ++ n ∷ []
noted-new ns n e = cond-true (eqb (column ns n) 0) (ns ++ n ∷ []) ns (eq-eqb (column ns n) 0 e)

pub noted-old : (ns : List (List ℕ)) (n : List ℕ) → 0 < column ns n → noted ns n ≡ ns
noted-old ns n h = cond-false (eqb (column ns n) 0) (ns ++ n ∷ []) ns (ne_eqb (column ns n) 0 (λ e. omega arith))

pub column-last : (ns : List (List ℕ)) (n : List ℕ) → column ns n ≡ 0 → column (ns ++ n ∷ []) n ≡ length ns + 1
column-last ns n e = column-at ns n [] n e (same_refl n)

-- a name that has been noted is listed
pub noted-lists : (ns : List (List ℕ)) (n : List ℕ) → 0 < column (noted ns n) n
noted-lists ns n =
    elim (cases_eq (column ns n) 0) [
      | inl e ↦ omega (arith, ap (λ x. column x n) (noted-new ns n e), column-last ns n e)
      | inr e ↦ let h : 0 < column ns n = omega arith in omega (arith, ap (λ x. column x n) (noted-old ns n h))
    ]

-- what fits has no name that is too long
pub long_name : (ns : List (List ℕ)) (n : List ℕ) → longest_name < length n → NamesFit (noted ns n) → ⊥
long_name ns n l f =
    let ms = noted ns n in
    let h = noted-lists ns n in
    let short = All-get_or (λ m. length m ≤ longest_name) ms (column ms n - 1) [] (omega (arith, column-le ms n)) f.short in
    omega (arith, ap length (name-at ms n h))

-- a search for a name through what the names are of
module _ {X : Type 0} (of : X → List ℕ) where
  pub column-none : (xs : List X) (n : List ℕ) → AllWithin (λ x. bytes_eq (of x) n ≡ false) xs 0 (length xs) → column (map of xs) n ≡ 0
  column-none [] n h = refl
  column-none (x ∷ xs) n h =
      let other = h 0 x (omega arith) (omega arith) in
      let ih = column-none xs n (λ k d low high. h (suc k) d (omega arith) (omega (arith, high))) in
      grind (arith, nat_tests, other, ih)

  pub column-found : (xs : List X) (n : List ℕ) (i : ℕ) → i < length xs → HoldsAt (λ x. bytes_eq (of x) n ≡ true) xs i → AllWithin (λ x. bytes_eq (of x) n ≡ false) xs 0 i → column (map of xs) n ≡ i + 1
  column-found [] n i l h others = absurd (omega (arith, l))
  column-found (x ∷ xs) n zero l h others = let same = h x in grind (arith, nat_tests, same)
  column-found (x ∷ xs) n (suc i) l h others =
      let other = others 0 x (omega arith) (omega arith) in
      let ih = column-found xs n i (omega (arith, l)) h (λ k d low high. others (suc k) d (omega arith) (omega (arith, high))) in
      grind (arith, nat_tests, other, ih)

  pub column-first : (xs : List X) (n : List ℕ) (r : Option ℕ) (k : ℕ)
      → MatchOption r (AllWithin (λ x. bytes_eq (of x) n ≡ false) xs 0 (length xs)) (λ i. (i < length xs) × HoldsAt (λ x. bytes_eq (of x) n ≡ true) xs i × AllWithin (λ x. bytes_eq (of x) n ≡ false) xs 0 i)
      → MatchOption r (k ≡ 0) (λ i. k ≡ i + 1) → k ≡ column (map of xs) n
  column-first xs n None k h e = e ∙ sym (column-none xs n h)
  column-first xs n (Some i) k h e = e ∙ sym (column-found xs n i h.0 h.1 h.2)
