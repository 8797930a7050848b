-- The names that queries use, as they grow.
use Rattle.std.proofs.Common.{◌≡◌, ℕ, ◌<◌, ◌≤◌, List, [], ◌∷◌, ◌++◌, map, length, sym, refl, ap, ◌∙◌, subst, inl, inr, append_assoc, append-nil, arith, length-append}
use Rattle.std.specs.List.{AllByRecursion}
use Rattle.std.proofs.lemmas.Bool.{cases_eq}
use Rattle.machine.specs.declared.position.Position.TheVariants.{Name}
use Rattle.machine.specs.Queries.{Test, any, named, QueryStep, Query, column, position_of, position, positions, ListedTest, Listed, noted, noted_test, noted_steps, noted_all}
use Rattle.machine.specs.Limits.{longest_name, NamesFit}
use Rattle.machine.proofs.Columns.{column-append, noted-new, noted-old, noted-lists}

-- the one list begins with the other
pub record Grows (xs ys : List (List ℕ)) : Type 0 where
  pub rest : List (List ℕ)
  pub is : ys ≡ xs ++ rest

pub grows_none : (xs : List (List ℕ)) → Grows xs xs
grows_none xs = record { rest = []; is = sym (append-nil xs) }

pub grows_on : (xs ys zs : List (List ℕ)) → Grows xs ys → Grows ys zs → Grows xs zs
grows_on xs ys zs g h = record { rest = g.rest ++ h.rest; is = h.is ∙ ap (λ x. x ++ h.rest) g.is ∙ append_assoc xs g.rest h.rest }

pub noted-grows : (ns : List (List ℕ)) (n : List ℕ) → Grows ns (noted ns n)
noted-grows ns n =
    elim (cases_eq (column ns n) 0) [
      | inl e ↦ record { rest = n ∷ []; is = noted-new ns n e }
      | inr e ↦ let h : 0 < column ns n = omega arith in record { rest = []; is = noted-old ns n h ∙ sym (append-nil ns) }
    ]

test_grows : (ns : List (List ℕ)) (t : Test) → Grows ns (noted_test ns t)
test_grows ns any = grows_none ns
test_grows ns (named n) = noted-grows ns n

pub steps_grow : (ns : List (List ℕ)) (q : Query) → Grows ns (noted_steps ns q)
steps_grow ns [] = grows_none ns
steps_grow ns (s ∷ q) = grows_on ns (noted_test ns s.test) _ (test_grows ns s.test) (steps_grow (noted_test ns s.test) q)

all_grow : (ns : List (List ℕ)) (qs : List Query) → Grows ns (noted_all ns qs)
all_grow ns [] = grows_none ns
all_grow ns (q ∷ qs) = grows_on ns (noted_steps ns q) _ (steps_grow ns q) (all_grow (noted_steps ns q) qs)

-- what is listed stays listed, in its column
column-grows : (xs ys : List (List ℕ)) (n : List ℕ) → Grows xs ys → 0 < column xs n → column ys n ≡ column xs n
column-grows xs ys n g h = ap (λ x. column x n) g.is ∙ column-append xs g.rest n h

test_listed : (xs ys : List (List ℕ)) (t : Test) → Grows xs ys → ListedTest xs t → ListedTest ys t
test_listed xs ys any g l = tt
test_listed xs ys (named n) g l = omega (arith, column-grows xs ys n g l)

query_listed : (xs ys : List (List ℕ)) (q : Query) → Grows xs ys → Listed xs q → Listed ys q
query_listed xs ys [] g l = tt
query_listed xs ys (s ∷ q) g l = (test_listed xs ys s.test g l.0, query_listed xs ys q g l.1)

pub all_listed : (xs ys : List (List ℕ)) (qs : List Query) → Grows xs ys → AllByRecursion (Listed xs) qs → AllByRecursion (Listed ys) qs
all_listed xs ys [] g l = tt
all_listed xs ys (q ∷ qs) g l = (query_listed xs ys q g l.0, all_listed xs ys qs g l.1)

-- the names noted for a test, a query and all queries list what these use
lists_test : (ns : List (List ℕ)) (t : Test) → ListedTest (noted_test ns t) t
lists_test ns any = tt
lists_test ns (named n) = noted-lists ns n

pub lists_steps : (ns : List (List ℕ)) (q : Query) → Listed (noted_steps ns q) q
lists_steps ns [] = tt
lists_steps ns (s ∷ q) =
    let ms = noted_test ns s.test in
    (test_listed ms (noted_steps ms q) s.test (steps_grow ms q) (lists_test ns s.test), lists_steps ms q)

pub lists_all : (ns : List (List ℕ)) (qs : List Query) → AllByRecursion (Listed (noted_all ns qs)) qs
lists_all ns [] = tt
lists_all ns (q ∷ qs) =
    let ms = noted_steps ns q in
    (query_listed ms (noted_all ms qs) q (all_grow ms qs) (lists_steps ns q), lists_all ms qs)

-- positions stay as they are
position-same : (xs ys : List (List ℕ)) (s : QueryStep) → Grows xs ys → ListedTest xs s.test → position ys s ≡ position xs s
position-same xs ys s g l = at s.test l
  where
    at : (t : Test) → ListedTest xs t → position_of ys s.deep t ≡ position_of xs s.deep t
    at any k = refl
    at (named n) k = ap (Name s.deep) (column-grows xs ys n g k)

pub steps_same : (xs ys : List (List ℕ)) (q : Query) → Grows xs ys → Listed xs q → map (position ys) q ≡ map (position xs) q
steps_same xs ys [] g l = refl
steps_same xs ys (s ∷ q) g l = let a = position-same xs ys s g l.0 in let b = steps_same xs ys q g l.1 in cc

pub positions-same : (xs ys : List (List ℕ)) (qs : List Query) → Grows xs ys → AllByRecursion (Listed xs) qs → positions ys qs ≡ positions xs qs
positions-same xs ys [] g l = refl
positions-same xs ys (q ∷ qs) g l = let a = steps_same xs ys q g l.0 in let b = positions-same xs ys qs g l.1 in cc

-- one more step, one more query
pub noted_steps-push : (ns : List (List ℕ)) (q : Query) (s : QueryStep) → noted_steps ns (q ++ s ∷ []) ≡ noted_test (noted_steps ns q) s.test
noted_steps-push ns [] s = refl
noted_steps-push ns (r ∷ q) s = noted_steps-push (noted_test ns r.test) q s

pub noted_all-push : (ns : List (List ℕ)) (qs : List Query) (q : Query) → noted_all ns (qs ++ q ∷ []) ≡ noted_steps (noted_all ns qs) q
noted_all-push ns [] q = refl
noted_all-push ns (r ∷ qs) q = noted_all-push (noted_steps ns r) qs q

-- what begins with names that do not fit does not fit
all_front : (P : List ℕ → Type 0) (xs ys : List (List ℕ)) → AllByRecursion P (xs ++ ys) → AllByRecursion P xs
all_front P [] ys a = tt
all_front P (x ∷ xs) ys a = (a.0, all_front P xs ys a.1)

pub fit_before : (xs ys : List (List ℕ)) → Grows xs ys → NamesFit ys → NamesFit xs
fit_before xs ys g f = record {
  few = omega (arith, f.few, ap length g.is, length-append xs g.rest);
  short = all_front (λ n. length n ≤ longest_name) xs g.rest (subst (AllByRecursion (λ n. length n ≤ longest_name)) g.is f.short);
}
