-- Positions and the queries that have them.
use Rattle.std.proofs.Common.{◌≡◌, ℕ, ◌-◌, ◌<◌, true, false, eqb, ltb, List, [], ◌∷◌, ◌++◌, map, length, get_or, sym, refl, ap, ◌∙◌, arith}
use Rattle.std.specs.List.{AllByRecursion}
use Rattle.std.proofs.lemmas.Bool.{and_parts, and_from, ltb-true, lt-ltb, eqb-true, eq-eqb, false≢true}
use Rattle.machine.specs.declared.position.Position.{Position}
use Rattle.machine.specs.declared.position.Position.TheVariants.{End, Any, Name}
use Rattle.machine.specs.Queries.{Test, any, named, QueryStep, step, Query, column, position, positions, ListedTest, Listed}
use Rattle.machine.specs.Views.{before, decoded, is_end, complete, listed_at, are_all_listed}
use Rattle.machine.proofs.Columns.{name-at}

-- ---- the positions of the queries that have these positions are these

complete-rest : (p : Position) (ps : List Position) → complete (p ∷ ps) ≡ true → complete ps ≡ true
complete-rest p [] h = refl
complete-rest p (r ∷ ps) h = h

-- a step is followed by something
follows : (p : Position) (ps : List Position) → is_end p ≡ false → complete (p ∷ ps) ≡ true → 0 < length ps
follows p [] e h = absurd (false≢true (sym e ∙ h))
follows p (r ∷ ps) e h = omega arith

before-some : (s : QueryStep) (qs : List Query) → 0 < length qs → 0 < length (before s qs)
before-some s [] h = absurd (omega arith)
before-some s (q ∷ qs) h = omega arith

decoded-some : (names : List (List ℕ)) (ps : List Position) → complete ps ≡ true → 0 < length ps → 0 < length (decoded names ps)
decoded-some names [] c h = absurd (omega arith)
decoded-some names (End ∷ ps) c h = omega arith
decoded-some names (Any d ∷ ps) c h = before-some _ (decoded names ps) (decoded-some names ps (complete-rest (Any d) ps c) (follows (Any d) ps refl c))
decoded-some names (Name d k ∷ ps) c h = before-some _ (decoded names ps) (decoded-some names ps (complete-rest (Name d k) ps c) (follows (Name d k) ps refl c))

positions-before : (names : List (List ℕ)) (s : QueryStep) (qs : List Query) → 0 < length qs → positions names (before s qs) ≡ position names s ∷ positions names qs
positions-before names s [] h = absurd (omega arith)
positions-before names s (q ∷ qs) h = refl

pub encoded : (names : List (List ℕ)) (ps : List Position) → complete ps ≡ true → are_all_listed names ps ≡ true → positions names (decoded names ps) ≡ ps
encoded names [] c l = refl
encoded names (End ∷ ps) c l = ap (λ x. End ∷ x) (encoded names ps (complete-rest End ps c) l)
encoded names (Any d ∷ ps) c l =
    let rest = complete-rest (Any d) ps c in
    positions-before names _ (decoded names ps) (decoded-some names ps rest (follows (Any d) ps refl c)) ∙ ap (λ x. Any d ∷ x) (encoded names ps rest l)
encoded names (Name d k ∷ ps) c l =
    let rest = complete-rest (Name d k) ps c in
    let ab = and_parts (listed_at names (Name d k)) (are_all_listed names ps) l in
    let here = and_parts (ltb 0 k) (eqb (column names (get_or names (k - 1) [])) k) ab.0 in
    positions-before names _ (decoded names ps) (decoded-some names ps rest (follows (Name d k) ps refl c))
    ∙ ap (λ j. Name d j ∷ positions names (decoded names ps)) (eqb-true _ k here.1)
    ∙ ap (λ x. Name d k ∷ x) (encoded names ps rest ab.1)

before-listed : (names : List (List ℕ)) (s : QueryStep) (qs : List Query) → ListedTest names s.test → AllByRecursion (Listed names) qs → AllByRecursion (Listed names) (before s qs)
before-listed names s [] t l = tt
before-listed names s (q ∷ qs) t l = ((t, l.0), l.1)

pub decoded-listed : (names : List (List ℕ)) (ps : List Position) → are_all_listed names ps ≡ true → AllByRecursion (Listed names) (decoded names ps)
decoded-listed names [] l = tt
decoded-listed names (End ∷ ps) l = (tt, decoded-listed names ps l)
decoded-listed names (Any d ∷ ps) l = before-listed names _ (decoded names ps) tt (decoded-listed names ps l)
decoded-listed names (Name d k ∷ ps) l =
    let ab = and_parts (listed_at names (Name d k)) (are_all_listed names ps) l in
    let here = and_parts (ltb 0 k) (eqb (column names (get_or names (k - 1) [])) k) ab.0 in
    before-listed names _ (decoded names ps) (omega (arith, ltb-true 0 k here.0, eqb-true (column names (get_or names (k - 1) [])) k here.1)) (decoded-listed names ps ab.1)

-- ---- the queries that have the positions of queries are these

steps_decoded : (names : List (List ℕ)) (q : Query) (ps : List Position) → Listed names q → decoded names (map (position names) q ++ End ∷ ps) ≡ q ∷ decoded names ps
steps_decoded names [] ps l = refl
steps_decoded names (s ∷ q) ps l = at s.test l.0 ∙ ap (before s) (steps_decoded names q ps l.1)
  where
    rest : List Position
    rest = map (position names) q ++ End ∷ ps

    at : (t : Test) → ListedTest names t → decoded names (position names (step s.deep t) ∷ rest) ≡ before (step s.deep t) (decoded names rest)
    at any k = refl
    at (named n) k = ap (λ m. before (step s.deep (named m)) (decoded names rest)) (name-at names n k)

pub decoded-is : (names : List (List ℕ)) (qs : List Query) → AllByRecursion (Listed names) qs → decoded names (positions names qs) ≡ qs
decoded-is names [] l = refl
decoded-is names (q ∷ qs) l = steps_decoded names q (positions names qs) l.0 ∙ ap (λ x. q ∷ x) (decoded-is names qs l.1)

ends-complete : (xs ps : List Position) → complete ps ≡ true → complete (xs ++ End ∷ ps) ≡ true
ends-complete [] [] h = refl
ends-complete [] (p ∷ ps) h = h
ends-complete (x ∷ []) ps h = ends-complete [] ps h
ends-complete (x ∷ y ∷ xs) ps h = ends-complete (y ∷ xs) ps h

pub positions-complete : (names : List (List ℕ)) (qs : List Query) → complete (positions names qs) ≡ true
positions-complete names [] = refl
positions-complete names (q ∷ qs) = ends-complete (map (position names) q) (positions names qs) (positions-complete names qs)

steps_known : (names : List (List ℕ)) (q : Query) (ps : List Position) → Listed names q → are_all_listed names ps ≡ true → are_all_listed names (map (position names) q ++ End ∷ ps) ≡ true
steps_known names [] ps l h = h
steps_known names (s ∷ q) ps l h = and_from _ _ (at s.test l.0) (steps_known names q ps l.1 h)
  where
    at : (t : Test) → ListedTest names t → listed_at names (position names (step s.deep t)) ≡ true
    at any k = refl
    at (named n) k = and_from _ _ (lt-ltb 0 (column names n) k) (eq-eqb (column names (get_or names (column names n - 1) [])) (column names n) (ap (column names) (name-at names n k)))

pub positions-known : (names : List (List ℕ)) (qs : List Query) → AllByRecursion (Listed names) qs → are_all_listed names (positions names qs) ≡ true
positions-known names [] l = refl
positions-known names (q ∷ qs) l = steps_known names q (positions names qs) l.0 (positions-known names qs l.1)
