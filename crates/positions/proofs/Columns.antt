-- Columns in place of names.
use Rattle.std.proofs.Common.{◌≡◌, ℕ, ◌+◌, ◌<◌, Bool, true, false, eqb, List, [], ◌∷◌, map, length, sym, refl, ap, ◌∙◌, arith}
use Rattle.std.specs.List.{AllByRecursion}
use Rattle.std.specs.Str.{bytes_eq}
use Rattle.std.proofs.lemmas.Slice.Eq.{bytes_eq-Decides}
use Rattle.std.proofs.lemmas.Bool.{both_ways}
use Rattle.std.proofs.lemmas.Bool.Decides.{nat_tests}
use Rattle.machine.specs.declared.names.Names.{Names}
use Rattle.machine.specs.Paths.{is_met}
use Rattle.machine.specs.Views.{names_of}
use Rattle.machine.specs.Queries.{Test, any, named, Query, fits, asked, column, position_of, fits_at, deep_at, ListedTest, Listed}
use Rattle.machine.proofs.Columns.{same_refl, apart, column-le}
use Rattle.machine.proofs.Viewed.{length-names}
use Rattle.positions.proofs.Flat.{columnSteps}

same-is : (m n : List ℕ) → bytes_eq m n ≡ true → m ≡ n
same-is m n h = (bytes_eq-Decides m n).0 h

column-cases : (k : List ℕ) (ks : List (List ℕ)) (m n : List ℕ) (a b : Bool) → bytes_eq k m ≡ a → bytes_eq k n ≡ b → 0 < column (k ∷ ks) m
    → (0 < column ks m → eqb (column ks m) (column ks n) ≡ bytes_eq m n) → eqb (column (k ∷ ks) m) (column (k ∷ ks) n) ≡ bytes_eq m n
column-cases k ks m n true true p q h ih =
    let e : m ≡ n = sym (same-is k m p) ∙ same-is k n q in
    let t : bytes_eq m n ≡ true = ap (bytes_eq m) (sym e) ∙ same_refl m in
    grind (arith, nat_tests, p, q, t)
column-cases k ks m n true false p q h ih =
    let t : bytes_eq m n ≡ false = ap (λ x. bytes_eq x n) (sym (same-is k m p)) ∙ q in
    grind (arith, nat_tests, p, q, t)
column-cases k ks m n false true p q h ih =
    let t : bytes_eq m n ≡ false = apart m n (λ e. both_ways (bytes_eq k m) p (ap (bytes_eq k) e ∙ q)) in
    grind (arith, nat_tests, p, q, t)
column-cases k ks m n false false p q h ih = grind (arith, nat_tests, p, q, ih)

-- a listed name has no other name's column
pub column-same : (names : List (List ℕ)) (m n : List ℕ) → 0 < column names m → eqb (column names m) (column names n) ≡ bytes_eq m n
column-same [] m n h = absurd (omega arith)
column-same (k ∷ ks) m n h = column-cases k ks m n (bytes_eq k m) (bytes_eq k n) refl refl h (column-same ks m n)

pub fits-same : (names : List (List ℕ)) (d : Bool) (t : Test) (n : List ℕ) → ListedTest names t → fits_at (position_of names d t) (column names n) ≡ fits t n
fits-same names d any n l = refl
fits-same names d (named m) n l = column-same names m n l

pub deep_same : (names : List (List ℕ)) (d : Bool) (t : Test) → deep_at (position_of names d t) ≡ d
deep_same names d any = refl
deep_same names d (named m) = refl

-- over columns as over names
pub columns_meet : (names : List (List ℕ)) (q : Query) (path : List (List ℕ)) → Listed names q → is_met (columnSteps names q) (map (column names) path) ≡ is_met (map asked q) path
columns_meet names [] [] l = refl
columns_meet names [] (n ∷ path) l = refl
columns_meet names (s ∷ q) [] l = refl
columns_meet names (s ∷ q) (n ∷ path) l =
    let f = fits-same names s.deep s.test n l.0 in
    let d = deep_same names s.deep s.test in
    let a = columns_meet names q path l.1 in
    let b = columns_meet names (s ∷ q) path l in
    cc (f, d, a, b)

pub columns_lt : (names : List (List ℕ)) (path : List (List ℕ)) → AllByRecursion (λ c. c < length names + 1) (map (column names) path)
columns_lt names [] = tt
columns_lt names (n ∷ path) = (column-le names n, columns_lt names path)

-- there are sixteen columns
pub names_few : (ns : Names) → length (names_of ns) < 16
names_few ns = omega (arith, length-names ns, ns.within)

pub column-few : (ns : Names) (n : List ℕ) → column (names_of ns) n < 16
column-few ns n = omega (arith, names_few ns, column-le (names_of ns) n)
