-- The positions of all queries in one list, and each query by itself.
use Rattle.std.proofs.Common.{◌≡◌, ℕ, zero, suc, ◌+◌, ◌-◌, ◌<◌, Bool, true, false, ◌&&◌, ◌||◌, List, [], ◌∷◌, ◌++◌, map, length, get_or, replicate, sym, refl, ap, ◌∙◌, append_assoc, arith, length-append}
use lib.ListN.{length-map, length-replicate}
use Rattle.std.proofs.Math.Bool.{and-false, or-false}
use Rattle.std.proofs.lemmas.List.{get_or_append_left, get_or-append_right}
use Rattle.machine.specs.declared.position.Position.TheVariants.{End}
use Rattle.machine.specs.Paths.{Step, stepped, run, is_met}
use Rattle.machine.specs.Queries.{Query, position, as_step, ends}
use Rattle.machine.proofs.Runs.{length-stepped, run-is_met}
use Rattle.positions.proofs.Digits.{carry}

-- an end between two parts hands nothing on
stepped-split : (q rest : List (Step ℕ)) (c : ℕ) (came : Bool) (bs cs : List Bool) → length bs ≡ suc (length q)
    → stepped (q ++ as_step End ∷ rest) c came (bs ++ cs) ≡ stepped q c came bs ++ stepped rest c false cs
stepped-split q rest c came [] cs e = absurd (omega arith)
stepped-split [] rest c came (b ∷ []) cs e =
    ap (λ x. (came || x) ∷ stepped rest c x cs) (and-false b) ∙ ap (λ x. x ∷ stepped rest c false cs) (or-false came)
stepped-split [] rest c came (b ∷ x ∷ bs) cs e = absurd (omega arith)
stepped-split (s ∷ q) rest c came (b ∷ bs) cs e = ap (λ x. (came || (b && s.deep)) ∷ x) (stepped-split q rest c (b && s.fits c) bs cs (omega arith))

run-split : (q rest : List (Step ℕ)) (path : List ℕ) (bs cs : List Bool) → length bs ≡ suc (length q)
    → run (q ++ as_step End ∷ rest) (bs ++ cs) path ≡ run q bs path ++ run rest cs path
run-split q rest [] bs cs e = refl
run-split q rest (c ∷ path) bs cs e =
    ap (λ x. run (q ++ as_step End ∷ rest) x path) (stepped-split q rest c false bs cs e)
    ∙ run-split q rest path (stepped q c false bs) (stepped rest c false cs) (length-stepped q c false bs e)

length_run : {N : Type 0} (q : List (Step N)) (path : List N) (bs : List Bool) → length bs ≡ suc (length q) → length (run q bs path) ≡ suc (length q)
length_run q [] bs e = e
length_run q (c ∷ path) bs e = length_run q path (stepped q c false bs) (length-stepped q c false bs e)

-- no position leads to none
stepped-none : {N : Type 0} (ss : List (Step N)) (n : N) → stepped ss n false (replicate (suc (length ss)) false) ≡ replicate (suc (length ss)) false
stepped-none [] n = refl
stepped-none (s ∷ ss) n = ap (λ x. false ∷ x) (stepped-none ss n)

run_none : {N : Type 0} (ss : List (Step N)) (path : List N) → run ss (replicate (suc (length ss)) false) path ≡ replicate (suc (length ss)) false
run_none ss [] = refl
run_none ss (n ∷ path) = ap (λ x. run ss x path) (stepped-none ss n) ∙ run_none ss path

get_or-none : (k j : ℕ) → get_or (replicate k false) j false ≡ false
get_or-none zero j = refl
get_or-none (suc k) zero = refl
get_or-none (suc k) (suc j) = get_or-none k j

-- a query from its position 0 alone, or from no position
run-from : {N : Type 0} (ss : List (Step N)) (b : Bool) (path : List N) → get_or (run ss (b ∷ replicate (length ss) false) path) (length ss) false ≡ (b && is_met ss path)
run-from ss true path = run-is_met ss path
run-from ss false path = ap (λ x. get_or x (length ss) false) (run_none ss path) ∙ get_or-none (suc (length ss)) (length ss)

module _ (names : List (List ℕ)) where
  -- one query's steps over columns
  abbrev pub columnSteps : Query → List (Step ℕ)
  columnSteps q = map as_step (map (position names) q)

  pub length-steps : (q : Query) → length (columnSteps q) ≡ length q
  length-steps q = length-map (map (position names) q) as_step ∙ length-map q (position names)

  -- the steps of all queries, an end after each, and then others
  abbrev pub flat : List Query → List (Step ℕ) → List (Step ℕ)
  flat [] rest = rest
  flat (q ∷ qs) rest = columnSteps q ++ as_step End ∷ flat qs rest

-- the set of the positions 0 of the queries that `from` names, the first being the query k
abbrev pub started : (ℕ → Bool) → ℕ → List Query → List Bool
started from k [] = []
started from k (q ∷ qs) = (from k ∷ replicate (length q) false) ++ started from (suc k) qs

module _ (names : List (List ℕ)) (from : ℕ → Bool) (path : List ℕ) where
  -- each query's own set after the path
  abbrev own : ℕ → Query → List Bool
  own k q = run (columnSteps names q) (from k ∷ replicate (length q) false) path

  abbrev parts : ℕ → List Query → List Bool
  parts k [] = []
  parts k (q ∷ qs) = own k q ++ parts (suc k) qs

  length-own : (k : ℕ) (q : Query) → length (from k ∷ replicate (length q) false) ≡ suc (length (columnSteps names q))
  length-own k q = ap suc (length-replicate (length q) false ∙ sym (length-steps names q))

  flat-run : (k : ℕ) (qs : List Query) (rest : List (Step ℕ)) (cs : List Bool) → run (flat names qs rest) (started from k qs ++ cs) path ≡ parts k qs ++ run rest cs path
  flat-run k [] rest cs = refl
  flat-run k (q ∷ qs) rest cs =
      ap (λ x. run (flat names (q ∷ qs) rest) x path) (append_assoc (from k ∷ replicate (length q) false) (started from (suc k) qs) cs)
      ∙ run-split (columnSteps names q) (flat names qs rest) path (from k ∷ replicate (length q) false) (started from (suc k) qs ++ cs) (length-own k q)
      ∙ ap (λ x. own k q ++ x) (flat-run (suc k) qs rest cs)
      ∙ sym (append_assoc (own k q) (parts (suc k) qs) (run rest cs path))

  -- the last position of the query j
  at_last : (k o j : ℕ) (qs : List Query) (before after : List Bool) → length before ≡ o → j < length qs
      → get_or (before ++ (parts k qs ++ after)) (get_or (ends o qs) j 0) false ≡ (from (k + j) && is_met (columnSteps names (get_or qs j [])) path)
  at_last k o j [] before after e l = absurd (omega arith)
  at_last k o zero (q ∷ qs) before after e l =
      let n = length q in
      let r = own k q in
      let rest = parts (suc k) qs ++ after in
      let long : length r ≡ n + 1 = length_run (columnSteps names q) path (from k ∷ replicate n false) (length-own k q) ∙ ap suc (length-steps names q) ∙ omega arith in
      ap (λ x. get_or (before ++ x) (o + n) false) (append_assoc r (parts (suc k) qs) after)
      ∙ get_or-append_right before (r ++ rest) o (o + n) false e (omega arith)
      ∙ get_or_append_left r rest false (o + n - o) (omega arith)
      ∙ ap (λ j. get_or r j false) (let z : o + n - o ≡ n = omega arith in z)
      ∙ ap (λ j. get_or (run (columnSteps names q) (from k ∷ replicate j false) path) j false) (sym (length-steps names q))
      ∙ run-from (columnSteps names q) (from k) path
      ∙ ap (λ i. from i && is_met (columnSteps names q) path) (let z : k ≡ k + 0 = omega arith in z)
  at_last k o (suc j) (q ∷ qs) before after e l =
      let n = length q in
      let r = own k q in
      let long : length r ≡ n + 1 = length_run (columnSteps names q) path (from k ∷ replicate n false) (length-own k q) ∙ ap suc (length-steps names q) ∙ omega arith in
      ap (λ x. get_or x (get_or (ends (o + n + 1) qs) j 0) false) (ap (λ x. before ++ x) (append_assoc r (parts (suc k) qs) after) ∙ sym (append_assoc before r (parts (suc k) qs ++ after)))
      ∙ at_last (suc k) (o + n + 1) j qs (before ++ r) after (length-append before r ∙ omega arith) (omega arith)
      ∙ ap (λ i. from i && is_met (columnSteps names (get_or qs j [])) path) (let z : suc k + j ≡ k + suc j = omega arith in z)

  -- the last position of the query j is reached exactly if the query is begun and the columns meet it
  pub last_of : (qs : List Query) (rest : List (Step ℕ)) (cs : List Bool) (j : ℕ) → j < length qs
      → get_or (run (flat names qs rest) (started from 0 qs ++ cs) path) (get_or (ends 0 qs) j 0) false ≡ (from j && is_met (columnSteps names (get_or qs j [])) path)
  last_of qs rest cs j l =
      ap (λ x. get_or x (get_or (ends 0 qs) j 0) false) (flat-run 0 qs rest cs)
      ∙ at_last 0 0 j qs [] (run rest cs path) refl l
      ∙ ap (λ i. from i && is_met (columnSteps names (get_or qs j [])) path) (let z : 0 + j ≡ j = omega arith in z)

-- nothing is handed on past the last position
abbrev pub Sealed : List (Step ℕ) → Type 0
Sealed rest = (c : ℕ) (came : Bool) (bs : List Bool) → came ≡ false → length bs ≡ length rest → carry rest c came bs ≡ false

sealed_end : (xs rest : List (Step ℕ)) → Sealed rest → (c : ℕ) (came : Bool) (bs : List Bool) → length bs ≡ length (xs ++ as_step End ∷ rest) → carry (xs ++ as_step End ∷ rest) c came bs ≡ false
sealed_end [] rest h c came [] e = absurd (omega arith)
sealed_end [] rest h c came (b ∷ bs) e = h c (b && false) bs (and-false b) (omega arith)
sealed_end (x ∷ xs) rest h c came [] e = absurd (omega arith)
sealed_end (x ∷ xs) rest h c came (b ∷ bs) e = sealed_end xs rest h c (b && x.fits c) bs (omega arith)

pub sealed_flat : (names : List (List ℕ)) (qs : List Query) (rest : List (Step ℕ)) → Sealed rest → Sealed (flat names qs rest)
sealed_flat names [] rest h c came bs k e = h c came bs k e
sealed_flat names (q ∷ qs) rest h c came bs k e = sealed_end (columnSteps names q) (flat names qs rest) (sealed_flat names qs rest h) c came bs e
