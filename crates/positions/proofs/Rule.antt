-- Moving masks of positions decides the path rule.
use Rattle.std.proofs.Common.{◌≡◌, ℕ, zero, suc, ◌+◌, ◌-◌, ◌^◌, ◌<◌, ◌≤◌, Bool, true, false, ◌&&◌, eqb, List, [], ◌∷◌, ◌++◌, map, length, get_or, replicate, sym, refl, ap, ◌∙◌, subst, ap₂, append_assoc, append-nil, zero-add, arith, length-append, pow_mono}
use mathlib.Core.List.{map-append}
use lib.ListN.{length-map, length-replicate}
use Rattle.std.specs.List.{AllByRecursion}
use Rattle.std.proofs.lemmas.Nat.{pow_pos}
use Rattle.std.proofs.lemmas.List.{replicate-append-replicate}
use Rattle.std.proofs.lemmas.Bool.Decides.{nat_tests}
use Rattle.machine.specs.declared.position.Position.{Position}
use Rattle.machine.specs.declared.position.Position.TheVariants.{End}
use Rattle.machine.specs.Paths.{Step, stepped, run, is_met}
use Rattle.machine.specs.Queries.{Test, any, named, Query, asked, column, position_of, position, positions, begins, ends, size, Listed, as_step, fits_at, deep_at}
use Rattle.machine.specs.Masks.{mask, has, moved, fit_mask, deep_mask}
use Rattle.machine.specs.Views.{is_end}
use Rattle.machine.proofs.Drawing.{length-positions}
use Rattle.positions.specs.Sets.{moved_on, run_by, firsts, rest_mask, start_bits}
use Rattle.positions.proofs.Digits.{fitting, staying, moved-is, has-mask, mask_lt, mask-push, mask-none, mask-append_none}
use Rattle.positions.proofs.Flat.{flat, started, Sealed, sealed_flat, last_of}
use Rattle.positions.proofs.Columns.{columns_meet, columns_lt}

length-same : {N : Type 0} (ss : List (Step N)) (n : N) (came : Bool) (bs : List Bool) → length bs ≡ length ss → length (stepped ss n came bs) ≡ length ss
length-same ss n came [] e = e
length-same [] n came (b ∷ bs) e = absurd (omega arith)
length-same (s ∷ ss) n came (b ∷ bs) e = ap suc (length-same ss n (b && s.fits n) bs (omega arith))

-- the masks of steps, and the run of sets as masks
pub run-masks : (ss : List (Step ℕ)) (fits : List ℕ) (stays n : ℕ) → Sealed ss → ((c : ℕ) → c < n → get_or fits c 0 ≡ fitting ss c) → stays ≡ staying ss
    → (cs : List ℕ) (bs : List Bool) → AllByRecursion (λ c. c < n) cs → length bs ≡ length ss → run_by (moved_on fits stays) (mask bs) cs ≡ mask (run ss bs cs)
unfolding moved_on
run-masks ss fits stays n closed f d [] bs a e = refl
run-masks ss fits stays n closed f d (c ∷ cs) bs a e =
    ap (λ x. run_by (moved_on fits stays) x cs) (ap₂ (λ x y. moved x y (mask bs)) (f c a.0) d ∙ moved-is ss c bs e (closed c false bs refl e))
    ∙ run-masks ss fits stays n closed f d cs (stepped ss c false bs) a.1 (length-same ss c false bs e)

-- the steps after the positions of all queries, and then others
flat_is : (names : List (List ℕ)) (qs : List Query) (rest : List (Step ℕ)) → flat names qs rest ≡ map as_step (positions names qs) ++ rest
flat_is names [] rest = refl
flat_is names (q ∷ qs) rest =
    let ps = map (position names) q in
    ap (λ x. map as_step ps ++ as_step End ∷ x) (flat_is names qs rest)
    ∙ sym (append_assoc (map as_step ps) (as_step End ∷ map as_step (positions names qs)) rest)
    ∙ ap (λ x. x ++ rest) (sym (map-append as_step ps (End ∷ positions names qs)))

-- the step after an unused position, which leads to itself
abbrev idle : Step ℕ
idle = record { deep = true; fits = λ c. false }

sealed_idle : (k : ℕ) → Sealed (replicate k idle)
sealed_idle zero c came bs k e = k
sealed_idle (suc n) c came [] k e = k
sealed_idle (suc n) c came (true ∷ bs) k e = sealed_idle n c false bs refl (omega arith)
sealed_idle (suc n) c came (false ∷ bs) k e = sealed_idle n c false bs refl (omega arith)

fitting_idle : (ps : List Position) (k c : ℕ) → fitting (map as_step ps ++ replicate k idle) c ≡ fit_mask ps c
fitting_idle ps k c = ap mask (bits ps) ∙ mask-append_none (map (λ p. fits_at p c) ps) k
  where
    idles : (k : ℕ) → map (λ s. s.fits c) (replicate k idle) ≡ replicate k false
    idles zero = refl
    idles (suc k) = ap (λ x. false ∷ x) (idles k)

    bits : (ps : List Position) → map (λ s. s.fits c) (map as_step ps ++ replicate k idle) ≡ map (λ p. fits_at p c) ps ++ replicate k false
    bits [] = idles k
    bits (p ∷ ps) = ap (λ x. fits_at p c ∷ x) (bits ps)

staying-idle : (ps : List Position) (k : ℕ) → staying (map as_step ps ++ replicate k idle) ≡ mask (map deep_at ps ++ replicate k true)
staying-idle ps k = ap mask (bits ps)
  where
    idles : (k : ℕ) → map (λ s. s.deep) (replicate k idle) ≡ replicate k true
    idles zero = refl
    idles (suc k) = ap (λ x. true ∷ x) (idles k)

    bits : (ps : List Position) → map (λ s. s.deep) (map as_step ps ++ replicate k idle) ≡ map deep_at ps ++ replicate k true
    bits [] = idles k
    bits (p ∷ ps) = ap (λ x. deep_at p ∷ x) (bits ps)

length-started : (from : ℕ → Bool) (k : ℕ) (qs : List Query) → length (started from k qs) ≡ size qs
length-started from k [] = refl
length-started from k (q ∷ qs) = let h = length-started from (suc k) qs in omega (arith, length-append (from k ∷ replicate (length q) false) (started from (suc k) qs), length-replicate (length q) false)

begins-is : (k : ℕ) (qs : List Query) → begins qs ≡ started (λ _. true) k qs
begins-is k [] = refl
begins-is k (q ∷ qs) = ap (λ x. (true ∷ replicate (length q) false) ++ x) (begins-is (suc k) qs)

-- where no query is begun
started_none : (from : ℕ → Bool) (k : ℕ) (qs : List Query) → ((i : ℕ) → k ≤ i → from i ≡ false) → started from k qs ≡ replicate (size qs) false
started_none from k [] h = refl
started_none from k (q ∷ qs) h =
    ap₂ (λ b x. (b ∷ replicate (length q) false) ++ x) (h k (omega arith)) (started_none from (suc k) qs (λ i l. h i (omega arith)))
    ∙ replicate-append-replicate (suc (length q)) (size qs) false
    ∙ ap (λ m. replicate m false) (let z : suc (length q) + size qs ≡ length q + suc (size qs) = omega arith in z)

-- one position of the set, at the place o
mask_one : (o m : ℕ) → mask (replicate o false ++ true ∷ replicate m false) ≡ 2 ^ o
mask_one o m =
    ap mask (sym (append_assoc (replicate o false) (true ∷ []) (replicate m false)))
    ∙ mask-append_none (replicate o false ++ true ∷ []) m
    ∙ mask-push (replicate o false) true
    ∙ ap₂ (λ x n. x + 2 ^ n) (mask-none o) (length-replicate o false)
    ∙ zero-add (2 ^ o)

-- the query j is begun alone
first_alone : (k o j : ℕ) (qs : List Query) → j < length qs → mask (replicate o false ++ started (eqb (k + j)) k qs) ≡ 2 ^ get_or (firsts o qs) j 0
first_alone k o j [] l = absurd (omega arith)
first_alone k o zero (q ∷ qs) l =
    let from = eqb (k + 0) in
    let here : from k ≡ true = grind (arith, nat_tests) in
    let none = started_none from (suc k) qs (λ i h. let f : eqb (k + 0) i ≡ false = grind (arith, nat_tests) in f) in
    ap₂ (λ b x. mask (replicate o false ++ ((b ∷ replicate (length q) false) ++ x))) here none
    ∙ ap (λ x. mask (replicate o false ++ true ∷ x)) (replicate-append-replicate (length q) (size qs) false)
    ∙ mask_one o (length q + size qs)
first_alone k o (suc j) (q ∷ qs) l =
    let n = length q in
    let from = eqb (k + suc j) in
    let here : from k ≡ false = grind (arith, nat_tests) in
    let rest = started from (suc k) qs in
    ap (λ b. mask (replicate o false ++ ((b ∷ replicate n false) ++ rest))) here
    ∙ ap mask (sym (append_assoc (replicate o false) (replicate (suc n) false) rest) ∙ ap (λ x. x ++ rest) (replicate-append-replicate o (suc n) false))
    ∙ ap₂ (λ m i. mask (replicate m false ++ started (eqb i) (suc k) qs)) (let z : o + suc n ≡ o + n + 1 = omega arith in z) (let z : k + suc j ≡ suc k + j = omega arith in z)
    ∙ first_alone (suc k) (o + n + 1) j qs (omega arith)

module _ (names : List (List ℕ)) (qs : List Query) (fits : List ℕ) (n : ℕ) (within : length names < n)
    (masks : (c : ℕ) → c < n → get_or fits c 0 ≡ fit_mask (positions names qs) c) (listed : AllByRecursion (Listed names) qs) where
  abbrev cols : List (List ℕ) → List ℕ
  cols path = map (column names) path

  cols-lt : (path : List (List ℕ)) → AllByRecursion (λ c. c < n) (cols path)
  cols-lt [] = tt
  cols-lt (m ∷ path) = (omega (arith, (columns_lt names (m ∷ path)).0), cols-lt path)

  listed_at : (qs : List Query) (j : ℕ) → AllByRecursion (Listed names) qs → j < length qs → Listed names (get_or qs j [])
  listed_at [] j a l = absurd (omega arith)
  listed_at (q ∷ qs) zero a l = a.0
  listed_at (q ∷ qs) (suc j) a l = listed_at qs j a.1 (omega arith)

  -- from the positions 0 of the queries that `from` names
  runs : (from : ℕ → Bool) (k : ℕ) (stays : ℕ) → stays ≡ mask (map deep_at (positions names qs) ++ replicate k true) → (path : List (List ℕ)) (j : ℕ) → j < length qs
      → has (run_by (moved_on fits stays) (mask (started from 0 qs ++ replicate k false)) (cols path)) (get_or (ends 0 qs) j 0) ≡ (from j && is_met (map asked (get_or qs j [])) path)
  runs from k stays s path j l =
      let rest = replicate k idle in
      let ps = positions names qs in
      let ss = flat names qs rest in
      let is = flat_is names qs rest in
      let bs = started from 0 qs ++ replicate k false in
      let long : length bs ≡ length ss = omega (arith, length-append (started from 0 qs) (replicate k false), length-started from 0 qs, length-replicate k false, ap length is, length-append (map as_step ps) rest, length-map ps as_step, length-replicate k idle, length-positions names qs) in
      ap (λ x. has x (get_or (ends 0 qs) j 0))
      (run-masks ss fits stays n (sealed_flat names qs rest (sealed_idle k)) (λ c h. masks c h ∙ sym (ap (λ x. fitting x c) is ∙ fitting_idle ps k c)) (s ∙ sym (ap staying is ∙ staying-idle ps k)) (cols path) bs (cols-lt path) long)
      ∙ has-mask (run ss bs (cols path)) (get_or (ends 0 qs) j 0)
      ∙ last_of names from (cols path) qs rest (replicate k false) j l
      ∙ ap (λ b. from j && b) (columns_meet names (get_or qs j []) path (listed_at qs j listed l))

  -- from the set of all positions 0
  pub all-meets : (path : List (List ℕ)) (j : ℕ) → j < length qs
      → has (run_by (moved_on fits (deep_mask (positions names qs))) (mask (begins qs)) (cols path)) (get_or (ends 0 qs) j 0) ≡ is_met (map asked (get_or qs j [])) path
  all-meets path j l =
      let ps = positions names qs in
      ap (λ x. has (run_by (moved_on fits (deep_mask ps)) (mask x) (cols path)) (get_or (ends 0 qs) j 0)) (begins-is 0 qs ∙ sym (append-nil (started (λ _. true) 0 qs)))
      ∙ runs (λ _. true) 0 (deep_mask ps) (ap mask (sym (append-nil (map deep_at ps)))) path j l

  -- from the query's own position 0
  pub one-meets : (w : ℕ) (path : List (List ℕ)) (j : ℕ) → j < length qs
      → has (run_by (moved_on fits (rest_mask w (positions names qs))) (2 ^ get_or (firsts 0 qs) j 0) (cols path)) (get_or (ends 0 qs) j 0) ≡ is_met (map asked (get_or qs j [])) path
  one-meets w path j l =
      let ps = positions names qs in
      let from = eqb j in
      let k = w - length ps in
      let here : from j ≡ true = grind (arith, nat_tests) in
      let start : mask (started from 0 qs ++ replicate k false) ≡ 2 ^ get_or (firsts 0 qs) j 0 =
      mask-append_none (started from 0 qs) k ∙ ap (λ i. mask (started (eqb i) 0 qs)) (let z : j ≡ 0 + j = omega arith in z) ∙ first_alone 0 0 j qs l in
      ap (λ x. has (run_by (moved_on fits (rest_mask w ps)) x (cols path)) (get_or (ends 0 qs) j 0)) (sym start)
      ∙ runs from k (rest_mask w ps) refl path j l
      ∙ ap (λ b. b && is_met (map asked (get_or qs j [])) path) here

-- the last of the positions is an end
ended : (names : List (List ℕ)) (q : Query) (qs : List Query) → (xs : List Position) × (positions names (q ∷ qs) ≡ xs ++ End ∷ [])
ended names q [] = (map (position names) q, refl)
ended names q (r ∷ qs) =
    let h = ended names r qs in
    (map (position names) q ++ End ∷ h.0, ap (λ x. map (position names) q ++ End ∷ x) h.1 ∙ sym (append_assoc (map (position names) q) (End ∷ h.0) (End ∷ [])))

low_end : (xs : List Position) (c w : ℕ) → length (xs ++ End ∷ []) ≤ suc w → fit_mask (xs ++ End ∷ []) c < 2 ^ w
low_end xs c w h =
    let f = λ (p : Position). fits_at p c in
    let bs = map f xs in
    let e : fit_mask (xs ++ End ∷ []) c ≡ mask bs + 0 = ap mask (map-append f xs (End ∷ [])) ∙ mask-push bs false in
    let n : length bs ≤ w = omega (arith, length-map xs f, length-append xs (End ∷ [])) in
    omega (arith, mask_lt bs, pow_mono n)

low_nil : (c w : ℕ) → fit_mask [] c < 2 ^ w
unfolding mask
low_nil c w = pow_pos w

-- no step follows the top position, so that a moved set keeps within its width
pub low_fits : (names : List (List ℕ)) (qs : List Query) (w : ℕ) → size qs ≤ suc w → (c : ℕ) → fit_mask (positions names qs) c < 2 ^ w
low_fits names [] w h c = low_nil c w
low_fits names (q ∷ qs) w h c =
    let t = ended names q qs in
    subst (λ ps. fit_mask ps c < 2 ^ w) (sym t.1) (low_end t.0 c w (omega (arith, ap length t.1, length-positions names (q ∷ qs))))

start-query : (names : List (List ℕ)) (q : Query) (b : Bool) (ps : List Position) → start_bits b (map (position names) q ++ End ∷ ps) ≡ (b ∷ replicate (length q) false) ++ start_bits true ps
start-query names [] b ps = refl
start-query names (s ∷ q) b ps =
    ap (λ x. b ∷ start_bits x (map (position names) q ++ End ∷ ps)) (not_end s.deep s.test) ∙ ap (λ x. b ∷ x) (start-query names q false ps)
  where
    not_end : (d : Bool) (t : Test) → is_end (position_of names d t) ≡ false
    not_end d any = refl
    not_end d (named n) = refl

-- the positions 0, one by one
pub starts_are : (names : List (List ℕ)) (qs : List Query) → start_bits true (positions names qs) ≡ begins qs
starts_are names [] = refl
starts_are names (q ∷ qs) = start-query names q true (positions names qs) ∙ ap (λ x. (true ∷ replicate (length q) false) ++ x) (starts_are names qs)

pub length-starts : (b : Bool) (ps : List Position) → length (start_bits b ps) ≡ length ps
length-starts b [] = refl
length-starts b (p ∷ ps) = ap suc (length-starts (is_end p) ps)
