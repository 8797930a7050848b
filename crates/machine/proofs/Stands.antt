-- Places and the decision.
use Rattle.std.proofs.Common.{◌≡◌, ℕ, zero, suc, ◌+◌, ◌-◌, ◌<◌, ◌≤◌, true, false, ◌&&◌, List, [], ◌∷◌, length, get_or, drop, Decides, refl, ap, ◌∙◌, subst, inl, inr, arith}
use native.Mathlib.Numerals.{unary_clauses}
use Rattle.std.proofs.lemmas.List.{drop_more, drop_all}
use Rattle.std.proofs.lemmas.Bool.{cases_Bool, and_parts, or_cases, or_left, or_right, and_from, both_ways}
use Rattle.machine.specs.Paths.{Step, Placed, Stand, Meets, is_met, PathRule}
use Rattle.machine.proofs.Runs.{run-is_met}

-- every place one further, under one more name
abbrev up : List ℕ → List ℕ
up [] = []
up (p ∷ ps) = suc p ∷ up ps

placed-up : {N : Type 0} (b : ℕ) (s : Step N) (p : ℕ) (n : N) (path : List N) → Placed b s p path → Placed (suc b) s (suc p) (n ∷ path)
placed-up b s zero n path h = absurd (omega (arith, h.later))
placed-up b s (suc p) n path h = record {
  later = omega (arith, h.later);
  inside = omega (arith, h.inside);
  right_after = λ d. omega (arith, h.right_after d);
  fitting = λ d. simp unary_clauses (simp unary_clauses at (h.fitting d));
}

stand_up : {N : Type 0} (b : ℕ) (ss : List (Step N)) (ps : List ℕ) (n : N) (path : List N) → Stand b ss ps path → Stand (suc b) ss (up ps) (n ∷ path)
stand_up b [] [] n path h = ap suc h
stand_up b [] (p ∷ ps) n path h = h
stand_up b (s ∷ ss) [] n path h = h
stand_up b (s ∷ ss) (p ∷ ps) n path h = (placed-up b s p n path h.0, stand_up p ss ps n path h.1)

-- the places under one more name, which the first step, a deep one, passes over
stand_skip : {N : Type 0} (s : Step N) (ss : List (Step N)) (ps : List ℕ) (n : N) (path : List N) → s.deep ≡ true → Stand 0 (s ∷ ss) ps path → Stand 0 (s ∷ ss) (up ps) (n ∷ path)
stand_skip s ss [] n path d h = h
stand_skip s ss (p ∷ ps) n path d h =
    let u = placed-up 0 s p n path h.0 in (
      record { later = omega arith; inside = u.inside; right_after = λ f. absurd (both_ways s.deep f d); fitting = u.fitting },
      stand_up p ss ps n path h.1,
    )

placed_first : {N : Type 0} (s : Step N) (n : N) (path : List N) → s.fits n ≡ true → Placed 0 s 1 (n ∷ path)
placed_first s n path f = record { later = omega arith; inside = omega arith; right_after = λ _. refl; fitting = λ d. f }

pub places-for : {N : Type 0} (ss : List (Step N)) (path : List N) → is_met ss path ≡ true → (ps : List ℕ) × Stand 0 ss ps path
places-for [] [] h = ([], refl)
places-for [] (n ∷ ns) h = absurd (both_ways false refl h)
places-for (s ∷ ss) [] h = absurd (both_ways false refl h)
places-for (s ∷ ss) (n ∷ ns) h =
    elim (or_cases (s.fits n && is_met ss ns) (s.deep && is_met (s ∷ ss) ns) h) [
      | inl a ↦
          let ab = and_parts (s.fits n) (is_met ss ns) a in
          let r = places-for ss ns ab.1 in
          (1 ∷ up r.0, (placed_first s n ns ab.0, stand_up 0 ss r.0 n ns r.1))
      | inr a ↦
          let ab = and_parts s.deep (is_met (s ∷ ss) ns) a in
          let r = places-for (s ∷ ss) ns ab.1 in
          (up r.0, stand_skip s ss r.0 n ns ab.0 r.1)
    ]

-- a step that stands k names further on
reach : {N : Type 0} (k b p : ℕ) (s : Step N) (ss : List (Step N)) (path : List N) (d : N) → p ≡ b + suc k → p ≤ length path → (0 < k → s.deep ≡ true)
    → s.fits (get_or path (p - 1) d) ≡ true → is_met ss (drop p path) ≡ true → is_met (s ∷ ss) (drop b path) ≡ true
reach zero b p s ss path d e i dp f m =
    let split = drop_more path b d (omega arith) in
    let pe : p ≡ b + 1 = omega arith in
    let pb : p - 1 ≡ b = omega arith in
    let f' : s.fits (get_or path b d) ≡ true = subst (λ x. s.fits (get_or path x d) ≡ true) pb f in
    let m' : is_met ss (drop (b + 1) path) ≡ true = subst (λ x. is_met ss (drop x path) ≡ true) pe m in
    ap (is_met (s ∷ ss)) split ∙ or_left _ _ (and_from _ _ f' m')
reach (suc k) b p s ss path d e i dp f m =
    let split = drop_more path b d (omega arith) in
    let ih = reach k (b + 1) p s ss path d (omega arith) i (λ _. dp (omega arith)) f m in
    ap (is_met (s ∷ ss)) split ∙ or_right _ _ (and_from _ _ (dp (omega arith)) ih)

first_of : {N : Type 0} (path : List N) → 0 < length path → N
first_of [] h = absurd (omega arith)
first_of (n ∷ ns) h = n

deep_if : {N : Type 0} (b : ℕ) (s : Step N) (p k : ℕ) (path : List N) → Placed b s p path → p ≡ b + suc k → 0 < k → s.deep ≡ true
deep_if b s p k path h e l = elim (cases_Bool s.deep) [ inl t ↦ t | inr f ↦ absurd (omega (arith, h.right_after f)) ]

pub stands_meets : {N : Type 0} (b : ℕ) (ss : List (Step N)) (ps : List ℕ) (path : List N) → Stand b ss ps path → is_met ss (drop b path) ≡ true
stands_meets b [] [] path h = ap (is_met []) (drop_all b path (omega arith))
stands_meets b [] (p ∷ ps) path h = absurd h
stands_meets b (s ∷ ss) [] path h = absurd h
stands_meets b (s ∷ ss) (p ∷ ps) path h =
    let at = h.0 in
    let k = p - (b + 1) in
    let e : p ≡ b + suc k = omega (arith, at.later) in
    let d = first_of path (omega (arith, at.later, at.inside)) in
    reach k b p s ss path d e at.inside (deep_if b s p k path at e) (at.fitting d) (stands_meets p ss ps path h.1)

pub meets_decides : {N : Type 0} (ss : List (Step N)) (path : List N) → Decides (is_met ss path) (Meets ss path)
meets_decides ss path = (
  λ h. let r = places-for ss path h in record { places = r.0; stand = r.1 },
  λ m. stands_meets 0 ss m.places path m.stand,
)

pub path-rule : {N : Type 0} → PathRule N
path-rule ss path = (meets_decides ss path, run-is_met ss path)
