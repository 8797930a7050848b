-- Which sets the closure has.
use Rattle.std.proofs.Common.{◌≡◌, ℕ, zero, suc, ◌+◌, ◌<◌, ◌≤◌, cond, eqb, ltb, List, [], ◌∷◌, ◌++◌, length, get_or, sym, refl, ap, ◌∙◌, subst, inl, inr, append_assoc, append-nil, arith}
use Rattle.std.specs.List.{AllByRecursion}
use Rattle.std.proofs.lemmas.Bool.{cases_eq, eq-eqb, cases_lt, lt-ltb, le-ltb, cond-true, cond-false}
use Rattle.std.proofs.ByRecursion.{All-push, All-get_or}
use Rattle.std.proofs.lemmas.List.{get_or_append_left, get_or_push, length_push, length-append}
use Rattle.table.specs.Closure.{place, added, tried, closure}
use Rattle.table.proofs.Places.{place-append, place_push, place_at, added-old, added_new, added_more, place-added, place-added_lt}
use Rattle.table.proofs.Fills.{tried-grows, added-keeps, added-grows}
use Rattle.table.proofs.Closing.{closure-grows}
use Rattle.positions.specs.Sets.{run_by}
use Rattle.table.specs.Arising.{Arises, ClosureFinds}

-- what the start has and each column keeps, each set has
module _ (P : ℕ → Type 0) (f : ℕ → ℕ → ℕ) (cols : ℕ) (on : (s c : ℕ) → c < cols → P s → P (f s c)) where
  added-every : (xs : List ℕ) (x : ℕ) → AllByRecursion P xs → P x → AllByRecursion P (added xs x)
  added-every xs x a p = elim (cases_lt (place x xs) (length xs)) [
    | inl h ↦ subst (AllByRecursion P) (sym (added-old xs x h)) a
    | inr h ↦ subst (AllByRecursion P) (sym (added_new xs x h)) (All-push P xs x a p)
  ]

  tried-every : (s c n : ℕ) (xs : List ℕ) → c + n ≤ cols → P s → AllByRecursion P xs → AllByRecursion P (tried f s c n xs)
  tried-every s c zero xs l p a = a
  tried-every s c (suc n) xs l p a = tried-every s (c + 1) n (added xs (f s c)) (omega arith) p (added-every xs (f s c) a (on s c (omega arith) p))

  closure-every : (n i : ℕ) (xs : List ℕ) → AllByRecursion P xs → AllByRecursion P (closure f cols n i xs)
  unfolding closure
  closure-every zero i xs a = a
  closure-every (suc n) i xs a =
      let t = tried f (get_or xs i 0) 0 cols xs in
      elim (cases_lt i (length xs)) [
        | inl h ↦ subst (AllByRecursion P) (sym (cond-true (ltb i (length xs)) (closure f cols n (i + 1) t) xs (lt-ltb i (length xs) h))) (closure-every n (i + 1) t (tried-every (get_or xs i 0) 0 cols xs (omega arith) (All-get_or P xs i 0 h a) a))
        | inr h ↦ subst (AllByRecursion P) (sym (cond-false (ltb i (length xs)) (closure f cols n (i + 1) t) xs (le-ltb i (length xs) h))) a
      ]

run-push : (f : ℕ → ℕ → ℕ) (s c : ℕ) (cs : List ℕ) → run_by f s (cs ++ c ∷ []) ≡ f (run_by f s cs) c
run-push f s c [] = refl
run-push f s c (d ∷ cs) = run-push f (f s d) c cs

arises_on : (f : ℕ → ℕ → ℕ) (cols start s c : ℕ) → c < cols → Arises f cols start s → Arises f cols start (f s c)
arises_on f cols start s c l h = record {
  path = h.path ++ c ∷ [];
  used = All-push (λ x. x < cols) h.path c h.used l;
  there = run-push f start c h.path ∙ ap (λ x. f x c) h.there;
}

-- each set stands where it is first found
abbrev Own : List ℕ → Type 0
Own xs = (k : ℕ) → k < length xs → place (get_or xs k 0) xs ≡ k

own-push : (xs : List ℕ) (x : ℕ) → length xs ≤ place x xs → Own xs → Own (xs ++ x ∷ [])
own-push xs x new o k l = elim (cases_lt k (length xs)) [
  | inl h ↦
      let e = get_or_append_left xs (x ∷ []) 0 k h in
      ap (λ y. place y (xs ++ x ∷ [])) e ∙ place-append (get_or xs k 0) xs (x ∷ []) (omega (arith, o k h)) ∙ o k h
  | inr h ↦
      let q : k ≡ length xs = omega (arith, length_push xs x) in
      ap (λ y. place y (xs ++ x ∷ [])) (get_or_push xs x 0 k (sym q)) ∙ place_push x xs new ∙ sym q
]

own-added : (xs : List ℕ) (x : ℕ) → Own xs → Own (added xs x)
own-added xs x o = elim (cases_lt (place x xs) (length xs)) [
  | inl h ↦ subst Own (sym (added-old xs x h)) o
  | inr h ↦ subst Own (sym (added_new xs x h)) (own-push xs x h o)
]

own-tried : (f : ℕ → ℕ → ℕ) (s c n : ℕ) (xs : List ℕ) → Own xs → Own (tried f s c n xs)
own-tried f s c zero xs o = o
own-tried f s c (suc n) xs o = own-tried f s (c + 1) n (added xs (f s c)) (own-added xs (f s c) o)

own-closure : (f : ℕ → ℕ → ℕ) (cols n i : ℕ) (xs : List ℕ) → Own xs → Own (closure f cols n i xs)
unfolding closure
own-closure f cols zero i xs o = o
own-closure f cols (suc n) i xs o =
    let t = tried f (get_or xs i 0) 0 cols xs in
    elim (cases_lt i (length xs)) [
      | inl h ↦ subst Own (sym (cond-true (ltb i (length xs)) (closure f cols n (i + 1) t) xs (lt-ltb i (length xs) h))) (own-closure f cols n (i + 1) t (own-tried f (get_or xs i 0) 0 cols xs o))
      | inr h ↦ subst Own (sym (cond-false (ltb i (length xs)) (closure f cols n (i + 1) t) xs (le-ltb i (length xs) h))) o
    ]

-- a list that goes on
abbrev On : List ℕ → List ℕ → Type 0
On xs zs = (ys : List ℕ) × (zs ≡ xs ++ ys)

on_on : (xs ys zs : List ℕ) → On xs ys → On ys zs → On xs zs
on_on xs ys zs a b = (a.0 ++ b.0, b.1 ∙ ap (λ l. l ++ b.0) a.1 ∙ append_assoc xs a.0 b.0)

tried-on : (f : ℕ → ℕ → ℕ) (s c n : ℕ) (xs : List ℕ) → On xs (tried f s c n xs)
tried-on f s c zero xs = ([], sym (append-nil xs))
tried-on f s c (suc n) xs = on_on xs (added xs (f s c)) (tried f s (c + 1) n (added xs (f s c))) (added_more xs (f s c)) (tried-on f s (c + 1) n (added xs (f s c)))

place-on : (x : ℕ) (xs zs : List ℕ) → On xs zs → place x xs < length xs → place x zs < length zs
place-on x xs zs e h = subst (λ l. place x l < length l) (sym e.1) (omega (arith, place-append x xs e.0 h, length-append xs e.0))

get_or-on : (xs zs : List ℕ) (a : ℕ) → On xs zs → a < length xs → get_or zs a 0 ≡ get_or xs a 0
get_or-on xs zs a e h = ap (λ l. get_or l a 0) e.1 ∙ get_or_append_left xs e.0 0 a h

tried-has : (f : ℕ → ℕ → ℕ) (s c n d : ℕ) (xs : List ℕ) → c ≤ d → d < c + n → place (f s d) (tried f s c n xs) < length (tried f s c n xs)
tried-has f s c zero d xs l h = absurd (omega arith)
tried-has f s c (suc n) d xs l h =
    let new = added xs (f s c) in
    elim (cases_eq c d) [
      | inl e ↦
          let here : place (f s c) new < length new = omega (arith, place-added (f s c) xs, place-added_lt (f s c) xs) in
          subst (λ k. place (f s k) (tried f s (c + 1) n new) < length (tried f s (c + 1) n new)) e (place-on (f s c) new (tried f s (c + 1) n new) (tried-on f s (c + 1) n new) here)
      | inr e ↦ tried-has f s (c + 1) n d new (omega arith) (omega arith)
    ]

-- the states below i lead to states
abbrev Closed : (ℕ → ℕ → ℕ) → ℕ → ℕ → List ℕ → Type 0
Closed f cols i xs = (a c : ℕ) → a < i → c < cols → place (f (get_or xs a 0) c) xs < length xs

closed_tried : (f : ℕ → ℕ → ℕ) (cols i : ℕ) (xs : List ℕ) → i < length xs → Closed f cols i xs → Closed f cols (i + 1) (tried f (get_or xs i 0) 0 cols xs)
closed_tried f cols i xs l h a c al cl =
    let t = tried f (get_or xs i 0) 0 cols xs in
    let on = tried-on f (get_or xs i 0) 0 cols xs in
    let e : get_or t a 0 ≡ get_or xs a 0 = get_or-on xs t a on (omega arith) in
    let now : place (f (get_or xs a 0) c) t < length t = elim (cases_lt a i) [
      | inl k ↦ place-on (f (get_or xs a 0) c) xs t on (h a c k cl)
      | inr k ↦ let q : i ≡ a = omega arith in subst (λ b. place (f (get_or xs b 0) c) t < length t) q (tried-has f (get_or xs i 0) 0 cols c xs (omega arith) (omega arith))
    ] in
    subst (λ s. place (f s c) t < length t) (sym e) now

closed_closure : (f : ℕ → ℕ → ℕ) (cols n i : ℕ) (xs : List ℕ) → i ≤ length xs → Closed f cols i xs → length (closure f cols n i xs) ≤ i + n → Closed f cols (length (closure f cols n i xs)) (closure f cols n i xs)
unfolding closure
closed_closure f cols zero i xs l h s = λ a c al cl. h a c (omega arith) cl
closed_closure f cols (suc n) i xs l h s =
    let t = tried f (get_or xs i 0) 0 cols xs in
    let r = closure f cols n (i + 1) t in
    let P : List ℕ → Type 0 = λ zs. length zs ≤ i + suc n → Closed f cols (length zs) zs in
    let both : P (cond (ltb i (length xs)) r xs) = elim (cases_lt i (length xs)) [
      | inl k ↦ subst P (sym (cond-true (ltb i (length xs)) r xs (lt-ltb i (length xs) k))) (λ m. closed_closure f cols n (i + 1) t (omega (arith, tried-grows f (get_or xs i 0) 0 cols xs)) (closed_tried f cols i xs k h) (omega arith))
      | inr k ↦ subst P (sym (cond-false (ltb i (length xs)) r xs (le-ltb i (length xs) k))) (λ m a c al cl. h a c (omega arith) cl)
    ] in
    both s

reach : (f : ℕ → ℕ → ℕ) (cols : ℕ) (xs : List ℕ) → Closed f cols (length xs) xs → (cs : List ℕ) (k : ℕ) → k < length xs → AllByRecursion (λ c. c < cols) cs
    → (j : ℕ) × (j < length xs) × (get_or xs j 0 ≡ run_by f (get_or xs k 0) cs)
reach f cols xs h [] k l a = (k, l, refl)
reach f cols xs h (c ∷ cs) k l a =
    let x = f (get_or xs k 0) c in
    let p = h k c l a.0 in
    let r = reach f cols xs h cs (place x xs) p a.1 in
    (r.0, r.1, r.2 ∙ ap (λ y. run_by f y cs) (place_at x xs 0 p))

own-one : (x : ℕ) → Own (x ∷ [])
own-one x zero l = cond-true (eqb x x) 0 1 (eq-eqb x x refl)
own-one x (suc k) l = absurd (omega arith)

tried-keeps : (f : ℕ → ℕ → ℕ) (s c n : ℕ) (xs : List ℕ) → 0 < length xs → get_or (tried f s c n xs) 0 0 ≡ get_or xs 0 0
tried-keeps f s c zero xs l = refl
tried-keeps f s c (suc n) xs l = tried-keeps f s (c + 1) n (added xs (f s c)) (omega (arith, added-grows xs (f s c))) ∙ added-keeps xs (f s c) 0 l

pub closure-keeps : (f : ℕ → ℕ → ℕ) (cols n i : ℕ) (xs : List ℕ) → 0 < length xs → get_or (closure f cols n i xs) 0 0 ≡ get_or xs 0 0
unfolding closure
closure-keeps f cols zero i xs l = refl
closure-keeps f cols (suc n) i xs l =
    let t = tried f (get_or xs i 0) 0 cols xs in
    let g = tried-grows f (get_or xs i 0) 0 cols xs in
    elim (cases_lt i (length xs)) [
      | inl h ↦ ap (λ zs. get_or zs 0 0) (cond-true (ltb i (length xs)) (closure f cols n (i + 1) t) xs (lt-ltb i (length xs) h)) ∙ closure-keeps f cols n (i + 1) t (omega arith) ∙ tried-keeps f (get_or xs i 0) 0 cols xs l
      | inr h ↦ ap (λ zs. get_or zs 0 0) (cond-false (ltb i (length xs)) (closure f cols n (i + 1) t) xs (le-ltb i (length xs) h))
    ]

pub closure-finds : ClosureFinds
closure-finds f cols start n =
    let xs = closure f cols n 0 (start ∷ []) in
    let own : Own xs = own-closure f cols n 0 (start ∷ []) (own-one start) in
    let all = closure-every (Arises f cols start) f cols (arises_on f cols start) n 0 (start ∷ []) (record { path = []; used = tt; there = refl }, tt) in
    let long : 0 < length xs = omega (arith, closure-grows f cols n 0 (start ∷ [])) in
    let arise : (k : ℕ) → k < length xs → Arises f cols start (get_or xs k 0) = λ k l. All-get_or (Arises f cols start) xs k 0 l all in
    let apart : (j k : ℕ) → j < length xs → k < length xs → get_or xs j 0 ≡ get_or xs k 0 → j ≡ k = λ j k jl kl e. sym (own j jl) ∙ ap (λ x. place x xs) e ∙ own k kl in (
      λ few. record {
        arise = arise;
        apart = apart;
        every = λ set a.
            let c = closed_closure f cols n 0 (start ∷ []) (omega arith) (λ b d bl dl. absurd (omega arith)) (omega arith) in
            let r = reach f cols xs c a.path 0 long a.used in
            (r.0, r.1, r.2 ∙ ap (λ y. run_by f y a.path) (closure-keeps f cols n 0 (start ∷ []) (omega arith)) ∙ a.there);
      },
      λ many. record { sets = xs; many = many; arise = arise; apart = apart },
    )
