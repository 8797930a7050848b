-- The matches of a file, one by one.
use Rattle.std.proofs.Common.{◌≡◌, ℕ, suc, ◌+◌, ◌-◌, ◌<◌, ◌≤◌, Bool, true, false, ◌⊎◌, List, [], ◌∷◌, ◌++◌, length, get_or, Ok, Result, sym, refl, ap, ◌∙◌, subst, inl, inr, ⊎_elim, arith, length-append}
use Rattle.std.proofs.lemmas.Bool.{both_ways, cases_lt}
use Rattle.tags.specs.declared.tag.TagKind.{TagKind}
use Rattle.grammar.specs.Grammar.{Tag}
use Rattle.answers.specs.declared.fault.Fault.{Fault}
use Rattle.answers.specs.declared.matches.Match.{Match}
use Rattle.answers.specs.Own.{Element, matches_at, matches, own}
use Rattle.answers.specs.Exact.{Holds, no_elements, an_empty, an_element, Told, accepted, refused}
use Rattle.answers.specs.Listing.{Among, first, later, EarlierThanFirst, InOrder, Listed, Listing}
use Rattle.answers.proofs.Tagged.{tag-marked}
use Rattle.answers.proofs.Rules.{no_ok, exactly}

-- Members of two lists.

module _ {X : Type 0} {x : X} where
  in_left : {xs : List X} (ys : List X) → Among x xs → Among x (xs ++ ys)
  in_left ys first = first
  in_left ys (later a) = later (in_left ys a)

  in_right : (xs : List X) {ys : List X} → Among x ys → Among x (xs ++ ys)
  in_right [] a = a
  in_right (y ∷ xs) a = later (in_right xs a)

  in_either : (xs ys : List X) → Among x (xs ++ ys) → Among x xs ⊎ Among x ys
  in_either [] ys a = inr a
  in_either (y ∷ xs) ys first = inl first
  in_either (y ∷ xs) ys (later a) = ⊎_elim (λ (l : Among x xs). inl (later l)) (λ (r : Among x ys). inr r) (in_either xs ys a)

-- The matches of one element, whose queries are counted from q.

abbrev Of : ℕ → ℕ → List Bool → Match → Type 0
Of p q bs x = (x.place ≡ p) × (q ≤ x.query) × (get_or bs (x.query - q) false ≡ true)

shift : (b : Bool) (bs : List Bool) (q k : ℕ) → q + 1 ≤ k → get_or (b ∷ bs) (k - q) false ≡ get_or bs (k - (q + 1)) false
shift b bs q k h = let e : k - q ≡ suc (k - (q + 1)) = omega arith in ap (λ i. get_or (b ∷ bs) i false) e

match_later : (b : Bool) (p q : ℕ) (bs : List Bool) (x : Match) → Of p (q + 1) bs x → Of p q (b ∷ bs) x
match_later b p q bs x w = let h = w.1 in (w.0, omega arith, shift b bs q x.query h ∙ w.2)

match_is : (p q : ℕ) (bs : List Bool) (x : Match) → Among x (matches_at p q bs) → Of p q bs x
match_is p q [] x a = elim a [ ]
match_is p q (true ∷ bs) x first = let e : q - q ≡ 0 = omega arith in (refl, omega arith, ap (λ i. get_or (true ∷ bs) i false) e)
match_is p q (true ∷ bs) x (later a) = match_later true p q bs x (match_is p (q + 1) bs x a)
match_is p q (false ∷ bs) x a = match_later false p q bs x (match_is p (q + 1) bs x a)

is_match : (p q : ℕ) (bs : List Bool) (x : Match) → Of p q bs x → Among x (matches_at p q bs)
is_match p q [] x w = absurd (both_ways false refl w.2)
is_match p q (b ∷ bs) x w = let h = w.1 in ⊎_elim
    (λ (l : q < x.query). go_on b (is_match p (q + 1) bs x (w.0, omega arith, sym (shift b bs q x.query (omega arith)) ∙ w.2)))
    (λ (l : x.query ≤ q). let e : x.query ≡ q = omega arith in let z : x.query - q ≡ 0 = omega arith in here b e (sym (ap (λ i. get_or (b ∷ bs) i false) z) ∙ w.2))
    (cases_lt q x.query)
  where
    go_on : (b : Bool) → Among x (matches_at p (q + 1) bs) → Among x (matches_at p q (b ∷ bs))
    go_on true a = later a
    go_on false a = a

    here : (b : Bool) → x.query ≡ q → b ≡ true → Among x (matches_at p q (b ∷ bs))
    here true e t = subst (λ y. Among x (y ∷ matches_at p (q + 1) bs)) (λ i. record { place = w.0 i; query = e i }) first
    here false e t = absurd (both_ways false refl t)

-- The matches of elements.

module _ (verdict : List (List ℕ) → List Bool) where
  abbrev Some-element : List Element → Match → Type 0
  Some-element es x = (e : Element) × Among e es × (x.place ≡ e.place) × (get_or (verdict e.path) x.query false ≡ true)

  from_start : (bs : List Bool) (k : ℕ) → get_or bs (k - 0) false ≡ get_or bs k false
  from_start bs k = let e : k - 0 ≡ k = omega arith in ap (λ i. get_or bs i false) e

  to-element : (es : List Element) (x : Match) → Among x (matches verdict es) → Some-element es x
  to-element [] x a = elim a [ ]
  to-element (e ∷ es) x a = ⊎_elim
      (λ (l : Among x (matches_at e.place 0 (verdict e.path))). let w = match_is e.place 0 (verdict e.path) x l in (e, first, w.0, sym (from_start (verdict e.path) x.query) ∙ w.2))
      (λ (r : Among x (matches verdict es)). let w = to-element es x r in (w.0, later w.1, w.2, w.3))
      (in_either (matches_at e.place 0 (verdict e.path)) (matches verdict es) a)

  of-element : (es : List Element) (x : Match) (e : Element) → Among e es → x.place ≡ e.place → get_or (verdict e.path) x.query false ≡ true → Among x (matches verdict es)
  of-element [] x e a p q = elim a [ ]
  of-element (_ ∷ es) x e first p q = in_left (matches verdict es) (is_match e.place 0 (verdict e.path) x (p, omega arith, from_start (verdict e.path) x.query ∙ q))
  of-element (d ∷ es) x e (later a) p q = in_right (matches_at d.place 0 (verdict d.path)) (of-element es x e a p q)

-- Their order.

-- places that rise, from lo on and below hi
abbrev Rising : ℕ → List Element → ℕ → Type 0
Rising lo [] hi = lo ≤ hi
Rising lo (e ∷ es) hi = (lo ≤ e.place) × Rising (e.place + 1) es hi

rising-lower : (lo low : ℕ) (es : List Element) (hi : ℕ) → lo ≤ low → Rising low es hi → Rising lo es hi
rising-lower lo low [] hi h r = omega (arith, r)
rising-lower lo low (e ∷ es) hi h r = let k = r.0 in (omega arith, r.1)

rising-append : (lo mid hi : ℕ) (xs ys : List Element) → Rising lo xs mid → Rising mid ys hi → Rising lo (xs ++ ys) hi
rising-append lo mid hi [] ys r s = rising-lower lo mid ys hi r s
rising-append lo mid hi (e ∷ xs) ys r s = (r.0, rising-append (e.place + 1) mid hi xs ys r.1 s)

tag-long : {k : TagKind} {n t : List ℕ} → Tag k n t → 1 ≤ length t
tag-long T = let f = tag-marked T in omega (arith, ap length f.1)

holds_rising : {ns : List (List ℕ)} {at : ℕ} {c : List ℕ} {es : List Element} → Holds ns at c es → Rising at es (at + length c)
holds_rising (no_elements e) = omega arith
holds_rising {at} (an_empty {t} {e = x} {r} {es} e T H) =
    let a = at + length t in
    let long = tag-long T in
    let to : (a + length x) + length r ≡ at + length (t ++ (x ++ r)) = simp length-append (omega arith) in
    (omega arith, subst (Rising (a + 1) es) to (rising-lower (a + 1) (a + length x) es ((a + length x) + length r) (omega arith) (holds_rising H)))
holds_rising {at} (an_element {t} {s} {c} {e = x} {r} {es} {fs} e S H T J) =
    let a = at + length t in
    let mid = (a + length s) + length c in
    let hi = (mid + length x) + length r in
    let long = tag-long S in
    let to : hi ≡ at + length (t ++ (s ++ (c ++ (x ++ r)))) = simp length-append (omega arith) in (
      omega arith,
      subst (Rising (a + 1) (es ++ fs)) to
          (rising-append (a + 1) mid hi es fs (rising-lower (a + 1) (a + length s) es mid (omega arith) (holds_rising H)) (rising-lower mid (mid + length x) fs hi (omega arith) (holds_rising J))),
    )

-- the matches of one element and what comes after them
pub record Follows (p q : ℕ) (ms : List Match) : Type 0 where
  pub ordered : InOrder ms
  pub after : (x : Match) → (x.place < p) ⊎ ((x.place ≡ p) × (x.query < q)) → EarlierThanFirst x ms

one-ordered : (p q : ℕ) (bs : List Bool) (ms : List Match) → InOrder ms → ((x : Match) → x.place ≤ p → EarlierThanFirst x ms) → Follows p q (matches_at p q bs ++ ms)
one-ordered p q [] ms o f = record {
  ordered = o;
  after = λ x h. f x (⊎_elim (λ (l : x.place < p). omega arith) (λ (l : (x.place ≡ p) × (x.query < q)). omega (arith, l.0)) h);
}
one-ordered p q (true ∷ bs) ms o f =
    let i = one-ordered p (q + 1) bs ms o f in
    record { ordered = (i.after (record { place = p; query = q }) (inr (refl, omega arith)), i.ordered); after = λ x h. h }
one-ordered p q (false ∷ bs) ms o f =
    let i = one-ordered p (q + 1) bs ms o f in
    record {
      ordered = i.ordered;
      after = λ x h. i.after x (⊎_elim (λ (l : x.place < p). inl l) (λ (l : (x.place ≡ p) × (x.query < q)). inr (l.0, omega (arith, l.1))) h);
    }

same-matches : {ms ns : List Match} → ◌≡◌ {A = Result (List Match) Fault} (Ok ms) (Ok ns) → ms ≡ ns
same-matches e = cc

module _ (verdict : List (List ℕ) → List Bool) where
  all-ordered : (lo : ℕ) (es : List Element) (hi : ℕ) → Rising lo es hi → Follows lo 0 (matches verdict es)
  all-ordered lo [] hi r = record { ordered = tt; after = λ x h. tt }
  all-ordered lo (e ∷ es) hi r =
      let k = r.0 in
      let i = all-ordered (e.place + 1) es hi r.1 in
      let j = one-ordered e.place 0 (verdict e.path) (matches verdict es) i.ordered (λ x h. i.after x (inl (omega arith))) in
      record {
        ordered = j.ordered;
        after = λ x h. j.after x (⊎_elim (λ (l : x.place < lo). inl (omega arith)) (λ (l : (x.place ≡ lo) × (x.query < 0)). absurd (omega (arith, l.1))) h);
      }

  listed : (file : List ℕ) (es : List Element) → Holds [] 0 file es → Listed verdict es (matches verdict es)
  listed file es H = record {
    each = λ x. (to-element verdict es x, λ w. of-element verdict es x w.0 w.1 w.2 w.3);
    ordered = (all-ordered 0 es (0 + length file) (holds_rising H)).ordered;
  }

  told-listed : (file : List ℕ) (ms : List Match) {r : Result (List Match) Fault} → Told verdict file r → r ≡ Ok ms → (es : List Element) × Holds [] 0 file es × Listed verdict es ms
  told-listed file ms (accepted {es} H) e = (es, H, subst (Listed verdict es) (same-matches e) (listed file es H))
  told-listed file ms (refused R) e = absurd (no_ok e)

pub listing : Listing
listing verdict file ms h = told-listed verdict file ms ((exactly verdict file (own verdict file)).0 refl) h
