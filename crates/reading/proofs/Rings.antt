-- A ring of places: one more, one less, and filled from its far end.
use Rattle.std.proofs.Common.{◌≡◌, ℕ, zero, suc, ◌+◌, ◌-◌, ◌<◌, ◌≤◌, Bool, true, false, ◌≢◌, List, [], ◌∷◌, ◌++◌, length, get_or, set, sym, refl, ap, ◌∙◌, subst, ⊎_elim, arith}
use Rattle.std.proofs.lemmas.List.{get_or-set_same, get_or-set_other, append-nil}
use Rattle.std.proofs.lemmas.Bool.{cases_lt}
use Rattle.std.proofs.lemmas.Bool.Decides.{nat_tests}
use Rattle.reading.specs.declared.opens.Opens.{Opens}
use Rattle.rows.specs.declared.row.Row.{Row}
use Rattle.rows.specs.Places.{NoneOpen, BaseAt}
use Rattle.reading.specs.Opens.{back, forth, ring, items, Pushed, Chain}

pub back-less : (t : ℕ) → 0 < t → t - 1 ≡ back t
back-less zero h = absurd (omega arith)
back-less (suc t) h = omega arith

back-forth : (t : ℕ) → back (forth t) ≡ t
back-forth t = grind (arith, nat_tests)

-- a write at x, where none of the n cells before t is x
ring-set : (cells : List ℕ) (x i n t : ℕ) → (x < t → x + n < t) → (t ≤ x → x + n < t + 4096) → ring (set cells x i) t n ≡ ring cells t n
ring-set cells x i zero t f g = refl
ring-set cells x i (suc n) zero f g =
    let h = g (omega arith) in
    let ne : 4095 ≢ x = omega arith in
    let e = get_or-set_other cells x 4095 i 0 ne in
    let more = ring-set cells x i n 4095 (λ _. omega arith) (λ l. omega arith) in
    cc
ring-set cells x i (suc n) (suc t) f g =
    let ne : t ≢ x = ⊎_elim (λ l. let h = f l in omega arith) (λ l. omega arith) (cases_lt x (suc t)) in
    let e = get_or-set_other cells x t i 0 ne in
    let more = ring-set cells x i n t (λ l. let h = f (omega arith) in omega arith) (λ l. ⊎_elim (λ b. let h = f b in omega arith) (λ b. let h = g b in omega arith) (cases_lt x (suc t))) in
    cc

-- the cell that lies n before t
abbrev backs : ℕ → ℕ → ℕ
backs zero t = t
backs (suc n) t = backs n (back t)

ring-end : (cells : List ℕ) (n t : ℕ) → ring cells t (suc n) ≡ ring cells t n ++ (get_or cells (back (backs n t)) 0 ∷ [])
ring-end cells zero t = refl
ring-end cells (suc n) t = ap (λ xs. get_or cells (back t) 0 ∷ xs) (ring-end cells n (back t))

pub ring-push : (cells : List ℕ) (t i n : ℕ) → t < 4096 → length cells ≡ 4096 → n < 4096 → ring (set cells t i) (forth t) (suc n) ≡ i ∷ ring cells t n
ring-push cells t i n h size l =
    let here : get_or (set cells t i) t 0 ≡ i = get_or-set_same cells t i 0 (omega arith) in
    let rest : ring (set cells t i) t n ≡ ring cells t n = ring-set cells t i n t (λ x. omega arith) (λ x. omega arith) in
    ap (λ x. get_or (set cells t i) x 0 ∷ ring (set cells t i) x n) (back-forth t) ∙ ap (λ x. x ∷ ring (set cells t i) t n) here ∙ ap (λ xs. i ∷ xs) rest

backs_low : (n t : ℕ) → n ≤ t → backs n t ≡ t - n
backs_low zero t h = omega arith
backs_low (suc n) zero h = absurd (omega arith)
backs_low (suc n) (suc t) h = let e = backs_low n t (omega arith) in omega arith

far_cell : (n : ℕ) → n < 4096 → back (backs n 0) ≡ 4095 - n
far_cell zero h = refl
far_cell (suc n) h = let e = backs_low n 4095 (omega arith) in let f = back-less (backs n 4095) (omega arith) in omega arith

-- one more at the far end, where the ring ends before cell 0
filled : (cells : List ℕ) (i n : ℕ) → n < 4096 → length cells ≡ 4096 → ring (set cells (4095 - n) i) 0 (n + 1) ≡ ring cells 0 n ++ (i ∷ [])
filled cells i n h size =
    let e : n + 1 ≡ suc n = omega arith in
    let here : get_or (set cells (4095 - n) i) (4095 - n) 0 ≡ i = get_or-set_same cells (4095 - n) i 0 (omega arith) in
    let rest : ring (set cells (4095 - n) i) 0 n ≡ ring cells 0 n = ring-set cells (4095 - n) i n 0 (λ x. omega arith) (λ x. omega arith) in
    ap (ring (set cells (4095 - n) i) 0) e
    ∙ ring-end (set cells (4095 - n) i) n 0
    ∙ ap (λ x. ring (set cells (4095 - n) i) 0 n ++ (get_or (set cells (4095 - n) i) x 0 ∷ [])) (far_cell n h)
    ∙ ap (λ x. ring (set cells (4095 - n) i) 0 n ++ (x ∷ [])) here
    ∙ ap (λ xs. xs ++ (i ∷ [])) rest

pub ring-fill : (o : Opens) (i : ℕ) → o.top ≡ 0 → o.count < 4096 → ring (set o.cells (4095 - o.count) i) o.top (o.count + 1) ≡ items o ++ (i ∷ [])
ring-fill o i e h = subst (λ t. ring (set o.cells (4095 - o.count) i) t (o.count + 1) ≡ ring o.cells t o.count ++ (i ∷ [])) (sym e) (filled o.cells i o.count h o.size)

-- the place i was pushed
module _ (was is : Opens) (i : ℕ) (cells : is.cells ≡ set was.cells was.top i) (top : is.top ≡ forth was.top) where
  pushed : (n : ℕ) → n < 4096 → is.count ≡ suc n → items is ≡ i ∷ ring was.cells was.top n
  pushed n l e = ap (λ c. ring c is.top is.count) cells ∙ ap (λ t. ring (set was.cells was.top i) t is.count) top ∙ ap (ring (set was.cells was.top i) (forth was.top)) e ∙ ring-push was.cells was.top i n was.below was.size l

  pub pushed_room : was.count < 4096 → is.count ≡ was.count + 1 → is.complete ≡ was.complete → Pushed was is i
  pushed_room l e c = record {
    kept = items was;
    lost = [];
    all = sym (append-nil (items was));
    items_is = pushed was.count l (omega arith);
    whole = (λ q. (sym c ∙ q, refl), λ q. c ∙ q.0);
    fits = λ h. refl;
    one = omega arith;
  }

  pub pushed-full : 4096 ≤ was.count → is.count ≡ was.count → is.complete ≡ false → Pushed was is i
  pushed-full l e c = record {
    kept = ring was.cells was.top 4095;
    lost = get_or was.cells (back (backs 4095 was.top)) 0 ∷ [];
    all = ap (ring was.cells was.top) (let n : was.count ≡ suc 4095 = omega (arith, was.few) in n) ∙ ring-end was.cells 4095 was.top;
    items_is = pushed 4095 (omega arith) (omega (arith, was.few));
    whole = (λ q. absurd cc, λ q. absurd (let z = ap length q.1 in omega arith));
    fits = λ h. absurd (omega (arith, h, l));
    one = omega arith;
  }

-- the last open rows below top stand at these places, innermost first, and the last of them at low
abbrev pub Links : List Row → ℕ → List ℕ → ℕ → Type 0
Links rows top [] low = low ≡ top
Links rows top (i ∷ is) low = BaseAt rows top i × Links rows i is low

-- one more further down
pub links_more : (rows : List Row) (top : ℕ) (is : List ℕ) (low i : ℕ) → Links rows top is low → BaseAt rows low i → Links rows top (is ++ (i ∷ [])) i
links_more rows top [] low i l b = (subst (λ t. BaseAt rows t i) l b, refl)
links_more rows top (j ∷ js) low i l b = (l.0, links_more rows j js low i l.1 b)

pub links_chain : (rows : List Row) (top : ℕ) (is : List ℕ) (low : ℕ) (b : Bool) → (b ≡ true → NoneOpen rows 0 low) → Links rows top is low → Chain rows top is b
links_chain rows top [] low b f l = λ e. subst (NoneOpen rows 0) l (f e)
links_chain rows top (i ∷ is) low b f l = (l.0, links_chain rows i is low b f l.1)
