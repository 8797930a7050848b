-- The table, place by place, and the sets found, column by column.
use Rattle.std.proofs.Common.{◌≡◌, ℕ, zero, suc, ◌+◌, ◌-◌, ◌*◌, ◌<◌, ◌≤◌, List, ◌++◌, length, get_or, set, sym, ap, ◌∙◌, subst, inl, inr, arith}
use Rattle.std.proofs.lemmas.Bool.{cases_lt, cases_eq}
use Rattle.std.proofs.lemmas.List.{length-append, get_or_append_left, get_or-set_same, get_or-set_other, length-set}
use Rattle.table.specs.Closure.{place, added, tried}
use Rattle.table.specs.Filling.{Filled}
use Rattle.table.proofs.Places.{place-append, added_more}

filled_append : (f : ℕ → ℕ → ℕ) (cols upto : ℕ) (xs ys table : List ℕ) → upto ≤ length xs * 16 → Filled f cols upto xs table → Filled f cols upto (xs ++ ys) table
filled_append f cols upto xs ys table l h = record {
  size = h.size;
  done = λ a b k u.
      let at : get_or (xs ++ ys) a 0 ≡ get_or xs a 0 = get_or_append_left xs ys 0 a (omega arith) in
      h.done a b k u ∙ sym (ap (λ s. place (f s b) (xs ++ ys)) at ∙ place-append (f (get_or xs a 0) b) xs ys (h.found a b k u));
  found = λ a b k u.
      let at : get_or (xs ++ ys) a 0 ≡ get_or xs a 0 = get_or_append_left xs ys 0 a (omega arith) in
      let p = ap (λ s. place (f s b) (xs ++ ys)) at ∙ place-append (f (get_or xs a 0) b) xs ys (h.found a b k u) in
      omega (arith, p, h.found a b k u, length-append xs ys);
  rest = h.rest;
}

pub filled_added : (f : ℕ → ℕ → ℕ) (cols upto : ℕ) (xs table : List ℕ) (x : ℕ) → upto ≤ length xs * 16 → Filled f cols upto xs table → Filled f cols upto (added xs x) table
filled_added f cols upto xs table x l h =
    let m = added_more xs x in
    subst (λ zs. Filled f cols upto zs table) (sym m.1) (filled_append f cols upto xs m.0 table l h)

pub filled_more : (f : ℕ → ℕ → ℕ) (cols i c : ℕ) (xs table : List ℕ) (v : ℕ) → c < cols → cols ≤ 16 → i < 32
    → v ≡ place (f (get_or xs i 0) c) xs → v < length xs → Filled f cols (i * 16 + c) xs table → Filled f cols (i * 16 + (c + 1)) xs (set table (i * 16 + c) v)
filled_more f cols i c xs table v cl w il e vl h = record {
  size = length-set table (i * 16 + c) v ∙ h.size;
  done = λ a b k u. elim (cases_lt (a * 16 + b) (i * 16 + c)) [
    | inl l ↦ get_or-set_other table (i * 16 + c) (a * 16 + b) v 0 (λ q. omega arith) ∙ h.done a b k l
    | inr l ↦
        let p : a * 16 + b ≡ i * 16 + c = omega arith in
        let q : i ≡ a = omega arith in
        let r : c ≡ b = omega arith in
        ap (λ n. get_or (set table (i * 16 + c) v) n 0) p ∙ get_or-set_same table (i * 16 + c) v 0 (omega (arith, h.size)) ∙ e ∙ ap (λ n. place (f (get_or xs n 0) c) xs) q ∙ ap (λ n. place (f (get_or xs a 0) n) xs) r
  ];
  found = λ a b k u. elim (cases_lt (a * 16 + b) (i * 16 + c)) [
    | inl l ↦ h.found a b k l
    | inr l ↦
        let q : i ≡ a = omega arith in
        let r : c ≡ b = omega arith in
        omega (arith, e, ap (λ n. place (f (get_or xs n 0) c) xs) q, ap (λ n. place (f (get_or xs a 0) n) xs) r)
  ];
  rest = λ a b al bl u.
      let old : b < cols → i * 16 + c ≤ a * 16 + b = λ k. omega (arith, u k) in
      elim (cases_eq (a * 16 + b) (i * 16 + c)) [
        | inl q ↦ let r : b ≡ c = omega arith in absurd (omega (arith, u (omega arith)))
        | inr q ↦ get_or-set_other table (i * 16 + c) (a * 16 + b) v 0 q ∙ h.rest a b al bl old
      ];
}

pub filled_row : (f : ℕ → ℕ → ℕ) (cols i : ℕ) (xs table : List ℕ) → cols ≤ 16 → Filled f cols (i * 16 + cols) xs table → Filled f cols ((i + 1) * 16) xs table
filled_row f cols i xs table w h = record {
  size = h.size;
  done = λ a b k u. h.done a b k (omega arith);
  found = λ a b k u. h.found a b k (omega arith);
  rest = λ a b al bl u. h.rest a b al bl (λ k. omega (arith, u k));
}

pub tried-more : (f : ℕ → ℕ → ℕ) (s c n : ℕ) (xs : List ℕ) → c < n → tried f s c (n - c) xs ≡ tried f s (c + 1) (n - (c + 1)) (added xs (f s c))
tried-more f s c n xs h = let e : n - c ≡ suc (n - (c + 1)) = omega arith in ap (λ k. tried f s c k xs) e

pub tried-all : (f : ℕ → ℕ → ℕ) (s c n : ℕ) (xs : List ℕ) → n ≤ c → tried f s c (n - c) xs ≡ xs
tried-all f s c n xs h = let e : n - c ≡ 0 = omega arith in ap (λ k. tried f s c k xs) e

pub added-grows : (xs : List ℕ) (x : ℕ) → length xs ≤ length (added xs x)
added-grows xs x = let m = added_more xs x in omega (arith, ap length m.1, length-append xs m.0)

pub tried-grows : (f : ℕ → ℕ → ℕ) (s c n : ℕ) (xs : List ℕ) → length xs ≤ length (tried f s c n xs)
tried-grows f s c zero xs = omega arith
tried-grows f s c (suc n) xs = omega (arith, added-grows xs (f s c), tried-grows f s (c + 1) n (added xs (f s c)))

pub added-keeps : (xs : List ℕ) (x i : ℕ) → i < length xs → get_or (added xs x) i 0 ≡ get_or xs i 0
added-keeps xs x i l = let m = added_more xs x in ap (λ zs. get_or zs i 0) m.1 ∙ get_or_append_left xs m.0 0 i l
