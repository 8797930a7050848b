-- The lines, one by one.
use Rattle.std.proofs.Common.{◌≡◌, ℕ, zero, suc, ◌+◌, ◌-◌, ◌<◌, ◌≤◌, cond, ltb, ◌&&◌, List, [], ◌∷◌, length, get_or, sym, refl, ◌∙◌, subst, inl, inr, arith}
use Rattle.std.proofs.lemmas.List.{get_or_past}
use Rattle.std.proofs.lemmas.Bool.{cases_lt}
use Rattle.std.proofs.lemmas.Bool.Decides.{nat_tests}
use Rattle.machine.specs.Queries.{Query, ends, size}
use Rattle.positions.specs.Tabs.{tab, length_tab, get_or-tab}
use Rattle.positions.specs.Sets.{firsts}
use Rattle.positions.specs.Verdicts.{begun}

-- the first and the last position of the query q, as code finds them, and 0 where there is no such query
abbrev pub first_of : List ℕ → ℕ → ℕ
first_of lasts q = cond (ltb 0 q && ltb q (length lasts)) (get_or lasts (q - 1) 0 + 1) 0

abbrev pub last_of : List ℕ → ℕ → ℕ
last_of lasts q = cond (ltb q (length lasts)) (get_or lasts q 0) 0

pub first_is : (lasts : List ℕ) (q : ℕ) → q < length lasts → first_of lasts q ≡ begun lasts q
first_is lasts zero l = refl
first_is lasts (suc q) l = grind (arith, nat_tests)

first_none : (lasts : List ℕ) (q : ℕ) → length lasts ≤ q → first_of lasts q ≡ 0
first_none lasts q l = grind (arith, nat_tests)

pub last_is : (lasts : List ℕ) (q : ℕ) → q < length lasts → last_of lasts q ≡ get_or lasts q 0
last_is lasts q l = grind (arith, nat_tests)

last_none : (lasts : List ℕ) (q : ℕ) → length lasts ≤ q → last_of lasts q ≡ 0
last_none lasts q l = grind (arith, nat_tests)

begun-low : (xs : List ℕ) (q : ℕ) → ((k : ℕ) → k < length xs → get_or xs k 0 < 32) → ((k : ℕ) → k + 1 < length xs → get_or xs k 0 < get_or xs (k + 1) 0) → q < length xs → begun xs q < 32
begun-low xs zero low rising l = omega arith
begun-low xs (suc q) low rising l = omega (arith, rising q (omega arith), low (q + 1) (omega arith))

-- of a function that is v below n and 0 from there on, and so is the array of its values at eight places
module _ (f v : ℕ → ℕ) (n : ℕ) (few : n ≤ 8) (is : (k : ℕ) → k < n → f k ≡ v k) (none : (k : ℕ) → n ≤ k → f k ≡ 0) where
  pub line_at : (k : ℕ) → k < n → get_or (tab f 8) k 0 ≡ v k
  line_at k l = get_or-tab f 8 k 0 (omega arith) ∙ is k l

  pub line_rest : (k : ℕ) → n ≤ k → get_or (tab f 8) k 0 ≡ 0
  line_rest k l = elim (cases_lt k 8) [
    | inl h ↦ get_or-tab f 8 k 0 h ∙ none k l
    | inr h ↦ get_or_past (tab f 8) k 0 (omega (arith, length_tab f 8))
  ]

  pub line_lt : ((k : ℕ) → k < n → v k < 32) → (k : ℕ) → get_or (tab f 8) k 0 < 32
  line_lt low k = elim (cases_lt k n) [
    | inl h ↦ omega (arith, line_at k h, low k h)
    | inr h ↦ omega (arith, line_rest k h)
  ]

-- where each query begins and ends, in eight places
pub record Lining (lasts begins ends : List ℕ) : Type 0 where
  pub begin : (k : ℕ) → get_or begins k 0 < 32
  pub end : (k : ℕ) → get_or ends k 0 < 32
  pub first : (k : ℕ) → k < length lasts → get_or begins k 0 ≡ begun lasts k
  pub last : (k : ℕ) → k < length lasts → get_or ends k 0 ≡ get_or lasts k 0
  pub rest : (k : ℕ) → length lasts ≤ k → (get_or begins k 0 ≡ 0) × (get_or ends k 0 ≡ 0)

pub lining : (lasts begins ends : List ℕ) → length lasts ≤ 8 → ((k : ℕ) → k < length lasts → get_or lasts k 0 < 32)
    → ((k : ℕ) → k + 1 < length lasts → get_or lasts k 0 < get_or lasts (k + 1) 0) → begins ≡ tab (first_of lasts) 8 → ends ≡ tab (last_of lasts) 8 → Lining lasts begins ends
lining xs begins ends few low rising b e =
    let n = length xs in
    subst (λ l. Lining xs l ends) (sym b) (subst (Lining xs (tab (first_of xs) 8)) (sym e) (record {
      begin = line_lt (first_of xs) (begun xs) n few (first_is xs) (first_none xs) (λ k. begun-low xs k low rising);
      end = line_lt (last_of xs) (λ k. get_or xs k 0) n few (last_is xs) (last_none xs) low;
      first = line_at (first_of xs) (begun xs) n few (first_is xs) (first_none xs);
      last = line_at (last_of xs) (λ k. get_or xs k 0) n few (last_is xs) (last_none xs);
      rest = λ k l. (line_rest (first_of xs) (begun xs) n few (first_is xs) (first_none xs) k l, line_rest (last_of xs) (λ k. get_or xs k 0) n few (last_is xs) (last_none xs) k l);
    }))

pub ends_low : (o k : ℕ) (qs : List Query) → k < length qs → get_or (ends o qs) k 0 < o + size qs
ends_low o k [] l = absurd (omega arith)
ends_low o zero (q ∷ qs) l = omega arith
ends_low o (suc k) (q ∷ qs) l = omega (arith, ends_low (o + length q + 1) k qs (omega arith))

ends-first : (o : ℕ) (qs : List Query) → 0 < length qs → o ≤ get_or (ends o qs) 0 0
ends-first o [] l = absurd (omega arith)
ends-first o (q ∷ qs) l = omega arith

pub ends-rise : (o k : ℕ) (qs : List Query) → suc k < length qs → get_or (ends o qs) k 0 < get_or (ends o qs) (suc k) 0
ends-rise o k [] l = absurd (omega arith)
ends-rise o zero (q ∷ qs) l = omega (arith, ends-first (o + length q + 1) qs (omega arith))
ends-rise o (suc k) (q ∷ qs) l = ends-rise (o + length q + 1) k qs (omega arith)

after_last : (o k : ℕ) (qs : List Query) → suc k < length qs → get_or (ends o qs) k 0 + 1 ≡ get_or (firsts o qs) (suc k) 0
after_last o k [] l = absurd (omega arith)
after_last o zero (q ∷ []) l = absurd (omega arith)
after_last o zero (q ∷ r ∷ qs) l = refl
after_last o (suc k) (q ∷ qs) l = after_last (o + length q + 1) k qs (omega arith)

-- a query begins after the one before it
pub begun-is : (k : ℕ) (qs : List Query) → k < length qs → begun (ends 0 qs) k ≡ get_or (firsts 0 qs) k 0
begun-is zero [] l = absurd (omega arith)
begun-is zero (q ∷ qs) l = refl
begun-is (suc k) qs l = after_last 0 k qs l
