-- Lists that are made from a function of the index.
use Rattle.std.specs.Prelude.{◌≡◌, ℕ, zero, suc, ◌+◌, ◌<◌, ◌≤◌, List, map, length, get_or, slice_index, slice_index_or, slice_set}
use Rattle.std.proofs.Common.{sym, ap, ◌∙◌, subst, inl, inr, arith}
use mathlib.Core.Path.{PathP}
use mathlib.Core.HLevel.{is_prop→PathP}
use std.HLevel.{Π_prop}
use Rattle.std.proofs.Math.Bridge.{le_prop}
use base.Stored.{Coded-set, coded_ℕ}
use denote.Param.Members.{Mut, Called}
use Rattle.std.specs.Array.{IsFromFnResultFrom, IsFromFnResult}
use Rattle.std.specs.List.{range_with_len}
use Rattle.std.proofs.lemmas.Bool.{cases_eq}
use Rattle.std.proofs.lemmas.List.{length-set}
use Rattle.std.proofs.lemmas.List.Edits.{fill_by_more}
use Rattle.std.proofs.lemmas.List.FromFn.{length-map-range_with_len, get_or-map-range_with_len, fill_by_all}

-- the list of f 0, f 1, .. f (n - 1); shut, since at a numeral n it would compute to n elements in every goal
unfoldable pub tab : {X : Type 0} → (ℕ → X) → ℕ → List X
tab f n = map f (range_with_len 0 n)

pub length_tab : {X : Type 0} (f : ℕ → X) (n : ℕ) → length (tab f n) ≡ n
unfolding tab
length_tab f n = length-map-range_with_len f 0 n

pub get_or-tab : {X : Type 0} (f : ℕ → X) (n k : ℕ) (d : X) → k < n → slice_index_or (tab f n) k d ≡ f k
unfolding tab
get_or-tab f n k d h = get_or-map-range_with_len f 0 n k k d h (omega arith)

-- a list that has f k at each place k
pub is_tab : {X : Type 0} (f : ℕ → X) (xs : List X) (n : ℕ) (d : X) → length xs ≡ n → ((k : ℕ) → k < n → slice_index_or xs k d ≡ f k) → xs ≡ tab f n
unfolding tab
is_tab f xs n d size at = fill_by_all f xs n d size at

pub tab_is : {X : Type 0} (f : ℕ → X) (xs : List X) (n : ℕ) (d : X) → length xs ≡ n → ((k : ℕ) → k < n → f k ≡ slice_index_or xs k d) → tab f n ≡ xs
tab_is f xs n d size at = sym (is_tab f xs n d size (λ k h. sym (at k h)))

pub tab_same : {X : Type 0} (f g : ℕ → X) (n : ℕ) (d : X) → ((k : ℕ) → k < n → f k ≡ g k) → tab f n ≡ tab g n
tab_same f g n d same = is_tab g (tab f n) n d (length_tab f n) (λ k h. get_or-tab f n k d h ∙ same k h)

-- a turn of a loop that writes f k at each place k
pub filled_more : {X : Type 0} (f : ℕ → X) (xs : List X) (n i : ℕ) (v d : X) → i < n → v ≡ f i → (length xs ≡ n) × ((k : ℕ) → k < i → slice_index_or xs k d ≡ f k)
    → (length (slice_set xs i v) ≡ n) × ((k : ℕ) → k < i + 1 → slice_index_or (slice_set xs i v) k d ≡ f k)
filled_more f xs n i v d l e h = (
  length-set xs i v ∙ h.0,
  λ k b. ap (λ x. get_or (slice_set xs i x) k d) e ∙ fill_by_more f xs i d (omega (arith, h.0)) h.1 k b,
)

-- the length of a list, and a bound on its elements, along an equation
pub length-along : (n : ℕ) {xs ys : List ℕ} (e : xs ≡ ys) (p : length xs ≡ n) (q : length ys ≡ n) → PathP (λ k. length (e k) ≡ n) p q
length-along n e p q = is_prop→PathP (λ k. length (e k) ≡ n) (λ k. Coded-set coded_ℕ _ _) p q

pub bound-along : (n b : ℕ) {xs ys : List ℕ} (e : xs ≡ ys) (p : (k : ℕ) → k < n → slice_index xs k < b) (q : (k : ℕ) → k < n → slice_index ys k < b)
    → PathP (λ i. (k : ℕ) → k < n → slice_index (e i) k < b) p q
bound-along n b e p q = is_prop→PathP (λ i. (k : ℕ) → k < n → slice_index (e i) k < b) (λ i. Π_prop (λ k. Π_prop (λ h. le_prop))) p q

-- the array of what a closure gives at each index, where a call leaves the closure as it was
module _ {F X : Type 0} (g : Mut F (ℕ × Unit {0}) X) (f : F) (h : ℕ → X) (n : ℕ)
    (call : (i : ℕ) (x : X) (q : F) → i < n → Called g f (i, tt) x q → (q ≡ f) × (x ≡ h i)) where
  gives_at : (xs : List X) (d : X) (i m k : ℕ) → i + m ≡ n → i ≤ k → k < n → IsFromFnResultFrom g f xs i m → slice_index_or xs k d ≡ h k
  gives_at xs d i zero k e l u c = absurd (omega arith)
  gives_at xs d i (suc m) k e l u c =
      let t = call i c.1 c.0 (omega arith) c.3 in
      elim (cases_eq i k) [
        | inl s ↦ subst (λ j. slice_index_or xs j d ≡ h j) s (c.2.1 d ∙ t.1)
        | inr s ↦ gives_at xs d (i + 1) m k (omega arith) (omega arith) u (subst (λ q. IsFromFnResultFrom g q xs (i + 1) m) t.0 c.4)
      ]

  pub from_fn-tab : (xs : List X) (d : X) → IsFromFnResult g f xs n → xs ≡ tab h n
  from_fn-tab xs d r = is_tab h xs n d r.long (λ k l. gives_at xs d 0 n k (omega arith) (omega arith) l r.each)
