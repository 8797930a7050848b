-- What picking rows by the bits of a set keeps, whatever the width.
use Rattle.std.proofs.Common.{◌≡◌, ℕ, zero, suc, ◌+◌, ◌-◌, ◌*◌, ◌/◌, ◌%◌, ◌^◌, ◌<◌, ◌≤◌, Bool, true, false, cond, ◌||◌, eqb, List, [], ◌∷◌, map, length, get_or, sym, refl, ap, ◌∙◌, subst, ap₂, mul_assoc, mul_comm, add-mul, pow-suc, zero-mul, arith}
use lib.Bits.{bit_or, or_shr, or_self, or_zero_r, or_lt, or_shifted_r}
use lib.Count.{count_trailing_zeros, under}
use lib.ListN.{length-map}
use Rattle.std.specs.List.{range_with_len}
use Rattle.std.proofs.lemmas.Nat.{pow_pos}
use Rattle.std.proofs.lemmas.List.{get_or-map}
use Rattle.machine.specs.Masks.{moved}
use Rattle.positions.specs.Tabs.{tab, length_tab, get_or-tab, is_tab}
use Rattle.positions.specs.Sets.{picked}
use Rattle.positions.proofs.Unions.{odd-or, or_assoc, swapped, moved-or}

pub picked-zero : (xs : List ℕ) → picked 0 xs ≡ 0
picked-zero [] = refl
picked-zero (x ∷ xs) = picked-zero xs

one_of : (p q : Bool) (x : ℕ) → cond (p || q) x 0 ≡ bit_or (cond p x 0) (cond q x 0)
one_of true true x = sym (or_self x)
one_of true false x = sym (or_zero_r x)
one_of false true x = refl
one_of false false x = refl

pub picked-or : (a b : ℕ) (xs : List ℕ) → picked (bit_or a b) xs ≡ bit_or (picked a xs) (picked b xs)
picked-or a b [] = refl
picked-or a b (x ∷ xs) =
    ap₂ bit_or (ap (λ t. cond t x 0) (odd-or a b) ∙ one_of (eqb (a % 2) 1) (eqb (b % 2) 1) x) (ap (λ r. picked r xs) (or_shr a b 1) ∙ picked-or (a / 2) (b / 2) xs)
    ∙ swapped (cond (eqb (a % 2) 1) x 0) (cond (eqb (b % 2) 1) x 0) (picked (a / 2) xs) (picked (b / 2) xs)

-- what takes unions to unions takes the picked rows to those picked from its rows
module _ (g : ℕ → ℕ) (none : g 0 ≡ 0) (union : (a b : ℕ) → g (bit_or a b) ≡ bit_or (g a) (g b)) where
  linear-cond : (t : Bool) (x : ℕ) → g (cond t x 0) ≡ cond t (g x) 0
  linear-cond true x = refl
  linear-cond false x = none

  pub picked-linear : (s : ℕ) (xs : List ℕ) → g (picked s xs) ≡ picked s (map g xs)
  picked-linear s [] = none
  picked-linear s (x ∷ xs) =
      union (cond (eqb (s % 2) 1) x 0) (picked (s / 2) xs)
      ∙ ap₂ bit_or (linear-cond (eqb (s % 2) 1) x) (picked-linear (s / 2) xs)

pub picked-picked : (s : ℕ) (xs ys : List ℕ) → picked (picked s xs) ys ≡ picked s (map (λ x. picked x ys) xs)
picked-picked s xs ys = picked-linear (λ x. picked x ys) (picked-zero ys) (λ a b. picked-or a b ys) s xs

-- the row of a single bit
pub picked-bit : (k : ℕ) (xs : List ℕ) → picked (2 ^ k) xs ≡ get_or xs k 0
picked-bit k [] = refl
picked-bit zero (x ∷ xs) = ap (bit_or x) (picked-zero xs) ∙ or_zero_r x
picked-bit (suc k) (x ∷ xs) =
    let p = pow-suc 2 k in
    let even : 2 ^ suc k % 2 ≡ 0 = omega arith in
    let half : 2 ^ suc k / 2 ≡ 2 ^ k = omega arith in
    ap₂ (λ r h. bit_or (cond (eqb r 1) x 0) (picked h xs)) even half ∙ picked-bit k xs

pub picked-lt : (w s : ℕ) (xs : List ℕ) → ((k : ℕ) → k < length xs → get_or xs k 0 < 2 ^ w) → picked s xs < 2 ^ w
picked-lt w s [] low = pow_pos w
picked-lt w s (x ∷ xs) low =
    or_lt w (cond (eqb (s % 2) 1) x 0) (picked (s / 2) xs) (first (eqb (s % 2) 1)) (picked-lt w (s / 2) xs (λ k h. low (suc k) (omega arith)))
  where
    first : (t : Bool) → cond t x 0 < 2 ^ w
    first true = low 0 (omega arith)
    first false = pow_pos w

digit : (s : ℕ) (x : ℕ) → cond (eqb (s % 2) 1) x 0 ≡ s % 2 * x
digit s x = go (s % 2) (omega arith)
  where
    go : (d : ℕ) → d < 2 → cond (eqb d 1) x 0 ≡ d * x
    go zero h = omega arith
    go (suc zero) h = omega arith
    go (suc (suc d)) h = absurd (omega arith)

powers_from : (n a s : ℕ) → s < 2 ^ n → picked s (map (λ k. 2 ^ k) (range_with_len a n)) ≡ s * 2 ^ a
powers_from zero a s h = let z : s ≡ 0 = omega arith in sym (ap (λ x. x * 2 ^ a) z ∙ zero-mul (2 ^ a))
powers_from (suc n) a s h =
    let p = pow-suc 2 n in
    let q : 2 ^ (a + 1) ≡ 2 ^ a * 2 = ap (λ k. 2 ^ k) (let e : a + 1 ≡ suc a = omega arith in e) ∙ pow-suc 2 a in
    let low : s % 2 * 2 ^ a < 2 ^ (a + 1) = small (s % 2) (omega arith) q in
    ap₂ bit_or (digit s (2 ^ a)) (powers_from n (a + 1) (s / 2) (omega arith))
    ∙ or_shifted_r (s / 2) (a + 1) (s % 2 * 2 ^ a) low
    ∙ ap (λ x. s / 2 * x + s % 2 * 2 ^ a) q
    ∙ whole
  where
    small : (d : ℕ) → d < 2 → 2 ^ (a + 1) ≡ 2 ^ a * 2 → d * 2 ^ a < 2 ^ (a + 1)
    small zero h q = omega (arith, pow_pos a, pow_pos (a + 1))
    small (suc zero) h q = omega (arith, pow_pos a)
    small (suc (suc d)) h q = absurd (omega arith)

    regroup : (d e x : ℕ) → d * (x * 2) + e * x ≡ (d * 2 + e) * x
    regroup d e x = ap (λ y. d * y + e * x) (mul_comm x 2) ∙ ap (λ y. y + e * x) (sym (mul_assoc d 2 x)) ∙ sym (add-mul (d * 2) e x)

    whole : s / 2 * (2 ^ a * 2) + s % 2 * 2 ^ a ≡ s * 2 ^ a
    whole = regroup (s / 2) (s % 2) (2 ^ a) ∙ ap (λ x. x * 2 ^ a) (let e : s / 2 * 2 + s % 2 ≡ s = omega arith in e)

-- each bit's own row
pub picked-powers : (n s : ℕ) → s < 2 ^ n → picked s (tab (λ k. 2 ^ k) n) ≡ s
unfolding tab
picked-powers n s h = powers_from n 0 s h ∙ omega arith

-- the lowest bit of a number that is not 0, at its place t, and the rest above it
pub record Lowest (k n t : ℕ) : Type 0 where
  pub inside : t < k
  pub above : ℕ
  pub split : n ≡ above * 2 ^ suc t + 2 ^ t

pub lowest : (k n : ℕ) → 0 < n → n < 2 ^ k → Lowest k n (count_trailing_zeros k n)
unfolding count_trailing_zeros
lowest zero n p h = absurd (omega arith)
lowest (suc k) n p h = go (λ e. lowest k (n / 2) (omega arith) (let q = pow-suc 2 k in omega arith)) (n % 2) refl
  where
    go : (n % 2 ≡ 0 → Lowest k (n / 2) (count_trailing_zeros k (n / 2))) → (d : ℕ) → n % 2 ≡ d → Lowest (suc k) n (under d (count_trailing_zeros k (n / 2)))
    go half zero e =
        let low = half e in
        let t = count_trailing_zeros k (n / 2) in
        record {
          inside = omega (arith, low.inside);
          above = low.above;
          split =
              let p = pow-suc 2 t in
              let q = pow-suc 2 (suc t) in
              let s = low.split in
              let m = mul_assoc low.above (2 ^ suc t) 2 in
              let n2 : n ≡ n / 2 * 2 = omega arith in
              n2 ∙ ap (λ x. x * 2) s ∙ add-mul (low.above * 2 ^ suc t) (2 ^ t) 2 ∙ ap₂ ◌+◌ (m ∙ ap (λ x. low.above * x) (sym q)) (sym p);
        }
    go half (suc d) e = record { inside = omega arith; above = n / 2; split = omega arith }

-- one row more, by the lowest bit
pub picked-lowest : (k n t : ℕ) (xs : List ℕ) → Lowest k n t → picked n xs ≡ bit_or (get_or xs t 0) (picked (n - 2 ^ t) xs)
picked-lowest k n t xs low =
    let u = low.above * 2 ^ suc t in
    let below : 2 ^ t < 2 ^ suc t = omega (arith, pow-suc 2 t, pow_pos t) in
    let parts : bit_or (2 ^ t) u ≡ n = or_shifted_r low.above (suc t) (2 ^ t) below ∙ sym low.split in
    let rest : u ≡ n - 2 ^ t = omega (arith, low.split) in
    ap (λ x. picked x xs) (sym parts) ∙ picked-or (2 ^ t) u xs ∙ ap₂ bit_or (picked-bit t xs) (ap (λ x. picked x xs) rest)

pub lowest_le : (k n t : ℕ) → Lowest k n t → 2 ^ t ≤ n
lowest_le k n t low = omega (arith, low.split)

-- a turn of a loop that picks row by row
pub pick_more : (k got left total t bit : ℕ) (xs : List ℕ) → Lowest k left t → bit ≡ 2 ^ t → bit_or got (picked left xs) ≡ total
    → bit_or (bit_or got (get_or xs t 0)) (picked (left - bit) xs) ≡ total
pick_more k got left total t bit xs low b e =
    or_assoc got (get_or xs t 0) (picked (left - bit) xs)
    ∙ ap (λ x. bit_or got (bit_or (get_or xs t 0) (picked (left - x) xs))) b
    ∙ ap (bit_or got) (sym (picked-lowest k left t xs low))
    ∙ e

map-tab : (g f : ℕ → ℕ) (n : ℕ) → map g (tab f n) ≡ tab (λ k. g (f k)) n
map-tab g f n =
    is_tab (λ k. g (f k)) (map g (tab f n)) n 0 (length-map (tab f n) g ∙ length_tab f n)
    (λ k h. get_or-map g (tab f n) k 0 0 (subst (λ m. k < m) (sym (length_tab f n)) h) ∙ ap g (get_or-tab f n k 0 h))

-- the rows to which single positions move, picked by a set
pub picked-moved : (n fits stays s : ℕ) → s < 2 ^ n → picked s (tab (λ k. moved fits stays (2 ^ k)) n) ≡ moved fits stays s
picked-moved n fits stays s h =
    ap (picked s) (sym (map-tab (moved fits stays) (λ k. 2 ^ k) n))
    ∙ sym (picked-linear (moved fits stays) refl (moved-or fits stays) s (tab (λ k. 2 ^ k) n))
    ∙ ap (moved fits stays) (picked-powers n s h)

-- rows picked from rows that were picked
pub picked-joined : (n s : ℕ) (xs ys : List ℕ) → length xs ≡ n → picked (picked s xs) ys ≡ picked s (tab (λ k. picked (get_or xs k 0) ys) n)
picked-joined n s xs ys e =
    picked-picked s xs ys
    ∙ ap (picked s) (is_tab (λ k. picked (get_or xs k 0) ys) (map (λ x. picked x ys) xs) n 0 (length-map xs (λ x. picked x ys) ∙ e)
    (λ k h. get_or-map (λ x. picked x ys) xs k 0 0 (subst (λ m. k < m) (sym e) h)))
