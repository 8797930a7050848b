-- Sets of positions, one position at a time.
use Rattle.std.proofs.Common.{◌≡◌, ℕ, zero, suc, ◌+◌, ◌-◌, ◌*◌, ◌/◌, ◌%◌, ◌^◌, ◌<◌, ◌≤◌, Bool, true, false, cond, ◌&&◌, ◌||◌, eqb, ◌⊎◌, List, [], ◌∷◌, ◌++◌, map, length, get_or, replicate, Decides, sym, refl, ap, ◌∙◌, subst, inl, inr, pow-suc, arith}
use native.Mathlib.Nat.{zero-div}
use lib.Bits.{bit_and, bit_or, and_shr, or_shr}
use lib.ListN.{length-map}
use Rattle.std.proofs.lemmas.List.{get_or_append_left, get_or-append_right, get_or_past, get_or-replicate, length-replicate}
use Rattle.std.proofs.lemmas.Bool.{cases_lt, both_ways, true≢false}
use Rattle.std.proofs.lemmas.Bool.Decides.{Decides-at, Decides-like, Decides-and, Decides-or}
use Rattle.machine.specs.declared.position.Position.{Position}
use Rattle.machine.specs.declared.position.Position.TheVariants.{End}
use Rattle.machine.specs.Queries.{fits_at, deep_at}
use Rattle.machine.specs.Masks.{has, moved, fit_mask, deep_mask}
use Rattle.positions.specs.Tabs.{get_or-tab}
use Rattle.positions.specs.Sets.{picked, moved_on, rest_mask, fit_masks}
use Rattle.positions.specs.Leading.{MovesByPosition, RestsByPosition, PicksByPosition, MasksByPosition, ColumnsFit}
use Rattle.positions.proofs.Digits.{shifted_more, has-mask}
use Rattle.positions.proofs.Unions.{odd-and, odd-or}
use Rattle.positions.proofs.Columns.{fits-same, deep_same}
use Rattle.positions.proofs.Telling.{no}

same : (b : Bool) → Decides b (b ≡ true)
same b = (λ e. e, λ e. e)

has-or : (a b j : ℕ) → has (bit_or a b) j ≡ (has a j || has b j)
has-or a b j = ap (λ x. eqb (x % 2) 1) (or_shr a b j) ∙ odd-or (a / 2 ^ j) (b / 2 ^ j)

has-and : (a b j : ℕ) → has (bit_and a b) j ≡ (has a j && has b j)
has-and a b j = ap (λ x. eqb (x % 2) 1) (and_shr a b j) ∙ odd-and (a / 2 ^ j) (b / 2 ^ j)

has-none : (j : ℕ) → has 0 j ≡ false
has-none j = ap (λ x. eqb (x % 2) 1) (zero-div (2 ^ j))

has_first : (n d : ℕ) → n % 2 ≡ d → has n 0 ≡ eqb d 1
has_first n d e = ap (λ x. eqb x 1) (let z : n / 2 ^ 0 % 2 ≡ d = omega arith in z)

has-next : (n m j : ℕ) → n / 2 ≡ m → has n (suc j) ≡ has m j
has-next n m j e = ap (λ x. eqb (x % 2) 1) (shifted_more n j ∙ ap (λ x. x / 2 ^ j) e)

-- a set moves as its positions lead: to the next one where P, to themselves where Q
module _ (P Q : ℕ → Type 0) (fits stays set : ℕ) (nexts : (i : ℕ) → Decides (has fits i) (P i)) (stay : (i : ℕ) → Decides (has stays i) (Q i)) where
  staying : (j : ℕ) → Decides (has (bit_and set stays) j) ((has set j ≡ true) × Q j)
  staying j = Decides-at _ _ (has-and set stays j) (Decides-and (has set j) (has stays j) (same (has set j)) (stay j))

  leading : (j : ℕ) → Decides (has (bit_and set fits * 2) j) ((i : ℕ) × (j ≡ i + 1) × (has set i ≡ true) × P i)
  leading zero = no _ (λ h. omega (arith, h.1)) (has (bit_and set fits * 2) 0) (has_first (bit_and set fits * 2) 0 (omega arith))
  leading (suc j) =
      Decides-like (has (bit_and set fits * 2) (suc j))
      (λ h. (j, omega arith, h.0, h.1))
      (λ h. subst (λ i. (has set i ≡ true) × P i) (let z : h.0 ≡ j = omega (arith, h.1) in z) (h.2, h.3))
      (Decides-at _ _ (has-next (bit_and set fits * 2) (bit_and set fits) j (omega arith) ∙ has-and set fits j) (Decides-and (has set j) (has fits j) (same (has set j)) (nexts j)))

  moved-tells : (j : ℕ) → Decides (has (moved fits stays set) j) ((i : ℕ) × (has set i ≡ true) × (((j ≡ i + 1) × P i) ⊎ ((j ≡ i) × Q i)))
  moved-tells j =
      Decides-like (has (moved fits stays set) j)
      (λ h. elim h [
        | inl w ↦ (w.0, w.2, inl (w.1, w.3))
        | inr w ↦ (j, w.0, inr (refl, w.1))
      ])
      (λ h. elim h.2 [
        | inl w ↦ inl (h.0, w.0, h.1, w.1)
        | inr w ↦ inr (subst (λ i. (has set i ≡ true) × Q i) (sym w.0) (h.1, w.1))
      ])
      (Decides-at _ _ (has-or (bit_and set fits * 2) (bit_and set stays) j) (Decides-or (has (bit_and set fits * 2) j) (has (bit_and set stays) j) (leading j) (staying j)))

-- a test of the positions, as a mask
listed : (f : Position → Bool) (ps : List Position) (i : ℕ) → f End ≡ false → get_or (map f ps) i false ≡ f (get_or ps i End)
listed f [] i e = sym e
listed f (p ∷ ps) zero e = refl
listed f (p ∷ ps) (suc i) e = listed f ps i e

fit_tells : (ps : List Position) (c i : ℕ) → Decides (has (fit_mask ps c) i) (fits_at (get_or ps i End) c ≡ true)
fit_tells ps c i = Decides-at _ _ (has-mask (map (λ p. fits_at p c) ps) i ∙ listed (λ p. fits_at p c) ps i refl) (same (fits_at (get_or ps i End) c))

deep_tells : (ps : List Position) (i : ℕ) → Decides (has (deep_mask ps) i) (deep_at (get_or ps i End) ≡ true)
deep_tells ps i = Decides-at _ _ (has-mask (map deep_at ps) i ∙ listed deep_at ps i refl) (same (deep_at (get_or ps i End)))

rest_tells : (n : ℕ) (ps : List Position) (i : ℕ) → Decides (has (rest_mask n ps) i) ((deep_at (get_or ps i End) ≡ true) ⊎ ((length ps ≤ i) × (i < n)))
rest_tells n ps i =
    let bs = map deep_at ps in
    let rest = replicate (n - length ps) true in
    let long : length bs ≡ length ps = length-map ps deep_at in
    Decides-at _ _ (has-mask (bs ++ rest) i) (elim (cases_lt i (length ps)) [
      | inl l ↦ Decides-at _ _ (get_or_append_left bs rest false i (omega arith) ∙ listed deep_at ps i refl)
          (λ e. inl e, λ h. elim h [ inl e ↦ e | inr w ↦ absurd (omega (arith, w.0)) ])
      | inr l ↦ Decides-at _ _ (get_or-append_right bs rest (length ps) i false long l) (elim (cases_lt i n) [
        | inl m ↦ (λ _. inr (l, m), λ _. get_or-replicate (n - length ps) (i - length ps) true false (omega arith))
        | inr m ↦ no _ (λ h. elim h [ inl e ↦ true≢false (sym e ∙ ap deep_at (get_or_past ps i End l)) | inr w ↦ omega (arith, w.1) ])
            _ (get_or_past rest (i - length ps) false (omega (arith, length-replicate (n - length ps) true)))
      ])
    ])

on_column : (ps : List Position) (stays set c j : ℕ) → c < 16 → has (moved_on (fit_masks ps) stays set c) j ≡ has (moved (fit_mask ps c) stays set) j
unfolding moved_on
on_column ps stays set c j h = ap (λ x. has (moved x stays set) j) (get_or-tab (fit_mask ps) 16 c 0 h)

pub moves_by_position : MovesByPosition
moves_by_position ps set c j h = Decides-at _ _ (on_column ps (deep_mask ps) set c j h) (moved-tells _ _ (fit_mask ps c) (deep_mask ps) set (fit_tells ps c) (deep_tells ps) j)

pub rests_by_position : RestsByPosition
rests_by_position n ps set c j h =
    Decides-like (has (moved_on (fit_masks ps) (rest_mask n ps) set c) j)
    (λ w. (
      w.0,
      w.1,
      elim w.2 [
        | inl x ↦ inl (inl x)
        | inr x ↦ elim x.1 [ inl d ↦ inl (inr (x.0, d)) | inr r ↦ inr (x.0, r.0, r.1) ]
      ],
    ))
    (λ w. (
      w.0,
      w.1,
      elim w.2 [
        | inl x ↦ elim x [ inl y ↦ inl y | inr y ↦ inr (y.0, inl y.1) ]
        | inr r ↦ inr (r.0, inr (r.1, r.2))
      ],
    ))
    (Decides-at _ _ (on_column ps (rest_mask n ps) set c j h) (moved-tells _ _ (fit_mask ps c) (rest_mask n ps) set (fit_tells ps c) (rest_tells n ps) j))

row-tells : (t : Bool) (row j : ℕ) → Decides (has (cond t row 0) j) ((t ≡ true) × (has row j ≡ true))
row-tells true row j = (λ e. (refl, e), λ h. h.1)
row-tells false row j = no _ (λ h. true≢false (sym h.0)) (has 0 j) (has-none j)

pub picks_by_position : PicksByPosition
picks_by_position set [] j = no _ (λ h. both_ways (has 0 j) (has-none j) h.2) (has 0 j) (has-none j)
picks_by_position set (row ∷ rows) j =
    Decides-like (has (picked set (row ∷ rows)) j)
    (λ h. elim h [
      | inl w ↦ (0, has_first set (set % 2) refl ∙ w.0, w.1)
      | inr w ↦ (suc w.0, has-next set (set / 2) w.0 refl ∙ w.1, w.2)
    ])
    (λ h. back h.0 h.1 h.2)
    (Decides-at _ _ (has-or (cond (eqb (set % 2) 1) row 0) (picked (set / 2) rows) j) (Decides-or _ _ (row-tells (eqb (set % 2) 1) row j) (picks_by_position (set / 2) rows j)))
  where
    back : (i : ℕ) → has set i ≡ true → has (get_or (row ∷ rows) i 0) j ≡ true
        → ((eqb (set % 2) 1 ≡ true) × (has row j ≡ true)) ⊎ ((i : ℕ) × (has (set / 2) i ≡ true) × (has (get_or rows i 0) j ≡ true))
    back zero s r = inl (sym (has_first set (set % 2) refl) ∙ s, r)
    back (suc i) s r = inr (i, sym (has-next set (set / 2) i refl) ∙ s, r)

one-tells : (k j : ℕ) → Decides (has (2 ^ k) j) (j ≡ k)
one-tells zero zero = (λ _. refl, λ _. refl)
one-tells zero (suc j) = no _ (λ e. omega arith) (has 1 (suc j)) (has-next 1 0 j refl ∙ has-none j)
one-tells (suc k) zero = no _ (λ e. omega arith) (has (2 ^ suc k) 0) (has_first (2 ^ suc k) 0 (omega (arith, pow-suc 2 k)))
one-tells (suc k) (suc j) =
    Decides-like (has (2 ^ suc k) (suc j)) (ap suc) (λ e. omega arith)
    (Decides-at _ _ (has-next (2 ^ suc k) (2 ^ k) j (omega (arith, pow-suc 2 k))) (one-tells k j))

pub masks_by_position : MasksByPosition
masks_by_position = (has-mask, one-tells)

pub columns_fit : ColumnsFit
columns_fit names s n l = (fits-same names s.deep s.test n l, deep_same names s.deep s.test)
