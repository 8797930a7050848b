-- Masks that are made bit by bit.
use Rattle.std.proofs.Common.{reverse, ◌≡◌, ℕ, zero, suc, ◌+◌, ◌-◌, ◌*◌, ◌%◌, ◌^◌, ◌<◌, ◌≤◌, Bool, true, false, cond, ◌&&◌, ◌||◌, eqb, ltb, leb, List, [], ◌∷◌, ◌++◌, map, length, get_or, replicate, sym, refl, ap, ◌∙◌, ap₂, add-zero, pow-suc, inl, inr, arith, lit<, pow_mono}
use lib.Bits.{bit_or, or_shifted_r, or_comm, or_zero_r}
use lib.ListN.{length-map}
use Rattle.std.specs.List.{fold}
use Rattle.std.proofs.Math.Nat.{mod-eq_of_lt}
use Rattle.std.proofs.lemmas.List.Folds.{fold-map}
use Rattle.std.proofs.lemmas.List.{map-append, reverse-append, get_or_past, get_or-replicate}
use Rattle.std.proofs.lemmas.List.Sums.{fold-append}
use Rattle.std.proofs.lemmas.Bool.{cases_lt}
use Rattle.std.proofs.lemmas.Bool.Decides.{nat_tests}
use Rattle.machine.specs.declared.position.Position.{Position}
use Rattle.machine.specs.declared.position.Position.TheVariants.{End}
use Rattle.machine.specs.Masks.{mask}
use Rattle.machine.specs.Views.{is_end}
use Rattle.positions.specs.Tabs.{tab, length_tab, get_or-tab}
use Rattle.positions.specs.Sets.{start_bits}
use Rattle.positions.proofs.Digits.{mask_lt}

-- one bit before the others, as code puts it into a word of w bits
abbrev pub under : ℕ → ℕ → Bool → ℕ
under w m b = bit_or ((m * 2) % 2 ^ w) (cond b 1 0)

under-mask : (w : ℕ) (bs : List Bool) (b : Bool) → length bs < w → under w (mask bs) b ≡ mask (b ∷ bs)
unfolding mask
under-mask w bs b l =
    let low : mask bs * 2 < 2 ^ suc (length bs) = omega (arith, mask_lt bs, pow-suc 2 (length bs)) in
    let within : suc (length bs) ≤ w = omega arith in
    ap (λ m. bit_or m (cond b 1 0)) (mod-eq_of_lt (omega (arith, pow_mono within))) ∙ put b
  where
    put : (b : Bool) → bit_or (mask bs * 2) (cond b 1 0) ≡ mask bs * 2 + cond b 1 0
    put true = or_comm (mask bs * 2) 1 ∙ or_shifted_r (mask bs) 1 1 (lit< tt)
    put false = or_zero_r (mask bs * 2) ∙ sym (add-zero (mask bs * 2))

-- the bits from the last one on
pub fold-under : (w : ℕ) (bs : List Bool) → length bs ≤ w → fold (under w) 0 (reverse bs) ≡ mask bs
unfolding mask
fold-under w [] l = refl
fold-under w (b ∷ bs) l =
    ap (fold (under w) 0) (reverse-append (b ∷ []) bs)
    ∙ fold-append (under w) 0 (reverse bs) (b ∷ [])
    ∙ ap (λ m. under w m b) (fold-under w bs (omega arith))
    ∙ under-mask w bs b (omega arith)

map-reverse : {X Y : Type 0} (f : X → Y) (xs : List X) → map f (reverse xs) ≡ reverse (map f xs)
map-reverse f [] = refl
map-reverse f (x ∷ xs) =
    ap (map f) (reverse-append (x ∷ []) xs) ∙ map-append f (reverse xs) (x ∷ []) ∙ ap (λ ys. ys ++ f x ∷ []) (map-reverse f xs)
    ∙ sym (reverse-append (f x ∷ []) (map f xs))

-- the bits of elements, from the last one on
pub fold-tested : {X : Type 0} (w : ℕ) (f : X → Bool) (xs : List X) → length xs ≤ w → fold (λ m x. under w m (f x)) 0 (reverse xs) ≡ mask (map f xs)
fold-tested w f xs l =
    sym (fold-map (under w) f 0 (reverse xs)) ∙ ap (fold (under w) 0) (map-reverse f xs) ∙ fold-under w (map f xs) (omega (arith, length-map xs f))

same-bits : (bs cs : List Bool) → ((k : ℕ) → get_or bs k false ≡ get_or cs k false) → mask bs ≡ mask cs
unfolding mask
same-bits [] [] h = refl
same-bits [] (c ∷ cs) h = ap₂ (λ m b. m * 2 + cond b 1 0) (same-bits [] cs (λ k. h (suc k))) (h 0)
same-bits (b ∷ bs) [] h = ap₂ (λ m b. m * 2 + cond b 1 0) (same-bits bs [] (λ k. h (suc k))) (h 0)
same-bits (b ∷ bs) (c ∷ cs) h = ap₂ (λ m b. m * 2 + cond b 1 0) (same-bits bs cs (λ k. h (suc k))) (h 0)

pub mask-tab : (f : ℕ → Bool) (n : ℕ) (bs : List Bool) → length bs ≤ n → ((k : ℕ) → k < n → f k ≡ get_or bs k false) → mask (tab f n) ≡ mask bs
mask-tab f n bs l h = same-bits (tab f n) bs (λ k. elim (cases_lt k n) [
  | inl u ↦ get_or-tab f n k false u ∙ h k u
  | inr u ↦ get_or_past (tab f n) k false (omega (arith, length_tab f n)) ∙ sym (get_or_past bs k false (omega arith))
])

-- a place that is unused, or whose element passes a test
pub rest_tested : {X : Type 0} (f : X → Bool) (xs : List X) (d : X) (m k : ℕ) → k < length xs + m
    → (leb (length xs) k || f (get_or xs k d)) ≡ get_or (map f xs ++ replicate m true) k false
rest_tested f [] d m k l = let e = get_or-replicate m k true false (omega arith) in grind (arith, nat_tests, e)
rest_tested f (x ∷ xs) d m zero l = grind (arith, nat_tests)
rest_tested f (x ∷ xs) d m (suc k) l = grind (arith, nat_tests, rest_tested f xs d m k (omega arith))

start_after : (b : Bool) (ps : List Position) (k : ℕ) → (ltb (suc k) (length ps) && is_end (get_or ps k End)) ≡ get_or (start_bits b ps) (suc k) false
start_after b [] k = grind (arith, nat_tests)
start_after b (p ∷ []) k = grind (arith, nat_tests)
start_after b (p ∷ q ∷ ps) zero = grind (arith, nat_tests)
start_after b (p ∷ q ∷ ps) (suc k) = grind (arith, nat_tests, start_after (is_end p) (q ∷ ps) k)

-- the first place, or one after an end
pub start_tested : (ps : List Position) (k : ℕ) → (ltb k (length ps) && (eqb k 0 || is_end (get_or ps (k - 1) End))) ≡ get_or (start_bits true ps) k false
start_tested [] k = grind (arith, nat_tests)
start_tested (p ∷ ps) zero = grind (arith, nat_tests)
start_tested (p ∷ ps) (suc k) = let e = start_after true (p ∷ ps) k in grind (arith, nat_tests, e)
