-- Masks, bit by bit, and the stepping of masks.
use Rattle.std.proofs.Common.{◌≡◌, ℕ, zero, suc, ◌+◌, ◌*◌, ◌/◌, ◌%◌, ◌^◌, ◌<◌, Bool, true, false, cond, ◌&&◌, ◌||◌, eqb, List, [], ◌∷◌, ◌++◌, map, length, get_or, replicate, sym, refl, ap, ◌∙◌, true≢false, add-zero, pow-suc, arith, lit<}
use native.Mathlib.Nat.{zero-div}
use lib.Bits.{bit_and, bit_or, and_block, or_block}
use Rattle.std.proofs.lemmas.Nat.{shr-shr, div-mul-add}
use Rattle.std.proofs.lemmas.Bool.Decides.{nat_tests}
use Rattle.machine.specs.Paths.{Step, stepped}
use Rattle.machine.specs.Masks.{mask, has, moved}

pub mask_lt : (bs : List Bool) → mask bs < 2 ^ length bs
unfolding mask
mask_lt [] = omega arith
mask_lt (true ∷ bs) = let h = mask_lt bs in omega (arith, pow-suc 2 (length bs))
mask_lt (false ∷ bs) = let h = mask_lt bs in omega (arith, pow-suc 2 (length bs))

pub mask-push : (bs : List Bool) (b : Bool) → mask (bs ++ b ∷ []) ≡ mask bs + cond b (2 ^ length bs) 0
unfolding mask
mask-push [] true = refl
mask-push [] false = refl
mask-push (x ∷ bs) true = let h = mask-push bs true in omega (arith, pow-suc 2 (length bs))
mask-push (x ∷ bs) false = let h = mask-push bs false in omega arith

pub mask-none : (k : ℕ) → mask (replicate k false) ≡ 0
unfolding mask
mask-none zero = refl
mask-none (suc k) = let h = mask-none k in omega arith

pub mask-append_none : (bs : List Bool) (k : ℕ) → mask (bs ++ replicate k false) ≡ mask bs
unfolding mask
mask-append_none [] k = mask-none k
mask-append_none (b ∷ bs) k = ap (λ m. m * 2 + cond b 1 0) (mask-append_none bs k)

-- a shift by one more
pub shifted_more : (n j : ℕ) → n / 2 ^ suc j ≡ n / 2 / 2 ^ j
shifted_more n j = let e : suc j ≡ 1 + j = omega arith in ap (λ k. n / 2 ^ k) e ∙ sym (shr-shr n 1 j)

half : (m r j : ℕ) → r < 2 → (m * 2 + r) / 2 ^ suc j ≡ m / 2 ^ j
half m r j h = shifted_more (m * 2 + r) j ∙ ap (λ x. x / 2 ^ j) (div-mul-add m 2 r h)

pub has-mask : (bs : List Bool) (j : ℕ) → has (mask bs) j ≡ get_or bs j false
unfolding mask
has-mask [] j = ap (λ x. eqb (x % 2) 1) (zero-div (2 ^ j))
has-mask (true ∷ bs) zero = grind (arith, nat_tests)
has-mask (false ∷ bs) zero = grind (arith, nat_tests)
has-mask (true ∷ bs) (suc j) = ap (λ x. eqb (x % 2) 1) (half (mask bs) 1 j (lit< tt)) ∙ has-mask bs j
has-mask (false ∷ bs) (suc j) = ap (λ x. eqb (x % 2) 1) (half (mask bs) 0 j (lit< tt)) ∙ has-mask bs j

-- one digit of a common part, and of a union
and2 : (m f : ℕ) (b t : Bool) → bit_and (m * 2 + cond b 1 0) (f * 2 + cond t 1 0) ≡ bit_and m f * 2 + cond (b && t) 1 0
and2 m f true true = and_block 1 m f 1 1 (lit< tt) (lit< tt)
and2 m f true false = and_block 1 m f 1 0 (lit< tt) (lit< tt)
and2 m f false true = and_block 1 m f 0 1 (lit< tt) (lit< tt)
and2 m f false false = and_block 1 m f 0 0 (lit< tt) (lit< tt)

or2 : (m f : ℕ) (b t : Bool) → bit_or (m * 2 + cond b 1 0) (f * 2 + cond t 1 0) ≡ bit_or m f * 2 + cond (b || t) 1 0
or2 m f true true = or_block 1 m f 1 1 (lit< tt) (lit< tt)
or2 m f true false = or_block 1 m f 1 0 (lit< tt) (lit< tt)
or2 m f false true = or_block 1 m f 0 1 (lit< tt) (lit< tt)
or2 m f false false = or_block 1 m f 0 0 (lit< tt) (lit< tt)

-- what the last position hands on, past the end
abbrev pub carry : List (Step ℕ) → ℕ → Bool → List Bool → Bool
carry [] c came bs = came
carry (s ∷ ss) c came [] = came
carry (s ∷ ss) c came (b ∷ bs) = carry ss c (b && s.fits c) bs

-- the steps that fit a column, and those that are deep
abbrev pub fitting : List (Step ℕ) → ℕ → ℕ
fitting ss c = mask (map (λ s. s.fits c) ss)

abbrev pub staying : List (Step ℕ) → ℕ
staying ss = mask (map (λ s. s.deep) ss)

moves : (ss : List (Step ℕ)) (c : ℕ) (came : Bool) (bs : List Bool) → length bs ≡ length ss → carry ss c came bs ≡ false
    → bit_or (bit_and (mask bs) (fitting ss c) * 2 + cond came 1 0) (bit_and (mask bs) (staying ss)) ≡ mask (stepped ss c came bs)
unfolding mask
moves [] c true [] e k = absurd (true≢false k)
moves [] c false [] e k = refl
moves [] c came (b ∷ bs) e k = absurd (omega arith)
moves (s ∷ ss) c came [] e k = absurd (omega arith)
moves (s ∷ ss) c came (b ∷ bs) e k =
    let m = mask bs in
    let f = fitting ss c in
    let d = staying ss in
    let ih = moves ss c (b && s.fits c) bs (omega arith) k in
    ap (λ x. bit_or (x * 2 + cond came 1 0) (bit_and (m * 2 + cond b 1 0) (d * 2 + cond s.deep 1 0))) (and2 m f b (s.fits c))
    ∙ ap (bit_or ((bit_and m f * 2 + cond (b && s.fits c) 1 0) * 2 + cond came 1 0)) (and2 m d b s.deep)
    ∙ or2 (bit_and m f * 2 + cond (b && s.fits c) 1 0) (bit_and m d) came (b && s.deep)
    ∙ ap (λ x. x * 2 + cond (came || (b && s.deep)) 1 0) ih

-- a mask moves as the set that it stands for
pub moved-is : (ss : List (Step ℕ)) (c : ℕ) (bs : List Bool) → length bs ≡ length ss → carry ss c false bs ≡ false
    → moved (fitting ss c) (staying ss) (mask bs) ≡ mask (stepped ss c false bs)
moved-is ss c bs e k = ap (λ x. bit_or x (bit_and (mask bs) (staying ss))) (sym (add-zero (bit_and (mask bs) (fitting ss c) * 2))) ∙ moves ss c false bs e k
