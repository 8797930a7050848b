-- Laws of unions and common parts.
use Rattle.std.proofs.Common.{◌≡◌, ℕ, zero, suc, ◌*◌, ◌/◌, ◌%◌, ◌^◌, ◌<◌, ◌&&◌, ◌||◌, eqb, sym, refl, ap, ◌∙◌, ap₂, add-zero, pow-suc, arith, lit<}
use lib.Arith.{bin_ind}
use lib.Bits.{bit_and, bit_or, and_shr, and_mod, or_shr, or_mod, or_comm, or_self, or_zero_r, or_block, or_lt, and_le_r}
use Rattle.machine.specs.Masks.{moved}

by_digits : (a b : ℕ) → a / 2 ≡ b / 2 → a % 2 ≡ b % 2 → a ≡ b
by_digits a b hi lo = omega arith

digit_or : (x y z : ℕ) → x < 2 → y < 2 → z < 2 → bit_or (bit_or x y) z ≡ bit_or x (bit_or y z)
digit_or zero y z hx hy hz = refl
digit_or (suc zero) zero z hx hy hz = refl
digit_or (suc zero) (suc zero) zero hx hy hz = refl
digit_or (suc zero) (suc zero) (suc zero) hx hy hz = refl
digit_or (suc zero) (suc zero) (suc (suc z)) hx hy hz = absurd (omega arith)
digit_or (suc zero) (suc (suc y)) z hx hy hz = absurd (omega arith)
digit_or (suc (suc x)) y z hx hy hz = absurd (omega arith)

digit_and : (x y z : ℕ) → x < 2 → y < 2 → z < 2 → bit_and (bit_or x y) z ≡ bit_or (bit_and x z) (bit_and y z)
digit_and zero y z hx hy hz = refl
digit_and (suc zero) zero z hx hy hz = sym (or_zero_r (bit_and 1 z))
digit_and (suc zero) (suc zero) z hx hy hz = sym (or_self (bit_and 1 z))
digit_and (suc zero) (suc (suc y)) z hx hy hz = absurd (omega arith)
digit_and (suc (suc x)) y z hx hy hz = absurd (omega arith)

pub or_assoc : (a b c : ℕ) → bit_or (bit_or a b) c ≡ bit_or a (bit_or b c)
or_assoc =
    bin_ind (λ (n : ℕ). (b c : ℕ) → bit_or (bit_or n b) c ≡ bit_or n (bit_or b c)) (λ b c. refl)
    (λ n ih b c. by_digits _ _
    (or_shr (bit_or n b) c 1 ∙ ap (λ (x : ℕ). bit_or x (c / 2)) (or_shr n b 1) ∙ ih (b / 2) (c / 2)
    ∙ sym (or_shr n (bit_or b c) 1 ∙ ap (bit_or (n / 2)) (or_shr b c 1)))
    (or_mod (bit_or n b) c 1 ∙ ap (λ (x : ℕ). bit_or x (c % 2)) (or_mod n b 1)
    ∙ digit_or (n % 2) (b % 2) (c % 2) (omega arith) (omega arith) (omega arith)
    ∙ sym (or_mod n (bit_or b c) 1 ∙ ap (bit_or (n % 2)) (or_mod b c 1))))

pub and_or : (a b c : ℕ) → bit_and (bit_or a b) c ≡ bit_or (bit_and a c) (bit_and b c)
and_or =
    bin_ind (λ (n : ℕ). (b c : ℕ) → bit_and (bit_or n b) c ≡ bit_or (bit_and n c) (bit_and b c)) (λ b c. refl)
    (λ n ih b c. by_digits _ _
    (and_shr (bit_or n b) c 1 ∙ ap (λ (x : ℕ). bit_and x (c / 2)) (or_shr n b 1) ∙ ih (b / 2) (c / 2)
    ∙ sym (or_shr (bit_and n c) (bit_and b c) 1 ∙ ap₂ bit_or (and_shr n c 1) (and_shr b c 1)))
    (and_mod (bit_or n b) c 1 ∙ ap (λ (x : ℕ). bit_and x (c % 2)) (or_mod n b 1)
    ∙ digit_and (n % 2) (b % 2) (c % 2) (omega arith) (omega arith) (omega arith)
    ∙ sym (or_mod (bit_and n c) (bit_and b c) 1 ∙ ap₂ bit_or (and_mod n c 1) (and_mod b c 1))))

-- a bit of a union
pub odd-or : (a b : ℕ) → eqb (bit_or a b % 2) 1 ≡ (eqb (a % 2) 1 || eqb (b % 2) 1)
odd-or a b = go (a % 2) (b % 2) (omega arith) (omega arith) (bit_or a b % 2) (or_mod a b 1)
  where
    go : (x y : ℕ) → x < 2 → y < 2 → (o : ℕ) → o ≡ bit_or x y → eqb o 1 ≡ (eqb x 1 || eqb y 1)
    go zero y hx hy o e = ap (λ v. eqb v 1) e
    go (suc zero) zero hx hy o e = ap (λ v. eqb v 1) e
    go (suc zero) (suc zero) hx hy o e = ap (λ v. eqb v 1) e
    go (suc zero) (suc (suc y)) hx hy o e = absurd (omega arith)
    go (suc (suc x)) y hx hy o e = absurd (omega arith)

-- a bit of a common part
pub odd-and : (a b : ℕ) → eqb (bit_and a b % 2) 1 ≡ (eqb (a % 2) 1 && eqb (b % 2) 1)
odd-and a b = go (a % 2) (b % 2) (omega arith) (omega arith) (bit_and a b % 2) (and_mod a b 1)
  where
    go : (x y : ℕ) → x < 2 → y < 2 → (o : ℕ) → o ≡ bit_and x y → eqb o 1 ≡ (eqb x 1 && eqb y 1)
    go zero y hx hy o e = ap (λ v. eqb v 1) e
    go (suc zero) zero hx hy o e = ap (λ v. eqb v 1) e
    go (suc zero) (suc zero) hx hy o e = ap (λ v. eqb v 1) e
    go (suc zero) (suc (suc y)) hx hy o e = absurd (omega arith)
    go (suc (suc x)) y hx hy o e = absurd (omega arith)

-- four in a union, the inner two swapped
pub swapped : (a b c d : ℕ) → bit_or (bit_or a b) (bit_or c d) ≡ bit_or (bit_or a c) (bit_or b d)
swapped a b c d =
    or_assoc a b (bit_or c d)
    ∙ ap (bit_or a) (sym (or_assoc b c d) ∙ ap (λ x. bit_or x d) (or_comm b c) ∙ or_assoc c b d)
    ∙ sym (or_assoc a c (bit_or b d))

twice_or : (a b : ℕ) → bit_or a b * 2 ≡ bit_or (a * 2) (b * 2)
twice_or a b =
    sym (add-zero (bit_or a b * 2)) ∙ sym (or_block 1 a b 0 0 (lit< tt) (lit< tt))
    ∙ ap₂ bit_or (add-zero (a * 2)) (add-zero (b * 2))

-- a union moves as its parts do
pub moved-or : (fits stays a b : ℕ) → moved fits stays (bit_or a b) ≡ bit_or (moved fits stays a) (moved fits stays b)
moved-or fits stays a b =
    ap₂ bit_or (ap (λ x. x * 2) (and_or a b fits) ∙ twice_or (bit_and a fits) (bit_and b fits)) (and_or a b stays)
    ∙ swapped (bit_and a fits * 2) (bit_and b fits * 2) (bit_and a stays) (bit_and b stays)

-- a moved set keeps within its width
pub moved-lt : (w fits stays set : ℕ) → fits < 2 ^ w → stays < 2 ^ suc w → moved fits stays set < 2 ^ suc w
moved-lt w fits stays set f s =
    or_lt (suc w) (bit_and set fits * 2) (bit_and set stays) (omega (arith, and_le_r set fits, pow-suc 2 w)) (omega (arith, and_le_r set stays))
