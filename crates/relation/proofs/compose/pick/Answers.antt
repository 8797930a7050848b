use Rattle.std.proofs.Common.{◌≡◌, ℕ, ◌*◌, ◌%◌, ◌^◌, ◌<◌, ◌≤◌, sym, ap, ◌∙◌, arith}
use lib.Bits.{bit_or, or_zero_r}
use lib.Count.{count_trailing_zeros}
use Rattle.std.proofs.lemmas.Nat.{one_shl, pow_pos}
use Rattle.positions.specs.Sets.{picked}
use Rattle.positions.proofs.Pickings.{Lowest, lowest, lowest_le, pick_more, picked-zero}
use Rattle.relation.proofs.compose.pick.Goals as goal

at : (n : ℕ) → (n ≡ 0 → ⊥) → n < 2 ^ 32 → Lowest 32 n (count_trailing_zeros 32 n)
at n p h = lowest 32 n (omega arith) h

bit : (n : ℕ) → (n ≡ 0 → ⊥) → n < 2 ^ 32 → (1 * 2 ^ count_trailing_zeros 32 n) % 2 ^ 32 ≡ 2 ^ count_trailing_zeros 32 n
bit n p h = one_shl (count_trailing_zeros 32 n) 32 (at n p h).inside

bit_le : (n : ℕ) → (n ≡ 0 → ⊥) → n < 2 ^ 32 → (1 * 2 ^ count_trailing_zeros 32 n) % 2 ^ 32 ≤ n
bit_le n p h = omega (arith, bit n p h, lowest_le 32 n (count_trailing_zeros 32 n) (at n p h))

pub bounds-rows-j : goal.bounds-rows-j
bounds-rows-j c = (at c.loop-left.left c.loop-left-test.true (omega arith)).inside

pub overflow_shl-left : goal.overflow_shl-left
overflow_shl-left c = (at c.loop-left.left c.loop-left-test.true (omega arith)).inside

pub overflow_sub-left : goal.overflow_sub-left
overflow_sub-left c = bit_le c.loop-left.left c.loop-left-test.true (omega arith)

pub loop-left-smaller : goal.loop-left-smaller
loop-left-smaller c =
    let n = c.loop-left.left in
    let h : n < 2 ^ 32 = omega arith in
    omega (arith, bit n c.loop-left-test.true h, bit_le n c.loop-left-test.true h, pow_pos (count_trailing_zeros 32 n))

pub loop-left-preserved : goal.loop-left-preserved
loop-left-preserved c =
    let n = c.loop-left.left in
    let h : n < 2 ^ 32 = omega arith in
    let p = c.loop-left-test.true in
    (omega arith, pick_more 32 c.loop-left.got n (picked c.args.row c.args.rows.now) (count_trailing_zeros 32 n) _ c.args.rows.now (at n p h) (bit n p h) c.loop-left.invariant.1)

pub returns : goal.returns
returns c =
    sym (or_zero_r c.loop-left.got) ∙ ap (bit_or c.loop-left.got) (sym (picked-zero c.args.rows.now))
    ∙ ap (λ x. bit_or c.loop-left.got (picked x c.args.rows.now)) (sym c.loop-left-test.false) ∙ c.loop-left.invariant.1
