use Rattle.std.proofs.Common.{◌≡◌, ℕ, ◌+◌, ◌*◌, ◌/◌, ◌<◌, List, [], length, get_or, take, drop, ap, sym, ◌∙◌, rules, arith}
use Rattle.std.specs.Simd.{first_chunks}
use Rattle.std.proofs.lemmas.Iterator.{YieldsList-from_slice, IsFirst-from_position}
use borrow.Author.Tests.{tests}
use Rattle.tags.specs.Marks.{marks, unmarked}
use Rattle.tags.proofs.Blocks.{first_chunks-at, ahead, past-block, in_block, first-after}
use Rattle.tags.proofs.marks.first_mark.Goals as goal
use Rattle.tags.proofs.marks.first_mark.Goals.{In-Some, In_default}

-- the block at i
at-i : (bs : List ℕ) (blocks : List (List ℕ)) (i : ℕ) → blocks ≡ first_chunks 16 (length bs / 16) bs → i < length bs / 16 → get_or blocks i [] ≡ take 16 (drop (16 * i) bs)
at-i bs blocks i e h = ap (λ l. get_or l i []) e ∙ first_chunks-at (length bs / 16) bs i h

found : (c : In-Some) → (16 * c.loop-i.i + c.in-Some.k ≡ unmarked c.args.bytes.now) × (16 * c.loop-i.i + c.in-Some.k < length c.args.bytes.now)
found c = in_block c.args.bytes.now (16 * c.loop-i.i) c.loop-i.invariant.1 c.loop-i.invariant.0 (get_or c.as_chunks.result.0.now c.loop-i.i []) (omega (arith, c.as_chunks.ensures.front_len))
    (at-i c.args.bytes.now c.as_chunks.result.0.now c.loop-i.i c.as_chunks.ensures.front (omega (arith, c.as_chunks.ensures.front_len))) c.in-Some.k c.in-Some.ensures

pub overflow_add-result : goal.overflow_add-result
overflow_add-result c = let f = found c in omega (arith, f.1)

pub returns-in-Some : goal.returns-in-Some
returns-in-Some c = found c

pub loop-i-preserved : goal.loop-i-preserved
loop-i-preserved c =
    let bs = c.args.bytes.now in
    let i = c.loop-i.i in
    let e : 16 * i + 16 ≡ 16 * (i + 1) = omega arith in
    let past = past-block bs (16 * i) c.loop-i.invariant.1 c.loop-i.invariant.0 (get_or c.as_chunks.result.0.now i []) (omega (arith, c.as_chunks.ensures.front_len))
    (at-i bs c.as_chunks.result.0.now i c.as_chunks.ensures.front (omega (arith, c.as_chunks.ensures.front_len))) c.in_default.ensures in
    (omega (arith, c.as_chunks.ensures.front_len), ap (λ j. marks (take j bs) 0) (sym e) ∙ past)

pub returns : goal.returns
returns c =
    let rest = c.as_chunks.result.1.now in
    let first = IsFirst-from_position _ _ c.position.result (λ b. b ≡ 60) (λ b. b ≡ 60 → ⊥) c.position.ensures.ran (YieldsList-from_slice rest cc) (λ x q k. search (rules, tests)) (λ x q k. search (rules, tests)) in
    let bs = c.args.bytes.now in
    let at = 16 * length c.as_chunks.result.0.now in
    let done : 16 * c.loop-i.i ≡ at = omega arith in
    let cut : length bs / 16 * 16 ≡ at = omega (arith, c.as_chunks.ensures.front_len) in
    let left : rest ≡ drop at bs = c.as_chunks.ensures.back ∙ ap (λ j. drop j bs) cut in
    let was = ahead bs (16 * c.loop-i.i) c.loop-i.invariant.1 c.loop-i.invariant.0 in
    first-after bs rest at c.position.result c.map.result (was ∙ ap (λ j. j + unmarked (drop j bs)) done ∙ ap (λ l. at + unmarked l) (sym left)) (omega (arith, c.as_chunks.ensures.front_len, c.as_chunks.ensures.back_len)) first (search rules)
