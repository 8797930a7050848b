-- The table kept column by column.
use Rattle.std.proofs.Common.{◌≡◌, ℕ, ◌+◌, ◌-◌, ◌*◌, ◌/◌, ◌%◌, ◌<◌, List, [], ◌++◌, length, get_or, ap, ◌∙◌, append-nil, arith}
use lib.Lanes.{chunk}
use Rattle.std.specs.List.{between}
use Rattle.std.proofs.lemmas.Simd.{get_or-chunk, length-chunk}
use Rattle.table.specs.declared.states.States.{States}
use Rattle.table.specs.Tables.{next_state}

module _ (s : States) (c : ℕ) (few : c < 16) (to : List ℕ) (copied : to ≡ between (c * 32) (c * 32 + 32) s.columns) where
  is-column : to ++ [] ≡ chunk (c * 32) 32 s.columns
  is-column = let e : (c * 32 + 32) - c * 32 ≡ 32 = omega arith in append-nil to ∙ copied ∙ ap (λ n. chunk (c * 32) n s.columns) e

  -- where each state leads on a column
  pub leads-by-column : (k : ℕ) → k < 32 → get_or (to ++ []) k 0 ≡ next_state s.next k c
  leads-by-column k h =
      let e : (c * 32 + k) % 32 * 16 + (c * 32 + k) / 32 ≡ k * 16 + c = omega (arith, h) in
      ap (λ l. get_or l k 0) is-column ∙ get_or-chunk (c * 32) 32 s.columns k 0 h
      ∙ s.turned (c * 32 + k) (omega (arith, few, h)) ∙ ap (λ n. get_or s.next n 0) e

  pub length-column : length (to ++ []) ≡ 32
  length-column = ap length is-column ∙ length-chunk (c * 32) 32 s.columns (omega (arith, few, s.whole))
