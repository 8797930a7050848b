use Rattle.std.proofs.Common.{◌≡◌, ℕ, ◌-◌, ◌^◌, ◌<◌, ap, ◌∙◌, arith}
use lib.Bits.{bit_and, and_zero_r, and_mask}
use Rattle.std.proofs.lemmas.Nat.{pow_below}
use Rattle.machine.specs.Masks.{moved}
use Rattle.positions.specs.Tabs.{tab_same}
use Rattle.positions.specs.Sets.{moved_on}
use Rattle.positions.proofs.Telling.{marked-none}
use Rattle.relation.specs.Relations.{same-action}
use Rattle.relation.proofs.relation.RelationMachine.new.Goals as goal

alone : (k f s : ℕ) → k < 32 → f ≡ 0 → s ≡ 2 ^ 32 - 1 → moved f s (2 ^ k) ≡ 2 ^ k
alone k f s h e d =
    let low = pow_below k 32 h in
    let nothing : bit_and (2 ^ k) f ≡ 0 = ap (bit_and (2 ^ k)) e ∙ and_zero_r (2 ^ k) in
    let itself : bit_and (2 ^ k) s ≡ 2 ^ k = ap (bit_and (2 ^ k)) d ∙ and_mask (2 ^ k) 32 ∙ omega arith in
    cc (nothing, itself)

pub returns : goal.returns
unfolding moved_on
returns c = record {
  verdict = λ path. marked-none c.none-empty.result _ c.none-empty.ensures.0;
  marks = λ a. marked-none c.none-empty.result _ c.none-empty.ensures.0;
  stays = λ n. same-action _ _ (tab_same _ _ 32 0 (λ k h. alone k _ _ h (c.none-2.ensures.0 _) c.none-2.ensures.1));
}
