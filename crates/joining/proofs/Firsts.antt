-- What stands at the start of the lists.
use Rattle.std.proofs.Common.{◌≡◌, ℕ, ◌≤◌, false, List, length, Some, None, Option, refl, sym, ap, ◌∙◌, subst, is_some, arith}
use Rattle.std.specs.Option.{option_or}
use Rattle.rows.specs.declared.row.Row.{Row}
use Rattle.rows.specs.declared.row.PieceFault.{PieceFault}
use Rattle.rows.specs.declared.part.Kept.{Kept}
use Rattle.rows.specs.Pieces.{Content, fault_after}
use Rattle.rows.specs.Lists.{kept_at}
use Rattle.rows.proofs.Rules.{Ruled, ruled-at}
use Rattle.joining.specs.Taking.{FirstInside}

pub no-fault : (f : Option PieceFault) → is_some f ≡ false → f ≡ None
no-fault None e = refl
no-fault (Some f) e = absurd (let z : ◌≡◌ {A = ℕ} 0 1 = cc in omega arith)

-- a mismatch comes before the fault after all rows
pub first-fault : (stop : Option ℕ) (f fault found : Option PieceFault) → f ≡ fault_after stop None → found ≡ option_or f fault → found ≡ fault_after stop fault
first-fault None f fault found e h = h ∙ ap (λ x. option_or x fault) e
first-fault (Some p) f fault found e h = h ∙ ap (λ x. option_or x fault) e

module _ {P : Type 0} (file : List ℕ) (rs : List Row) (ps : List P) (k : Kept) where
  pub first-kept : {c : Content P} → length rs ≡ length ps → k.rows ≤ length rs → kept_at rs ps 0 k ≡ c → Ruled file c.rows → FirstInside file rs k.rows
  first-kept sizes h e f = ruled-at file k.rows rs ps sizes h (subst (λ x. Ruled file x.rows) (sym e) f)
