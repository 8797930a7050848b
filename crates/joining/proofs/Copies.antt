-- Parts of the lists, and what is written past them.
use Rattle.std.proofs.Common.{◌≡◌, ℕ, ◌+◌, ◌-◌, ◌≤◌, List, ◌++◌, length, take, drop, sym, ap, ◌∙◌, subst, arith}
use Rattle.std.proofs.lemmas.List.{length-drop, drop-take, drop-drop, take-take}
use Rattle.std.proofs.lemmas.Bool.Decides.{nat_tests}
use Rattle.machine.specs.Model.{Model}
use Rattle.rows.specs.declared.row.Row.{Row}
use Rattle.rows.specs.declared.part.Kept.{Kept}
use Rattle.rows.specs.declared.part.Part.{Part}
use Rattle.rows.specs.Pieces.{Content, put}
use Rattle.rows.specs.Stretches.{one, joined_at}
use Rattle.rows.specs.Places.{paired}
use Rattle.rows.specs.Lists.{kept_at, held, RowRule, Written}
use Rattle.rows.proofs.Pairs.{take-paired}
use Rattle.rows.proofs.Leaves.{written}
use Rattle.rows.proofs.Rules.{Ruled, ruled-taken, rule_drop}

pub same-sizes : {X Y : Type 0} (xs : List X) (ys : List Y) (n : ℕ) → length xs ≡ length ys → length (drop n xs) ≡ length (drop n ys)
same-sizes xs ys n e = length-drop n xs ∙ ap (λ k. k - n) e ∙ sym (length-drop n ys)

region_below : {X : Type 0} (xs ys : List X) (used r n : ℕ) → r + n ≤ used → take used xs ≡ take used ys → take n (drop r xs) ≡ take n (drop r ys)
region_below xs ys used r n h e =
    sym (drop-take r n xs)
    ∙ ap (drop r) (sym (take-take (r + n) used xs h) ∙ ap (take (r + n)) e ∙ take-take (r + n) used ys h)
    ∙ drop-take r n ys

module _ {P : Type 0} where
  pub same_kept : (rs rs' : List Row) (ps ps' : List P) (from to : ℕ) (k : Kept) → take k.rows (drop to rs') ≡ take k.rows (drop from rs) → take k.rows (drop to ps') ≡ take k.rows (drop from ps) → kept_at rs' ps' to k ≡ kept_at rs ps from k
  same_kept rs rs' ps ps' from to k e f =
      ap (λ x. record { rows = x; fault = k.fault })
      (sym (take-paired k.rows (drop to rs') (drop to ps')) ∙ ap (λ x. paired x (take k.rows (drop to ps'))) e ∙ ap (paired (take k.rows (drop from rs))) f ∙ take-paired k.rows (drop from rs) (drop from ps))

  pub held_below : (rs rs' : List Row) (ps ps' : List P) (used : ℕ) (p : Part) → p.at + p.kept.rows ≤ used → take used rs' ≡ take used rs → take used ps' ≡ take used ps → held rs' ps' p ≡ held rs ps p
  held_below rs rs' ps ps' used p h e f =
      same_kept rs rs' ps ps' p.at p.at p.kept (region_below rs' rs used p.at p.kept.rows h e) (region_below ps' ps used p.at p.kept.rows h f)

  pub kept_rule : (file : List ℕ) (rs : List Row) (ps : List P) (from : ℕ) (k : Kept) → length rs ≡ length ps → from + k.rows ≤ length rs → RowRule file rs from k.rows → Ruled file (kept_at rs ps from k).rows
  kept_rule file rs ps from k sizes h f =
      ruled-taken file k.rows (drop from rs) (drop from ps) (same-sizes rs ps from sizes) (let w = length-drop from rs in omega arith) (rule_drop file rs from k.rows f)

-- what was written after the first part of a list that was cut in two
pub written_back : {X : Type 0} (old front back ys made : List X) (from marks n : ℕ) → front ≡ take from old → back ≡ drop from old → length ys ≡ marks → n ≤ marks → take n ys ≡ made → Written from marks made old (front ++ (ys ++ drop marks back))
written_back old front back ys made from marks n e f size h is =
    let d = drop-drop marks from old in
    let same : take from old ++ (ys ++ drop (from + marks) old) ≡ front ++ (ys ++ drop marks back) = cc in
    subst (Written from marks made old) same (written old ys made from marks n size h is)

-- a part's rows, by themselves
pub held_part : {P : Type 0} (rs : List Row) (ps : List P) (p : Part) {rows : List Row} {acts : List P} → rows ≡ take p.kept.rows (drop p.at rs) → acts ≡ take p.kept.rows (drop p.at ps) → ◌≡◌ {A = Content P} (record { rows = paired rows acts; fault = p.kept.fault }) (held rs ps p)
held_part rs ps p e f = let t = take-paired p.kept.rows (drop p.at rs) (drop p.at ps) in cc

pub put_both : {P Q : Type 0} (file : List ℕ) (m : Model P Q) (t : Content P) {x y z l r r' : Content P} → x ≡ l → y ≡ put file m x t → z ≡ put file m y r' → r' ≡ r → z ≡ put file m (put file m l t) r
put_both file m t e f g h = cc

module _ {P Q : Type 0} (file : List ℕ) (m : Model P Q) (l r : ℕ × ℕ × ℕ) (x y : Content P) where
  pub joined-both : (l.2 ≡ 0 → ⊥) → (r.2 ≡ 0 → ⊥) → joined_at file m l r x y ≡ put file m (put file m x (one file m (l.1, r.0))) y
  joined-both h e = grind (arith, nat_tests)
