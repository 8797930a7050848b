-- A set of positions that moves by the rule gives a verdict by the rule.
use Rattle.std.proofs.Common.{◌≡◌, ℕ, ◌<◌, ◌≤◌, Bool, false, ◌&&◌, ltb, List, [], map, length, get_or, replicate, Decides, sym, ap, ◌∙◌, ap₂, inl, inr, arith}
use Rattle.std.proofs.lemmas.List.{get_or_past, length-replicate, get_or-replicate}
use Rattle.std.proofs.lemmas.Bool.{cases_lt, both_ways, lt-ltb, le-ltb}
use Rattle.std.proofs.lemmas.Bool.Decides.{Decides-at, Decides-like}
use Rattle.machine.specs.Paths.{is_met}
use Rattle.machine.specs.Queries.{Query, asked, ends}
use Rattle.machine.specs.Masks.{has}
use Rattle.machine.proofs.Stands.{meets_decides}
use Rattle.positions.specs.declared.lines.Lines.{Lines}
use Rattle.positions.specs.Tabs.{length_tab, get_or-tab, tab_is, tab_same}
use Rattle.positions.specs.Sets.{marked}
use Rattle.positions.specs.Verdicts.{MeetsQuery, ByRule, LinesOf}

pub no : (P : Type 0) → (P → ⊥) → (b : Bool) → b ≡ false → Decides b P
no P never b f = (λ t. absurd (both_ways b f t), λ p. absurd (never p))

yes : (qs : List Query) (k : ℕ) (path : List (List ℕ)) (b : Bool) → k < length qs → b ≡ is_met (map asked (get_or qs k [])) path → Decides b (MeetsQuery qs k path)
yes qs k path b l e =
    Decides-like b (λ m. record { line = l; meets = m }) (λ m. m.meets) (Decides-at b (is_met (map asked (get_or qs k [])) path) e (meets_decides (map asked (get_or qs k [])) path))

module _ (qs : List Query) (l : Lines) (lines : LinesOf qs l) (setOf : List (List ℕ) → ℕ → ℕ)
    (moves : (path : List (List ℕ)) (k : ℕ) → k < length qs → has (setOf path k) (get_or (ends 0 qs) k 0) ≡ is_met (map asked (get_or qs k [])) path) where
  at-line : (path : List (List ℕ)) (k : ℕ) → k < length qs → (ltb k l.count && has (setOf path k) (get_or l.last k 0)) ≡ is_met (map asked (get_or qs k [])) path
  at-line path k h =
      ap₂ ◌&&◌ (lt-ltb k l.count (omega (arith, lines.count))) (ap (has (setOf path k)) (lines.last k h))
      ∙ moves path k h

  at_none : (path : List (List ℕ)) (k : ℕ) → length qs ≤ k → (ltb k l.count && has (setOf path k) (get_or l.last k 0)) ≡ false
  at_none path k h = ap (λ t. t && has (setOf path k) (get_or l.last k 0)) (le-ltb k l.count (omega (arith, lines.count)))

  pub by-rule : ByRule qs (λ path. marked l (setOf path))
  by-rule = record {
    eight = λ path. length_tab _ 8;
    tells = λ path k. elim (cases_lt k (length qs)) [
      | inl h ↦ yes qs k path (get_or (marked l (setOf path)) k false) h (get_or-tab _ 8 k false (omega (arith, lines.count, l.within)) ∙ at-line path k h)
      | inr h ↦ no (MeetsQuery qs k path) (λ m. omega (arith, m.line)) (get_or (marked l (setOf path)) k false) (elim (cases_lt k 8) [
        | inl e ↦ get_or-tab _ 8 k false e ∙ at_none path k h
        | inr e ↦ get_or_past (marked l (setOf path)) k false (omega (arith, length_tab (λ q. ltb q l.count && has (setOf path q) (get_or l.last q 0)) 8))
      ])
    ];
  }

-- the queries marked by the same sets
pub marked-same : (l : Lines) (f g : ℕ → ℕ) → ((q : ℕ) → q < 8 → f q ≡ g q) → marked l f ≡ marked l g
marked-same l f g same = tab_same _ _ 8 false (λ q h. ap (λ s. ltb q l.count && has s (get_or l.last q 0)) (same q h))

-- without queries none is marked
pub marked-none : (l : Lines) (setOf : ℕ → ℕ) → l.count ≡ 0 → marked l setOf ≡ replicate 8 false
marked-none l setOf e =
    tab_is _ (replicate 8 false) 8 false (length-replicate 8 false)
    (λ k h. ap (λ t. t && has (setOf k) (get_or l.last k 0)) (le-ltb k l.count (omega arith)) ∙ sym (get_or-replicate 8 k false false h))
