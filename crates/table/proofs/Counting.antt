-- Different elements of a list are no more than it has.
use Rattle.std.proofs.Common.{◌≡◌, ℕ, suc, ◌+◌, ◌-◌, ◌<◌, ◌≤◌, List, [], ◌∷◌, length, get_or, sym, ap, ◌∙◌, inl, inr, arith}
use Rattle.std.specs.List.{remove}
use Rattle.std.proofs.lemmas.List.Edits.{length-remove, get_or-remove_below, get_or-remove_above}
use Rattle.std.proofs.lemmas.Bool.{cases_lt, cases_eq}
use Rattle.table.specs.Arising.{NeverBoth}

abbrev Stands : ℕ → List ℕ → Type 0
Stands x ys = (k : ℕ) × (k < length ys) × (get_or ys k 0 ≡ x)

-- one that is not the removed one still stands there
still : (x : ℕ) (ys : List ℕ) (i : ℕ) → i < length ys → (get_or ys i 0 ≡ x → ⊥) → Stands x ys → Stands x (remove ys i)
still x ys i l other s =
    let j = s.0 in
    elim (cases_lt j i) [
      | inl h ↦ (j, omega (arith, length-remove ys i l), get_or-remove_below ys i 0 j h l ∙ s.2)
      | inr h ↦ elim (cases_eq j i) [
        | inl e ↦ absurd (other (ap (λ k. get_or ys k 0) (sym e) ∙ s.2))
        | inr ne ↦
            let k = j - 1 in
            let back : k + 1 ≡ j = omega arith in
            (k, omega (arith, length-remove ys i l), get_or-remove_above ys i 0 k (omega arith) l ∙ ap (λ n. get_or ys n 0) back ∙ s.2)
      ]
    ]

no_more : (xs ys : List ℕ) → ((j k : ℕ) → j < length xs → k < length xs → get_or xs j 0 ≡ get_or xs k 0 → j ≡ k) → ((k : ℕ) → k < length xs → Stands (get_or xs k 0) ys) → length xs ≤ length ys
no_more [] ys apart all = omega arith
no_more (x ∷ xs) ys apart all =
    let s = all 0 (omega arith) in
    let i = s.0 in
    let rest = no_more xs (remove ys i) (λ j k jl kl e. let q = apart (suc j) (suc k) (omega arith) (omega arith) e in omega arith)
    (λ k l. still (get_or xs k 0) ys i s.1 (λ e. let q = apart 0 (suc k) (omega arith) (omega arith) (sym s.2 ∙ e) in omega arith) (all (suc k) (omega arith))) in
    omega (arith, rest, length-remove ys i s.1)

pub never_both : NeverBoth
never_both next columns start limit sets all few more =
    let n = no_more more.sets sets more.apart (λ k l. all.every (get_or more.sets k 0) (more.arise k l)) in
    omega (arith, n, more.many)
