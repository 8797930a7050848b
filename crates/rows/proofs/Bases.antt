-- What writes leave of the base of rows and of their names.
use Rattle.std.proofs.Common.{◌≡◌, ℕ, ◌+◌, ◌<◌, ◌≤◌, ◌≢◌, List, length, set, Some, None, Option, sym, ap, ◌∙◌, subst, ⊎_elim, arith}
use Rattle.std.proofs.lemmas.List.{get_or-set_same, get_or-set_other}
use Rattle.std.proofs.lemmas.Bool.{cases_eq, cases_lt}
use Rattle.rows.specs.declared.row.Row.{Row}
use Rattle.rows.specs.Pieces.{done, Inside}
use Rattle.rows.specs.Places.{no_row, at, NoneOpen, BaseAt, Based}

-- a write past the rows on the left
pub none-open_set : (rs : List Row) (n lo hi : ℕ) (r : Row) → hi ≤ n → NoneOpen rs lo hi → NoneOpen (set rs n r) lo hi
none-open_set rs n lo hi r h f k a b o =
    let ne : k ≢ n = omega arith in
    f k a b (ap (λ x. x.kind) (sym (get_or-set_other rs n k r no_row ne)) ∙ o)

pub based_set : (rs : List Row) (left n : ℕ) (r : Row) (base : Option ℕ) → left ≤ n → Based rs left base → Based (set rs n r) left base
based_set rs left n r None h b = none-open_set rs n 0 left r h b
based_set rs left n r (Some i) h b = record {
  below = b.below;
  is_open = let ne : i ≢ n = omega (arith, b.below) in ap (λ x. x.kind) (get_or-set_other rs n i r no_row ne) ∙ b.is_open;
  last = none-open_set rs n (i + 1) left r h b.last;
}

-- the base is closed: none of the rows from it on is Open
none-open_closed : (rs : List Row) (left i : ℕ) → BaseAt rs left i → left ≤ length rs → NoneOpen (set rs i (done (at rs i))) i left
none-open_closed rs left i b h k lo hi o =
    ⊎_elim
    (λ e.
    let here : at (set rs i (done (at rs i))) i ≡ done (at rs i) = get_or-set_same rs i (done (at rs i)) no_row (omega (arith, b.below)) in
    let z : ◌≡◌ {A = ℕ} 0 1 = let o' = rw e at o in let q = ap (λ x. x.kind) here in cc in
    omega arith)
    (λ ne. b.last k (omega arith) hi (ap (λ x. x.kind) (sym (get_or-set_other rs i k _ no_row ne)) ∙ o))
    (cases_eq k i)

pub based_wider : (rs : List Row) (i left : ℕ) (o : Option ℕ) → i ≤ left → NoneOpen rs i left → Based rs i o → Based rs left o
based_wider rs i left None h f b = λ k lo hi q. ⊎_elim (λ l. b k lo l q) (λ l. f k l hi q) (cases_lt k i)
based_wider rs i left (Some j) h f b = record {
  below = omega (arith, b.below);
  is_open = b.is_open;
  last = λ k lo hi q. ⊎_elim (λ l. b.last k lo l q) (λ l. f k l hi q) (cases_lt k i);
}

pub based_closed : (rs : List Row) (left i : ℕ) (o : Option ℕ) → BaseAt rs left i → left ≤ length rs → Based (set rs i (done (at rs i))) i o → Based (set rs i (done (at rs i))) left o
based_closed rs left i o b h c = based_wider (set rs i (done (at rs i))) i left o (omega (arith, b.below)) (none-open_closed rs left i b h) c

-- the names of the rows on the left stay where they were
pub names_set : (file : List ℕ) (rs : List Row) (left n : ℕ) (r : Row) → left ≤ n → ((j : ℕ) → j < left → Inside file (at rs j)) → (j : ℕ) → j < left → Inside file (at (set rs n r) j)
names_set file rs left n r h f j l =
    let ne : j ≢ n = omega arith in
    subst (Inside file) (sym (get_or-set_other rs n j r no_row ne)) (f j l)

pub names_closed : (file : List ℕ) (rs : List Row) (left i : ℕ) → i < length rs → ((j : ℕ) → j < left → Inside file (at rs j)) → (j : ℕ) → j < left → Inside file (at (set rs i (done (at rs i))) j)
names_closed file rs left i h f j l =
    ⊎_elim
    (λ e. subst (Inside file) (sym (ap (λ x. at (set rs i (done (at rs i))) x) e ∙ get_or-set_same rs i (done (at rs i)) no_row h)) (subst (λ x. Inside file (at rs x)) e (f j l)))
    (λ ne. subst (Inside file) (sym (get_or-set_other rs i j _ no_row ne)) (f j l))
    (cases_eq j i)
