-- State by state.
use Rattle.std.proofs.Common.{◌≡◌, ℕ, zero, suc, ◌+◌, ◌-◌, ◌*◌, ◌/◌, ◌%◌, ◌<◌, ◌≤◌, ltb, List, length, get_or, sym, refl, ap, ◌∙◌, subst, inl, inr, arith}
use Rattle.std.proofs.lemmas.Bool.{cases_lt, lt-ltb, le-ltb, cond-true, cond-false}
use Rattle.table.specs.Closure.{tried, closure}
use Rattle.table.specs.Filling.{Filled}
use Rattle.table.proofs.Fills.{tried-grows}

pub closure-more : (f : ℕ → ℕ → ℕ) (cols n i : ℕ) (sets : List ℕ) → i < n → i < length sets → closure f cols (n - i) i sets ≡ closure f cols (n - (i + 1)) (i + 1) (tried f (get_or sets i 0) 0 cols sets)
unfolding closure
closure-more f cols n i sets h l =
    let e : n - i ≡ suc (n - (i + 1)) = omega arith in
    ap (λ k. closure f cols k i sets) e ∙ cond-true _ _ _ (lt-ltb i (length sets) l)

pub closure-all : (f : ℕ → ℕ → ℕ) (cols n i : ℕ) (sets : List ℕ) → length sets ≤ i → closure f cols n i sets ≡ sets
unfolding closure
closure-all f cols zero i sets l = refl
closure-all f cols (suc n) i sets l = cond-false _ _ _ (le-ltb i (length sets) l)

pub closure-grows : (f : ℕ → ℕ → ℕ) (cols n i : ℕ) (sets : List ℕ) → length sets ≤ length (closure f cols n i sets)
unfolding closure
closure-grows f cols zero i sets = omega arith
closure-grows f cols (suc n) i sets =
    let t = tried f (get_or sets i 0) 0 cols sets in
    let g = tried-grows f (get_or sets i 0) 0 cols sets in
    let h = closure-grows f cols n (i + 1) t in
    elim (cases_lt i (length sets)) [
      | inl l ↦ omega (arith, ap length (cond-true (ltb i (length sets)) (closure f cols n (i + 1) t) sets (lt-ltb i (length sets) l)))
      | inr l ↦ omega (arith, ap length (cond-false (ltb i (length sets)) (closure f cols n (i + 1) t) sets (le-ltb i (length sets) l)))
    ]

pub record Closing (f : ℕ → ℕ → ℕ) (cols : ℕ) (start : List ℕ) (i : ℕ) (sets table : List ℕ) : Type 0 where
  pub going : closure f cols (32 - i) i sets ≡ closure f cols 32 0 start
  pub filled : Filled f cols (i * 16) sets table
  pub state : i ≤ length sets

pub closing_more : (f : ℕ → ℕ → ℕ) (cols : ℕ) (start : List ℕ) (i : ℕ) (sets table sets' table' : List ℕ) → i < 32 → i < length sets
    → sets' ≡ tried f (get_or sets i 0) 0 cols sets → Filled f cols ((i + 1) * 16) sets' table' → Closing f cols start i sets table → Closing f cols start (i + 1) sets' table'
closing_more f cols start i sets table sets' table' il l e h t = record {
  going = ap (closure f cols (32 - (i + 1)) (i + 1)) e ∙ sym (closure-more f cols 32 i sets il l) ∙ t.going;
  filled = h;
  state = omega (arith, ap length e, tried-grows f (get_or sets i 0) 0 cols sets);
}

pub closing_over : (f : ℕ → ℕ → ℕ) (cols : ℕ) (start : List ℕ) (i : ℕ) (sets table : List ℕ) → i < 32 → i < length sets
    → 32 < length (tried f (get_or sets i 0) 0 cols sets) → Closing f cols start i sets table → 32 < length (closure f cols 32 0 start)
closing_over f cols start i sets table il l h t =
    let s = tried f (get_or sets i 0) 0 cols sets in
    omega (arith, ap length (sym (closure-more f cols 32 i sets il l) ∙ t.going), closure-grows f cols (32 - (i + 1)) (i + 1) s)

pub closing_all : (f : ℕ → ℕ → ℕ) (cols : ℕ) (start : List ℕ) (i : ℕ) (sets table : List ℕ) → length sets ≤ i → Closing f cols start i sets table
    → (sets ≡ closure f cols 32 0 start) × Filled f cols (length sets * 16) sets table
closing_all f cols start i sets table l t =
    let e : i ≡ length sets = omega (arith, t.state) in
    (sym (closure-all f cols (32 - i) i sets l) ∙ t.going, subst (λ k. Filled f cols (k * 16) sets table) e t.filled)

-- every entry of a filled table is a state
pub filled_ok : (f : ℕ → ℕ → ℕ) (cols upto : ℕ) (sets table : List ℕ) → length sets ≤ 32 → Filled f cols upto sets table → (k : ℕ) → k < 512 → get_or table k 0 < 32
filled_ok f cols upto sets table few h k l = subst (λ n. get_or table n 0 < 32) (let e : k / 16 * 16 + k % 16 ≡ k = omega arith in e) (at (k / 16) (k % 16) (omega arith) (omega arith))
  where
    at : (a b : ℕ) → a < 32 → b < 16 → get_or table (a * 16 + b) 0 < 32
    at a b al bl = elim (cases_lt b cols) [
      | inl u ↦ elim (cases_lt (a * 16 + b) upto) [
        | inl v ↦ omega (arith, h.done a b u v, h.found a b u v)
        | inr v ↦ omega (arith, h.rest a b al bl (λ _. v))
      ]
      | inr u ↦ omega (arith, h.rest a b al bl (λ v. absurd (omega arith)))
    ]
