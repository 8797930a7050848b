-- Rows paired with their actions.
use Rattle.std.proofs.Common.{◌≡◌, ℕ, zero, suc, ◌<◌, ◌≤◌, List, [], ◌∷◌, length, get_or, take, drop, set, Some, None, sym, refl, ap, ◌∙◌, arith}
use Rattle.rows.specs.declared.row.RowKind.TheVariants.{Open}
use Rattle.rows.specs.declared.row.Row.{Row}
use Rattle.rows.specs.Pieces.{Entry, base, done, close_last}
use Rattle.rows.specs.Places.{paired, no_row, at, NoneOpen, BaseAt, entry}

module _ {P : Type 0} where
  pub length-paired : (rs : List Row) (ps : List P) → length rs ≡ length ps → length (paired rs ps) ≡ length rs
  length-paired [] ps h = refl
  length-paired (r ∷ rs) [] h = absurd (omega arith)
  length-paired (r ∷ rs) (p ∷ ps) h = ap suc (length-paired rs ps (omega arith))

  pub getD-paired : (rs : List Row) (ps : List P) (i : ℕ) (d : Entry P) (e : Row) (q : P) → length rs ≡ length ps → i < length rs → get_or (paired rs ps) i d ≡ entry (get_or rs i e) (get_or ps i q)
  getD-paired [] ps i d e q h l = absurd (omega arith)
  getD-paired (r ∷ rs) [] i d e q h l = absurd (omega arith)
  getD-paired (r ∷ rs) (p ∷ ps) zero d e q h l = refl
  getD-paired (r ∷ rs) (p ∷ ps) (suc i) d e q h l = getD-paired rs ps i d e q (omega arith) (omega arith)

  pub set-paired : (rs : List Row) (ps : List P) (i : ℕ) (r : Row) (p : P) → paired (set rs i r) (set ps i p) ≡ set (paired rs ps) i (entry r p)
  set-paired [] ps i r p = refl
  set-paired (x ∷ rs) [] zero r p = refl
  set-paired (x ∷ rs) [] (suc i) r p = refl
  set-paired (x ∷ rs) (y ∷ ps) zero r p = refl
  set-paired (x ∷ rs) (y ∷ ps) (suc i) r p = ap (λ l. entry x y ∷ l) (set-paired rs ps i r p)

  -- only the row is written
  pub set-row-paired : (rs : List Row) (ps : List P) (i : ℕ) (r : Row) (q : P) → length rs ≡ length ps → paired (set rs i r) ps ≡ set (paired rs ps) i (entry r (get_or ps i q))
  set-row-paired [] ps i r q h = refl
  set-row-paired (x ∷ rs) [] i r q h = absurd (omega arith)
  set-row-paired (x ∷ rs) (y ∷ ps) zero r q h = refl
  set-row-paired (x ∷ rs) (y ∷ ps) (suc i) r q h = ap (λ l. entry x y ∷ l) (set-row-paired rs ps i r q (omega arith))

  pub take-paired : (n : ℕ) (rs : List Row) (ps : List P) → paired (take n rs) (take n ps) ≡ take n (paired rs ps)
  take-paired zero rs ps = refl
  take-paired (suc n) [] ps = refl
  take-paired (suc n) (r ∷ rs) [] = refl
  take-paired (suc n) (r ∷ rs) (p ∷ ps) = ap (λ l. entry r p ∷ l) (take-paired n rs ps)

  pub drop-paired : (n : ℕ) (rs : List Row) (ps : List P) → length rs ≡ length ps → paired (drop n rs) (drop n ps) ≡ drop n (paired rs ps)
  drop-paired zero rs ps h = refl
  drop-paired (suc n) [] ps h = refl
  drop-paired (suc n) (r ∷ rs) [] h = absurd (omega arith)
  drop-paired (suc n) (r ∷ rs) (p ∷ ps) h = drop-paired n rs ps (omega arith)

  pub base-none : (rs : List Row) (ps : List P) (n : ℕ) → length rs ≡ length ps → n ≤ length rs → NoneOpen rs 0 n → base (take n (paired rs ps)) ≡ None
  base-none rs ps zero h l f = refl
  base-none [] ps (suc n) h l f = refl
  base-none (r ∷ rs) [] (suc n) h l f = refl
  base-none (r ∷ rs) (p ∷ ps) (suc n) h l f =
      let ih = base-none rs ps n (omega arith) (omega arith) (λ k a b o. f (suc k) (omega arith) (omega arith) o) in
      let z : r.kind ≡ Open → ⊥ = λ o. f 0 (omega arith) (omega arith) o in
      grind arith

  pub base-at : (rs : List Row) (ps : List P) (n i : ℕ) (q : P) → length rs ≡ length ps → n ≤ length rs → BaseAt rs n i → base (take n (paired rs ps)) ≡ Some (entry (at rs i) (get_or ps i q))
  base-at rs ps zero i q h l b = absurd (omega arith)
  base-at [] ps (suc n) i q h l b = absurd (omega arith)
  base-at (r ∷ rs) [] (suc n) i q h l b = absurd (omega arith)
  base-at (r ∷ rs) (p ∷ ps) (suc n) zero q h l b =
      let e = base-none rs ps n (omega arith) (omega arith) (λ k x y o. b.last (suc k) (omega arith) (omega arith) o) in
      let o = b.is_open in
      grind arith
  base-at (r ∷ rs) (p ∷ ps) (suc n) (suc i) q h l b =
      let ih = base-at rs ps n i q (omega arith) (omega arith) (record { below = omega arith; is_open = b.is_open; last = λ k x y o. b.last (suc k) (omega arith) (omega arith) o }) in
      grind arith

  pub close_at : (rs : List Row) (ps : List P) (n i : ℕ) → length rs ≡ length ps → n ≤ length rs → BaseAt rs n i → close_last (take n (paired rs ps)) ≡ take n (paired (set rs i (done (at rs i))) ps)
  close_at rs ps zero i h l b = absurd (omega arith)
  close_at [] ps (suc n) i h l b = absurd (omega arith)
  close_at (r ∷ rs) [] (suc n) i h l b = absurd (omega arith)
  close_at (r ∷ rs) (p ∷ ps) (suc n) zero h l b =
      let e = base-none rs ps n (omega arith) (omega arith) (λ k x y o. b.last (suc k) (omega arith) (omega arith) o) in
      let o = b.is_open in
      grind arith
  close_at (r ∷ rs) (p ∷ ps) (suc n) (suc i) h l b =
      let c : BaseAt rs n i = record { below = omega arith; is_open = b.is_open; last = λ k x y o. b.last (suc k) (omega arith) (omega arith) o } in
      let ih = close_at rs ps n i (omega arith) (omega arith) c in
      let e = base-at rs ps n i p (omega arith) (omega arith) c in
      grind arith

  -- what a read at k of both gives
  pub read-paired : (rs : List Row) (ps : List P) (k : ℕ) (p : P) → length rs ≡ length ps → k < length rs → p ≡ get_or ps k p → entry (at rs k) p ≡ get_or (paired rs ps) k (entry (at rs k) p)
  read-paired rs ps k p h l e = ap (entry (at rs k)) e ∙ sym (getD-paired rs ps k (entry (at rs k) p) no_row p h l)
