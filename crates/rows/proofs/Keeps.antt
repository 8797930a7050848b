-- The steps of a loop that keeps the Close rows in place.
use Rattle.std.proofs.Common.{◌≡◌, ℕ, zero, suc, ◌+◌, ◌<◌, true, false, List, [], ◌∷◌, length, get_or, set, sym, refl, ap, ◌∙◌, subst, arith}
use Rattle.std.proofs.lemmas.List.Filters.{FiltersInPlace, FiltersInPlace-more_set, FiltersInPlace-more_no}
use Rattle.rows.specs.declared.row.RowKind.TheVariants.{Close}
use Rattle.rows.specs.declared.row.Row.{Row}
use Rattle.rows.specs.Pieces.{Entry, is_close}
use Rattle.rows.specs.Places.{paired, at, entry}
use Rattle.rows.proofs.Pairs.{length-paired, set-paired, read-paired}

closes-it : {P : Type 0} (e : Entry P) → e.row.kind ≡ Close → is_close e ≡ true
closes-it e h = grind arith

leaves_it : {P : Type 0} (e : Entry P) → (e.row.kind ≡ Close → ⊥) → is_close e ≡ false
leaves_it e h = grind arith

-- an element, where there is one
pub some_at : {X : Type 0} (xs : List X) (i : ℕ) → i < length xs → (x : X) × (x ≡ get_or xs i x)
some_at [] i h = absurd (omega arith)
some_at (x ∷ xs) zero h = (x, refl)
some_at (x ∷ xs) (suc i) h = some_at xs i (omega arith)

module _ {P : Type 0} (z0 : List (Entry P)) (rs : List Row) (ps : List P) (sizes : length rs ≡ length ps) (k i : ℕ) (keeps : FiltersInPlace is_close z0 (paired rs ps) k i) (here : i < length rs) where
  pub keep-more : (rs' : List Row) (ps' : List P) (k' : ℕ) (p : P) → p ≡ get_or ps i p → (at rs i).kind ≡ Close → rs' ≡ set rs k (at rs i) → ps' ≡ set ps k p → k' ≡ k + 1 → FiltersInPlace is_close z0 (paired rs' ps') k' (i + 1)
  keep-more rs' ps' k' p e c f g q =
      let long = length-paired rs ps sizes in
      let x = entry (at rs i) p in
      let h : i < length (paired rs ps) = omega arith in
      let step : FiltersInPlace is_close z0 (set (paired rs ps) k x) (k + 1) (i + 1) = FiltersInPlace-more_set keeps h (closes-it x c) (read-paired rs ps i p sizes here e) in
      let w : set (paired rs ps) k x ≡ paired rs' ps' = sym (ap (λ r. paired r ps') f ∙ ap (paired (set rs k (at rs i))) g ∙ set-paired rs ps k (at rs i) p) in
      subst (λ n. FiltersInPlace is_close z0 (paired rs' ps') n (i + 1)) (sym q) (subst (λ z. FiltersInPlace is_close z0 z (k + 1) (i + 1)) w step)

  pub keep-less : (rs' : List Row) (ps' : List P) (k' : ℕ) → ((at rs i).kind ≡ Close → ⊥) → rs' ≡ rs → ps' ≡ ps → k' ≡ k → FiltersInPlace is_close z0 (paired rs' ps') k' (i + 1)
  keep-less rs' ps' k' c f g q =
      let long = length-paired rs ps sizes in
      let h : i < length (paired rs ps) = omega arith in
      let p = some_at ps i (omega arith) in
      let x = entry (at rs i) p.0 in
      let step : FiltersInPlace is_close z0 (paired rs ps) k (i + 1) = FiltersInPlace-more_no keeps h (leaves_it x c) (read-paired rs ps i p.0 sizes here p.1) in
      let w : paired rs ps ≡ paired rs' ps' = sym (ap (λ r. paired r ps') f ∙ ap (paired rs) g) in
      subst (λ n. FiltersInPlace is_close z0 (paired rs' ps') n (i + 1)) (sym q) (subst (λ z. FiltersInPlace is_close z0 z k (i + 1)) w step)
