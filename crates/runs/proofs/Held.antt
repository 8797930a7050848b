-- What the lists hold of a piece, as two lists and as one of entries.
use Rattle.std.proofs.Common.{◌≡◌, List, [], ◌∷◌, map, refl, ap}
use Rattle.rows.specs.Pieces.{Entry}
use Rattle.rows.specs.Places.{paired}
use Rattle.runs.proofs.Mapped.{entry-by}

module _ {P : Type 0} where
  pub paired-of : (es : List (Entry P)) → paired (map (λ e. e.row) es) (map (λ e. e.act) es) ≡ es
  paired-of [] = refl
  paired-of (e ∷ es) = ap (λ x. e ∷ x) (paired-of es)

module _ {A B : Type 0} (h : A → B) where
  pub rows-mapped : (es : List (Entry A)) → map (λ e. e.row) (map (entry-by h) es) ≡ map (λ e. e.row) es
  rows-mapped [] = refl
  rows-mapped (e ∷ es) = ap (λ x. e.row ∷ x) (rows-mapped es)

  pub acts-mapped : (es : List (Entry A)) → map (λ e. e.act) (map (entry-by h) es) ≡ map h (map (λ e. e.act) es)
  acts-mapped [] = refl
  acts-mapped (e ∷ es) = ap (λ x. h e.act ∷ x) (acts-mapped es)
