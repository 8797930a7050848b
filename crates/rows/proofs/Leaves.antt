-- What stands in the lists after a content was written into them.
use Rattle.std.proofs.Common.{◌≡◌, ℕ, ◌+◌, ◌-◌, ◌<◌, ◌≤◌, List, [], ◌∷◌, ◌++◌, map, length, take, drop, sym, refl, ap, ◌∙◌, subst, arith}
use borrow.Rule.Slice.PartMut.{put_mid}
use Rattle.std.proofs.lemmas.List.{length-take-le, length-append, take-append-drop, drop-drop, get_or_append_left, get_or-append-add}
use Rattle.rows.specs.declared.row.Row.{Row}
use Rattle.rows.specs.declared.part.Kept.{Kept}
use Rattle.rows.specs.Pieces.{Content, Inside}
use Rattle.rows.specs.Places.{paired, at, no_row}
use Rattle.rows.specs.Lists.{kept_of, rows_of, actions_of, Written, RowRule}
use Rattle.rows.proofs.Pairs.{length-paired, take-paired}

-- ys stands from a place on, up to as many as there are marks, and begins with those made
pub written : {X : Type 0} (old ys made : List X) (from marks n : ℕ) → length ys ≡ marks → n ≤ marks → take n ys ≡ made → Written from marks made old (take from old ++ (ys ++ drop (from + marks) old))
written old ys made from marks n size h e =
    let whole : made ++ drop n ys ≡ ys = ap (λ x. x ++ drop n ys) (sym e) ∙ take-append-drop n ys in
    let long : length (made ++ drop n ys) ≡ marks = ap length whole ∙ size in
    record {
      free = drop n ys;
      fits = omega (arith, sym (length-append made (drop n ys)) ∙ long);
      is = sym (ap (λ k. take from old ++ ((made ++ drop n ys) ++ drop (from + k) old)) long ∙ ap (λ x. take from old ++ (x ++ drop (from + marks) old)) whole);
    }

module _ {P : Type 0} where
  rows-paired : (rs : List Row) (ps : List P) → length rs ≡ length ps → map (λ e. e.row) (paired rs ps) ≡ rs
  rows-paired [] ps h = refl
  rows-paired (r ∷ rs) [] h = absurd (omega arith)
  rows-paired (r ∷ rs) (p ∷ ps) h = ap (λ x. r ∷ x) (rows-paired rs ps (omega arith))

  actions-paired : (rs : List Row) (ps : List P) → length rs ≡ length ps → map (λ e. e.act) (paired rs ps) ≡ ps
  actions-paired [] [] h = refl
  actions-paired [] (p ∷ ps) h = absurd (omega arith)
  actions-paired (r ∷ rs) [] h = absurd (omega arith)
  actions-paired (r ∷ rs) (p ∷ ps) h = ap (λ x. p ∷ x) (actions-paired rs ps (omega arith))

  -- a content that stands at the beginning of two lists
  module _ (rs : List Row) (ps : List P) (k : Kept) (c : Content P) (sizes : length rs ≡ length ps) (high : k.rows ≤ length rs) (is : record { rows = take k.rows (paired rs ps); fault = k.fault } ≡ c) where
    pub kept-is : k ≡ kept_of c
    kept-is =
        let e : length (take k.rows (paired rs ps)) ≡ k.rows = length-take-le k.rows (paired rs ps) (let w = length-paired rs ps sizes in omega arith) in
        ap (λ n. record { rows = n; fault = k.fault }) (sym e) ∙ ap kept_of is

    same : length (take k.rows rs) ≡ length (take k.rows ps)
    same = length-take-le k.rows rs high ∙ sym (length-take-le k.rows ps (omega arith))

    pub rows_are : take k.rows rs ≡ rows_of c
    rows_are = sym (rows-paired (take k.rows rs) (take k.rows ps) same) ∙ ap (map (λ e. e.row)) (take-paired k.rows rs ps) ∙ ap rows_of is

    pub actions_are : take k.rows ps ≡ actions_of c
    actions_are = sym (actions-paired (take k.rows rs) (take k.rows ps) same) ∙ ap (map (λ e. e.act)) (take-paired k.rows rs ps) ∙ ap actions_of is

-- the list after its part from one place to another was written
pub mid_is : {X : Type 0} (old ys : List X) (from marks : ℕ) → put_mid from (from + marks - from) old ys ≡ take from old ++ (ys ++ drop (from + marks) old)
mid_is old ys from marks =
    let e : from + marks - from ≡ marks = omega arith in
    ap (λ k. take from old ++ (ys ++ drop k (drop from old))) e ∙ ap (λ x. take from old ++ (ys ++ x)) (drop-drop marks from old)

pub rule_mid : (file : List ℕ) (old ys zs : List Row) (from n : ℕ) → from ≤ length old → n ≤ length ys → ((k : ℕ) → k < n → Inside file (at ys k)) → RowRule file (take from old ++ (ys ++ zs)) from n
rule_mid file old ys zs from n h l f k b =
    let size = length-take-le from old h in
    subst (Inside file)
    (sym (ap (λ i. at (take from old ++ (ys ++ zs)) (i + k)) (sym size) ∙ get_or-append-add (take from old) (ys ++ zs) k no_row ∙ get_or_append_left ys zs no_row k (omega arith)))
    (f k b)
