-- Rows that keep the row rule, put after one another, keep it.
use Rattle.std.proofs.Common.{◌≡◌, ℕ, zero, suc, ◌<◌, ◌≤◌, Bool, true, false, cond, List, [], ◌∷◌, ◌++◌, length, take, drop, Some, None, Ok, Err, Option, Result, sym, subst, arith}
use Rattle.std.specs.Str.{bytes_eq}
use Rattle.std.proofs.lemmas.List.{get_or-drop}
use Rattle.tags.specs.declared.tag.TagKind.{TagKind}
use Rattle.tags.specs.declared.tag.TagFault.{TagFault}
use Rattle.tags.specs.Reads.{tag_at}
use Rattle.machine.specs.Model.{Model}
use Rattle.rows.specs.declared.row.RowKind.{RowKind}
use Rattle.rows.specs.declared.row.RowKind.TheVariants.{Close, Open, Done}
use Rattle.rows.specs.declared.row.Row.{Row}
use Rattle.rows.specs.declared.row.PieceFault.{PieceFault}
use Rattle.rows.specs.Pieces.{Entry, Taken, Content, Inside, name, base, close_last, as_done, is_close, closes, under, add, run, seal, fault_after, put}
use Rattle.rows.specs.Stretches.{made, one, eval_from}
use Rattle.rows.specs.Places.{paired, at, no_row}
use Rattle.rows.specs.Lists.{RowRule}
use Rattle.rows.proofs.Tags.{Within, tag-within}

module _ {P : Type 0} (file : List ℕ) where
  abbrev pub Ruled : List (Entry P) → Type 0
  Ruled [] = Unit {0}
  Ruled (e ∷ es) = Inside file e.row × Ruled es

  ruled-append : (xs ys : List (Entry P)) → Ruled xs → Ruled ys → Ruled (xs ++ ys)
  ruled-append [] ys f g = g
  ruled-append (x ∷ xs) ys f g = (f.0, ruled-append xs ys f.1 g)

  closed : (b : Bool) (e : Entry P) (es : List (Entry P)) → Inside file e.row → Ruled es → Ruled (cond b (e ∷ es) es)
  closed true e es h f = (h, f)
  closed false e es h f = f

  ruled-closes : (es : List (Entry P)) → Ruled es → Ruled (closes es)
  ruled-closes [] f = tt
  ruled-closes (e ∷ es) f = closed (is_close e) e (closes es) f.0 (ruled-closes es f.1)

  last-closed : (k : RowKind) (b : Option (Entry P)) (e : Entry P) (es ds : List (Entry P)) → Inside file e.row → Ruled es → Ruled ds → Ruled (elim k [ Close ↦ e ∷ ds | Open ↦ elim b [ None ↦ as_done e ∷ es | Some _ ↦ e ∷ ds ] | Done ↦ e ∷ ds ])
  last-closed Close b e es ds h f g = (h, g)
  last-closed Open None e es ds h f g = (h, f)
  last-closed Open (Some x) e es ds h f g = (h, g)
  last-closed Done b e es ds h f g = (h, g)

  ruled-close-last : (es : List (Entry P)) → Ruled es → Ruled (close_last es)
  ruled-close-last [] f = tt
  ruled-close-last (e ∷ es) f = last-closed e.row.kind (base es) e es (close_last es) f.0 f.1 (ruled-close-last es f.1)

  abbrev Both : Taken P → Type 0
  Both t = Ruled t.left × Ruled t.added

  by-same : (s : Bool) (x y : Taken P) → Both x → Both y → Both (elim s [ true ↦ x | false ↦ y ])
  by-same true x y f g = f
  by-same false x y f g = g

  by-base : (b : Option (Entry P)) (x : Taken P) (y : Entry P → Taken P) → Both x → ((e : Entry P) → Both (y e)) → Both (elim b [ None ↦ x | Some e ↦ y e ])
  by-base None x y f g = f
  by-base (Some e) x y f g = g e

  by_kind : (k : RowKind) (x y z : Taken P) → Both x → Both y → Both z → Both (elim k [ Close ↦ x | Open ↦ y | Done ↦ z ])
  by_kind Close x y z f g h = f
  by_kind Open x y z f g h = g
  by_kind Done x y z f g h = h

  module _ {Q : Type 0} (m : Model P Q) where
    ruled-under : (b : Option (Entry P)) (e : Entry P) → Inside file e.row → Inside file (under m b e).row
    ruled-under None e h = h
    ruled-under (Some b) e h = h

    ruled-run : (l rs : List (Entry P)) → Ruled l → Ruled rs → Both (run file m l rs)
    ruled-run l [] f g = (f, tt)
    ruled-run l (r ∷ rs) f g =
        let more = ruled-run l rs f g.1 in
        let put' : Both (add (under m (base l) r) (run file m l rs)) = (more.0, (ruled-under (base l) r g.0, more.1)) in
        by_kind r.row.kind _ _ _
        (by-base (base l) (add r (run file m l rs)) (λ b. elim (bytes_eq (name file b.row) (name file r.row)) [ true ↦ run file m (close_last l) rs | false ↦ record { left = l; added = []; stop = Some r.row.place } ])
        (more.0, (g.0, more.1))
        (λ b. by-same (bytes_eq (name file b.row) (name file r.row)) (run file m (close_last l) rs) (record { left = l; added = []; stop = Some r.row.place }) (ruled-run (close_last l) rs (ruled-close-last l f) g.1) (f, tt)))
        put' put'

    ruled-seal : (es : List (Entry P)) (f : Option PieceFault) → Ruled es → Ruled (seal es f).rows
    ruled-seal es None h = h
    ruled-seal es (Some f) h = ruled-closes es h

    ruled-after : (x c : Content P) (b : Option PieceFault) → Ruled x.rows → Ruled c.rows → Ruled (elim b as (λ _. Content P) [ Some f ↦ x | None ↦ c ]).rows
    ruled-after x c None f g = g
    ruled-after x c (Some e) f g = f

    pub ruled-put : (x y : Content P) → Ruled x.rows → Ruled y.rows → Ruled (put file m x y).rows
    ruled-put x y f g =
        let t = run file m x.rows y.rows in
        let h = ruled-run x.rows y.rows f g in
        ruled-after x (seal (t.left ++ t.added) (fault_after t.stop y.fault)) x.fault f
        (ruled-seal (t.left ++ t.added) (fault_after t.stop y.fault) (ruled-append t.left t.added h.0 h.1))

    ruled-made : (mark : ℕ) (t : Result (TagKind × List ℕ) TagFault) → Within file mark t → Ruled (made m mark t).rows
    ruled-made mark (Ok t) h = (h, tt)
    ruled-made mark (Err e) h = tt

    pub ruled-one : (s : ℕ × ℕ) → Ruled (one file m s).rows
    ruled-one s = ruled-made s.0 (tag_at file s.0 s.1) (tag-within file s.0 s.1)

    pub ruled-eval : (ss : List (ℕ × ℕ)) (c : Content P) → Ruled c.rows → Ruled (eval_from file m c ss).rows
    ruled-eval [] c f = f
    ruled-eval (s ∷ ss) c f = ruled-eval ss (put file m c (one file m s)) (ruled-put c (one file m s) f (ruled-one s))

  -- the same by places
  pub ruled-taken : (n : ℕ) (rs : List Row) (ps : List P) → length rs ≡ length ps → n ≤ length rs → ((k : ℕ) → k < n → Inside file (at rs k)) → Ruled (take n (paired rs ps))
  ruled-taken zero rs ps h l f = tt
  ruled-taken (suc n) [] ps h l f = tt
  ruled-taken (suc n) (r ∷ rs) [] h l f = tt
  ruled-taken (suc n) (r ∷ rs) (p ∷ ps) h l f = (f 0 (omega arith), ruled-taken n rs ps (omega arith) (omega arith) (λ k b. f (suc k) (omega arith)))

  pub ruled-at : (n : ℕ) (rs : List Row) (ps : List P) → length rs ≡ length ps → n ≤ length rs → Ruled (take n (paired rs ps)) → (k : ℕ) → k < n → Inside file (at rs k)
  ruled-at zero rs ps h l f k b = absurd (omega arith)
  ruled-at (suc n) [] ps h l f k b = absurd (omega arith)
  ruled-at (suc n) (r ∷ rs) [] h l f k b = absurd (omega arith)
  ruled-at (suc n) (r ∷ rs) (p ∷ ps) h l f zero b = f.0
  ruled-at (suc n) (r ∷ rs) (p ∷ ps) h l f (suc k) b = ruled-at n rs ps (omega arith) (omega arith) f.1 k (omega arith)

-- the names of rows that are counted from a place on
pub rule_drop : (file : List ℕ) (rs : List Row) (from n : ℕ) → RowRule file rs from n → (k : ℕ) → k < n → Inside file (at (drop from rs) k)
rule_drop file rs from n f k h = subst (Inside file) (sym (get_or-drop from rs k no_row)) (f k h)
