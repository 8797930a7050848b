-- What a content answers with one stretch more, by its first Close row, its fault and its base.
use Rattle.std.proofs.Common.{◌≡◌, ℕ, true, false, cond, eqb, List, [], ◌∷◌, ◌++◌, length, Some, None, Ok, Err, Option, sym, refl, ap, ◌∙◌, append-nil, arith}
use Rattle.std.proofs.lemmas.Bool.{eq-eqb, ne_eqb}
use Rattle.std.specs.Str.{bytes_eq}
use Rattle.machine.specs.Model.{Model}
use Rattle.rows.specs.declared.row.RowKind.TheVariants.{Close, Open, Done}
use Rattle.rows.specs.declared.row.Row.{Row}
use Rattle.rows.specs.declared.row.PieceFault.{PieceFault}
use Rattle.rows.specs.declared.row.PieceFault.TheVariants as piece
use Rattle.rows.specs.Pieces.{Entry, Content, name, base, close_last, closes, under, put}
use Rattle.rows.specs.Stretches.{lone, one, last_put}
use Rattle.answers.specs.declared.fault.Fault.TheVariants.{Mismatch, Stray, Unclosed}
use Rattle.answers.specs.Faults.{from_piece}
use Rattle.answers.specs.Finish.{first_close, row_matches, finish}
use Rattle.finishing.specs.Ends.{open_content}
use Rattle.answers.proofs.Joins.{base-append}
use Rattle.answers.proofs.Wholes.{first-close-append, first-close-closes, first-close-last, row-matches-last, finish-close}

not-open_close : Open ≡ Close → ⊥
not-open_close e = let z : ◌≡◌ {A = ℕ} 0 1 = cc in omega arith

not-done_close : Done ≡ Close → ⊥
not-done_close e = let z : ◌≡◌ {A = ℕ} 0 1 = cc in omega arith

module _ {A P : Type 0} (m : Model A P) (file : List ℕ) where
  -- The answer of a content.

  fault-answer : (es : List (Entry A)) (f : PieceFault) → first_close es ≡ None → finish m (record { rows = es; fault = Some f }) ≡ Err (from_piece f)
  fault-answer es f h = grind arith

  pub open-answer : (es : List (Entry A)) (b : Entry A) → first_close es ≡ None → base es ≡ Some b → finish m (open_content es) ≡ Err (Unclosed b.row.place)
  open-answer es b h k = grind arith

  pub done-answer : (es : List (Entry A)) → first_close es ≡ None → base es ≡ None → finish m (open_content es) ≡ Ok (row_matches m es)
  done-answer es h k = grind arith

  -- With the last stretch put on.

  module _ (e : ℕ × ℕ × ℕ) (es : List (Entry A)) where
    abbrev put_on : Option PieceFault → Content A
    put_on f = last_put file m e (record { rows = es; fault = f })

    pub closed-before : (f : Option PieceFault) (p : ℕ) → first_close es ≡ Some p → finish m (put_on f) ≡ Err (Stray p)
    closed-before f p h =
        let c : Content A = record { rows = es; fault = f } in
        elim (eqb e.2 0) as (λ t. finish m (cond t c (put file m c (one file m (e.1, length file)))) ≡ Err (Stray p)) [
          | true ↦ finish-close file m c [] p h
          | false ↦ finish-close file m c ((e.1, length file) ∷ []) p h
        ]

    pub faulty : (f : PieceFault) → first_close es ≡ None → finish m (put_on (Some f)) ≡ Err (from_piece f)
    faulty f h = elim (eqb e.2 0) as (λ t. finish m (cond t (record { rows = es; fault = Some f }) (record { rows = es; fault = Some f })) ≡ Err (from_piece f)) [
      | true ↦ fault-answer es f h
      | false ↦ fault-answer es f h
    ]

    pub unmarked : e.2 ≡ 0 → put_on None ≡ open_content es
    unmarked z = ap (λ t. cond t (open_content es) (put file m (open_content es) (one file m (e.1, length file)))) (eq-eqb e.2 0 z)

    pub marked : (y : Content A) → (e.2 ≡ 0 → ⊥) → y ≡ one file m (e.1, length file) → put_on None ≡ put file m (open_content es) y
    marked y n q =
        ap (λ t. cond t (open_content es) (put file m (open_content es) (one file m (e.1, length file)))) (ne_eqb e.2 0 n)
        ∙ ap (put file m (open_content es)) (sym q)

  module _ (es : List (Entry A)) (no-close : first_close es ≡ None) where
    pub bad_last : (f : PieceFault) → finish m (put file m (open_content es) (record { rows = []; fault = Some f })) ≡ Err (from_piece f)
    bad_last f = fault-answer (closes (es ++ [])) f (first-close-closes (es ++ []) ∙ ap first_close (append-nil es) ∙ no-close)

    module _ (r : Row) (a : A) where
      abbrev end : Entry A
      end = record { row = r; act = a }

      abbrev with-end : Content A
      with-end = put file m (open_content es) (lone r a)

      pub stray-last : r.kind ≡ Close → base es ≡ None → finish m with-end ≡ Err (Stray r.place)
      stray-last k b =
          let p : with-end ≡ open_content (es ++ end ∷ []) = grind arith in
          let c : first_close (es ++ end ∷ []) ≡ Some r.place = first-close-append es (end ∷ []) ∙ grind arith in
          ap (finish m) p ∙ finish-close file m (open_content (es ++ end ∷ [])) [] r.place c

      pub mismatch-last : (b : Entry A) → r.kind ≡ Close → base es ≡ Some b → bytes_eq (name file b.row) (name file r) ≡ false → finish m with-end ≡ Err (Mismatch r.place)
      mismatch-last b k h s =
          let p : with-end ≡ record { rows = closes (es ++ []); fault = Some (piece.Mismatch r.place) } = grind arith in
          ap (finish m) p ∙ fault-answer (closes (es ++ [])) (piece.Mismatch r.place) (first-close-closes (es ++ []) ∙ ap first_close (append-nil es) ∙ no-close)

      pub closed-last : (b : Entry A) → r.kind ≡ Close → base es ≡ Some b → bytes_eq (name file b.row) (name file r) ≡ true → finish m with-end ≡ finish m (open_content (close_last es))
      closed-last b k h s =
          let p : with-end ≡ open_content (close_last es ++ []) = grind arith in
          ap (finish m) (p ∙ ap open_content (append-nil (close_last es)))

      -- the row as it is added
      abbrev added : Entry A
      added = under m (base es) end

      added-row : (o : Option (Entry A)) → (under m o end).row ≡ r
      added-row None = refl
      added-row (Some b) = refl

      not-close : (o : Entry A) → (o.row.kind ≡ Close → ⊥) → first_close (es ++ o ∷ []) ≡ None
      not-close o k = first-close-append es (o ∷ []) ∙ grind arith

      pub open-last : r.kind ≡ Open → finish m with-end ≡ Err (Unclosed r.place)
      open-last k =
          let p : with-end ≡ open_content (es ++ added ∷ []) = grind arith in
          let e = added-row (base es) in
          let o : added.row.kind ≡ Open = ap (λ x. x.kind) e ∙ k in
          let b : base (es ++ added ∷ []) ≡ Some added = base-append es (added ∷ []) ∙ grind arith in
          ap (finish m) p ∙ open-answer (es ++ added ∷ []) added (not-close added (λ c. not-open_close (sym o ∙ c))) b ∙ ap (λ x. Err (Unclosed x.place)) e

      pub under_last : (b : Entry A) → r.kind ≡ Done → base es ≡ Some b → finish m with-end ≡ Err (Unclosed b.row.place)
      under_last b k h =
          let p : with-end ≡ open_content (es ++ added ∷ []) = grind arith in
          let o : added.row.kind ≡ Done = ap (λ x. x.kind) (added-row (base es)) ∙ k in
          let c : base (es ++ added ∷ []) ≡ Some b = base-append es (added ∷ []) ∙ grind arith in
          ap (finish m) p ∙ open-answer (es ++ added ∷ []) b (not-close added (λ d. not-done_close (sym o ∙ d))) c

      pub done-last : r.kind ≡ Done → base es ≡ None → finish m with-end ≡ Ok (row_matches m (es ++ end ∷ []))
      done-last k h =
          let p : with-end ≡ open_content (es ++ end ∷ []) = grind arith in
          let c : base (es ++ end ∷ []) ≡ None = base-append es (end ∷ []) ∙ grind arith in
          ap (finish m) p ∙ done-answer (es ++ end ∷ []) (not-close end (λ d. not-done_close (sym k ∙ d))) c

    -- where the last end tag closed the base
    pub closed-open : (b : Entry A) → base (close_last es) ≡ Some b → finish m (open_content (close_last es)) ≡ Err (Unclosed b.row.place)
    closed-open b h = open-answer (close_last es) b (first-close-last es ∙ no-close) h

    pub closed-done : base (close_last es) ≡ None → finish m (open_content (close_last es)) ≡ Ok (row_matches m es)
    closed-done h = done-answer (close_last es) (first-close-last es ∙ no-close) h ∙ ap Ok (row-matches-last file m es)
