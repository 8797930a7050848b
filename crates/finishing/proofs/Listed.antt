-- How rows in a list end, by the places of those still open.
use Rattle.std.proofs.Common.{◌≡◌, ℕ, ◌<◌, ◌≤◌, true, false, ◌≢◌, List, [], ◌∷◌, ◌++◌, length, get_or, take, set, Some, None, Ok, Err, Option, Result, sym, refl, ap, ◌∙◌, arith, length-set, get_or-set_other}
use Rattle.std.proofs.lemmas.List.{take_all}
use Rattle.std.specs.Str.{bytes_eq}
use Rattle.machine.specs.Model.{Model}
use Rattle.rows.specs.declared.row.RowKind.TheVariants.{Close, Done}
use Rattle.rows.specs.declared.row.Row.{Row}
use Rattle.rows.specs.declared.row.PieceFault.{PieceFault}
use Rattle.rows.specs.Pieces.{Entry, Content, name, base, done, close_last, put}
use Rattle.rows.specs.Places.{no_row, at, NoneOpen, BaseAt, Based, entry, paired}
use Rattle.rows.specs.Stretches.{lone, one, last_put}
use Rattle.rows.proofs.Pairs.{length-paired, base-none, base-at, close_at}
use Rattle.rows.proofs.Bases.{based_set, based_closed}
use Rattle.rows.proofs.Keeps.{some_at}
use Rattle.answers.specs.declared.fault.Fault.{Fault}
use Rattle.answers.specs.declared.fault.Fault.TheVariants.{Mismatch, Stray, Unclosed}
use Rattle.answers.specs.Faults.{from_piece}
use Rattle.answers.specs.Finish.{first_close, finish}
use Rattle.finishing.specs.Ends.{first_close_row, stray, AllClosed, open_content, open_answered}
use Rattle.finishing.proofs.Endings.{closed-before, faulty, unmarked, marked, open-answer, done-answer, stray-last, mismatch-last, closed-last, under_last, done-last, closed-open, closed-done}

pub first-close_paired : {P : Type 0} (rs : List Row) (ps : List P) → length rs ≡ length ps → first_close (paired rs ps) ≡ first_close_row rs
first-close_paired [] ps h = refl
first-close_paired (r ∷ rs) [] h = absurd (omega arith)
first-close_paired (r ∷ rs) (p ∷ ps) h = let ih = first-close_paired rs ps (omega arith) in grind (arith, ih)

-- no row is a stray end tag
pub stray-none : (o : Option ℕ) (u : Unit {0}) → Ok u ≡ stray o → o ≡ None
stray-none None u e = refl
stray-none (Some p) u e = absurd (let z : ◌≡◌ {A = ℕ} 0 1 = cc in omega arith)

-- the first one is
stray-some : (o : Option ℕ) (f : Fault) → Err f ≡ stray o → (p : ℕ) × (o ≡ Some p) × (f ≡ Stray p)
stray-some None f e = absurd (let z : ◌≡◌ {A = ℕ} 0 1 = cc in omega arith)
stray-some (Some p) f e = (p, refl, (let z : ◌≡◌ {A = Result (Unit {0}) Fault} (Err f) (Err (Stray p)) = e in cc))

pub by-stray : {P Q : Type 0} (m : Model P Q) (rs : List Row) (ps : List P) → length rs ≡ length ps → (file : List ℕ) (e : ℕ × ℕ × ℕ) (fault : Option PieceFault) (f : Fault) → Err f ≡ stray (first_close_row rs) → Err f ≡ finish m (last_put file m e (record { rows = paired rs ps; fault = fault }))
by-stray m rs ps sizes file e fault f h =
    let s = stray-some (first_close_row rs) f h in
    ap Err s.2 ∙ sym (closed-before m file e (paired rs ps) fault s.0 (first-close_paired rs ps sizes ∙ s.1))

module _ {P Q : Type 0} (m : Model P Q) (rs : List Row) (ps : List P) (sizes : length rs ≡ length ps) (none : first_close_row rs ≡ None) where
  abbrev es : List (Entry P)
  es = paired rs ps

  pub no-close : first_close es ≡ None
  no-close = first-close_paired rs ps sizes ∙ none

  whole : (qs : List Row) → length qs ≡ length rs → take (length rs) (paired qs ps) ≡ paired qs ps
  whole qs h = take_all (length rs) (paired qs ps) (let e = length-paired qs ps (omega arith) in omega arith)

  no-base : NoneOpen rs 0 (length rs) → base es ≡ None
  no-base h = sym (ap base (whole rs refl)) ∙ base-none rs ps (length rs) sizes (omega arith) h

  some-base : (i : ℕ) → BaseAt rs (length rs) i → (b : Entry P) × (base es ≡ Some b) × (b.row ≡ at rs i)
  some-base i h =
      let x = some_at ps i (let l = h.below in omega arith) in
      (entry (at rs i) (get_or ps i x.0), sym (ap base (whole rs refl)) ∙ base-at rs ps (length rs) i x.0 sizes (omega arith) h, refl)

  -- the rows alone
  pub alone : (r : Result (Unit {0}) Fault) → AllClosed rs (length rs) r → open_answered m es r ≡ finish m (open_content es)
  alone (Ok u) h = sym (done-answer m [] es no-close (no-base h))
  alone (Err f) h =
      let b = some-base h.0 h.1 in
      ap Err h.2 ∙ ap (λ x. Err (Unclosed x.place)) (sym b.2) ∙ sym (open-answer m [] es b.0 no-close b.1)

  -- with the rows' own fault, and the last stretch where there is a mark
  module _ (file : List ℕ) (e : ℕ × ℕ × ℕ) (fault : Option PieceFault) where
    abbrev put_on : Content P
    put_on = last_put file m e (record { rows = es; fault = fault })

    without : fault ≡ None → put_on ≡ last_put file m e (open_content es)
    without f = ap (λ x. last_put file m e (record { rows = es; fault = x })) f

    pub by-fault : (f : PieceFault) → fault ≡ Some f → Err (from_piece f) ≡ finish m put_on
    by-fault f h = sym (ap (λ x. finish m (last_put file m e (record { rows = es; fault = x }))) h ∙ faulty m file e es f no-close)

    pub by_rows : (t : Result (Unit {0}) Fault) → fault ≡ None → e.2 ≤ 0 → AllClosed rs (length rs) t → open_answered m es t ≡ finish m put_on
    by_rows t f z h = alone t h ∙ ap (finish m) (sym (without f ∙ unmarked m file e es (omega arith)))

    pub by-stretch : fault ≡ None → 0 < e.2 → put file m (open_content es) (one file m (e.1, length file)) ≡ put_on
    by-stretch f z = sym (without f ∙ marked m file e es (one file m (e.1, length file)) (λ n. omega arith) refl)

  module _ (file : List ℕ) (r : Row) (a : P) where
    abbrev with-end : Content P
    with-end = put file m (open_content es) (lone r a)

    -- an end tag last

    pub end-stray : r.kind ≡ Close → NoneOpen rs 0 (length rs) → Err (Stray r.place) ≡ finish m with-end
    end-stray k h = sym (stray-last m file es no-close r a k (no-base h))

    pub end-mismatch : (i : ℕ) → r.kind ≡ Close → BaseAt rs (length rs) i → bytes_eq (name file (at rs i)) (name file r) ≡ false → Err (Mismatch r.place) ≡ finish m with-end
    end-mismatch i k h s =
        let b = some-base i h in
        sym (mismatch-last m file es no-close r a b.0 k b.1 (ap (λ x. bytes_eq (name file x) (name file r)) b.2 ∙ s))

    module _ (i : ℕ) (h : BaseAt rs (length rs) i) where
      abbrev shut : List Row
      shut = set rs i (done (at rs i))

      shut-rows : close_last es ≡ paired shut ps
      shut-rows = sym (ap close_last (whole rs refl)) ∙ close_at rs ps (length rs) i sizes (omega arith) h ∙ whole shut (length-set rs i (done (at rs i)))

      shut-based : (o : Option ℕ) → Based rs i o → Based shut (length rs) o
      shut-based o b = based_closed rs (length rs) i o h (omega arith) (based_set rs i i (done (at rs i)) o (omega arith) b)

      sized : length shut ≡ length ps
      sized = length-set rs i (done (at rs i)) ∙ sizes

      -- what is open once the base is closed
      left_open : (t : Result (Unit {0}) Fault) → AllClosed rs i t → open_answered m es t ≡ finish m (open_content (close_last es))
      left_open (Ok u) o =
          let b : base (close_last es) ≡ None = ap base (shut-rows ∙ sym (whole shut (length-set rs i (done (at rs i))))) ∙ base-none shut ps (length rs) sized (let e = length-set rs i (done (at rs i)) in omega arith) (shut-based None o) in
          sym (closed-done m file es no-close b)
      left_open (Err f) (j, o, e) =
          let x = some_at ps j (let l = o.below in let k = h.below in omega arith) in
          let b : base (close_last es) ≡ Some (entry (at shut j) (get_or ps j x.0)) = ap base (shut-rows ∙ sym (whole shut (length-set rs i (done (at rs i))))) ∙ base-at shut ps (length rs) j x.0 sized (let e = length-set rs i (done (at rs i)) in omega arith) (shut-based (Some j) o) in
          let ne : j ≢ i = let l = o.below in omega arith in
          ap Err e ∙ ap (λ y. Err (Unclosed y.place)) (sym (get_or-set_other rs i j (done (at rs i)) no_row ne)) ∙ sym (closed-open m file es no-close (entry (at shut j) (get_or ps j x.0)) b)

      pub end-closes : (t : Result (Unit {0}) Fault) → r.kind ≡ Close → bytes_eq (name file (at rs i)) (name file r) ≡ true → AllClosed rs i t → open_answered m es t ≡ finish m with-end
      end-closes t k s o =
          let b = some-base i h in
          left_open t o ∙ sym (closed-last m file es no-close r a b.0 k b.1 (ap (λ x. bytes_eq (name file x) (name file r)) b.2 ∙ s))

    -- an empty tag last

    pub end-done : (t : Result (Unit {0}) Fault) → r.kind ≡ Done → AllClosed rs (length rs) t → open_answered m (es ++ entry r a ∷ []) t ≡ finish m with-end
    end-done (Ok u) k h = sym (done-last m file es no-close r a k (no-base h))
    end-done (Err f) k h =
        let b = some-base h.0 h.1 in
        ap Err h.2 ∙ ap (λ x. Err (Unclosed x.place)) (sym b.2) ∙ sym (under_last m file es no-close r a b.0 k b.1)
