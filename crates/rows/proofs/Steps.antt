-- One row put after others.
use Rattle.std.proofs.Common.{◌≡◌, ℕ, ◌+◌, ◌-◌, ◌<◌, ◌≤◌, true, false, List, [], ◌∷◌, ◌++◌, length, get_or, take, drop, set, Some, None, Option, sym, refl, ap, ◌∙◌, arith}
use Rattle.std.specs.Str.{bytes_eq}
use Rattle.std.proofs.lemmas.List.{take_more_set, take-set-le, drop-append-le, drop-set-lt, length-take-le}
use Rattle.std.proofs.lemmas.Slice.{between_is}
use Rattle.rows.specs.declared.row.RowKind.TheVariants.{Close}
use Rattle.rows.specs.declared.row.Row.{Row}
use Rattle.machine.specs.Model.{Model}
use Rattle.rows.specs.Pieces.{Entry, name, base, done, close_last, Taken, take_row}
use Rattle.rows.specs.Places.{paired, at, NoneOpen, BaseAt, Based, entry, state, under_at}
use Rattle.rows.proofs.Pairs.{length-paired, set-paired, set-row-paired, base-none, base-at, close_at}

-- the state of other lists that are equal
pub state-of : {P : Type 0} {rs rs' : List Row} {ps ps' : List P} {t : Taken P} (left n : ℕ) (stop : Option ℕ) → rs' ≡ rs → ps' ≡ ps → state (paired rs ps) left n stop ≡ t → state (paired rs' ps') left n stop ≡ t
state-of left n stop r p e = cc

abbrev pushed : {P : Type 0} → Taken P → Entry P → Taken P
pushed t e = record { left = t.left; added = t.added ++ (e ∷ []); stop = None }

module _ {P Q : Type 0} (file : List ℕ) (m : Model P Q) where
  row-none : (t : Taken P) (e : Entry P) → t.stop ≡ None → base t.left ≡ None → take_row file m t e ≡ pushed t e
  row-none t e s b = grind arith

  row_under : (t : Taken P) (e b : Entry P) → t.stop ≡ None → base t.left ≡ Some b → (e.row.kind ≡ Close → ⊥) → take_row file m t e ≡ pushed t (record { row = e.row; act = m.then b.act e.act })
  row_under t e b s h k = grind arith

  row-closed : (t : Taken P) (e b : Entry P) → t.stop ≡ None → base t.left ≡ Some b → e.row.kind ≡ Close → bytes_eq (name file b.row) (name file e.row) ≡ true → take_row file m t e ≡ record { left = close_last t.left; added = t.added; stop = None }
  row-closed t e b s h k q = grind arith

  row-mismatch : (t : Taken P) (e b : Entry P) → t.stop ≡ None → base t.left ≡ Some b → e.row.kind ≡ Close → bytes_eq (name file b.row) (name file e.row) ≡ false → take_row file m t e ≡ record { left = t.left; added = t.added; stop = Some e.row.place }
  row-mismatch t e b s h k q = grind arith

  state-push : (z : List (Entry P)) (left n : ℕ) (e : Entry P) → n < length z → left ≤ n → state (set z n e) left (n + 1) None ≡ pushed (state z left n None) e
  state-push z left n e h l =
      let a = take-set-le left z n e l in
      let b : drop left (take (n + 1) (set z n e)) ≡ drop left (take n z) ++ (e ∷ []) =
      ap (drop left) (take_more_set z n e h) ∙ drop-append-le left (take n z) (e ∷ []) (let w = length-take-le n z (omega arith) in omega arith) in
      cc

  module _ (rs : List Row) (ps : List P) (sizes : length rs ≡ length ps) (left n : ℕ) (room : n < length rs) (within : left ≤ n) (row : Row) where
    abbrev z : List (Entry P)
    z = paired rs ps

    pub push_step : (p q : P) → q ≡ p → state (paired (set rs n row) (set ps n q)) left (n + 1) None ≡ pushed (state z left n None) (entry row p)
    push_step p q e =
        ap (λ x. state x left (n + 1) None) (set-paired rs ps n row q)
        ∙ state-push z left n (entry row q) (let w = length-paired rs ps sizes in omega arith) within
        ∙ ap (λ a. pushed (state z left n None) (record { row = row; act = a })) e

    pub none-step : (p : P) → NoneOpen rs 0 left → state (paired (set rs n row) (set ps n p)) left (n + 1) None ≡ take_row file m (state z left n None) (entry row p)
    none-step p none =
        push_step p p refl ∙ sym (row-none (state z left n None) (entry row p) refl (base-none rs ps left sizes (omega arith) none))

    module _ (i : ℕ) (at_i : BaseAt rs left i) where
      pub under-step : (p q r : P) → (row.kind ≡ Close → ⊥) → q ≡ m.then (get_or ps i r) p → state (paired (set rs n row) (set ps n q)) left (n + 1) None ≡ take_row file m (state z left n None) (entry row p)
      under-step p q r k e =
          push_step (m.then (get_or ps i r) p) q e
          ∙ sym (row_under (state z left n None) (entry row p) (entry (at rs i) (get_or ps i r)) refl (base-at rs ps left i r sizes (omega arith) at_i) k)

    -- a row that closes no base was added
    pub add-step : (base : Option ℕ) (p : P) → Based rs left base → (row.kind ≡ Close → base ≡ None) → state (paired (set rs n row) (set ps n (under_at m ps base p))) left (n + 1) None ≡ take_row file m (state z left n None) (entry row p)
    add-step None p b f = none-step p b
    add-step (Some i) p b f = under-step i b p (m.then (get_or ps i p) p) p (λ k. absurd (let e = f k in cc)) refl

    module _ (i : ℕ) (at_i : BaseAt rs left i) where
      pub close-step : (p : P) → row.kind ≡ Close → bytes_eq (name file (at rs i)) (name file row) ≡ true → state (paired (set rs i (done (at rs i))) ps) left n None ≡ take_row file m (state z left n None) (entry row p)
      close-step p k q =
          let new = paired (set rs i (done (at rs i))) ps in
          let a = close_at rs ps left i sizes (omega arith) at_i in
          let b : drop left (take n new) ≡ drop left (take n z) =
          sym (between_is new left n)
          ∙ ap (λ x. take (n - left) (drop left x)) (set-row-paired rs ps i (done (at rs i)) p sizes)
          ∙ ap (take (n - left)) (drop-set-lt left z i _ at_i.below)
          ∙ between_is z left n in
          let c = row-closed (state z left n None) (entry row p) (entry (at rs i) (get_or ps i p)) refl (base-at rs ps left i p sizes (omega arith) at_i) k q in
          cc

      pub mismatch-step : (p : P) → row.kind ≡ Close → bytes_eq (name file (at rs i)) (name file row) ≡ false → state z left n (Some row.place) ≡ take_row file m (state z left n None) (entry row p)
      mismatch-step p k q =
          sym (row-mismatch (state z left n None) (entry row p) (entry (at rs i) (get_or ps i p)) refl (base-at rs ps left i p sizes (omega arith) at_i) k q)
