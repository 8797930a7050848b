-- What is known once every question is answered yes.
use Rattle.std.proofs.Common.{◌≡◌, ℕ, ◌+◌, ◌<◌, ◌≤◌, Bool, true, false, ◌&&◌, eqb, ltb, leb, List, length, get_or, set, Some, None, Option, sym, refl, ap, ◌∙◌, subst, ⊎_elim, arith}
use Rattle.std.proofs.lemmas.Bool.{eqb-true, leb-true, ltb-true, and_parts, cases_eq}
use Rattle.std.proofs.lemmas.List.{get_or-set_same, get_or-set_other}
use Rattle.tags.specs.Marks.{scanned}
use Rattle.machine.specs.declared.refusal.Refusal.{Refusal}
use Rattle.job.specs.declared.piece.Piece.{Piece}
use Rattle.job.specs.Pieces.{InPlace, no_piece}
use Rattle.job.specs.State.{State, World, nth_piece, joined_marks, ruled, ask, asked_lists, asked_room, asked_whole, asked_read, asked_join, Turns}

pub asked-yes : (b : Bool) (why : Refusal) (later : Option Refusal) → ask b why later ≡ None → (b ≡ true) × (later ≡ None)
asked-yes true why later e = (refl, e)
asked-yes false why later e = absurd (let z : ◌≡◌ {A = ℕ} 0 1 = cc in omega arith)

pub turns_none : (o : Option Refusal) (R : Refusal → Type 0) (A : Type 0) → o ≡ None → A → Turns o R A
turns_none o R A e a = subst (λ x. Turns x R A) (sym e) a

pub turns_some : (o : Option Refusal) (why : Refusal) (R : Refusal → Type 0) (A : Type 0) → o ≡ Some why → R why → Turns o R A
turns_some o why R A e a = subst (λ x. Turns x R A) (sym e) a

pub record Reach (j : State) (size rs ps : ℕ) : Type 0 where
  pub same : size ≡ j.size
  pub over_rows : j.used ≤ rs
  pub over_acts : j.used ≤ ps

pub record Room (j : State) (rs ps marks : ℕ) : Type 0 where
  pub few : length j.pieces < 128
  pub in_rows : j.used + marks ≤ rs
  pub in_acts : j.used + marks ≤ ps

reach : (j : State) (size rs ps : ℕ) (later : Option Refusal) → asked_lists j size rs ps later ≡ None → Reach j size rs ps × (later ≡ None)
reach j size rs ps later e =
    let a = asked-yes _ _ _ e in
    let b = asked-yes (leb j.used rs && leb j.used ps) _ later a.1 in
    let p = and_parts (leb j.used rs) (leb j.used ps) b.0 in
    (record { same = eqb-true _ _ a.0; over_rows = leb-true _ _ p.0; over_acts = leb-true _ _ p.1 }, b.1)

room : (j : State) (rs ps marks : ℕ) → asked_room j rs ps marks ≡ None → Room j rs ps marks
room j rs ps marks e =
    let a = asked-yes (ltb (length j.pieces) 128) _ _ e in
    let b = asked-yes (leb (j.used + marks) rs && leb (j.used + marks) ps) _ None a.1 in
    let p = and_parts (leb (j.used + marks) rs) (leb (j.used + marks) ps) b.0 in
    record { few = ltb-true _ _ a.0; in_rows = leb-true _ _ p.0; in_acts = leb-true _ _ p.1 }

module _ {P : Type 0} (file : List ℕ) (w : World P) where
  pub record ReadFree (from to : ℕ) : Type 0 where
    pub reaches : Reach w.job (length file) (length w.rows) (length w.actions)
    pub order : from ≤ to
    pub end : to ≤ w.job.size
    pub roomy : Room w.job (length w.rows) (length w.actions) (scanned file from to).2

  pub read-free : (from to : ℕ) → asked_read file w from to ≡ None → ReadFree from to
  read-free from to h =
      let x = reach w.job (length file) (length w.rows) (length w.actions) _ h in
      let y = asked-yes (leb from to && leb to w.job.size) _ _ x.1 in
      let p = and_parts (leb from to) (leb to w.job.size) y.0 in
      record { reaches = x.0; order = leb-true _ _ p.0; end = leb-true _ _ p.1; roomy = room w.job (length w.rows) (length w.actions) (scanned file from to).2 y.1 }

  pub record JoinFree (left right : ℕ) : Type 0 where
    pub reaches : Reach w.job (length file) (length w.rows) (length w.actions)
    pub left-made : left < length w.job.pieces
    pub right-made : right < length w.job.pieces
    pub meet : (nth_piece w.job left).to ≡ (nth_piece w.job right).from
    pub left-ruled : ruled file w.rows (nth_piece w.job left) ≡ true
    pub right-ruled : ruled file w.rows (nth_piece w.job right) ≡ true
    pub roomy : Room w.job (length w.rows) (length w.actions) (joined_marks (nth_piece w.job left) (nth_piece w.job right)).2

  pub join_free : (left right : ℕ) → asked_join file w left right ≡ None → JoinFree left right
  join_free left right h =
      let n = length w.job.pieces in
      let l = nth_piece w.job left in
      let r = nth_piece w.job right in
      let x = reach w.job (length file) (length w.rows) (length w.actions) _ h in
      let y = asked-yes (ltb left n && ltb right n) _ _ x.1 in
      let p = and_parts (ltb left n) (ltb right n) y.0 in
      let z = asked-yes (eqb l.to r.from) _ _ y.1 in
      let u = asked-yes (ruled file w.rows l && ruled file w.rows r) _ _ z.1 in
      let q = and_parts (ruled file w.rows l) (ruled file w.rows r) u.0 in
      record {
        reaches = x.0;
        left-made = ltb-true _ _ p.0;
        right-made = ltb-true _ _ p.1;
        meet = eqb-true _ _ z.0;
        left-ruled = q.0;
        right-ruled = q.1;
        roomy = room w.job (length w.rows) (length w.actions) (joined_marks l r).2 u.1;
      }

  pub record FinishFree (piece : ℕ) : Type 0 where
    pub reaches : Reach w.job (length file) (length w.rows) (length w.actions)
    pub made : piece < length w.job.pieces
    pub first : (nth_piece w.job piece).from ≡ 0
    pub last : (nth_piece w.job piece).to ≡ w.job.size
    pub rule : ruled file w.rows (nth_piece w.job piece) ≡ true

  pub finish-free : (piece : ℕ) (later : Option Refusal) → asked_whole file w piece later ≡ None → FinishFree piece × (later ≡ None)
  finish-free piece later h =
      let q = nth_piece w.job piece in
      let x = reach w.job (length file) (length w.rows) (length w.actions) _ h in
      let y = asked-yes (ltb piece (length w.job.pieces)) _ _ x.1 in
      let z = asked-yes (eqb q.from 0 && eqb q.to w.job.size) _ _ y.1 in
      let p = and_parts (eqb q.from 0) (eqb q.to w.job.size) z.0 in
      let u = asked-yes (ruled file w.rows q) _ _ z.1 in
      (record { reaches = x.0; made = ltb-true _ _ y.0; first = eqb-true _ _ p.0; last = eqb-true _ _ p.1; rule = u.0 }, u.1)

  -- what is asked later only counts where nothing is refused before
  pub whole-later : (piece : ℕ) (later : Option Refusal) → asked_whole file w piece None ≡ None → asked_whole file w piece later ≡ later
  whole-later piece later e = grind arith

-- one more piece lies in its place
pub placed-more : (size used new n : ℕ) (ps : List Piece) (p : Piece) → n < length ps → used ≤ new →
    ((k : ℕ) → k < n → InPlace size used (get_or ps k no_piece)) → InPlace size new p → (k : ℕ) → k < n + 1 → InPlace size new (get_or (set ps n p) k no_piece)
placed-more size used new n ps p h up old here k less =
    ⊎_elim
    (λ e. subst (λ x. InPlace size new x) (sym (ap (λ j. get_or (set ps n p) j no_piece) e ∙ get_or-set_same ps n p no_piece h)) here)
    (λ ne.
    let o = old k (omega arith) in
    let e = get_or-set_other ps n k p no_piece ne in
    subst (λ x. InPlace size new x) (sym e) (o.0, o.1, omega arith, o.3, o.4))
    (cases_eq k n)
