-- What a call may go on with, once it is allowed.
use Rattle.std.proofs.Common.{◌≡◌, ℕ, ◌+◌, ◌-◌, ◌<◌, ◌≤◌, Bool, true, false, cond, eqb, List, [], ◌∷◌, length, Some, None, Ok, Err, Option, Result, sym, refl, ap, ◌∙◌, subst, arith}
use Rattle.std.specs.List.{between}
use Rattle.std.proofs.lemmas.Bool.Decides.{nat_tests}
use Rattle.std.proofs.lemmas.List.{length-take, length-drop, length-take-le, get_or-take}
use Rattle.tags.specs.Bytes.{mark}
use Rattle.tags.specs.Marks.{marks, part, marks_of, scanned}
use Rattle.machine.specs.declared.refusal.Refusal.{Refusal}
use Rattle.machine.specs.Model.{Model}
use Rattle.rows.specs.declared.row.Row.{Row}
use Rattle.rows.specs.Stretches.{joined_ends, last_put}
use Rattle.rows.specs.Places.{stored, paired}
use Rattle.rows.specs.declared.part.Kept.{Kept}
use Rattle.rows.specs.Lists.{RowRule, ends_of, rows_of, actions_of, Written, Leaves}
use Rattle.rows.specs.Pieces.{Content}
use Rattle.answers.specs.declared.fault.Fault.{Fault}
use Rattle.answers.specs.declared.matches.Match.{Match}
use Rattle.answers.specs.Finish.{finish}
use Rattle.job.specs.declared.answer.Answer.{Answer}
use Rattle.job.specs.declared.piece.Piece.{Piece}
use Rattle.job.specs.declared.job.Job.{Job}
use Rattle.job.specs.Pieces.{InPlace, no_piece}
use Rattle.job.specs.State.{World, world, seen, nth_piece, finished, allowed, asked_read, asked_join, asked_whole, asked_matches, with_kept, Turns, Refused, Unchanged, Accepted, Ended, AnswerSays, FinishSays}
use Rattle.job.proofs.Asked.{turns_some, read-free, join_free, finish-free, whole-later}
use Rattle.job.proofs.Ruled.{rule-of}
use Rattle.job.proofs.Ranges.{part-paired}

module _ {X : Type 0} where
  pub allowed-none : (o : Option Refusal) (x y : X) (r : Result X Refusal) → r ≡ allowed o x → r ≡ Ok y → (o ≡ None) × (y ≡ x)
  allowed-none (Some why) x y r e f = absurd (let z : ◌≡◌ {A = ℕ} 0 1 = cc in omega arith)
  allowed-none None x y r e f = (refl, (let z : ◌≡◌ {A = Result X Refusal} (Ok y) (Ok x) = sym f ∙ e in cc))

  pub allowed-some : (o : Option Refusal) (x : X) (r : Result X Refusal) (why : Refusal) → r ≡ allowed o x → r ≡ Err why → o ≡ Some why
  allowed-some (Some w) x r why e f = let z : ◌≡◌ {A = Result X Refusal} (Err w) (Err why) = sym e ∙ f in let y : w ≡ why = cc in ap (λ v. Some v) y
  allowed-some None x r why e f = absurd (let z : ◌≡◌ {A = ℕ} 0 1 = cc in omega arith)

  -- a call that is refused changes nothing
  pub refused-turns : {W Y : Type 0} (o : Option Refusal) (x : X) (q : Result X Refusal) (why : Refusal) (r : Result Y Refusal) (w : W) (A : Type 0) →
      q ≡ allowed o x → q ≡ Err why → r ≡ Err why → Turns o (λ v. Refused v w r w) A
  refused-turns o x q why r w A e f g = turns_some o why (λ v. Refused v w r w) A (allowed-some o x q why e f) (record { reply = g; same = refl })

pub unchanged : {J Y : Type 0} (r : Result Y Refusal) (why : Refusal) (j : J) → r ≡ Err why → Unchanged r j j
unchanged r why j e = subst (λ x. Unchanged x j j) (sym e) refl

pub joined_count : (l r : ℕ × ℕ × ℕ) → (joined_ends l r).2 ≡ l.2 + r.2
joined_count l r = go (eqb l.2 0) refl (eqb r.2 0) refl
  where
    go : (s : Bool) → eqb l.2 0 ≡ s → (t : Bool) → eqb r.2 0 ≡ t → (joined_ends l r).2 ≡ l.2 + r.2
    go s e t f = grind (arith, nat_tests)

pub count_made : (j : Job) → length (seen j).pieces ≡ j.made
count_made j = length-take-le j.made j.pieces (let a = j.few in let b = j.room in omega arith)

pub placed_at : (j : Job) (k : ℕ) → k < length (seen j).pieces → InPlace j.size j.used (nth_piece (seen j) k)
placed_at j k h =
    let n : k < j.made = (let e = count_made j in omega arith) in
    subst (InPlace j.size j.used) (sym (get_or-take j.made j.pieces k no_piece n)) (j.placed k n)

-- a join that is allowed
pub record JoinReady (file : List ℕ) (j : Job) (rows acts : ℕ) (rs : List Row) (l r : Piece) : Type 0 where
  pub bytes : length file < 4294967296
  pub few : j.made < 128
  pub in_rows : j.used + (l.part.marks + r.part.marks) ≤ rows
  pub in_acts : j.used + (l.part.marks + r.part.marks) ≤ acts
  pub left : InPlace j.size j.used l
  pub right : InPlace j.size j.used r
  pub meet : l.to ≡ r.from
  pub left_rule : RowRule file rs l.part.at l.part.kept.rows
  pub right_rule : RowRule file rs r.part.at r.part.kept.rows

pub join_ready : {P : Type 0} (file : List ℕ) (j : Job) (rs : List Row) (ps : List P) (left right : ℕ) (l r : Piece) →
    asked_join file (world j rs ps) left right ≡ None → l ≡ nth_piece (seen j) left → r ≡ nth_piece (seen j) right → JoinReady file j (length rs) (length ps) rs l r
join_ready file j rs ps left right l r none el er =
    subst (λ (x : Piece). JoinReady file j (length rs) (length ps) rs x r) (sym el)
    (subst (λ (x : Piece). JoinReady file j (length rs) (length ps) rs (nth_piece (seen j) left) x) (sym er) ready)
  where
    ready : JoinReady file j (length rs) (length ps) rs (nth_piece (seen j) left) (nth_piece (seen j) right)
    ready =
        let free = join_free file (world j rs ps) left right none in
        let x = nth_piece (seen j) left in
        let y = nth_piece (seen j) right in
        let px = placed_at j left free.left-made in
        let py = placed_at j right free.right-made in
        let reach = free.reaches in
        let n = joined_count (x.part.first, x.part.last, x.part.marks) (y.part.first, y.part.last, y.part.marks) in
        record {
          bytes = (let a = reach.same in let b = j.short in omega arith);
          few = (let a = free.roomy.few in let b = count_made j in omega arith);
          in_rows = (let a = free.roomy.in_rows in omega arith);
          in_acts = (let a = free.roomy.in_acts in omega arith);
          left = px;
          right = py;
          meet = free.meet;
          left_rule = rule-of file rs x.part.at x.part.kept.rows (let a = reach.over_rows in let b = px.2 in omega arith) free.left-ruled;
          right_rule = rule-of file rs y.part.at y.part.kept.rows (let a = reach.over_rows in let b = py.2 in omega arith) free.right-ruled;
        }

-- what a join was told, where it is allowed
pub record JoinTold {P : Type 0} (file : List ℕ) (j : Job) (rs : List Row) (ps : List P) (left right : ℕ) (l r : Piece) : Type 0 where
  pub none : asked_join file (world j rs ps) left right ≡ None
  pub left_is : l ≡ nth_piece (seen j) left
  pub right_is : r ≡ nth_piece (seen j) right
  pub ready : JoinReady file j (length rs) (length ps) rs l r

pub join_told : {P : Type 0} (file : List ℕ) (j : Job) (rs : List Row) (ps : List P) (left right : ℕ) (l r : Piece) (q : Result (Piece × Piece) Refusal) →
    q ≡ allowed (asked_join file (world j rs ps) left right) (nth_piece (seen j) left, nth_piece (seen j) right) → q ≡ Ok (l, r) → JoinTold file j rs ps left right l r
join_told file j rs ps left right l r q e f =
    let a = allowed-none (asked_join file (world j rs ps) left right) (nth_piece (seen j) left, nth_piece (seen j) right) (l, r) q e f in
    let el = ap (λ (x : Piece × Piece). x.0) a.1 in
    let er = ap (λ (x : Piece × Piece). x.1) a.1 in
    record { none = a.0; left_is = el; right_is = er; ready = join_ready file j rs ps left right l r a.0 el er }

-- one more piece was made
pub made-piece : {P : Type 0} (w v : World P) (from to : ℕ) (marks got : ℕ × ℕ × ℕ) (c : Content P) (kept : Kept) (number n : ℕ) →
    number ≡ length w.job.pieces → v.job ≡ with_kept w.job from to got kept → got ≡ marks → marks.2 ≡ n →
    Leaves w.job.used n c kept w.rows v.rows w.actions v.actions → Accepted w from to marks c (Ok number) v
made-piece w v from to marks got c kept number n e f g h left = record {
  reply = ap (λ k. Ok k) e;
  job = f ∙ ap (λ x. with_kept w.job from to x kept) g ∙ ap (with_kept w.job from to marks) left.kept;
  rows = subst (λ k. Written w.job.used k (rows_of c) w.rows v.rows) (sym h) left.rows_are;
  actions = subst (λ k. Written w.job.used k (actions_of c) w.actions v.actions) (sym h) left.actions_are;
}

marks-one : (t : Bool) (at b : ℕ) (ms bs : List ℕ) → length ms ≤ length bs → length (cond t (at ∷ ms) ms) ≤ length (b ∷ bs)
marks-one true at b ms bs h = omega arith
marks-one false at b ms bs h = omega arith

marks-few : (bs : List ℕ) (at : ℕ) → length (marks bs at) ≤ length bs
marks-few [] at = omega arith
marks-few (b ∷ bs) at = marks-one (mark b) at b (marks bs (at + 1)) bs (marks-few bs (at + 1))

-- there are no more marks than bytes
pub count_few : (file : List ℕ) (from to : ℕ) → (scanned file from to).2 ≤ to - from
count_few file from to =
    let a = marks-few (part file from to) from in
    let b : length (part file from to) ≤ to - from = simp (length-take, length-drop) (omega arith) in
    omega arith

-- what a read was told, where it is allowed
pub record ReadTold {P : Type 0} (file : List ℕ) (j : Job) (rs : List Row) (ps : List P) (from to : ℕ) (told : ℕ × ℕ × ℕ) : Type 0 where
  pub none : asked_read file (world j rs ps) from to ≡ None
  pub is : told ≡ scanned file from to
  pub count : told.2 ≡ length (marks_of file from to)
  pub bytes : length file < 4294967296
  pub order : from ≤ to
  pub end : to ≤ j.size
  pub within : to ≤ length file
  pub few : j.made < 128
  pub in_rows : j.used + told.2 ≤ length rs
  pub in_acts : j.used + told.2 ≤ length ps
  pub marks : told.2 ≤ to - from

pub read_told : {P : Type 0} (file : List ℕ) (j : Job) (rs : List Row) (ps : List P) (from to : ℕ) (told : ℕ × ℕ × ℕ) (q : Result (ℕ × ℕ × ℕ) Refusal) →
    q ≡ allowed (asked_read file (world j rs ps) from to) (scanned file from to) → q ≡ Ok told → ReadTold file j rs ps from to told
read_told file j rs ps from to told q e f =
    let a = allowed-none (asked_read file (world j rs ps) from to) (scanned file from to) told q e f in
    let free = read-free file (world j rs ps) from to a.0 in
    let n : told.2 ≡ length (marks_of file from to) = ap (λ x. x.2) a.1 in
    let same = free.reaches.same in
    record {
      none = a.0;
      is = a.1;
      count = n;
      bytes = (let b = j.short in omega arith);
      order = free.order;
      end = free.end;
      within = (let b = free.end in omega arith);
      few = (let b = free.roomy.few in let k = count_made j in omega arith);
      in_rows = (let b = free.roomy.in_rows in omega arith);
      in_acts = (let b = free.roomy.in_acts in omega arith);
      marks = (let b = count_few file from to in omega arith);
    }

-- what a finish was told, where it may look at the rows
pub record FinishTold {P : Type 0} (file : List ℕ) (j : Job) (rs : List Row) (ps : List P) (piece : ℕ) (p : Piece) : Type 0 where
  pub none : asked_whole file (world j rs ps) piece None ≡ None
  pub is : p ≡ nth_piece (seen j) piece
  pub bytes : length file < 4294967296
  pub in_rows : p.part.at + p.part.kept.rows ≤ length rs
  pub in_acts : p.part.at + p.part.kept.rows ≤ length ps
  pub rule : RowRule file rs p.part.at p.part.kept.rows
  pub few : p.part.kept.rows ≤ 4294967296

pub finish-told : {P : Type 0} (file : List ℕ) (j : Job) (rs : List Row) (ps : List P) (piece : ℕ) (p : Piece) (q : Result Piece Refusal) →
    q ≡ allowed (asked_whole file (world j rs ps) piece None) (nth_piece (seen j) piece) → q ≡ Ok p → FinishTold file j rs ps piece p
finish-told file j rs ps piece p q e f =
    let a = allowed-none (asked_whole file (world j rs ps) piece None) (nth_piece (seen j) piece) p q e f in
    subst (λ (x : Piece). FinishTold file j rs ps piece x) (sym a.1) (told a.0)
  where
    told : asked_whole file (world j rs ps) piece None ≡ None → FinishTold file j rs ps piece (nth_piece (seen j) piece)
    told none =
        let free = (finish-free file (world j rs ps) piece None none).0 in
        let x = nth_piece (seen j) piece in
        let px = placed_at j piece free.made in
        let reach = free.reaches in
        let in_rows : x.part.at + x.part.kept.rows ≤ length rs = let b = px.2 in let h = reach.over_rows in omega arith in
        record {
          none = none;
          is = refl;
          bytes = (let b = reach.same in let c = j.short in omega arith);
          in_rows = in_rows;
          in_acts = (let b = px.2 in let h = reach.over_acts in omega arith);
          rule = rule-of file rs x.part.at x.part.kept.rows in_rows free.rule;
          few = (let b = px.3 in let c = px.4 in let d = px.1 in let u = j.short in omega arith);
        }

-- what a piece's rows come to, by themselves
pub finished_part : {A P : Type 0} (m : Model A P) (file : List ℕ) (j : Job) (rs : List Row) (ps : List P) (piece : ℕ) (p : Piece) → p ≡ nth_piece (seen j) piece →
    finish (stored m) (last_put file (stored m) (ends_of p.part) (record { rows = paired (between p.part.at (p.part.at + p.part.kept.rows) rs) (between p.part.at (p.part.at + p.part.kept.rows) ps); fault = p.part.kept.fault })) ≡ finished file m (world j rs ps) (nth_piece (seen j) piece)
finished_part m file j rs ps piece p e =
    ap (λ zs. finish (stored m) (last_put file (stored m) (ends_of p.part) (record { rows = zs; fault = p.part.kept.fault }))) (part-paired rs ps p.part.at p.part.kept.rows)
    ∙ ap (finished file m (world j rs ps)) e

-- an answer, where nothing was refused before
pub finish-turns : {A P : Type 0} (m : Model A P) (file : List ℕ) (w : World P) (piece : ℕ) (o : Result (List Match) Fault) (ms : List Match) (r : Result Answer Refusal) (ns : List Match) →
    asked_whole file w piece None ≡ None → o ≡ finished file m w (nth_piece w.job piece) → AnswerSays o ms r ns → FinishSays file m w piece ms r ns
finish-turns m file w piece o ms r ns none e says =
    let p = finished file m w (nth_piece w.job piece) in
    subst (λ x. Turns x (λ why. Refused why ms r ns) (Ended p ms r ns)) (sym (whole-later file w piece (asked_matches p (length ms)) none)) (subst (λ x. AnswerSays x ms r ns) e says)
