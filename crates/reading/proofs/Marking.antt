-- From one mark of a part of the file to the next.
use Rattle.std.proofs.Common.{◌≡◌, ℕ, suc, ◌+◌, ◌-◌, ◌<◌, ◌≤◌, Bool, true, false, cond, ◌⊎◌, List, [], ◌∷◌, length, take, drop, Some, None, sym, refl, ap, ◌∙◌, inl, inr, ⊎_elim, arith}
use Rattle.std.proofs.lemmas.List.{length-take, length-drop, drop-drop, drop-take}
use Rattle.tags.specs.Bytes.{mark}
use Rattle.tags.specs.Marks.{marks, part, marks_of, first_or}
use Rattle.machine.specs.Model.{Model}
use Rattle.rows.specs.declared.lists.Lists.{Lists}
use Rattle.rows.specs.declared.row.PieceFault.{PieceFault}
use Rattle.reading.specs.declared.reading.Reader.{Reader}
use Rattle.rows.specs.Pieces.{Content, put}
use Rattle.rows.specs.Stretches.{pairs, one, eval_from, content}
use Rattle.rows.specs.Places.{paired}
use Rattle.reading.specs.Reading.{so_far, Ready}
use Rattle.rows.proofs.Puts.{eval-fault}

-- x is the first mark of bytes that begin at a place, and xs are the marks after it
pub record First (bs : List ℕ) (from x : ℕ) (xs : List ℕ) : Type 0 where
  pub low : from ≤ x
  pub high : x < from + length bs
  pub rest : xs ≡ marks (drop (x + 1 - from) bs) (x + 1)

here : (t : Bool) (b : ℕ) (bs : List ℕ) (from x : ℕ) (xs : List ℕ) → (marks bs (from + 1) ≡ x ∷ xs → First bs (from + 1) x xs) → cond t (from ∷ marks bs (from + 1)) (marks bs (from + 1)) ≡ x ∷ xs → First (b ∷ bs) from x xs
here true b bs from x xs more h =
    let f : from ≡ x = cc in
    let g : marks bs (from + 1) ≡ xs = cc in
    let n : x + 1 - from ≡ 1 = omega arith in
    record { low = omega arith; high = omega arith; rest = sym g ∙ ap (λ k. marks bs (k + 1)) f ∙ ap (λ k. marks (drop k (b ∷ bs)) (x + 1)) (sym n) }
here false b bs from x xs more h =
    let r = more h in
    let n : x + 1 - from ≡ suc (x + 1 - (from + 1)) = omega (arith, r.low) in
    record { low = omega (arith, r.low); high = omega (arith, r.high); rest = r.rest ∙ ap (λ k. marks (drop k (b ∷ bs)) (x + 1)) (sym n) }

first : (bs : List ℕ) (from x : ℕ) (xs : List ℕ) → marks bs from ≡ x ∷ xs → First bs from x xs
first [] from x xs e = absurd (let l = ap length e in omega arith)
first (b ∷ bs) from x xs e = here (mark b) b bs from x xs (first bs (from + 1) x xs) e

-- the first mark of a part, if it has one, and the marks after it
pub record Next (file : List ℕ) (from to x : ℕ) : Type 0 where
  pub low : from ≤ x
  pub high : x < to
  pub all : marks_of file from to ≡ x ∷ marks_of file (x + 1) to

next : (file : List ℕ) (from to x : ℕ) (xs : List ℕ) → marks_of file from to ≡ x ∷ xs → Next file from to x
next file from to x xs e =
    let r = first (part file from to) from x xs e in
    let size : length (part file from to) ≤ to - from = simp (length-take, length-drop) (omega arith) in
    let k : to - from ≡ (x + 1 - from) + (to - (x + 1)) = omega (arith, r.low, r.high) in
    let l : from + (x + 1 - from) ≡ x + 1 = omega (arith, r.low) in
    let rest : drop (x + 1 - from) (part file from to) ≡ part file (x + 1) to =
    ap (λ n. drop (x + 1 - from) (take n (drop from file))) k
    ∙ drop-take (x + 1 - from) (to - (x + 1)) (drop from file)
    ∙ ap (take (to - (x + 1))) (drop-drop (x + 1 - from) from file ∙ ap (λ n. drop n file) l) in
    record {
      low = r.low;
      high = omega (arith, r.low, r.high);
      all = e ∙ ap (λ ys. x ∷ ys) (r.rest ∙ ap (λ bs. marks bs (x + 1)) rest);
    }

by_first : (file : List ℕ) (from to x : ℕ) (ms : List ℕ) → marks_of file from to ≡ ms → x ≡ first_or to ms → ((marks_of file from to ≡ []) × (x ≡ to)) ⊎ Next file from to x
by_first file from to x [] e f = inl (e, f)
by_first file from to x (y ∷ ms) e f = inr (next file from to x ms (e ∙ ap (λ z. z ∷ ms) (sym f)))

-- what a search for the next mark finds
found : (file : List ℕ) (from to x : ℕ) → x ≡ first_or to (marks_of file from to) → ((marks_of file from to ≡ []) × (x ≡ to)) ⊎ Next file from to x
found file from to x e = by_first file from to x (marks_of file from to) refl e

pub found_next : (file : List ℕ) (from to x : ℕ) → x ≡ first_or to (marks_of file from to) → x < to → Next file from to x
found_next file from to x e h = ⊎_elim (λ n. absurd (omega (arith, n.1))) (λ n. n) (found file from to x e)

pub found_none : (file : List ℕ) (from to x : ℕ) → x ≡ first_or to (marks_of file from to) → to ≤ x → marks_of file from to ≡ []
found_none file from to x e h = ⊎_elim (λ n. n.0) (λ n. absurd (omega (arith, n.high))) (found file from to x e)

pub found_low : (file : List ℕ) (from to x : ℕ) → x ≡ first_or to (marks_of file from to) → x ≤ to
found_low file from to x e = ⊎_elim (λ n. omega (arith, n.1)) (λ n. omega (arith, n.high)) (found file from to x e)

pub found_past : (file : List ℕ) (from to x : ℕ) → x ≡ first_or to (marks_of file from to) → from ≤ to → from ≤ x
found_past file from to x e h = ⊎_elim (λ n. omega (arith, n.1)) (λ n. n.low) (found file from to x e)

no_marks : (file : List ℕ) (from to : ℕ) → to ≤ from → marks_of file from to ≡ []
no_marks file from to h = let e : to - from ≡ 0 = omega arith in ap (λ n. marks (take n (drop from file)) from) e

-- a loop that reads: the stretch from mark on is the next
pub record Going {P Q : Type 0} (file : List ℕ) (m : Model P Q) (from to : ℕ) (ls : Lists P) (r : Reader) (mark next : ℕ) : Type 0 where
  pub ready : Ready file ls.rows.now r
  pub found : next ≡ first_or to (marks_of file (mark + 1) to)
  pub few : r.rows + length (marks_of file (mark + 1) to) ≤ length (marks_of file from to) - 1
  pub whole : eval_from file m (so_far ls r) (pairs (mark ∷ marks_of file (mark + 1) to)) ≡ content file m from to

module _ {P Q : Type 0} (file : List ℕ) (m : Model P Q) (from to : ℕ) where
  start : (mark : ℕ) → ((marks_of file from to ≡ []) × (mark ≡ to)) ⊎ Next file from to mark → (pairs (mark ∷ marks_of file (mark + 1) to) ≡ pairs (marks_of file from to)) × (length (marks_of file (mark + 1) to) ≤ length (marks_of file from to) - 1)
  start mark (inl n) =
      let e = no_marks file (mark + 1) to (omega (arith, n.1)) in
      (ap (λ ms. pairs (mark ∷ ms)) e ∙ ap pairs (sym n.0), let a = ap length e in omega arith)
  start mark (inr n) = (ap pairs (sym n.all), let a = ap length n.all in omega arith)

  pub going-none : (ls : Lists P) (r : Reader) (mark next : ℕ) → Ready file ls.rows.now r → r.rows ≡ 0 → mark ≡ first_or to (marks_of file from to) → next ≡ first_or to (marks_of file (mark + 1) to) → Going file m from to ls r mark next
  going-none ls r mark next ready none e f =
      let s = start mark (found file from to mark e) in
      record {
        ready = ready;
        found = f;
        few = omega (arith, s.1);
        whole = ap (eval_from file m (so_far ls r)) s.0 ∙ ap (λ n. eval_from file m (record { rows = take n (paired ls.rows.now ls.actions.now); fault = None }) (pairs (marks_of file from to))) none;
      }

  module _ (ls : Lists P) (r : Reader) (mark next : ℕ) (going : Going file m from to ls r mark next) where
    pub going-all : to ≤ next → ◌≡◌ {A = Content P} (so_far ls r) (content file m from to)
    going-all h = sym (ap (λ ms. eval_from file m (so_far ls r) (pairs (mark ∷ ms))) (found_none file (mark + 1) to next going.found h)) ∙ going.whole

    module _ (more : next < to) (c : Content P) (is : c ≡ put file m (so_far ls r) (one file m (mark, next))) where
      after : eval_from file m c (pairs (next ∷ marks_of file (next + 1) to)) ≡ content file m from to
      after =
          ap (λ x. eval_from file m x (pairs (next ∷ marks_of file (next + 1) to))) is
          ∙ sym (ap (λ ms. eval_from file m (so_far ls r) (pairs (mark ∷ ms))) (found_next file (mark + 1) to next going.found more).all)
          ∙ going.whole

      pub going-fault : (f : PieceFault) → c.fault ≡ Some f → c ≡ content file m from to
      going-fault f e = sym (eval-fault file m c (pairs (next ∷ marks_of file (next + 1) to)) f e) ∙ after

    pub going_more : (ls' : Lists P) (r' : Reader) (next' : ℕ) → next < to → so_far ls' r' ≡ put file m (so_far ls r) (one file m (mark, next)) → Ready file ls'.rows.now r' → r'.rows ≤ r.rows + 1 → next' ≡ first_or to (marks_of file (next + 1) to) → Going file m from to ls' r' next next'
    going_more ls' r' next' h e ready few f = record {
      ready = ready;
      found = f;
      few = let n = ap length (found_next file (mark + 1) to next going.found h).all in omega (arith, going.few);
      whole = after h (so_far ls' r') e;
    }
