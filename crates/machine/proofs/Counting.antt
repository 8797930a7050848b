-- How many lines and positions a draft has, byte by byte.
use Rattle.std.proofs.Common.{◌≡◌, ℕ, ◌+◌, ◌<◌, ◌≤◌, Bool, true, false, cond, List, [], ◌∷◌, ◌++◌, length, get_or, take, fold, sym, refl, ap, ◌∙◌, arith}
use Rattle.std.proofs.lemmas.List.{length_push, take_all}
use Rattle.std.proofs.lemmas.List.Sums.{fold_push, fold_more}
use Rattle.machine.specs.declared.reader.State.{State}
use Rattle.machine.specs.declared.reader.State.TheVariants.{Line}
use Rattle.machine.specs.declared.reader.Turn.{Turn}
use Rattle.machine.specs.declared.reader.Turn.TheVariants.{On, Starred, Named}
use Rattle.machine.specs.Queries.{any, named, step, Query, size}
use Rattle.machine.specs.Reading.{turn, closes, steps_after, Draft, draft, next, start, reads_as}
use Rattle.machine.specs.Sketches.{counted, line_count, size_in}

size-push : (qs : List Query) (q : Query) → size (qs ++ q ∷ []) ≡ size qs + length q + 1
size-push [] q = omega arith
size-push (r ∷ qs) q = let h = size-push qs q in omega arith

steps_count : (t : Turn) (n : List ℕ) (q : Query) → length (steps_after t n q) ≡ length q + counted t
steps_count On n q = omega arith
steps_count (Starred d) n q = length_push q (step d any)
steps_count (Named d) n q = length_push q (step d (named n))

-- the lines and positions once the steps go on, or are a line
lines_cut : (b : Bool) (s : State) (n : List ℕ) (q : Query) (qs : List Query) → length (cond b (draft s n [] (qs ++ q ∷ [])) (draft s n q qs)).lines ≡ length qs + cond b 1 0
lines_cut true s n q qs = length_push qs q
lines_cut false s n q qs = omega arith

size-cut : (b : Bool) (s : State) (n : List ℕ) (q : Query) (qs : List Query) → size_in (cond b (draft s n [] (qs ++ q ∷ [])) (draft s n q qs)) ≡ size qs + length q + cond b 1 0
size-cut true s n q qs = omega (arith, size-push qs q)
size-cut false s n q qs = omega arith

state-cut : (b : Bool) (s : State) (n : List ℕ) (q : Query) (qs : List Query) → (cond b (draft s n [] (qs ++ q ∷ [])) (draft s n q qs)).state ≡ s
state-cut true s n q qs = refl
state-cut false s n q qs = refl

pub state-next : (D : Draft) (b : ℕ) → (next D b).state ≡ (turn D.state b).0
state-next D b = state-cut (closes (turn D.state b).0) (turn D.state b).0 _ _ _

pub lines_next : (D : Draft) (b : ℕ) → length (next D b).lines ≡ length D.lines + line_count (turn D.state b).0
lines_next D b = lines_cut (closes (turn D.state b).0) (turn D.state b).0 _ _ D.lines

pub size-next : (D : Draft) (b : ℕ) → size_in (next D b) ≡ size_in D + counted (turn D.state b).1 + line_count (turn D.state b).0
size-next D b =
    let t = (turn D.state b).1 in
    size-cut (closes (turn D.state b).0) (turn D.state b).0 _ (steps_after t D.since D.steps) D.lines
    ∙ omega (arith, steps_count t D.since D.steps)

-- both only grow
pub lines_grow : (D : Draft) (bs : List ℕ) → length D.lines ≤ length (fold next D bs).lines
lines_grow D [] = omega arith
lines_grow D (b ∷ bs) = let h = lines_grow (next D b) bs in omega (arith, lines_next D b)

pub size-grows : (D : Draft) (bs : List ℕ) → size_in D ≤ size_in (fold next D bs)
size-grows D [] = omega arith
size-grows D (b ∷ bs) = let h = size-grows (next D b) bs in omega (arith, size-next D b)

-- what code keeps of a draft
pub record Counts (D : Draft) (s : State) (lines positions : ℕ) : Type 0 where
  pub state : s ≡ D.state
  pub lines_is : lines ≡ length D.lines
  pub positions_is : positions ≡ size_in D

pub counts_on : (D : Draft) (s : State) (l p : ℕ) (b : ℕ) (s' : State) (l' p' : ℕ) → Counts D s l p
    → s' ≡ (turn s b).0 → l' ≡ l + line_count (turn s b).0 → p' ≡ p + counted (turn s b).1 + line_count (turn s b).0 → Counts (next D b) s' l' p'
counts_on D s l p b s' l' p' h a e f =
    let same : turn s b ≡ turn D.state b = ap (λ x. turn x b) h.state in
    record {
      state = a ∙ ap (λ (x : State × Turn). x.0) same ∙ sym (state-next D b);
      lines_is = e ∙ ap (λ (x : State × Turn). l + line_count x.0) same ∙ ap (λ k. k + line_count (turn D.state b).0) h.lines_is ∙ sym (lines_next D b);
      positions_is = f ∙ ap (λ (x : State × Turn). p + counted x.1 + line_count x.0) same ∙ ap (λ k. k + counted (turn D.state b).1 + line_count (turn D.state b).0) h.positions_is ∙ sym (size-next D b);
    }

pub counted-le : (t : Turn) → counted t ≤ 1
counted-le On = omega arith
counted-le (Starred d) = omega arith
counted-le (Named d) = omega arith

one-le : (b : Bool) → cond b 1 0 ≤ 1
one-le true = omega arith
one-le false = omega arith

pub line_count-le : (s : State) → line_count s ≤ 1
line_count-le s = one-le (closes s)

-- the draft of the text's first i bytes
unfoldable pub drafted : List ℕ → ℕ → Draft
drafted text i = fold next start (take i text)

pub counts_none : (text : List ℕ) (s : State) → s ≡ Line → Counts (drafted text 0) s 0 0
unfolding drafted
counts_none text s e = record { state = e; lines_is = refl; positions_is = refl }

pub drafted_more : (text : List ℕ) (i : ℕ) → i < length text → drafted text (i + 1) ≡ next (drafted text i) (get_or text i 0)
unfolding drafted
drafted_more text i l = fold_more next start text i 0 l

pub drafted_all : (text : List ℕ) (i : ℕ) → length text ≤ i → reads_as text ≡ next (drafted text i) 10
unfolding drafted reads_as
drafted_all text i l = fold_push next start text 10 ∙ ap (λ x. next (fold next start x) 10) (sym (take_all i text l))
