-- The sketch of a draft, byte by byte.
use Rattle.std.proofs.Common.{◌≡◌, ℕ, suc, ◌+◌, Bool, true, false, cond, List, [], ◌∷◌, ◌++◌, map, length, fold, sym, refl, ap, ◌∙◌, append_assoc, append-nil, arith, length-append}
use lib.ListN.{length-map}
use Rattle.std.proofs.lemmas.List.{map_push}
use Rattle.machine.specs.declared.position.Position.TheVariants.{End, Name}
use Rattle.machine.specs.declared.reader.State.{State}
use Rattle.machine.specs.declared.reader.Turn.{Turn}
use Rattle.machine.specs.declared.reader.Turn.TheVariants.{On, Starred, Named}
use Rattle.machine.specs.Queries.{any, named, QueryStep, step, Query, column, position, positions, size, ends, noted, noted_steps, names_used}
use Rattle.machine.specs.Limits.{NamesFit}
use Rattle.machine.specs.Reading.{turn, closes, steps_after, since_after, Draft, draft, next}
use Rattle.machine.specs.Sketches.{Sketch, drawing, ended, taken, drawn, names_in, sketch_of}
use Rattle.machine.proofs.Growing.{Grows, grows_none, grows_on, noted-grows, steps_grow, all_listed, lists_steps, lists_all, steps_same, positions-same, noted_steps-push, noted_all-push, fit_before}

pub length-positions : (names : List (List ℕ)) (qs : List Query) → length (positions names qs) ≡ size qs
length-positions names [] = refl
length-positions names (q ∷ qs) =
    let h = length-positions names qs in
    omega (arith, length-append (map (position names) q) (End ∷ positions names qs), length-map q (position names))

pub length-ends : (o : ℕ) (qs : List Query) → length (ends o qs) ≡ length qs
length-ends o [] = refl
length-ends o (q ∷ qs) = ap (λ k. suc k) (length-ends (o + length q + 1) qs)

positions-push : (names : List (List ℕ)) (qs : List Query) (q : Query) → positions names (qs ++ q ∷ []) ≡ (positions names qs ++ map (position names) q) ++ End ∷ []
positions-push names [] q = refl
positions-push names (r ∷ qs) q =
    let a = map (position names) r in
    let ps = positions names qs in
    let b = map (position names) q in
    ap (λ x. a ++ End ∷ x) (positions-push names qs q)
    ∙ sym (append_assoc a (End ∷ (ps ++ b)) (End ∷ []))
    ∙ ap (λ x. x ++ End ∷ []) (sym (append_assoc a (End ∷ ps) b))

ends-push : (o : ℕ) (qs : List Query) (q : Query) → ends o (qs ++ q ∷ []) ≡ ends o qs ++ (o + size qs + length q) ∷ []
ends-push o [] q = ap (λ k. k ∷ []) (omega arith)
ends-push o (r ∷ qs) q = ap (λ x. (o + length r) ∷ x) (ends-push (o + length r + 1) qs q ∙ ap (λ k. ends (o + length r + 1) qs ++ k ∷ []) (omega arith))

-- a step more
module _ (s s' : State) (n n' : List ℕ) (q : Query) (qs : List Query) where
  push-is : (ns : List (List ℕ)) (r : QueryStep) → positions ns qs ++ map (position ns) (q ++ r ∷ []) ≡ (positions ns qs ++ map (position ns) q) ++ position ns r ∷ []
  push-is ns r = ap (λ x. positions ns qs ++ x) (map_push (position ns) q r) ∙ sym (append_assoc (positions ns qs) (map (position ns) q) (position ns r ∷ []))

  kept : (ms : List (List ℕ)) → Grows (names_in (draft s n q qs)) ms
      → positions ms qs ++ map (position ms) q ≡ positions (names_in (draft s n q qs)) qs ++ map (position (names_in (draft s n q qs))) q
  kept ms g =
      let us = names_used qs in
      let ns = noted_steps us q in
      let a = positions-same ns ms qs g (all_listed us ns qs (steps_grow us q) (lists_all [] qs)) in
      let b = steps_same ns ms q g (lists_steps us q) in
      cc

  taken_is : (t : Turn) → sketch_of (draft s' n' (steps_after t n q) qs) ≡ taken t n (sketch_of (draft s n q qs))
  taken_is On = refl
  taken_is (Starred d) =
      let ns = noted_steps (names_used qs) q in
      ap (λ ms. drawing (positions ms qs ++ map (position ms) (q ++ step d any ∷ [])) ms (ends 0 qs)) (noted_steps-push (names_used qs) q (step d any))
      ∙ ap (λ x. drawing x ns (ends 0 qs)) (push-is ns (step d any))
  taken_is (Named d) =
      let ns = noted_steps (names_used qs) q in
      let ms = noted ns n in
      ap (λ ms. drawing (positions ms qs ++ map (position ms) (q ++ step d (named n) ∷ [])) ms (ends 0 qs)) (noted_steps-push (names_used qs) q (step d (named n)))
      ∙ ap (λ x. drawing x ms (ends 0 qs)) (push-is ms (step d (named n)) ∙ ap (λ x. x ++ Name d (column ms n) ∷ []) (kept ms (noted-grows ns n)))

  ended_is : sketch_of (draft s' n' [] (qs ++ q ∷ [])) ≡ ended (sketch_of (draft s n q qs))
  ended_is =
      let ns = noted_steps (names_used qs) q in
      let ps = positions ns qs ++ map (position ns) q in
      let long : length ps ≡ size qs + length q = omega (arith, length-append (positions ns qs) (map (position ns) q), length-positions ns qs, length-map q (position ns)) in
      ap (λ ms. drawing (positions ms (qs ++ q ∷ []) ++ []) ms (ends 0 (qs ++ q ∷ []))) (noted_all-push [] qs q)
      ∙ ap (λ x. drawing x ns (ends 0 (qs ++ q ∷ []))) (append-nil (positions ns (qs ++ q ∷ [])) ∙ positions-push ns qs q)
      ∙ ap (λ x. drawing (ps ++ End ∷ []) ns x) (ends-push 0 qs q ∙ ap (λ k. ends 0 qs ++ k ∷ []) (omega arith))

cut_is : (b : Bool) (s : State) (n : List ℕ) (q : Query) (qs : List Query) → sketch_of (cond b (draft s n [] (qs ++ q ∷ [])) (draft s n q qs)) ≡ cond b (ended (sketch_of (draft s n q qs))) (sketch_of (draft s n q qs))
cut_is true s n q qs = ended_is s s n n q qs
cut_is false s n q qs = refl

pub sketch-next : (D : Draft) (b : ℕ) → sketch_of (next D b) ≡ drawn (turn D.state b).0 (turn D.state b).1 D.since (sketch_of D)
sketch-next D b =
    let s = (turn D.state b).0 in
    let t = (turn D.state b).1 in
    cut_is (closes s) s (since_after b D.since) (steps_after t D.since D.steps) D.lines
    ∙ ap (λ S. cond (closes s) (ended S) S) (taken_is D.state s D.since (since_after b D.since) D.steps D.lines t)

-- the names grow
taken-grows : (t : Turn) (n : List ℕ) (S : Sketch) → Grows S.names (taken t n S).names
taken-grows On n S = grows_none S.names
taken-grows (Starred d) n S = grows_none S.names
taken-grows (Named d) n S = noted-grows S.names n

same_names : (b : Bool) (S : Sketch) → (cond b (ended S) S).names ≡ S.names
same_names true S = refl
same_names false S = refl

pub names_next : (D : Draft) (b : ℕ) → names_in (next D b) ≡ (taken (turn D.state b).1 D.since (sketch_of D)).names
names_next D b = ap (λ (S : Sketch). S.names) (sketch-next D b) ∙ same_names (closes (turn D.state b).0) (taken (turn D.state b).1 D.since (sketch_of D))

names_grow : (D : Draft) (bs : List ℕ) → Grows (names_in D) (names_in (fold next D bs))
names_grow D [] = grows_none (names_in D)
names_grow D (b ∷ bs) =
    let g = taken-grows (turn D.state b).1 D.since (sketch_of D) in
    grows_on (names_in D) (names_in (next D b)) _ (record { rest = g.rest; is = names_next D b ∙ g.is }) (names_grow (next D b) bs)

pub fit_so_far : (D : Draft) (bs : List ℕ) → NamesFit (names_in (fold next D bs)) → NamesFit (names_in D)
fit_so_far D bs f = fit_before (names_in D) (names_in (fold next D bs)) (names_grow D bs) f
