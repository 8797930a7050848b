-- Lists with others put in over what stood there, and parts of them.
use Rattle.std.proofs.Common.{◌≡◌, ℕ, ◌+◌, ◌<◌, ◌≤◌, List, [], ◌∷◌, ◌++◌, length, get_or, take, drop, set, sym, ap, ◌∙◌, append_assoc, arith}
use Rattle.std.proofs.lemmas.List.{take-append-drop, length-append, length-take-le, length-drop, set_at, drop_more, drop-drop, take_at, drop_at, length_push, take-append-le, drop-append-le}
use Rattle.rows.specs.Lists.{splice}

module _ {X : Type 0} where
  pub splice-none : (n : ℕ) (old : List X) → splice n [] old ≡ old
  splice-none n old = ap (λ k. take n old ++ drop k old) (let z : n + 0 ≡ n = omega arith in z) ∙ take-append-drop n old

  -- one more
  pub splice-push : (n : ℕ) (new old : List X) (i : ℕ) (x : X) → length new ≡ i → n + i < length old → set (splice n new old) (n + i) x ≡ splice n (new ++ (x ∷ [])) old
  splice-push n new old i x e h =
      let front : length (take n old ++ new) ≡ n + i = length-append (take n old) new ∙ (let a = length-take-le n old (omega arith) in omega arith) in
      let at : n + length new < length old = omega arith in
      let rest : drop (n + length new) old ≡ get_or old (n + length new) x ∷ drop (n + length new + 1) old = drop_more old (n + length new) x at in
      let more : n + length new + 1 ≡ n + length (new ++ (x ∷ [])) = (let a = length_push new x in omega arith) in
      ap (λ ys. set (take n old ++ (new ++ ys)) (n + i) x) rest
      ∙ ap (λ ys. set ys (n + i) x) (sym (append_assoc (take n old) new (get_or old (n + length new) x ∷ drop (n + length new + 1) old)))
      ∙ set_at (take n old ++ new) _ (drop (n + length new + 1) old) x (n + i) front
      ∙ append_assoc (take n old) new (x ∷ drop (n + length new + 1) old)
      ∙ ap (λ k. take n old ++ (new ++ (x ∷ drop k old))) more
      ∙ ap (λ ys. take n old ++ ys) (sym (append_assoc new (x ∷ []) (drop (n + length (new ++ (x ∷ []))) old)))

  -- two parts, one after the other
  pub splice-splice : (n : ℕ) (new next old : List X) (k : ℕ) → length new ≡ k → n + k ≤ length old → splice (n + k) next (splice n new old) ≡ splice n (new ++ next) old
  splice-splice n new next old k e h =
      let rest = drop (n + length new) old in
      let front = take n old ++ new in
      let size : length front ≡ n + k = length-append (take n old) new ∙ (let a = length-take-le n old (omega arith) in omega arith) in
      let shape : splice n new old ≡ front ++ rest = sym (append_assoc (take n old) new rest) in
      let start : take (n + k) (splice n new old) ≡ front = ap (take (n + k)) shape ∙ take_at front rest (n + k) size in
      let end : drop (n + k + length next) (splice n new old) ≡ drop (n + length (new ++ next)) old =
      sym (drop-drop (length next) (n + k) (splice n new old))
      ∙ ap (drop (length next)) (ap (drop (n + k)) shape ∙ drop_at front rest (n + k) size)
      ∙ drop-drop (length next) (n + length new) old
      ∙ ap (λ j. drop j old) (let z = length-append new next in let y : n + length new + length next ≡ n + length (new ++ next) = omega arith in y) in
      ap (λ xs. xs ++ (next ++ drop (n + k + length next) (splice n new old))) start
      ∙ ap (λ xs. front ++ (next ++ xs)) end
      ∙ append_assoc (take n old) new (next ++ drop (n + length (new ++ next)) old)
      ∙ ap (λ xs. take n old ++ xs) (sym (append_assoc new next (drop (n + length (new ++ next)) old)))

  front-part : (n : ℕ) (old rest : List X) (k j : ℕ) → n ≤ length old → k + j ≤ n → take j (drop k (take n old ++ rest)) ≡ take j (drop k (take n old))
  front-part n old rest k j h l =
      let size : length (take n old) ≡ n = length-take-le n old h in
      ap (take j) (drop-append-le k (take n old) rest (omega arith)) ∙ take-append-le j (drop k (take n old)) rest (let a = length-drop k (take n old) in omega arith)

  -- a part of a front
  pub part-front : (n : ℕ) (old : List X) (k j : ℕ) → n ≤ length old → k + j ≤ n → take j (drop k (take n old)) ≡ take j (drop k old)
  part-front n old k j h l = sym (front-part n old (drop n old) k j h l) ∙ ap (λ xs. take j (drop k xs)) (take-append-drop n old)

  -- a part before the place
  pub splice-before : (n : ℕ) (new old : List X) (k j : ℕ) → n ≤ length old → k + j ≤ n → take j (drop k (splice n new old)) ≡ take j (drop k old)
  splice-before n new old k j h l = front-part n old (new ++ drop (n + length new) old) k j h l ∙ part-front n old k j h l

  -- the new ones
  pub splice-here : (n : ℕ) (made free old : List X) (j : ℕ) → n ≤ length old → length made ≡ j → take j (drop n (splice n (made ++ free) old)) ≡ made
  splice-here n made free old j h e =
      ap (take j) (drop_at (take n old) _ n (length-take-le n old h)
      ∙ append_assoc made free (drop (n + length (made ++ free)) old))
      ∙ take_at made (free ++ drop (n + length (made ++ free)) old) j e
