-- How contents join.
use Rattle.std.proofs.Common.{◌≡◌, ℕ, Bool, true, false, List, [], ◌∷◌, ◌++◌, Some, None, Option, Result, sym, refl, ap, ◌∙◌, append_assoc, append-nil, arith}
use Rattle.tags.specs.declared.tag.TagKind.{TagKind}
use Rattle.tags.specs.declared.tag.TagFault.{TagFault}
use Rattle.tags.specs.Reads.{tag_at}
use Rattle.machine.specs.Model.{Model}
use Rattle.rows.specs.declared.row.RowKind.TheVariants.{Close, Open, Done}
use Rattle.rows.specs.Pieces.{Entry, base, close_last, is_close, closes, under, Taken, run, Content, put}
use Rattle.rows.specs.Stretches.{made, one, eval_from, nothing, eval}

-- all that a join needs of a machine
abbrev pub Assoc : {A P : Type 0} → Model A P → Type 0
Assoc {A} m = (a b c : A) → m.then (m.then a b) c ≡ m.then a (m.then b c)

-- The rows of a list, and of two lists.

abbrev pub first : {A : Type 0} → Option (Entry A) → Option (Entry A) → Option (Entry A)
first (Some b) o = Some b
first None o = o

module _ {A : Type 0} where
  pub base-append : (l a : List (Entry A)) → base (l ++ a) ≡ first (base a) (base l)
  base-append [] a = grind arith
  base-append (r ∷ l) a = grind (arith, base-append l a)

  pub closes-append : (l a : List (Entry A)) → closes (l ++ a) ≡ closes l ++ closes a
  closes-append [] a = refl
  closes-append (r ∷ l) a = grind (arith, closes-append l a)

  pub closes-twice : (l : List (Entry A)) → closes (closes l) ≡ closes l
  closes-twice [] = refl
  closes-twice (r ∷ l) = grind (arith, closes-twice l)

  pub closes-close-last : (l : List (Entry A)) → closes (close_last l) ≡ closes l
  closes-close-last [] = refl
  closes-close-last (r ∷ l) = grind (arith, closes-close-last l)

  pub close-none : (l : List (Entry A)) → base l ≡ None → close_last l ≡ l
  close-none [] h = refl
  close-none (r ∷ l) h = grind (arith, close-none l)

  abbrev pub both : Option (Entry A) → List (Entry A) → List (Entry A) → List (Entry A)
  both (Some b) l a = l ++ close_last a
  both None l a = close_last l ++ a

  pub close-last-append : (l a : List (Entry A)) → close_last (l ++ a) ≡ both (base a) l a
  close-last-append [] a = grind (arith, close-none a)
  close-last-append (r ∷ l) a = grind (arith, close-last-append l a, base-append l a)

  -- Rows with no Close row after an Open one.

  abbrev no-close : List (Entry A) → Bool
  no-close [] = true
  no-close (r ∷ rs) = elim r.row.kind [ Close ↦ false | Open ↦ no-close rs | Done ↦ no-close rs ]

  abbrev ordered : List (Entry A) → Bool
  ordered [] = true
  ordered (r ∷ rs) = elim r.row.kind [ Close ↦ ordered rs | Open ↦ no-close rs | Done ↦ ordered rs ]

  ordered-no-close : (l : List (Entry A)) → no-close l ≡ true → ordered l ≡ true
  ordered-no-close [] h = refl
  ordered-no-close (r ∷ l) h = grind (arith, ordered-no-close l)

  ordered-closes : (l : List (Entry A)) → ordered (closes l) ≡ true
  ordered-closes [] = refl
  ordered-closes (r ∷ l) = grind (arith, ordered-closes l)

  no-close-last : (l : List (Entry A)) → no-close (close_last l) ≡ no-close l
  no-close-last [] = refl
  no-close-last (r ∷ l) = grind (arith, no-close-last l)

  ordered-last : (l : List (Entry A)) → ordered l ≡ true → ordered (close_last l) ≡ true
  ordered-last [] h = refl
  ordered-last (r ∷ l) h = grind (arith, ordered-last l, no-close-last l, ordered-no-close l)

  no-close-push : (l : List (Entry A)) (r : Entry A) → is_close r ≡ false → no-close l ≡ true → no-close (l ++ (r ∷ [])) ≡ true
  no-close-push [] r h n = grind arith
  no-close-push (x ∷ l) r h n = grind (arith, no-close-push l r h)

  ordered-push : (l : List (Entry A)) (r : Entry A) → is_close r ≡ false → ordered l ≡ true → ordered (l ++ (r ∷ [])) ≡ true
  ordered-push [] r h n = grind arith
  ordered-push (x ∷ l) r h n = grind (arith, ordered-push l r h, no-close-push l r h)

  ordered-push-none : (l : List (Entry A)) (r : Entry A) → base l ≡ None → ordered (l ++ (r ∷ [])) ≡ true
  ordered-push-none [] r h = grind arith
  ordered-push-none (x ∷ l) r h = grind (arith, ordered-push-none l r)

  module _ {P : Type 0} (file : List ℕ) (m : Model A P) where
    -- What `run` comes to on rows that are changed.

    abbrev pub after : Taken A → List (Entry A) → Taken A
    after t cs = elim t.stop [
      | Some p ↦ t
      | None ↦ let u = run file m t.left cs in record { left = u.left; added = t.added ++ u.added; stop = u.stop }
    ]

    pub run-append : (l bs cs : List (Entry A)) → run file m l (bs ++ cs) ≡ after (run file m l bs) cs
    run-append l [] cs = refl
    run-append l (r ∷ bs) cs = grind (arith, run-append l bs cs, run-append (close_last l) bs cs)

    abbrev only-closes : Taken A → Taken A
    only-closes t = record { left = t.left; added = closes t.added; stop = t.stop }

    run-closes : (l bs : List (Entry A)) → run file m l (closes bs) ≡ only-closes (run file m l bs)
    run-closes l [] = refl
    run-closes l (r ∷ bs) = grind (arith, run-closes l bs, run-closes (close_last l) bs)

    run-left : (l bs : List (Entry A)) → no-close bs ≡ true → (run file m l bs).left ≡ l
    run-left l [] h = refl
    run-left l (r ∷ bs) h = grind (arith, run-left l bs)

    run-stop : (l bs : List (Entry A)) → no-close bs ≡ true → (run file m l bs).stop ≡ None
    run-stop l [] h = refl
    run-stop l (r ∷ bs) h = grind (arith, run-stop l bs)

    abbrev raised : List (Entry A) → Option (Entry A) → Option (Entry A)
    raised l None = None
    raised l (Some b) = Some (under m (base l) b)

    run-base : (l bs : List (Entry A)) → ordered bs ≡ true → (run file m l bs).stop ≡ None → base (run file m l bs).added ≡ raised (run file m l bs).left (base bs)
    run-base l [] h n = refl
    run-base l (r ∷ bs) h n = grind (arith, run-base l bs, run-base (close_last l) bs, ordered-no-close bs, run-left l bs)

    abbrev last-closed : Taken A → Taken A
    last-closed t = record { left = t.left; added = close_last t.added; stop = t.stop }

    run-close-last : (l bs : List (Entry A)) → ordered bs ≡ true → run file m l (close_last bs) ≡ last-closed (run file m l bs)
    run-close-last l [] h = refl
    run-close-last l (r ∷ bs) h = grind (arith, run-close-last l bs, run-close-last (close_last l) bs, ordered-no-close bs, run-stop l bs, run-base l bs)

    -- One stretch more.

    ordered-put : (b : Content A) (p : ℕ) (t : Result (TagKind × List ℕ) TagFault) → ordered b.rows ≡ true → ordered (put file m b (made m p t)).rows ≡ true
    ordered-put b p t h = grind (arith, append-nil, ordered-push b.rows, ordered-push-none b.rows, ordered-last b.rows, ordered-closes)

    put-nothing : (x : Content A) → put file m x nothing ≡ x
    put-nothing x = grind (arith, append-nil)

    eval-append : (c : Content A) (xs ys : List (ℕ × ℕ)) → eval_from file m c (xs ++ ys) ≡ eval_from file m (eval_from file m c xs) ys
    eval-append c [] ys = refl
    eval-append c (x ∷ xs) ys = eval-append (put file m c (one file m x)) xs ys

    pub eval-push : (xs : List (ℕ × ℕ)) (y : ℕ × ℕ) → eval file m (xs ++ (y ∷ [])) ≡ put file m (eval file m xs) (one file m y)
    eval-push xs y = eval-append nothing xs (y ∷ [])

    module _ (assoc : Assoc m) where
      put_one : (x b : Content A) (p : ℕ) (t : Result (TagKind × List ℕ) TagFault) → ordered b.rows ≡ true → put file m (put file m x b) (made m p t) ≡ put file m x (put file m b (made m p t))
      put_one x b p t h =
          let ls = x.rows in
          let bs = b.rows in
          grind (
            arith,
            append_assoc,
            append-nil,
            base-append,
            close-last-append,
            closes-append,
            closes-twice,
            closes-close-last,
            run-append ls bs,
            run-closes ls bs,
            run-close-last ls bs,
            run-base ls bs,
            assoc,
          )

      put-from : (x b : Content A) (ys : List (ℕ × ℕ)) → ordered b.rows ≡ true → put file m x (eval_from file m b ys) ≡ eval_from file m (put file m x b) ys
      put-from x b [] h = refl
      put-from x b (y ∷ ys) h =
          let t = tag_at file y.0 y.1 in
          put-from x (put file m b (one file m y)) ys (ordered-put b y.0 t h) ∙ ap (λ c. eval_from file m c ys) (sym (put_one x b y.0 t h))

      pub joins : (xs ys : List (ℕ × ℕ)) → put file m (eval file m xs) (eval file m ys) ≡ eval file m (xs ++ ys)
      joins xs ys =
          put-from (eval file m xs) nothing ys refl ∙ ap (λ c. eval_from file m c ys) (put-nothing (eval file m xs)) ∙ sym (eval-append nothing xs ys)
