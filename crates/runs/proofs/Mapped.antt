-- Contents whose actions are mapped from one machine's to another's.
use Rattle.std.proofs.Common.{◌≡◌, ℕ, Bool, true, false, cond, eqb, List, [], ◌∷◌, ◌++◌, map, length, Some, None, Ok, Err, Option, Result, sym, refl, ap, ◌∙◌, arith}
use Rattle.std.proofs.lemmas.List.{map-append}
use Rattle.tags.specs.declared.tag.TagKind.{TagKind}
use Rattle.tags.specs.declared.tag.TagKind.TheVariants.{Start, Empty, End}
use Rattle.tags.specs.declared.tag.TagFault.{TagFault}
use Rattle.tags.specs.Reads.{tag_at}
use Rattle.machine.specs.Model.{Model, Lawful}
use Rattle.rows.specs.declared.row.RowKind.TheVariants.{Close, Open, Done}
use Rattle.rows.specs.declared.row.PieceFault.{PieceFault}
use Rattle.rows.specs.Pieces.{Entry, Taken, Content, base, close_last, closes, under, run, seal, put}
use Rattle.rows.specs.Stretches.{made, one, eval_from, nothing, stretches, content, joined_at, last_put}
use Rattle.rows.specs.Places.{stored}
use Rattle.answers.specs.Finish.{first_close, row_matches, finish}

abbrev pub entry-by : {A B : Type 0} → (A → B) → Entry A → Entry B
entry-by h e = record { row = e.row; act = h e.act }

-- a content with h done to each action
abbrev pub mapped : {A B : Type 0} → (A → B) → Content A → Content B
mapped h c = record { rows = map (entry-by h) c.rows; fault = c.fault }

module _ {A B : Type 0} (h : A → B) where
  abbrev rows-by : List (Entry A) → List (Entry B)
  rows-by es = map (entry-by h) es

  abbrev base-by : Option (Entry A) → Option (Entry B)
  base-by None = None
  base-by (Some e) = Some (entry-by h e)

  abbrev taken-by : Taken A → Taken B
  taken-by t = record { left = rows-by t.left; added = rows-by t.added; stop = t.stop }

  base-mapped : (es : List (Entry A)) → base (rows-by es) ≡ base-by (base es)
  base-mapped [] = refl
  base-mapped (e ∷ es) = grind (arith, base-mapped es)

  close-mapped : (es : List (Entry A)) → close_last (rows-by es) ≡ rows-by (close_last es)
  close-mapped [] = refl
  close-mapped (e ∷ es) = grind (arith, close-mapped es, base-mapped es)

  closes-mapped : (es : List (Entry A)) → closes (rows-by es) ≡ rows-by (closes es)
  closes-mapped [] = refl
  closes-mapped (e ∷ es) = grind (arith, closes-mapped es)

  seal-mapped : (es : List (Entry A)) (f : Option PieceFault) → seal (rows-by es) f ≡ mapped h (seal es f)
  seal-mapped es None = refl
  seal-mapped es (Some f) = ap (λ x. record { rows = x; fault = Some f }) (closes-mapped es)

  first-mapped : (es : List (Entry A)) → first_close (rows-by es) ≡ first_close es
  first-mapped [] = refl
  first-mapped (e ∷ es) = grind (arith, first-mapped es)

  module _ {P Q : Type 0} (m : Model A P) (n : Model B Q) where
    -- h keeps what the machine's functions do
    pub record Keeps : Type 0 where
      pub stays : h m.stay ≡ n.stay
      pub acts : (x : List ℕ) → h (m.action x) ≡ n.action x
      pub thens : (a b : A) → h (m.then a b) ≡ n.then (h a) (h b)
      pub marked : (a : A) → n.marks (h a) ≡ m.marks a

    module _ (keeps : Keeps) (file : List ℕ) where
      under-mapped : (b : Option (Entry A)) (e : Entry A) → under n (base-by b) (entry-by h e) ≡ entry-by h (under m b e)
      under-mapped None e = refl
      under-mapped (Some b) e = ap (λ a. record { row = e.row; act = a }) (sym (keeps.thens b.act e.act))

      run-mapped : (l es : List (Entry A)) → run file n (rows-by l) (rows-by es) ≡ taken-by (run file m l es)
      run-mapped l [] = refl
      run-mapped l (e ∷ es) = grind (arith, run-mapped l es, run-mapped (close_last l) es, close-mapped l, base-mapped l, under-mapped (base l) e)

      put-mapped : (x y : Content A) → put file n (mapped h x) (mapped h y) ≡ mapped h (put file m x y)
      put-mapped x y = go x.fault refl
        where
          t : Taken A
          t = run file m x.rows y.rows

          go : (f : Option PieceFault) → x.fault ≡ f → put file n (mapped h x) (mapped h y) ≡ mapped h (put file m x y)
          go f e = grind (arith, run-mapped x.rows y.rows, seal-mapped (t.left ++ t.added), map-append (entry-by h) t.left t.added)

      made-mapped : (p : ℕ) (t : Result (TagKind × List ℕ) TagFault) → made n p t ≡ mapped h (made m p t)
      made-mapped p (Err e) = refl
      made-mapped p (Ok t) = go t.0
        where
          go : (k : TagKind) → made n p (Ok (k, t.1)) ≡ mapped h (made m p (Ok (k, t.1)))
          go Start = ap (λ a. record { rows = record { row = record { kind = Open; place = p; name_len = length t.1 }; act = a } ∷ []; fault = None }) (sym (keeps.acts t.1))
          go Empty = ap (λ a. record { rows = record { row = record { kind = Done; place = p; name_len = length t.1 }; act = a } ∷ []; fault = None }) (sym (keeps.acts t.1))
          go End = ap (λ a. record { rows = record { row = record { kind = Close; place = p; name_len = length t.1 }; act = a } ∷ []; fault = None }) (sym keeps.stays)

      one-mapped : (s : ℕ × ℕ) → one file n s ≡ mapped h (one file m s)
      one-mapped s = made-mapped s.0 (tag_at file s.0 s.1)

      put_one : (x : Content A) (s : ℕ × ℕ) → put file n (mapped h x) (one file n s) ≡ mapped h (put file m x (one file m s))
      put_one x s = ap (put file n (mapped h x)) (one-mapped s) ∙ put-mapped x (one file m s)

      eval-mapped : (c : Content A) (ss : List (ℕ × ℕ)) → eval_from file n (mapped h c) ss ≡ mapped h (eval_from file m c ss)
      eval-mapped c [] = refl
      eval-mapped c (s ∷ ss) = ap (λ x. eval_from file n x ss) (put_one c s) ∙ eval-mapped (put file m c (one file m s)) ss

      pub content-mapped : (from to : ℕ) → content file n from to ≡ mapped h (content file m from to)
      content-mapped from to = eval-mapped nothing (stretches file from to)

      cond-mapped : (b : Bool) (x y : Content A) (x' y' : Content B) → x' ≡ mapped h x → y' ≡ mapped h y → cond b x' y' ≡ mapped h (cond b x y)
      cond-mapped true x y x' y' e f = e
      cond-mapped false x y x' y' e f = f

      pub joined-mapped : (l r : ℕ × ℕ × ℕ) (x y : Content A) → joined_at file n l r (mapped h x) (mapped h y) ≡ mapped h (joined_at file m l r x y)
      joined-mapped l r x y =
          let s : ℕ × ℕ = (l.1, r.0) in
          cond-mapped (eqb l.2 0) y _ (mapped h y) _ refl
          (cond-mapped (eqb r.2 0) x (put file m (put file m x (one file m s)) y) (mapped h x) (put file n (put file n (mapped h x) (one file n s)) (mapped h y)) refl
          (ap (λ c. put file n c (mapped h y)) (put_one x s) ∙ put-mapped (put file m x (one file m s)) y))

      pub last-mapped : (e : ℕ × ℕ × ℕ) (x : Content A) → last_put file n e (mapped h x) ≡ mapped h (last_put file m e x)
      last-mapped e x = cond-mapped (eqb e.2 0) x (put file m x (one file m (e.1, length file))) (mapped h x) _ refl (put_one x (e.1, length file))

      matches-mapped : (es : List (Entry A)) → row_matches n (rows-by es) ≡ row_matches m es
      matches-mapped [] = refl
      matches-mapped (e ∷ es) = grind (arith, matches-mapped es, keeps.marked e.act)

      pub finish-mapped : (c : Content A) → finish n (mapped h c) ≡ finish m c
      finish-mapped c = grind (arith, first-mapped c.rows, base-mapped c.rows, matches-mapped c.rows)

-- a machine's functions on plain forms do what they do on actions
pub plain-keeps : {A P : Type 0} (m : Model A P) → Lawful m → Keeps m.plain m (stored m)
unfolding stored
plain-keeps m laws = record {
  stays = refl;
  acts = λ x. refl;
  thens = λ a b. let e = laws.round a in let f = laws.round b in ap m.plain (sym (ap (λ x. m.then x (m.back (m.plain b))) e ∙ ap (m.then a) f));
  marked = λ a. ap m.marks (laws.round a);
}
