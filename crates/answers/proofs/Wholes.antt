-- That the content of a whole file, finished, is the file's own answer.
use Rattle.std.proofs.Common.{◌≡◌, ℕ, Bool, true, false, List, [], ◌∷◌, ◌++◌, map, length, Some, None, Ok, Err, Option, Result, sym, refl, ap, ◌∙◌, subst, append_assoc, append-nil, arith}
use Rattle.std.specs.Str.{bytes_eq}
use Rattle.tags.specs.declared.tag.TagKind.{TagKind}
use Rattle.tags.specs.declared.tag.TagKind.TheVariants.{Start, Empty, End}
use Rattle.tags.specs.declared.tag.TagFault.{TagFault}
use Rattle.tags.specs.Reads.{tag_at}
use Rattle.machine.specs.Model.{Model, then_all, path_action}
use Rattle.rows.specs.declared.row.RowKind.{RowKind}
use Rattle.rows.specs.declared.row.RowKind.TheVariants.{Close, Open, Done}
use Rattle.rows.specs.declared.row.PieceFault.TheVariants as piece
use Rattle.rows.specs.Pieces.{name, Entry, base, close_last, closes, under, Content, put}
use Rattle.rows.specs.Stretches.{row_of, lone, made, one, eval_from, eval, last_put}
use Rattle.rows.proofs.Puts.{eval-fault}
use Rattle.answers.specs.declared.fault.Fault.{Fault}
use Rattle.answers.specs.declared.fault.Fault.TheVariants.{Stray}
use Rattle.answers.specs.declared.matches.Match.{Match}
use Rattle.answers.specs.Own.{file_stretches, seen_at, Opened, path, Element, with_element, elements_from, matches_at, matches, judged}
use Rattle.answers.specs.Finish.{first_close, row_matches, finish}
use Rattle.answers.specs.Laws.{Whole, AnyCutWhole}
use Rattle.answers.proofs.Names.{row-name}
use Rattle.answers.proofs.Joins.{Assoc, base-append, close-last-append}
use Rattle.answers.proofs.Cuts.{last_stretch, any-cut}

-- all that finishing needs of a machine
abbrev pub MarksPath : {A P : Type 0} → Model A P → Type 0
MarksPath m = (n : List ℕ) (ns : List (List ℕ)) → m.marks (path_action m n ns) ≡ m.verdict (n ∷ ns)

abbrev pub or_later : Option ℕ → Option ℕ → Option ℕ
or_later (Some p) o = Some p
or_later None o = o

abbrev entry : {A : Type 0} → RowKind → ℕ → List ℕ → A → Entry A
entry k p n a = record { row = record { kind = k; place = p; name_len = length n }; act = a }

abbrev good : {A : Type 0} → List (Entry A) → Content A
good cs = record { rows = cs; fault = None }

abbrev in_front : List Match → Result (List Match) Fault → Result (List Match) Fault
in_front xs (Err f) = Err f
in_front xs (Ok ys) = Ok (xs ++ ys)

module _ {A : Type 0} where
  pub first-close-append : (l a : List (Entry A)) → first_close (l ++ a) ≡ or_later (first_close l) (first_close a)
  first-close-append [] a = refl
  first-close-append (r ∷ l) a = grind (arith, first-close-append l a)

  pub first-close-closes : (l : List (Entry A)) → first_close (closes l) ≡ first_close l
  first-close-closes [] = refl
  first-close-closes (r ∷ l) = grind (arith, first-close-closes l)

  pub first-close-last : (l : List (Entry A)) → first_close (close_last l) ≡ first_close l
  first-close-last [] = refl
  first-close-last (r ∷ l) = grind (arith, first-close-last l)

  module _ {P : Type 0} (file : List ℕ) (m : Model A P) where
    pub row-matches-append : (l a : List (Entry A)) → row_matches m (l ++ a) ≡ row_matches m l ++ row_matches m a
    row-matches-append [] a = refl
    row-matches-append (r ∷ l) a = grind (arith, row-matches-append l a, append_assoc)

    pub row-matches-last : (l : List (Entry A)) → row_matches m (close_last l) ≡ row_matches m l
    row-matches-last [] = refl
    row-matches-last (r ∷ l) = grind (arith, row-matches-last l)

    -- Once there is a Close row, or a fault.

    put-close : (c : Content A) (q : ℕ) (t : Result (TagKind × List ℕ) TagFault) (p : ℕ) → first_close c.rows ≡ Some p → first_close (put file m c (made m q t)).rows ≡ Some p
    put-close c q t p h = grind (arith, append-nil, first-close-append, first-close-closes, first-close-last)

    pub finish-close : (c : Content A) (ys : List (ℕ × ℕ)) (p : ℕ) → first_close c.rows ≡ Some p → finish m (eval_from file m c ys) ≡ Err (Stray p)
    finish-close c [] p h = grind arith
    finish-close c (y ∷ ys) p h = finish-close (put file m c (one file m y)) ys p (put-close c y.0 (tag_at file y.0 y.1) p h)

    -- the action of an element that opens under os
    abbrev led : List Opened → List ℕ → A
    led [] n = m.action n
    led (o ∷ os) n = m.then (led os o.name) (m.action n)

    -- The Open rows of cs are the elements os, with their names and actions.

    abbrev Stacked : List (Entry A) → List Opened → Type 0
    Stacked cs [] = base cs ≡ None
    Stacked cs (o ∷ os) = (base cs ≡ Some (entry Open o.place o.name (led os o.name))) × (name file (entry Open o.place o.name (led os o.name)).row ≡ o.name) × Stacked (close_last cs) os

    stacked-done : (cs : List (Entry A)) (p : ℕ) (n : List ℕ) (a : A) (os : List Opened) → Stacked cs os → Stacked (cs ++ (entry Done p n a ∷ [])) os
    stacked-done cs p n a [] st = grind (arith, base-append)
    stacked-done cs p n a (o ∷ os) st =
        let moved : close_last (cs ++ (entry Done p n a ∷ [])) ≡ close_last cs ++ (entry Done p n a ∷ []) = grind (arith, close-last-append) in
        (grind (arith, base-append), st.1, subst (λ x. Stacked x os) (sym moved) (stacked-done (close_last cs) p n a os st.2))

    stacked-open : (cs : List (Entry A)) (p : ℕ) (n : List ℕ) (os : List Opened) → name file (entry Open p n (led os n)).row ≡ n → Stacked cs os → Stacked (cs ++ (entry Open p n (led os n) ∷ [])) (record { place = p; name = n } ∷ os)
    stacked-open cs p n os named st =
        let a = led os n in
        let closed : close_last (cs ++ (entry Open p n a ∷ [])) ≡ cs ++ (entry Done p n a ∷ []) = grind (arith, close-last-append) in
        (grind (arith, base-append), named, subst (λ x. Stacked x os) (sym closed) (stacked-done cs p n a os st))

    module _ (marks_path : MarksPath m) where
      after-all : (a : A) (ns : List (List ℕ)) (n : List ℕ) → then_all m.then m.action a (ns ++ (n ∷ [])) ≡ m.then (then_all m.then m.action a ns) (m.action n)
      after-all a [] n = refl
      after-all a (x ∷ ns) n = after-all (m.then a (m.action x)) ns n

      -- a path of one or more names, by its first
      abbrev Leads : A → List (List ℕ) → Type 0
      Leads a ns = (x : List ℕ) × (xs : List (List ℕ)) × (ns ≡ x ∷ xs) × (a ≡ path_action m x xs)

      leads : (os : List Opened) (n : List ℕ) → Leads (led os n) (path os ++ (n ∷ []))
      leads [] n = (n, [], refl, refl)
      leads (o ∷ os) n =
          let l = leads os o.name in
          (l.0, l.1 ++ (n ∷ []), ap (λ ns. ns ++ (n ∷ [])) l.2, ap (λ a. m.then a (m.action n)) l.3 ∙ sym (after-all (m.action l.0) l.1 n))

      marks-led : (os : List Opened) (n : List ℕ) → m.marks (led os n) ≡ m.verdict (path os ++ (n ∷ []))
      marks-led os n = let l = leads os n in ap m.marks l.3 ∙ marks_path l.0 l.1 ∙ ap m.verdict (sym l.2)

      under-is : (cs : List (Entry A)) (os : List Opened) (k : RowKind) (p : ℕ) (n : List ℕ) → Stacked cs os → under m (base cs) (entry k p n (m.action n)) ≡ entry k p n (led os n)
      under-is cs [] k p n st = grind arith
      under-is cs (o ∷ os) k p n st = grind arith

      -- What is to be shown after the rows cs, with the elements os open.
      abbrev Goal : List (Entry A) → List Opened → List (ℕ × ℕ) → Type 0
      Goal cs os xs = finish m (eval_from file m (good cs) xs) ≡ in_front (row_matches m cs) (judged m.verdict (elements_from os (map (seen_at file) xs)))

      ended : (cs : List (Entry A)) (os : List Opened) → first_close cs ≡ None → Stacked cs os → Goal cs os []
      ended cs [] h st = grind (arith, append-nil)
      ended cs (o ∷ os) h st = grind arith

      judged-with : (xs : List Match) (p : ℕ) (ns : List (List ℕ)) (r : Result (List Element) Fault) → in_front (xs ++ matches_at p 0 (m.verdict ns)) (judged m.verdict r) ≡ in_front xs (judged m.verdict (with_element p ns r))
      judged-with xs p ns (Err f) = refl
      judged-with xs p ns (Ok es) = ap Ok (append_assoc xs (matches_at p 0 (m.verdict ns)) (matches m.verdict es))

      -- a start tag or an empty tag, after which fs are open
      pushed : (cs : List (Entry A)) (k : RowKind) (p : ℕ) (n : List ℕ) (os fs : List Opened) (ss : List (ℕ × ℕ)) → Stacked cs os →
          Goal (cs ++ (entry k p n (led os n) ∷ [])) fs ss →
          finish m (eval_from file m (good (cs ++ (under m (base cs) (entry k p n (m.action n)) ∷ []))) ss) ≡ in_front (row_matches m cs) (judged m.verdict (with_element p (path os ++ (n ∷ [])) (elements_from fs (map (seen_at file) ss))))
      pushed cs k p n os fs ss st later =
          let ns = path os ++ (n ∷ []) in
          let r = elements_from fs (map (seen_at file) ss) in
          ap (λ x. finish m (eval_from file m (good (cs ++ (x ∷ []))) ss)) (under-is cs os k p n st) ∙ later
          ∙ ap (λ l. in_front l (judged m.verdict r))
          (row-matches-append cs (entry k p n (led os n) ∷ []) ∙ ap (λ l. row_matches m cs ++ l) (append-nil (matches_at p 0 (m.marks (led os n)))) ∙ ap (λ b. row_matches m cs ++ matches_at p 0 b) (marks-led os n))
          ∙ judged-with (row_matches m cs) p ns r

      abbrev Later : List (ℕ × ℕ) → Type 0
      Later ss = (ds : List (Entry A)) (fs : List Opened) → first_close ds ≡ None → Stacked ds fs → Goal ds fs ss

      abbrev After : List (Entry A) → List Opened → ℕ → Result (TagKind × List ℕ) TagFault → List (ℕ × ℕ) → Type 0
      After cs os p t ss = finish m (eval_from file m (put file m (good cs) (made m p t)) ss) ≡ in_front (row_matches m cs) (judged m.verdict (elements_from os ((p, t) ∷ map (seen_at file) ss)))

      -- an end tag, by whether it has the name of the last open element
      closing : (cs : List (Entry A)) (o : Opened) (os : List Opened) (p : ℕ) (n : List ℕ) (ss : List (ℕ × ℕ)) → Later ss → name file (row_of p End n) ≡ n →
          first_close cs ≡ None → Stacked cs (o ∷ os) → (t : Bool) → bytes_eq o.name n ≡ t → After cs (o ∷ os) p (Ok (End, n)) ss
      closing cs o os p n ss later named h st true e =
          let c : put file m (good cs) (lone (row_of p End n) m.stay) ≡ good (close_last cs) = grind (arith, append-nil, st.0, st.1) in
          ap (λ y. finish m (eval_from file m y ss)) c
          ∙ later (close_last cs) os (first-close-last cs ∙ h) st.2
          ∙ grind (arith, row-matches-last cs)
      closing cs o os p n ss later named h st false e =
          let c : Content A = record { rows = closes cs; fault = Some (piece.Mismatch p) } in
          let d : put file m (good cs) (lone (row_of p End n) m.stay) ≡ c = grind (arith, append-nil, st.0, st.1) in
          ap (λ y. finish m (eval_from file m y ss)) d ∙ ap (finish m) (eval-fault file m c ss (piece.Mismatch p) refl) ∙ grind (arith, first-close-closes cs)

      step : (cs : List (Entry A)) (os : List Opened) (p to : ℕ) (t : Result (TagKind × List ℕ) TagFault) → tag_at file p to ≡ t → (ss : List (ℕ × ℕ)) → Later ss →
          first_close cs ≡ None → Stacked cs os → After cs os p t ss
      step cs os p to (Ok (Start, n)) e ss later h st =
          pushed cs Open p n os (record { place = p; name = n } ∷ os) ss st (later _ _ (grind (arith, first-close-append)) (stacked-open cs p n os (row-name file p to Start n e) st))
      step cs os p to (Ok (Empty, n)) e ss later h st =
          pushed cs Done p n os os ss st (later _ _ (grind (arith, first-close-append)) (stacked-done cs p n (led os n) os st))
      step cs [] p to (Ok (End, n)) e ss later h st =
          let c : Content A = good (cs ++ (entry Close p n m.stay ∷ [])) in
          let d : put file m (good cs) (lone (row_of p End n) m.stay) ≡ c = grind arith in
          ap (λ x. finish m (eval_from file m x ss)) d ∙ finish-close c ss p (grind (arith, first-close-append))
      step cs (o ∷ os) p to (Ok (End, n)) e ss later h st = closing cs o os p n ss later (row-name file p to End n e) h st (bytes_eq o.name n) refl
      step cs os p to (Err f) e ss later h st =
          let c : Content A = record { rows = closes cs; fault = Some (piece.BadTag f) } in
          let d : put file m (good cs) (made m p (Err f)) ≡ c = grind (arith, append-nil) in
          ap (λ x. finish m (eval_from file m x ss)) d ∙ ap (finish m) (eval-fault file m c ss (piece.BadTag f) refl) ∙ grind (arith, first-close-closes cs)

      walked : (cs : List (Entry A)) (os : List Opened) (xs : List (ℕ × ℕ)) → first_close cs ≡ None → Stacked cs os → Goal cs os xs
      walked cs os [] h st = ended cs os h st
      walked cs os (x ∷ xs) h st = step cs os x.0 x.1 (tag_at file x.0 x.1) refl xs (λ ds fs. walked ds fs xs) h st

      front_none : (r : Result (List Match) Fault) → in_front [] r ≡ r
      front_none (Ok xs) = refl
      front_none (Err f) = refl

      pub finished : (xs : List (ℕ × ℕ)) → finish m (eval file m xs) ≡ judged m.verdict (elements_from [] (map (seen_at file) xs))
      finished xs = walked [] [] xs refl refl ∙ front_none (judged m.verdict (elements_from [] (map (seen_at file) xs)))

pub whole : {A P : Type 0} (m : Model A P) → MarksPath m → Whole m
whole m marks_path file = ap (finish m) (sym (last_stretch m file)) ∙ finished file m marks_path (file_stretches file)

pub any-cut_whole : {A P : Type 0} (m : Model A P) → Assoc m → MarksPath m → AnyCutWhole m
any-cut_whole m assoc marks_path file t =
    let u = any-cut m assoc file 0 (length file) t (omega arith) in
    (λ z. finish m (last_put file m (u.marks z) (u.contents z))) ∙ whole m marks_path file
