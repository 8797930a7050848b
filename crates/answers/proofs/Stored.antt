-- Contents whose actions are kept in plain forms.
use Rattle.std.proofs.Common.{◌≡◌, ℕ, List, [], ◌∷◌, ◌++◌, map, Some, None, Ok, Err, Option, Result, sym, refl, ap, ◌∙◌, subst, arith}
use Rattle.std.proofs.lemmas.List.{map-append}
use Rattle.tags.specs.declared.tag.TagKind.{TagKind}
use Rattle.tags.specs.declared.tag.TagKind.TheVariants.{Start, Empty, End}
use Rattle.tags.specs.declared.tag.TagFault.{TagFault}
use Rattle.tags.specs.Reads.{tag_at}
use Rattle.machine.specs.Model.{Model, then_all, Lawful}
use Rattle.rows.specs.declared.row.PieceFault.{PieceFault}
use Rattle.rows.specs.Pieces.{Entry, base, close_last, closes, under, Taken, run, Content, seal, fault_after, put}
use Rattle.rows.specs.Stretches.{made, one, eval_from, nothing, stretches}
use Rattle.rows.specs.Places.{stored}
use Rattle.answers.specs.Laws.{WholeBy, AnyCutWholeBy, plain_entry, plain_content, Stored}
use Rattle.answers.proofs.Joins.{Assoc}
use Rattle.answers.proofs.Cuts.{join, any-cut}
use Rattle.answers.proofs.Wholes.{MarksPath, whole, any-cut_whole}

module _ {A P : Type 0} (m : Model A P) (laws : Lawful m) where
  -- The machine on plain forms.

  stored-then : (a b : A) → (stored m).then (m.plain a) (m.plain b) ≡ m.plain (m.then a b)
  unfolding stored
  stored-then a b = λ i. m.plain (m.then (laws.round a i) (laws.round b i))

  stored-action : (n : List ℕ) → (stored m).action n ≡ m.plain (m.action n)
  unfolding stored
  stored-action n = refl

  stored-verdict : (stored m).verdict ≡ m.verdict
  unfolding stored
  stored-verdict = refl

  stored-marks : (a : A) → (stored m).marks (m.plain a) ≡ m.marks a
  unfolding stored
  stored-marks a = ap m.marks (laws.round a)

  stored-assoc : Assoc (stored m)
  unfolding stored
  stored-assoc p q r =
      let a = m.back p in
      let b = m.back q in
      let c = m.back r in
      ap (λ x. m.plain (m.then x c)) (laws.round (m.then a b)) ∙ ap m.plain (laws.assoc a b c) ∙ ap (λ x. m.plain (m.then a x)) (sym (laws.round (m.then b c)))

  stored-all : (a : A) (ns : List (List ℕ)) → then_all (stored m).then (stored m).action (m.plain a) ns ≡ m.plain (then_all m.then m.action a ns)
  stored-all a [] = refl
  stored-all a (n ∷ ns) =
      ap (λ p. then_all (stored m).then (stored m).action p ns) (ap ((stored m).then (m.plain a)) (stored-action n) ∙ stored-then a (m.action n)) ∙ stored-all (m.then a (m.action n)) ns

  stored-path : MarksPath (stored m)
  stored-path n ns =
      ap (λ p. (stored m).marks (then_all (stored m).then (stored m).action p ns)) (stored-action n)
      ∙ ap (stored m).marks (stored-all (m.action n) ns)
      ∙ stored-marks (then_all m.then m.action (m.action n) ns)
      ∙ laws.marks_path n ns
      ∙ ap (λ v. v (n ∷ ns)) (sym stored-verdict)

  -- Contents.

  abbrev plains : List (Entry A) → List (Entry P)
  plains es = map (plain_entry m) es

  abbrev plain-base : Option (Entry A) → Option (Entry P)
  plain-base None = None
  plain-base (Some e) = Some (plain_entry m e)

  base-plains : (es : List (Entry A)) → base (plains es) ≡ plain-base (base es)
  base-plains [] = refl
  base-plains (e ∷ es) = grind (arith, base-plains es)

  close-plains : (es : List (Entry A)) → close_last (plains es) ≡ plains (close_last es)
  close-plains [] = refl
  close-plains (e ∷ es) = grind (arith, close-plains es, base-plains es)

  closes-plains : (es : List (Entry A)) → closes (plains es) ≡ plains (closes es)
  closes-plains [] = refl
  closes-plains (e ∷ es) = grind (arith, closes-plains es)

  under-plains : (b : Option (Entry A)) (e : Entry A) → under (stored m) (plain-base b) (plain_entry m e) ≡ plain_entry m (under m b e)
  under-plains None e = refl
  under-plains (Some b) e = ap (λ p. record { row = e.row; act = p }) (stored-then b.act e.act)

  abbrev plain-taken : Taken A → Taken P
  plain-taken t = record { left = plains t.left; added = plains t.added; stop = t.stop }

  module _ (file : List ℕ) where
    run-plains : (l rs : List (Entry A)) → run file (stored m) (plains l) (plains rs) ≡ plain-taken (run file m l rs)
    run-plains l [] = refl
    run-plains l (r ∷ rs) = grind (arith, run-plains l rs, run-plains (close_last l) rs, base-plains l, close-plains l, under-plains (base l) r)

    seal-plains : (es : List (Entry A)) (f : Option PieceFault) → seal (plains es) f ≡ plain_content m (seal es f)
    seal-plains es None = refl
    seal-plains es (Some f) = ap (λ l. record { rows = l; fault = Some f }) (closes-plains es)

    put-plains : (x y : Content A) → put file (stored m) (plain_content m x) (plain_content m y) ≡ plain_content m (put file m x y)
    put-plains x y =
        let t = run file m x.rows y.rows in
        grind (arith, run-plains x.rows y.rows, seal-plains (t.left ++ t.added) (fault_after t.stop y.fault), map-append (plain_entry m) t.left t.added)

    made-plains : (p : ℕ) (t : Result (TagKind × List ℕ) TagFault) → made (stored m) p t ≡ plain_content m (made m p t)
    unfolding stored
    made-plains p (Ok (Start, n)) = refl
    made-plains p (Ok (Empty, n)) = refl
    made-plains p (Ok (End, n)) = refl
    made-plains p (Err e) = refl

    eval-plains : (c : Content A) (ss : List (ℕ × ℕ)) → eval_from file (stored m) (plain_content m c) ss ≡ plain_content m (eval_from file m c ss)
    eval-plains c [] = refl
    eval-plains c (s ∷ ss) =
        ap (λ x. eval_from file (stored m) x ss) (ap (put file (stored m) (plain_content m c)) (made-plains s.0 (tag_at file s.0 s.1)) ∙ put-plains c (one file m s))
        ∙ eval-plains (put file m c (one file m s)) ss

  pub stored-laws : Stored m
  stored-laws = record {
    contents = λ file a b. eval-plains file nothing (stretches file a b);
    join = join (stored m) stored-assoc;
    cuts = any-cut (stored m) stored-assoc;
    whole = subst (WholeBy (stored m)) stored-verdict (whole (stored m) stored-path);
    cuts_whole = subst (AnyCutWholeBy (stored m)) stored-verdict (any-cut_whole (stored m) stored-assoc stored-path);
  }
