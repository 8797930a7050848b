-- The place and the cause of a fault are pinned by the grammar.
use Rattle.std.proofs.Common.{◌≡◌, ℕ, suc, ◌<◌, ◌≤◌, List, [], ◌++◌, length, take, drop, sym, refl, ap, ◌∙◌, subst, ⊎_elim, append_assoc, append-nil, arith, length-append, take-append-drop}
use lib.Seq.{take-append_seam}
use Rattle.std.proofs.lemmas.List.{take-take, take-append-le}
use Rattle.std.proofs.lemmas.Bool.{cases_lt, cases_order}
use Rattle.tags.specs.declared.tag.TagKind.{TagKind}
use Rattle.tags.specs.declared.tag.Cause.{Cause}
use Rattle.tags.specs.declared.reader.State.TheVariants.{Before}
use Rattle.tags.specs.Reads.{Outcome, tag, fault, reads, read_tag}
use Rattle.grammar.specs.Grammar.{Tag, Viable, FirstBad, Upto, Refused}
use Rattle.grammar.proofs.Runs.{complete}
use Rattle.grammar.proofs.Rests.{sound, no_tag, same-cause}
use Rattle.grammar.proofs.Firsts.{faults}
use Rattle.grammar.proofs.Places.{causes}
use Rattle.grammar.proofs.Apart.{exact}

viable_take : (j : ℕ) (p : List ℕ) → Viable p → Viable (take j p)
viable_take j p (k, n, u, T) =
    let e : p ++ u ≡ take j p ++ (drop j p ++ u) = ap (λ l. l ++ u) (sym (take-append-drop j p)) ∙ append_assoc (take j p) (drop j p) u in
    (k, n, drop j p ++ u, subst (Tag k n) e T)

-- a first bad byte comes after no other
not-before : (xs : List ℕ) (i j : ℕ) → FirstBad xs i → FirstBad xs j → i < j → ⊥
not-before xs i j F G h = F.here (omega (arith, G.within)) (subst Viable (take-take (suc i) j xs (omega arith)) (viable_take (suc i) (take j xs) G.before))

same_first : (xs : List ℕ) (i j : ℕ) → FirstBad xs i → FirstBad xs j → i ≡ j
same_first xs i j F G = ⊎_elim (λ e. e) (λ o. ⊎_elim (λ h. absurd (not-before xs i j F G h)) (λ h. absurd (not-before xs j i G F h)) o) (cases_order i j)

module _ (c : Cause) (i : ℕ) (xs : List ℕ) (F : FirstBad xs i) (U : Upto c (take i xs)) where
  no-tag-before : (k : TagKind) (n t r : List ℕ) → xs ≡ t ++ r → Tag k n t → length t ≤ i → ⊥
  no-tag-before k n t r e T h =
      let p = take i xs in
      let f : take (length t) p ≡ t = take-take (length t) i xs h ∙ ap (take (length t)) e ∙ take-append_seam t r in
      let g : p ≡ t ++ drop (length t) p = sym (take-append-drop (length t) p) ∙ ap (λ l. l ++ drop (length t) p) f in
      no_tag k n c (length p) (sym (exact c p U) ∙ ap (reads Before 0 []) g ∙ complete k n t (drop (length t) p) T)

  no-tag-after : (k : TagKind) (n t r : List ℕ) → xs ≡ t ++ r → Tag k n t → i < length t → ⊥
  no-tag-after k n t r e T h =
      F.here (omega (arith, length-append t r, ap length e))
      (subst Viable (sym (ap (take (suc i)) e ∙ take-append-le (suc i) t r (omega arith))) (viable_take (suc i) t (k, n, [], subst (Tag k n) (sym (append-nil t)) T)))

  by-outcome : (o : Outcome) → reads Before 0 [] xs ≡ o → o ≡ fault c i
  by-outcome (tag k n) q =
      let s = sound k n xs q in
      absurd (⊎_elim (λ h. no-tag-after k n s.0 s.1 s.2 s.3 h) (λ h. no-tag-before k n s.0 s.1 s.2 s.3 h) (cases_lt i (length s.0)))
  by-outcome (fault d j) q =
      let e : i ≡ j = same_first xs i j F (faults d j xs q) in
      let V : Upto d (take i xs) = subst (λ n. Upto d (take n xs)) (sym e) (causes d j xs q) in
      λ l. fault (same-cause (sym (exact d (take i xs) V) ∙ exact c (take i xs) U) l) (sym e l)

-- first bad byte and cause are those that the reader tells
pub pinned : (c : Cause) (i : ℕ) (xs : List ℕ) → Refused c i xs → read_tag xs ≡ fault c i
pinned c i xs R = by-outcome c i xs R.0 R.1 (reads Before 0 [] xs) refl
