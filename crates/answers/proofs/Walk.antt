-- What each answer says of the file: one walk, with the beginning read so far.
use Rattle.std.proofs.Common.{◌≡◌, ℕ, zero, suc, ◌+◌, ◌≤◌, Bool, true, false, cond, List, [], ◌∷◌, ◌++◌, length, Ok, Err, Result, sym, refl, ap, ◌∙◌, subst, append_assoc, append-nil, arith, length-append}
use Rattle.std.specs.Str.{bytes_eq}
use Rattle.std.proofs.lemmas.Slice.Eq.{bytes_eq-Decides}
use Rattle.std.proofs.lemmas.Bool.{both_ways, eqb-true, not_from_false}
use Rattle.tags.specs.declared.tag.TagKind.{TagKind}
use Rattle.tags.specs.declared.tag.TagKind.TheVariants.{Start, Empty, End}
use Rattle.tags.specs.Bytes.{mark}
use Rattle.tags.specs.Reads.{Outcome, tag, fault, read_tag}
use Rattle.grammar.specs.Grammar.{none, more, Tag}
use Rattle.grammar.proofs.Rests.{sound}
use Rattle.grammar.proofs.Firsts.{faults}
use Rattle.grammar.proofs.Places.{causes}
use Rattle.answers.specs.declared.fault.Fault.{Fault}
use Rattle.answers.specs.Own.{Opened, path, Element, with_element, elements_from, elements}
use Rattle.answers.specs.Rule.{text_byte, Text, WellFormed, only, empty, element}
use Rattle.answers.specs.Exact.{opened_at, Ahead, outside, within, Refusal, bad_tag, mismatch, stray, unclosed}
use Rattle.answers.proofs.Seen.{seen_as, seen, file_seen}
use Rattle.answers.proofs.Tagged.{tag-marked, seen-tag}
use Rattle.answers.proofs.After.{answer, ended, after_empty, after_start, after_end}

-- Well-formed content and beginnings, with more after them.

more-text : {b : ℕ} {c : List ℕ} → text_byte b ≡ true → WellFormed c → WellFormed (b ∷ c)
more-text h (only e) = only (more h e)
more-text h (empty e T C) = empty (more h e) T C
more-text h (element e S C T D) = element (more h e) S C T D

text_more : {t d : List ℕ} → Text t → WellFormed d → WellFormed (t ++ d)
text_more none D = D
text_more (more h e) D = more-text h (text_more e D)

content-more : {c d : List ℕ} → WellFormed c → WellFormed d → WellFormed (c ++ d)
content-more (only e) D = text_more e D
content-more (empty e T C) D = rw (append_assoc, append_assoc) (empty e T (content-more C D))
content-more (element e S C T B) D = rw (append_assoc, append_assoc, append_assoc, append_assoc) (element e S C T (content-more B D))

ahead_more : {os : List Opened} {p d : List ℕ} → Ahead os p → WellFormed d → Ahead os (p ++ d)
ahead_more (outside C) D = outside (content-more C D)
ahead_more (within A S C) D = rw (append_assoc, append_assoc) (within A S (content-more C D))

ahead-close : {e : Opened} {os : List Opened} {p x : List ℕ} → Ahead (e ∷ os) p → Tag End e.name x → Ahead os (p ++ x)
ahead-close {x} (within {p} {s} {c} A S C) T =
    let e : p ++ (s ++ (c ++ (x ++ []))) ≡ (p ++ (s ++ c)) ++ x = simp (append_assoc, append-nil) in
    subst (Ahead _) e (ahead_more A (element none S C T (only none)))

-- The walk.

abbrev pub Says : Result (List Element) Fault → List ℕ → Type 0
Says (Ok es) f = WellFormed f
Says (Err x) f = Refusal x f

says_with : (f : List ℕ) (q : ℕ) (ns : List (List ℕ)) (a : Result (List Element) Fault) → Says a f → Says (with_element q ns a) f
says_with f q ns (Err x) h = h
says_with f q ns (Ok es) h = h

-- what is said of the rest xs, after a beginning p
abbrev Tells : List ℕ → Type 0
Tells xs = (os : List Opened) (p : List ℕ) (at : ℕ) (f : List ℕ) → at ≡ length p → p ++ xs ≡ f → Ahead os p → Says (answer os at xs) f

module _ (r : List ℕ) (later : Tells r) (p : List ℕ) where
  at_end : (e : Opened) (os : List Opened) (n t : List ℕ) → Ahead (e ∷ os) p → Tag End n t → (s : Bool) → bytes_eq e.name n ≡ s → Says (ended os (length p) (length p + length t) r s) (p ++ (t ++ r))
  at_end e os n t A T true q =
      later os (p ++ t) (length p + length t) (p ++ (t ++ r)) (sym (length-append p t)) (append_assoc p t r)
      (ahead-close A (subst (λ m. Tag End m t) (sym ((bytes_eq-Decides e.name n).0 q)) T))
  at_end e os n t A T false q = mismatch r A T (λ x. both_ways (bytes_eq e.name n) q ((bytes_eq-Decides e.name n).1 x))

  at_tag : (k : TagKind) (n t : List ℕ) (os : List Opened) → Ahead os p → Tag k n t → Says (answer os (length p) (t ++ r)) (p ++ (t ++ r))
  at_tag Start n t os A T =
      let g = p ++ (t ++ r) in
      subst (λ a. Says a g) (sym (after_start os (length p) r T)) (says_with g (length p) (path os ++ n ∷ []) (answer (opened_at (length p) n ∷ os) (length p + length t) r)
      (later (opened_at (length p) n ∷ os) (p ++ (t ++ [])) (length p + length t) g (simp (append-nil, length-append)) (simp (append-nil, append_assoc)) (within A T (only none))))
  at_tag Empty n t os A T =
      let g = p ++ (t ++ r) in
      subst (λ a. Says a g) (sym (after_empty os (length p) r T)) (says_with g (length p) (path os ++ n ∷ []) (answer os (length p + length t) r)
      (later os (p ++ (t ++ [])) (length p + length t) g (simp (append-nil, length-append)) (simp (append-nil, append_assoc)) (ahead_more A (empty none T (only none)))))
  at_tag End n t [] A T = subst (λ a. Says a (p ++ (t ++ r))) (sym (ap (elements_from []) (seen-tag (length p) End n t r T))) (stray r A T)
  at_tag End n t (e ∷ os) A T = subst (λ a. Says a (p ++ (t ++ r))) (sym (after_end e os (length p) r T)) (at_end e os n t A T (bytes_eq e.name n) refl)

abbrev Upto : ℕ → Type 0
Upto f = (xs : List ℕ) → length xs ≤ f → Tells xs

at-outcome : (f : ℕ) → Upto f → (bs : List ℕ) (os : List Opened) (p : List ℕ) → length bs ≤ f → Ahead os p → (o : Outcome) → read_tag (60 ∷ bs) ≡ o → Says (answer os (length p) (60 ∷ bs)) (p ++ 60 ∷ bs)
at-outcome f up bs os p l A (fault c i) q =
    subst (λ o. Says (elements_from os (seen_as (length p) o ∷ seen (length p + 1) bs)) (p ++ 60 ∷ bs)) (sym q) (bad_tag c i bs A (faults c i (60 ∷ bs) q, causes c i (60 ∷ bs) q))
at-outcome f up bs os p l A (tag k n) q =
    let s = sound k n (60 ∷ bs) q in
    let g = tag-marked s.3 in
    let short : length s.1 ≤ f = omega (arith, length-append s.0 s.1, ap length s.2, ap length g.1) in
    subst (λ l. Says (answer os (length p) l) (p ++ l)) (sym s.2) (at_tag s.1 (up s.1 short) p k n s.0 os A s.3)

at_byte : (f : ℕ) → Upto f → (b : ℕ) (bs : List ℕ) (os : List Opened) (p : List ℕ) → length bs ≤ f → Ahead os p → (t : Bool) → mark b ≡ t →
    Says (elements_from os (cond t (seen_as (length p) (read_tag (60 ∷ bs)) ∷ seen (length p + 1) bs) (seen (length p + 1) bs))) (p ++ b ∷ bs)
at_byte f up b bs os p l A true q =
    subst (λ z. Says (answer os (length p) (60 ∷ bs)) (p ++ z ∷ bs)) (sym (eqb-true b 60 q)) (at-outcome f up bs os p l A (read_tag (60 ∷ bs)) refl)
at_byte f up b bs os p l A false q =
    up bs l os (p ++ b ∷ []) (length p + 1) (p ++ b ∷ bs) (sym (length-append p (b ∷ []))) (append_assoc p (b ∷ []) bs) (ahead_more A (only (more (not_from_false (mark b) q) none)))

at_last : (os : List Opened) (p : List ℕ) → Ahead os p → Says (elements_from os []) p
at_last [] p (outside C) = C
at_last (e ∷ os) p A = unclosed A

upto : (f : ℕ) → Upto f
upto f [] l os p at g m e A = subst (Says (elements_from os [])) (sym (append-nil p) ∙ e) (at_last os p A)
upto zero (b ∷ bs) l os p at g m e A = absurd (omega arith)
upto (suc f) (b ∷ bs) l os p at g m e A =
    subst (λ a. Says (answer os a (b ∷ bs)) g) (sym m) (subst (Says (answer os (length p) (b ∷ bs))) e (at_byte f (upto f) b bs os p (omega arith) A (mark b) refl))

pub said : (file : List ℕ) → Says (elements file) file
said file = subst (λ s. Says (elements_from [] s) file) (sym (file_seen file)) (upto (length file) file (omega arith) [] [] 0 file refl refl (outside (only none)))
