-- What is answered after text, tags and well-formed content.
use Rattle.std.proofs.Common.{◌≡◌, ℕ, ◌+◌, Bool, true, false, List, [], ◌∷◌, ◌++◌, length, Ok, Err, Result, sym, refl, ap, ◌∙◌, append_assoc, arith, length-append}
use Rattle.std.specs.Str.{bytes_eq}
use Rattle.std.proofs.lemmas.Slice.Eq.{bytes_eq-Decides}
use Rattle.tags.specs.declared.tag.TagKind.TheVariants.{Start, Empty, End}
use Rattle.grammar.specs.Grammar.{Tag}
use Rattle.answers.specs.declared.fault.Fault.{Fault}
use Rattle.answers.specs.declared.fault.Fault.TheVariants.{Mismatch}
use Rattle.answers.specs.Own.{Opened, path, Element, with_element, elements_from}
use Rattle.answers.specs.Rule.{Text, WellFormed, only, empty, element}
use Rattle.answers.specs.Exact.{placed_at, opened_at, Holds, no_elements, an_empty, an_element}
use Rattle.answers.proofs.Seen.{seen}
use Rattle.answers.proofs.Tagged.{seen-text, seen-tag}

-- Elements in front of an answer.

abbrev pub in_front : List Element → Result (List Element) Fault → Result (List Element) Fault
in_front es (Err f) = Err f
in_front es (Ok fs) = Ok (es ++ fs)

front_none : (a : Result (List Element) Fault) → a ≡ in_front [] a
front_none (Err f) = refl
front_none (Ok fs) = refl

front_more : (p : ℕ) (ns : List (List ℕ)) (es : List Element) (a : Result (List Element) Fault) → with_element p ns (in_front es a) ≡ in_front (placed_at p ns ∷ es) a
front_more p ns es (Err f) = refl
front_more p ns es (Ok fs) = refl

front_append : (es fs : List Element) (a : Result (List Element) Fault) → in_front es (in_front fs a) ≡ in_front (es ++ fs) a
front_append es fs (Err f) = refl
front_append es fs (Ok ks) = ap Ok (sym (append_assoc es fs ks))

-- What is answered after text and after tags.

abbrev pub answer : List Opened → ℕ → List ℕ → Result (List Element) Fault
answer os at r = elements_from os (seen at r)

pub after_text : (os : List Opened) (at : ℕ) {t : List ℕ} (r : List ℕ) → Text t → answer os at (t ++ r) ≡ answer os (at + length t) r
after_text os at r e = ap (elements_from os) (seen-text at r e)

pub after_empty : (os : List Opened) (at : ℕ) {n t : List ℕ} (r : List ℕ) → Tag Empty n t → answer os at (t ++ r) ≡ with_element at (path os ++ n ∷ []) (answer os (at + length t) r)
after_empty os at {n} {t} r T = ap (elements_from os) (seen-tag at Empty n t r T)

pub after_start : (os : List Opened) (at : ℕ) {n t : List ℕ} (r : List ℕ) → Tag Start n t → answer os at (t ++ r) ≡ with_element at (path os ++ n ∷ []) (answer (opened_at at n ∷ os) (at + length t) r)
after_start os at {n} {t} r T = ap (elements_from os) (seen-tag at Start n t r T)

abbrev pub ended : List Opened → ℕ → ℕ → List ℕ → Bool → Result (List Element) Fault
ended os at to r s = elim s [ true ↦ answer os to r | false ↦ Err (Mismatch at) ]

pub after_end : (e : Opened) (os : List Opened) (at : ℕ) {n t : List ℕ} (r : List ℕ) → Tag End n t → answer (e ∷ os) at (t ++ r) ≡ ended os at (at + length t) r (bytes_eq e.name n)
after_end e os at {n} {t} r T = ap (elements_from (e ∷ os)) (seen-tag at End n t r T)

pub after_match : (p : ℕ) (os : List Opened) (at : ℕ) {n t : List ℕ} (r : List ℕ) → Tag End n t → answer (opened_at p n ∷ os) at (t ++ r) ≡ answer os (at + length t) r
after_match p os at {n} {t} r T = after_end (opened_at p n) os at r T ∙ ap (ended os at (at + length t) r) ((bytes_eq-Decides n n).1 refl)

-- Well-formed content goes in front of what follows.

pub after : (os : List Opened) {ns : List (List ℕ)} {at : ℕ} {c : List ℕ} {es : List Element} (r : List ℕ) → path os ≡ ns → Holds ns at c es → answer os at (c ++ r) ≡ in_front es (answer os (at + length c) r)
after os {at} {c} r q (no_elements e) = after_text os at r e ∙ front_none (answer os (at + length c) r)
after os {ns} {at} r q (an_empty {t} {e = x} {r = d} {n} {es} e T D) =
    let to : ((at + length t) + length x) + length d ≡ at + length (t ++ (x ++ d)) = simp length-append (omega arith) in
    rw (append_assoc, append_assoc)
    (after_text os at (x ++ (d ++ r)) e
    ∙ after_empty os (at + length t) (d ++ r) T
    ∙ ap (with_element (at + length t) (path os ++ n ∷ [])) (after os r q D)
    ∙ front_more (at + length t) (path os ++ n ∷ []) es (answer os (((at + length t) + length x) + length d) r)
    ∙ (λ i. in_front (placed_at (at + length t) (q i ++ n ∷ []) ∷ es) (answer os (to i) r)))
after os {ns} {at} r q (an_element {t} {s} {c} {e = x} {r = d} {n} {es} {fs} e S C T D) =
    let a = at + length t in
    let to : (((a + length s) + length c) + length x) + length d ≡ at + length (t ++ (s ++ (c ++ (x ++ d)))) = simp length-append (omega arith) in
    let end = answer os ((((a + length s) + length c) + length x) + length d) r in
    rw (append_assoc, append_assoc, append_assoc, append_assoc)
    (after_text os at (s ++ (c ++ (x ++ (d ++ r)))) e
    ∙ after_start os a (c ++ (x ++ (d ++ r))) S
    ∙ ap (with_element a (path os ++ n ∷ []))
    (after (opened_at a n ∷ os) (x ++ (d ++ r)) (ap (λ l. l ++ n ∷ []) q) C
    ∙ ap (in_front es) (after_match a os ((a + length s) + length c) (d ++ r) T ∙ after os r q D)
    ∙ front_append es fs end)
    ∙ front_more a (path os ++ n ∷ []) (es ++ fs) end
    ∙ (λ i. in_front (placed_at a (q i ++ n ∷ []) ∷ (es ++ fs)) (answer os (to i) r)))

-- the elements of well-formed content
abbrev pub Found : List (List ℕ) → ℕ → List ℕ → Type 0
Found ns at c = (es : List Element) × Holds ns at c es

pub found : (ns : List (List ℕ)) (at : ℕ) {c : List ℕ} → WellFormed c → Found ns at c
found ns at (only e) = ([], no_elements e)
found ns at (empty {t} {e = x} e T D) = let f = found ns ((at + length t) + length x) D in (_, an_empty e T f.1)
found ns at (element {t} {s} {c} {e = x} {n} e S C T D) =
    let f = found (ns ++ n ∷ []) ((at + length t) + length s) C in
    let g = found ns ((((at + length t) + length s) + length c) + length x) D in
    (_, an_element e S f.1 T g.1)
