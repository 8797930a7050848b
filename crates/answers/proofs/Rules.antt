-- Each answer of a whole file is what its bytes say.
use Rattle.std.proofs.Common.{◌≡◌, ℕ, ◌+◌, Bool, List, [], ◌∷◌, ◌++◌, length, Ok, Err, Result, sym, refl, ap, ◌∙◌, subst, append_assoc, append-nil, zero-add, arith, length-append}
use Rattle.tags.specs.declared.tag.TagKind.TheVariants.{End}
use Rattle.grammar.proofs.Pins.{pinned}
use Rattle.machine.proofs.Columns.{apart}
use Rattle.answers.specs.declared.fault.Fault.{Fault}
use Rattle.answers.specs.declared.matches.Match.{Match}
use Rattle.answers.specs.Own.{Opened, path, Element, with_element, elements_from, elements, matches, judged, own}
use Rattle.answers.specs.Rule.{WellFormed, Accepted}
use Rattle.answers.specs.Exact.{opened_at, Holds, Ahead, outside, within, Refusal, bad_tag, mismatch, stray, unclosed, Told, accepted, refused, Exactly}
use Rattle.answers.proofs.Seen.{seen_as, seen, file_seen}
use Rattle.answers.proofs.Tagged.{seen-tag}
use Rattle.answers.proofs.After.{in_front, answer, ended, after_start, after_end, after, found}
use Rattle.answers.proofs.Walk.{Says, said}

-- An accepted file.

of_holds : (file : List ℕ) (es : List Element) → Holds [] 0 file es → elements file ≡ Ok es
of_holds file es H =
    ap (elements_from []) (file_seen file) ∙ ap (answer [] 0) (sym (append-nil file)) ∙ after [] [] refl H ∙ ap Ok (append-nil es)

-- A refusal after a beginning is the file's own.

module _ (x : Fault) where
  refuses : {os : List Opened} {p : List ℕ} (r : List ℕ) → Ahead os p → answer os (length p) r ≡ Err x → answer [] 0 (p ++ r) ≡ Err x
  refuses {p} r (outside C) h =
      let f = found [] 0 C in
      after [] r refl f.1 ∙ ap (in_front f.0) (ap (λ n. answer [] n r) (zero-add (length p)) ∙ h)
  refuses r (within {os} {p} {s} {c = d} {n} A S C) h =
      let f = found (path os ++ n ∷ []) (length p + length s) C in
      let os' = opened_at (length p) n ∷ os in
      let to : (length p + length s) + length d ≡ length (p ++ (s ++ d)) = simp length-append (omega arith) in
      rw (append_assoc, append_assoc) (refuses (s ++ (d ++ r)) A
      (after_start os (length p) (d ++ r) S ∙ ap (with_element (length p) (path os ++ n ∷ []))
      (after os' r refl f.1 ∙ ap (in_front f.0) (ap (λ k. answer os' k r) to ∙ h))))

of_refusal : (file : List ℕ) (x : Fault) → Refusal x file → answer [] 0 file ≡ Err x
of_refusal file x (bad_tag {os} {p} d i u A R) = refuses x (60 ∷ u) A (ap (λ o. elements_from os (seen_as (length p) o ∷ seen (length p + 1) u)) (pinned d i (60 ∷ u) R))
of_refusal file x (mismatch {o} {os} {p} {t} {n} r A T ne) = refuses x (t ++ r) A (after_end o os (length p) r T ∙ ap (ended os (length p) (length p + length t) r) (apart o.name n ne))
of_refusal file x (stray {p} {t} {n} r A T) = refuses x (t ++ r) A (ap (elements_from []) (seen-tag (length p) End n t r T))
of_refusal file x (unclosed {o} {os} {p} A) = subst (λ l. answer [] 0 l ≡ Err x) (append-nil p) (refuses x [] A refl)

same-elements : {es fs : List Element} → ◌≡◌ {A = Result (List Element) Fault} (Ok es) (Ok fs) → es ≡ fs
same-elements e = cc

pub no_ok : {f : Fault} {ms : List Match} → ◌≡◌ {A = Result (List Match) Fault} (Err f) (Ok ms) → ⊥
no_ok e = let z : ◌≡◌ {A = ℕ} 0 1 = cc in omega arith

-- The answers.

told : (verdict : List (List ℕ) → List Bool) (file : List ℕ) (a : Result (List Element) Fault) → elements file ≡ a → Says a file → Told verdict file (judged verdict a)
told verdict file (Err x) h R = refused R
told verdict file (Ok es) h C =
    let f = found [] 0 C in
    subst (λ l. Told verdict file (Ok (matches verdict l))) (same-elements (sym (of_holds file f.0 f.1) ∙ h)) (accepted f.1)

of_told : (verdict : List (List ℕ) → List Bool) (file : List ℕ) {r : Result (List Match) Fault} → Told verdict file r → own verdict file ≡ r
of_told verdict file (accepted {es} H) = ap (judged verdict) (of_holds file es H)
of_told verdict file (refused {f} R) = ap (judged verdict) (ap (elements_from []) (file_seen file) ∙ of_refusal file f R)

own-told : (verdict : List (List ℕ) → List Bool) (file : List ℕ) → Told verdict file (own verdict file)
own-told verdict file = told verdict file (elements file) refl (said file)

pub exactly : Exactly
exactly verdict file r = (λ h. subst (Told verdict file) h (own-told verdict file), of_told verdict file)

well_formed : (verdict : List (List ℕ) → List Bool) (file : List ℕ) (ms : List Match) (a : Result (List Element) Fault) → judged verdict a ≡ Ok ms → Says a file → WellFormed file
well_formed verdict file ms (Err x) h R = absurd (no_ok h)
well_formed verdict file ms (Ok es) h C = C

pub accepts : Accepted
accepts verdict file = (
  λ p. well_formed verdict file p.0 (elements file) p.1 (said file),
  λ C. let f = found [] 0 C in (matches verdict f.0, of_told verdict file (accepted f.1)),
)
