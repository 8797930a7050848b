-- Each answer of a whole file in the words of its bytes: the elements of an accepted file, and where a refused one first goes wrong.
use Rattle.std.specs.Prelude.{◌≡◌, ℕ, ◌+◌, Bool, List, [], ◌∷◌, ◌++◌, length, Ok, Err, Result, ◌≢◌}
use Rattle.tags.specs.declared.tag.TagKind.TheVariants.{Start, Empty, End}
use Rattle.tags.specs.declared.tag.Cause.{Cause}
use Rattle.grammar.specs.Grammar.{Tag, Refused}
use Rattle.grammar.specs.Laws.{Iff}
use Rattle.answers.specs.declared.fault.Fault.{Fault}
use Rattle.answers.specs.declared.fault.Fault.TheVariants.{BadTag, Mismatch, Stray, Unclosed}
use Rattle.answers.specs.declared.matches.Match.{Match}
use Rattle.answers.specs.Own.{Opened, Element, matches, own}
use Rattle.answers.specs.Rule.{Text, WellFormed}

abbrev pub placed_at : ℕ → List (List ℕ) → Element
placed_at p ns = record { place = p; path = ns }

abbrev pub opened_at : ℕ → List ℕ → Opened
opened_at p n = record { place = p; name = n }

-- well-formed bytes under the path ns, the first of them at `at`, with the place and path of each element, in the order of their start and empty tags
pub data Holds : List (List ℕ) → ℕ → List ℕ → List Element → Type 0 where
  no_elements : {ns : List (List ℕ)} {at : ℕ} {t : List ℕ} → Text t → Holds ns at t []
  an_empty : {ns : List (List ℕ)} {at : ℕ} {t e r n : List ℕ} {es : List Element} → Text t → Tag Empty n e →
      Holds ns ((at + length t) + length e) r es → Holds ns at (t ++ (e ++ r)) (placed_at (at + length t) (ns ++ n ∷ []) ∷ es)
  an_element : {ns : List (List ℕ)} {at : ℕ} {t s c e r n : List ℕ} {es fs : List Element} → Text t → Tag Start n s →
      Holds (ns ++ n ∷ []) ((at + length t) + length s) c es → Tag End n e →
      Holds ns ((((at + length t) + length s) + length c) + length e) r fs →
      Holds ns at (t ++ (s ++ (c ++ (e ++ r)))) (placed_at (at + length t) (ns ++ n ∷ []) ∷ (es ++ fs))

-- a beginning of a file, after which the elements os are open, the last one opened first
pub data Ahead : List Opened → List ℕ → Type 0 where
  outside : {c : List ℕ} → WellFormed c → Ahead [] c
  within : {os : List Opened} {p s c n : List ℕ} → Ahead os p → Tag Start n s → WellFormed c → Ahead (opened_at (length p) n ∷ os) (p ++ (s ++ c))

-- how a file goes wrong
pub data Refusal : Fault → List ℕ → Type 0 where
  bad_tag : {os : List Opened} {p : List ℕ} (c : Cause) (i : ℕ) (x : List ℕ) → Ahead os p → Refused c i (60 ∷ x) → Refusal (BadTag (record { mark = length p; cause = c; byte = length p + i })) (p ++ 60 ∷ x)
  mismatch : {o : Opened} {os : List Opened} {p t n : List ℕ} (r : List ℕ) → Ahead (o ∷ os) p → Tag End n t → (o.name ≢ n) → Refusal (Mismatch (length p)) (p ++ (t ++ r))
  stray : {p t n : List ℕ} (r : List ℕ) → Ahead [] p → Tag End n t → Refusal (Stray (length p)) (p ++ (t ++ r))
  unclosed : {o : Opened} {os : List Opened} {p : List ℕ} → Ahead (o ∷ os) p → Refusal (Unclosed o.place) p

-- what a file is answered, by a verdict on paths
pub data Told (verdict : List (List ℕ) → List Bool) (file : List ℕ) : Result (List Match) Fault → Type 0 where
  accepted : {es : List Element} → Holds [] 0 file es → Told verdict file (Ok (matches verdict es))
  refused : {f : Fault} → Refusal f file → Told verdict file (Err f)

-- the file's own answer is exactly that
abbrev pub Exactly : Type 0
Exactly = (verdict : List (List ℕ) → List Bool) (file : List ℕ) (r : Result (List Match) Fault) → Iff (own verdict file ≡ r) (Told verdict file r)
