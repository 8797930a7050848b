-- A text that stands for queries is read as them.
use Rattle.std.proofs.Common.{◌≡◌, ℕ, Bool, true, false, cond, List, [], ◌∷◌, ◌++◌, fold, sym, refl, ap, ◌∙◌, subst, append_assoc, append-nil, arith}
use Rattle.std.specs.List.{AllByRecursion}
use Rattle.std.proofs.lemmas.Bool.{cond-true}
use Rattle.std.proofs.lemmas.Bool.Decides.{nat_tests}
use Rattle.tags.specs.Bytes.{letter, name_byte}
use Rattle.machine.specs.declared.reader.State.{State}
use Rattle.machine.specs.declared.reader.State.TheVariants.{Line, Slash, Deep, Inside, Star}
use Rattle.machine.specs.declared.reader.Turn.{Turn}
use Rattle.machine.specs.declared.reader.Turn.TheVariants.{On}
use Rattle.machine.specs.Queries.{Test, any, named, QueryStep, step, Query}
use Rattle.machine.specs.Text.{GoodTest, GoodSteps, GoodQuery, axis_text, test_text, query_text, Parses}
use Rattle.machine.specs.Reading.{steps_after, parts, since_after, lined, Draft, draft, next, reads_as}
use Rattle.machine.proofs.Texts.{folded_append, closed_text, closed_is}

name-goes_on : (b : ℕ) → name_byte b ≡ true → parts b ≡ false
name-goes_on b h = grind (arith, nat_tests)

name-begins : (b : ℕ) → letter b ≡ true → parts b ≡ false
name-begins b h = grind (arith, nat_tests)

-- a byte of a name
pub inside : (d : Bool) (n : List ℕ) (q : Query) (qs : List Query) (b : ℕ) → name_byte b ≡ true → next (draft (Inside d) n q qs) b ≡ draft (Inside d) (n ++ b ∷ []) q qs
inside d n q qs b h =
    ap (λ (t : State × Turn). lined t.0 (since_after b n) (steps_after t.1 n q) qs) (cond-true (name_byte b) (Inside d, On) _ h)
    ∙ ap (λ p. draft (Inside d) (cond p [] (n ++ b ∷ [])) q qs) (name-goes_on b h)

pub slash-letter : (n : List ℕ) (q : Query) (qs : List Query) (b : ℕ) → letter b ≡ true → next (draft Slash n q qs) b ≡ draft (Inside false) (n ++ b ∷ []) q qs
slash-letter n q qs b h =
    ap (λ (t : State × Turn). lined t.0 (since_after b n) (steps_after t.1 n q) qs) (cond-true (letter b) (Inside false, On) _ h)
    ∙ ap (λ p. draft (Inside false) (cond p [] (n ++ b ∷ [])) q qs) (name-begins b h)

pub deep_letter : (n : List ℕ) (q : Query) (qs : List Query) (b : ℕ) → letter b ≡ true → next (draft Deep n q qs) b ≡ draft (Inside true) (n ++ b ∷ []) q qs
deep_letter n q qs b h =
    ap (λ (t : State × Turn). lined t.0 (since_after b n) (steps_after t.1 n q) qs) (cond-true (letter b) (Inside true, On) _ h)
    ∙ ap (λ p. draft (Inside true) (cond p [] (n ++ b ∷ [])) q qs) (name-begins b h)

name-on : (d : Bool) (n : List ℕ) (q : Query) (qs : List Query) (bs : List ℕ) → AllByRecursion (λ b. name_byte b ≡ true) bs → fold next (draft (Inside d) n q qs) bs ≡ draft (Inside d) (n ++ bs) q qs
name-on d n q qs [] a = ap (λ x. draft (Inside d) x q qs) (sym (append-nil n))
name-on d n q qs (b ∷ bs) a =
    ap (λ D. fold next D bs) (inside d n q qs b a.0)
    ∙ name-on d (n ++ b ∷ []) q qs bs a.1
    ∙ ap (λ x. draft (Inside d) x q qs) (append_assoc n (b ∷ []) bs)

-- a step has been read
record Ready (D : Draft) (q : Query) (qs : List Query) : Type 0 where
  slash : next D 47 ≡ draft Slash [] q qs
  line : next D 10 ≡ draft Line [] [] (qs ++ q ∷ [])

star-ready : (n : List ℕ) (q : Query) (qs : List Query) → Ready (draft Star n q qs) q qs
star-ready n q qs = record { slash = refl; line = refl }

name-ready : (d : Bool) (n : List ℕ) (q : Query) (qs : List Query) → Ready (draft (Inside d) n q qs) (q ++ step d (named n) ∷ []) qs
name-ready d n q qs = record { slash = refl; line = refl }

slash-test : (t : Test) (q : Query) (qs : List Query) → GoodTest t → Ready (fold next (draft Slash [] q qs) (test_text t)) (q ++ step false t ∷ []) qs
slash-test any q qs g = star-ready (42 ∷ []) (q ++ step false any ∷ []) qs
slash-test (named []) q qs g = absurd g
slash-test (named (b ∷ n)) q qs g =
    let e = ap (λ D. fold next D n) (slash-letter [] q qs b g.0) ∙ name-on false (b ∷ []) q qs n g.1 in
    subst (λ D. Ready D (q ++ step false (named (b ∷ n)) ∷ []) qs) (sym e) (name-ready false (b ∷ n) q qs)

deep_test : (t : Test) (q : Query) (qs : List Query) → GoodTest t → Ready (fold next (draft Deep [] q qs) (test_text t)) (q ++ step true t ∷ []) qs
deep_test any q qs g = star-ready (42 ∷ []) (q ++ step true any ∷ []) qs
deep_test (named []) q qs g = absurd g
deep_test (named (b ∷ n)) q qs g =
    let e = ap (λ D. fold next D n) (deep_letter [] q qs b g.0) ∙ name-on true (b ∷ []) q qs n g.1 in
    subst (λ D. Ready D (q ++ step true (named (b ∷ n)) ∷ []) qs) (sym e) (name-ready true (b ∷ n) q qs)

step-on : (d : Bool) (t : Test) (D : Draft) (q : Query) (qs : List Query) → GoodTest t → next D 47 ≡ draft Slash [] q qs → Ready (fold next (fold next D (axis_text d)) (test_text t)) (q ++ step d t ∷ []) qs
step-on true t D q qs g e = subst (λ E. Ready (fold next (next E 47) (test_text t)) (q ++ step true t ∷ []) qs) (sym e) (deep_test t q qs g)
step-on false t D q qs g e = subst (λ E. Ready (fold next E (test_text t)) (q ++ step false t ∷ []) qs) (sym e) (slash-test t q qs g)

-- the steps of a query, one by one
split_step : (s : QueryStep) (q : Query) (D : Draft) → fold next D (query_text (s ∷ q)) ≡ fold next (fold next (fold next D (axis_text s.deep)) (test_text s.test)) (query_text q)
split_step s q D =
    folded_append next D (axis_text s.deep) (test_text s.test ++ query_text q)
    ∙ folded_append next (fold next D (axis_text s.deep)) (test_text s.test) (query_text q)

steps_on : (r : Query) (D : Draft) (q : Query) (qs : List Query) → GoodSteps r → Ready D q qs → Ready (fold next D (query_text r)) (q ++ r) qs
steps_on [] D q qs g h = subst (λ x. Ready D x qs) (sym (append-nil q)) h
steps_on (s ∷ r) D q qs g h =
    let E = fold next (fold next D (axis_text s.deep)) (test_text s.test) in
    let one = step-on s.deep s.test D q qs g.0 h.slash in
    let all = steps_on r E (q ++ s ∷ []) qs g.1 one in
    subst (λ F. Ready F (q ++ s ∷ r) qs) (sym (split_step s r D)) (subst (λ x. Ready (fold next E (query_text r)) x qs) (append_assoc q (s ∷ []) r) all)

query_on : (q : Query) (qs : List Query) → GoodQuery q → Ready (fold next (draft Line [] [] qs) (query_text q)) q qs
query_on [] qs g = absurd (omega (arith, g.some))
query_on (s ∷ q) qs g =
    let D = draft Line [] [] qs in
    let E = fold next (fold next D (axis_text s.deep)) (test_text s.test) in
    let one = step-on s.deep s.test D [] qs g.steps.0 refl in
    subst (λ F. Ready F (s ∷ q) qs) (sym (split_step s q D)) (steps_on q E (s ∷ []) qs g.steps.1 one)

lines_on : (rs qs : List Query) → AllByRecursion GoodQuery rs → fold next (draft Line [] [] qs) (closed_text rs) ≡ draft Line [] [] (qs ++ rs)
lines_on [] qs g = ap (λ x. draft Line [] [] x) (sym (append-nil qs))
lines_on (r ∷ rs) qs g =
    folded_append next (draft Line [] [] qs) (query_text r) (10 ∷ closed_text rs)
    ∙ ap (λ D. fold next D (closed_text rs)) (query_on r qs g.0).line
    ∙ lines_on rs (qs ++ r ∷ []) g.1
    ∙ ap (λ x. draft Line [] [] x) (append_assoc qs (r ∷ []) rs)

pub complete : (text : List ℕ) (qs : List Query) → Parses text qs → reads_as text ≡ draft Line [] [] qs
unfolding reads_as
complete text [] h = absurd (omega (arith, h.some))
complete text (q ∷ qs) h = ap (λ x. fold next (draft Line [] [] []) (x ++ 10 ∷ [])) h.is ∙ ap (fold next (draft Line [] [] [])) (sym (closed_is q qs)) ∙ lines_on (q ∷ qs) [] h.good
