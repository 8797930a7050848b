-- What is read stands for what it is read as.
use Rattle.std.proofs.Common.{◌≡◌, ℕ, ◌<◌, Bool, true, false, eqb, List, [], ◌∷◌, ◌++◌, length, fold, sym, refl, ap, ◌∙◌, subst, inl, inr, append_assoc, append-nil, arith}
use Rattle.std.specs.List.{AllByRecursion}
use Rattle.std.proofs.ByRecursion.{All-push}
use Rattle.std.proofs.lemmas.List.{length_push, append_cancel_right}
use Rattle.std.proofs.lemmas.Bool.{cases_Bool, cond-false, eqb-true, false≢true}
use Rattle.tags.specs.Bytes.{letter, name_byte}
use Rattle.machine.specs.declared.reader.State.{State}
use Rattle.machine.specs.declared.reader.State.TheVariants.{Line, Slash, Deep, Inside, Star, Bad}
use Rattle.machine.specs.declared.reader.Turn.{Turn}
use Rattle.machine.specs.declared.reader.Turn.TheVariants.{On}
use Rattle.machine.specs.Queries.{Test, any, named, QueryStep, step, Query}
use Rattle.machine.specs.Text.{GoodName, GoodTest, GoodSteps, GoodQuery, axis_text, test_text, query_text, lines_text}
use Rattle.machine.specs.Reading.{turn, closes, steps_after, since_after, lined, Draft, draft, next, reads_as}
use Rattle.machine.proofs.Texts.{closed_text, closed_is, closed_push, query_push}
use Rattle.machine.proofs.Complete.{inside, slash-letter, deep_letter}

-- the bytes of the step that is being read
abbrev pending : State → List ℕ → List ℕ
pending Line n = []
pending Slash n = 47 ∷ []
pending Deep n = 47 ∷ 47 ∷ []
pending (Inside d) n = axis_text d ++ n
pending Star n = []
pending Bad n = []

abbrev Held : State → List ℕ → Query → Type 0
Held Line n q = q ≡ []
Held Slash n q = n ≡ []
Held Deep n q = n ≡ []
Held (Inside d) n q = GoodName n
Held Star n q = 0 < length q
Held Bad n q = ⊥

record Written (s : State) (n : List ℕ) (q : Query) (qs : List Query) (bs : List ℕ) : Type 0 where
  lines : AllByRecursion GoodQuery qs
  steps : GoodSteps q
  held : Held s n q
  is : bs ≡ closed_text qs ++ (query_text q ++ pending s n)

-- what was read so far is this draft written out, unless it is no text of queries
abbrev Wrote : State → List ℕ → Query → List Query → List ℕ → Type 0
Wrote Line n q qs bs = Written Line n q qs bs
Wrote Slash n q qs bs = Written Slash n q qs bs
Wrote Deep n q qs bs = Written Deep n q qs bs
Wrote (Inside d) n q qs bs = Written (Inside d) n q qs bs
Wrote Star n q qs bs = Written Star n q qs bs
Wrote Bad n q qs bs = Unit {0}

abbrev WroteDraft : Draft → List ℕ → Type 0
WroteDraft D bs = Wrote D.state D.since D.steps D.lines bs

-- one byte more
longer : (bs C Q P : List ℕ) (b : ℕ) → bs ≡ C ++ (Q ++ P) → bs ++ b ∷ [] ≡ C ++ (Q ++ (P ++ b ∷ []))
longer bs C Q P b e =
    ap (λ x. x ++ b ∷ []) e
    ∙ append_assoc C (Q ++ P) (b ∷ [])
    ∙ ap (λ x. C ++ x) (append_assoc Q P (b ∷ []))

-- the byte that ends a step, all of it pending
steps_grow : (bs C : List ℕ) (q : Query) (d : Bool) (t : Test) (P : List ℕ) → axis_text d ++ test_text t ≡ P → bs ≡ C ++ (query_text q ++ P) → bs ≡ C ++ (query_text (q ++ step d t ∷ []) ++ [])
steps_grow bs C q d t P p e =
    e ∙ ap (λ x. C ++ (query_text q ++ x)) (sym p) ∙ ap (λ x. C ++ x) (sym (query_push q (step d t)) ∙ sym (append-nil (query_text (q ++ step d t ∷ []))))

line_grows : (bs : List ℕ) (qs : List Query) (q : Query) → bs ≡ closed_text qs ++ (query_text q ++ []) → bs ++ 10 ∷ [] ≡ closed_text (qs ++ q ∷ []) ++ []
line_grows bs qs q e =
    longer bs (closed_text qs) (query_text q) [] 10 e ∙ sym (closed_push qs q) ∙ sym (append-nil (closed_text (qs ++ q ∷ [])))

good_steps : (q : Query) (s : QueryStep) → GoodSteps q → GoodTest s.test → GoodSteps (q ++ s ∷ [])
good_steps q s g t = All-push (λ r. GoodTest r.test) q s g t

good_lines : (qs : List Query) (q : Query) → AllByRecursion GoodQuery qs → 0 < length q → GoodSteps q → AllByRecursion GoodQuery (qs ++ q ∷ [])
good_lines qs q g n s = All-push GoodQuery qs q g (record { some = n; steps = s })

-- by what a byte came to
by_turn : (s : State) (n : List ℕ) (q : Query) (qs : List Query) (b : ℕ) (bs : List ℕ) (t : State × Turn) → turn s b ≡ t
    → WroteDraft (lined t.0 (since_after b n) (steps_after t.1 n q) qs) bs → WroteDraft (next (draft s n q qs) b) bs
by_turn s n q qs b bs t e w = subst (λ (u : State × Turn). WroteDraft (lined u.0 (since_after b n) (steps_after u.1 n q) qs) bs) (sym e) w

at_byte : (s : State) (n : List ℕ) (q : Query) (qs : List Query) (b k : ℕ) (bs : List ℕ) → eqb b k ≡ true → WroteDraft (next (draft s n q qs) k) (bs ++ k ∷ []) → WroteDraft (next (draft s n q qs) b) (bs ++ b ∷ [])
at_byte s n q qs b k bs e w = subst (λ x. WroteDraft (next (draft s n q qs) x) (bs ++ x ∷ [])) (sym (eqb-true b k e)) w

-- the name so far, one byte longer
good_on : (n : List ℕ) (b : ℕ) → GoodName n → name_byte b ≡ true → GoodName (n ++ b ∷ [])
good_on [] b g h = absurd g
good_on (x ∷ n) b g h = (g.0, All-push (λ y. name_byte y ≡ true) n b g.1 h)

from_slash : (n : List ℕ) (q : Query) (qs : List Query) (b : ℕ) (bs : List ℕ) → Written Slash n q qs bs → WroteDraft (next (draft Slash n q qs) b) (bs ++ b ∷ [])
from_slash n q qs b bs w =
    elim (cases_Bool (letter b)) [
      | inl h ↦
          let e = slash-letter n q qs b h ∙ ap (λ x. draft (Inside false) (x ++ b ∷ []) q qs) w.held in
          subst (λ D. WroteDraft D (bs ++ b ∷ [])) (sym e) (record { lines = w.lines; steps = w.steps; held = (h, tt); is = longer bs (closed_text qs) (query_text q) (47 ∷ []) b w.is })
      | inr h ↦ elim (cases_Bool (eqb b 47)) [
        | inl k ↦ at_byte Slash n q qs b 47 bs k (record { lines = w.lines; steps = w.steps; held = refl; is = longer bs (closed_text qs) (query_text q) (47 ∷ []) 47 w.is })
        | inr k ↦ elim (cases_Bool (eqb b 42)) [
          | inl m ↦ at_byte Slash n q qs b 42 bs m (record {
            lines = w.lines;
            steps = good_steps q (step false any) w.steps tt;
            held = omega (arith, length_push q (step false any));
            is = steps_grow (bs ++ 42 ∷ []) (closed_text qs) q false any (47 ∷ 42 ∷ []) refl (longer bs (closed_text qs) (query_text q) (47 ∷ []) 42 w.is);
          })
          | inr m ↦ by_turn Slash n q qs b (bs ++ b ∷ []) (Bad, On) (cond-false (letter b) _ _ h ∙ cond-false (eqb b 47) _ _ k ∙ cond-false (eqb b 42) _ _ m) tt
        ]
      ]
    ]

from_deep : (n : List ℕ) (q : Query) (qs : List Query) (b : ℕ) (bs : List ℕ) → Written Deep n q qs bs → WroteDraft (next (draft Deep n q qs) b) (bs ++ b ∷ [])
from_deep n q qs b bs w =
    elim (cases_Bool (letter b)) [
      | inl h ↦
          let e = deep_letter n q qs b h ∙ ap (λ x. draft (Inside true) (x ++ b ∷ []) q qs) w.held in
          subst (λ D. WroteDraft D (bs ++ b ∷ [])) (sym e) (record { lines = w.lines; steps = w.steps; held = (h, tt); is = longer bs (closed_text qs) (query_text q) (47 ∷ 47 ∷ []) b w.is })
      | inr h ↦ elim (cases_Bool (eqb b 42)) [
        | inl m ↦ at_byte Deep n q qs b 42 bs m (record {
          lines = w.lines;
          steps = good_steps q (step true any) w.steps tt;
          held = omega (arith, length_push q (step true any));
          is = steps_grow (bs ++ 42 ∷ []) (closed_text qs) q true any (47 ∷ 47 ∷ 42 ∷ []) refl (longer bs (closed_text qs) (query_text q) (47 ∷ 47 ∷ []) 42 w.is);
        })
        | inr m ↦ by_turn Deep n q qs b (bs ++ b ∷ []) (Bad, On) (cond-false (letter b) _ _ h ∙ cond-false (eqb b 42) _ _ m) tt
      ]
    ]

from_inside : (d : Bool) (n : List ℕ) (q : Query) (qs : List Query) (b : ℕ) (bs : List ℕ) → Written (Inside d) n q qs bs → WroteDraft (next (draft (Inside d) n q qs) b) (bs ++ b ∷ [])
from_inside d n q qs b bs w =
    let s = step d (named n) in
    let C = closed_text qs in
    let steps = good_steps q s w.steps w.held in
    let is = steps_grow bs C q d (named n) (axis_text d ++ n) refl w.is in
    elim (cases_Bool (name_byte b)) [
      | inl h ↦
          subst (λ D. WroteDraft D (bs ++ b ∷ [])) (sym (inside d n q qs b h)) (record {
            lines = w.lines;
            steps = w.steps;
            held = good_on n b w.held h;
            is = longer bs C (query_text q) (axis_text d ++ n) b w.is ∙ ap (λ x. C ++ (query_text q ++ x)) (append_assoc (axis_text d) n (b ∷ []));
          })
      | inr h ↦ elim (cases_Bool (eqb b 47)) [
        | inl k ↦ at_byte (Inside d) n q qs b 47 bs k (record { lines = w.lines; steps = steps; held = refl; is = longer bs C (query_text (q ++ s ∷ [])) [] 47 is })
        | inr k ↦ elim (cases_Bool (eqb b 10)) [
          | inl m ↦ at_byte (Inside d) n q qs b 10 bs m (record {
            lines = good_lines qs (q ++ s ∷ []) w.lines (omega (arith, length_push q s)) steps;
            steps = tt;
            held = refl;
            is = line_grows bs qs (q ++ s ∷ []) is;
          })
          | inr m ↦ by_turn (Inside d) n q qs b (bs ++ b ∷ []) (Bad, On) (cond-false (name_byte b) _ _ h ∙ cond-false (eqb b 47) _ _ k ∙ cond-false (eqb b 10) _ _ m) tt
        ]
      ]
    ]

from_star : (n : List ℕ) (q : Query) (qs : List Query) (b : ℕ) (bs : List ℕ) → Written Star n q qs bs → WroteDraft (next (draft Star n q qs) b) (bs ++ b ∷ [])
from_star n q qs b bs w =
    elim (cases_Bool (eqb b 47)) [
      | inl k ↦ at_byte Star n q qs b 47 bs k (record { lines = w.lines; steps = w.steps; held = refl; is = longer bs (closed_text qs) (query_text q) [] 47 w.is })
      | inr k ↦ elim (cases_Bool (eqb b 10)) [
        | inl m ↦ at_byte Star n q qs b 10 bs m (record {
          lines = good_lines qs q w.lines w.held w.steps;
          steps = tt;
          held = refl;
          is = line_grows bs qs q w.is;
        })
        | inr m ↦ by_turn Star n q qs b (bs ++ b ∷ []) (Bad, On) (cond-false (eqb b 47) _ _ k ∙ cond-false (eqb b 10) _ _ m) tt
      ]
    ]

from_line : (n : List ℕ) (q : Query) (qs : List Query) (b : ℕ) (bs : List ℕ) → Written Line n q qs bs → WroteDraft (next (draft Line n q qs) b) (bs ++ b ∷ [])
from_line n q qs b bs w =
    elim (cases_Bool (eqb b 47)) [
      | inl k ↦ at_byte Line n q qs b 47 bs k (record { lines = w.lines; steps = w.steps; held = refl; is = longer bs (closed_text qs) (query_text q) [] 47 w.is })
      | inr k ↦ by_turn Line n q qs b (bs ++ b ∷ []) (Bad, On) (cond-false (eqb b 47) _ _ k) tt
    ]

wrote_on : (s : State) (n : List ℕ) (q : Query) (qs : List Query) (b : ℕ) (bs : List ℕ) → Wrote s n q qs bs → WroteDraft (next (draft s n q qs) b) (bs ++ b ∷ [])
wrote_on Line n q qs b bs w = from_line n q qs b bs w
wrote_on Slash n q qs b bs w = from_slash n q qs b bs w
wrote_on Deep n q qs b bs w = from_deep n q qs b bs w
wrote_on (Inside d) n q qs b bs w = from_inside d n q qs b bs w
wrote_on Star n q qs b bs w = from_star n q qs b bs w
wrote_on Bad n q qs b bs w = tt

wrote-all : (D : Draft) (bs cs : List ℕ) → WroteDraft D bs → WroteDraft (fold next D cs) (bs ++ cs)
wrote-all D bs [] w = subst (WroteDraft D) (sym (append-nil bs)) w
wrote-all D bs (b ∷ cs) w =
    subst (WroteDraft (fold next (next D b) cs)) (append_assoc bs (b ∷ []) cs)
    (wrote-all (next D b) (bs ++ b ∷ []) cs (wrote_on D.state D.since D.steps D.lines b bs w))

at-line : (s : State) (n : List ℕ) (q : Query) (qs : List Query) (bs : List ℕ) → closes s ≡ true → Wrote s n q qs bs → Written Line n q qs bs
at-line Line n q qs bs e w = w
at-line Slash n q qs bs e w = absurd (false≢true e)
at-line Deep n q qs bs e w = absurd (false≢true e)
at-line (Inside d) n q qs bs e w = absurd (false≢true e)
at-line Star n q qs bs e w = absurd (false≢true e)
at-line Bad n q qs bs e w = absurd (false≢true e)

parted : (text : List ℕ) (qs : List Query) → text ++ 10 ∷ [] ≡ closed_text qs → (0 < length qs) × (text ≡ lines_text qs)
parted text [] e = absurd (omega (arith, ap length e, length_push text 10))
parted text (q ∷ qs) e = (omega arith, append_cancel_right text (lines_text (q ∷ qs)) (10 ∷ []) (e ∙ closed_is q qs))

-- what a text that ends as a line is read as
pub record Whole (text : List ℕ) (q : Query) (qs : List Query) : Type 0 where
  pub none : q ≡ []
  pub some : 0 < length qs
  pub good : AllByRecursion GoodQuery qs
  pub is : text ≡ lines_text qs

pub sound : (text : List ℕ) → closes (reads_as text).state ≡ true → Whole text (reads_as text).steps (reads_as text).lines
unfolding reads_as
sound text e =
    let first : WroteDraft (draft Line [] [] []) [] = record { lines = tt; steps = tt; held = refl; is = refl } in
    let D = fold next (draft Line [] [] []) (text ++ 10 ∷ []) in
    let w = at-line D.state D.since D.steps D.lines (text ++ 10 ∷ []) e (wrote-all (draft Line [] [] []) [] (text ++ 10 ∷ []) first) in
    let p = parted text D.lines (w.is ∙ ap (λ x. closed_text D.lines ++ (query_text x ++ [])) w.held ∙ append-nil (closed_text D.lines)) in
    record { none = w.held; some = p.0; good = w.lines; is = p.1 }
