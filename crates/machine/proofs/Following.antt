-- A plan follows the draft of the text, byte by byte.
use Rattle.std.proofs.Common.{◌≡◌, ℕ, ◌+◌, ◌<◌, ◌≤◌, Bool, true, false, cond, List, [], ◌∷◌, ◌++◌, map, length, get_or, take, drop, Ok, Err, fold, Result, sym, refl, ap, ◌∙◌, subst, arith, length-append, MatchResult}
use native.Mathlib.Nat.{sub_self}
use lib.ListN.{length-map}
use Rattle.std.specs.List.{between}
use Rattle.std.proofs.lemmas.List.Edits.{between_more}
use Rattle.std.proofs.lemmas.List.{take-append-drop, drop_more}
use Rattle.std.proofs.lemmas.Bool.{cond-true, cond-false}
use Rattle.machine.specs.declared.plan.Plan.{Plan}
use Rattle.machine.specs.declared.refusal.Refusal.{Refusal}
use Rattle.machine.specs.declared.refusal.Refusal.TheVariants.{NamesOverLimit}
use Rattle.machine.specs.declared.reader.State.{State}
use Rattle.machine.specs.declared.reader.State.TheVariants.{Line}
use Rattle.machine.specs.declared.reader.Turn.{Turn}
use Rattle.machine.specs.Queries.{Query, position, positions}
use Rattle.machine.specs.Limits.{NamesFit}
use Rattle.machine.specs.Reading.{turn, closes, parts, since_after, Draft, draft, next, start, reads_as}
use Rattle.machine.specs.Sketches.{Sketch, drawing, sketch, taken, counted, line_count, drawn, names_in, size_in, sketch_of}
use Rattle.machine.proofs.Texts.{folded_append}
use Rattle.machine.proofs.Counting.{drafted, drafted_more, drafted_all, state-next, lines_next, size-next, lines_grow, size-grows}
use Rattle.machine.proofs.Drawing.{length-positions, length-ends, sketch-next, names_next, fit_so_far}
use Rattle.machine.proofs.Viewed.{length-places, length-lasts}

-- where the reading stands: reader, name so far and plan are the draft's
pub record Follows (D : Draft) (text : List ℕ) (from i : ℕ) (s : State) (S : Sketch) : Type 0 where
  pub low : from ≤ i
  pub state : s ≡ D.state
  pub name : between from i text ≡ D.since
  pub sketched : S ≡ sketch_of D

-- the draft's next byte, and what follows it
pub record Ahead (text : List ℕ) (D : Draft) (b : ℕ) : Type 0 where
  pub rest : List ℕ
  pub is : reads_as text ≡ fold next (next D b) rest

pub ahead_more : (text : List ℕ) (i : ℕ) → i < length text → Ahead text (drafted text i) (get_or text i 0)
unfolding drafted reads_as
ahead_more text i l = record {
  rest = drop (i + 1) text ++ 10 ∷ [];
  is =
      folded_append next start text (10 ∷ [])
      ∙ ap (λ x. fold next (fold next start x) (10 ∷ [])) (sym (take-append-drop i text) ∙ ap (λ x. take i text ++ x) (drop_more text i 0 l))
      ∙ ap (λ D. fold next D (10 ∷ [])) (folded_append next start (take i text) (get_or text i 0 ∷ drop (i + 1) text))
      ∙ sym (folded_append next (next (fold next start (take i text)) (get_or text i 0)) (drop (i + 1) text) (10 ∷ []));
}

pub ahead-last : (text : List ℕ) (i : ℕ) → length text ≤ i → Ahead text (drafted text i) 10
ahead-last text i l = record { rest = []; is = drafted_all text i l }

length-sketch : (D : Draft) → length (sketch_of D).places ≡ size_in D
length-sketch D =
    let ns = names_in D in
    omega (arith, length-append (positions ns D.lines) (map (position ns) D.steps), length-positions ns D.lines, length-map D.steps (position ns))

-- there is room for what a byte adds
module _ (text : List ℕ) (D : Draft) (from i : ℕ) (s : State) (p : Plan) (b : ℕ) (f : Follows D text from i s (sketch p)) (a : Ahead text D b) where
  same_turn : turn s b ≡ turn D.state b
  same_turn = ap (λ x. turn x b) f.state

  pub room : size_in (reads_as text) ≤ 32 → p.count + counted (turn s b).1 + line_count (turn s b).0 ≤ 32
  room h =
      let n : p.count ≡ size_in D = sym (length-places p) ∙ ap (λ (S : Sketch). length S.places) f.sketched ∙ length-sketch D in
      let c : counted (turn s b).1 ≡ counted (turn D.state b).1 = ap (λ (x : State × Turn). counted x.1) same_turn in
      let l : line_count (turn s b).0 ≡ line_count (turn D.state b).0 = ap (λ (x : State × Turn). line_count x.0) same_turn in
      omega (arith, size-next D b, size-grows (next D b) a.rest, ap size_in a.is)

  pub line-room : length (reads_as text).lines ≤ 8 → p.lines + line_count (turn s b).0 ≤ 8
  line-room h =
      let n : p.lines ≡ length D.lines = sym (length-lasts p) ∙ ap (λ (S : Sketch). length S.lasts) f.sketched ∙ length-ends 0 D.lines in
      let l : line_count (turn s b).0 ≡ line_count (turn D.state b).0 = ap (λ (x : State × Turn). line_count x.0) same_turn in
      omega (arith, lines_next D b, lines_grow (next D b) a.rest, ap (λ (E : Draft). length E.lines) a.is)

  -- names that do not fit now never will
  pub unfit : (NamesFit (taken (turn s b).1 (between from i text) (sketch p)).names → ⊥) → NamesFit (names_in (reads_as text)) → ⊥
  unfit h fits =
      let now-fits = fit_so_far (next D b) a.rest (subst (λ (E : Draft). NamesFit (names_in E)) a.is fits) in
      let same : (taken (turn s b).1 (between from i text) (sketch p)).names ≡ names_in (next D b) =
      ap (λ (x : State × Turn). (taken x.1 (between from i text) (sketch p)).names) same_turn
      ∙ ap (λ n. (taken (turn D.state b).1 n (sketch p)).names) f.name
      ∙ ap (λ S. (taken (turn D.state b).1 D.since S).names) f.sketched
      ∙ sym (names_next D b) in
      h (subst NamesFit (sym same) now-fits)

  sketched-on : (S : Sketch) → S ≡ drawn (turn s b).0 (turn s b).1 (between from i text) (sketch p) → S ≡ sketch_of (next D b)
  sketched-on S e =
      e
      ∙ ap (λ (x : State × Turn). drawn x.0 x.1 (between from i text) (sketch p)) same_turn
      ∙ ap (λ n. drawn (turn D.state b).0 (turn D.state b).1 n (sketch p)) f.name
      ∙ ap (drawn (turn D.state b).0 (turn D.state b).1 D.since) f.sketched
      ∙ sym (sketch-next D b)

since_cut : (b : Bool) (s : State) (n : List ℕ) (q : Query) (qs : List Query) → (cond b (draft s n [] (qs ++ q ∷ [])) (draft s n q qs)).since ≡ n
since_cut true s n q qs = refl
since_cut false s n q qs = refl

since_next : (D : Draft) (b : ℕ) → (next D b).since ≡ since_after b D.since
since_next D b = since_cut (closes (turn D.state b).0) (turn D.state b).0 (since_after b D.since) _ _

pub follows_none : (text : List ℕ) (s : State) (S : Sketch) → s ≡ Line → S ≡ drawing [] [] [] → Follows (drafted text 0) text 0 0 s S
unfolding drafted
follows_none text s S e h = record { low = omega arith; state = e; name = refl; sketched = h }

-- one byte on: the name goes on, or begins anew after a byte that parts names
module _ (text : List ℕ) (from i : ℕ) (s s' : State) (p : Plan) (S : Sketch) (l : i < length text) (f : Follows (drafted text i) text from i s (sketch p))
    (e : s' ≡ (turn s (get_or text i 0)).0) (h : S ≡ drawn (turn s (get_or text i 0)).0 (turn s (get_or text i 0)).1 (between from i text) (sketch p)) where
  follows : (from' : ℕ) → from' ≤ i + 1 → between from' (i + 1) text ≡ since_after (get_or text i 0) (drafted text i).since → Follows (drafted text (i + 1)) text from' (i + 1) s' S
  follows from' low n =
      let D = drafted text i in
      let b = get_or text i 0 in
      subst (λ E. Follows E text from' (i + 1) s' S) (sym (drafted_more text i l)) (record {
        low = low;
        state = e ∙ ap (λ (x : State × Turn). x.0) (ap (λ x. turn x b) f.state) ∙ sym (state-next D b);
        name = n ∙ sym (since_next D b);
        sketched = sketched-on text D from i s p b f (ahead_more text i l) S h;
      })

  pub follows-parted : parts (get_or text i 0) ≡ true → Follows (drafted text (i + 1)) text (i + 1) (i + 1) s' S
  follows-parted t =
      follows (i + 1) (omega arith)
      (ap (λ k. take k (drop (i + 1) text)) (sub_self (i + 1)) ∙ sym (cond-true (parts (get_or text i 0)) [] _ t))

  pub follows_on : parts (get_or text i 0) ≡ false → Follows (drafted text (i + 1)) text from (i + 1) s' S
  follows_on t =
      follows from (omega (arith, f.low))
      (between_more text from i 0 f.low l ∙ ap (λ x. x ++ get_or text i 0 ∷ []) f.name ∙ sym (cond-false (parts (get_or text i 0)) [] _ t))

-- what a byte leaves: the plan of the draft with it, or names that do not fit
abbrev pub Told : {T : Type 0} → List ℕ → Draft → Result T Refusal → Sketch → Type 0
Told text D r S = MatchResult r (λ _. S ≡ sketch_of D) (λ e. (e ≡ NamesOverLimit) × (NamesFit (names_in (reads_as text)) → ⊥))

pub told : {T : Type 0} (text : List ℕ) (D : Draft) (from i j : ℕ) (s : State) (p : Plan) (b : ℕ) → Follows D text from i s (sketch p) → Ahead text D b → i ≡ j → (r : Result T Refusal) (S : Sketch)
    → MatchResult r (λ _. S ≡ drawn (turn s b).0 (turn s b).1 (between from j text) (sketch p)) (λ e. (e ≡ NamesOverLimit) × (NamesFit (taken (turn s b).1 (between from j text) (sketch p)).names → ⊥))
    → Told text (next D b) r S
told text D from i j s p b f a e (Ok x) S h = sketched-on text D from i s p b f a S (subst (λ k. S ≡ drawn (turn s b).0 (turn s b).1 (between from k text) (sketch p)) (sym e) h)
told text D from i j s p b f a e (Err x) S h = (h.0, unfit text D from i s p b f a (subst (λ k. NamesFit (taken (turn s b).1 (between from k text) (sketch p)).names → ⊥) (sym e) h.1))
