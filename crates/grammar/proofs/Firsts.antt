-- Where a fault lies.
use Rattle.std.proofs.Common.{◌≡◌, ℕ, suc, ◌+◌, ◌<◌, ◌≤◌, cond, List, [], ◌∷◌, ◌++◌, length, take, sym, refl, ap, ◌∙◌, subst, append-nil, zero-add, arith}
use Rattle.tags.specs.declared.tag.TagKind.{TagKind}
use Rattle.tags.specs.declared.tag.TagKind.TheVariants.{Start, Empty, End}
use Rattle.tags.specs.declared.reader.State.{State}
use Rattle.tags.specs.declared.reader.State.TheVariants.{Before, Opened, Name, Gap, Attribute, AttributeGap, Equals, InDouble, InSingle, AfterValue, Slashed, EndOpened, EndName, EndGap}
use Rattle.tags.specs.declared.reader.Step.{Step}
use Rattle.tags.specs.declared.reader.Step.TheVariants.{On, Done, Bad}
use Rattle.tags.specs.declared.tag.Cause.{Cause}
use Rattle.tags.specs.Steps.{next, in_name}
use Rattle.tags.specs.Reads.{tag, fault, reads, read_tag}
use Rattle.grammar.specs.Grammar.{none, double, no_more, plain, FirstBad}
use Rattle.grammar.proofs.Runs.{goes, complete}
use Rattle.grammar.proofs.Rests.{Tail, tail, value_tail, equal_tail, name_tail, gap_close, quote_tail, slash_tail, EndTail, end_tail, begins, open_name, whole, Rest, Back, steps, tag-from, end_naming, no_tag, same_place}

-- each state has an end
abbrev Ends : State → List ℕ → List ℕ → Type 0
Ends s m p = (k : TagKind) × (n : List ℕ) × (u : List ℕ) × Rest s k m n (p ++ u)

closed : Tail Start (62 ∷ [])
closed = tail no_more none plain

fill : (s : State) (m : List ℕ) → Ends s m []
fill Before m = (Start, m ++ 97 ∷ [], 60 ∷ 97 ∷ 62 ∷ [], whole (open_name (begins refl (end_naming Tail refl closed))))
fill Opened m = (Start, m ++ 97 ∷ [], 97 ∷ 62 ∷ [], open_name (begins refl (end_naming Tail refl closed)))
fill Name m = (Start, m, 62 ∷ [], end_naming Tail refl closed)
fill Gap m = (Start, m, 62 ∷ [], (refl, gap_close none plain))
fill Attribute m = (Start, m, 61 ∷ 34 ∷ 34 ∷ 62 ∷ [], (refl, name_tail none (equal_tail none (value_tail none (double none) closed))))
fill AttributeGap m = (Start, m, 61 ∷ 34 ∷ 34 ∷ 62 ∷ [], (refl, equal_tail none (value_tail none (double none) closed)))
fill Equals m = (Start, m, 34 ∷ 34 ∷ 62 ∷ [], (refl, value_tail none (double none) closed))
fill InDouble m = (Start, m, 34 ∷ 62 ∷ [], (refl, quote_tail none closed))
fill InSingle m = (Start, m, 39 ∷ 62 ∷ [], (refl, quote_tail none closed))
fill AfterValue m = (Start, m, 62 ∷ [], (refl, closed))
fill Slashed m = (Empty, m, 62 ∷ [], (refl, slash_tail))
fill EndOpened m = (End, m ++ 97 ∷ [], 97 ∷ 62 ∷ [], begins refl (end_naming EndTail refl (end_tail none)))
fill EndName m = (End, m, 62 ∷ [], end_naming EndTail refl (end_tail none))
fill EndGap m = (End, m, 62 ∷ [], (refl, end_tail none))

-- a fault at i, read from the place `at`: j bytes further
record At (s : State) (m : List ℕ) (at : ℕ) (xs : List ℕ) (c : Cause) (i : ℕ) : Type 0 where
  j : ℕ
  place : i ≡ at + j
  inside : j ≤ length xs
  ending : Ends s m (take j xs)
  stuck : j < length xs → (v : List ℕ) → reads s at m (take (suc j) xs ++ v) ≡ fault c i

no_fault : (k : TagKind) (n : List ℕ) (c : Cause) (at : ℕ) → tag k n ≡ fault c at → ⊥
no_fault k n c at e = no_tag k n c at (sym e)

after : (s : State) (m : List ℕ) (b : ℕ) (xs : List ℕ) (at : ℕ) (c : Cause) (i : ℕ) (w : State × Step) → Back s m b w → next s b ≡ w
    → ((s' : State) (m' : List ℕ) → reads s' (at + 1) m' xs ≡ fault c i → At s' m' (at + 1) xs c i)
    → goes at m b xs w ≡ fault c i → At s m at (b ∷ xs) c i
after s m b xs at c i (s', On) back e next_one h =
    let m' = cond (in_name s') (m ++ b ∷ []) m in
    let f = next_one s' m' h in
    let g = f.ending in
    record {
      j = suc f.j;
      place = omega (arith, f.place);
      inside = omega (arith, f.inside);
      ending = (g.0, g.1, g.2, back g.0 g.1 (take f.j xs ++ g.2) g.3);
      stuck = λ l v. ap (goes at m b (take (suc f.j) xs ++ v)) e ∙ f.stuck (omega arith) v;
    }
after s m b xs at c i (s', Done k) back e next_one h = absurd (no_fault k m c i h)
after s m b xs at c i (s', Bad d) back e next_one h =
    record {
      j = 0;
      place = omega (arith, same_place h);
      inside = omega arith;
      ending = fill s m;
      stuck = λ l v. ap (goes at m b v) e ∙ h;
    }

found : (xs : List ℕ) (s : State) (m : List ℕ) (at : ℕ) (c : Cause) (i : ℕ) → reads s at m xs ≡ fault c i → At s m at xs c i
found [] s m at c i h = record { j = 0; place = omega (arith, same_place h); inside = omega arith; ending = fill s m; stuck = λ l v. absurd (omega arith) }
found (b ∷ xs) s m at c i h = after s m b xs at c i (next s b) (steps s m b) refl (λ s' m' e. found xs s' m' (at + 1) c i e) h

first-bad : (c : Cause) (i : ℕ) (xs : List ℕ) (j : ℕ) → i ≡ j → j ≤ length xs → Ends Before [] (take j xs) → (j < length xs → (v : List ℕ) → reads Before 0 [] (take (suc j) xs ++ v) ≡ fault c i) → FirstBad xs j
first-bad c i xs j e l g stuck =
    record {
      within = l;
      before = (g.0, g.1, g.2, tag-from g.0 g.1 (take j xs ++ g.2) g.3);
      here = λ more v. no_tag v.0 v.1 c i (sym (stuck more v.2) ∙ ap (reads Before 0 []) (sym (append-nil (take (suc j) xs ++ v.2))) ∙ complete v.0 v.1 (take (suc j) xs ++ v.2) [] v.3);
    }

-- a fault lies at the first byte with which no tag goes on
pub faults : (c : Cause) (i : ℕ) (xs : List ℕ) → read_tag xs ≡ fault c i → FirstBad xs i
faults c i xs h =
    let f = found xs Before [] 0 c i h in
    let e : i ≡ f.j = f.place ∙ zero-add f.j in
    subst (FirstBad xs) (sym e) (first-bad c i xs f.j e f.inside f.ending f.stuck)
