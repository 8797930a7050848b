-- One turn of the loop that reads a tag.
use Rattle.std.proofs.Common.{◌≡◌, ℕ, zero, suc, ◌+◌, ◌-◌, ◌<◌, ◌≤◌, Bool, true, false, cond, ◌⊎◌, List, [], ◌∷◌, ◌++◌, length, get_or, take, drop, sym, refl, ap, ◌∙◌, subst, inl, inr, ⊎_elim, add-zero, arith}
use Rattle.std.proofs.lemmas.Bool.{both_ways}
use Rattle.std.specs.List.{between}
use Rattle.std.proofs.lemmas.List.{drop_more}
use Rattle.std.proofs.lemmas.List.Edits.{between_more}
use Rattle.std.proofs.lemmas.Bool.Decides.{nat_tests}
use Rattle.tags.specs.declared.reader.State.{State}
use Rattle.tags.specs.declared.reader.State.TheVariants.{Before, Opened, Name, Gap, Attribute, AttributeGap, Equals, InDouble, InSingle, AfterValue, Slashed, EndOpened, EndName, EndGap}
use Rattle.tags.specs.declared.reader.Step.{Step}
use Rattle.tags.specs.declared.reader.Step.TheVariants.{On, Done, Bad}
use Rattle.tags.specs.declared.tag.TagKind.{TagKind}
use Rattle.tags.specs.declared.tag.Cause.{Cause}
use Rattle.tags.specs.Steps.{next, in_name, Stays}
use Rattle.tags.specs.Reads.{Outcome, tag, fault, reads}

-- whether the name has begun
abbrev pub begun : State → Bool
begun Before = false
begun Opened = false
begun Name = true
begun Gap = true
begun Attribute = true
begun AttributeGap = true
begun Equals = true
begun InDouble = true
begun InSingle = true
begun AfterValue = true
begun Slashed = true
begun EndOpened = false
begun EndName = true
begun EndGap = true

-- the name so far is xs[from..end], read up to i
pub record Span (s : State) (from end i : ℕ) : Type 0 where
  pub ordered : from ≤ end
  pub within : end ≤ i
  pub naming : in_name s ≡ true → end ≡ i
  pub none : begun s ≡ false → end ≡ 0

-- a state in which a name grows comes from one with no name yet, or from such a state
pub into_name : (s : State) (b : ℕ) → in_name (next s b).0 ≡ true → (begun s ≡ false) ⊎ (in_name s ≡ true)
into_name Before b h = inl refl
into_name Opened b h = inl refl
into_name Name b h = inr refl
into_name Gap b h = grind (arith, nat_tests)
into_name Attribute b h = grind (arith, nat_tests)
into_name AttributeGap b h = grind (arith, nat_tests)
into_name Equals b h = grind (arith, nat_tests)
into_name InDouble b h = grind (arith, nat_tests)
into_name InSingle b h = grind (arith, nat_tests)
into_name AfterValue b h = grind (arith, nat_tests)
into_name Slashed b h = grind (arith, nat_tests)
into_name EndOpened b h = inl refl
into_name EndName b h = inr refl
into_name EndGap b h = grind (arith, nat_tests)

-- no step leads back to before the name
pub unbegun : (s : State) (b : ℕ) → begun (next s b).0 ≡ false → begun s ≡ false
unbegun Before b h = refl
unbegun Opened b h = refl
unbegun Name b h = grind (arith, nat_tests)
unbegun Gap b h = grind (arith, nat_tests)
unbegun Attribute b h = grind (arith, nat_tests)
unbegun AttributeGap b h = grind (arith, nat_tests)
unbegun Equals b h = grind (arith, nat_tests)
unbegun InDouble b h = grind (arith, nat_tests)
unbegun InSingle b h = grind (arith, nat_tests)
unbegun AfterValue b h = grind (arith, nat_tests)
unbegun Slashed b h = grind (arith, nat_tests)
unbegun EndOpened b h = refl
unbegun EndName b h = grind (arith, nat_tests)
unbegun EndGap b h = grind (arith, nat_tests)

begins : (s : State) → in_name s ≡ true → begun s ≡ true
begins Before h = h
begins Opened h = h
begins Name h = refl
begins Gap h = refl
begins Attribute h = refl
begins AttributeGap h = refl
begins Equals h = refl
begins InDouble h = refl
begins InSingle h = refl
begins AfterValue h = refl
begins Slashed h = refl
begins EndOpened h = h
begins EndName h = refl
begins EndGap h = refl

-- what `reads` does after a step
abbrev goes : ℕ → List ℕ → ℕ → List ℕ → State × Step → Outcome
goes at name b bs p =
    elim p.1 [
      | On ↦ reads p.0 (at + 1) (cond (in_name p.0) (name ++ b ∷ []) name) bs
      | Done k ↦ tag k name
      | Bad c ↦ fault c at
    ]

module _ (xs : List ℕ) (s s' : State) (i : ℕ) (name : List ℕ) (high : i < length xs) where
  abbrev b : ℕ
  b = get_or xs i 0

  one-step : (w : State × Step) → w ≡ next s b → reads s i name (drop i xs) ≡ goes i name b (drop (i + 1) xs) w
  one-step w e = ap (reads s i name) (drop_more xs i 0 high) ∙ ap (goes i name b (drop (i + 1) xs)) (sym e)

  pub at_on : (name' : List ℕ) → ◌≡◌ {A = State × Step} (s', On) (next s b) → name' ≡ cond (in_name s') (name ++ b ∷ []) name → reads s i name (drop i xs) ≡ reads s' (i + 1) name' (drop (i + 1) xs)
  at_on name' e n = one-step (s', On) e ∙ ap (λ l. reads s' (i + 1) l (drop (i + 1) xs)) (sym n)

  pub at_done : (k : TagKind) → ◌≡◌ {A = State × Step} (s', Done k) (next s b) → reads s i name (drop i xs) ≡ tag k name
  at_done k e = one-step (s', Done k) e

  pub at-bad : (c : Cause) → ◌≡◌ {A = State × Step} (s', Bad c) (next s b) → reads s i name (drop i xs) ≡ fault c i
  at-bad c e = one-step (s', Bad c) e

none-at : (xs : List ℕ) (j k : ℕ) → k ≤ j → between j k xs ≡ []
none-at xs j k h = let z : k - j ≡ 0 = omega arith in ap (λ n. take n (drop j xs)) z

-- the three ways of a turn that goes on
module _ (xs : List ℕ) (s s' : State) (from end i : ℕ) (from' end' : ℕ) (o : Outcome) (high : i < length xs)
    (step : ◌≡◌ {A = State × Step} (s', On) (next s (get_or xs i 0)))
    (was : reads s i (between from end xs) (drop i xs) ≡ o) (span : Span s from end i) where
  abbrev pub Again : Type 0
  Again = (reads s' (i + 1) (between from' end' xs) (drop (i + 1) xs) ≡ o) × Span s' from' end' (i + 1)

  abbrev Shift : ℕ → ℕ → Type 0
  Shift f e = (reads s' (i + 1) (between f e xs) (drop (i + 1) xs) ≡ o) × Span s' f e (i + 1)

  moved : (f e : ℕ) → from' ≡ f → end' ≡ e → Shift f e → Again
  moved f e p q h = subst (λ x. Shift x end') (sym p) (subst (λ y. Shift f y) (sym q) h)

  at-s' : s' ≡ (next s (get_or xs i 0)).0
  at-s' = ap (λ p. p.0) step

  pub on-past : in_name s' ≡ false → from' ≡ from → end' ≡ end → Again
  on-past n p q = moved from end p q (
    sym (at_on xs s s' i (between from end xs) high (between from end xs) step (ap (λ t. cond t (between from end xs ++ get_or xs i 0 ∷ []) (between from end xs)) (sym n))) ∙ was,
    record {
      ordered = span.ordered;
      within = omega (arith, span.within);
      naming = λ h. absurd (both_ways (in_name s') n h);
      none = λ h. span.none (unbegun s (get_or xs i 0) (sym (ap begun at-s') ∙ h));
    },
  )

  pub on-first : in_name s' ≡ true → end ≡ 0 → from' ≡ i → end' ≡ i + 1 → Again
  on-first n z p q = moved i (i + 1) p q (
    sym (at_on xs s s' i (between from end xs) high (between i (i + 1) xs) step (
        between_more xs i i 0 (omega arith) high ∙ ap (λ l. l ++ get_or xs i 0 ∷ []) (none-at xs i i (omega arith) ∙ sym (none-at xs from end (omega (arith, z))))
        ∙ ap (λ t. cond t (between from end xs ++ get_or xs i 0 ∷ []) (between from end xs)) (sym n))) ∙ was,
    record {
      ordered = omega arith;
      within = omega arith;
      naming = λ h. refl;
      none = λ h. absurd (both_ways (begun s') h (begins s' n));
    },
  )

  pub on-next : in_name s' ≡ true → (end ≡ 0 → ⊥) → from' ≡ from → end' ≡ i + 1 → Again
  on-next n z p q =
      let here : end ≡ i = ⊎_elim (λ h. absurd (z (span.none h))) (λ h. span.naming h) (into_name s (get_or xs i 0) (sym (ap in_name at-s') ∙ n)) in
      moved from (i + 1) p q (
        sym (at_on xs s s' i (between from end xs) high (between from (i + 1) xs) step (
            between_more xs from i 0 (omega (arith, span.ordered)) high ∙ ap (λ k. between from k xs ++ get_or xs i 0 ∷ []) (sym here)
            ∙ ap (λ t. cond t (between from end xs ++ get_or xs i 0 ∷ []) (between from end xs)) (sym n))) ∙ was,
        record {
          ordered = omega (arith, span.ordered);
          within = omega arith;
          naming = λ h. refl;
          none = λ h. absurd (both_ways (begun s') h (begins s' n));
        },
      )

-- bytes that leave the reader in its state: in a name they are added to it
module _ (xs : List ℕ) (s : State) (from end i : ℕ) (o : Outcome) (begun-at : 0 < i)
    (was : reads s i (between from end xs) (drop i xs) ≡ o) (span : Span s from end i) where
  -- where the name ends once all bytes up to j were read
  abbrev name-to : ℕ → ℕ
  name-to j = cond (in_name s) j end

  abbrev pub On-to : ℕ → Type 0
  On-to j = (reads s j (between from (name-to j) xs) (drop j xs) ≡ o) × Span s from (name-to j) j

  stay_none : On-to i
  stay_none = elim (in_name s) as (λ t. in_name s ≡ t → (reads s i (between from (cond t i end) xs) (drop i xs) ≡ o) × Span s from (cond t i end) i) [
    | true ↦ (λ e. subst (λ k. (reads s i (between from k xs) (drop i xs) ≡ o) × Span s from k i) (span.naming e) (was, span))
    | false ↦ (λ e. (was, span))
  ] refl

  stay-one : (j : ℕ) → 0 < j → j < length xs → ◌≡◌ {A = State × Step} (next s (get_or xs j 0)) (s, On) → On-to j → On-to (j + 1)
  stay-one j pos high step h = elim (in_name s) as (λ t. in_name s ≡ t → (reads s j (between from (cond t j end) xs) (drop j xs) ≡ o) × Span s from (cond t j end) j → (reads s (j + 1) (between from (cond t (j + 1) end) xs) (drop (j + 1) xs) ≡ o) × Span s from (cond t (j + 1) end) (j + 1)) [
    | true ↦ (λ e g. on-next xs s s from j j from (j + 1) o high (sym step) g.0 g.1 e (λ z. omega (arith, z, pos)) refl refl)
    | false ↦ (λ e g. on-past xs s s from end j from end o high (sym step) g.0 g.1 e refl refl)
  ] refl h

  pub stay-on : (n : ℕ) → i + n ≤ length xs → Stays s xs i (i + n) → On-to (i + n)
  stay-on zero h all = subst On-to (sym (add-zero i)) stay_none
  stay-on (suc n) h all =
      let e : (i + n) + 1 ≡ i + suc n = omega arith in
      subst On-to e (stay-one (i + n) (omega arith) (omega (arith, h)) (all (i + n) (omega arith) (omega arith)) (stay-on n (omega (arith, h)) (λ k low high. all k low (omega (arith, high)))))

  -- the same up to a place, in a name and elsewhere
  module _ (j : ℕ) (onward : i ≤ j) (high : j ≤ length xs) (all : Stays s xs i j) where
    there : i + (j - i) ≡ j
    there = omega (arith, onward)

    stayed : On-to j
    stayed = subst On-to there (stay-on (j - i) (omega (arith, there, high)) (subst (Stays s xs i) (sym there) all))

    abbrev pub Stayed : ℕ → Type 0
    Stayed e = (reads s j (between from e xs) (drop j xs) ≡ o) × Span s from e j × (j ≤ length xs)

    ends_at : (e : ℕ) → name-to j ≡ e → Stayed e
    ends_at e p = subst Stayed p (stayed.0, stayed.1, high)

    pub stayed-in : in_name s ≡ true → Stayed j
    stayed-in e = ends_at j (ap (λ t. cond t j end) e)

    pub stayed-out : in_name s ≡ false → Stayed end
    stayed-out e = ends_at end (ap (λ t. cond t j end) e)
