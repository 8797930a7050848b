-- What is read is in the grammar: for each state, what the grammar has for the rest of a tag.
use Rattle.std.proofs.Common.{◌≡◌, ℕ, ◌+◌, true, false, cond, eqb, List, [], ◌∷◌, ◌++◌, sym, refl, ap, ◌∙◌, subst, append_assoc, append-nil, arith}
use Rattle.std.proofs.lemmas.Bool.{cond_both, eqb-true}
use Rattle.tags.specs.declared.tag.TagKind.{TagKind}
use Rattle.tags.specs.declared.tag.TagKind.TheVariants.{Start, Empty, End}
use Rattle.tags.specs.declared.reader.State.{State}
use Rattle.tags.specs.declared.reader.State.TheVariants.{Before, Opened, Name, Gap, Attribute, AttributeGap, Equals, InDouble, InSingle, AfterValue, Slashed, EndOpened, EndName, EndGap}
use Rattle.tags.specs.declared.reader.Step.{Step}
use Rattle.tags.specs.declared.reader.Step.TheVariants.{On, Done, Bad}
use Rattle.tags.specs.declared.tag.Cause.{Cause}
use Rattle.tags.specs.Bytes.{letter, name_byte, white}
use Rattle.tags.specs.Steps.{next, in_name}
use Rattle.tags.specs.Reads.{tag, fault, reads, read_tag}
use Rattle.grammar.specs.Grammar as g
use Rattle.grammar.specs.Grammar.{Each, none, more, value_byte, Spaces, name, Value, double, single, attribute, Attributes, no_more, and_one, Closer, plain, slashed, Tag, opens, ends}
use Rattle.grammar.proofs.Runs.{goes}

-- after a name or an attribute
pub data Tail : TagKind → List ℕ → Type 0 where
  tail : {k : TagKind} {al s c : List ℕ} → Attributes al → Spaces s → Closer k c → Tail k (al ++ (s ++ c))

-- after an attribute's `=`
pub data ValueTail : TagKind → List ℕ → Type 0 where
  value_tail : {k : TagKind} {s v t : List ℕ} → Spaces s → Value v → Tail k t → ValueTail k (s ++ (v ++ t))

-- after an attribute's name
pub data EqualTail : TagKind → List ℕ → Type 0 where
  equal_tail : {k : TagKind} {s t : List ℕ} → Spaces s → ValueTail k t → EqualTail k (s ++ 61 ∷ t)

-- inside an attribute's name
pub data NameTail : TagKind → List ℕ → Type 0 where
  name_tail : {k : TagKind} {bs t : List ℕ} → Each name_byte bs → EqualTail k t → NameTail k (bs ++ t)

-- after a space
pub data GapTail : TagKind → List ℕ → Type 0 where
  gap_close : {k : TagKind} {s c : List ℕ} → Spaces s → Closer k c → GapTail k (s ++ c)
  gap_name : {k : TagKind} (b : ℕ) {s t : List ℕ} → Spaces s → letter b ≡ true → NameTail k t → GapTail k (s ++ b ∷ t)

pub data QuoteTail (q : ℕ) : TagKind → List ℕ → Type 0 where
  quote_tail : {k : TagKind} {v t : List ℕ} → Each (value_byte q) v → Tail k t → QuoteTail q k (v ++ q ∷ t)

pub data SlashTail : TagKind → List ℕ → Type 0 where
  slash_tail : SlashTail Empty (62 ∷ [])

pub data EndTail : TagKind → List ℕ → Type 0 where
  end_tail : {s : List ℕ} → Spaces s → EndTail End (s ++ 62 ∷ [])

-- inside the tag's name: m is read, and n is the whole name
pub data Naming (T : TagKind → List ℕ → Type 0) (m n : List ℕ) : TagKind → List ℕ → Type 0 where
  naming : {k : TagKind} {bs t : List ℕ} → n ≡ m ++ bs → Each name_byte bs → T k t → Naming T m n k (bs ++ t)

-- before the tag's name
pub data NameBegins (T : TagKind → List ℕ → Type 0) (m n : List ℕ) : TagKind → List ℕ → Type 0 where
  begins : {k : TagKind} {b : ℕ} {t : List ℕ} → letter b ≡ true → Naming T (m ++ b ∷ []) n k t → NameBegins T m n k (b ∷ t)

pub data OpenTail (m n : List ℕ) : TagKind → List ℕ → Type 0 where
  open_name : {k : TagKind} {t : List ℕ} → NameBegins Tail m n k t → OpenTail m n k t
  open_end : {k : TagKind} {t : List ℕ} → NameBegins EndTail m n k t → OpenTail m n k (47 ∷ t)

pub data Whole (m n : List ℕ) : TagKind → List ℕ → Type 0 where
  whole : {k : TagKind} {t : List ℕ} → OpenTail m n k t → Whole m n k (60 ∷ t)

abbrev pub Rest : State → TagKind → List ℕ → List ℕ → List ℕ → Type 0
Rest Before k m n t = Whole m n k t
Rest Opened k m n t = OpenTail m n k t
Rest Name k m n t = Naming Tail m n k t
Rest Gap k m n t = (n ≡ m) × GapTail k t
Rest Attribute k m n t = (n ≡ m) × NameTail k t
Rest AttributeGap k m n t = (n ≡ m) × EqualTail k t
Rest Equals k m n t = (n ≡ m) × ValueTail k t
Rest InDouble k m n t = (n ≡ m) × QuoteTail 34 k t
Rest InSingle k m n t = (n ≡ m) × QuoteTail 39 k t
Rest AfterValue k m n t = (n ≡ m) × Tail k t
Rest Slashed k m n t = (n ≡ m) × SlashTail k t
Rest EndOpened k m n t = NameBegins EndTail m n k t
Rest EndName k m n t = Naming EndTail m n k t
Rest EndGap k m n t = (n ≡ m) × EndTail k t

-- a step back: one more byte in front
more-space_gap : {k : TagKind} {b : ℕ} {t : List ℕ} → white b ≡ true → GapTail k t → GapTail k (b ∷ t)
more-space_gap h (gap_close e c) = gap_close (more h e) c
more-space_gap h (gap_name b e l t) = gap_name b (more h e) l t

pub regroup : (w : ℕ) (s n s₁ s₂ v e : List ℕ) → (w ∷ (s ++ (n ++ (s₁ ++ 61 ∷ (s₂ ++ v))))) ++ e ≡ w ∷ (s ++ (n ++ (s₁ ++ 61 ∷ (s₂ ++ (v ++ e)))))
regroup w s n s₁ s₂ v e = simp append_assoc

gap_tail : {k : TagKind} {b : ℕ} {t : List ℕ} → white b ≡ true → GapTail k t → Tail k (b ∷ t)
gap_tail {b = w} h (gap_close e c) = tail no_more (more h e) c
gap_tail {k} {b = w} h (gap_name b {s = s₀} e l (name_tail {bs} f (equal_tail {s = s₁} e₁ (value_tail {s = s₂} {v} e₂ q (tail {al} {s = s₃} {c} x e₃ d))))) =
    subst (Tail k)
    (append_assoc (w ∷ (s₀ ++ ((b ∷ bs) ++ (s₁ ++ 61 ∷ (s₂ ++ v))))) al (s₃ ++ c) ∙ regroup w s₀ (b ∷ bs) s₁ s₂ v (al ++ (s₃ ++ c)))
    (tail (and_one (attribute {w = w} h e (name {b = b} l f) e₁ e₂ q) x) e₃ d)

slash-tail_on : {k : TagKind} {t : List ℕ} → SlashTail k t → Tail k (47 ∷ t)
slash-tail_on slash_tail = tail no_more none slashed

slash-gap_on : {k : TagKind} {t : List ℕ} → SlashTail k t → GapTail k (47 ∷ t)
slash-gap_on slash_tail = gap_close none slashed

more-name : {k : TagKind} {b : ℕ} {t : List ℕ} → name_byte b ≡ true → NameTail k t → NameTail k (b ∷ t)
more-name h (name_tail f t) = name_tail (more h f) t

more-equal : {k : TagKind} {b : ℕ} {t : List ℕ} → white b ≡ true → EqualTail k t → EqualTail k (b ∷ t)
more-equal h (equal_tail e t) = equal_tail (more h e) t

more-value : {k : TagKind} {b : ℕ} {t : List ℕ} → white b ≡ true → ValueTail k t → ValueTail k (b ∷ t)
more-value h (value_tail e v t) = value_tail (more h e) v t

double-value : {k : TagKind} {t : List ℕ} → QuoteTail 34 k t → ValueTail k (34 ∷ t)
double-value (quote_tail e t) = simp append_assoc at (value_tail none (double e) t)

single-value : {k : TagKind} {t : List ℕ} → QuoteTail 39 k t → ValueTail k (39 ∷ t)
single-value (quote_tail e t) = simp append_assoc at (value_tail none (single e) t)

-- neither the quote nor '<'
pub value-byte : (q b : ℕ) → eqb b q ≡ false → eqb b 60 ≡ false → value_byte q b ≡ true
value-byte q b h i = rw (h, i)

more-quote : (q : ℕ) {k : TagKind} (b : ℕ) {t : List ℕ} → eqb b q ≡ false → eqb b 60 ≡ false → QuoteTail q k t → QuoteTail q k (b ∷ t)
more-quote q b h i (quote_tail e t) = quote_tail (more (value-byte q b h i) e) t

more-end : {k : TagKind} {b : ℕ} {t : List ℕ} → white b ≡ true → EndTail k t → EndTail k (b ∷ t)
more-end h (end_tail e) = end_tail (more h e)

more-naming : (T : TagKind → List ℕ → Type 0) (m n : List ℕ) {k : TagKind} (b : ℕ) {t : List ℕ} → name_byte b ≡ true → Naming T (m ++ b ∷ []) n k t → Naming T m n k (b ∷ t)
more-naming T m n b h (naming {bs} q f t) = naming (q ∙ append_assoc m (b ∷ []) bs) (more h f) t

pub end_naming : (T : TagKind → List ℕ → Type 0) {m n : List ℕ} {k : TagKind} {t : List ℕ} → n ≡ m → T k t → Naming T m n k t
end_naming T {m} q t = naming (q ∙ sym (append-nil m)) none t

-- the tests of a step, one after the other, with what each way asks
abbrev pub Back : State → List ℕ → ℕ → State × Step → Type 0
Back s m b w =
    elim w.1 [
      | On ↦ ((k : TagKind) (n t : List ℕ) → Rest w.0 k (cond (in_name w.0) (m ++ b ∷ []) m) n t → Rest s k m n (b ∷ t))
      | Done k ↦ Rest s k m m (b ∷ [])
      | Bad c ↦ Unit {0}
    ]

-- what holds at the byte q holds at b
pub at_byte : (b q : ℕ) (P : ℕ → Type 0) → eqb b q ≡ true → P q → P b
at_byte b q P h p = subst P (sym (eqb-true b q h)) p

pub steps : (s : State) (m : List ℕ) (b : ℕ) → Back s m b (next s b)
steps Before m b = cond_both (eqb b 60) _ _ (Back Before m b) (λ h k n t R. at_byte b 60 (λ z. Whole m n k (z ∷ t)) h (whole R)) (λ _. tt)
steps Opened m b =
    cond_both (letter b) _ _ (Back Opened m b) (λ h k n t R. open_name (begins h R))
    (λ _. cond_both (eqb b 47) _ _ (Back Opened m b) (λ h k n t R. at_byte b 47 (λ z. OpenTail m n k (z ∷ t)) h (open_end R))
    (λ _. tt))
steps Name m b =
    cond_both (name_byte b) _ _ (Back Name m b) (λ h k n t R. more-naming Tail m n b h R)
    (λ _. cond_both (white b) _ _ (Back Name m b) (λ h k n t R. end_naming Tail R.0 (gap_tail h R.1))
    (λ _. cond_both (eqb b 47) _ _ (Back Name m b) (λ h k n t R. end_naming Tail R.0 (at_byte b 47 (λ z. Tail k (z ∷ t)) h (slash-tail_on R.1)))
    (λ _. cond_both (eqb b 62) _ _ (Back Name m b) (λ h. end_naming Tail refl (at_byte b 62 (λ z. Tail Start (z ∷ [])) h (tail no_more none plain)))
    (λ _. tt))))
steps Gap m b =
    cond_both (letter b) _ _ (Back Gap m b) (λ h k n t R. (R.0, gap_name b none h R.1))
    (λ _. cond_both (white b) _ _ (Back Gap m b) (λ h k n t R. (R.0, more-space_gap h R.1))
    (λ _. cond_both (eqb b 47) _ _ (Back Gap m b) (λ h k n t R. (R.0, at_byte b 47 (λ z. GapTail k (z ∷ t)) h (slash-gap_on R.1)))
    (λ _. cond_both (eqb b 62) _ _ (Back Gap m b) (λ h. (refl, at_byte b 62 (λ z. GapTail Start (z ∷ [])) h (gap_close none plain)))
    (λ _. tt))))
steps Attribute m b =
    cond_both (name_byte b) _ _ (Back Attribute m b) (λ h k n t R. (R.0, more-name h R.1))
    (λ _. cond_both (white b) _ _ (Back Attribute m b) (λ h k n t R. (R.0, name_tail none (more-equal h R.1)))
    (λ _. cond_both (eqb b 61) _ _ (Back Attribute m b) (λ h k n t R. (R.0, at_byte b 61 (λ z. NameTail k (z ∷ t)) h (name_tail none (equal_tail none R.1))))
    (λ _. tt)))
steps AttributeGap m b =
    cond_both (white b) _ _ (Back AttributeGap m b) (λ h k n t R. (R.0, more-equal h R.1))
    (λ _. cond_both (eqb b 61) _ _ (Back AttributeGap m b) (λ h k n t R. (R.0, at_byte b 61 (λ z. EqualTail k (z ∷ t)) h (equal_tail none R.1)))
    (λ _. tt))
steps Equals m b =
    cond_both (white b) _ _ (Back Equals m b) (λ h k n t R. (R.0, more-value h R.1))
    (λ _. cond_both (eqb b 34) _ _ (Back Equals m b) (λ h k n t R. (R.0, at_byte b 34 (λ z. ValueTail k (z ∷ t)) h (double-value R.1)))
    (λ _. cond_both (eqb b 39) _ _ (Back Equals m b) (λ h k n t R. (R.0, at_byte b 39 (λ z. ValueTail k (z ∷ t)) h (single-value R.1)))
    (λ _. tt)))
steps InDouble m b =
    cond_both (eqb b 34) _ _ (Back InDouble m b) (λ h k n t R. (R.0, at_byte b 34 (λ z. QuoteTail 34 k (z ∷ t)) h (quote_tail none R.1)))
    (λ h. cond_both (eqb b 60) _ _ (Back InDouble m b) (λ _. tt) (λ i k n t R. (R.0, more-quote 34 b h i R.1)))
steps InSingle m b =
    cond_both (eqb b 39) _ _ (Back InSingle m b) (λ h k n t R. (R.0, at_byte b 39 (λ z. QuoteTail 39 k (z ∷ t)) h (quote_tail none R.1)))
    (λ h. cond_both (eqb b 60) _ _ (Back InSingle m b) (λ _. tt) (λ i k n t R. (R.0, more-quote 39 b h i R.1)))
steps AfterValue m b =
    cond_both (white b) _ _ (Back AfterValue m b) (λ h k n t R. (R.0, gap_tail h R.1))
    (λ _. cond_both (eqb b 47) _ _ (Back AfterValue m b) (λ h k n t R. (R.0, at_byte b 47 (λ z. Tail k (z ∷ t)) h (slash-tail_on R.1)))
    (λ _. cond_both (eqb b 62) _ _ (Back AfterValue m b) (λ h. (refl, at_byte b 62 (λ z. Tail Start (z ∷ [])) h (tail no_more none plain)))
    (λ _. tt)))
steps Slashed m b = cond_both (eqb b 62) _ _ (Back Slashed m b) (λ h. (refl, at_byte b 62 (λ z. SlashTail Empty (z ∷ [])) h slash_tail)) (λ _. tt)
steps EndOpened m b = cond_both (letter b) _ _ (Back EndOpened m b) (λ h k n t R. begins h R) (λ _. tt)
steps EndName m b =
    cond_both (name_byte b) _ _ (Back EndName m b) (λ h k n t R. more-naming EndTail m n b h R)
    (λ _. cond_both (white b) _ _ (Back EndName m b) (λ h k n t R. end_naming EndTail R.0 (more-end h R.1))
    (λ _. cond_both (eqb b 62) _ _ (Back EndName m b) (λ h. end_naming EndTail refl (at_byte b 62 (λ z. EndTail End (z ∷ [])) h (end_tail none)))
    (λ _. tt)))
steps EndGap m b =
    cond_both (white b) _ _ (Back EndGap m b) (λ h k n t R. (R.0, more-end h R.1))
    (λ _. cond_both (eqb b 62) _ _ (Back EndGap m b) (λ h. (refl, at_byte b 62 (λ z. EndTail End (z ∷ [])) h (end_tail none)))
    (λ _. tt))

-- xs begins with what the grammar has from the state s
abbrev Found : State → TagKind → List ℕ → List ℕ → List ℕ → Type 0
Found s k m n xs = (t : List ℕ) × (r : List ℕ) × (xs ≡ t ++ r) × Rest s k m n t

pub same-cause : {c d : Cause} {i j : ℕ} → fault c i ≡ fault d j → c ≡ d
same-cause e = cc

pub same_place : {c d : Cause} {i j : ℕ} → fault c i ≡ fault d j → j ≡ i
same_place e = cc

pub no_tag : (k : TagKind) (n : List ℕ) (c : Cause) (at : ℕ) → fault c at ≡ tag k n → ⊥
no_tag k n c at e = let z : ◌≡◌ {A = ℕ} 0 1 = cc in omega arith

same_kind : {j k : TagKind} {m n : List ℕ} → tag j m ≡ tag k n → j ≡ k
same_kind e = cc

same_name : {j k : TagKind} {m n : List ℕ} → tag j m ≡ tag k n → n ≡ m
same_name e = cc

after : (s : State) (k : TagKind) (m n : List ℕ) (b : ℕ) (xs : List ℕ) (at : ℕ) (w : State × Step) → Back s m b w
    → ((s' : State) (m' : List ℕ) → reads s' (at + 1) m' xs ≡ tag k n → Found s' k m' n xs)
    → goes at m b xs w ≡ tag k n → Found s k m n (b ∷ xs)
after s k m n b xs at (s', On) back next_one h =
    let f = next_one s' (cond (in_name s') (m ++ b ∷ []) m) h in
    (b ∷ f.0, f.1, ap (λ l. b ∷ l) f.2, back k n f.0 f.3)
after s k m n b xs at (s', Done j) back next_one h =
    (b ∷ [], xs, refl, subst (λ l. Rest s k m l (b ∷ [])) (sym (same_name h)) (subst (λ z. Rest s z m m (b ∷ [])) (same_kind h) back))
after s k m n b xs at (s', Bad c) back next_one h = absurd (no_tag k n c at h)

found : (xs : List ℕ) (s : State) (k : TagKind) (m n : List ℕ) (at : ℕ) → reads s at m xs ≡ tag k n → Found s k m n xs
found [] s k m n at h = absurd (no_tag k n _ at h)
found (b ∷ xs) s k m n at h = after s k m n b xs at (next s b) (steps s m b) (λ s' m' e. found xs s' k m' n (at + 1) e) h

pub tag-from : (k : TagKind) (n t : List ℕ) → Whole [] n k t → Tag k n t
tag-from k n t (whole (open_name (begins {b} l (naming {bs} q f (tail {al} {s} {c} x e d))))) = subst (λ z. Tag k z (60 ∷ ((b ∷ bs) ++ (al ++ (s ++ c))))) (sym q) (opens (name {b = b} l f) x e d)
tag-from k n t (whole (open_end (begins {b} l (naming {bs} q f (end_tail {s} e))))) = subst (λ z. Tag End z (60 ∷ 47 ∷ ((b ∷ bs) ++ (s ++ 62 ∷ [])))) (sym q) (ends (name {b = b} l f) e)

-- what is read as a tag begins with what the grammar has
pub sound : (k : TagKind) (n xs : List ℕ) → read_tag xs ≡ tag k n → g.Begins k n xs
sound k n xs h = let f = found xs Before k [] n 0 h in (f.0, f.1, f.2, tag-from k n f.0 f.3)
