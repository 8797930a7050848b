-- What the grammar has is read.
use Rattle.std.proofs.Common.{◌≡◌, ℕ, ◌+◌, Bool, true, false, cond, List, [], ◌∷◌, ◌++◌, sym, refl, ap, ◌∙◌, subst, append_assoc, append-nil, arith}
use Rattle.std.proofs.lemmas.Bool.Decides.{nat_tests}
use Rattle.tags.specs.declared.tag.TagKind.{TagKind}
use Rattle.tags.specs.declared.tag.TagKind.TheVariants.{Start, Empty, End}
use Rattle.tags.specs.declared.reader.State.{State}
use Rattle.tags.specs.declared.reader.State.TheVariants as st
use Rattle.tags.specs.declared.reader.Step.{Step}
use Rattle.tags.specs.declared.reader.Step.TheVariants.{On, Done, Bad}
use Rattle.tags.specs.Bytes.{letter, name_byte, white}
use Rattle.tags.specs.Steps.{next, in_name}
use Rattle.tags.specs.Reads.{Outcome, tag, fault, reads, read_tag}
use Rattle.grammar.specs.Grammar.{Each, none, more, value_byte, Spaces, name, Value, double, single, Attribute, attribute, Attributes, no_more, and_one, Closer, plain, slashed, Tag, opens, ends}

abbrev pub goes : ℕ → List ℕ → ℕ → List ℕ → State × Step → Outcome
goes at m b bs p =
    elim p.1 [
      | On ↦ reads p.0 (at + 1) (cond (in_name p.0) (m ++ b ∷ []) m) bs
      | Done k ↦ tag k m
      | Bad c ↦ fault c at
    ]

-- the states in which a start tag may close
pub data Opening : State → Type 0 where
  at_name : Opening st.Name
  at_gap : Opening st.Gap
  at_value : Opening st.AfterValue

pub white-on : {s : State} → Opening s → (b : ℕ) → white b ≡ true → next s b ≡ (st.Gap, On)
white-on at_name b h = grind (arith, nat_tests)
white-on at_gap b h = grind (arith, nat_tests)
white-on at_value b h = grind (arith, nat_tests)

pub slash-on : {s : State} → Opening s → next s 47 ≡ (st.Slashed, On)
slash-on at_name = refl
slash-on at_gap = refl
slash-on at_value = refl

pub close_on : {s : State} → Opening s → next s 62 ≡ (s, Done Start)
close_on at_name = refl
close_on at_gap = refl
close_on at_value = refl

pub attr_name : (b : ℕ) → name_byte b ≡ true → next st.Attribute b ≡ (st.Attribute, On)
attr_name b h = grind (arith, nat_tests)

pub attr_white : (b : ℕ) → white b ≡ true → next st.Attribute b ≡ (st.AttributeGap, On)
attr_white b h = grind (arith, nat_tests)

pub attrgap_white : (b : ℕ) → white b ≡ true → next st.AttributeGap b ≡ (st.AttributeGap, On)
attrgap_white b h = grind (arith, nat_tests)

pub equals_white : (b : ℕ) → white b ≡ true → next st.Equals b ≡ (st.Equals, On)
equals_white b h = grind (arith, nat_tests)

pub double-on : (b : ℕ) → value_byte 34 b ≡ true → next st.InDouble b ≡ (st.InDouble, On)
double-on b h = grind (arith, nat_tests)

pub single-on : (b : ℕ) → value_byte 39 b ≡ true → next st.InSingle b ≡ (st.InSingle, On)
single-on b h = grind (arith, nat_tests)

pub name-on : (b : ℕ) → name_byte b ≡ true → next st.Name b ≡ (st.Name, On)
name-on b h = grind (arith, nat_tests)

pub endname_on : (b : ℕ) → name_byte b ≡ true → next st.EndName b ≡ (st.EndName, On)
endname_on b h = grind (arith, nat_tests)

pub endname_white : (b : ℕ) → white b ≡ true → next st.EndName b ≡ (st.EndGap, On)
endname_white b h = grind (arith, nat_tests)

pub endgap_white : (b : ℕ) → white b ≡ true → next st.EndGap b ≡ (st.EndGap, On)
endgap_white b h = grind (arith, nat_tests)

pub gap_letter : (b : ℕ) → letter b ≡ true → next st.Gap b ≡ (st.Attribute, On)
gap_letter b h = grind (arith, nat_tests)

pub opened-letter : (b : ℕ) → letter b ≡ true → next st.Opened b ≡ (st.Name, On)
opened-letter b h = grind (arith, nat_tests)

pub endopened_letter : (b : ℕ) → letter b ≡ true → next st.EndOpened b ≡ (st.EndName, On)
endopened_letter b h = grind (arith, nat_tests)

module _ (k : TagKind) (n : List ℕ) where
  -- from the state s, with the name m so far, xs gives the tag
  abbrev Gives : State → List ℕ → List ℕ → Type 0
  Gives s m xs = (at : ℕ) → reads s at m xs ≡ tag k n

  on : (s s' : State) (b : ℕ) (m xs : List ℕ) → next s b ≡ (s', On) → Gives s' (cond (in_name s') (m ++ b ∷ []) m) xs → Gives s m (b ∷ xs)
  on s s' b m xs e h = λ at. ap (goes at m b xs) e ∙ h (at + 1)

  done : (s s' : State) (b : ℕ) (xs : List ℕ) → next s b ≡ (s', Done k) → Gives s n (b ∷ xs)
  done s s' b xs e = λ at. ap (goes at n b xs) e

  -- a run of bytes that leave the state and the name as they are
  run : (s : State) (p : ℕ → Bool) → ((b : ℕ) → p b ≡ true → next s b ≡ (s, On)) → in_name s ≡ false → (m r : List ℕ) {w : List ℕ} → Each p w → Gives s m r → Gives s m (w ++ r)
  run s p go q m r none h = h
  run s p go q m r (more {b} {bs} t e) h = on s s b m (bs ++ r) (go b t) (subst (λ z. Gives s (cond z (m ++ b ∷ []) m) (bs ++ r)) (sym q) (run s p go q m r e h))

  -- a run of bytes of the tag's name
  run-name : (s : State) → ((b : ℕ) → name_byte b ≡ true → next s b ≡ (s, On)) → in_name s ≡ true → (m r : List ℕ) {w : List ℕ} → Each name_byte w → Gives s (m ++ w) r → Gives s m (w ++ r)
  run-name s go q m r none h = subst (λ l. Gives s l r) (append-nil m) h
  run-name s go q m r (more {b} {bs} t e) h =
      on s s b m (bs ++ r) (go b t) (subst (λ z. Gives s (cond z (m ++ b ∷ []) m) (bs ++ r)) (sym q)
      (run-name s go q (m ++ b ∷ []) r e (subst (λ l. Gives s l r) (sym (append_assoc m (b ∷ []) bs)) h)))

-- a closer, after the tag's name or an attribute
closing : {k : TagKind} {s : State} {c : List ℕ} (n : List ℕ) → Opening s → Closer k c → (r : List ℕ) → Gives k n s n (c ++ r)
closing {k} {s} n o plain r = done Start n s s 62 r (close_on o)
closing {k} {s} n o slashed r = on Empty n s st.Slashed 47 n (62 ∷ r) (slash-on o) (done Empty n st.Slashed st.Slashed 62 r refl)

gap_run : (k : TagKind) (n m r : List ℕ) {w : List ℕ} → Spaces w → Gives k n st.Gap m r → Gives k n st.Gap m (w ++ r)
gap_run k n m r = run k n st.Gap white (white-on at_gap) refl m r

-- spaces before a closer
closing_spaces : {k : TagKind} {s : State} {c w : List ℕ} (n : List ℕ) → Opening s → Spaces w → Closer k c → (r : List ℕ) → Gives k n s n (w ++ (c ++ r))
closing_spaces n o none c r = closing n o c r
closing_spaces {k} {s} {c} n o (more {b} {bs} h e) d r = on k n s st.Gap b n (bs ++ (c ++ r)) (white-on o b h) (gap_run k n n (c ++ r) e (closing n at_gap d r))

-- spaces and `=`, after an attribute's name
equal : (k : TagKind) (n m r : List ℕ) {w : List ℕ} → Spaces w → Gives k n st.Equals m r → Gives k n st.Attribute m (w ++ 61 ∷ r)
equal k n m r none h = on k n st.Attribute st.Equals 61 m r refl h
equal k n m r (more {b} {bs} p e) h =
    on k n st.Attribute st.AttributeGap b m (bs ++ 61 ∷ r) (attr_white b p) (run k n st.AttributeGap white attrgap_white refl m (61 ∷ r) e (on k n st.AttributeGap st.Equals 61 m r refl h))

-- a value in its quotes
value : (k : TagKind) (n m r : List ℕ) {v : List ℕ} → Value v → Gives k n st.AfterValue m r → Gives k n st.Equals m (v ++ r)
value k n m r (double {v} e) h =
    on k n st.Equals st.InDouble 34 m ((v ++ 34 ∷ []) ++ r) refl (rw append_assoc (run k n st.InDouble (value_byte 34) double-on refl m (34 ∷ r) e (on k n st.InDouble st.AfterValue 34 m r refl h)))
value k n m r (single {v} e) h =
    on k n st.Equals st.InSingle 39 m ((v ++ 39 ∷ []) ++ r) refl (rw append_assoc (run k n st.InSingle (value_byte 39) single-on refl m (39 ∷ r) e (on k n st.InSingle st.AfterValue 39 m r refl h)))

-- an attribute
one-attribute : (k : TagKind) (n m r : List ℕ) {s : State} {a : List ℕ} → Opening s → Attribute a → Gives k n st.AfterValue m r → Gives k n s m (a ++ r)
one-attribute k n m r {s} o (attribute {w} {s = s₀} {s₁} {s₂} {v} h e (name {b} {bs} l f) e₁ e₂ q) g =
    on k n s st.Gap w m ((s₀ ++ ((b ∷ bs) ++ (s₁ ++ 61 ∷ (s₂ ++ v)))) ++ r) (white-on o w h)
    (simp append_assoc (gap_run k n m _ e
    (on k n st.Gap st.Attribute b m _ (gap_letter b l)
    (run k n st.Attribute name_byte attr_name refl m _ f
    (equal k n m _ e₁ (run k n st.Equals white equals_white refl m _ e₂ (value k n m r q g)))))))

attributes : {k : TagKind} (n r : List ℕ) {s : State} {al w c : List ℕ} → Opening s → Attributes al → Spaces w → Closer k c → Gives k n s n (al ++ (w ++ (c ++ r)))
attributes n r o no_more e c = closing_spaces n o e c r
attributes {k} n r {s} {al} {w} {c} o (and_one {a} {al = more_of} x xs) e d = simp append_assoc (one-attribute k n n (more_of ++ (w ++ (c ++ r))) o x (attributes n r at_value xs e d))

closing_end : (n r : List ℕ) {w : List ℕ} → Spaces w → Gives End n st.EndName n (w ++ 62 ∷ r)
closing_end n r none = done End n st.EndName st.EndName 62 r refl
closing_end n r (more {b} {bs} p e) = on End n st.EndName st.EndGap b n (bs ++ 62 ∷ r) (endname_white b p) (run End n st.EndGap white endgap_white refl n (62 ∷ r) e (done End n st.EndGap st.EndGap 62 r refl))

-- what the grammar has is read, whatever follows it
pub complete : (k : TagKind) (n t r : List ℕ) → Tag k n t → read_tag (t ++ r) ≡ tag k n
complete k n t r (opens {al} {s} {c} (name {b} {bs} l f) x e d) =
    on k n st.Before st.Opened 60 [] (((b ∷ bs) ++ (al ++ (s ++ c))) ++ r) refl
    (on k n st.Opened st.Name b [] ((bs ++ (al ++ (s ++ c))) ++ r) (opened-letter b l)
    (simp append_assoc (run-name k n st.Name name-on refl (b ∷ []) (al ++ (s ++ (c ++ r))) f (attributes n r at_name x e d)))) 0
complete k n t r (ends {s} (name {b} {bs} l f) e) =
    on End n st.Before st.Opened 60 [] (47 ∷ (((b ∷ bs) ++ (s ++ 62 ∷ [])) ++ r)) refl
    (on End n st.Opened st.EndOpened 47 [] (((b ∷ bs) ++ (s ++ 62 ∷ [])) ++ r) refl
    (on End n st.EndOpened st.EndName b [] ((bs ++ (s ++ 62 ∷ [])) ++ r) (endopened_letter b l)
    (simp append_assoc (run-name End n st.EndName endname_on refl (b ∷ []) (s ++ 62 ∷ r) f (closing_end n r e))))) 0
