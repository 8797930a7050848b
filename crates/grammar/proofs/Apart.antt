-- What may stand before a fault says its cause.
use Rattle.std.proofs.Common.{◌≡◌, ℕ, ◌+◌, Bool, true, cond, ◌⊎◌, List, [], ◌∷◌, ◌++◌, length, sym, refl, ap, ◌∙◌, subst, inl, inr, append_assoc, append-nil, add-zero, zero-add, arith}
use Rattle.tags.specs.declared.reader.State.{State}
use Rattle.tags.specs.declared.reader.State.TheVariants as st
use Rattle.tags.specs.declared.reader.Step.TheVariants.{On}
use Rattle.tags.specs.declared.tag.Cause.{Cause}
use Rattle.tags.specs.Bytes.{white, name_byte}
use Rattle.tags.specs.Steps.{next, in_name, cause_at_end}
use Rattle.tags.specs.Reads.{fault, reads, read_tag}
use Rattle.grammar.specs.Grammar.{Each, none, more, value_byte, Spaces, Name, name, Value, double, single, Attribute, attribute, Attributes, no_more, and_one, Head, head, Upto, at_name, at_end_name, at_equal, at_open, at_close, at_mark, at_head, at_slash, at_end}
use Rattle.grammar.proofs.Runs.{goes, Opening, at_gap, at_value, white-on, slash-on, attr_name, attr_white, attrgap_white, equals_white, double-on, single-on, name-on, endname_on, endname_white, endgap_white, gap_letter, opened-letter, endopened_letter}
use Rattle.grammar.proofs.Runs as runs
use Rattle.grammar.proofs.Rests.{regroup}

module _ (c : Cause) where
  -- from the state s, xs ends in a fault of the cause c
  abbrev Stops : State → List ℕ → Type 0
  Stops s xs = (at : ℕ) (m : List ℕ) → reads s at m xs ≡ fault c (at + length xs)

  on : (s s' : State) (b : ℕ) (xs : List ℕ) → next s b ≡ (s', On) → Stops s' xs → Stops s (b ∷ xs)
  on s s' b xs e h = λ at m. ap (goes at m b xs) e ∙ h (at + 1) (cond (in_name s') (m ++ b ∷ []) m) ∙ ap (fault c) (omega arith)

  stop : (s : State) → cause_at_end s ≡ c → Stops s []
  stop s e = λ at m. ap (λ d. fault d at) e ∙ ap (fault c) (sym (add-zero at))

  run : (s : State) (p : ℕ → Bool) → ((b : ℕ) → p b ≡ true → next s b ≡ (s, On)) → (r : List ℕ) {w : List ℕ} → Each p w → Stops s r → Stops s (w ++ r)
  run s p go r none h = h
  run s p go r (more {b} {bs} t e) h = on s s b (bs ++ r) (go b t) (run s p go r e h)

  -- after a head: what stops from every state that a head may end in
  abbrev Next : List ℕ → Type 0
  Next r = (s : State) → Opening s → Stops s r

  spaces : (r : List ℕ) {w : List ℕ} → Spaces w → Next r → Next (w ++ r)
  spaces r none h s o = h s o
  spaces r (more {b} {bs} t e) h s o = on s st.Gap b (bs ++ r) (white-on o b t) (run st.Gap white (white-on at_gap) r e (h st.Gap at_gap))

  equal : (r : List ℕ) {w : List ℕ} → Spaces w → Stops st.Equals r → Stops st.Attribute (w ++ 61 ∷ r)
  equal r none h = on st.Attribute st.Equals 61 r refl h
  equal r (more {b} {bs} p e) h = on st.Attribute st.AttributeGap b (bs ++ 61 ∷ r) (attr_white b p) (run st.AttributeGap white attrgap_white (61 ∷ r) e (on st.AttributeGap st.Equals 61 r refl h))

  value : (r : List ℕ) {v : List ℕ} → Value v → Stops st.AfterValue r → Stops st.Equals (v ++ r)
  value r (double {v} e) h = on st.Equals st.InDouble 34 ((v ++ 34 ∷ []) ++ r) refl (rw append_assoc (run st.InDouble (value_byte 34) double-on (34 ∷ r) e (on st.InDouble st.AfterValue 34 r refl h)))
  value r (single {v} e) h = on st.Equals st.InSingle 39 ((v ++ 39 ∷ []) ++ r) refl (rw append_assoc (run st.InSingle (value_byte 39) single-on (39 ∷ r) e (on st.InSingle st.AfterValue 39 r refl h)))

  -- a space, spaces and an attribute's name
  named : (r : List ℕ) (w : ℕ) {s₀ n : List ℕ} → white w ≡ true → Spaces s₀ → Name n → Stops st.Attribute r → Next (w ∷ (s₀ ++ (n ++ r)))
  named r w {s₀} h e (name {b} {bs} l f) g s o =
      on s st.Gap w (s₀ ++ (b ∷ (bs ++ r))) (white-on o w h) (run st.Gap white (white-on at_gap) (b ∷ (bs ++ r)) e
      (on st.Gap st.Attribute b (bs ++ r) (gap_letter b l) (run st.Attribute name_byte attr_name r f g)))

  one-attribute : (r : List ℕ) {a : List ℕ} → Attribute a → Stops st.AfterValue r → Next (a ++ r)
  one-attribute r (attribute {w} {s = s₀} {n} {s₁} {s₂} {v} h e m e₁ e₂ q) g =
      subst Next (sym (regroup w s₀ n s₁ s₂ v r)) (named (s₁ ++ 61 ∷ (s₂ ++ (v ++ r))) w h e m (equal (s₂ ++ (v ++ r)) e₁ (run st.Equals white equals_white (v ++ r) e₂ (value r q g))))

  attributes : (r : List ℕ) {al : List ℕ} → Attributes al → Next r → Next (al ++ r)
  attributes r no_more h = h
  attributes r (and_one {a} {al = al₁} x xs) h = subst Next (sym (append_assoc a al₁ r)) (one-attribute (al₁ ++ r) x (attributes r xs h st.AfterValue at_value))

  whole : (r : List ℕ) {h : List ℕ} → Head h → Next r → Stops st.Before (h ++ r)
  whole r (head {al} (name {b} {bs} l f) x) g =
      on st.Before st.Opened 60 (((b ∷ bs) ++ al) ++ r) refl (on st.Opened st.Name b ((bs ++ al) ++ r) (opened-letter b l)
      (subst (Stops st.Name) (sym (append_assoc bs al r)) (run st.Name name_byte name-on (al ++ r) f (attributes r x g st.Name runs.at_name))))

  ended : {n s : List ℕ} → cause_at_end st.EndName ≡ c → Name n → Spaces s → Stops st.Before (60 ∷ 47 ∷ (n ++ s))
  ended {s = s} q (name {b} {bs} l f) e =
      on st.Before st.Opened 60 (47 ∷ b ∷ (bs ++ s)) refl (on st.Opened st.EndOpened 47 (b ∷ (bs ++ s)) refl (on st.EndOpened st.EndName b (bs ++ s) (endopened_letter b l)
      (run st.EndName name_byte endname_on s f (end-spaces e))))
    where
      end-spaces : {w : List ℕ} → Spaces w → Stops st.EndName w
      end-spaces none = stop st.EndName q
      end-spaces (more {b} {bs} p e) = on st.EndName st.EndGap b bs (endname_white b p) (subst (Stops st.EndGap) (append-nil bs) (run st.EndGap white endgap_white [] e (stop st.EndGap q)))

at_end_of : (c : Cause) (p : List ℕ) → Stops c st.Before p → reads st.Before 0 [] p ≡ fault c (length p)
at_end_of c p h = h 0 [] ∙ ap (fault c) (zero-add (length p))

-- spaces after an attribute's name
name-spaces : (c : Cause) {w : List ℕ} → cause_at_end st.Attribute ≡ c → Spaces w → Stops c st.Attribute w
name-spaces c q none = stop c st.Attribute q
name-spaces c q (more {b} {bs} p e) = on c st.Attribute st.AttributeGap b bs (attr_white b p) (subst (Stops c st.AttributeGap) (append-nil bs) (run c st.AttributeGap white attrgap_white [] e (stop c st.AttributeGap q)))

head-spaces : (c : Cause) → (s : State) → Opening s → cause_at_end st.Gap ≡ c → Stops c s []
head-spaces c s runs.at_name q = stop c st.Name q
head-spaces c s at_gap q = stop c st.Gap q
head-spaces c s at_value q = stop c st.AfterValue q

quoted : (c : Cause) (q : ℕ) {v : List ℕ} → (q ≡ 34) ⊎ (q ≡ 39) → cause_at_end st.InDouble ≡ c → Each (value_byte q) v → Stops c st.Equals (q ∷ v)
quoted c q {v} (inl e) a f =
    subst (λ z. Stops c st.Equals (z ∷ v)) (sym e) (on c st.Equals st.InDouble 34 v refl (subst (Stops c st.InDouble) (append-nil v)
    (run c st.InDouble (value_byte 34) double-on [] (subst (λ z. Each (value_byte z) v) e f) (stop c st.InDouble a))))
quoted c q {v} (inr e) a f =
    subst (λ z. Stops c st.Equals (z ∷ v)) (sym e) (on c st.Equals st.InSingle 39 v refl (subst (Stops c st.InSingle) (append-nil v)
    (run c st.InSingle (value_byte 39) single-on [] (subst (λ z. Each (value_byte z) v) e f) (stop c st.InSingle a))))

ends : (c : Cause) (p : List ℕ) → Upto c p → Stops c st.Before p
ends c p at_name = on c st.Before st.Opened 60 [] refl (stop c st.Opened refl)
ends c p at_end_name = on c st.Before st.Opened 60 (47 ∷ []) refl (on c st.Opened st.EndOpened 47 [] refl (stop c st.EndOpened refl))
ends c p (at_equal {s} {n} {s₁} w d x y m z) = whole c (w ∷ (s ++ (n ++ s₁))) d (named c s₁ w x y m (name-spaces c refl z))
ends c p (at_open {s} {n} {s₁} {s₂} w d x y m z z₂) =
    whole c (w ∷ (s ++ (n ++ (s₁ ++ 61 ∷ s₂)))) d (named c (s₁ ++ 61 ∷ s₂) w x y m (equal c s₂ z (subst (Stops c st.Equals) (append-nil s₂) (run c st.Equals white equals_white [] z₂ (stop c st.Equals refl)))))
ends c p (at_close {s} {n} {s₁} {s₂} {v} w q d x y m z z₂ k f) =
    whole c (w ∷ (s ++ (n ++ (s₁ ++ 61 ∷ (s₂ ++ q ∷ v))))) d (named c (s₁ ++ 61 ∷ (s₂ ++ q ∷ v)) w x y m (equal c (s₂ ++ q ∷ v) z (run c st.Equals white equals_white (q ∷ v) z₂ (quoted c q k refl f))))
ends c p at_mark = stop c st.Before refl
ends c p (at_head {h} {s} d y) = subst (λ l. Stops c st.Before (h ++ l)) (append-nil s) (whole c (s ++ []) d (spaces c [] y (λ t o. head-spaces c t o refl)))
ends c p (at_slash {s} d y) = whole c (s ++ 47 ∷ []) d (spaces c (47 ∷ []) y (λ t o. on c t st.Slashed 47 [] (slash-on o) (stop c st.Slashed refl)))
ends c p (at_end m y) = ended c refl m y

-- what stands before a fault says its cause
pub exact : (c : Cause) (p : List ℕ) → Upto c p → read_tag p ≡ fault c (length p)
exact c p u = at_end_of c p (ends c p u)
