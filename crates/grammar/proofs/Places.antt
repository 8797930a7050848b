-- What stands before a fault of each cause.
use Rattle.std.proofs.Common.{◌≡◌, ℕ, suc, ◌+◌, Bool, true, false, cond, eqb, List, [], ◌∷◌, ◌++◌, take, sym, refl, ap, ◌∙◌, subst, inl, inr, append_assoc, append-nil, zero-add, arith}
use Rattle.std.proofs.lemmas.Bool.{cond_both}
use Rattle.tags.specs.declared.reader.State.{State}
use Rattle.tags.specs.declared.reader.State.TheVariants.{Before, Opened, Name, Gap, Attribute, AttributeGap, Equals, InDouble, InSingle, AfterValue, Slashed, EndOpened, EndName, EndGap}
use Rattle.tags.specs.declared.reader.Step.{Step}
use Rattle.tags.specs.declared.reader.Step.TheVariants.{On, Done, Bad}
use Rattle.tags.specs.declared.tag.Cause.{Cause}
use Rattle.tags.specs.Bytes.{letter, white, name_byte}
use Rattle.tags.specs.Steps.{next, in_name, cause_at_end}
use Rattle.tags.specs.Reads.{fault, reads, read_tag}
use Rattle.grammar.specs.Grammar as g
use Rattle.grammar.specs.Grammar.{Each, none, more, value_byte, Spaces, name, double, single, attribute, Attributes, no_more, and_one, Head, head, Upto, at_name, at_end_name, at_equal, at_open, at_close, at_mark, at_head, at_slash, at_end}
use Rattle.grammar.proofs.Runs.{goes}
use Rattle.grammar.proofs.Rests.{no_tag, same-cause, same_place, at_byte, value-byte}

each_snoc : (p : ℕ → Bool) {bs : List ℕ} (b : ℕ) → Each p bs → p b ≡ true → Each p (bs ++ b ∷ [])
each_snoc p b none h = more h none
each_snoc p b (more q e) h = more q (each_snoc p b e h)

name-snoc : {n : List ℕ} (b : ℕ) → g.Name n → name_byte b ≡ true → g.Name (n ++ b ∷ [])
name-snoc b (name l f) h = name l (each_snoc name_byte b f h)

attributes_snoc : {al a : List ℕ} → Attributes al → g.Attribute a → Attributes (al ++ a)
attributes_snoc {a = a} no_more x = subst Attributes (append-nil a) (and_one x no_more)
attributes_snoc {a = a} (and_one {a = a₁} {al = al₁} y ys) x = subst Attributes (sym (append_assoc a₁ al₁ a)) (and_one y (attributes_snoc ys x))

head-snoc : {h a : List ℕ} → Head h → g.Attribute a → Head (h ++ a)
head-snoc {a = a} (head {n} {al} m x) y = subst (λ l. Head (60 ∷ l)) (sym (append_assoc n al a)) (head m (attributes_snoc x y))

head-name : {n : List ℕ} → g.Name n → Head (60 ∷ n)
head-name {n} m = subst (λ l. Head (60 ∷ l)) (append-nil n) (head m no_more)

-- the front of an attribute: a head, a space and spaces, and its name
data Front (p : List ℕ) : Type 0 where
  front : (h s n : List ℕ) (w : ℕ) → p ≡ h ++ w ∷ (s ++ n) → Head h → white w ≡ true → Spaces s → g.Name n → Front p

data FrontGap (p : List ℕ) : Type 0 where
  front_gap : (h s n s₁ : List ℕ) (w : ℕ) → p ≡ h ++ w ∷ (s ++ (n ++ s₁)) → Head h → white w ≡ true → Spaces s → g.Name n → Spaces s₁ → FrontGap p

data FrontEqual (p : List ℕ) : Type 0 where
  front_equal : (h s n s₁ s₂ : List ℕ) (w : ℕ) → p ≡ h ++ w ∷ (s ++ (n ++ (s₁ ++ 61 ∷ s₂))) → Head h → white w ≡ true → Spaces s → g.Name n → Spaces s₁ → Spaces s₂ → FrontEqual p

data FrontQuote (q : ℕ) (p : List ℕ) : Type 0 where
  front_quote : (h s n s₁ s₂ v : List ℕ) (w : ℕ) → p ≡ h ++ w ∷ (s ++ (n ++ (s₁ ++ 61 ∷ (s₂ ++ q ∷ v)))) → Head h → white w ≡ true → Spaces s → g.Name n → Spaces s₁ → Spaces s₂ → Each (value_byte q) v → FrontQuote q p

data HeadGap (p : List ℕ) : Type 0 where
  head_gap : (h s : List ℕ) (w : ℕ) → p ≡ h ++ (w ∷ s) → Head h → white w ≡ true → Spaces s → HeadGap p

data HeadSlash (p : List ℕ) : Type 0 where
  head_slash : (h s : List ℕ) → p ≡ h ++ (s ++ 47 ∷ []) → Head h → Spaces s → HeadSlash p

data Named (p : List ℕ) : Type 0 where
  named : (n : List ℕ) → p ≡ 60 ∷ n → g.Name n → Named p

data EndNamed (p : List ℕ) : Type 0 where
  end_named : (n : List ℕ) → p ≡ 60 ∷ 47 ∷ n → g.Name n → EndNamed p

data EndSpaced (p : List ℕ) : Type 0 where
  end_spaced : (n s : List ℕ) → p ≡ 60 ∷ 47 ∷ (n ++ s) → g.Name n → Spaces s → EndSpaced p

abbrev Came : State → List ℕ → Type 0
Came Before p = p ≡ []
Came Opened p = p ≡ 60 ∷ []
Came Name p = Named p
Came Gap p = HeadGap p
Came Attribute p = Front p
Came AttributeGap p = FrontGap p
Came Equals p = FrontEqual p
Came InDouble p = FrontQuote 34 p
Came InSingle p = FrontQuote 39 p
Came AfterValue p = Head p
Came Slashed p = HeadSlash p
Came EndOpened p = p ≡ 60 ∷ 47 ∷ []
Came EndName p = EndNamed p
Came EndGap p = EndSpaced p

upto : (s : State) (p : List ℕ) → Came s p → Upto (cause_at_end s) p
upto Before p e = subst (Upto (cause_at_end Before)) (sym e) at_mark
upto Opened p e = subst (Upto (cause_at_end Opened)) (sym e) at_name
upto Name p (named n e m) = subst (Upto (cause_at_end Name)) (append-nil (60 ∷ n) ∙ sym e) (at_head (head-name m) none)
upto Gap p (head_gap h s w e d x y) = subst (Upto (cause_at_end Gap)) (sym e) (at_head d (more x y))
upto Attribute p (front h s n w e d x y m) = subst (Upto (cause_at_end Attribute)) (ap (λ l. h ++ w ∷ (s ++ l)) (append-nil n) ∙ sym e) (at_equal w d x y m none)
upto AttributeGap p (front_gap h s n s₁ w e d x y m z) = subst (Upto (cause_at_end AttributeGap)) (sym e) (at_equal w d x y m z)
upto Equals p (front_equal h s n s₁ s₂ w e d x y m z z₂) = subst (Upto (cause_at_end Equals)) (sym e) (at_open w d x y m z z₂)
upto InDouble p (front_quote h s n s₁ s₂ v w e d x y m z z₂ q) = subst (Upto (cause_at_end InDouble)) (sym e) (at_close w 34 d x y m z z₂ (inl refl) q)
upto InSingle p (front_quote h s n s₁ s₂ v w e d x y m z z₂ q) = subst (Upto (cause_at_end InSingle)) (sym e) (at_close w 39 d x y m z z₂ (inr refl) q)
upto AfterValue p d = subst (Upto (cause_at_end AfterValue)) (append-nil p) (at_head d none)
upto Slashed p (head_slash h s e d y) = subst (Upto (cause_at_end Slashed)) (sym e) (at_slash d y)
upto EndOpened p e = subst (Upto (cause_at_end EndOpened)) (sym e) at_end_name
upto EndName p (end_named n e m) = subst (Upto (cause_at_end EndName)) (ap (λ l. 60 ∷ 47 ∷ l) (append-nil n) ∙ sym e) (at_end m none)
upto EndGap p (end_spaced n s e m y) = subst (Upto (cause_at_end EndGap)) (sym e) (at_end m y)

snoc : {p q : List ℕ} (b : ℕ) → p ≡ q → p ++ b ∷ [] ≡ q ++ b ∷ []
snoc b e = ap (λ l. l ++ b ∷ []) e

g2 : (h s n : List ℕ) (w : ℕ) (e : List ℕ) → (h ++ w ∷ (s ++ n)) ++ e ≡ h ++ w ∷ (s ++ (n ++ e))
g2 h s n w e = simp append_assoc

g3 : (h s n s₁ : List ℕ) (w : ℕ) (e : List ℕ) → (h ++ w ∷ (s ++ (n ++ s₁))) ++ e ≡ h ++ w ∷ (s ++ (n ++ (s₁ ++ e)))
g3 h s n s₁ w e = simp append_assoc

g4 : (h s n s₁ s₂ : List ℕ) (w : ℕ) (e : List ℕ) → (h ++ w ∷ (s ++ (n ++ (s₁ ++ 61 ∷ s₂)))) ++ e ≡ h ++ w ∷ (s ++ (n ++ (s₁ ++ 61 ∷ (s₂ ++ e))))
g4 h s n s₁ s₂ w e = simp append_assoc

g5 : (q : ℕ) (h s n s₁ s₂ v : List ℕ) (w : ℕ) (e : List ℕ) → (h ++ w ∷ (s ++ (n ++ (s₁ ++ 61 ∷ (s₂ ++ q ∷ v))))) ++ e ≡ h ++ w ∷ (s ++ (n ++ (s₁ ++ 61 ∷ (s₂ ++ q ∷ (v ++ e)))))
g5 q h s n s₁ s₂ v w e = simp append_assoc

gap_on : (p : List ℕ) (b : ℕ) → white b ≡ true → HeadGap p → HeadGap (p ++ b ∷ [])
gap_on p b k (head_gap h s w e d x y) = head_gap h (s ++ b ∷ []) w (snoc b e ∙ append_assoc h (w ∷ s) (b ∷ [])) d x (each_snoc white b y k)

gap_slash : (p : List ℕ) → HeadGap p → HeadSlash (p ++ 47 ∷ [])
gap_slash p (head_gap h s w e d x y) = head_slash h (w ∷ s) (snoc 47 e ∙ append_assoc h (w ∷ s) (47 ∷ [])) d (more x y)

gap_letter : (p : List ℕ) (b : ℕ) → letter b ≡ true → HeadGap p → Front (p ++ b ∷ [])
gap_letter p b k (head_gap h s w e d x y) = front h s (b ∷ []) w (snoc b e ∙ append_assoc h (w ∷ s) (b ∷ [])) d x y (name k none)

front_name : (p : List ℕ) (b : ℕ) → name_byte b ≡ true → Front p → Front (p ++ b ∷ [])
front_name p b k (front h s n w e d x y m) = front h s (n ++ b ∷ []) w (snoc b e ∙ g2 h s n w (b ∷ [])) d x y (name-snoc b m k)

front_white : (p : List ℕ) (b : ℕ) → white b ≡ true → Front p → FrontGap (p ++ b ∷ [])
front_white p b k (front h s n w e d x y m) = front_gap h s n (b ∷ []) w (snoc b e ∙ g2 h s n w (b ∷ [])) d x y m (more k none)

front_eq : (p : List ℕ) → Front p → FrontEqual (p ++ 61 ∷ [])
front_eq p (front h s n w e d x y m) = front_equal h s n [] [] w (snoc 61 e ∙ g2 h s n w (61 ∷ [])) d x y m none none

frontgap_white : (p : List ℕ) (b : ℕ) → white b ≡ true → FrontGap p → FrontGap (p ++ b ∷ [])
frontgap_white p b k (front_gap h s n s₁ w e d x y m z) = front_gap h s n (s₁ ++ b ∷ []) w (snoc b e ∙ g3 h s n s₁ w (b ∷ [])) d x y m (each_snoc white b z k)

frontgap_eq : (p : List ℕ) → FrontGap p → FrontEqual (p ++ 61 ∷ [])
frontgap_eq p (front_gap h s n s₁ w e d x y m z) = front_equal h s n s₁ [] w (snoc 61 e ∙ g3 h s n s₁ w (61 ∷ [])) d x y m z none

equals_on : (p : List ℕ) (b : ℕ) → white b ≡ true → FrontEqual p → FrontEqual (p ++ b ∷ [])
equals_on p b k (front_equal h s n s₁ s₂ w e d x y m z z₂) = front_equal h s n s₁ (s₂ ++ b ∷ []) w (snoc b e ∙ g4 h s n s₁ s₂ w (b ∷ [])) d x y m z (each_snoc white b z₂ k)

equals_quote : (p : List ℕ) (q : ℕ) → FrontEqual p → FrontQuote q (p ++ q ∷ [])
equals_quote p q (front_equal h s n s₁ s₂ w e d x y m z z₂) = front_quote h s n s₁ s₂ [] w (snoc q e ∙ g4 h s n s₁ s₂ w (q ∷ [])) d x y m z z₂ none

quote_on : (q : ℕ) (p : List ℕ) (b : ℕ) → eqb b q ≡ false → eqb b 60 ≡ false → FrontQuote q p → FrontQuote q (p ++ b ∷ [])
quote_on q p b k j (front_quote h s n s₁ s₂ v w e d x y m z z₂ f) = front_quote h s n s₁ s₂ (v ++ b ∷ []) w (snoc b e ∙ g5 q h s n s₁ s₂ v w (b ∷ [])) d x y m z z₂ (each_snoc (value_byte q) b f (value-byte q b k j))

double-close : (p : List ℕ) → FrontQuote 34 p → Head (p ++ 34 ∷ [])
double-close p (front_quote h s n s₁ s₂ v w e d x y m z z₂ f) = subst Head (sym (snoc 34 e ∙ g5 34 h s n s₁ s₂ v w (34 ∷ []))) (head-snoc d (attribute x y m z z₂ (double f)))

single-close : (p : List ℕ) → FrontQuote 39 p → Head (p ++ 39 ∷ [])
single-close p (front_quote h s n s₁ s₂ v w e d x y m z z₂ f) = subst Head (sym (snoc 39 e ∙ g5 39 h s n s₁ s₂ v w (39 ∷ []))) (head-snoc d (attribute x y m z z₂ (single f)))

head-white : (p : List ℕ) (b : ℕ) → white b ≡ true → Head p → HeadGap (p ++ b ∷ [])
head-white p b k d = head_gap p [] b refl d k none

slash-head : (p : List ℕ) → Head p → HeadSlash (p ++ 47 ∷ [])
slash-head p d = head_slash p [] refl d none

named-head : (p : List ℕ) → Named p → Head p
named-head p (named n e m) = subst Head (sym e) (head-name m)

named-on : (p : List ℕ) (b : ℕ) → name_byte b ≡ true → Named p → Named (p ++ b ∷ [])
named-on p b k (named n e m) = named (n ++ b ∷ []) (snoc b e) (name-snoc b m k)

end_on : (p : List ℕ) (b : ℕ) → name_byte b ≡ true → EndNamed p → EndNamed (p ++ b ∷ [])
end_on p b k (end_named n e m) = end_named (n ++ b ∷ []) (snoc b e) (name-snoc b m k)

end_white : (p : List ℕ) (b : ℕ) → white b ≡ true → EndNamed p → EndSpaced (p ++ b ∷ [])
end_white p b k (end_named n e m) = end_spaced n (b ∷ []) (snoc b e) m (more k none)

endgap_on : (p : List ℕ) (b : ℕ) → white b ≡ true → EndSpaced p → EndSpaced (p ++ b ∷ [])
endgap_on p b k (end_spaced n s e m y) = end_spaced n (s ++ b ∷ []) (snoc b e ∙ ap (λ l. 60 ∷ 47 ∷ l) (append_assoc n s (b ∷ []))) m (each_snoc white b y k)

abbrev Forth : State → List ℕ → ℕ → State × Step → Type 0
Forth s p b w = elim w.1 [ On ↦ Came w.0 (p ++ b ∷ []) | Done k ↦ Unit {0} | Bad c ↦ c ≡ cause_at_end s ]

forth : (s : State) (p : List ℕ) (b : ℕ) → Came s p → Forth s p b (next s b)
forth Before p b r = cond_both (eqb b 60) _ _ (Forth Before p b) (λ h. at_byte b 60 (λ z. p ++ z ∷ [] ≡ 60 ∷ []) h (snoc 60 r)) (λ _. refl)
forth Opened p b r =
    cond_both (letter b) _ _ (Forth Opened p b) (λ h. named (b ∷ []) (snoc b r) (name h none))
    (λ _. cond_both (eqb b 47) _ _ (Forth Opened p b) (λ h. at_byte b 47 (λ z. p ++ z ∷ [] ≡ 60 ∷ 47 ∷ []) h (snoc 47 r)) (λ _. refl))
forth Name p b r =
    cond_both (name_byte b) _ _ (Forth Name p b) (λ h. named-on p b h r)
    (λ _. cond_both (white b) _ _ (Forth Name p b) (λ h. head-white p b h (named-head p r))
    (λ _. cond_both (eqb b 47) _ _ (Forth Name p b) (λ h. at_byte b 47 (λ z. HeadSlash (p ++ z ∷ [])) h (slash-head p (named-head p r)))
    (λ _. cond_both (eqb b 62) _ _ (Forth Name p b) (λ h. tt) (λ _. refl))))
forth Gap p b r =
    cond_both (letter b) _ _ (Forth Gap p b) (λ h. gap_letter p b h r)
    (λ _. cond_both (white b) _ _ (Forth Gap p b) (λ h. gap_on p b h r)
    (λ _. cond_both (eqb b 47) _ _ (Forth Gap p b) (λ h. at_byte b 47 (λ z. HeadSlash (p ++ z ∷ [])) h (gap_slash p r))
    (λ _. cond_both (eqb b 62) _ _ (Forth Gap p b) (λ h. tt) (λ _. refl))))
forth Attribute p b r =
    cond_both (name_byte b) _ _ (Forth Attribute p b) (λ h. front_name p b h r)
    (λ _. cond_both (white b) _ _ (Forth Attribute p b) (λ h. front_white p b h r)
    (λ _. cond_both (eqb b 61) _ _ (Forth Attribute p b) (λ h. at_byte b 61 (λ z. FrontEqual (p ++ z ∷ [])) h (front_eq p r)) (λ _. refl)))
forth AttributeGap p b r =
    cond_both (white b) _ _ (Forth AttributeGap p b) (λ h. frontgap_white p b h r)
    (λ _. cond_both (eqb b 61) _ _ (Forth AttributeGap p b) (λ h. at_byte b 61 (λ z. FrontEqual (p ++ z ∷ [])) h (frontgap_eq p r)) (λ _. refl))
forth Equals p b r =
    cond_both (white b) _ _ (Forth Equals p b) (λ h. equals_on p b h r)
    (λ _. cond_both (eqb b 34) _ _ (Forth Equals p b) (λ h. at_byte b 34 (λ z. FrontQuote 34 (p ++ z ∷ [])) h (equals_quote p 34 r))
    (λ _. cond_both (eqb b 39) _ _ (Forth Equals p b) (λ h. at_byte b 39 (λ z. FrontQuote 39 (p ++ z ∷ [])) h (equals_quote p 39 r)) (λ _. refl)))
forth InDouble p b r = cond_both (eqb b 34) _ _ (Forth InDouble p b) (λ h. at_byte b 34 (λ z. Head (p ++ z ∷ [])) h (double-close p r)) (λ h. cond_both (eqb b 60) _ _ (Forth InDouble p b) (λ _. refl) (λ i. quote_on 34 p b h i r))
forth InSingle p b r = cond_both (eqb b 39) _ _ (Forth InSingle p b) (λ h. at_byte b 39 (λ z. Head (p ++ z ∷ [])) h (single-close p r)) (λ h. cond_both (eqb b 60) _ _ (Forth InSingle p b) (λ _. refl) (λ i. quote_on 39 p b h i r))
forth AfterValue p b r =
    cond_both (white b) _ _ (Forth AfterValue p b) (λ h. head-white p b h r)
    (λ _. cond_both (eqb b 47) _ _ (Forth AfterValue p b) (λ h. at_byte b 47 (λ z. HeadSlash (p ++ z ∷ [])) h (slash-head p r))
    (λ _. cond_both (eqb b 62) _ _ (Forth AfterValue p b) (λ h. tt) (λ _. refl)))
forth Slashed p b r = cond_both (eqb b 62) _ _ (Forth Slashed p b) (λ h. tt) (λ _. refl)
forth EndOpened p b r = cond_both (letter b) _ _ (Forth EndOpened p b) (λ h. end_named (b ∷ []) (snoc b r) (name h none)) (λ _. refl)
forth EndName p b r =
    cond_both (name_byte b) _ _ (Forth EndName p b) (λ h. end_on p b h r)
    (λ _. cond_both (white b) _ _ (Forth EndName p b) (λ h. end_white p b h r)
    (λ _. cond_both (eqb b 62) _ _ (Forth EndName p b) (λ h. tt) (λ _. refl)))
forth EndGap p b r =
    cond_both (white b) _ _ (Forth EndGap p b) (λ h. endgap_on p b h r)
    (λ _. cond_both (eqb b 62) _ _ (Forth EndGap p b) (λ h. tt) (λ _. refl))

abbrev Placed : List ℕ → ℕ → List ℕ → Cause → ℕ → Type 0
Placed p at xs c i = (j : ℕ) × (i ≡ at + j) × Upto c (p ++ take j xs)

stop : (s : State) (p : List ℕ) (at : ℕ) (xs : List ℕ) (c d : Cause) (i : ℕ) → Came s p → c ≡ cause_at_end s → fault c at ≡ fault d i → Placed p at xs d i
stop s p at xs c d i r e h = (0, omega (arith, same_place h), subst (λ z. Upto z (p ++ [])) (sym e ∙ same-cause h) (subst (Upto (cause_at_end s)) (sym (append-nil p)) (upto s p r)))

after : (s : State) (p : List ℕ) (m : List ℕ) (b : ℕ) (xs : List ℕ) (at : ℕ) (c : Cause) (i : ℕ) (w : State × Step) → Came s p → Forth s p b w
    → ((s' : State) (m' : List ℕ) → Came s' (p ++ b ∷ []) → reads s' (at + 1) m' xs ≡ fault c i → Placed (p ++ b ∷ []) (at + 1) xs c i)
    → goes at m b xs w ≡ fault c i → Placed p at (b ∷ xs) c i
after s p m b xs at c i (s', On) r f next_one h =
    let g = next_one s' (cond (in_name s') (m ++ b ∷ []) m) f h in
    (suc g.0, omega (arith, g.1), subst (Upto c) (append_assoc p (b ∷ []) (take g.0 xs)) g.2)
after s p m b xs at c i (s', Done k) r f next_one h = absurd (no_tag k m c i (sym h))
after s p m b xs at c i (s', Bad d) r f next_one h = stop s p at (b ∷ xs) d c i r f h

found : (xs : List ℕ) (s : State) (p m : List ℕ) (at : ℕ) (c : Cause) (i : ℕ) → Came s p → reads s at m xs ≡ fault c i → Placed p at xs c i
found [] s p m at c i r h = stop s p at [] (cause_at_end s) c i r refl h
found (b ∷ xs) s p m at c i r h = after s p m b xs at c i (next s b) r (forth s p b r) (λ s' m' r' e. found xs s' (p ++ b ∷ []) m' (at + 1) c i r' e) h

-- what stands before a fault is as its cause says
pub causes : (c : Cause) (i : ℕ) (xs : List ℕ) → read_tag xs ≡ fault c i → Upto c (take i xs)
causes c i xs h =
    let f = found xs Before [] [] 0 c i refl h in
    let e : i ≡ f.0 = f.1 ∙ zero-add f.0 in
    subst (λ j. Upto c (take j xs)) (sym e) f.2
