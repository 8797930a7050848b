-- What is seen of text and of a tag.
use Rattle.std.proofs.Common.{◌≡◌, ℕ, ◌+◌, Bool, true, List, ◌∷◌, ◌++◌, length, Ok, sym, refl, ap, ◌∙◌, add-zero, arith}
use Rattle.std.proofs.lemmas.Bool.{cond-false, not-true}
use Rattle.std.proofs.lemmas.Bool.Decides.{nat_tests}
use Rattle.tags.specs.declared.tag.TagKind.{TagKind}
use Rattle.tags.specs.Bytes.{letter, name_byte, white, mark}
use Rattle.tags.specs.Reads.{tag, read_tag}
use Rattle.grammar.specs.Grammar.{Each, none, more, value_byte, Spaces, Name, name, Value, double, single, Attribute, attribute, Attributes, no_more, and_one, Closer, plain, slashed, Tag, opens, ends}
use Rattle.grammar.proofs.Runs.{complete}
use Rattle.answers.specs.Own.{Seen}
use Rattle.answers.specs.Rule.{text_byte, Text}
use Rattle.answers.proofs.Seen.{seen_as, seen}

-- A tag has its mark, and no other.

each_append : (p : ℕ → Bool) {xs ys : List ℕ} → Each p xs → Each p ys → Each p (xs ++ ys)
each_append p none f = f
each_append p (more h e) f = more h (each_append p e f)

each_text : (p : ℕ → Bool) → ((b : ℕ) → p b ≡ true → text_byte b ≡ true) → {xs : List ℕ} → Each p xs → Text xs
each_text p go none = none
each_text p go (more {b} h e) = more (go b h) (each_text p go e)

letter-text : (b : ℕ) → letter b ≡ true → text_byte b ≡ true
letter-text b h = grind (arith, nat_tests)

name_byte-text : (b : ℕ) → name_byte b ≡ true → text_byte b ≡ true
name_byte-text b h = grind (arith, nat_tests)

white-text : (b : ℕ) → white b ≡ true → text_byte b ≡ true
white-text b h = grind (arith, nat_tests)

value_byte-text : (q b : ℕ) → value_byte q b ≡ true → text_byte b ≡ true
value_byte-text q b h = grind (arith, nat_tests)

infixr 20 ◌&◌
◌&◌ : {xs ys : List ℕ} → Text xs → Text ys → Text (xs ++ ys)
e & f = each_append text_byte e f

spaces_text : {s : List ℕ} → Spaces s → Text s
spaces_text e = each_text white white-text e

name-text : {n : List ℕ} → Name n → Text n
name-text (name {b} l f) = more (letter-text b l) (each_text name_byte name_byte-text f)

value-text : {v : List ℕ} → Value v → Text v
value-text (double e) = more refl (each_text (value_byte 34) (value_byte-text 34) e & more refl none)
value-text (single e) = more refl (each_text (value_byte 39) (value_byte-text 39) e & more refl none)

attribute-text : {a : List ℕ} → Attribute a → Text a
attribute-text (attribute {w} h e n e₁ e₂ v) = more (white-text w h) (spaces_text e & (name-text n & (spaces_text e₁ & more refl (spaces_text e₂ & value-text v))))

attributes_text : {al : List ℕ} → Attributes al → Text al
attributes_text no_more = none
attributes_text (and_one a al) = attribute-text a & attributes_text al

closer_text : {k : TagKind} {c : List ℕ} → Closer k c → Text c
closer_text plain = more refl none
closer_text slashed = more refl (more refl none)

abbrev Marked : List ℕ → Type 0
Marked t = (u : List ℕ) × (t ≡ 60 ∷ u) × Text u

pub tag-marked : {k : TagKind} {n t : List ℕ} → Tag k n t → Marked t
tag-marked (opens n al s c) = (_, refl, name-text n & (attributes_text al & (spaces_text s & closer_text c)))
tag-marked (ends n s) = (_, refl, more refl (name-text n & (spaces_text s & more refl none)))

-- What is seen of text, and of a tag.

pub seen-text : (at : ℕ) {t : List ℕ} (r : List ℕ) → Text t → seen at (t ++ r) ≡ seen (at + length t) r
seen-text at r none = ap (λ n. seen n r) (sym (add-zero at))
seen-text at r (more {b} {bs} h e) =
    let f : (at + 1) + length bs ≡ at + length (b ∷ bs) = omega arith in
    cond-false (mark b) _ _ (not-true (mark b) h) ∙ seen-text (at + 1) r e ∙ ap (λ n. seen n r) f

abbrev pub tag_at : ℕ → TagKind → List ℕ → Seen
tag_at at k n = (at, Ok (k, n))

seen-mark : (at : ℕ) (k : TagKind) (n u r : List ℕ) → Text u → read_tag (60 ∷ (u ++ r)) ≡ tag k n → seen at (60 ∷ (u ++ r)) ≡ tag_at at k n ∷ seen ((at + 1) + length u) r
seen-mark at k n u r e h = λ i. seen_as at (h i) ∷ seen-text (at + 1) r e i

pub seen-tag : (at : ℕ) (k : TagKind) (n t r : List ℕ) → Tag k n t → seen at (t ++ r) ≡ tag_at at k n ∷ seen (at + length t) r
seen-tag at k n t r T =
    let f = tag-marked T in
    let e = ap (λ l. l ++ r) f.1 in
    let to : (at + 1) + length f.0 ≡ at + length t = omega (arith, ap length f.1) in
    ap (seen at) e ∙ seen-mark at k n f.0 r f.2 (ap (read_tag) (sym e) ∙ complete k n t r T) ∙ ap (λ x. tag_at at k n ∷ seen x r) to
