-- A file's tags, each read on from its mark.
use Rattle.std.proofs.Common.{◌≡◌, ℕ, ◌+◌, ◌-◌, Bool, true, false, cond, List, [], ◌∷◌, ◌++◌, map, length, take, drop, sym, refl, ap, ◌∙◌, add-zero, arith, drop-drop}
use Rattle.std.specs.List.{between}
use Rattle.std.proofs.lemmas.Bool.{cond_both, eqb-true}
use Rattle.tags.specs.Bytes.{mark}
use Rattle.tags.specs.Marks.{marks, first_or}
use Rattle.tags.specs.Reads.{Outcome, read_tag, placed}
use Rattle.rows.specs.Stretches.{pairs}
use Rattle.answers.specs.Own.{Seen, seen_at, file_tags}
use Rattle.answers.specs.Rule.{AtMark, at_end, at_mark}
use Rattle.answers.proofs.Past.{past}

abbrev pub seen_as : ℕ → Outcome → Seen
seen_as at o = (at, placed at o)

-- what is read at each mark, on to the end of the file
abbrev pub seen : ℕ → List ℕ → List Seen
seen at [] = []
seen at (b ∷ bs) = cond (mark b) (seen_as at (read_tag (60 ∷ bs)) ∷ seen (at + 1) bs) (seen (at + 1) bs)

-- the bytes before the first mark
abbrev front : List ℕ → List ℕ
front [] = []
front (b ∷ bs) = cond (mark b) [] (b ∷ front bs)

abbrev Splits : List ℕ → List ℕ → Type 0
Splits bs l = (r : List ℕ) × (bs ≡ l ++ r) × AtMark r

splits : (bs : List ℕ) → Splits bs (front bs)
splits [] = ([], refl, at_end)
splits (b ∷ bs) =
    cond_both (mark b) [] (b ∷ front bs) (Splits (b ∷ bs)) (λ h. (60 ∷ bs, ap (λ z. z ∷ bs) (eqb-true b 60 h), at_mark bs))
    (λ h. let s = splits bs in (s.0, ap (λ l. b ∷ l) s.1, s.2))

read_front : (bs : List ℕ) → read_tag (60 ∷ front bs) ≡ read_tag (60 ∷ bs)
read_front bs = let s = splits bs in sym (past (front bs) s.0 s.2) ∙ ap (λ l. read_tag (60 ∷ l)) (sym s.1)

next-mark : (bs : List ℕ) (at : ℕ) → first_or (at + length bs) (marks bs at) ≡ at + length (front bs)
next-mark [] at = refl
next-mark (b ∷ bs) at =
    let e : at + length (b ∷ bs) ≡ (at + 1) + length bs = omega arith in
    let f : (at + 1) + length (front bs) ≡ at + length (b ∷ front bs) = omega arith in
    elim (mark b) as (λ t. first_or (at + length (b ∷ bs)) (cond t (at ∷ marks bs (at + 1)) (marks bs (at + 1))) ≡ at + length (cond t [] (b ∷ front bs)))
    [ true ↦ sym (add-zero at) | false ↦ ap (λ n. first_or n (marks bs (at + 1))) e ∙ next-mark bs (at + 1) ∙ f ]

take-front : (bs : List ℕ) → take (length (front bs)) bs ≡ front bs
take-front [] = refl
take-front (b ∷ bs) = elim (mark b) as (λ t. take (length (cond t [] (b ∷ front bs))) (b ∷ bs) ≡ cond t [] (b ∷ front bs)) [ true ↦ refl | false ↦ ap (λ l. b ∷ l) (take-front bs) ]

pairs_first : (x : ℕ) (ms : List ℕ) (e : ℕ) → pairs (x ∷ (ms ++ e ∷ [])) ≡ (x, first_or e ms) ∷ pairs (ms ++ e ∷ [])
pairs_first x [] e = refl
pairs_first x (m ∷ ms) e = refl

-- the bytes from a mark to the next
to_next : (file bs : List ℕ) (b at : ℕ) → drop at file ≡ b ∷ bs → at + length (b ∷ bs) ≡ length file → between at (first_or (length file) (marks bs (at + 1))) file ≡ b ∷ front bs
to_next file bs b at h n =
    let e : (at + 1) + length bs ≡ length file = omega arith in
    let f : first_or (length file) (marks bs (at + 1)) ≡ (at + 1) + length (front bs) = ap (λ k. first_or k (marks bs (at + 1))) (sym e) ∙ next-mark bs (at + 1) in
    let g : first_or (length file) (marks bs (at + 1)) - at ≡ length (b ∷ front bs) = omega (arith, f) in
    ap (λ k. take k (drop at file)) g ∙ ap (take (length (b ∷ front bs))) h ∙ ap (λ l. b ∷ l) (take-front bs)

module _ (file : List ℕ) where
  abbrev of-marks : List ℕ → List Seen
  of-marks ms = map (seen_at file) (pairs (ms ++ length file ∷ []))

  one_byte : (b : ℕ) (bs : List ℕ) (at : ℕ) → drop at file ≡ b ∷ bs → at + length (b ∷ bs) ≡ length file → of-marks (marks bs (at + 1)) ≡ seen (at + 1) bs →
      (t : Bool) → mark b ≡ t → of-marks (cond t (at ∷ marks bs (at + 1)) (marks bs (at + 1))) ≡ cond t (seen_as at (read_tag (60 ∷ bs)) ∷ seen (at + 1) bs) (seen (at + 1) bs)
  one_byte b bs at h n later true e =
      let here : seen_at file (at, first_or (length file) (marks bs (at + 1))) ≡ seen_as at (read_tag (60 ∷ bs)) =
      ap (λ l. seen_as at (read_tag l)) (to_next file bs b at h n ∙ ap (λ z. z ∷ front bs) (eqb-true b 60 e)) ∙ ap (seen_as at) (read_front bs) in
      ap (map (seen_at file)) (pairs_first at (marks bs (at + 1)) (length file)) ∙ (λ i. here i ∷ later i)
  one_byte b bs at h n later false e = later

  all_seen : (xs : List ℕ) (at : ℕ) → drop at file ≡ xs → at + length xs ≡ length file → of-marks (marks xs at) ≡ seen at xs
  all_seen [] at h n = refl
  all_seen (b ∷ bs) at h n = one_byte b bs at h n (all_seen bs (at + 1) (sym (drop-drop 1 at file) ∙ ap (drop 1) h) (omega arith)) (mark b) refl

pub file_seen : (file : List ℕ) → file_tags file ≡ seen 0 file
file_seen file = all_seen file file 0 refl (omega arith)
