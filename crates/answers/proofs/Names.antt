-- A row's name is the name that its tag showed.
use Rattle.std.proofs.Common.{◌≡◌, ℕ, ◌+◌, ◌-◌, List, [], ◌∷◌, ◌++◌, length, take, drop, Ok, sym, refl, ap, ◌∙◌, append_assoc, take-append-drop, drop-drop}
use lib.Seq.{take-append_seam, drop-append_seam}
use Rattle.tags.specs.declared.tag.TagKind.{TagKind}
use Rattle.tags.specs.Marks.{part}
use Rattle.tags.specs.Reads.{tag_at}
use Rattle.grammar.specs.Grammar.{Closer, plain, slashed, Tag, opens, ends}
use Rattle.grammar.proofs.Exactly.{told}
use Rattle.rows.specs.Pieces.{skip, name}
use Rattle.rows.specs.Stretches.{row_kind, row_of}

-- bytes that have a tag's name where its row says
pub record Shaped (k : TagKind) (n xs : List ℕ) : Type 0 where
  pub front : List ℕ
  pub rest : List ℕ
  pub skipped : length front ≡ skip (row_kind k)
  pub split : xs ≡ front ++ (n ++ rest)

closer_skip : {k : TagKind} {c : List ℕ} → Closer k c → 1 ≡ skip (row_kind k)
closer_skip plain = refl
closer_skip slashed = refl

tag-shaped : {k : TagKind} {n t : List ℕ} → Tag k n t → Shaped k n t
tag-shaped (opens {al} {s} {c} N As S C) = record {
  front = 60 ∷ [];
  rest = al ++ (s ++ c);
  skipped = closer_skip C;
  split = refl;
}
tag-shaped (ends {s} N S) = record {
  front = 60 ∷ 47 ∷ [];
  rest = s ++ 62 ∷ [];
  skipped = refl;
  split = refl;
}

shaped_more : {k : TagKind} {n xs : List ℕ} (ys : List ℕ) → Shaped k n xs → Shaped k n (xs ++ ys)
shaped_more {k} {n} {xs} ys w = record {
  front = w.front;
  rest = w.rest ++ ys;
  skipped = w.skipped;
  split = ap (λ l. l ++ ys) w.split ∙ append_assoc w.front (n ++ w.rest) ys ∙ ap (λ l. w.front ++ l) (append_assoc n w.rest ys);
}

module _ (file : List ℕ) (mark to : ℕ) (k : TagKind) (n : List ℕ) (h : tag_at file mark to ≡ Ok (k, n)) where
  -- the bytes from the mark on
  from-mark : Shaped k n (drop mark file)
  from-mark =
      let b = ((told (part file mark to) mark (tag_at file mark to) refl).tags k n).0 h in
      let after = drop (to - mark) (drop mark file) in
      let e : (b.0 ++ b.1) ++ after ≡ drop mark file = ap (λ l. l ++ after) (sym b.2) ∙ take-append-drop (to - mark) (drop mark file) in
      let s = shaped_more after (shaped_more b.1 (tag-shaped b.3)) in
      record { front = s.front; rest = s.rest; skipped = s.skipped; split = sym e ∙ s.split }

  pub row-name : name file (row_of mark k n) ≡ n
  row-name =
      let s = from-mark in
      let at : drop (mark + skip (row_kind k)) file ≡ n ++ s.rest =
      sym (drop-drop (skip (row_kind k)) mark file) ∙ ap (drop (skip (row_kind k))) s.split
      ∙ ap (λ i. drop i (s.front ++ (n ++ s.rest))) (sym s.skipped) ∙ drop-append_seam s.front (n ++ s.rest) in
      ap (take (length n)) at ∙ take-append_seam n s.rest
