-- The marks, stretches and contents of a part that is cut.
use Rattle.std.proofs.Common.{◌≡◌, ℕ, ◌≤◌, List, [], ◌∷◌, ◌++◌, length, sym, refl, ap, ◌∙◌, append_assoc, append-nil, arith, length-append}
use Rattle.std.specs.List.{between}
use Rattle.std.proofs.lemmas.Slice.{between_to_end}
use Rattle.std.proofs.lemmas.Bool.Decides.{nat_tests}
use Rattle.tags.specs.Marks.{marks, marks_of, last_or, ends, scanned}
use Rattle.tags.proofs.Parts.{marks-cut}
use Rattle.machine.specs.Model.{Model}
use Rattle.rows.specs.Pieces.{Content, put}
use Rattle.rows.specs.Stretches.{pairs, one, eval, content, joined_ends, joined_at, last_put}
use Rattle.answers.specs.Own.{file_stretches}
use Rattle.answers.specs.Laws.{between_marks, Stretched, Join, Cut, piece, two, AnyCut}
use Rattle.answers.proofs.Joins.{Assoc, joins, eval-push}

-- Marks and stretches.

pairs-append : (xs ys : List ℕ) → pairs (xs ++ ys) ≡ pairs xs ++ (between_marks xs ys ++ pairs ys)
pairs-append [] ys = refl
pairs-append (x ∷ []) [] = refl
pairs-append (x ∷ []) (y ∷ ys) = refl
pairs-append (x ∷ z ∷ xs) [] = ap (λ l. (x, z) ∷ l) (pairs-append (z ∷ xs) [])
pairs-append (x ∷ z ∷ xs) (y ∷ ys) = ap (λ l. (x, z) ∷ l) (pairs-append (z ∷ xs) (y ∷ ys))

pub stretched : Stretched
stretched file a i b h k l = ap pairs (marks-cut file a i b h k (omega arith)) ∙ pairs-append (marks_of file a i) (marks_of file i b)

last_or-append : (d : ℕ) (ks : List ℕ) (l : ℕ) (ls : List ℕ) → last_or d (ks ++ l ∷ ls) ≡ last_or l ls
last_or-append d [] l ls = refl
last_or-append d (k ∷ ks) l ls = last_or-append k ks l ls

ends-append : (i b : ℕ) (ks ls : List ℕ) → ends b (ks ++ ls) ≡ joined_ends (ends i ks) (ends b ls)
ends-append i b [] ls = refl
ends-append i b (k ∷ ks) [] = grind (arith, nat_tests, append-nil ks, length-append (k ∷ ks) [])
ends-append i b (k ∷ ks) (l ∷ ls) = grind (arith, nat_tests, last_or-append k ks l ls, length-append (k ∷ ks) (l ∷ ls))

-- Contents.

module _ {A P : Type 0} (m : Model A P) (file : List ℕ) where
  abbrev of-marks : List ℕ → Content A
  of-marks ms = eval file m (pairs ms)

  of-append : Assoc m → (i b : ℕ) (ks ls : List ℕ) → of-marks (ks ++ ls) ≡ joined_at file m (ends i ks) (ends b ls) (of-marks ks) (of-marks ls)
  of-append assoc i b [] ls = refl
  of-append assoc i b (k ∷ ks) [] =
      let same : joined_at file m (ends i (k ∷ ks)) (ends b []) (of-marks (k ∷ ks)) (of-marks []) ≡ of-marks (k ∷ ks) = grind (arith, nat_tests) in
      ap of-marks (append-nil (k ∷ ks)) ∙ sym same
  of-append assoc i b (k ∷ ks) (l ∷ ls) =
      let s : ℕ × ℕ = (last_or k ks, l) in
      let xs = pairs (k ∷ ks) in
      let ys = pairs (l ∷ ls) in
      let x = of-marks (k ∷ ks) in
      let y = of-marks (l ∷ ls) in
      let e : pairs ((k ∷ ks) ++ (l ∷ ls)) ≡ (xs ++ s ∷ []) ++ ys = pairs-append (k ∷ ks) (l ∷ ls) ∙ sym (append_assoc xs (s ∷ []) ys) in
      let both : of-marks ((k ∷ ks) ++ (l ∷ ls)) ≡ put file m (put file m x (one file m s)) y =
      ap (eval file m) e ∙ sym (joins file m assoc (xs ++ s ∷ []) ys) ∙ ap (λ c. put file m c y) (eval-push file m xs s) in
      both ∙ grind (arith, nat_tests)

  of-last : (n : ℕ) (ks : List ℕ) → of-marks (ks ++ length file ∷ []) ≡ last_put file m (ends n ks) (of-marks ks)
  of-last n [] = refl
  of-last n (k ∷ ks) =
      ap (eval file m) (pairs-append (k ∷ ks) (length file ∷ []))
      ∙ eval-push file m (pairs (k ∷ ks)) (last_or k ks, length file)
      ∙ grind (arith, nat_tests)

pub join : {A P : Type 0} (m : Model A P) → Assoc m → Join m
join m assoc file a i b h k l = record {
  marks = ap (ends b) (marks-cut file a i b h k (omega arith)) ∙ ends-append i b (marks_of file a i) (marks_of file i b);
  contents = ap (of-marks m file) (marks-cut file a i b h k (omega arith)) ∙ of-append m file assoc i b (marks_of file a i) (marks_of file i b);
}

all_bytes : (file : List ℕ) → between 0 (length file) file ≡ file
all_bytes file = between_to_end file 0 (length file) (omega arith)

-- the stretches of the whole file, put together
pub last_stretch : {A P : Type 0} (m : Model A P) (file : List ℕ) → eval file m (file_stretches file) ≡ last_put file m (scanned file 0 (length file)) (content file m 0 (length file))
last_stretch m file =
    ap (λ l. eval file m (pairs (marks l 0 ++ length file ∷ []))) (sym (all_bytes file)) ∙ of-last m file (length file) (marks_of file 0 (length file))

cut_order : {a b : ℕ} → Cut a b → a ≤ b
cut_order (piece a b h) = h
cut_order (two a i b s t) = let h = cut_order s in let k = cut_order t in omega arith

pub any-cut : {A P : Type 0} (m : Model A P) → Assoc m → AnyCut m
any-cut m assoc file a b (piece _ _ h) l = record { marks = refl; contents = refl }
any-cut m assoc file a b (two _ i _ s t) l =
    let h = cut_order s in
    let k = cut_order t in
    let x = any-cut m assoc file a i s (omega arith) in
    let y = any-cut m assoc file i b t l in
    let j = join m assoc file a i b h k l in
    record {
      marks = (λ z. joined_ends (x.marks z) (y.marks z)) ∙ sym j.marks;
      contents = (λ z. joined_at file m (x.marks z) (y.marks z) (x.contents z) (y.contents z)) ∙ sym j.contents;
    }
