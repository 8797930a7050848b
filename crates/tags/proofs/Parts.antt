-- Parts of a file and their marks.
use Rattle.std.proofs.Common.{◌≡◌, ℕ, ◌+◌, ◌-◌, ◌≤◌, true, false, cond, List, [], ◌∷◌, ◌++◌, length, take, drop, sym, ap, ◌∙◌, add-zero, arith, drop-drop, take-add}
use Rattle.std.specs.List.{between}
use Rattle.std.proofs.lemmas.List.Edits.{length-between}
use Rattle.tags.specs.Bytes.{mark}
use Rattle.tags.specs.Marks.{marks, marks_of}

pub marks-append : (xs ys : List ℕ) (at : ℕ) → marks (xs ++ ys) at ≡ marks xs at ++ marks ys (at + length xs)
marks-append [] ys at = ap (marks ys) (sym (add-zero at))
marks-append (x ∷ xs) ys at =
    let e : (at + 1) + length xs ≡ at + length (x ∷ xs) = omega arith in
    let step = marks-append xs ys (at + 1) ∙ ap (λ n. marks xs (at + 1) ++ marks ys n) e in
    elim (mark x) as (λ t. cond t (at ∷ marks (xs ++ ys) (at + 1)) (marks (xs ++ ys) (at + 1)) ≡ cond t (at ∷ marks xs (at + 1)) (marks xs (at + 1)) ++ marks ys (at + length (x ∷ xs)))
    [ true ↦ ap (λ l. at ∷ l) step | false ↦ step ]

pub between-append : (file : List ℕ) (a i b : ℕ) → a ≤ i → i ≤ b → between a b file ≡ between a i file ++ between i b file
between-append file a i b h k =
    let e : b - a ≡ (i - a) + (b - i) = omega arith in
    let f : a + (i - a) ≡ i = omega arith in
    ap (λ n. take n (drop a file)) e ∙ take-add (i - a) (b - i) (drop a file)
    ∙ ap (λ l. between a i file ++ take (b - i) l) (drop-drop (i - a) a file ∙ ap (λ n. drop n file) f)

-- the marks of a part cut in two
pub marks-cut : (file : List ℕ) (from at to : ℕ) → from ≤ at → at ≤ to → at ≤ length file → marks_of file from to ≡ marks_of file from at ++ marks_of file at to
marks-cut file from at to h k l =
    ap (λ l. marks l from) (between-append file from at to h k)
    ∙ marks-append (between from at file) (between at to file) from
    ∙ ap (λ n. marks_of file from at ++ marks (between at to file) n) (let e = length-between file from at l in omega (arith, e))
