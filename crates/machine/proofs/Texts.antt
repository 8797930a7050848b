-- Texts of queries, written out.
use Rattle.std.proofs.Common.{◌≡◌, ℕ, List, [], ◌∷◌, ◌++◌, fold, sym, refl, ap, ◌∙◌, append_assoc, append-nil}
use Rattle.machine.specs.Queries.{QueryStep, Query}
use Rattle.machine.specs.Text.{axis_text, test_text, query_text, lines_text}

pub folded_append : {A B : Type 0} (f : B → A → B) (a : B) (xs ys : List A) → fold f a (xs ++ ys) ≡ fold f (fold f a xs) ys
folded_append f a [] ys = refl
folded_append f a (x ∷ xs) ys = folded_append f (f a x) xs ys

-- the lines, each with its end
abbrev pub closed_text : List Query → List ℕ
closed_text [] = []
closed_text (q ∷ qs) = query_text q ++ 10 ∷ closed_text qs

pub closed_is : (q : Query) (qs : List Query) → closed_text (q ∷ qs) ≡ lines_text (q ∷ qs) ++ 10 ∷ []
closed_is q [] = refl
closed_is q (r ∷ qs) = ap (λ x. query_text q ++ 10 ∷ x) (closed_is r qs) ∙ sym (append_assoc (query_text q) (10 ∷ lines_text (r ∷ qs)) (10 ∷ []))

pub closed_push : (qs : List Query) (q : Query) → closed_text (qs ++ q ∷ []) ≡ closed_text qs ++ (query_text q ++ 10 ∷ [])
closed_push [] q = refl
closed_push (r ∷ qs) q = ap (λ x. query_text r ++ 10 ∷ x) (closed_push qs q) ∙ sym (append_assoc (query_text r) (10 ∷ closed_text qs) (query_text q ++ 10 ∷ []))

pub query_push : (q : Query) (s : QueryStep) → query_text (q ++ s ∷ []) ≡ query_text q ++ (axis_text s.deep ++ test_text s.test)
query_push [] s = ap (λ x. axis_text s.deep ++ x) (append-nil (test_text s.test))
query_push (r ∷ q) s =
    let a = axis_text r.deep in
    let t = test_text r.test in
    let w = axis_text s.deep ++ test_text s.test in
    ap (λ x. a ++ (t ++ x)) (query_push q s)
    ∙ ap (λ x. a ++ x) (sym (append_assoc t (query_text q) w))
    ∙ sym (append_assoc a (t ++ query_text q) w)
