-- One more piece in a plan.
use Rattle.std.proofs.Common.{◌≡◌, ℕ, suc, ◌+◌, ◌-◌, ◌*◌, List, [], ◌∷◌, ◌++◌, map, length, sym, refl, ap, ◌∙◌, append_assoc, arith, length-append}
use mathlib.Core.List.{map-append}
use Rattle.std.proofs.lemmas.List.{nil_from_length}
use Rattle.std.proofs.lemmas.Bool.Decides.{nat_tests}
use Rattle.runs.specs.declared.steps.Call.TheVariants.{Read, Join, Finish}
use Rattle.runs.specs.declared.steps.Step.{Step}
use Rattle.solving.specs.Plan.{reading, unanswered, piece_steps, plan_of}

-- the calls for the bytes from the first of these cuts on, and where that is
abbrev pub after : List ℕ → ℕ → List Step
after [] size = []
after (c ∷ cs) size = map unanswered (reading c cs size)

abbrev pub first : List ℕ → ℕ → ℕ
first [] size = size
first (c ∷ cs) size = c

length-reading : (start : ℕ) (cuts : List ℕ) (size : ℕ) → length (map unanswered (reading start cuts size)) ≡ suc (2 * length cuts)
length-reading start [] size = refl
length-reading start (c ∷ cs) size = simp (map-append, length-append) (let n = length-reading c cs size in omega arith)

pieces : (n start c : ℕ) → piece_steps (suc n) start c ≡ unanswered (Read start c) ∷ unanswered (Join (n + 1) n) ∷ []
pieces n start c = grind (arith, nat_tests)

-- what the loop has: the steps for the bytes from the first cut that was looked at, where `left` are still to come
pub record Planned (cuts : List ℕ) (size : ℕ) (left : List ℕ) (steps : List Step) (to : ℕ) : Type 0 where
  pub looked : List ℕ
  pub all : cuts ≡ left ++ looked
  pub made : steps ≡ after looked size
  pub here : to ≡ first looked size

pub one_more : {cuts : List ℕ} {size : ℕ} {left : List ℕ} {steps : List Step} {to : ℕ} (p : Planned cuts size left steps to) (start : ℕ) (more : List Step) →
    more ≡ steps ++ piece_steps (length steps) start to → more ≡ map unanswered (reading start p.looked size)
one_more {size = size} {steps = steps} {to = to} p start more e = e ∙ ap (λ t. steps ++ piece_steps (length steps) start t) p.here ∙ on p.looked p.made where
  on : (cs : List ℕ) → steps ≡ after cs size → steps ++ piece_steps (length steps) start (first cs size) ≡ map unanswered (reading start cs size)
  on [] made = ap (λ l. l ++ piece_steps (length l) start size) made
  on (c ∷ cs) made =
      let n = ap (length {A = Step}) made ∙ length-reading c cs size in
      ap (λ k. steps ++ piece_steps k start c) n ∙ ap (λ l. l ++ piece_steps (suc (2 * length cs)) start c) made ∙ ap (λ l. map unanswered (reading c cs size) ++ l) (pieces (2 * length cs) start c)
      ∙ sym (map-append unanswered (reading c cs size) (Read start c ∷ Join (2 * length cs + 1) (2 * length cs) ∷ []))

pub planned_more : {cuts : List ℕ} {size : ℕ} {left : List ℕ} {steps : List Step} {to : ℕ} → Planned cuts size left steps to → (cut : ℕ) (rest : List ℕ) (more : List Step) →
    left ≡ rest ++ (cut ∷ []) → more ≡ steps ++ piece_steps (length steps) cut to → Planned cuts size rest more cut
planned_more p cut rest more e f = record {
  looked = cut ∷ p.looked;
  all = p.all ∙ ap (λ l. l ++ p.looked) e ∙ append_assoc rest (cut ∷ []) p.looked;
  made = one_more p cut more f;
  here = refl;
}

pub planned_all : {cuts : List ℕ} {size : ℕ} {left : List ℕ} {steps : List Step} {to : ℕ} → Planned cuts size left steps to → (more whole : List Step) (piece : ℕ) →
    length left ≡ 0 → more ≡ steps ++ piece_steps (length steps) 0 to → piece ≡ length more - 1 → whole ≡ more ++ (unanswered (Finish piece) ∷ []) → whole ≡ plan_of cuts size
planned_all {cuts} {size} {left} p more whole piece none e f g =
    let same : cuts ≡ p.looked = p.all ∙ ap (λ l. l ++ p.looked) (nil_from_length left none) in
    let read = one_more p 0 more e in
    let n = ap (length {A = Step}) read ∙ length-reading 0 p.looked size in
    let last : piece ≡ 2 * length p.looked = omega arith in
    g ∙ ap (λ l. l ++ (unanswered (Finish piece) ∷ [])) read ∙ ap (λ k. map unanswered (reading 0 p.looked size) ++ (unanswered (Finish k) ∷ [])) last
    ∙ sym (map-append unanswered (reading 0 p.looked size) (Finish (2 * length p.looked) ∷ [])) ∙ ap (λ cs. plan_of cs size) (sym same)
