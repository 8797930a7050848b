-- One state's columns, one by one.
use Rattle.std.proofs.Common.{◌≡◌, ℕ, ◌+◌, ◌-◌, ◌*◌, ◌<◌, ◌≤◌, List, length, get_or, set, sym, ap, ◌∙◌, subst, arith}
use Rattle.std.proofs.lemmas.List.{length-take-le, get_or-take}
use Rattle.table.specs.declared.found.Found.{Found}
use Rattle.table.specs.Closure.{place, added, tried}
use Rattle.table.specs.Filling.{Filled, seen}
use Rattle.table.proofs.Places.{place-added, place-added_lt}
use Rattle.table.proofs.Fills.{filled_added, filled_more, filled_row, tried-more, tried-all, tried-grows, added-keeps, added-grows}

pub length_seen : (f : Found) → length (seen f) ≡ f.count
unfolding seen
length_seen f = length-take-le f.count f.sets (omega (arith, f.size, f.within))

pub get_or-seen : (f : Found) (i : ℕ) → i < f.count → get_or (seen f) i 0 ≡ get_or f.sets i 0
unfolding seen
get_or-seen f i h = get_or-take f.count f.sets i 0 h

pub record Trying (f : ℕ → ℕ → ℕ) (cols i s : ℕ) (start : List ℕ) (c : ℕ) (sets table : List ℕ) : Type 0 where
  pub going : tried f s c (cols - c) sets ≡ tried f s 0 cols start
  pub filled : Filled f cols (i * 16 + c) sets table
  pub state : i < length sets
  pub same : get_or sets i 0 ≡ s

pub trying_none : (f : ℕ → ℕ → ℕ) (cols i s : ℕ) (sets table : List ℕ) → Filled f cols (i * 16) sets table → i < length sets → get_or sets i 0 ≡ s → Trying f cols i s sets 0 sets table
trying_none f cols i s sets table h l e = record {
  going = let z : cols - 0 ≡ cols = omega arith in ap (λ k. tried f s 0 k sets) z;
  filled = let z : i * 16 ≡ i * 16 + 0 = omega arith in subst (λ k. Filled f cols k sets table) z h;
  state = l;
  same = e;
}

pub trying_more : (f : ℕ → ℕ → ℕ) (cols i s : ℕ) (start : List ℕ) (c : ℕ) (sets table : List ℕ) (x at : ℕ) (sets' : List ℕ) → c < cols → cols ≤ 16 → i < 32
    → x ≡ f s c → at ≡ place x sets → sets' ≡ added sets x → Trying f cols i s start c sets table → Trying f cols i s start (c + 1) sets' (set table (i * 16 + c) at)
trying_more f cols i s start c sets table x at sets' l w il xe ae se t =
    let new = added sets x in
    let here : get_or new i 0 ≡ s = added-keeps sets x i t.state ∙ t.same in
    let pl : at ≡ place (f (get_or new i 0) c) new = ae ∙ sym (place-added x sets) ∙ ap (λ y. place y new) (xe ∙ ap (λ y. f y c) (sym here)) in
    let r : Trying f cols i s start (c + 1) new (set table (i * 16 + c) at) = record {
      going = ap (λ y. tried f s (c + 1) (cols - (c + 1)) (added sets y)) xe ∙ sym (tried-more f s c cols sets l) ∙ t.going;
      filled = filled_more f cols i c new table at l w il pl (omega (arith, ae, place-added_lt x sets)) (filled_added f cols (i * 16 + c) sets table x (omega (arith, t.state)) t.filled);
      state = omega (arith, t.state, added-grows sets x);
      same = here;
    } in
    subst (λ zs. Trying f cols i s start (c + 1) zs (set table (i * 16 + c) at)) (sym se) r

pub trying_over : (f : ℕ → ℕ → ℕ) (cols i s : ℕ) (start : List ℕ) (c : ℕ) (sets table : List ℕ) (x : ℕ) → c < cols → x ≡ f s c → 32 < length (added sets x)
    → Trying f cols i s start c sets table → 32 < length (tried f s 0 cols start)
trying_over f cols i s start c sets table x l xe h t =
    let e : tried f s (c + 1) (cols - (c + 1)) (added sets x) ≡ tried f s 0 cols start = ap (λ y. tried f s (c + 1) (cols - (c + 1)) (added sets y)) xe ∙ sym (tried-more f s c cols sets l) ∙ t.going in
    omega (arith, ap length e, tried-grows f s (c + 1) (cols - (c + 1)) (added sets x))

pub trying_all : (f : ℕ → ℕ → ℕ) (cols i s : ℕ) (start : List ℕ) (c : ℕ) (sets table : List ℕ) → c ≡ cols → cols ≤ 16 → Trying f cols i s start c sets table
    → (sets ≡ tried f s 0 cols start) × Filled f cols ((i + 1) * 16) sets table
trying_all f cols i s start c sets table e w t = (
  sym (tried-all f s c cols sets (omega arith)) ∙ t.going,
  filled_row f cols i sets table w (subst (λ k. Filled f cols (i * 16 + k) sets table) e t.filled),
)
