-- The matches of rows, counted and written.
use Rattle.std.proofs.Common.{◌≡◌, ℕ, ◌+◌, ◌<◌, ◌≤◌, Bool, true, false, cond, List, [], ◌∷◌, ◌++◌, length, drop, get_or, set, Some, None, Option, sym, refl, ap, ◌∙◌, subst, ◌⊎◌, ⊎_elim, append-nil, length-set, arith}
use Rattle.std.specs.List.{sum_by, count_by}
use Rattle.std.proofs.lemmas.List.{length-append, at_drop_more}
use Rattle.std.proofs.lemmas.List.Sums.{sum_by-cons}
use Rattle.machine.specs.Model.{Model}
use Rattle.rows.specs.declared.row.Row.{Row}
use Rattle.rows.specs.Pieces.{Entry}
use Rattle.rows.specs.Places.{stored, paired, entry}
use Rattle.rows.specs.Lists.{splice}
use Rattle.rows.proofs.Splices.{splice-none, splice-push, splice-splice}
use Rattle.answers.specs.declared.matches.Match.{Match}
use Rattle.answers.specs.Own.{matches_at}
use Rattle.answers.specs.Finish.{row_matches}
use Rattle.answers.proofs.Wholes.{row-matches-append}
use Rattle.finishing.specs.Ends.{last_row}

abbrev pub match_of : ℕ → ℕ → Match
match_of p q = record { place = p; query = q }

-- how many there are does not depend on where they stand
pub counted : (p q : ℕ) (bs : List Bool) → length (matches_at p q bs) ≡ count_by (λ b. b) bs
counted p q [] = refl
counted p q (b ∷ bs) =
    let ih = counted p (q + 1) bs in
    elim b as (λ t. length (cond t (match_of p q ∷ matches_at p (q + 1) bs) (matches_at p (q + 1) bs)) ≡ count_by (λ x. x) (t ∷ bs)) [
      | true ↦ let s = sum_by-cons (λ x. cond x 1 0) true bs in omega (arith, ih, s)
      | false ↦ let s = sum_by-cons (λ x. cond x 1 0) false bs in omega (arith, ih, s)
    ]

-- matches that are still to be written from n on, up to end, so that a list becomes the whole
pub record Pending (n : ℕ) (more ms whole : List Match) (end : ℕ) : Type 0 where
  pub is : splice n more ms ≡ whole
  pub ends : n + length more ≡ end
  pub room : end ≤ length ms

pub all-pending : (n : ℕ) (more ms : List Match) (end : ℕ) → n + length more ≡ end → end ≤ length ms → Pending n more ms (splice n more ms) end
all-pending n more ms end e h = record { is = refl; ends = e; room = h }

module _ {n : ℕ} {ms whole : List Match} {end : ℕ} where
  pub pending-as : {more same : List Match} → more ≡ same → Pending n more ms whole end → Pending n same ms whole end
  pending-as e p = subst (λ l. Pending n l ms whole end) e p

  pub pending-moved : {more : List Match} {n' : ℕ} {ms' : List Match} → n' ≡ n → ms' ≡ ms → Pending n more ms whole end → Pending n' more ms' whole end
  pending-moved {more} {n'} e f p = subst (λ l. Pending n' more l whole end) (sym f) (subst (λ k. Pending k more ms whole end) (sym e) p)

  pub one_written : {x : Match} {more : List Match} → Pending n (x ∷ more) ms whole end → Pending (n + 1) more (set ms n x) whole end
  one_written {x} {more} p =
      let zero-more : n ≡ n + 0 = omega arith in
      let here : set ms n x ≡ splice n (x ∷ []) ms = sym (ap (λ l. set l n x) (splice-none n ms)) ∙ ap (λ k. set (splice n [] ms) k x) zero-more ∙ splice-push n [] ms 0 x refl (omega (arith, p.ends, p.room)) in
      let long = length-set ms n x in
      record {
        is = ap (splice (n + 1) more) here ∙ splice-splice n (x ∷ []) more ms 1 refl (omega (arith, p.ends, p.room)) ∙ p.is;
        ends = omega (arith, p.ends);
        room = omega (arith, long, p.room);
      }

  pub part-written : (xs : List Match) {more ms' : List Match} → Pending n (xs ++ more) ms whole end → ms' ≡ splice n xs ms → length ms' ≡ length ms → Pending (n + length xs) more ms' whole end
  part-written xs {more} p e long =
      let sum = length-append xs more in
      record {
        is = ap (splice (n + length xs) more) e ∙ splice-splice n xs more ms (length xs) refl (omega (arith, sum, p.ends, p.room)) ∙ p.is;
        ends = omega (arith, sum, p.ends);
        room = omega (arith, long, p.room);
      }

  pub written-all : Pending n [] ms whole end → (ms ≡ whole) × (n ≡ end)
  written-all p = (sym (splice-none n ms) ∙ p.is, omega (arith, p.ends))

-- the queries of a set from q on
pub next-marked : (p q : ℕ) (bs : List Bool) → q < length bs → get_or bs q false ≡ true → matches_at p q (drop q bs) ≡ match_of p q ∷ matches_at p (q + 1) (drop (q + 1) bs)
next-marked p q bs h e = at_drop_more (matches_at p q) bs q false h ∙ ap (λ b. cond b (match_of p q ∷ matches_at p (q + 1) (drop (q + 1) bs)) (matches_at p (q + 1) (drop (q + 1) bs))) e

pub next-unmarked : (p q : ℕ) (bs : List Bool) → q < length bs → get_or bs q false ≡ false → matches_at p q (drop q bs) ≡ matches_at p (q + 1) (drop (q + 1) bs)
next-unmarked p q bs h e = at_drop_more (matches_at p q) bs q false h ∙ ap (λ b. cond b (match_of p q ∷ matches_at p (q + 1) (drop (q + 1) bs)) (matches_at p (q + 1) (drop (q + 1) bs))) e

-- how many matches rows have, by their actions
pub count-rows : {P Q : Type 0} (m : Model P Q) (rs : List Row) (ps : List P) → length rs ≡ length ps → length (row_matches m (paired rs ps)) ≡ sum_by (λ p. count_by (λ b. b) (m.marks p)) ps
count-rows m [] [] h = refl
count-rows m [] (p ∷ ps) h = absurd (omega arith)
count-rows m (r ∷ rs) [] h = absurd (omega arith)
count-rows m (r ∷ rs) (p ∷ ps) h =
    let ih = count-rows m rs ps (omega arith) in
    let own = counted r.place 0 (m.marks p) in
    let all = length-append (matches_at r.place 0 (m.marks p)) (row_matches m (paired rs ps)) in
    let s = sum_by-cons (λ x. count_by (λ b. b) (m.marks x)) p ps in
    omega (arith, ih, own, all, s)

module _ {P Q : Type 0} (m : Model P Q) where
  -- rows and actions by other names
  pub same-matches : {rs rs' : List Row} {ps ps' : List P} → rs' ≡ rs → ps' ≡ ps → row_matches m (paired rs' ps') ≡ row_matches m (paired rs ps)
  same-matches e f = cc

  -- the first row's matches, and those of the others
  pub next-row : (r : Row) (p : P) {rs more : List Row} {ps acts : List P} → rs ≡ r ∷ more → ps ≡ p ∷ acts → row_matches m (paired rs ps) ≡ matches_at r.place 0 (m.marks p) ++ row_matches m (paired more acts)
  next-row r p e f = same-matches e f

-- where rows or actions end
pub paired-ended : {P : Type 0} (rs : List Row) (ps : List P) → (length rs ≡ 0) ⊎ (length ps ≡ 0) → paired rs ps ≡ []
paired-ended [] ps h = refl
paired-ended (r ∷ rs) [] h = refl
paired-ended (r ∷ rs) (p ∷ ps) h = ⊎_elim (λ e. absurd (omega arith)) (λ e. absurd (omega arith)) h

-- the row of the last stretch
pub with_none : {A P : Type 0} (m : Model A P) (es : List (Entry P)) (more : Option (Row × P)) → more ≡ None → row_matches (stored m) (es ++ last_row more) ≡ row_matches (stored m) es
with_none m es more e = ap (λ x. row_matches (stored m) (es ++ last_row x)) e ∙ ap (row_matches (stored m)) (append-nil es)

pub with_one : {A P : Type 0} (m : Model A P) (es : List (Entry P)) (more : Option (Row × P)) (r : Row) (p : P) → more ≡ Some (r, p) → row_matches (stored m) (es ++ last_row more) ≡ row_matches (stored m) es ++ matches_at r.place 0 ((stored m).marks p)
with_one m es more r p e =
    ap (λ x. row_matches (stored m) (es ++ last_row x)) e
    ∙ row-matches-append [] (stored m) es (entry r p ∷ [])
    ∙ ap (λ l. row_matches (stored m) es ++ l) (append-nil (matches_at r.place 0 ((stored m).marks p)))

-- there are at least as many as the rows have
pub with_more : {A P : Type 0} (m : Model A P) (es fs : List (Entry P)) → length (row_matches (stored m) es) ≤ length (row_matches (stored m) (es ++ fs))
with_more m es fs = let e = ap length (row-matches-append [] (stored m) es fs) ∙ length-append (row_matches (stored m) es) (row_matches (stored m) fs) in omega (arith, e)
