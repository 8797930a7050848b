-- Blocks of bytes, and the marks in them.
use Rattle.std.proofs.Common.{◌≡◌, ℕ, zero, suc, ◌+◌, ◌*◌, ◌%◌, ◌^◌, ◌<◌, ◌≤◌, true, false, cond, not, eqb, List, [], ◌∷◌, ◌++◌, map, length, get_or, take, drop, replicate, Option, None, Some, subst, sym, refl, ap, ◌∙◌, ⊎_elim, append-nil, append_assoc, add-zero, arith, length-append, length-take, length-drop, drop-drop, take-add, w8}
use lib.Count.{count_trailing_zeros}
use lib.Lanes.{mask_l, zip2, top}
use Rattle.std.specs.List.{between, count_by, AllWithin, HoldsAt}
use Rattle.std.specs.Option.{MatchOption}
use Rattle.std.proofs.lemmas.Slice.{between_is}
use Rattle.std.proofs.lemmas.List.Edits.{between_none}
use Rattle.std.proofs.lemmas.List.{nil_from_length, take-append-drop}
use Rattle.std.proofs.lemmas.List.Sums.{prefix_len-le-length, prefix_len_is, sum_by-cons, count_by-le-length}
use Rattle.std.proofs.lemmas.Bool.{cases_lt, eq-eqb, ne_eqb}
use Rattle.std.proofs.lemmas.List.Folds.{prefix_len-append}
use Rattle.std.specs.Simd.{first_chunks}
use Rattle.std.proofs.lemmas.Simd.{bitmask_splat, leading_from_mask_l, trailing_mask_l}
use Rattle.tags.specs.Bytes.{mark}
use Rattle.tags.specs.Marks.{IsFirstMark, IsLastMark, marks, marks_of, first_or, last_or, scanned, unmarked, mark_count}
use Rattle.tags.proofs.Parts.{marks-append}

-- the marks of 16 bytes as bits, as they are found all together
abbrev pub bits : List ℕ → ℕ
bits bs = mask_l (map (top 7) (zip2 (λ a b. cond (eqb a b) 255 0) bs (replicate 16 60))) % 2 ^ 64

bits_is : (bs : List ℕ) → length bs ≡ 16 → bits bs ≡ mask_l (map mark bs)
bits_is bs n = bitmask_splat w8 eqb bs 16 60 n (omega arith)

pub no_bits : (bs : List ℕ) → length bs ≡ 16 → bits bs ≡ 0 → unmarked bs ≡ length bs
no_bits bs n z = leading_from_mask_l mark bs (sym (bits_is bs n) ∙ z)

none-set : (bs : List ℕ) → unmarked bs ≡ length bs → mask_l (map mark bs) ≡ 0
none-set [] h = refl
none-set (b ∷ bs) h =
    elim (mark b) as (λ t. cond (not t) (1 + unmarked bs) 0 ≡ length (b ∷ bs) → cond t 1 0 + 2 * mask_l (map mark bs) ≡ 0)
    [ true ↦ (λ e. absurd (omega (arith, e))) | false ↦ (λ e. let none = none-set bs (omega (arith, e)) in omega (arith, none)) ] h

pub lowest_bit : (bs : List ℕ) → length bs ≡ 16 → (bits bs ≡ 0 → ⊥) → (count_trailing_zeros 64 (bits bs) ≡ unmarked bs) × (count_trailing_zeros 64 (bits bs) < length bs)
lowest_bit bs n z =
    let e = bits_is bs n in
    let found : count_trailing_zeros 64 (bits bs) ≡ unmarked bs = ap (count_trailing_zeros 64) e ∙ trailing_mask_l mark 64 bs (omega (arith, n)) (omega (arith, z, e)) in
    let some : unmarked bs ≡ length bs → ⊥ = λ all. z (e ∙ none-set bs all) in
    (found, omega (arith, found, some, prefix_len-le-length (λ b. not (mark b)) bs))

-- bytes without a mark, and the first mark of others
pub none-marked : (bs : List ℕ) (at : ℕ) → unmarked bs ≡ length bs → marks bs at ≡ []
none-marked [] at h = refl
none-marked (b ∷ bs) at h =
    elim (mark b) as (λ t. cond (not t) (1 + unmarked bs) 0 ≡ length (b ∷ bs) → cond t (at ∷ marks bs (at + 1)) (marks bs (at + 1)) ≡ [])
    [ true ↦ (λ e. absurd (omega (arith, e))) | false ↦ (λ e. none-marked bs (at + 1) (omega (arith, e))) ] h

pub first-marked : (bs : List ℕ) (at d : ℕ) → unmarked bs < length bs → first_or d (marks bs at) ≡ at + unmarked bs
first-marked [] at d h = absurd (omega (arith, h))
first-marked (b ∷ bs) at d h =
    elim (mark b) as (λ t. cond (not t) (1 + unmarked bs) 0 < length (b ∷ bs) → first_or d (cond t (at ∷ marks bs (at + 1)) (marks bs (at + 1))) ≡ at + cond (not t) (1 + unmarked bs) 0)
    [ true ↦ (λ e. sym (add-zero at)) | false ↦ (λ e. first-marked bs (at + 1) d (omega (arith, e)) ∙ omega arith) ] h

pub first-marked-or : (bs : List ℕ) (at d : ℕ) (r : Option ℕ) (n : ℕ) → IsFirstMark bs r → MatchOption r (n ≡ d) (λ k. n ≡ at + k) → n ≡ first_or d (marks bs at)
first-marked-or bs at d None n h e = e ∙ sym (ap (first_or d) (none-marked bs at h))
first-marked-or bs at d (Some k) n h e = e ∙ ap (λ j. at + j) h.0 ∙ sym (first-marked bs at d (omega (arith, h.0, h.1)))

-- how many marks there are, wherever the first byte lies
pub length-marks : (bs : List ℕ) (at : ℕ) → length (marks bs at) ≡ count_by mark bs
length-marks [] at = refl
length-marks (b ∷ bs) at =
    let e = length-marks bs (at + 1) in
    elim (mark b) as (λ t. length (cond t (at ∷ marks bs (at + 1)) (marks bs (at + 1))) ≡ cond t 1 0 + count_by mark bs) [ true ↦ omega (arith, e) | false ↦ omega (arith, e) ]
    ∙ sym (sum_by-cons (λ x. cond (mark x) 1 0) b bs)

pub last_append : (xs ys : List ℕ) (d : ℕ) → last_or d (xs ++ ys) ≡ last_or (last_or d xs) ys
last_append [] ys d = refl
last_append (x ∷ xs) ys d = last_append xs ys x

-- what the last of some marks is does not hang on what it would be if there were none
pub last_any : (ms : List ℕ) (d e : ℕ) → 0 < length ms → last_or d ms ≡ last_or e ms
last_any [] d e h = absurd (omega (arith, h))
last_any (m ∷ ms) d e h = refl

-- the chunks of 16 bytes, by their places
pub first_chunks-at : (k : ℕ) (bs : List ℕ) (i : ℕ) → i < k → get_or (first_chunks 16 k bs) i [] ≡ take 16 (drop (16 * i) bs)
first_chunks-at zero bs i h = absurd (omega (arith, h))
first_chunks-at (suc k) bs zero h = refl
first_chunks-at (suc k) bs (suc i) h =
    let e : 16 + 16 * i ≡ 16 * suc i = omega arith in
    first_chunks-at k (drop 16 bs) i (omega (arith, h)) ∙ ap (take 16) (drop-drop (16 * i) 16 bs ∙ ap (λ j. drop j bs) e)

-- bytes without a mark before others
clear : (xs ys : List ℕ) (at : ℕ) → marks xs at ≡ [] → unmarked (xs ++ ys) ≡ length xs + unmarked ys
clear [] ys at h = omega arith
clear (x ∷ xs) ys at h =
    elim (mark x) as (λ t. cond t (at ∷ marks xs (at + 1)) (marks xs (at + 1)) ≡ [] → cond (not t) (1 + unmarked (xs ++ ys)) 0 ≡ length (x ∷ xs) + unmarked ys)
    [ true ↦ (λ e. absurd (omega (arith, ap length e))) | false ↦ (λ e. let f = clear xs ys (at + 1) e in omega (arith, f)) ] h

-- the first mark of bytes that have none before `at`
module _ (bs : List ℕ) (at : ℕ) (was : marks (take at bs) 0 ≡ []) (within : at ≤ length bs) where
  pub ahead : unmarked bs ≡ at + unmarked (drop at bs)
  ahead =
      let e = ap unmarked (sym (take-append-drop at bs)) ∙ clear (take at bs) (drop at bs) 0 was in
      omega (arith, e, length-take at bs, within)

  -- a block b of 16 bytes comes next
  module _ (b : List ℕ) (room : at + 16 ≤ length bs) (is : b ≡ take 16 (drop at bs)) where
    pub length-block : length b ≡ 16
    length-block = omega (arith, ap length is, length-take 16 (drop at bs), length-drop at bs, room)

    pub past-block : unmarked b ≡ length b → marks (take (at + 16) bs) 0 ≡ []
    past-block h =
        ap (λ l. marks l 0) (take-add at 16 bs ∙ ap (λ l. take at bs ++ l) (sym is))
        ∙ marks-append (take at bs) b 0
        ∙ ap (λ l. l ++ marks b (0 + length (take at bs))) was
        ∙ none-marked b (0 + length (take at bs)) h

    seen : unmarked (drop at bs) ≡ cond (eqb (unmarked b) (length b)) (length b + unmarked (drop (at + 16) bs)) (unmarked b)
    seen =
        ap unmarked (sym (take-append-drop 16 (drop at bs)) ∙ ap (λ l. l ++ drop 16 (drop at bs)) (sym is) ∙ ap (λ l. b ++ l) (drop-drop 16 at bs))
        ∙ prefix_len-append (λ b. not (mark b)) b (drop (at + 16) bs)

    pub in_block : (k : ℕ) → (k ≡ unmarked b) × (k < length b) → (at + k ≡ unmarked bs) × (at + k < length bs)
    in_block k h =
        let e = seen ∙ ap (λ t. cond t (length b + unmarked (drop (at + 16) bs)) (unmarked b)) (ne_eqb (unmarked b) (length b) (λ e. omega (arith, h.0, h.1, e))) in
        (omega (arith, ahead, e, h.0), omega (arith, length-block, room, h.1))

-- the first mark that was looked for byte by byte
first-byte : (bs : List ℕ) (r : Option ℕ) → MatchOption r (AllWithin (λ b. b ≡ 60 → ⊥) bs 0 (length bs)) (λ k. (k < length bs) × HoldsAt (λ b. b ≡ 60) bs k × AllWithin (λ b. b ≡ 60 → ⊥) bs 0 k) → IsFirstMark bs r
first-byte bs None h = prefix_len_is (λ b. not (mark b)) bs (length bs) 0 (omega arith) (λ k low. ap not (ne_eqb (get_or bs k 0) 60 (h k 0 (omega arith) low))) (λ past. absurd (omega (arith, past)))
first-byte bs (Some k) h = (sym (prefix_len_is (λ b. not (mark b)) bs k 0 (omega (arith, h.0)) (λ j low. ap not (ne_eqb (get_or bs j 0) 60 (h.2 j 0 (omega arith) low))) (λ _. ap not (eq-eqb (get_or bs k 0) 60 (h.1 0)))), h.0)

-- the same after bytes without a mark
pub first-after : (bs rest : List ℕ) (at : ℕ) (r q : Option ℕ) → unmarked bs ≡ at + unmarked rest → length bs ≡ at + length rest
    → MatchOption r (AllWithin (λ b. b ≡ 60 → ⊥) rest 0 (length rest)) (λ k. (k < length rest) × HoldsAt (λ b. b ≡ 60) rest k × AllWithin (λ b. b ≡ 60 → ⊥) rest 0 k)
    → MatchOption r (q ≡ None) (λ k. q ≡ Some (at + k)) → IsFirstMark bs q
first-after bs rest at None q was len h e = let f = first-byte rest None h in subst (IsFirstMark bs) (sym e) (omega (arith, was, len, f))
first-after bs rest at (Some k) q was len h e = let f = first-byte rest (Some k) h in subst (IsFirstMark bs) (sym e) (omega (arith, was, f.0), omega (arith, len, h.0))

no_marks_at : (file : List ℕ) (k : ℕ) → marks_of file k k ≡ []
no_marks_at file k = ap (λ l. marks l k) (between_none file k)

-- no byte before the first mark adds any
skipped : (bs : List ℕ) (at : ℕ) → marks bs at ≡ marks (drop (unmarked bs) bs) (at + unmarked bs)
skipped [] at = refl
skipped (b ∷ bs) at =
    let u = unmarked bs in
    let one : (k : ℕ) → suc k ≡ 1 + k = λ k. omega arith in
    let there : (at + 1) + u ≡ at + (1 + u) = omega arith in
    elim (mark b) as (λ t. mark b ≡ t → marks (b ∷ bs) at ≡ marks (drop (cond (not t) (1 + u) 0) (b ∷ bs)) (at + cond (not t) (1 + u) 0)) [
      | true ↦ (λ e. ap (marks (b ∷ bs)) (sym (add-zero at)))
      | false ↦ (λ e. ap (λ t. cond t (at ∷ marks bs (at + 1)) (marks bs (at + 1))) e ∙ skipped bs (at + 1) ∙ (λ i. marks (drop (one u i) (b ∷ bs)) (there i)))
    ] refl

pub from-first : (file : List ℕ) (from to first : ℕ) → first ≡ first_or to (marks_of file from to) → marks_of file from to ≡ marks_of file first to
from-first file from to first e =
    let bs = between from to file in
    let u = unmarked bs in
    ⊎_elim
    (λ (h : u < length bs).
    let f : first ≡ from + u = e ∙ first-marked bs from to h in
    skipped bs from ∙ ap (λ l. marks l (from + u)) (ap (drop u) (between_is file from to) ∙ drop-drop u from (take to file) ∙ sym (between_is file (from + u) to)) ∙ ap (λ k. marks_of file k to) (sym f))
    (λ (h : length bs ≤ u).
    let none = none-marked bs from (omega (arith, h, prefix_len-le-length (λ b. not (mark b)) bs)) in
    none ∙ sym (no_marks_at file to) ∙ ap (λ k. marks_of file k to) (sym (e ∙ ap (first_or to) none)))
    (cases_lt u (length bs))

-- the last mark, by its place
none-last : (bs : List ℕ) (at : ℕ) → ((k : ℕ) → k < length bs → mark (get_or bs k 0) ≡ false) → marks bs at ≡ []
none-last [] at h = refl
none-last (b ∷ bs) at h =
    ap (λ t. cond t (at ∷ marks bs (at + 1)) (marks bs (at + 1))) (h 0 (omega arith)) ∙ none-last bs (at + 1) (λ k low. h (suc k) (omega (arith, low)))

last-at : (bs : List ℕ) (at d k : ℕ) → k < length bs → mark (get_or bs k 0) ≡ true → ((j : ℕ) → k < j → j < length bs → mark (get_or bs j 0) ≡ false) → last_or d (marks bs at) ≡ at + k
last-at [] at d k h here none = absurd (omega (arith, h))
last-at (b ∷ bs) at d zero h here none =
    ap (λ t. last_or d (cond t (at ∷ marks bs (at + 1)) (marks bs (at + 1)))) here
    ∙ ap (last_or at) (none-last bs (at + 1) (λ j low. none (suc j) (omega arith) (omega (arith, low)))) ∙ sym (add-zero at)
last-at (b ∷ bs) at d (suc k) h here none =
    let later : (e : ℕ) → last_or e (marks bs (at + 1)) ≡ at + suc k = λ e. last-at bs (at + 1) e k (omega (arith, h)) here (λ j low high. none (suc j) (omega (arith, low)) (omega (arith, high))) ∙ omega arith in
    elim (mark b) as (λ t. last_or d (cond t (at ∷ marks bs (at + 1)) (marks bs (at + 1))) ≡ at + suc k) [ true ↦ later at | false ↦ later d ]

pub last-marked-or : (bs : List ℕ) (at d : ℕ) (r : Option ℕ) (n : ℕ) → IsLastMark bs r → MatchOption r (n ≡ d) (λ k. n ≡ at + k) → n ≡ last_or d (marks bs at)
last-marked-or bs at d None n h e = e ∙ sym (ap (last_or d) (none-last bs at h))
last-marked-or bs at d (Some k) n h e = e ∙ sym (last-at bs at d k h.0 h.1 h.2)

-- what is known of bytes once those before `rest` have been counted: how many marks they have, and that their last mark is the last of `last`, which begins at `low`
pub record Counted (bs rest : List ℕ) (first at count low : ℕ) (last : List ℕ) : Type 0 where
  pub seen : List ℕ
  pub cut : bs ≡ seen ++ rest
  pub here : at ≡ first + length seen
  pub number : count ≡ length (marks seen first)
  pub within : low + length last ≤ at
  pub ending : (d : ℕ) → last_or d (marks seen first) ≡ last_or d (marks last low)

-- one more block
module _ (block rest' : List ℕ) {bs rest last : List ℕ} {first at count low : ℕ} (n : ℕ) (was : Counted bs rest first at count low last)
    (next : rest ≡ block ++ rest') (counted : n ≡ mark_count block) where
  abbrev seen' : List ℕ
  seen' = was.seen ++ block

  cut' : bs ≡ seen' ++ rest'
  cut' = was.cut ∙ ap (λ l. was.seen ++ l) next ∙ sym (append_assoc was.seen block rest')

  here' : at + length block ≡ first + length seen'
  here' = omega (arith, was.here, length-append was.seen block)

  longer : marks seen' first ≡ marks was.seen first ++ marks block at
  longer = marks-append was.seen block first ∙ ap (λ k. marks was.seen first ++ marks block k) (sym was.here)

  marks-here : length (marks block at) ≡ n
  marks-here = length-marks block at ∙ sym (counted ∙ length-marks block 0)

  number' : count + n ≡ length (marks seen' first)
  number' = omega (arith, was.number, marks-here, length-append (marks was.seen first) (marks block at), ap length longer)

  pub few : (count + n ≤ length bs) × (at + length block ≤ first + length bs)
  few = let e = length-marks seen' first in let l = ap length cut' in (omega (arith, e, count_by-le-length mark seen', number', l, length-append seen' rest'), omega (arith, here', l, length-append seen' rest'))

  pub with-marks : 0 < n → Counted bs rest' first (at + length block) (count + n) at block
  with-marks h = record {
    seen = seen';
    cut = cut';
    here = here';
    number = number';
    within = omega arith;
    ending = λ d. ap (last_or d) longer ∙ last_append (marks was.seen first) (marks block at) d ∙ last_any (marks block at) (last_or d (marks was.seen first)) d (omega (arith, marks-here, h));
  }

  pub without-marks : n ≡ 0 → Counted bs rest' first (at + length block) count low last
  without-marks z = record {
    seen = seen';
    cut = cut';
    here = here';
    number = omega (arith, number', z);
    within = omega (arith, was.within);
    ending = λ d. ap (last_or d) (longer ∙ ap (λ l. marks was.seen first ++ l) (nil_from_length (marks block at) (marks-here ∙ z)) ∙ append-nil (marks was.seen first)) ∙ was.ending d;
  }

-- all blocks counted
pub all-counted : (file : List ℕ) (from to first : ℕ) {rest last : List ℕ} {at count low : ℕ} (found : Option ℕ) (n : ℕ) → first ≡ first_or to (marks_of file from to)
    → Counted (between first to file) rest first at count low last → length rest ≡ 0 → IsLastMark last found → MatchOption found (n ≡ to) (λ k. n ≡ low + k) → ◌≡◌ {A = ℕ × ℕ × ℕ} (first, n, count) (scanned file from to)
all-counted file from to first {rest} {last} {at} {count} {low} found n f all done is e =
    let whole : marks_of file from to ≡ marks all.seen first =
    from-first file from to first f ∙ ap (λ l. marks l first) (all.cut ∙ ap (λ l. all.seen ++ l) (nil_from_length rest done) ∙ append-nil all.seen) in
    λ i. (f i, (last-marked-or last low to found n is e ∙ sym (all.ending to) ∙ sym (ap (last_or to) whole)) i, (all.number ∙ sym (ap length whole)) i)
