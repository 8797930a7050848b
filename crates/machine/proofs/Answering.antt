-- The answers to the questions that a text of queries is asked.
use Rattle.std.proofs.Common.{◌≡◌, ℕ, ◌<◌, ◌≤◌, true, false, ◌⊎◌, List, [], ◌∷◌, ◌++◌, map, length, take, sym, ap, ◌∙◌, subst, inl, inr, append-nil, arith, length-take}
use Rattle.std.specs.List.{AllByRecursion}
use Rattle.std.proofs.ByRecursion.{All-map}
use Rattle.std.proofs.lemmas.Bool.{false≢true}
use Rattle.machine.specs.declared.name.Name.{Name}
use Rattle.machine.specs.declared.names.Names.{Names}
use Rattle.machine.specs.declared.plan.Plan.{Plan}
use Rattle.machine.specs.declared.queries.Queries.{Queries}
use Rattle.machine.specs.declared.refusal.Refusal.TheVariants.{NamesOverLimit}
use Rattle.machine.specs.Asked.{queries_of, Once, Refused, Accepted}
use Rattle.machine.specs.Limits.{most_bytes, most_lines, most_positions, longest_name, NamesFit}
use Rattle.machine.specs.Queries.{Query, position, positions, size, ends, Listed, noted_steps, names_used}
use Rattle.machine.specs.Reading.{closes, Draft, reads_as}
use Rattle.machine.specs.Sketches.{Sketch, sketch, names_in, size_in, sketch_of}
use Rattle.machine.specs.Text.{Parses}
use Rattle.machine.specs.Views.{bytes_of, names_of, places_of, lasts_of, decoded, complete, are_all_listed}
use Rattle.machine.proofs.Complete as reading
use Rattle.machine.proofs.Sound.{sound}
use Rattle.machine.proofs.Decoding.{decoded-is, positions-complete, positions-known}
use Rattle.machine.proofs.Growing.{lists_all}
use Rattle.machine.proofs.Viewed.{length-names}

-- a text that stands for queries is read to the end of a line
pub not-whole : (text : List ℕ) → (closes (reads_as text).state ≡ false) ⊎ (most_lines < length (reads_as text).lines) → (qs : List Query) → Parses text qs → ⊥
not-whole text (inl f) qs h = false≢true (sym f ∙ ap (λ (D : Draft). closes D.state) (reading.complete text qs h))
not-whole text (inr l) qs h = omega (arith, h.few, ap (λ (D : Draft). length D.lines) (reading.complete text qs h))

pub once : (text : List ℕ) → Once text
once text qs rs g h = ap (λ (D : Draft). D.lines) (sym (reading.complete text qs g) ∙ reading.complete text rs h)

-- what each name stands for is short enough
short_name : (n : Name) → length (bytes_of n) ≤ longest_name
short_name n = omega (arith, length-take n.len n.bytes, n.within)

each_short : (ns : List Name) → AllByRecursion (λ n. length (bytes_of n) ≤ longest_name) ns
each_short [] = tt
each_short (n ∷ ns) = (short_name n, each_short ns)

names_fit : (ns : Names) → NamesFit (names_of ns)
names_fit ns = record {
  few = omega (arith, length-names ns, ns.within);
  short = All-map (λ n. length n ≤ longest_name) bytes_of (take ns.count ns.list) (each_short (take ns.count ns.list));
}

-- a text that is read to the end of a line
module _ (text : List ℕ) (w : closes (reads_as text).state ≡ true) (l : length (reads_as text).lines ≤ most_lines) where
  pub parsed : Parses text (reads_as text).lines
  parsed = let h = sound text w in record { some = h.some; few = l; good = h.good; is = h.is }

  pub size_is : size_in (reads_as text) ≡ size (reads_as text).lines
  size_is = omega (arith, ap length (sound text w).none)

  names-are : names_in (reads_as text) ≡ names_used (reads_as text).lines
  names-are = ap (noted_steps (names_used (reads_as text).lines)) (sound text w).none

  -- the plan that was put together from it
  module _ (p : Plan) (e : sketch p ≡ sketch_of (reads_as text)) where
    plan-names : names_of p.names ≡ names_used (reads_as text).lines
    plan-names = ap (λ (S : Sketch). S.names) e ∙ names-are

    plan-places : places_of p ≡ positions (names_of p.names) (reads_as text).lines
    plan-places =
        let ns = names_in (reads_as text) in
        let qs = (reads_as text).lines in
        ap (λ (S : Sketch). S.places) e
        ∙ ap (λ q. positions ns qs ++ map (position ns) q) (sound text w).none
        ∙ append-nil (positions ns qs)
        ∙ ap (λ ms. positions ms qs) (sym (ap (λ (S : Sketch). S.names) e))

    listed : AllByRecursion (Listed (names_of p.names)) (reads_as text).lines
    listed = subst (λ ns. AllByRecursion (Listed ns) (reads_as text).lines) (sym plan-names) (lists_all [] (reads_as text).lines)

    plan-queries : decoded (names_of p.names) (places_of p) ≡ (reads_as text).lines
    plan-queries = ap (decoded (names_of p.names)) plan-places ∙ decoded-is (names_of p.names) (reads_as text).lines listed

    pub plan-whole : complete (places_of p) ≡ true
    plan-whole = ap complete plan-places ∙ positions-complete (names_of p.names) (reads_as text).lines

    pub plan-known : are_all_listed (names_of p.names) (places_of p) ≡ true
    plan-known = ap (are_all_listed (names_of p.names)) plan-places ∙ positions-known (names_of p.names) (reads_as text).lines listed

    pub plan-ending : lasts_of p ≡ ends 0 (decoded (names_of p.names) (places_of p))
    plan-ending = ap (λ (S : Sketch). S.lasts) e ∙ ap (ends 0) (sym plan-queries)

pub accepted : (text : List ℕ) → length text ≤ most_bytes → closes (reads_as text).state ≡ true → length (reads_as text).lines ≤ most_lines → size_in (reads_as text) ≤ most_positions
    → (q : Queries) → sketch q.plan ≡ sketch_of (reads_as text) → Accepted text q
unfolding queries_of
accepted text s w l few q e =
    let is : (reads_as text).lines ≡ queries_of q = sym (plan-queries text w l q.plan e) in
    let names = plan-names text w l q.plan e in
    record {
      short = s;
      parses = subst (Parses text) is (parsed text w l);
      few = omega (arith, ap size is, size_is text w l);
      fitting = subst NamesFit (names ∙ ap names_used is) (names_fit q.plan.names);
      listed = names ∙ ap names_used is;
    }

pub names_over : (text : List ℕ) → length text ≤ most_bytes → closes (reads_as text).state ≡ true → length (reads_as text).lines ≤ most_lines → size_in (reads_as text) ≤ most_positions
    → (NamesFit (names_in (reads_as text)) → ⊥) → Refused text NamesOverLimit
names_over text s w l few h =
    (s, ((reads_as text).lines, parsed text w l, omega (arith, size_is text w l), λ f. h (subst NamesFit (sym (names-are text w l)) f)))
