use Rattle.std.proofs.Common.{◌≡◌, ℕ, ◌+◌, ◌<◌, ◌≤◌, List, length, get_or, sym, ap, ◌∙◌, subst, add-one, arith}
use Rattle.machine.specs.Asked.{queries_of}
use Rattle.machine.specs.Queries.{Query, ends, size}
use Rattle.machine.proofs.Drawing.{length-ends}
use Rattle.positions.specs.Verdicts.{begun}
use Rattle.positions.proofs.Lining.{ends_low, ends-rise, begun-is}
use Rattle.positions.proofs.Listing.{queries_few}
use Rattle.positions.proofs.lines.Lines.of.Goals as goal

module _ (qs : List Query) (xs : List ℕ) (e : xs ≡ ends 0 qs) where
  long : length xs ≡ length qs
  long = ap length e ∙ length-ends 0 qs

  low : size qs ≤ 32 → (k : ℕ) → k < length xs → get_or xs k 0 < 32
  low few k l = omega (arith, ap (λ zs. get_or zs k 0) e, ends_low 0 k qs (omega (arith, long)))

  rising : (k : ℕ) → k + 1 < length xs → get_or xs k 0 < get_or xs (k + 1) 0
  rising k l = subst (λ zs. get_or zs k 0 < get_or zs (k + 1) 0) (sym e) (subst (λ j. get_or (ends 0 qs) k 0 < get_or (ends 0 qs) j 0) (sym (add-one k)) (ends-rise 0 k qs (omega (arith, long))))

  first : (k : ℕ) → k < length qs → begun xs k ≡ begun (ends 0 qs) k
  first k l = ap (λ zs. begun zs k) e

pub ending-requires : goal.ending-requires
ending-requires c =
    let qs = queries_of c.args.queries.now in
    let xs = c.lasts.result.now in
    let e = c.lasts.ensures.list in
    record { few = c.lasts.ensures.few; low = low qs xs e (queries_few c.args.queries.now); rising = rising qs xs e }

pub returns : goal.returns
returns c =
    let qs = queries_of c.args.queries.now in
    let xs = c.lasts.result.now in
    let e = c.lasts.ensures.list in
    let n = long qs xs e in
    let h = c.ending.ensures in
    record {
      count = h.count ∙ n;
      first = λ k l. h.first k (omega arith) ∙ first qs xs e k l ∙ begun-is k qs l;
      last = λ k l. h.last k (omega arith) ∙ ap (λ zs. get_or zs k 0) e;
      rest = λ k l. h.rest k (omega arith);
    }
