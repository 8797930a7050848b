use Rattle.std.proofs.Common.{sym, subst, arith}
use Rattle.std.proofs.lemmas.Bool.Decides.{nat_tests}
use Rattle.reading.specs.Opens.{items}
use Rattle.reading.proofs.Rings.{Links, links_more, links_chain, ring-fill}
use Rattle.reading.proofs.opens.Opens.refill.Goals as goal

pub loop-self-preserved : goal.loop-self-preserved
loop-self-preserved c =
    let l = c.loop-self in
    let i = c.in-Some.i in
    let found = c.in-Some.ensures in
    record {
      start = l.invariant.start;
      complete = l.invariant.complete;
      within = omega (arith, found.below);
      links = subst (λ is. Links c.args.rows.now c.args.end is i) (sym (ring-fill l.self i l.invariant.start c.loop-self-test.true)) (links_more c.args.rows.now c.args.end (items l.self) l.low i l.invariant.links found);
    }

pub returns-in_default-clause-chain : goal.returns-in_default-clause-chain
returns-in_default-clause-chain c = links_chain c.args.rows.now c.args.end (items c.loop-self.self) c.loop-self.low _ (λ e. c.in_default.ensures) c.loop-self.invariant.links

pub returns-clause-chain : goal.returns-clause-chain
returns-clause-chain c = links_chain c.args.rows.now c.args.end (items c.loop-self.self) c.loop-self.low _ (λ e k lo hi o. absurd (grind (arith, nat_tests))) c.loop-self.invariant.links
