use Rattle.std.proofs.Common.{◌^◌, ◌<◌, length, get_or, sym, ap, ◌∙◌, subst, arith, rules}
use Rattle.machine.specs.Asked.{queries_of, listed_names}
use Rattle.machine.specs.Masks.{fit_mask}
use Rattle.positions.specs.Tabs.{length_tab, get_or-tab}
use Rattle.positions.specs.Sets.{fit_masks}
use Rattle.positions.proofs.Rule.{low_fits}
use Rattle.positions.proofs.Listing.{queries_few}
use Rattle.positions.proofs.moves.Moves.of.Goals as goal

pub invariant_of-result : goal.invariant_of-result
invariant_of-result c =
    let q = c.args.queries.now in
    let ps = c.positions.result.now in
    record {
      size = ap length c.fit_masks.ensures ∙ length_tab (fit_mask ps) 16;
      low = λ k h. subst (λ x. x < 2 ^ 31)
          (sym (ap (λ xs. get_or xs k 0) c.fit_masks.ensures ∙ get_or-tab (fit_mask ps) 16 k 0 h ∙ ap (λ zs. fit_mask zs k) c.positions.ensures.list))
          (low_fits (listed_names q) (queries_of q) 31 (queries_few q) k);
      within = omega arith;
    }

pub returns : goal.returns
returns c = record { fits = c.fit_masks.ensures ∙ ap fit_masks c.positions.ensures.list; stays = search rules }
