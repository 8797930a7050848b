use Rattle.std.proofs.Common.{sym, ap, ◌∙◌, subst}
use Rattle.std.specs.List.{AllByRecursion}
use Rattle.machine.specs.Asked.{queries_of}
use Rattle.machine.specs.Queries.{Listed, positions}
use Rattle.positions.specs.Sets.{fit_masks, rest_mask}
use Rattle.relation.proofs.Telling.{related-rule}
use Rattle.relation.proofs.relation.RelationMachine.of.Goals as goal

pub returns : goal.returns
returns c =
    let q = c.args.queries.now in
    let qs = queries_of q in
    let e = sym c.names.ensures.list in
    let fits = c.of-moves.ensures.fits in
    let stays = c.of-moves.ensures.stays ∙ c.rest_mask-stays.ensures ∙ ap (rest_mask 32) c.positions.ensures.list in
    let lines = c.of-lines.ensures in
    record {
      named = c.names.ensures.list;
      fits = fits;
      stays = stays;
      lines = lines;
      rule = related-rule (record { names = c.names.result; moves = c.of-moves.result; lines = c.of-lines.result }) qs (subst (λ ns. AllByRecursion (Listed ns) qs) e c.names.ensures.all) lines (fits ∙ ap (λ ns. fit_masks (positions ns qs)) e) (stays ∙ ap (λ ns. rest_mask 32 (positions ns qs)) e);
    }
