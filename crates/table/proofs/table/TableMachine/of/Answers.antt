use Rattle.std.proofs.Common.{◌+◌, true, length, sym, ap, ◌∙◌, subst, MatchOption}
use Rattle.std.specs.List.{AllByRecursion}
use Rattle.machine.specs.Asked.{queries_of, listed_names}
use Rattle.machine.specs.Masks.{mask, deep_mask}
use Rattle.machine.specs.Queries.{Listed, positions, begins}
use Rattle.positions.specs.Sets.{start_bits}
use Rattle.table.specs.Filling.{leads, Made}
use Rattle.table.specs.Making.{TooMany, TableOf}
use Rattle.table.proofs.Making.{made_of, arising-of, many-of}
use Rattle.table.proofs.Telling.{table_rule}
use Rattle.table.proofs.table.TableMachine.of.Goals as goal

pub returns-in_err-states : goal.returns-in_err-states
returns-in_err-states c =
    let q = c.args.queries.now in
    let stays = c.of-moves.ensures.stays ∙ c.deep_mask-stays.ensures ∙ ap deep_mask c.positions.ensures.list in
    let start = c.start_mask-start.ensures ∙ ap (λ ps. mask (start_bits true ps)) c.positions-2.ensures.list in
    let many = many-of (listed_names q) (queries_of q) c.of-moves.result c.start_mask-start.result (c.name_count.result + 1) c.of-moves.ensures.fits stays start (ap (λ n. n + 1) c.name_count.ensures.number) c.in_err-states.ensures in
    subst (λ o. MatchOption o (TooMany (listed_names q) (queries_of q)) (TableOf q)) (sym c.from_residual.ensures) many

pub returns : goal.returns
returns c =
    let q = c.args.queries.now in
    let names = listed_names q in
    let qs = queries_of q in
    let s = c.in_ok-states.states in
    let stays = c.of-moves.ensures.stays ∙ c.deep_mask-stays.ensures ∙ ap deep_mask c.positions.ensures.list in
    let start = c.start_mask-start.ensures ∙ ap (λ ps. mask (start_bits true ps)) c.positions-2.ensures.list in
    let cols = ap (λ n. n + 1) c.name_count.ensures.number in
    let made = made_of names qs c.of-moves.result c.start_mask-start.result (c.name_count.result + 1) c.of-moves.ensures.fits stays start cols s c.in_ok-states.ensures in
    let e = sym c.names.ensures.list in
    record {
      named = c.names.ensures.list;
      made = made;
      arising = arising-of names qs c.of-moves.result c.start_mask-start.result (c.name_count.result + 1) c.of-moves.ensures.fits stays start cols s c.in_ok-states.ensures;
      lines = c.of-lines.ensures;
      rule = table_rule (record { names = c.names.result; states = s; lines = c.of-lines.result }) qs (subst (λ ns. AllByRecursion (Listed ns) qs) e c.names.ensures.all) c.of-lines.ensures
          (subst (λ ns. Made (leads (positions ns qs)) (length ns + 1) (mask (begins qs)) s) e made);
    }
