use Rattle.std.proofs.Common.{get_or, sym, refl, ap₂, ◌∙◌, arith}
use Rattle.table.specs.Filling.{seen, by_moves}
use Rattle.table.proofs.Places.{place-le}
use Rattle.table.proofs.Trying.{length_seen, get_or-seen, trying_none, trying_more, trying_over, trying_all}
use Rattle.table.proofs.filling.Filling.try_state.Goals as goal

pub loop-c-init : goal.loop-c-init
loop-c-init c =
    let f = c.args.self.now.found in
    record { keeps = record { moves = refl; columns = refl }; tried = trying_none _ _ _ _ _ _ c.requires.filled (omega (arith, length_seen f)) refl }

pub returns-in_err-at-clause-tried : goal.returns-in_err-at-clause-tried
returns-in_err-at-clause-tried c =
    let old = c.args.self.now in
    let sets = seen old.found in
    let s-is = get_or-seen old.found c.args.i c.requires.state in
    let x-is = c.on-to.ensures ∙ ap₂ (λ m s. by_moves m s c.loop-c.c) c.loop-c.invariant.keeps.moves (sym s-is) in
    let over = trying_over (by_moves old.moves) old.columns c.args.i (get_or sets c.args.i 0) sets c.loop-c.c (seen c.loop-c.self.found) c.loop-c.self.next c.on-to.result (omega arith) x-is c.in_err-at.ensures.0 c.loop-c.invariant.tried in
    rw c.from_residual.ensures over

pub overflow_cast-self : goal.overflow_cast-self
overflow_cast-self c =
    let f = c.loop-c.self.found in
    omega (arith, c.in_ok-at.ensures.0, place-le c.on-to.result (seen f), length_seen f, f.within)

pub loop-c-preserved : goal.loop-c-preserved
loop-c-preserved c =
    let old = c.args.self.now in
    let keeps = c.loop-c.invariant.keeps in
    let sets = seen old.found in
    let s-is = get_or-seen old.found c.args.i c.requires.state in
    let x-is = c.on-to.ensures ∙ ap₂ (λ m s. by_moves m s c.loop-c.c) keeps.moves (sym s-is) in
    record {
      keeps = record { moves = keeps.moves; columns = keeps.columns };
      tried = trying_more (by_moves old.moves) old.columns c.args.i (get_or sets c.args.i 0) sets c.loop-c.c (seen c.loop-c.self.found) c.loop-c.self.next c.on-to.result c.in_ok-at.at (seen c.number.new.self)
          (omega arith) (omega (arith, old.few)) (omega (arith, old.found.within)) x-is c.in_ok-at.ensures.0 c.in_ok-at.ensures.1 c.loop-c.invariant.tried;
    }

pub returns-clause-tried : goal.returns-clause-tried
returns-clause-tried c = trying_all _ _ _ _ _ _ _ _ (omega arith) c.args.self.now.few c.loop-c.invariant.tried
