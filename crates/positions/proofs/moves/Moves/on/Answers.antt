use Rattle.std.proofs.Common.{◌≡◌, ◌*◌, ◌%◌, ◌^◌, get_or, ap, arith}
use lib.Bits.{bit_and, bit_or}
use Rattle.std.proofs.lemmas.Nat.{and_le_r}
use Rattle.positions.specs.Sets.{moved_on}
use Rattle.positions.proofs.moves.Moves.on.Goals as goal

pub returns : goal.returns
unfolding moved_on
returns c =
    let m = c.args.self.now in
    let f = get_or m.fits c.args.column 0 in
    let s = c.args.set in
    let whole : (bit_and s f * 2) % 2 ^ 32 ≡ bit_and s f * 2 = omega (arith, and_le_r s f, m.low c.args.column c.requires) in
    ap (λ x. bit_or x (bit_and s m.stays)) whole
