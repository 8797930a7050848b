use Rattle.positions.proofs.Leading.{moves_by_position, rests_by_position, picks_by_position, masks_by_position, columns_fit}
use Rattle.positions.proofs.laws.positions_lead.Goals as goal

pub returns : goal.returns
returns c = record { moves = moves_by_position; rests = rests_by_position; picks = picks_by_position; masks = masks_by_position; columns = columns_fit }
