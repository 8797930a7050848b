-- The machine of relations keeps the laws.
use Rattle.std.specs.Prelude.{◌≡◌, ℕ, ◌<◌, List, [], ◌∷◌, map, slice_index, refl}
use Rattle.std.proofs.Common.{ap, ◌∙◌}
use Rattle.machine.specs.Model.{then_all, path_action, Lawful}
use Rattle.positions.specs.Tabs.{get_or-tab, tab_is, tab_same}
use Rattle.positions.specs.Sets.{picked, moved_on, run_by}
use Rattle.positions.proofs.Pickings.{picked-bit, picked-powers, picked-moved, picked-joined}
use Rattle.positions.proofs.Telling.{marked-same}
use Rattle.relation.specs.declared.action.RelationAction.{RelationAction}
use Rattle.relation.specs.declared.relation.RelationMachine.{RelationMachine}
use Rattle.relation.specs.Relations.{staying, then_rows, naming, column_of, moves_of, marking, verdict_of, related, same-action}

assoc : (a b c : RelationAction) → then_rows (then_rows a b) c ≡ then_rows a (then_rows b c)
assoc a b c = same-action _ _ (tab_same _ _ 32 0 (λ k h. ap (λ x. picked x c.rows) (get_or-tab _ 32 k 0 h) ∙ picked-joined 32 (slice_index a.rows k) b.rows c.rows b.size))

left : (a : RelationAction) → then_rows staying a ≡ a
left a = same-action _ _ (tab_is _ a.rows 32 0 a.size (λ k h. ap (λ x. picked x a.rows) (get_or-tab _ 32 k 0 h) ∙ picked-bit k a.rows))

right : (a : RelationAction) → then_rows a staying ≡ a
right a = same-action _ _ (tab_is _ a.rows 32 0 a.size (λ k h. picked-powers 32 (slice_index a.rows k) (a.low k h)))

-- a set, through the action of a name
pub by_name : (m : RelationMachine) (a : RelationAction) (n : List ℕ) (k : ℕ) → k < 32
    → slice_index (then_rows a (naming m n)).rows k ≡ moves_of m (slice_index a.rows k) (column_of m n)
unfolding moved_on
by_name m a n k h =
    get_or-tab _ 32 k 0 h ∙ picked-moved 32 (slice_index m.moves.fits (column_of m n)) m.moves.stays (slice_index a.rows k) (a.low k h)

pub by_path : (m : RelationMachine) (ns : List (List ℕ)) (a : RelationAction) (k : ℕ) → k < 32
    → slice_index (then_all then_rows (naming m) a ns).rows k ≡ run_by (moves_of m) (slice_index a.rows k) (map (column_of m) ns)
by_path m [] a k h = refl
by_path m (n ∷ ns) a k h = by_path m ns (then_rows a (naming m n)) k h ∙ ap (λ s. run_by (moves_of m) s (map (column_of m) ns)) (by_name m a n k h)

marks-path : (m : RelationMachine) (n : List ℕ) (ns : List (List ℕ)) → marking m (path_action (related m) n ns) ≡ verdict_of m (n ∷ ns)
marks-path m n ns = marked-same m.lines _ _ (λ q h.
    let f = slice_index m.lines.first q in
    let l = m.lines.begin q h in
    by_path m ns (naming m n) f l ∙ ap (λ s. run_by (moves_of m) s (map (column_of m) ns)) (get_or-tab _ 32 f 0 l))

pub keeps_laws : (m : RelationMachine) → Lawful (related m)
keeps_laws m = record { assoc = assoc; left = left; right = right; marks_path = marks-path m; round = λ a. refl }
