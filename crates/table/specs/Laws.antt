-- The table machine keeps the laws.
use Rattle.std.specs.Prelude.{◌≡◌, ℕ, ◌<◌, List, [], ◌∷◌, map, slice_index, refl}
use Rattle.std.proofs.Common.{sym, ap, ◌∙◌, arith}
use Rattle.machine.specs.Model.{then_all, path_action, Lawful}
use Rattle.positions.specs.Tabs.{get_or-tab, tab_is, tab_same}
use Rattle.positions.proofs.Telling.{marked-same}
use Rattle.table.specs.declared.action.TableAction.{TableAction}
use Rattle.table.specs.declared.table.TableMachine.{TableMachine}
use Rattle.table.specs.Tables.{staying, then_states, naming, column_of, set_at, marking, backing, walk, verdict_of, tabled, same-action}

assoc : (a b c : TableAction) → then_states (then_states a b) c ≡ then_states a (then_states b c)
assoc a b c = same-action _ _ (tab_same _ _ 32 0 (λ k h. ap (slice_index c.to) (get_or-tab _ 32 k 0 h) ∙ sym (get_or-tab _ 32 (slice_index a.to k) 0 (a.ok k h))))

left : (a : TableAction) → then_states staying a ≡ a
left a = same-action _ _ (tab_is _ a.to 32 0 a.size (λ k h. ap (slice_index a.to) (get_or-tab _ 32 k 0 h)))

right : (a : TableAction) → then_states a staying ≡ a
right a = same-action _ _ (tab_is _ a.to 32 0 a.size (λ k h. get_or-tab _ 32 (slice_index a.to k) 0 (a.ok k h)))

pub by_path : (m : TableMachine) (ns : List (List ℕ)) (a : TableAction) (k : ℕ) → k < 32
    → slice_index (then_all then_states (naming m) a ns).to k ≡ walk m.states.next (slice_index a.to k) (map (column_of m) ns)
by_path m [] a k h = refl
by_path m (n ∷ ns) a k h =
    by_path m ns (then_states a (naming m n)) k h
    ∙ ap (λ s. walk m.states.next s (map (column_of m) ns)) (get_or-tab _ 32 k 0 h ∙ get_or-tab _ 32 (slice_index a.to k) 0 (a.ok k h))

marks-path : (m : TableMachine) (n : List ℕ) (ns : List (List ℕ)) → marking m (path_action (tabled m) n ns) ≡ verdict_of m (n ∷ ns)
marks-path m n ns = marked-same m.lines _ _ (λ q h.
    ap (set_at m.states.found) (by_path m ns (naming m n) 0 (omega arith) ∙ ap (λ s. walk m.states.next s (map (column_of m) ns)) (get_or-tab _ 32 0 0 (omega arith))))

round : (a : TableAction) → backing a.to ≡ a
round a = same-action _ _ (tab_is _ a.to 32 0 a.size (λ k h. let l = a.ok k h in omega arith))

pub keeps_laws : (m : TableMachine) → Lawful (tabled m)
keeps_laws m = record { assoc = assoc; left = left; right = right; marks_path = marks-path m; round = round }
