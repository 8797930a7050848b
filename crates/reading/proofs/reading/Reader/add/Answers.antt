use Rattle.std.proofs.Common.{◌+◌, None, Ok, sym, refl, ap, ◌∙◌, subst, arith}
use Rattle.reading.specs.declared.reading.Reader.{Reader}
use Rattle.rows.specs.Places.{stored}
use Rattle.reading.specs.Reading.{Under}
use Rattle.rows.proofs.Steps.{state-of, add-step}
use Rattle.reading.proofs.Readers.{put-row, ready-shut, ready-open}
use Rattle.reading.proofs.reading.Reader.add.Goals.{in-Open, in_default}
use Rattle.reading.proofs.reading.Reader.add.Goals as goal

pub returns-clause-put : goal.returns-clause-put
returns-clause-put g c =
    let a = c.args in
    let s = a.source.now in
    let m = stored (g.M.Machine.model s.machine.now) in
    let was = a.lists.now in
    let n = a.self.now.rows in
    let did = c.add_entry.ensures in
    put-row s.file.now m was c.add_entry.new.lists a.self.now (record { rows = n + 1; base = c.match-row.self.base; opens = c.match-row.self.opens }) (Ok tt) (n + 1) None a.row a.plain.now (omega arith) refl refl refl
    (state-of n (n + 1) _ did.rows did.actions (add-step s.file.now m was.rows.now was.actions.now was.beside n n c.requires.room (omega arith) a.row a.self.now.base a.plain.now c.requires.ready.based c.requires.adds))

pub returns-clause-ready : goal.returns-clause-ready
returns-clause-ready g c =
    let a = c.args in
    let j = c.match-row in
    let is : Reader = record { rows = a.self.now.rows + 1; base = j.self.base; opens = j.self.opens } in
    elim j.branch [
      | in-Open w ↦ ready-open a.source.now.file.now a.lists.now.rows.now c.add_entry.new.lists.rows.now a.self.now is a.row c.requires.room c.requires.ready c.requires.own c.add_entry.ensures.rows refl w.in-Open.is (ap (λ r. r.base) w.self-is ∙ w.open.ensures.base) (subst (λ r. Under a.self.now.opens r.opens a.self.now.base) (sym w.self-is) w.open.ensures.under)
      | in_default w ↦ ready-shut a.source.now.file.now a.lists.now.rows.now c.add_entry.new.lists.rows.now a.self.now is a.row c.requires.room c.requires.ready c.requires.own c.add_entry.ensures.rows refl w.in_default.not-Open (ap (λ r. r.base) w.self-is) (ap (λ r. r.opens) w.self-is)
    ]

pub returns-clause-opens : goal.returns-clause-opens
returns-clause-opens g c shut = elim c.match-row.branch [
  | in-Open w ↦ absurd (shut w.in-Open.is)
  | in_default w ↦ (ap (λ r. r.base) w.self-is, ap (λ r. r.opens) w.self-is)
]
