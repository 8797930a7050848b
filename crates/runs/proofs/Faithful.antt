-- That runs are faithful.
use Rattle.std.proofs.Common.{◌≡◌, ℕ, ◌<◌, ◌≤◌, List, [], ◌∷◌, ◌++◌, map, length, get_or, take, drop, set, Some, None, Ok, Err, Option, Result, sym, refl, ap, ◌∙◌, subst, ⊎_elim, arith}
use Rattle.std.proofs.lemmas.Bool.{cases_lt}
use Rattle.std.proofs.lemmas.List.{length-map, length_push, get_or_push, get_or_append_left, map-set, get_or-map, set-get_or}
use Rattle.tags.specs.Marks.{scanned}
use Rattle.grammar.specs.Laws.{Iff}
use Rattle.machine.specs.declared.refusal.Refusal.{Refusal}
use Rattle.machine.specs.Model.{Model, Lawful}
use Rattle.rows.specs.declared.row.Row.{Row}
use Rattle.rows.specs.Pieces.{Content}
use Rattle.rows.specs.Stretches.{content, joined_ends, joined_at, last_put}
use Rattle.rows.specs.Places.{stored, paired}
use Rattle.rows.specs.Lists.{kept_of, rows_of, actions_of}
use Rattle.rows.proofs.Pairs.{take-paired}
use Rattle.answers.specs.declared.fault.Fault.{Fault}
use Rattle.answers.specs.declared.matches.Match.{Match}
use Rattle.answers.specs.Own.{own}
use Rattle.answers.specs.Finish.{finish}
use Rattle.answers.specs.Rule.{WellFormed}
use Rattle.answers.proofs.Cuts.{join}
use Rattle.answers.proofs.Wholes.{whole}
use Rattle.answers.proofs.Rules.{accepts, exactly}
use Rattle.job.specs.declared.piece.Piece.{Piece}
use Rattle.job.specs.declared.answer.Answer.{Answer}
use Rattle.job.specs.declared.answer.Answer.TheVariants as answer
use Rattle.runs.specs.declared.steps.Reply.{Reply}
use Rattle.runs.specs.declared.steps.Reply.TheVariants.{Answered}
use Rattle.runs.specs.declared.steps.Step.{Step}
use Rattle.job.specs.Pieces.{no_piece}
use Rattle.job.specs.State.{State, World, nth_piece, piece_marks, content_at, joined_marks, joined_content, finished, new_piece, with_piece, opened, asked_open, asked_read, asked_join, asked_matches, asked_whole, asked_finish, OpenSays, Turns, Accepted, Refused, ReadSays, JoinSays, FinishSays, AnswerSays, Ended}
use Rattle.runs.specs.Runs.{Stage, begun, Does, reads, joins, finishes, Chain, none, more, Faithfully, piece_actions, AsRead, Lies, Alike, Sound, Run}
use Rattle.runs.proofs.Mapped.{mapped, content-mapped, joined-mapped, last-mapped, finish-mapped, plain-keeps}
use Rattle.rows.proofs.Splices.{splice-before, splice-here}
use Rattle.runs.proofs.Held.{paired-of, rows-mapped, acts-mapped}
use Rattle.job.proofs.Asked.{read-free, join_free, finish-free, whole-later}

module _ {A P : Type 0} (m : Model A P) (file : List ℕ) where
  -- what is read, in plain forms
  abbrev read_plain : ℕ → ℕ → Content P
  read_plain from to = mapped m.plain (content file m from to)

  -- what the lists hold of a piece that is as read
  holds : (w : World P) (p : Piece) → AsRead m file w p → content_at w p ≡ read_plain p.from p.to
  holds w p r =
      let c = content file m p.from p.to in
      let n = p.part.kept.rows in
      let rows_are : take n (paired (drop p.part.at w.rows) (drop p.part.at w.actions)) ≡ (mapped m.plain c).rows =
      sym (take-paired n (drop p.part.at w.rows) (drop p.part.at w.actions))
      ∙ ap (λ xs. paired xs (piece_actions w p)) (r.rows ∙ sym (rows-mapped m.plain c.rows))
      ∙ ap (paired (rows_of (mapped m.plain c))) (r.actions ∙ sym (acts-mapped m.plain c.rows))
      ∙ paired-of (mapped m.plain c).rows in
      let fault-is : p.part.kept.fault ≡ c.fault = ap (λ k. k.fault) r.kept in
      (λ i. record { rows = rows_are i; fault = fault-is i })

  pub sound-begun : (rs : List Row) (ps : List P) (ms : List Match) → Sound m file (begun file rs ps ms).held
  sound-begun rs ps ms = record { same = refl; placed = λ k h. absurd (omega arith); pieces = λ k h. absurd (omega arith) }

  -- an accepted call, of which the content is that of a read
  module _ (w : World P) (from to : ℕ) (marks : ℕ × ℕ × ℕ) (c : Content P) (r : Result ℕ Refusal) (v : World P) (acc : Accepted w from to marks c r v)
      (sound : Sound m file w) (order : from ≤ to) (end : to ≤ w.job.size) (over_rows : w.job.used ≤ length w.rows) (over_acts : w.job.used ≤ length w.actions)
      (marks-are : marks ≡ scanned file from to) (is : c ≡ read_plain from to) where
    abbrev next : Piece
    next = new_piece w.job.used from to marks (kept_of c)

    abbrev left : World P
    left = record { job = with_piece w.job from to marks c; rows = v.rows; actions = v.actions }

    new-read : AsRead m file left next
    new-read = record {
      marks = marks-are;
      kept = ap kept_of is ∙ ap (λ n. record { rows = n; fault = d.fault }) (length-map d.rows _);
      rows =
          ap (λ xs. take (length c.rows) (drop w.job.used xs)) acc.rows.is
          ∙ splice-here w.job.used (rows_of c) acc.rows.free w.rows (length c.rows) over_rows (length-map c.rows _)
          ∙ ap rows_of is
          ∙ rows-mapped m.plain d.rows;
      actions =
          ap (λ xs. take (length c.rows) (drop w.job.used xs)) acc.actions.is
          ∙ splice-here w.job.used (actions_of c) acc.actions.free w.actions (length c.rows) over_acts (length-map c.rows _)
          ∙ ap actions_of is
          ∙ acts-mapped m.plain d.rows;
    }
      where
        d : Content A
        d = content file m from to

    old-read : (p : Piece) → Lies w p → AsRead m file w p → AsRead m file left p
    old-read p lies was = record {
      marks = was.marks;
      kept = was.kept;
      rows = ap (λ xs. take p.part.kept.rows (drop p.part.at xs)) acc.rows.is ∙ splice-before w.job.used _ w.rows p.part.at p.part.kept.rows over_rows lies.2 ∙ was.rows;
      actions = ap (λ xs. take p.part.kept.rows (drop p.part.at xs)) acc.actions.is ∙ splice-before w.job.used _ w.actions p.part.at p.part.kept.rows over_acts lies.2 ∙ was.actions;
    }

    -- what holds of each old piece and of the new one, holds of each
    each : (Q : Piece → Type 0) → ((k : ℕ) → k < length w.job.pieces → Q (nth_piece w.job k)) → Q next →
        (k : ℕ) → k < length (w.job.pieces ++ (next ∷ [])) → Q (get_or (w.job.pieces ++ (next ∷ [])) k no_piece)
    each Q old new k h =
        ⊎_elim
        (λ less. subst Q (sym (get_or_append_left w.job.pieces (next ∷ []) no_piece k less)) (old k less))
        (λ past.
        let l = length_push w.job.pieces next in
        let at : length w.job.pieces ≡ k = omega arith in
        subst Q (sym (get_or_push w.job.pieces next no_piece k at)) new)
        (cases_lt k (length w.job.pieces))

    sound-accepted : Sound m file v
    sound-accepted =
        subst (λ (j : State). Sound m file (record { job = j; rows = v.rows; actions = v.actions })) (sym acc.job)
        (record {
          same = sound.same;
          placed = each (Lies left) (λ k h. let l = sound.placed k h in (l.0, l.1, omega arith)) (order, end, omega arith);
          pieces = each (AsRead m file left) (λ k h. old-read (nth_piece w.job k) (sound.placed k h) (sound.pieces k h)) new-read;
        })

  module _ (laws : Lawful m) where
    sound-read : (w : World P) (from to : ℕ) (r : Result ℕ Refusal) (v : World P) → Sound m file w → ReadSays file m w from to r v → Sound m file v
    sound-read w from to r v sound says = go (asked_read file w from to) refl says
      where
        go : (o : Option Refusal) → asked_read file w from to ≡ o → Turns o (λ why. Refused why w r v) (Accepted w from to (scanned file from to) (content file (stored m) from to) r v) → Sound m file v
        go (Some why) q t = subst (Sound m file) (sym t.same) sound
        go None q t =
            let free = read-free file w from to q in
            sound-accepted w from to (scanned file from to) (content file (stored m) from to) r v t sound free.order free.end free.reaches.over_rows free.reaches.over_acts refl
            (content-mapped m.plain m (stored m) (plain-keeps m laws) file from to)

    -- two neighbours, joined
    joined-read : (w : World P) (l k : Piece) → AsRead m file w l → AsRead m file w k → l.to ≡ k.from → l.from ≤ l.to → k.from ≤ k.to → k.to ≤ length file →
        (joined_marks l k ≡ scanned file l.from k.to) × (joined_content file m w l k ≡ read_plain l.from k.to)
    joined-read w l k al ak meet ol ok end =
        let sl = scanned file l.from l.to in
        let sk : scanned file l.to k.to ≡ scanned file k.from k.to = ap (λ x. scanned file x k.to) meet in
        let ck : content file m l.to k.to ≡ content file m k.from k.to = ap (λ x. content file m x k.to) meet in
        let cl = content file m l.from l.to in
        let joined = join m laws.assoc file l.from l.to k.to ol (omega arith) end in
        let ml : piece_marks l ≡ sl = al.marks in
        let mk : piece_marks k ≡ scanned file l.to k.to = ak.marks ∙ sym sk in
        let hk : content_at w k ≡ mapped m.plain (content file m l.to k.to) = holds w k ak ∙ ap (mapped m.plain) (sym ck) in (
          ap (λ x. joined_ends x (piece_marks k)) ml ∙ ap (joined_ends sl) mk ∙ sym joined.marks,
          ap (λ x. joined_at file (stored m) x (piece_marks k) (content_at w l) (content_at w k)) ml
              ∙ ap (λ x. joined_at file (stored m) sl x (content_at w l) (content_at w k)) mk
              ∙ ap (λ x. joined_at file (stored m) sl (scanned file l.to k.to) x (content_at w k)) (holds w l al)
              ∙ ap (joined_at file (stored m) sl (scanned file l.to k.to) (mapped m.plain cl)) hk
              ∙ joined-mapped m.plain m (stored m) (plain-keeps m laws) file sl (scanned file l.to k.to) cl (content file m l.to k.to)
              ∙ ap (mapped m.plain) (sym joined.contents),
        )

    sound-join : (w : World P) (left right : ℕ) (r : Result ℕ Refusal) (v : World P) → Sound m file w → JoinSays file m w left right r v → Sound m file v
    sound-join w left right r v sound says = go (asked_join file w left right) refl says
      where
        go : (o : Option Refusal) → asked_join file w left right ≡ o →
            Turns o (λ why. Refused why w r v) (Accepted w (nth_piece w.job left).from (nth_piece w.job right).to (joined_marks (nth_piece w.job left) (nth_piece w.job right)) (joined_content file m w (nth_piece w.job left) (nth_piece w.job right)) r v) → Sound m file v
        go (Some why) q t = subst (Sound m file) (sym t.same) sound
        go None q t =
            let free = join_free file w left right q in
            let l = nth_piece w.job left in
            let k = nth_piece w.job right in
            let pl = sound.placed left free.left-made in
            let pk = sound.placed right free.right-made in
            let meet : l.to ≡ k.from = free.meet in
            let same = sound.same in
            let both = joined-read w l k (sound.pieces left free.left-made) (sound.pieces right free.right-made) meet pl.0 pk.0 (let z = pk.1 in omega arith) in
            sound-accepted w l.from k.to (joined_marks l k) (joined_content file m w l k) r v t sound (let a = pl.0 in let b = pk.0 in omega arith) pk.1 free.reaches.over_rows free.reaches.over_acts both.0 both.1

    -- a piece over the whole file, finished
    finished-whole : (w : World P) (p : Piece) → AsRead m file w p → p.from ≡ 0 → p.to ≡ length file → finished file m w p ≡ own m.verdict file
    finished-whole w p was first last =
        let s = scanned file 0 (length file) in
        let c = content file m 0 (length file) in
        let marks-are : piece_marks p ≡ s = was.marks ∙ ap (λ x. scanned file x p.to) first ∙ ap (scanned file 0) last in
        let c-is : content_at w p ≡ mapped m.plain c = holds w p was ∙ ap (λ x. read_plain x p.to) first ∙ ap (read_plain 0) last in
        ap (λ x. finish (stored m) (last_put file (stored m) x (content_at w p))) marks-are
        ∙ ap (λ x. finish (stored m) (last_put file (stored m) s x)) c-is
        ∙ ap (finish (stored m)) (last-mapped m.plain m (stored m) (plain-keeps m laws) file s c)
        ∙ finish-mapped m.plain m (stored m) (plain-keeps m laws) file (last_put file m s c)
        ∙ whole m laws.marks_path file

    finish-own : (w : World P) (piece : ℕ) (ms : List Match) (a : Answer) (ns : List Match) → Sound m file w → FinishSays file m w piece ms (Ok a) ns → Ended (own m.verdict file) ms (Ok a) ns
    finish-own w piece ms a ns sound says = go (asked_finish file m w piece (length ms)) refl says
      where
        go : (o : Option Refusal) → asked_finish file m w piece (length ms) ≡ o →
            Turns o (λ why. Refused why ms (Ok a) ns) (Ended (finished file m w (nth_piece w.job piece)) ms (Ok a) ns) → Ended (own m.verdict file) ms (Ok a) ns
        go (Some why) q t = absurd (let x = t.reply in let z : ◌≡◌ {A = ℕ} 0 1 = cc in omega arith)
        go None q t =
            let free = (finish-free file w piece (asked_matches (finished file m w (nth_piece w.job piece)) (length ms)) q).0 in
            subst (λ o. Ended o ms (Ok a) ns) (finished-whole w (nth_piece w.job piece) (sound.pieces piece free.made) free.first (free.last ∙ sound.same)) t

    -- matches are told exactly if the file follows the rule
    follows : (o : Result (List Match) Fault) (ms : List Match) (a : Answer) (ns : List Match) → Iff ((xs : List Match) × (o ≡ Ok xs)) (WellFormed file) → Ended o ms (Ok a) ns → Iff ((n : ℕ) × (a ≡ answer.Matches n)) (WellFormed file)
    follows (Ok xs) ms a ns iff e = ((λ z. iff.0 (xs, refl)), (λ z. (length xs, (let h = e.0 in cc))))
    follows (Err f) ms a ns iff e = (
      (λ z. absurd (let h = e.0 in let q = z.1 in let y : ◌≡◌ {A = ℕ} 0 1 = cc in omega arith)),
      (λ z. absurd (let x = iff.1 z in let h = x.1 in let y : ◌≡◌ {A = ℕ} 0 1 = cc in omega arith)),
    )

    sound-step : (w : Stage P) (s : Step) (v : Stage P) → Sound m file w.held → Does m file w s v → Sound m file v.held
    sound-step w s v sound (reads {from = from} {to = to} {r = r} {v = u} says) = sound-read w.held from to r u sound says
    sound-step w s v sound (joins {left = left} {right = right} {r = r} {v = u} says) = sound-join w.held left right r u sound says
    sound-step w s v sound (finishes says) = sound

    -- a finish of a piece over the whole file answers by the file's own answer alone
    finish-by-own : (w : World P) (piece : ℕ) (ms : List Match) (r : Result Answer Refusal) (ns : List Match) → Sound m file w → FinishSays file m w piece ms r ns → asked_whole file w piece None ≡ None → AnswerSays (own m.verdict file) ms r ns
    finish-by-own w piece ms r ns sound says h =
        let p = nth_piece w.job piece in
        let free = (finish-free file w piece None h).0 in
        let whole_is = finished-whole w p (sound.pieces piece free.made) free.first (free.last ∙ sound.same) in
        subst (λ o. AnswerSays o ms r ns) whole_is
        (subst (λ q. Turns q (λ why. Refused why ms r ns) (Ended (finished file m w p) ms r ns)) (whole-later file w piece (asked_matches (finished file m w p) (length ms)) h) says)

    faithful-step : (w : Stage P) (s : Step) (v : Stage P) → Sound m file w.held → Does m file w s v → Faithfully m file w s v
    faithful-step w s v sound (reads says) = record {
      does = reads says;
      answers = λ a e. absurd (let z : ◌≡◌ {A = ℕ} 0 1 = cc in omega arith);
      rule = λ a e. absurd (let z : ◌≡◌ {A = ℕ} 0 1 = cc in omega arith);
      told = λ a e. absurd (let z : ◌≡◌ {A = ℕ} 0 1 = cc in omega arith);
      room = λ piece r c e h. absurd (let z : ◌≡◌ {A = ℕ} 0 1 = cc in omega arith);
      pieces = (sound-step w s v sound (reads says)).pieces;
    }
    faithful-step w s v sound (joins says) = record {
      does = joins says;
      answers = λ a e. absurd (let z : ◌≡◌ {A = ℕ} 0 1 = cc in omega arith);
      rule = λ a e. absurd (let z : ◌≡◌ {A = ℕ} 0 1 = cc in omega arith);
      told = λ a e. absurd (let z : ◌≡◌ {A = ℕ} 0 1 = cc in omega arith);
      room = λ piece r c e h. absurd (let z : ◌≡◌ {A = ℕ} 0 1 = cc in omega arith);
      pieces = (sound-step w s v sound (joins says)).pieces;
    }
    faithful-step w s v sound (finishes {piece = piece} {r = r} {ns = ns} says) = record {
      does = finishes says;
      answers = ends;
      rule = λ a e. follows (own m.verdict file) w.found a ns (accepts m.verdict file) (ends a e);
      told = λ a e. (own m.verdict file, (exactly m.verdict file (own m.verdict file)).0 refl, ends a e);
      room = λ k t c e h.
          let x : piece ≡ k = cc in
          let y : r ≡ t = cc in
          finish-by-own w.held k w.found t ns sound (subst (λ i. FinishSays file m w.held i w.found t ns) x (subst (λ u. FinishSays file m w.held piece w.found u ns) y says)) h;
      pieces = sound.pieces;
    }
      where
        ends : (a : Answer) → ◌≡◌ {A = Reply} (Answered r) (Answered (Ok a)) → Ended (own m.verdict file) w.found (Ok a) ns
        ends a e = let x : r ≡ Ok a = cc in finish-own w.held piece w.found a ns sound (subst (λ y. FinishSays file m w.held piece w.found y ns) x says)

    pub step : (w : Stage P) (s : Step) (v : Stage P) → Sound m file w.held → Does m file w s v → Faithfully m file w s v × Sound m file v.held
    step w s v sound does = (faithful-step w s v sound does, sound-step w s v sound does)

    chain : (w : Stage P) (ss : List Step) (v : Stage P) → Sound m file w.held → Chain (Does m file) w ss v → Chain (Faithfully m file) w ss v × Sound m file v.held
    chain w ss v sound none = (none, sound)
    chain w ss v sound (more {t = t} {x = x} {xs = xs} d ds) =
        let g = step w x t sound d in
        let i = chain t xs v g.1 ds in
        (more g.0 i.0, i.1)

    same_read : (w : World P) (p q : Piece) → AsRead m file w p → AsRead m file w q → p.from ≡ q.from → p.to ≡ q.to → Alike w p q
    same_read w p q a b from to =
        let c-is : content file m p.from p.to ≡ content file m q.from q.to = ap (λ x. content file m x p.to) from ∙ ap (content file m q.from) to in
        let kept : p.part.kept ≡ q.part.kept = a.kept ∙ ap kept_of c-is ∙ sym b.kept in
        record {
          marks = a.marks ∙ ap (λ x. scanned file x p.to) from ∙ ap (scanned file q.from) to ∙ sym b.marks;
          fault = ap (λ k. k.fault) kept;
          number = ap (λ k. k.rows) kept;
          rows = a.rows ∙ ap rows_of c-is ∙ sym b.rows;
          actions = a.actions ∙ ap (λ c. map m.plain (actions_of c)) c-is ∙ sym b.actions;
        }

    -- a run, from its chain and what stands at its end
    pub a-run : (w : Stage P) (asked steps : List Step) (v : Stage P) → map (λ (s : Step). s.call) steps ≡ map (λ (s : Step). s.call) asked → Chain (Faithfully m file) w steps v → Sound m file v.held → Run m file w asked steps v
    a-run w asked steps v calls ran sound = record {
      calls = calls;
      ran = ran;
      pieces = sound.pieces;
      alike = λ k l h i. same_read v.held (nth_piece v.held.job k) (nth_piece v.held.job l) (sound.pieces k h) (sound.pieces l i);
    }

    pub always : (rs : List Row) (ps : List P) (ms : List Match) (steps : List Step) (v : Stage P) → Chain (Does m file) (begun file rs ps ms) steps v → Run m file (begun file rs ps ms) steps steps v
    always rs ps ms steps v d =
        let g = chain (begun file rs ps ms) steps v (sound-begun rs ps ms) d in
        a-run (begun file rs ps ms) steps steps v refl g.0 g.1

pub chain_push : {S X : Type 0} {R : S → X → S → Type 0} {s t u : S} {x : X} {xs : List X} → Chain R s xs t → R t x u → Chain R s (xs ++ (x ∷ [])) u
chain_push none r = more r none
chain_push (more q c) r = more q (chain_push c r)

-- a write of a step keeps its call
pub same-calls : (ss : List Step) (i : ℕ) (d s : Step) → i < length ss → s.call ≡ (get_or ss i d).call → map (λ (x : Step). x.call) (set ss i s) ≡ map (λ (x : Step). x.call) ss
same-calls ss i d s h e =
    map-set (λ (x : Step). x.call) ss i s
    ∙ ap (set (map (λ (x : Step). x.call) ss) i) (e ∙ sym (get_or-map (λ (x : Step). x.call) ss i d s.call h))
    ∙ set-get_or (map (λ (x : Step). x.call) ss) i s.call

-- a job that is opened
pub opened-now : (size : ℕ) (j : State) (r : Result (Unit {0}) Refusal) (v : State) → OpenSays size j r v → r ≡ Ok tt → (asked_open size ≡ None) × (v ≡ opened size)
opened-now size j r v says e = go (asked_open size) refl says
  where
    go : (o : Option Refusal) → asked_open size ≡ o → Turns o (λ why. Refused why j r v) ((r ≡ Ok tt) × (v ≡ opened size)) → (asked_open size ≡ None) × (v ≡ opened size)
    go (Some why) q t = absurd (let x = t.reply in let z : ◌≡◌ {A = ℕ} 0 1 = cc in omega arith)
    go None q t = (q, t.1)
