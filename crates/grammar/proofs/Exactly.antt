-- The reader and the grammar, both ways.
use Rattle.std.proofs.Common.{◌≡◌, ℕ, ◌+◌, List, Ok, Err, Result, sym, ap, ◌∙◌, arith}
use Rattle.tags.specs.declared.tag.TagKind.{TagKind}
use Rattle.tags.specs.declared.tag.Cause.{Cause}
use Rattle.tags.specs.declared.tag.TagFault.{TagFault}
use Rattle.tags.specs.Reads.{Outcome, tag, fault, read_tag, placed}
use Rattle.grammar.specs.Laws.{TagsExact, FaultsExact, CausesApart, Told}
use Rattle.grammar.proofs.Runs.{complete}
use Rattle.grammar.proofs.Rests.{sound, same-cause}
use Rattle.grammar.proofs.Firsts.{faults}
use Rattle.grammar.proofs.Places.{causes}
use Rattle.grammar.proofs.Apart.{exact}
use Rattle.grammar.proofs.Pins.{pinned}

pub tags_exact : TagsExact
tags_exact k n xs = (sound k n xs, λ b. ap read_tag b.2 ∙ complete k n b.0 b.1 b.3)

pub faults_exact : FaultsExact
faults_exact c i xs = (λ h. (faults c i xs h, causes c i xs h), pinned c i xs)

pub causes_apart : CausesApart
causes_apart c d p x y = same-cause (sym (exact c p x) ∙ exact d p y)

-- nothing is lost where an outcome is placed
placed-tag : (mark : ℕ) (o : Outcome) (k : TagKind) (n : List ℕ) → placed mark o ≡ Ok (k, n) → o ≡ tag k n
placed-tag mark (tag j m) k n h =
    let e : ◌≡◌ {A = TagKind × List ℕ} (j, m) (k, n) = cc in
    λ l. tag (e l).0 (e l).1
placed-tag mark (fault c i) k n h = cc

placed-fault : (mark : ℕ) (o : Outcome) (c : Cause) (i : ℕ) → placed mark o ≡ Err (record { mark = mark; cause = c; byte = mark + i }) → o ≡ fault c i
placed-fault mark (tag j m) c i h = cc
placed-fault mark (fault d j) c i h =
    let f : ◌≡◌ {A = TagFault} (record { mark = mark; cause = d; byte = mark + j }) (record { mark = mark; cause = c; byte = mark + i }) = cc in
    let b : mark + j ≡ mark + i = ap (λ x. x.byte) f in
    let e : j ≡ i = omega arith in
    λ l. fault (f l).cause (e l)

pub told : (stretch : List ℕ) (mark : ℕ) (r : Result (TagKind × List ℕ) TagFault) → r ≡ placed mark (read_tag stretch) → Told stretch mark r
told xs mark r h = record {
  tags = λ k n. (λ e. sound k n xs (placed-tag mark (read_tag xs) k n (sym h ∙ e)), λ b. h ∙ ap (placed mark) ((tags_exact k n xs).1 b));
  faults = λ c i. (λ e. (faults_exact c i xs).0 (placed-fault mark (read_tag xs) c i (sym h ∙ e)), λ b. h ∙ ap (placed mark) (pinned c i xs b));
}
