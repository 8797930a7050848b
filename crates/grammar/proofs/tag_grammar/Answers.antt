use Rattle.grammar.proofs.Exactly.{tags_exact, faults_exact, causes_apart}
use Rattle.grammar.proofs.tag_grammar.Goals as goal

pub returns : goal.returns
returns c = record {
  tags = tags_exact;
  faults = faults_exact;
  causes = causes_apart;
}
