use Rattle.std.proofs.Common.{refl}
use Rattle.reading.proofs.Rings.{pushed_room, pushed-full}
use Rattle.reading.proofs.opens.Opens.push.Goals as goal

pub returns-then-self-lt4096 : goal.returns-then-self-lt4096
returns-then-self-lt4096 c = pushed_room c.args.self.now _ c.args.i refl c.after-self.ensures c.if-self-lt4096.true refl refl

pub returns-else-self-lt4096 : goal.returns-else-self-lt4096
returns-else-self-lt4096 c = pushed-full c.args.self.now _ c.args.i refl c.after-self.ensures c.if-self-lt4096.false refl refl
