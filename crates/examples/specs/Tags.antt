-- Worked examples of tags that are read and of tags that are bad.
use Rattle.std.specs.Prelude.{◌≡◌, [], codes}
use Rattle.tags.specs.declared.tag.TagKind.TheVariants.{Start, Empty, End}
use Rattle.tags.specs.declared.tag.Cause.TheVariants.{NoName, NoEquals, NoQuote, Misplaced}
use Rattle.tags.specs.Reads.{tag, fault, read_tag}

abbrev pub TagExamples : Type 0
TagExamples =
    (read_tag (codes "<a b='1'c='2'>") ≡ fault Misplaced 8)
    × (read_tag (codes "<a 1>") ≡ fault Misplaced 3)
    × (read_tag (codes "< a>") ≡ fault NoName 1)
    × (read_tag (codes "<a b>") ≡ fault NoEquals 4)
    × (read_tag (codes "<a b=1>") ≡ fault NoQuote 5)
    × (read_tag (codes "<a b='<'>") ≡ fault NoQuote 6)
    × (read_tag (codes "day") ≡ fault Misplaced 0)
    × (read_tag [] ≡ fault Misplaced 0)
    × (read_tag (codes "<stop id = '7' >at") ≡ tag Start (codes "stop"))
    × (read_tag (codes "<stop/>") ≡ tag Empty (codes "stop"))
    × (read_tag (codes "</stop >") ≡ tag End (codes "stop"))
