-- What a link that runs out of memory begins with.
use Rattle.std.specs.Prelude.{◌≡◌, true}
use Rattle.links.specs.Seen.{IsFreshLink}
use Rattle.links.specs.MemoryLinks.{seen_in}
use Rattle.links.specs.declared.memory_link.MemoryLink.{MemoryLink}
use Rattle.test_rows.specs.declared.short_link.ShortLink.{ShortLink}

-- no call was made of the link within, and none ran out of memory
pub record IsFreshShort (short : ShortLink MemoryLink) : Type 0 where
  pub link : IsFreshLink (seen_in short.link)
  pub takes : short.takes ≡ true
  pub gives : short.gives ≡ true
