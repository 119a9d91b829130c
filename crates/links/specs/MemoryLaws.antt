-- The link in memory goes on.
use Rattle.std.specs.Prelude.{◌++◌, []}
use Rattle.std.proofs.Common.{append-nil, append_assoc, refl, sym, ap, ◌∙◌}
use Rattle.links.specs.MemoryLinks.{seen_in, MemoryWent}
use Rattle.links.specs.Seen.{IsSound}
use Rattle.links.specs.TableLaws.{open_gives, open_below}
use Rattle.links.specs.declared.memory_link.MemoryLink.{MemoryLink}

-- what a link in memory shows is sound at each moment
pub memory_sound : (link : MemoryLink) → IsSound (seen_in link)
memory_sound link = record { gives_open = open_gives link.table; below = open_below link.table }

-- a link without a call between has gone on
pub memory_same : (link : MemoryLink) → MemoryWent link link
memory_same link = record { played = refl; grew = ([], append-nil _) }

-- a link that went on twice has gone on
pub memory_on : (first second third : MemoryLink) → MemoryWent first second → MemoryWent second third → MemoryWent first third
memory_on first second third one two = record {
  played = two.played ∙ one.played;
  grew = (one.grew.0 ++ two.grew.0, sym (append_assoc _ one.grew.0 two.grew.0) ∙ ap (λ l. l ++ two.grew.0) one.grew.1 ∙ two.grew.1);
}
