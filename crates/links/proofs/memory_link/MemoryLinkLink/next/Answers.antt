use Rattle.links.proofs.Terms.{rules}
use Rattle.links.proofs.Journaled.{takes_noted}
use Rattle.links.proofs.memory_link.MemoryLinkLink.next.Goals as goal

pub returns-clause-shows : goal.returns-clause-shows
returns-clause-shows c = record {
  told = takes_noted _ _ c.play_next-answer.result c.play_next-answer.ensures.journal;
  order = search rules;
  grammar = search rules;
  last = search rules;
  coming = search rules;
  cause = search rules;
  closing = search rules;
  handed = search rules;
  takes = search rules;
  gives = search rules;
}
