use Rattle.links.proofs.Terms.{rules, link_script}
use Rattle.links.proofs.Journaled.{gives_noted}
use Rattle.links.proofs.memory_link.MemoryLinkLink.give.Goals as goal

pub returns-clause-shows : goal.returns-clause-shows
returns-clause-shows c = record {
  told = gives_noted (link_script c.args.self.now) c.args.conn c.args.bytes.now _ _ c.play_give-answer.result c.play_give-answer.ensures.answer c.play_give-answer.ensures.journal;
  handed = search rules;
  cause = search rules;
  gives = search rules;
  rest = search rules;
}
