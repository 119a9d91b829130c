use Rattle.std.proofs.Common.{rules}
use Rattle.test_rows.proofs.short_link.ShortLinkLink.next.Goals as goal

pub returns-then-self-eq0-clause-shows : goal.returns-then-self-eq0-clause-shows
returns-then-self-eq0-clause-shows g c = record {
  told = search rules;
  order = search rules;
  grammar = search rules;
  last = search rules;
  coming = search rules;
  cause = search rules;
  closing = search rules;
  handed = search rules;
  takes = search rules;
  gives = search rules;
}

pub returns-clause-shows : goal.returns-clause-shows
returns-clause-shows g c = record {
  told = search rules;
  order = search rules;
  grammar = search rules;
  last = search rules;
  coming = search rules;
  cause = search rules;
  closing = search rules;
  handed = search rules;
  takes = search rules;
  gives = search rules;
}
