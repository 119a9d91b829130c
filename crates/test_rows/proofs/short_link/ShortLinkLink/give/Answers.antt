use Rattle.std.proofs.Common.{rules}
use Rattle.test_rows.proofs.Quiet.{gives_quietly, gives_none}
use Rattle.test_rows.proofs.short_link.ShortLinkLink.give.Goals as goal

pub returns-then-self-eq0-clause-shows : goal.returns-then-self-eq0-clause-shows
returns-then-self-eq0-clause-shows g c = record {
  told = gives_none c.args.conn c.args.bytes.now;
  handed = search rules;
  cause = search rules;
  gives = search rules;
  rest = search rules;
}

pub returns-clause-shows : goal.returns-clause-shows
returns-clause-shows g c = record {
  told = gives_quietly _ _ c.args.conn c.args.bytes.now c.give.result c.give.ensures.shows.told;
  handed = search rules;
  cause = search rules;
  gives = search rules;
  rest = search rules;
}
