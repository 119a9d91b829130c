use Rattle.standby.proofs.Terms.{rules, stage_of}
use Rattle.standby.proofs.HearLemmas.{logs_stage}
use Rattle.standby.proofs.follower.Follower.heed.Goals as goal

pub returns-in_default-clause-keeps : goal.returns-in_default-clause-keeps
returns-in_default-clause-keeps c = record {
  stage = logs_stage c.args.event.now (stage_of c.args.self.now.player) (stage_of c.note.new.self) c.note.result c.note.ensures.logs;
  cpu = c.note.ensures.cpu;
  kept = search rules;
  exited = search rules;
  difference = search rules;
}
