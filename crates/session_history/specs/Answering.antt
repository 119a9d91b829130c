-- What a link shows before a session or a replay begins, and why one of them answers a fault of it.
use Rattle.std.specs.Prelude.{◌≡◌, ℕ, ◌≤◌, true}
use Rattle.rx_base.specs.Faults.{Rose}
use Rattle.run_history.specs.declared.answer.Answer.TheVariants as answer
use Rattle.session_history.specs.Terms.{Counts, IsFresh, Seen, Answer}

-- no connection was opened yet, and no call has failed
pub record MayBegin (seen : Seen) : Type 0 where
  pub fresh : IsFresh seen.phases
  pub takes : seen.takes ≡ true
  pub gives : seen.gives ≡ true

-- no count of failed calls of a link falls, and a fault is answered only where its own rose
pub record HasAnswerCause (before now : Counts) (end : Answer) : Type 0 where
  pub takes : before.takes ≤ now.takes
  pub gives : before.gives ≤ now.gives
  pub read_fault : end ≡ answer.ReadFault → Rose before.takes now.takes
  pub write_fault : end ≡ answer.WriteFault → Rose before.gives now.gives

-- how often a bind or an accept has failed, as a link over a listener counts it: no give of it is a fault of writing
abbrev pub port_counts : ℕ → Counts
port_counts faults = record { takes = faults; gives = 0; gones = 0 }
