-- What a session gives up: the items and the replies from before the oldest checkpoint.
use Rattle.std.specs.Prelude.{◌≡◌, ◌+◌, ◌<◌, ◌≤◌, List, length, None, IfSome}
use Rattle.item_log.specs.Log.{received}
use Rattle.recovery.specs.Terms.{Entry, oldest_of, Log, Ledger, Image, Override, Path, CpuState, KeepsItems, KeepsReplies, Rules}
use Rattle.recovery.specs.Rings.{KeepsRing}

module _ {R : Type 0} where
  -- There is an oldest checkpoint, no trial is under way, and what lies before the oldest checkpoint was received and sent.
  pub record CanForget (cpu : CpuState R) (log : Log) (ledger : Ledger) : Type 0 where
    pub some : 0 < length cpu.slots.saved
    pub trial : ledger.trial ≡ None
    pub items : IfSome (oldest_of cpu.slots.saved) (λ oldest. oldest.state.guest.machine.taken ≤ received log)
    pub sends : IfSome (oldest_of cpu.slots.saved) (λ oldest. oldest.state.sends ≤ ledger.first + length ledger.kept)

  -- A log and a ledger from which each checkpoint can still begin a trial, and which are right beside the journal.
  pub record Forgets (rules : Rules) (image : Image) (entries : List Entry) (plan : List Override) (now : Path) (paths : List Path) (cpu : CpuState R) (log : Log) (ledger : Ledger) : Type 0 where
    pub ring : KeepsRing rules image entries plan now paths cpu log ledger
    pub items : KeepsItems rules.bounds entries log
    pub replies : KeepsReplies rules.bounds entries None now.state.sends ledger
